-- Request L1, what print and read promise: their equations, and that each gives back what the other took.
use Rattle.std.specs.Prelude.{◌≡◌, List, ℕ, ◌≤◌, length, take}
use Rattle.common.specs.Answers.{done}
use Rattle.listing.specs.Print.{Printing}
use Rattle.listing.specs.Read.{Reading}

-- a call is served with a list: the number told is its length, and the buffer begins with it
pub record Serves (list after : List ℕ) (answer number : ℕ) : Type 0 where
  pub answered : answer ≡ done
  pub told : number ≡ length list
  pub first : take number after ≡ list

-- whoever reads a text into a buffer with room for these words is served with them; of the reading no more is known than its equations
pub record ReadsBack (text words : List ℕ) : Type 0 where
  pub back :
      {before after : List ℕ} {answer count line : ℕ} →
      Reading text before after answer count line → length words ≤ length before → Serves words after answer count

-- whoever prints words into a buffer with room for this text is served with it; of the printing no more is known than its equations
pub record PrintsBack (words text : List ℕ) : Type 0 where
  pub back :
      {before after : List ℕ} {answer size : ℕ} →
      Printing words before after answer size → length text ≤ length before → Serves text after answer size

-- print: what is printed reads back as the same words
pub record PrintsWords (words before after : List ℕ) (answer size : ℕ) : Type 0 where
  pub printing : Printing words before after answer size
  pub reads-back : answer ≡ done → ReadsBack (take size after) words

-- read: a text that is accepted prints back, so no other is than those that print can write
pub record ReadsText (text before after : List ℕ) (answer count line : ℕ) : Type 0 where
  pub reading : Reading text before after answer count line
  pub prints-back : answer ≡ done → PrintsBack (take count after) text
