-- The code's own: what its passes over the words in use give. No public promise cites it.
use Rattle.std.specs.Prelude.{◌≡◌, Bool, List, [], ◌∷◌, map, ℕ, ◌+◌, ◌*◌, eqb, length, get_or, Result, Ok, Err}
use Rattle.std.proofs.lemmas.List.Edits.{sets}
use Rattle.common.specs.Choice.{if}
use Rattle.common.specs.declared.answer.Refusal.{Refusal}
use Rattle.common.specs.Refusals.{number}
use Rattle.words.specs.Words.{has_stop}
use Rattle.mend.specs.Rule.{stop, mended, changes_from, numbers_of}
use Rattle.mend.specs.declared.Change.{Change}
use Rattle.mend.specs.declared.Mended.{Mended}

-- the change of a word at a place; it is one if mending changes the word, else none
abbrev pub change : ℕ → ℕ → Change
change place w = record { place = place; old = w; new = mended w }

abbrev pub change_of : ℕ → ℕ → List Change
change_of place w = if (eqb (mended w) w) [] (change place w ∷ [])

-- the added STOP as a change
abbrev pub added : List ℕ → ℕ → Change
added buffer used = record { place = used; old = get_or buffer used 0; new = stop }

-- what a call gives by what it has come to: a refused one gives its number alone
abbrev pub refusal : ℕ → Mended
refusal number = record { answer = number; used = 0; changes = 0 }

abbrev pub told : Result Mended Refusal → Mended
told (Ok mended) = mended
told (Err refused) = refusal (number refused)

-- the pass that measures: how many of some words change, and whether a STOP stands among them
pub record Sees (words : List ℕ) (changes : ℕ) (stop : Bool) : Type 0 where
  pub changing : changes ≡ length (changes_from 0 words)
  pub stopping : stop ≡ has_stop words

-- one word, of a place, mended where it stands and reported behind so many changes
pub record MendsWord (word place : ℕ) (report : List ℕ) (count word' : ℕ) (report' : List ℕ) (next : ℕ) : Type 0 where
  pub mending : word' ≡ mended word
  pub told : report' ≡ sets report (count * 2) (numbers_of (change_of place word))
  pub counted : next ≡ count + length (change_of place word)

-- the pass that writes: the words, and their changes from the report's start on
pub record MendsWords (words report words' report' : List ℕ) : Type 0 where
  pub mending : words' ≡ map mended words
  pub told : report' ≡ sets report 0 (numbers_of (changes_from 0 words))
