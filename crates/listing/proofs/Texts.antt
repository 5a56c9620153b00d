-- The text of words, one more word at a time: its size, whether it has room, and what is written.
use Rattle.std.proofs.Common.{◌≡◌, ℕ, ◌+◌, ◌<◌, ◌≤◌, List, [], ◌∷◌, ◌++◌, length, take, get_or, arith, length-append, append-nil}
use Rattle.std.proofs.lemmas.Grind.{flat_map-append}
use Rattle.std.proofs.lemmas.List.{take_more}
use Rattle.std.proofs.lemmas.List.Folds.{length-flat_map-take}
use Rattle.common.specs.Storing.{Puts, PutsIfRoom}
use Rattle.common.proofs.Storing.{then-put, had-room}
use Rattle.mnemonic.specs.Mnemonic.{text_line}
use Rattle.mnemonic.proofs.Lines.{some}
use Rattle.listing.specs.Text.{text_of}

-- a text has a byte at least for each word
pub size-least : (ws : List ℕ) → length ws ≤ length (text_of ws)
size-least [] = omega arith
size-least (w ∷ ws) = simp length-append (omega (arith, some w, size-least ws))

module _ (ws : List ℕ) (i : ℕ) (h : i < length ws) where
  -- one word more
  pub text_more : text_of (take (i + 1) ws) ≡ text_of (take i ws) ++ text_line (get_or ws i 0)
  text_more = rw (take_more ws i 0 h, flat_map-append, append-nil)

  pub size-more : length (text_of (take (i + 1) ws)) ≡ length (text_of (take i ws)) + length (text_line (get_or ws i 0))
  size-more = rw (text_more, length-append)

  -- its text is no longer than that of all
  pub size-within : length (text_of (take i ws)) + length (text_line (get_or ws i 0)) ≤ length (text_of ws)
  size-within = length-flat_map-take text_line ws i 0 h

  -- the text of the first words is written; then that of one more
  pub written-more :
      {l out after : List ℕ} {at next : ℕ} → Puts l 0 (text_of (take i ws)) out at → length (text_of ws) ≤ length out →
      PutsIfRoom out at (text_line (get_or ws i 0)) after next → Puts l 0 (text_of (take (i + 1) ws)) after next
  written-more k room p = rw text_more (then-put k (had-room p (omega (arith, k.place, size-within))))

-- one word more in a room
pub ruleset room_steps = (size-more, size-within)
