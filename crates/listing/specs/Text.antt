-- Request L1: the text of a list, and what a text reads as.
use Rattle.std.specs.Prelude.{◌≡◌, List, [], ◌∷◌, ◌++◌, ℕ, ◌<◌, eqb}
use Rattle.std.specs.List.{flat_map}
use Rattle.common.specs.Choice.{if}
use Rattle.mnemonic.specs.Mnemonic.{text_line, lf}

-- the lines of the words, one after another
abbrev pub text_of : List ℕ → List ℕ
text_of words = flat_map text_line words

-- each is a word of 16 bits
abbrev pub Words : List ℕ → Type 0
Words [] = Unit {0}
Words (w ∷ ws) = (w < 65536) × Words ws

-- the first line of a text: up to its first LF and with it, or all of a text that has none
abbrev pub first_line : List ℕ → List ℕ
first_line [] = []
first_line (x ∷ xs) = if (eqb x lf) (x ∷ []) (x ∷ first_line xs)

-- a text begins with no word's line: its first line, of which the empty text has none, is no word's (laws first-line-bad and
-- bad-first-line)
abbrev pub NoLine : List ℕ → Type 0
NoLine rest = (w : ℕ) (more : List ℕ) → w < 65536 → rest ≡ text_line w ++ more → ⊥

-- a text is the lines of some words, then what begins with no word's line. For every text there is one such list of words
-- and one such rest (laws parses and parsed-once)
pub record Parsed (text words rest : List ℕ) : Type 0 where
  pub whole : text ≡ text_of words ++ rest
  pub each : Words words
  pub stops : NoLine rest
