-- 01, "Drawing the current line": where the bytes of a character lie.
use Rattle.std.specs.Prelude.{ℕ, ◌+◌, ◌*◌, ◌/◌, ◌%◌}

-- character c of the line with this screen address
abbrev pub character_at : ℕ → ℕ → ℕ
character_at address c = (address + c) % 16384

-- the first of a character's two bytes in this line of its row, and the other one above it
unfoldable pub byte_address : ℕ → ℕ → ℕ → ℕ
byte_address a row half = a / 4096 * 16384 + row * 2048 + a % 1024 * 2 + half

-- the line in the row that is shown: RC and the lines of soft scroll, mod 8
abbrev pub row_line : ℕ → ℕ → ℕ
row_line rc scroll = (rc + scroll) % 8
