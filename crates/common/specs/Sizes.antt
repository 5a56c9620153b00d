-- 01, "The chip we model", and 02, L5: the lengths of the lent buffers.
use Rattle.std.specs.Prelude.{ℕ}

-- RAM
abbrev pub ram_bytes : ℕ
ram_bytes = 65536

-- the sprite pixel store, 16 rows of 16 for each of 16 sprites
abbrev pub store_bytes : ℕ
store_bytes = 4096

-- a drawn line
abbrev pub line_bytes : ℕ
line_bytes = 640

-- the export
abbrev pub export_bytes : ℕ
export_bytes = 477
