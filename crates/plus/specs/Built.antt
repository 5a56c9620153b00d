-- What the library tells a host of itself, so that the host can see that it was made for another one.
use Rattle.std.specs.Prelude.{◌≡◌, ℕ}
use Rattle.plus.specs.declared.PlusBuilt.{PlusBuilt}

-- the version, major, minor and patch as 10,000 times the first, 100 times the second and the third: 0.14.0
abbrev pub library_version : ℕ
library_version = 1400

-- the bytes of a chip in C; the language has no word for the size of a struct, and tests in C and in Rust hold this to it
abbrev pub state_bytes : ℕ
state_bytes = 280

pub record Built (r : PlusBuilt) : Type 0 where
  pub version : r.version ≡ library_version
  pub state : r.state ≡ state_bytes
