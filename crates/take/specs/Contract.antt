-- Request L7, what the writer promises: its equations, and that what is written reads back.
use Rattle.std.specs.Prelude.{◌≡◌, List, map, ℕ, take}
use Rattle.common.specs.Answers.{done}
use Rattle.take.specs.Record.{unpacked}
use Rattle.take.specs.Write.{Writing}
use Rattle.take.specs.Open.{Opens}

-- write: the bytes written open as a take with the same comment and records
pub record WritesTake (comment numbers before after : List ℕ) (answer size bad : ℕ) : Type 0 where
  pub writing : Writing comment numbers before after answer size bad
  pub opens : answer ≡ done → Opens (take size after) comment (map unpacked numbers)
