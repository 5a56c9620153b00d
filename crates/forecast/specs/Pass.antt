-- Serves only the code's walks over the words, in the contracts of private functions. No public promise cites it: what a
-- list costs and where it ends is said by Rule alone.
use Rattle.std.specs.Prelude.{ℕ, ◌+◌, ◌*◌, ◌^◌, ◌≤◌}
use Rattle.common.specs.Choice.{if}
use Rattle.sound.specs.declared.Access.TheVariants.{Off, PsgWrite}
use Rattle.forecast.specs.declared.Scan.{Scan}
use Rattle.forecast.specs.declared.Sums.{Sums}
use Rattle.words.specs.Words.{repeats, loops, stops}
use Rattle.forecast.specs.Rule.{lines_of, cycles_of, open_count}

-- the sums with one more word of this cost, where the open count is k
unfoldable pub added : ℕ → ℕ → ℕ → Sums → Sums
added w k cost s =
    if (stops w) (record { total = s.total + cost; since = s.since + cost })
    (if (loops w) (record { total = s.total + cost + k * (s.since + cost); since = 0 })
    (if (repeats w) (record { total = s.total + cost; since = 0 })
    (record { total = s.total + cost; since = s.since + cost })))

-- the scan with one more word
abbrev pub passed : ℕ → ℕ → Scan → Scan
passed prescale w s =
    record {
      lines = added w s.count (lines_of prescale w) s.lines;
      cycles = added w s.count (cycles_of Off w) s.cycles;
      most = added w s.count (cycles_of PsgWrite w) s.most;
      count = open_count s.count w;
    }

-- sums to which one more word can be added, whatever it is
pub record Room (s : Sums) : Type 0 where
  pub since : s.since + 2 ^ 20 ≤ 2 ^ 35
  pub total : s.total ≤ 2 ^ 62

-- and so a scan
pub record Open (s : Scan) : Type 0 where
  pub lines : Room s.lines
  pub cycles : Room s.cycles
  pub most : Room s.most
  pub count : s.count ≤ 4095
