-- 01, "Lock and ports": a run from reset, and the bytes written to BCxx on the way.
use Rattle.std.specs.Prelude.{List, [], ◌∷◌, ℕ}
use Rattle.chip.specs.Reset.{Reset}
use Rattle.runs.specs.World.{World}
use Rattle.runs.specs.Call.{Typed}
use Rattle.runs.specs.Sort.{Sort, feeds, writes, undoes, steps_line, starts, lends, plain, sort_of}
use Rattle.runs.specs.Run.{Made, Run, Each}

-- a run from the chip that reset gives, with any buffers, each call served or refused, to a world
pub record Reached (start : World) (log : List Made) (w : World) : Type 0 where
  pub fresh : Reset start.chip
  pub run : Run start log w
  pub typed : Each (λ e. Typed e.asks) log

-- the bytes since reset, newest first, after a call: a BCxx write adds its byte
abbrev pub fed_by : Sort → List ℕ → List ℕ
fed_by (feeds b) h = b ∷ h
fed_by (writes e a b) h = h
fed_by (undoes e) h = h
fed_by (steps_line a) h = h
fed_by (starts o) h = h
fed_by (lends l) h = h
fed_by plain h = h

-- and after a run
abbrev pub fed_over : List Made → List ℕ → List ℕ
fed_over [] h = h
fed_over (e ∷ es) h = fed_over es (fed_by (sort_of e.asks) h)
