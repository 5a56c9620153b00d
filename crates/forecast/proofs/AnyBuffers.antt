-- Demand 3 lets any buffers be lent at any call: it holds of calls that hand on the chip alone, each with buffers of its own.
use mathlib.Core.Path.{◌≡◌, refl}
use mathlib.Core.List.{List, [], ◌∷◌}
use Prim.Native.Nat.{ℕ, ◌<◌}
use Rattle.chip.specs.declared.Chip.{Chip}
use Rattle.chip.proofs.ChannelLaws.{aside_self}
use Rattle.runs.specs.World.{Buffers, World}
use Rattle.runs.specs.Run.{Made, Each}
use Rattle.runs.proofs.Free.{Free, with, lent, lends, each_lent}
use Rattle.forecast.specs.Rule.{even}
use Rattle.forecast.specs.Demand.{channel, Ready, steps_of, Allowed, Foretold, Demand}

-- lending steps no line
same-steps : (es : List Made) (w : World) → steps_of (lent w es) ≡ steps_of es
unfolding lent
same-steps [] w = refl
same-steps (e ∷ es) w = rw (same-steps es e.after)

pub any_buffers :
    {ram : List ℕ} {start prescale lines cycles most : ℕ} → Demand ram start prescale lines cycles most →
    (n : ℕ) → n < 3 → {c d : Chip} {es : List Made} → Ready start prescale (channel c n) → (b : Buffers) → Free c es d →
    Each (Allowed n ram (even start)) es → Foretold lines cycles most n (steps_of es)
any_buffers {ram} {start} {lines = lines} {cycles = cycles} {most = most} demand n h {c} {es = es} ready b free ok =
    let l = lends b free in
    let f : Foretold lines cycles most n (steps_of (lent (with c b) es)) =
    demand.foretold n h (with c b) l.last (lent (with c b) es) ready l.run
    (each_lent (Allowed n ram (even start)) (λ w d z. (aside_self (channel w.chip n)).alone) es (with c b) ok) in
    rw (same-steps es (with c b)) at f
