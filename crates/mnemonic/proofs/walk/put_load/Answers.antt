-- The number and its blank, then the digits of the data with the LF behind them.
use Rattle.std.proofs.Common.{append_assoc}
use Rattle.mnemonic.proofs.walk.put_load.Goals as goal

pub returns : goal.returns
returns g c =
    rw append_assoc
    (g.met.S.Sink.joined _ _ _ _ _ c.put_number.ensures (rw (← c.character-high.ensures, ← c.character-low.ensures) c.part.ensures))
