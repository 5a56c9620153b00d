-- The runner's orders: what each letter asks for.
use Rattle.std.specs.Prelude.{List, ℕ, eqb}
use Rattle.common.specs.Choice.{if}
use Rattle.editors.specs.declared.Editor.TheVariants.{Song, Picture}
use Rattle.runs.specs.Call.{bc, bd, gate, read, write, undo, ack, remove}
use Rattle.calls.specs.Orders.{Running, Act, calls, pokes, waits, starts, gives, places, resets, exports, hears, shows, foretells, unknown, accesses_in, mute_by, shown, Does}
use Rattle.orders.specs.declared.Order.{Order}

-- by the letter, with the address and the value: B, D and G write to BCxx, the 6845's data port and 7Fxx; W writes to the page, R reads
-- it, U takes a write back, for the song editor, and w, r, u for the picture editor; A acknowledges; L and P both draw the current line
-- into 640 bytes and step it, and P shows it; E exports, F forecasts, M changes a byte of RAM, T has a byte wait, S starts; N gives the
-- area, K places a list, X removes the list whose handle is the value; Q mutes the channel of the address, or has it heard again, by the
-- value; H shows the PSG's registers; Z resets
abbrev pub act_of : ℕ → ℕ → ℕ → Act
act_of op a value =
    if (eqb op 66) (calls (bc value))
    (if (eqb op 68) (calls (bd value))
    (if (eqb op 71) (calls (gate value))
    (if (eqb op 87) (calls (write Song a value))
    (if (eqb op 119) (calls (write Picture a value))
    (if (eqb op 82) (calls (read Song a value))
    (if (eqb op 114) (calls (read Picture a value))
    (if (eqb op 85) (calls (undo Song))
    (if (eqb op 117) (calls (undo Picture))
    (if (eqb op 69) exports
    (if (eqb op 65) (calls ack)
    (if (eqb op 76) (calls (shown (accesses_in value)))
    (if (eqb op 80) (shows (accesses_in value))
    (if (eqb op 70) (foretells a value)
    (if (eqb op 77) (pokes a value)
    (if (eqb op 84) (waits a value)
    (if (eqb op 83) starts
    (if (eqb op 78) gives
    (if (eqb op 75) (places a value)
    (if (eqb op 88) (calls (remove value))
    (if (eqb op 81) (calls (mute_by a value))
    (if (eqb op 72) hears
    (if (eqb op 90) resets unknown))))))))))))))))))))))

-- what serving an order promises
pub record Serves (s : Running) (o : Order) (s' : Running) (before : List ℕ) (at : ℕ) (after : List ℕ) (at' : ℕ) : Type 0 where
  pub does : Does s (act_of o.op o.address o.value) s' before at after at'
