-- 01, "Lock and ports": the 6845 registers that are kept, and how many bits of each.
use Rattle.std.specs.Prelude.{Bool, ℕ, ◌%◌, eqb}
use Rattle.common.specs.Choice.{if, either}
use Rattle.crtc.specs.declared.Registers.{Registers}

-- R1, R4, R5, R6, R9, R12 and R13 are kept, and no other
unfoldable pub has_register : ℕ → Bool
has_register n =
    either (eqb n 1)
    (either (eqb n 4)
    (either (eqb n 5) (either (eqb n 6) (either (eqb n 9) (either (eqb n 12) (eqb n 13))))))

-- R1 and R13 keep 8 bits, R4 and R6 7, R5 and R9 5, R12 6; a write to one changes no other
unfoldable pub written : Registers → ℕ → ℕ → Registers
written r n b =
    record {
      r1 = if (eqb n 1) b r.r1;
      r4 = if (eqb n 4) (b % 128) r.r4;
      r5 = if (eqb n 5) (b % 32) r.r5;
      r6 = if (eqb n 6) (b % 128) r.r6;
      r9 = if (eqb n 9) (b % 32) r.r9;
      r12 = if (eqb n 12) (b % 64) r.r12;
      r13 = if (eqb n 13) b r.r13;
    }
