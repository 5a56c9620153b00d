-- The claims over sessions and removals.
use Rattle.lists_kept.specs.InUse.{RuleKeeps}
use Rattle.lists_kept.proofs.Plays.{stays_in_use}
use Rattle.lists_kept.proofs.Enters.{freed-enters}

pub rule-keeps : RuleKeeps
rule-keeps =
    record {
      in_use = λ {begun} {w} n k h session begins run spares f. stays_in_use n h k w begins session run spares f;
      freed = λ n k h reached made z enabled run alone. freed-enters n k h reached made z enabled run alone;
    }
