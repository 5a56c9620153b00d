-- What the calls promise over runs beside their own promises.
use Rattle.muting.proofs.Claim.{muting}
use Rattle.noninterference.proofs.Claim.{noninterference}
use Rattle.lists_kept.proofs.Sessions.{keeps-lists}
use Rattle.lists_kept.proofs.Claim.{rule-keeps}

pub ruleset over_runs = (muting, noninterference, keeps-lists, rule-keeps)
