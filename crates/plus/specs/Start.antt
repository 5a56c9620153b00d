-- 02, L9: what start promises: the chip after it; and, while the table that it gives holds, that neither editor is felt by the other.
use Rattle.common.specs.Answers.{done}
use Rattle.editors.specs.declared.Owners.{Owners}
use Rattle.editors.specs.Table.{holding}
use Rattle.chip.specs.declared.Chip.{Chip}
use Rattle.chip.specs.declared.Answered.{Answered}
use Rattle.chip.specs.Promises.{Answers}
use Rattle.chip.specs.Editors.{started}
use Rattle.noninterference.specs.TwoRuns.{Noninterference}

pub record StartTold (c : Chip) (o : Owners) (r : Answered) : Type 0 where
  pub call : Answers done (started c o) c r
  pub apart : Noninterference (holding o)
