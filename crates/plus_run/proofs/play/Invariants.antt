-- The runner is ready for the next block.
use Rattle.plus_run.specs.Blocks.{Ready}
use Rattle.plus_run.proofs.play.Given as goal

abbrev pub invariant-loop : goal.invariant-loop
invariant-loop g l = Ready l.m
