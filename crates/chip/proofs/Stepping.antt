-- A line of the chip, by whether it is served.
use Rattle.sound.proofs.Laws.{line-cycles}

pub ruleset stepping = line-cycles
