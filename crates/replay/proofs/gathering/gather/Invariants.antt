use Rattle.replay.specs.Gathering.{Gathers}
use Rattle.replay.proofs.gathering.gather.Given as goal

abbrev pub invariant-loop-count : goal.invariant-loop-count
invariant-loop-count l = Gathers l.s l.at (record { count = l.count; end = l.end }) l.initial.run l.run
