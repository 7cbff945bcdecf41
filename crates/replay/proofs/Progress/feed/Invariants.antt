use Rattle.std.proofs.Common.{◌-◌, length}
use Rattle.replay.proofs.FieldSteps.{Ahead}
use Rattle.replay.proofs.Progress.feed.Given as goal

abbrev pub invariant-loop-fed : goal.invariant-loop-fed
invariant-loop-fed l = Ahead l.initial.progress l.s l.run l.answers l.progress l.used

abbrev pub decreases-loop-fed : goal.decreases-loop-fed
decreases-loop-fed l = length l.s - l.used
