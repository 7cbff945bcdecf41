use Prim.Native.Nat.{◌-◌}
use lib.ListN.{length}
use Rattle.answers.proofs.WholeText.{Along}
use Rattle.answers.proofs.writing.pass.Given as goal

abbrev pub invariant-loop-told : goal.invariant-loop-told
invariant-loop-told l = Along l.s l.room l.initial.out l.out l.at l.progress l.used

abbrev pub decreases-loop-told : goal.decreases-loop-told
decreases-loop-told l = length l.s - l.used
