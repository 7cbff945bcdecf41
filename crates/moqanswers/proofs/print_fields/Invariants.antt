-- The fields lie within the bytes; the measure is what is left of these.
use Rattle.std.proofs.Common.{◌-◌, ◌≤◌, length}
use Rattle.moqanswers.proofs.print_fields.Given as goal

abbrev pub invariant-loop-told : goal.invariant-loop-told
invariant-loop-told g l = l.used ≤ length l.s

abbrev pub decreases-loop-told : goal.decreases-loop-told
decreases-loop-told g l = length l.s - l.used
