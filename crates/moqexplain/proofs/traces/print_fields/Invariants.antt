-- The fields lie within the bytes; the measure is what is left of these.
use Rattle.std.proofs.Common.{◌-◌, ◌≤◌, length}
use Rattle.moqexplain.proofs.traces.print_fields.Given as goal

abbrev pub invariant-loop-taken : goal.invariant-loop-taken
invariant-loop-taken g l = l.used ≤ length l.s

abbrev pub decreases-loop-taken : goal.decreases-loop-taken
decreases-loop-taken g l = length l.s - l.used
