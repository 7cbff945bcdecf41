-- The messages lie within the bytes; the measure is what is left of these.
use Rattle.std.proofs.Common.{◌-◌, ◌≤◌, length}
use Rattle.moqexplain.proofs.streams.print_messages.Given as goal

abbrev pub invariant-loop-end : goal.invariant-loop-end
invariant-loop-end g l = l.used ≤ length l.s

abbrev pub decreases-loop-end : goal.decreases-loop-end
decreases-loop-end g l = length l.s - l.used
