-- What is left always lies within the buffer.
use Rattle.std.proofs.Common.{◌≤◌, length}
use Rattle.moqanswers.proofs.print_trace.Given as goal

abbrev pub invariant-loop : goal.invariant-loop
invariant-loop g l = l.left ≤ length l.buffer
