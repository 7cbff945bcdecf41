-- The first bytes stand at the front, and after them what was there.
use Rattle.std.proofs.Common.{◌≡◌, ◌*◌}
use Rattle.common.proofs.Reaching.{reached}
use Rattle.common.proofs.copying.put_bytes.Given as goal

abbrev pub invariant-loop-i : goal.invariant-loop-i
invariant-loop-i l = l.out ≡ reached l.i l.bytes l.initial.out

abbrev pub invariant-loop-k : goal.invariant-loop-k
invariant-loop-k l = l.out ≡ reached (8 * l.k) l.bytes l.initial.out
