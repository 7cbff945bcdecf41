use Prim.Native.Nat.{◌≤◌}
use mathlib.Core.Path.{◌≡◌}
use mathlib.Core.List.{◌++◌}
use lib.ListN.{length, drop}
use Rattle.integer.specs.Integer.{bytes_of}
use Rattle.integer.proofs.writer.put.Given as goal

abbrev pub invariant-loop-i : goal.invariant-loop-i
invariant-loop-i l =
    (l.i ≤ l.width) × (length l.out ≡ length l.initial.out) × (bytes_of l.i l.left ++ drop l.i l.out ≡ bytes_of l.width l.m ++ drop l.width l.initial.out)

abbrev pub decreases-loop-i : goal.decreases-loop-i
decreases-loop-i l = l.i
