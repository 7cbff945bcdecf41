use mathlib.Core.Path.{◌≡◌}
use mathlib.Core.List.{◌++◌}
use lib.ListN.{length, drop}
use Rattle.text.proofs.Decimals.{last_of}
use Rattle.text.proofs.digits.put_number.Given as goal

abbrev pub invariant-loop-i : goal.invariant-loop-i
invariant-loop-i l =
    (length l.out ≡ length l.initial.out) × (last_of l.i l.left ++ drop l.i l.out ≡ last_of l.count l.n ++ drop l.count l.initial.out)
