use Prim.Native.Nat.{◌-◌}
use mathlib.Core.Path.{◌≡◌}
use Rattle.columns.specs.Columns.{spaces}
use Rattle.columns.specs.Pouring.{filling, pour}
use Rattle.columns.proofs.bytes.put_spaces.Given as goal

abbrev pub invariant-loop-i : goal.invariant-loop-i
invariant-loop-i l = pour (filling l.out l.end) (spaces (l.count - l._i)) ≡ pour (filling l.initial.out l.at) (spaces l.count)
