use mathlib.Core.Path.{◌≡◌}
use lib.ListN.{drop}
use Rattle.columns.specs.Pouring.{filling, pour}
use Rattle.columns.proofs.bytes.put_bytes.Given as goal

abbrev pub invariant-loop-b : goal.invariant-loop-b
invariant-loop-b l = pour (filling l.out l.end) (drop l.b-index l.s) ≡ pour (filling l.initial.out l.at) l.s
