use mathlib.Core.Path.{◌≡◌}
use lib.ListN.{drop}
use Rattle.columns.specs.Columns.{hex_after, hex_bytes}
use Rattle.columns.specs.Pouring.{filling, pour}
use Rattle.columns.proofs.hexadecimal.put_hex.Given as goal

abbrev pub invariant-loop-b : goal.invariant-loop-b
invariant-loop-b l = pour (filling l.out l.end) (hex_after (drop l.b-index l.others)) ≡ pour (filling l.fn.out l.at) (hex_bytes l.s)
