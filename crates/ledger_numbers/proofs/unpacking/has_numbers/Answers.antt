-- `has_numbers` meets its contract. Assumes nothing.
use mathlib.Core.Path.{◌≡◌, ap, ◌∙◌}
use native.Mathlib.Omega.{arith}
use mathlib.Core.List.{List}
use Prim.Native.Nat.{ℕ}
use lib.ListN.{length, take}
use Rattle.ledger.specs.Ledgers.{most_rows}
use Rattle.ledger_numbers.specs.Numbers.{ledger_numbers}
use Rattle.ledger_numbers.specs.Naming.{are_same}
use Rattle.ledger_numbers.proofs.Storing.{numbers-length}
use Rattle.ledger_numbers.proofs.Comparing.{same-slices, own_is}
use Rattle.ledger_numbers.proofs.unpacking.has_numbers.Goals as goal
use Rattle.ledger_numbers.proofs.unpacking.has_numbers.Goals.{Start}

-- there are places for all rows
places : (c : Start) → length c.args.l.rows ≡ most_rows
places c = c.well_formed.0.1.1.0.1.0.1

pub put_ledger-requires : goal.put_ledger-requires
put_ledger-requires c =
    omega (arith, numbers-length c.args.l (places (goal.at.put_ledger-requires c).Start))

pub returns : goal.returns
returns c =
    c.eq.ensures
    ∙ same-slices c.put_ledger.new.out (take ledger_numbers c.args.numbers.now)
    ∙ ap (λ (ns : List ℕ). are_same ns (take ledger_numbers c.args.numbers.now)) (own_is c.args.l (places (goal.at.returns c).Start) c.put_ledger.ensures)
