-- `keep` meets its contract. Assumes nothing.
use Prim.Native.Nat.{◌≤◌}
use mathlib.Core.Path.{◌≡◌}
use native.Mathlib.Omega.{arith}
use borrow.Author.Tests.{eq-eqb, ne_eqb, lt-leb, le-leb}
use lib.ListN.{length}
use Rattle.ledger.specs.Ledgers.{most_rows}
use Rattle.ledger_numbers.specs.Numbers.{numbers_of}
use Rattle.ledger_numbers.specs.Naming.{kept_in}
use Rattle.ledger_numbers.proofs.Storing.{numbers-length}
use Rattle.ledger_numbers.proofs.packing.keep.Goals as goal
use Rattle.ledger_numbers.proofs.packing.keep.Goals.{Start, else-next-ne0-via-then-next-ne0+else-numbers-ge-LEDGER_NUMBERS, else-next-ne0-via-else-next-ne0}

-- there are places for all rows
places : (c : Start) → length c.args.next.rows ≡ most_rows
places c = c.well_formed.1.0.1.1.0.1.0.1

pub put_ledger-requires : goal.put_ledger-requires
put_ledger-requires c =
    omega (arith, numbers-length c.args.next (places (goal.at.put_ledger-requires c).Start))

pub returns-then-numbers-ge-LEDGER_NUMBERS : goal.returns-then-numbers-ge-LEDGER_NUMBERS
unfolding kept_in
returns-then-numbers-ge-LEDGER_NUMBERS c =
    let h : length (numbers_of c.args.next) ≤ length c.args.numbers.now = omega (arith, numbers-length c.args.next (places (goal.at.returns-then-numbers-ge-LEDGER_NUMBERS c).Start)) in
    rw (ne_eqb _ _ c.if-next-ne0.true, le-leb _ _ h) c.put_ledger.ensures.holds

pub returns-else-next-ne0 : goal.returns-else-next-ne0
unfolding kept_in
returns-else-next-ne0 c =
    let long = numbers-length c.args.next (places (goal.at.returns-else-next-ne0 c).Start) in
    elim c.else-next-ne0.branch [
      | else-next-ne0-via-then-next-ne0+else-numbers-ge-LEDGER_NUMBERS w ↦ rw (ne_eqb _ _ w.if-next-ne0.true, long, lt-leb _ _ w.if-numbers-ge-LEDGER_NUMBERS.false)
      | else-next-ne0-via-else-next-ne0 w ↦ rw (eq-eqb _ _ w.if-next-ne0.false)
    ]
