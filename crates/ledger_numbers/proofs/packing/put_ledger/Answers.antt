-- `put_ledger` meets its contract: its own numbers are stored, and the rows are put after them. Assumes nothing.
use native.Mathlib.Omega.{arith}
use mathlib.Core.Path.{sym}
use lib.ListN.{length-take}
use lib.Seq.{length-take-le}
use Rattle.ledger_numbers.specs.Numbers.{numbers_of}
use Rattle.ledger_numbers.proofs.Storing.{rows_fit, ledger-put}
use Rattle.ledger_numbers.proofs.packing.put_ledger.Goals as goal

pub slice_bounds-copy_from_slice-end : goal.slice_bounds-copy_from_slice-end
unfolding numbers_of
slice_bounds-copy_from_slice-end c = omega arith

pub slice_bounds-copy_from_slice-end-2 : goal.slice_bounds-copy_from_slice-end-2
unfolding numbers_of
slice_bounds-copy_from_slice-end-2 c = sym (length-take-le 6 c.args.out.now (omega arith))

pub copy_from_slice-requires : goal.copy_from_slice-requires
unfolding numbers_of
copy_from_slice-requires c = rw length-take (omega arith)

pub put_rows-requires : goal.put_rows-requires
put_rows-requires c =
    rows_fit c.args.l.now c.part_number.ensures c.session_number.ensures c.args.out.now c.requires c.copy_from_slice.ensures.after

pub returns : goal.returns
returns c =
    ledger-put c.args.l.now c.part_number.ensures c.session_number.ensures c.args.out.now c.requires c.copy_from_slice.ensures.after c.put_rows.ensures
