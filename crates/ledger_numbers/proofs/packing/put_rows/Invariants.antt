use lib.ListN.{drop}
use Rattle.common.proofs.PutLoop.{Going}
use Rattle.ledger_numbers.specs.Numbers.{numbers_of_rows}
use Rattle.ledger_numbers.proofs.packing.put_rows.Given as goal

abbrev pub invariant-loop-row : goal.invariant-loop-row
invariant-loop-row l =
    Going (numbers_of_rows l.fn.rows) l.initial.out l.out l.at (numbers_of_rows (drop l.row-index l.fn.rows))
