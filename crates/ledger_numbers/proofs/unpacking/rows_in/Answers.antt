-- `rows_in` meets its contract: each row is the one that its numbers name. Assumes nothing.
use Rattle.std.proofs.Common.{◌∙◌, get_or, [], rules, arith}
use Rattle.ledger.specs.Ledgers.{most_rows}
use Rattle.ledger_numbers.specs.Numbers.{own_numbers}
use Rattle.ledger_numbers.specs.Naming.{row_named}
use Rattle.ledger_numbers.proofs.FromFn.{from_calls}
use Rattle.ledger_numbers.proofs.RowsNamed.{all-named, row-cut}
use Rattle.ledger_numbers.proofs.unpacking.rows_in.Goals as goal

pub returns : goal.returns
returns c =
    let parts = c.as_chunks.result.0.now in
    all-named most_rows c.args.numbers.now own_numbers c.from_fn.result c.from_fn.ensures.items.long (λ i d h.
    from_calls (λ j. row_named (get_or parts j []) 0) _ c.from_fn.result (λ j y q k. search rules) 0 most_rows c.from_fn.ensures.items.each i d (omega arith) h
    ∙ row-cut c.args.numbers.now i parts c.requires c.as_chunks.ensures.front h)
