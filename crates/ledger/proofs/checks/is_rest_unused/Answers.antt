-- `is_rest_unused` meets its contract. Assumes nothing.
use Rattle.std.proofs.Common.{◌≡◌, arith, drop, length, ◌∙◌, rules, tests}
use Rattle.std.proofs.lemmas.Iterator.{YieldsList-from_slice}
use Rattle.std.proofs.lemmas.Iterator.Search.{all_from_yields_List}
use Rattle.row.specs.Rows.{is_unused}
use Rattle.ledger.specs.Ledgers.{most_rows}
use Rattle.ledger.proofs.PartsOfLists.{from_on}
use Rattle.ledger.proofs.Looking.{unused-all}
use Rattle.ledger.proofs.checks.is_rest_unused.Goals as goal

pub returns : goal.returns
returns c =
    let rest = drop c.args.l.now.used c.args.l.now.rows in
    let e : length c.args.l.now.rows ≡ most_rows = omega arith in
    all_from_yields_List is_unused _ _ _ c.all.ensures.ran (YieldsList-from_slice rest (c.iter.ensures.rest ∙ rw e at (from_on c.args.l.now.rows c.args.l.now.used))) (λ x b q k. search (rules, tests)) ∙ unused-all rest
