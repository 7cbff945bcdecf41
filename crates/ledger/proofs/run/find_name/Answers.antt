-- `find_name` meets its contract. Assumes nothing.
use Rattle.std.proofs.Common.{eqb, rules, tests}
use Rattle.std.proofs.lemmas.Iterator.{YieldsList-from_slice}
use Rattle.std.proofs.lemmas.Iterator.Search.{position_from_yields_List}
use Rattle.ledger.specs.Runs.{itself}
use Rattle.ledger.proofs.Looking.{found}
use Rattle.ledger.proofs.run.find_name.Goals as goal

pub returns : goal.returns
returns c =
    let names = c.args.names.now in
    found itself c.args.alias names (position_from_yields_List (λ n. eqb n c.args.alias) _ _ _ c.position.ensures.ran (YieldsList-from_slice names cc) (λ x b q k. search (rules, tests)))
