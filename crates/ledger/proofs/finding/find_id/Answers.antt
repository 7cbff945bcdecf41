-- `find_id` meets its contract. Assumes nothing.
use Rattle.std.proofs.Common.{eqb, ap, ◌∙◌, rules, tests}
use Rattle.std.proofs.lemmas.Iterator.{YieldsList-from_slice}
use Rattle.std.proofs.lemmas.Iterator.Search.{position_from_yields_List}
use Rattle.ledger.specs.Steps.{id_of}
use Rattle.ledger.specs.Arrays.{find}
use Rattle.ledger.proofs.Looking.{found}
use Rattle.ledger.proofs.finding.find_id.Goals as goal

pub returns : goal.returns
returns c =
    let rows = c.held.result.now in
    found id_of c.args.id rows (position_from_yields_List (λ r. eqb r.id c.args.id) _ _ _ c.position.ensures.ran (YieldsList-from_slice rows cc) (λ x b q k. search (rules, tests)))
    ∙ ap (find id_of c.args.id 0) c.held.ensures
