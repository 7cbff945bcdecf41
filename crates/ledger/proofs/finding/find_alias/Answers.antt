-- `find_alias` meets its contract. Assumes nothing.
use Rattle.std.proofs.Common.{eqb, ap, ◌∙◌, rules, tests}
use Rattle.std.proofs.lemmas.Iterator.{YieldsList-from_slice}
use Rattle.std.proofs.lemmas.Iterator.Search.{position_from_yields_List}
use Rattle.ledger.specs.Steps.{alias_of}
use Rattle.ledger.specs.Arrays.{find}
use Rattle.ledger.proofs.Looking.{found}
use Rattle.ledger.proofs.finding.find_alias.Goals as goal

pub returns : goal.returns
returns c =
    let rows = c.held.result.now in
    found alias_of c.args.alias rows (position_from_yields_List (λ r. eqb r.alias c.args.alias) _ _ _ c.position.ensures.ran (YieldsList-from_slice rows cc) (λ x b q k. search (rules, tests)))
    ∙ ap (find alias_of c.args.alias 0) c.held.ensures
