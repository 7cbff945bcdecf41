-- `are_distinct` meets its contract: the rows that are left give what all of them give. Assumes nothing.
use Rattle.std.proofs.Common.{◌+◌, eqb, get_or, drop, ap, ◌∙◌, arith, rules, tests}
use Rattle.std.proofs.lemmas.Iterator.{YieldsList-from_slice}
use Rattle.std.proofs.lemmas.Iterator.Search.{any_from_yields_List}
use Rattle.row.specs.Rows.{unused_row}
use Rattle.ledger.specs.Ledgers.{distinct}
use Rattle.ledger.proofs.PartsOfLists.{from_on}
use Rattle.ledger.proofs.Looking.{alias-any}
use Rattle.ledger.proofs.Checking.{are-apart, all_apart, held-twice, held-once}
use Rattle.ledger.proofs.checks.are_distinct.Goals as goal

pub loop-i-init : goal.loop-i-init
loop-i-init c = are-apart _

pub returns-then-any : goal.returns-then-any
returns-then-any c =
    let alias = (get_or c.held-rows.result.now c.loop-i.i unused_row).alias in
    let rs = c.held-rows.result.now in
    let later = drop (c.loop-i.i + 1) rs in
    held-twice rs c.loop-i.i c.loop-i.invariant unused_row (omega arith) (any_from_yields_List (λ r. eqb r.alias alias) _ _ _ c.any.ensures.ran (YieldsList-from_slice later (c.iter.ensures.rest ∙ from_on rs (c.loop-i.i + 1))) (λ x b q k. search (rules, tests)) ∙ alias-any alias later) c.if-any.true
    ∙ ap distinct c.held-rows.ensures

pub loop-i-preserved : goal.loop-i-preserved
loop-i-preserved c =
    let alias = (get_or c.held-rows.result.now c.loop-i.i unused_row).alias in
    let rs = c.held-rows.result.now in
    let later = drop (c.loop-i.i + 1) rs in
    held-once rs c.loop-i.i c.loop-i.invariant unused_row (omega arith) (any_from_yields_List (λ r. eqb r.alias alias) _ _ _ c.any.ensures.ran (YieldsList-from_slice later (c.iter.ensures.rest ∙ from_on rs (c.loop-i.i + 1))) (λ x b q k. search (rules, tests)) ∙ alias-any alias later) c.if-any.false

pub returns : goal.returns
returns c = all_apart _ _ c.loop-i.invariant (omega arith) ∙ ap distinct c.held-rows.ensures
