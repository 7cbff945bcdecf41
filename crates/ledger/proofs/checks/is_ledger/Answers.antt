-- `is_ledger` meets its contract: the rows in use fit where the numbers are in bounds. Assumes nothing.
use mathlib.Core.Path.{sym, ◌∙◌}
use Rattle.ledger.proofs.Facts.{few-used}
use Rattle.ledger.proofs.checks.is_ledger.Goals as goal

pub do_rise-requires : goal.do_rise-requires
do_rise-requires c = few-used _ (sym c.is_bounded.ensures ∙ c.if-not-is_bounded.false)

pub are_distinct-requires : goal.are_distinct-requires
are_distinct-requires c = few-used _ (sym c.is_bounded.ensures ∙ c.if-not-is_bounded.false)

pub is_rest_unused-requires : goal.is_rest_unused-requires
is_rest_unused-requires c = few-used _ (sym c.is_bounded.ensures ∙ c.if-not-is_bounded.false)
