-- `add` meets its contract. Assumes nothing.
use mathlib.Core.Path.{sym, ◌∙◌}
use native.Mathlib.Omega.{arith}
use Rattle.ledger.proofs.Facts.{parts, ledger-used}
use Rattle.ledger.proofs.CodePaths.{not-higher, not_lower, alias-held, is-full, is-added}
use Rattle.ledger.proofs.subscribing.add.Goals as goal

pub returns-then-m-l : goal.returns-then-m-l
returns-then-m-l c = not-higher _ c.requires _ c.if-m-l.true c.breaks.ensures

pub returns-then-m-l-2 : goal.returns-then-m-l-2
returns-then-m-l-2 c = not_lower _ c.requires _ c.if-m-l.false c.if-m-l-2.true c.breaks-then-m-l-2.ensures

pub find_alias-requires : goal.find_alias-requires
find_alias-requires c = ledger-used _ c.requires

pub returns-then-is_some : goal.returns-then-is_some
returns-then-is_some c =
    alias-held _ c.requires _ c.if-m-l.false c.if-m-l-2.false c.find_alias.ensures (sym c.is_some.ensures ∙ c.if-is_some.true) c.breaks-then-is_some.ensures

pub returns-then-l : goal.returns-then-l
returns-then-l c =
    rw c.answers.ensures (is-full _ c.requires _ c.if-m-l.false c.if-m-l-2.false c.find_alias.ensures (sym c.is_some.ensures ∙ c.if-is_some.false) c.if-l.true)

pub with_last-requires : goal.with_last-requires
with_last-requires c = (omega (arith, (parts _ c.requires).within.few), rw c.pending.ensures c.if-m-l-2.false)

pub returns : goal.returns
returns c =
    rw c.answers-2.ensures (is-added _ c.requires _ c.if-m-l.false c.if-m-l-2.false c.find_alias.ensures (sym c.is_some.ensures ∙ c.if-is_some.false) c.if-l.false c.asked.ensures c.pending.ensures c.with_last.ensures)
