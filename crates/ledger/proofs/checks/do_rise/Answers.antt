-- `do_rise` meets its contract: the rows that are left give what all of them give. Assumes nothing.
use mathlib.Core.Path.{ap, ◌∙◌}
use native.Mathlib.Omega.{arith}
use Rattle.ledger.specs.Ledgers.{rising}
use Rattle.ledger.proofs.Checking.{rises, not-above, not-below, no-such-row, rises-on, all-rise}
use Rattle.ledger.proofs.checks.do_rise.Goals as goal
use Rattle.ledger.proofs.checks.do_rise.Goals.{then-row-low-via-then-row-low, then-row-low-via-else-row-low+then-row-l, then-row-low-via-else-row-low+else-row-l+then-not-is_row}

pub loop-row-init : goal.loop-row-init
loop-row-init c = rises _ _

pub returns-then-row-low : goal.returns-then-row-low
returns-then-row-low c =
    let a = c.loop-row.invariant in
    (elim c.then-row-low.branch [
      | then-row-low-via-then-row-low w ↦ not-above _ _ _ _ a _ (omega arith) w.if-row-low.true
      | then-row-low-via-else-row-low+then-row-l w ↦ not-below _ _ _ _ a _ (omega arith) w.if-row-low.false w.if-row-l.true
      | then-row-low-via-else-row-low+else-row-l+then-not-is_row w ↦ no-such-row _ _ _ _ a _ (omega arith) w.if-row-low.false w.if-row-l.false w.is_row.ensures w.if-not-is_row.true
    ])
    ∙ ap (rising 0 c.args.l.now.next) c.held-row-items.ensures

pub loop-row-preserved : goal.loop-row-preserved
loop-row-preserved c =
    rises-on _ _ _ _ c.loop-row.invariant _ (omega arith) c.if-row-low.false c.if-row-l.false c.is_row.ensures c.if-not-is_row.false

pub returns : goal.returns
returns c =
    all-rise _ _ _ _ c.loop-row.invariant (omega arith) ∙ ap (rising 0 c.args.l.now.next) c.held-row-items.ensures
