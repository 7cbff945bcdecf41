-- `put_items` meets its contract. What was put, and the items that are left, are the line. Assumes nothing.
use Rattle.common.proofs.PutLoop.{left-fits, next_fits, going_next, going-last}
use Rattle.text.proofs.ItemsInLine.{no_items, line-next, line-last}
use Rattle.text.proofs.lines.put_items.Goals as goal

pub returns-in_default : goal.returns-in_default
returns-in_default c = no_items _ _ c.in_default.len_below

pub put_ended-at-requires : goal.put_ended-at-requires
put_ended-at-requires c =
    next_fits c.loop-item.invariant c.requires (line-next _ _ _ c.loop-item-test.true _)

pub loop-item-preserved : goal.loop-item-preserved
loop-item-preserved c =
    going_next c.loop-item.invariant c.requires (line-next _ _ _ c.loop-item-test.true _) c.put_ended-at.ensures

pub put_ended-requires : goal.put_ended-requires
put_ended-requires c =
    left-fits (rw (line-last _ _ _ c.loop-item-test.false) at c.loop-item.invariant) c.requires

pub returns : goal.returns
returns c =
    going-last (rw (line-last _ _ _ c.loop-item-test.false) at c.loop-item.invariant) c.requires c.put_ended.ensures
