-- `put_item` meets its contract: there is room for the line, and all but its last byte is the item. Assumes nothing.
use mathlib.Core.Path.{ap}
use native.Mathlib.Omega.{arith}
use lib.ListN.{length}
use Rattle.columns.proofs.ItemAlone.{never-short, Alone, item-alone}
use Rattle.columns.proofs.bytes.put_item.Goals as goal
use Rattle.columns.proofs.bytes.put_item.Goals.{In-Some}

alone : (c : In-Some) → Alone c.args.item c.in-Some.end c.put.new.out
alone c = item-alone _ _ (omega arith) (rw c.of.ensures at c.in-Some.ensures)

pub returns-in_default : goal.returns-in_default
returns-in_default c = absurd (never-short _ _ (omega arith) (rw (c.in_default.is, c.of.ensures) at c.put.ensures))

pub returns : goal.returns
returns c = rw (← (alone (goal.at.returns c).In-Some).is) c.put_bytes.ensures

pub slice_bounds-line-count : goal.slice_bounds-line-count
slice_bounds-line-count c = omega (arith, (alone (goal.at.slice_bounds-line-count c).In-Some).count)

pub slice_bounds-line-end : goal.slice_bounds-line-end
slice_bounds-line-end c = omega (arith, (alone (goal.at.slice_bounds-line-end c).In-Some).few)

pub slice_bounds-put_bytes-length : goal.slice_bounds-put_bytes-length
slice_bounds-put_bytes-length c =
    omega (arith, (alone (goal.at.slice_bounds-put_bytes-length c).In-Some).count, ap length (alone (goal.at.slice_bounds-put_bytes-length c).In-Some).is)
