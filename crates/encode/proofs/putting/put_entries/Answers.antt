-- `put_entries` meets its contract. What was put, and the entries that are left, are all of them; so an entry that is left is
-- found. Assumes nothing.
use Prim.Native.Nat.{◌-◌}
use native.Mathlib.Omega.{arith}
use Rattle.common.proofs.PutLoop.{going-length, going-within}
use Rattle.field.specs.Value.{contents, enc_items}
use Rattle.encode.proofs.Counts.{is-counted}
use Rattle.encode.proofs.EntriesPut.{Turn, entering-start, entering-end, entry_found, turn, parts, head-asks, head-sum, head-within, bytes_fit, entry-sum, entry_next}
use Rattle.encode.proofs.putting.put_entries.Goals as goal
use Rattle.encode.proofs.putting.put_entries.Goals.{In-Ok}

pub loop-init : goal.loop-init
loop-init c = (c.args.l.count, omega arith, entering-start _ _ _ _ c.requires.l_value)

pub shape_of-out-in_default : goal.shape_of-out-in_default
shape_of-out-in_default c = going-length c.loop.invariant.2.going c.requires.l_in_bounds

pub returns-in_default : goal.returns-in_default
returns-in_default c =
    let i = c.loop.invariant in
    absurd (entry_found i.2 c.requires.l_in_bounds (omega (arith, i.1, c.loop-test.true)) c.entry_at.ensures c.in_default.is)

-- the next entry was found
here : (c : In-Ok) → Turn c.args.kind c.args.bytes.now (enc_items c.args.kind (contents c.args.bytes.now c.args.kind c.args.l)) c.args.out.now c.loop.out c.loop.at c.loop.here c.loop.invariant.0 c.in-Ok.e
here c = let i = c.loop.invariant in turn i.2 c.requires.l_in_bounds (omega (arith, i.1, c.loop-test.true)) c.entry_at.ensures c.in-Ok.is

pub overflow_sub-n : goal.overflow_sub-n
overflow_sub-n c = (parts (here (goal.at.overflow_sub-n c).In-Ok)).ordered

pub slice_bounds-put_head-count : goal.slice_bounds-put_head-count
slice_bounds-put_head-count c = going-within c.loop.invariant.2.going c.requires.l_in_bounds

pub put_head-at-requires : goal.put_head-at-requires
put_head-at-requires c =
    let h = head-asks (here (goal.at.put_head-at-requires c).In-Ok) in
    record { number_le_greatest = h.0; n_in_bounds = h.1 }

pub overflow_add-at : goal.overflow_add-at
overflow_add-at c = is-counted (head-sum (here (goal.at.overflow_add-at c).In-Ok) c.put_head-at.ensures) (omega arith)

pub slice_bounds-put_bytes-count : goal.slice_bounds-put_bytes-count
slice_bounds-put_bytes-count c = omega (arith, head-within (here (goal.at.slice_bounds-put_bytes-count c).In-Ok) c.put_head-at.ensures)

pub put_bytes-at-requires : goal.put_bytes-at-requires
put_bytes-at-requires c =
    let w = here (goal.at.put_bytes-at-requires c).In-Ok in
    record { lies = ((parts w).ordered, omega (arith, parts w)); in_bounds = bytes_fit w c.put_head-at.ensures }

pub overflow_add-at-in-loop : goal.overflow_add-at-in-loop
overflow_add-at-in-loop c = is-counted (entry-sum (here (goal.at.overflow_add-at-in-loop c).In-Ok) c.put_head-at.ensures c.put_bytes-at.ensures) (omega arith)

pub loop-preserved : goal.loop-preserved
loop-preserved c =
    let i = c.loop.invariant in
    (i.0 - 1, omega (arith, i.1, c.loop-test.true), entry_next (here (goal.at.loop-preserved c).In-Ok) c.put_head-at.ensures c.put_bytes-at.ensures)

pub shape_of-out : goal.shape_of-out
shape_of-out c = going-length c.loop.invariant.2.going c.requires.l_in_bounds

pub returns : goal.returns
returns c = let i = c.loop.invariant in entering-end i.2 c.requires.l_in_bounds (omega (arith, i.1, c.loop-test.false))
