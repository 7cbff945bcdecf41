-- `put_text` meets its contract: a length, and after it the bytes. Assumes nothing.
use native.Mathlib.Omega.{arith}
use Rattle.common.proofs.Puts.{first_fits, ends-within, both-fit, put_both}
use Rattle.measure.proofs.Spans.{lies}
use Rattle.encode.proofs.Counts.{is-counted}
use Rattle.encode.proofs.Copies.{text-room, bytes_fit}
use Rattle.encode.proofs.putting.put_text.Goals as goal

pub overflow_sub-p : goal.overflow_sub-p
overflow_sub-p c = (lies _ _ c.requires.p_value).ordered

pub put_number-head-requires : goal.put_number-head-requires
put_number-head-requires c =
    ((lies _ _ c.requires.p_value).small, first_fits (text-room _ _ c.args.out.now (c.requires.p_value, c.requires.p_in_bounds)))

pub slice_bounds-put_bytes-count : goal.slice_bounds-put_bytes-count
slice_bounds-put_bytes-count c = ends-within (text-room _ _ _ (c.requires.p_value, c.requires.p_in_bounds)) c.put_number-head.ensures

pub slice_bounds-put_bytes-start : goal.slice_bounds-put_bytes-start
slice_bounds-put_bytes-start c = ends-within (text-room _ _ _ (c.requires.p_value, c.requires.p_in_bounds)) c.put_number-head.ensures

pub put_bytes-n-requires : goal.put_bytes-n-requires
put_bytes-n-requires c =
    let h = c.requires in
    let l = lies _ _ h.p_value in
    record { lies = (l.ordered, l.within); in_bounds = bytes_fit _ _ _ (h.p_value, h.p_in_bounds) c.put_number-head.ensures }

pub overflow_add-result : goal.overflow_add-result
overflow_add-result c = is-counted (both-fit (text-room _ _ _ (c.requires.p_value, c.requires.p_in_bounds)) c.put_number-head.ensures c.put_bytes-n.ensures) (omega arith)

pub returns : goal.returns
returns c = put_both (text-room _ _ _ (c.requires.p_value, c.requires.p_in_bounds)) c.put_number-head.ensures c.put_bytes-n.ensures
