-- `put_list` meets its contract: a count, and after it the entries. Assumes nothing.
use native.Mathlib.Omega.{arith}
use Rattle.common.proofs.Puts.{first_fits, ends-within, second_fits, both-fit, put_both}
use Rattle.measure.proofs.Lists.{holds}
use Rattle.encode.proofs.Counts.{is-counted}
use Rattle.encode.proofs.Pieces.{list-room}
use Rattle.encode.proofs.putting.put_list.Goals as goal

pub put_number-head-requires : goal.put_number-head-requires
put_number-head-requires c =
    ((holds _ _ _ c.requires.l_value).small, first_fits (list-room _ _ _ c.args.out.now (c.requires.l_value, c.requires.l_in_bounds)))

pub slice_bounds-put_entries-count : goal.slice_bounds-put_entries-count
slice_bounds-put_entries-count c = ends-within (list-room _ _ _ _ (c.requires.l_value, c.requires.l_in_bounds)) c.put_number-head.ensures

pub slice_bounds-put_entries-start : goal.slice_bounds-put_entries-start
slice_bounds-put_entries-start c = ends-within (list-room _ _ _ _ (c.requires.l_value, c.requires.l_in_bounds)) c.put_number-head.ensures

pub put_entries-n-requires : goal.put_entries-n-requires
put_entries-n-requires c =
    record { l_value = c.requires.l_value; l_in_bounds = second_fits (list-room _ _ _ _ (c.requires.l_value, c.requires.l_in_bounds)) c.put_number-head.ensures }

pub overflow_add-result : goal.overflow_add-result
overflow_add-result c = is-counted (both-fit (list-room _ _ _ _ (c.requires.l_value, c.requires.l_in_bounds)) c.put_number-head.ensures c.put_entries-n.ensures) (omega arith)

pub returns : goal.returns
returns c = put_both (list-room _ _ _ _ (c.requires.l_value, c.requires.l_in_bounds)) c.put_number-head.ensures c.put_entries-n.ensures
