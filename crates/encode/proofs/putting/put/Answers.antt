-- `put` meets its contract: the field is judged whole before a byte of it is put. Assumes nothing.
use Rattle.std.proofs.lemmas.Result.{err_from_is_err_and}
use Rattle.encode.proofs.OneField.{takes-asks, leaves-put, leaves_kept}
use Rattle.encode.proofs.putting.put.Goals as goal

pub put_piece-requires : goal.put_piece-requires
put_piece-requires c =
    let h = takes-asks _ _ c.measure.ensures c.in_ok-n.was in
    record { p_value = h.0; p_in_bounds = h.1 }

pub returns-in_err-n : goal.returns-in_err-n
returns-in_err-n c =
    let p = err_from_is_err_and c.from_residual.result c.from_residual.ensures.1 in
    rw (p.1, p.2) (leaves_kept _ _ _ c.measure.ensures c.in_err-n.was)

pub returns : goal.returns
returns c = leaves-put _ _ _ c.measure.ensures c.in_ok-n.was c.put_piece.ensures
