-- `write_framed` meets its contract: the body is judged against its longest, then the whole against the output, and only then
-- are type, length and body put one after the other. Assumes nothing.
use Prim.Native.Nat.{◌≤◌}
use mathlib.Core.Path.{◌≡◌}
use native.Mathlib.Omega.{arith}
use Rattle.std.proofs.lemmas.List.{map-id}
use Rattle.std.proofs.lemmas.Result.{err_from_is_err_and}
use Rattle.common.proofs.Puts.{first_fits, ends-within, second_fits, both-fit, put_both}
use Rattle.integer.specs.Integer.{greatest}
use Rattle.measure.specs.Fields.{fields_of}
use Rattle.measure.specs.Measuring.{measure_all}
use Rattle.measure.proofs.Numbers.{judgement-all}
use Rattle.encode.specs.Writing.{framed_of}
use Rattle.encode.proofs.Counts.{is-counted}
use Rattle.encode.proofs.Framings.{framing-refused, framing-checked}
use Rattle.encode.proofs.Written.{taken, done, Message, message-room}
use Rattle.encode.proofs.writer.write_framed.Goals as goal
use Rattle.encode.proofs.writer.write_framed.Goals.{After-measure_all-found, In_ok-n}

-- the body was judged
said : (c : After-measure_all-found) → c.measure_all-found.result ≡ measure_all c.args.bytes.now (fields_of c.args.f.now) c.args.longest
said c = judgement-all _ _ _ {r = c.measure_all-found.result} (rw (map-id c.as_slice.result.now, c.as_slice.ensures.value) at c.measure_all-found.ensures)

pub framing-requires : goal.framing-requires
framing-requires c n e = let t = taken _ _ _ (said (goal.at.framing-requires c).After-measure_all-found) e in omega (arith, t.counts, t.fits)

pub returns-in_err-n : goal.returns-in_err-n
returns-in_err-n c =
    let p = err_from_is_err_and c.from_residual.result c.from_residual.ensures.1 in
    rw (p.1, p.2) (framing-refused _ _ _ _ _ (said (goal.at.returns-in_err-n c).After-measure_all-found) c.framing.ensures c.in_err-n.was)

-- where there is room, all was checked
checked : (c : In_ok-n) → c.measure_all-found.result ≡ measure_all c.args.bytes.now (fields_of c.args.f.now) c.args.longest → Message c.args.longest c.args.bytes.now c.args.f.now.number (fields_of c.args.f.now) c.args.out.now c.in_ok-n.n
checked c judged =
    let g : c.args.longest ≤ greatest = omega arith in
    framing-checked _ _ _ _ _ judged c.framing.ensures g c.in_ok-n.was

-- ---- and put
pub put_two-at-requires : goal.put_two-at-requires
put_two-at-requires c =
    let m = checked (goal.at.put_two-at-requires c).In_ok-n (said (goal.at.put_two-at-requires c).After-measure_all-found) in
    record { first_le_greatest = (m.ready.small, m.little); second_in_bounds = first_fits (message-room m) }

pub slice_bounds-put_all-count : goal.slice_bounds-put_all-count
slice_bounds-put_all-count c = ends-within (message-room (checked (goal.at.slice_bounds-put_all-count c).In_ok-n (said (goal.at.slice_bounds-put_all-count c).After-measure_all-found))) c.put_two-at.ensures

pub put_all-c-requires : goal.put_all-c-requires
put_all-c-requires c =
    let m = checked (goal.at.put_all-c-requires c).In_ok-n (said (goal.at.put_all-c-requires c).After-measure_all-found) in
    record {
      value = rw (map-id c.as_slice-2.result.now, c.as_slice-2.ensures.value) m.ready.is_right_lem;
      in_bounds = rw (map-id c.as_slice-2.result.now, c.as_slice-2.ensures.value) (second_fits (message-room m) c.put_two-at.ensures);
    }

pub overflow_add-result : goal.overflow_add-result
overflow_add-result c =
    let m = checked (goal.at.overflow_add-result c).In_ok-n (said (goal.at.overflow_add-result c).After-measure_all-found) in
    is-counted (both-fit (message-room m) c.put_two-at.ensures (rw (map-id c.as_slice-2.result.now, c.as_slice-2.ensures.value) at c.put_all-c.ensures)) (omega arith)

pub returns : goal.returns
unfolding framed_of
returns c =
    let m = checked (goal.at.returns c).In_ok-n (said (goal.at.returns c).After-measure_all-found) in
    done m.ready (put_both (message-room m) c.put_two-at.ensures (rw (map-id c.as_slice-2.result.now, c.as_slice-2.ensures.value) at c.put_all-c.ensures))
