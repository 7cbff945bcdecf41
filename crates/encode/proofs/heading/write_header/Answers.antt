-- `write_header` meets its contract: its parts are judged, and only then put one after the other. Assumes nothing.
use Prim.Native.Nat.{ℕ}
use mathlib.Core.Path.{◌≡◌}
use native.Mathlib.Omega.{arith}
use lib.ListN.{length}
use Rattle.std.specs.Prelude.{Ok}
use Rattle.measure.specs.Fields.{headed}
use Rattle.measure.specs.Measuring.{measure_all}
use Rattle.measure.proofs.Numbers.{judgement-all, judgement-joined}
use Rattle.encode.specs.Writing.{bare_of}
use Rattle.encode.proofs.Counts.{is-counted}
use Rattle.encode.proofs.FieldsPut.{AllAsk}
use Rattle.encode.proofs.Headings.{headed-judged, front-asks, front-within, middle-asks, middle-sum, middle-within, back-asks, back_sum, headed-put}
use Rattle.encode.proofs.Written.{taken, bare-forbidden, bare-oversize, bare-over, bare-done}
use Rattle.encode.proofs.heading.write_header.Goals as goal
use Rattle.encode.proofs.heading.write_header.Goals.{After-join}

-- all parts were judged,
said : (c : After-join) → c.join.result ≡ measure_all c.args.bytes.now (headed c.args.front.now c.args.middle c.args.back.now) (length c.args.out.now)
said c =
    headed-judged _ _ _ _ _ (judgement-all _ _ _ {r = c.measure_all-2.result} c.measure_all-2.ensures)
    (judgement-all _ _ _ {r = c.measure_middle.result} c.measure_middle.ensures)
    (judgement-all _ _ _ {r = c.measure_all.result} c.measure_all.ensures)
    (judgement-joined _ _ _ {r = c.join-behind.result} c.join-behind.ensures) (judgement-joined _ _ _ {r = c.join.result} c.join.ensures)

-- and where they take that many bytes, can be put
ready : (c : After-join) {n : ℕ} → c.join.result ≡ Ok n → AllAsk c.args.bytes.now (headed c.args.front.now c.args.middle c.args.back.now) (length c.args.out.now)
ready c e = let t = taken _ _ _ (said c) e in (t.is_right_lem, t.fits)

pub put_all-a-requires : goal.put_all-a-requires
put_all-a-requires c = let h = front-asks _ _ _ _ c.args.out.now (ready (goal.at.put_all-a-requires c).After-join c.in-Ok.is) in record { value = h.0; in_bounds = h.1 }

pub slice_bounds-put_middle-count : goal.slice_bounds-put_middle-count
slice_bounds-put_middle-count c = front-within _ _ _ _ _ (ready (goal.at.slice_bounds-put_middle-count c).After-join c.in-Ok.is) c.put_all-a.ensures

pub put_middle-b-requires : goal.put_middle-b-requires
put_middle-b-requires c = let h = middle-asks _ _ _ _ _ (ready (goal.at.put_middle-b-requires c).After-join c.in-Ok.is) c.put_all-a.ensures in record { m_value = h.0; m_in_bounds = h.1 }

pub overflow_add-at : goal.overflow_add-at
overflow_add-at c = is-counted (middle-sum _ _ _ _ _ (ready (goal.at.overflow_add-at c).After-join c.in-Ok.is) c.put_all-a.ensures c.put_middle-b.ensures) (omega arith)

pub slice_bounds-put_all-count : goal.slice_bounds-put_all-count
slice_bounds-put_all-count c = middle-within _ _ _ _ _ (ready (goal.at.slice_bounds-put_all-count c).After-join c.in-Ok.is) c.put_all-a.ensures c.put_middle-b.ensures

pub put_all-c-requires : goal.put_all-c-requires
put_all-c-requires c = let h = back-asks _ _ _ _ _ (ready (goal.at.put_all-c-requires c).After-join c.in-Ok.is) c.put_all-a.ensures c.put_middle-b.ensures in record { value = h.0; in_bounds = h.1 }

pub overflow_add-result : goal.overflow_add-result
overflow_add-result c = is-counted (back_sum _ _ _ _ _ (ready (goal.at.overflow_add-result c).After-join c.in-Ok.is) c.put_all-a.ensures c.put_middle-b.ensures c.put_all-c.ensures) (omega arith)

pub returns-in-Ok : goal.returns-in-Ok
unfolding measure_all bare_of
returns-in-Ok c = bare-done _ _ _ _ (said (goal.at.returns-in-Ok c).After-join) c.in-Ok.is (headed-put _ _ _ _ _ (ready (goal.at.returns-in-Ok c).After-join c.in-Ok.is) c.put_all-a.ensures c.put_middle-b.ensures c.put_all-c.ensures)

pub returns-in-Err-Forbidden : goal.returns-in-Err-Forbidden
unfolding measure_all bare_of
returns-in-Err-Forbidden c = bare-forbidden _ _ _ _ (said (goal.at.returns-in-Err-Forbidden c).After-join) (rw c.in-Err-Forbidden.field-0-is at c.in-Err-Forbidden.is)

pub returns-in-Err-Oversize : goal.returns-in-Err-Oversize
unfolding measure_all bare_of
returns-in-Err-Oversize c = bare-oversize _ _ _ _ (said (goal.at.returns-in-Err-Oversize c).After-join) (rw c.in-Err-Oversize.field-0-is at c.in-Err-Oversize.is)

pub returns-in-Err-TooLong : goal.returns-in-Err-TooLong
unfolding measure_all bare_of
returns-in-Err-TooLong c = bare-over _ _ _ _ (said (goal.at.returns-in-Err-TooLong c).After-join) (rw c.in-Err-TooLong.field-0-is at c.in-Err-TooLong.is)
