-- One field: what its writer leaves. Assumes nothing.
use Prim.Native.Nat.{ℕ}
use mathlib.Core.Path.{◌≡◌, sym, ◌∙◌}
use mathlib.Core.List.{List}
use lib.ListN.{length}
use Rattle.std.specs.Prelude.{Ok, Err}
use Rattle.common.specs.Answer.{wrote, Leaves}
use Rattle.common.specs.Buffer.{Put}
use Rattle.field.specs.Value.{mean, enc_field}
use Rattle.field.specs.declared.Piece.{Piece}
use Rattle.measure.specs.Judging.{right, sized, Judged, judged, measure_of}
use Rattle.measure.specs.Measuring.{measured_of, told_measured}
use Rattle.measure.specs.declared.Unfit.{Unfit}
use Rattle.measure.specs.declared.Unfit.TheVariants.{TooLong, Oversize, Forbidden}
use Rattle.measure.proofs.Judges.{judged-takes}
use Rattle.measure.proofs.Numbers.{judgement}
use Rattle.encode.specs.Writing.{put_field}
use Rattle.encode.proofs.Pieces.{Asks}
use Rattle.encode.proofs.Written.{bare-forbidden, bare-oversize, bare-over, bare-taken, bare-done}

-- a field that takes that many bytes is right, and there is room for it
pub takes-asks : (s : List ℕ) (p : Piece) {room n : ℕ} {r : Judged} → told_measured r ≡ measured_of s p room → r ≡ Ok n → Asks s p room
unfolding measure_of
takes-asks s p {room} said e =
    let t = judged-takes (right s p) (sized s p) (length (enc_field (mean s p))) room (sym (judgement s p room said) ∙ e) in
    (t.is_right_lem, t.fits)

module _ (s : List ℕ) (p : Piece) (before : List ℕ) {r : Judged} (said : told_measured r ≡ measured_of s p (length before)) where
  found : r ≡ judged (right s p) (sized s p) (length (enc_field (mean s p))) (length before)
  unfolding measure_of
  found = judgement s p (length before) said

  -- it was put,
  pub leaves-put : {n used : ℕ} {after : List ℕ} → r ≡ Ok n → Put (enc_field (mean s p)) before used after → Leaves (put_field s p before) (wrote n) after
  unfolding put_field
  leaves-put e q =
      let t = bare-taken (right s p) (sized s p) (enc_field (mean s p)) before found e in
      bare-done _ _ _ _ found e (record { count = t.counts; holds = q.holds })

-- or refused, and nothing was
kept-by : (s : List ℕ) (p : Piece) (before : List ℕ) {r : Judged} (unfit : Unfit) → r ≡ judged (right s p) (sized s p) (length (enc_field (mean s p))) (length before) → r ≡ Err unfit → Leaves (put_field s p before) (told_measured (Err unfit)) before
unfolding put_field
kept-by s p before TooLong f e = bare-over _ _ _ _ f e
kept-by s p before Oversize f e = bare-oversize _ _ _ _ f e
kept-by s p before Forbidden f e = bare-forbidden _ _ _ _ f e

pub leaves_kept : (s : List ℕ) (p : Piece) (before : List ℕ) {r : Judged} {unfit : Unfit} → told_measured r ≡ measured_of s p (length before) → r ≡ Err unfit → Leaves (put_field s p before) (told_measured (Err unfit)) before
leaves_kept s p before {unfit = unfit} said e = kept-by s p before unfit (found s p before said) e
