-- What a writer of integers does, answer by answer; and what those who call it may take from that. Assumes nothing.
use Prim.Native.Nat.{ℕ, ◌≤◌, ◌<◌}
use mathlib.Core.Path.{◌≡◌, sym, ◌∙◌}
use mathlib.Core.List.{List, ◌++◌}
use lib.ListN.{length, drop}
use borrow.Author.Tests.{le-leb, lt-leb}
use Rattle.common.specs.Answer.{Answer, Nothing, refused, wrote, Leaves}
use Rattle.common.specs.Buffer.{over, Put}
use Rattle.integer.specs.Edition.{Form, room_of, led_by}
use Rattle.integer.specs.Integer.{rfc9000, size_of, greatest, bytes_of, enc_of, put_form, write_of}
use Rattle.integer.proofs.Digits.{length-bytes_of}
use Rattle.integer.proofs.Laws.{length-enc}
use Rattle.integer.proofs.Editions
use Rattle.integer.proofs.Forms
use Rattle.integer.proofs.Tables.{In, Each}
use Rattle.integer.proofs.Widths.{table}

-- ---- a form that was chosen

pub put-short : (width n : ℕ) (before : List ℕ) → length before < width → Leaves (put_form width n before) (refused 7) before
unfolding put_form
put-short width n before h = let t = lt-leb width (length before) h in record { says = rw t; holds = rw t }

pub put-done : (width n : ℕ) (before after : List ℕ) → width ≤ length before → after ≡ bytes_of width n ++ drop width before → Leaves (put_form width n before) (wrote width) after
unfolding put_form
put-done width n before after h e =
    let t = le-leb width (length before) h in
    record { says = rw t; holds = e ∙ rw (t, length-bytes_of) }

-- ---- a number

pub write-great : (n : ℕ) (before : List ℕ) → greatest < n → Leaves (write_of n before) (refused 5) before
unfolding write_of
write-great n before h = Editions.write-great rfc9000 n before h

-- by its width: no row has it, and the number is too great,
pub no-row : (n : ℕ) {width : ℕ} (before : List ℕ) → width ≡ size_of n → Each (λ form. width ≡ form.bytes → ⊥) rfc9000 → Leaves (write_of n before) (refused 5) before
unfolding size_of
no-row n before e others = write-great n before (Forms.no-form rfc9000 table n e others)

-- or a row has it, whose form is put
module _ {form : Form} (i : In form rfc9000) (n : ℕ) {width : ℕ} (chosen : width ≡ size_of n) (size : width ≡ form.bytes) where
  pub row_fits : n < room_of form
  unfolding size_of
  row_fits = Editions.row_fits rfc9000 table i n (sym chosen ∙ size)

  pub row_put : (before : List ℕ) → write_of n before ≡ put_form form.bytes (led_by form n) before
  unfolding write_of
  row_put before = Editions.row_put rfc9000 table i n (sym chosen ∙ size) before

-- ---- for callers: where there is room, the shortest form stands at the front, and every byte after it as it was

pub written : (n : ℕ) (before : List ℕ) {after : List ℕ} {r : Answer Nothing} → Leaves (write_of n before) r after → n ≤ greatest → length (enc_of n) ≤ length before → (r ≡ wrote (length (enc_of n))) × (after ≡ over (enc_of n) before)
unfolding write_of enc_of
written n before w g h = Editions.written rfc9000 n before w g h

-- an integer that was written
pub number_put : {n used : ℕ} {before after : List ℕ} {r : Answer Nothing} → n ≤ greatest → length (enc_of n) ≤ length before → Leaves (write_of n before) r after → used ≡ size_of n → Put (enc_of n) before used after
number_put {n} {before = before} g h w e = record { count = e ∙ sym (length-enc n); holds = (written n before w g h).1 }
