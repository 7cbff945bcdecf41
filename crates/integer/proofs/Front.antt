-- An integer of RFC 9000 at the front of bytes, as the code that reads it meets it: by the width that the first byte gives.
-- Assumes nothing.
use Prim.Native.Nat.{ℕ, ◌%◌, ◌≤◌, ◌<◌}
use mathlib.Core.Path.{◌≡◌, ap, ◌∙◌}
use mathlib.Core.List.{List}
use lib.ListN.{length, get_or, take}
use Rattle.common.specs.Answer.{whole, refused}
use Rattle.integer.specs.Integer.{rfc9000, wide, room, spell, read_of}
use Rattle.integer.proofs.Editions
use Rattle.integer.proofs.Widths.{wide_room}

-- enough bytes
pub enough : (s : List ℕ) {width : ℕ} → width ≡ wide (get_or s 0 0) → width ≤ length s → read_of s ≡ whole (spell 0 (take width s) % room width) width
unfolding read_of wide
enough s {width} e h =
    Editions.joined {edition = rfc9000} {s = s}
    (record { width = e; within = h; value = ap (λ (r : ℕ). spell 0 (take width s) % r) (ap room e ∙ wide_room (get_or s 0 0)) })

-- too few
pub short : (s : List ℕ) → length s < wide (get_or s 0 0) → read_of s ≡ refused 1
unfolding read_of wide
short s h = Editions.short rfc9000 s h

-- the only refusal
pub cut-is : (s : List ℕ) {k : ℕ} → read_of s ≡ refused k → (k ≡ 1) × (length s < wide (get_or s 0 0))
unfolding read_of wide
cut-is s e = Editions.cut-is rfc9000 s e
