-- The table of RFC 9000, as the code that reads and writes by it meets it: what a first byte, a width and a number have to
-- do with each other. Assumes nothing.
use Prim.Native.Nat.{ℕ, ◌/◌, ◌%◌, ◌≤◌, ◌<◌}
use mathlib.Core.Path.{◌≡◌, refl, sym, ap, ◌∙◌}
use native.Mathlib.Omega.{arith}
use lib.Dec.{T}
use lib.Pow.{pow_pos}
use Rattle.integer.specs.Edition.{Form, room_of, share_of, is_edition, begun_by, of_bytes}
use Rattle.integer.specs.Integer.{rfc9000, wide, room, greatest, size_of}
use Rattle.integer.proofs.Forms
use Rattle.integer.proofs.Forms.{Falls, within, above}
use Rattle.integer.proofs.Tables.{In}

-- it has what a table must have
pub table : T (is_edition rfc9000)
table = tt

-- ---- a first byte, and the width that it gives

pub record Width (w : ℕ) : Type 0 where
  pub some : 0 < w
  pub few : w ≤ 8

pub wide_form : (first : ℕ) → Width (wide first)
unfolding wide
wide_form first =
    let i = (Forms.begun rfc9000 table first).0 in
    record { some = Forms.some rfc9000 table i; few = (Forms.few rfc9000 table i).0 }

-- a row's share of the first bytes gives its width
pub wide_at : {form : Form} → In form rfc9000 → (first : ℕ) → first % 256 / share_of form ≡ form.tag → wide first ≡ form.bytes
unfolding wide
wide_at i first e = ap (λ (f : Form). f.bytes) (Forms.begun-is rfc9000 table i first e)

pub room-pos : (w : ℕ) → 0 < room w
unfolding room
room-pos w = pow_pos (of_bytes rfc9000 w).bits

-- the room of the width is that of the form
pub wide_room : (first : ℕ) → room (wide first) ≡ room_of (begun_by rfc9000 first)
unfolding wide room
wide_room first = ap room_of (Forms.of-bytes rfc9000 table (Forms.begun rfc9000 table first).0)

-- ---- a number, and its size

-- a number takes the bytes of the row that it falls to,
pub size-at : {n width : ℕ} {form : Form} → Falls n form rfc9000 → width ≡ form.bytes → width ≡ size_of n
unfolding size_of
size-at r e = e ∙ ap (λ (f : Form). f.bytes) (sym (Forms.fewest-is r))

-- row by row,
pub size_1 : (n : ℕ) → n ≤ 63 → 1 ≡ size_of n
size_1 n h = size-at (within h) refl

pub size_2 : (n : ℕ) → 63 < n → n ≤ 16_383 → 2 ≡ size_of n
size_2 n g h = size-at (above (omega arith) (within h)) refl

pub size_4 : (n : ℕ) → 16_383 < n → n ≤ 1_073_741_823 → 4 ≡ size_of n
size_4 n g h = size-at (above (omega arith) (above (omega arith) (within h))) refl

pub size_8 : (n : ℕ) → 1_073_741_823 < n → n ≤ 4_611_686_018_427_387_903 → 8 ≡ size_of n
size_8 n g h = size-at (above (omega arith) (above (omega arith) (above (omega arith) (within h)))) refl

-- and one above the greatest takes none
pub size_none : (n : ℕ) → greatest < n → 0 ≡ size_of n
unfolding size_of
size_none n h = ap (λ (f : Form). f.bytes) (sym (Forms.fewest-none rfc9000 table n h))

-- what a number's size is, by the row that it falls to
pub ruleset sizes = (size_1, size_2, size_4, size_8, size_none)

pub size_few : (n : ℕ) → size_of n ≤ 8
unfolding size_of
size_few n = Forms.fewest-few rfc9000 table n
