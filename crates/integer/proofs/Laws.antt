-- The laws of RFC 9000's integers: those of any edition, at its table. Assumes nothing.
use Prim.Native.Nat.{ℕ, ◌≤◌, ◌<◌}
use mathlib.Core.Path.{◌≡◌, refl, sym}
use Rattle.std.specs.Prelude.{Result, Ok, Err}
use mathlib.Core.List.{List, ◌++◌}
use native.Mathlib.Omega.{arith}
use lib.ListN.{length, take}
use Rattle.common.specs.Answer.{whole}
use Rattle.common.proofs.Cases.{apart}
use Rattle.integer.specs.Edition.{Form, room_of, led_by}
use Rattle.integer.specs.Integer.{rfc9000, size_of, greatest, bytes_of, read_of, told, told_writing, enc_of}
use Rattle.integer.specs.declared.Cut.{Cut}
use Rattle.integer.specs.declared.Unwritten.{Unwritten}
use Rattle.integer.specs.declared.Unwritten.TheVariants.{TooGreat, TooShort}
use Rattle.integer.proofs.Editions
use Rattle.integer.proofs.Tables.{In}
use Rattle.integer.proofs.Widths.{table, size_few}

-- ---- the shortest form is read back, whatever follows it

pub length-enc : (n : ℕ) → length (enc_of n) ≡ size_of n
unfolding enc_of
length-enc n = Editions.length-enc rfc9000 table n

pub round_trip : (n : ℕ) (rest : List ℕ) → n ≤ greatest → read_of (enc_of n ++ rest) ≡ whole n (length (enc_of n))
unfolding read_of enc_of
round_trip n rest h = Editions.round_trip rfc9000 table n rest h

-- and so is every form that has room for the number: "A longer form than needed is read."
pub form-reads : {form : Form} → In form rfc9000 → (n : ℕ) (rest : List ℕ) → n < room_of form → read_of (bytes_of form.bytes (led_by form n) ++ rest) ≡ whole n form.bytes
unfolding read_of
form-reads i n rest h = Editions.joined (Editions.form-reads rfc9000 table i n rest h)

-- ---- the bounds of what is read

pub record Bounds (s : List ℕ) (n used : ℕ) : Type 0 where
  pub small : n ≤ greatest
  pub some : 0 < used
  pub few : used ≤ 8
  pub within : used ≤ length s

pub bounds : {s : List ℕ} {n used : ℕ} → read_of s ≡ whole n used → Bounds s n used
unfolding read_of
bounds {s} e =
    let b = Editions.bounds rfc9000 table s e in
    record { small = b.small; some = b.some; few = b.few; within = b.within }

-- ---- no form that is read is shorter than the shortest

pub shortest : (s : List ℕ) {n used : ℕ} → read_of s ≡ whole n used → length (enc_of n) ≤ used
unfolding read_of enc_of
shortest s e = Editions.shortest rfc9000 table s e

pub enc-few : (n : ℕ) → length (enc_of n) ≤ 8
enc-few n = rw length-enc (size_few n)

pub enc-some : (n : ℕ) → n ≤ greatest → 0 < length (enc_of n)
unfolding enc_of
enc-some n h = Editions.enc-some rfc9000 table n h

-- the shortest form of a smaller number is no longer
pub no_longer : (a b : ℕ) → a ≤ b → b ≤ greatest → length (enc_of a) ≤ length (enc_of b)
unfolding enc_of
no_longer a b k h = Editions.no_longer rfc9000 table a b k h

-- ---- only the bytes used count

pub only-used : (s t : List ℕ) {n used : ℕ} → take used s ≡ take used t → read_of s ≡ whole n used → read_of t ≡ whole n used
unfolding read_of
only-used s t e r = Editions.only-used rfc9000 table s t e r

-- bytes that follow change nothing,
pub stable : (s t : List ℕ) {n used : ℕ} → read_of s ≡ whole n used → read_of (s ++ t) ≡ whole n used
unfolding read_of
stable s t r = Editions.stable rfc9000 table s t r

-- nor do they if they are cut off
pub alone : (s : List ℕ) {n used : ℕ} → read_of s ≡ whole n used → read_of (take used s) ≡ whole n used
unfolding read_of
alone s r = Editions.alone rfc9000 table s r

-- ---- no encoding begins another

pub enc-apart : (a b : ℕ) (s t : List ℕ) → a ≤ greatest → b ≤ greatest → enc_of a ++ s ≡ enc_of b ++ t → (a ≡ b) × (s ≡ t)
unfolding enc_of
enc-apart a b s t h k e = Editions.enc-apart rfc9000 table a b s t h k e

-- ---- one possible answer: 01's number and values lose nothing

pub told-once : (a b : Result (ℕ × ℕ) Cut) → told a ≡ told b → a ≡ b
told-once (Ok (n, u)) (Ok (m, v)) e = cc
told-once (Ok (n, u)) (Err cut) e = absurd (apart (sym e))
told-once (Err cut) (Ok (m, v)) e = absurd (apart e)
told-once (Err cut) (Err other) e = refl

pub told-writing-once : (a b : Result ℕ Unwritten) → told_writing a ≡ told_writing b → a ≡ b
told-writing-once (Ok k) (Ok l) e = cc
told-writing-once (Ok k) (Err TooGreat) e = absurd (apart (sym e))
told-writing-once (Ok k) (Err TooShort) e = absurd (apart (sym e))
told-writing-once (Err TooGreat) (Ok l) e = absurd (apart e)
told-writing-once (Err TooGreat) (Err TooGreat) e = refl
told-writing-once (Err TooGreat) (Err TooShort) e = absurd (let z : ◌≡◌ {A = ℕ} 5 7 = cc in omega arith)
told-writing-once (Err TooShort) (Ok l) e = absurd (apart e)
told-writing-once (Err TooShort) (Err TooGreat) e = absurd (let z : ◌≡◌ {A = ℕ} 5 7 = cc in omega arith)
told-writing-once (Err TooShort) (Err TooShort) e = refl
