-- A part of the bytes: when it is right, how long it is, and how it is judged. Assumes nothing.
use Prim.Native.Nat.{ℕ, ◌+◌, ◌≤◌, ◌<◌}
use mathlib.Core.Path.{◌≡◌, refl, ap}
use mathlib.Core.Bool.{true, false}
use mathlib.Core.List.{List, ◌++◌}
use native.Mathlib.Omega.{arith}
use borrow.Author.Tests.{le-leb, lt-leb, leb-true}
use lib.Dec.{leb}
use lib.ListN.{length, length-append}
use Rattle.common.specs.Choice.{both}
use Rattle.common.proofs.Tests.{both_first, both-second}
use Rattle.integer.specs.Integer.{size_of, greatest, enc_of}
use Rattle.integer.proofs.Laws.{length-enc}
use Rattle.field.specs.Entries.{size}
use Rattle.field.specs.Value.{part, enc_text}
use Rattle.field.specs.declared.Span.{Span}
use Rattle.field.proofs.Lengths.{length_part}
use Rattle.measure.specs.Judging.{right_span, fit, measure_span}
use Rattle.std.specs.Prelude.{Err}
use Rattle.measure.specs.declared.Unfit.TheVariants.{Forbidden}
use Rattle.measure.proofs.Judges.{judged-forbidden, judged-fit}

-- ---- a right part, by its parts

-- it starts before it ends, ends within the bytes, and its length can be written
pub record Lies (s : List ℕ) (p : Span) : Type 0 where
  pub ordered : p.start ≤ p.end
  pub within : p.end ≤ length s
  pub small : size p ≤ greatest

-- so is what is right,
pub lies : (s : List ℕ) (p : Span) → right_span s p ≡ true → Lies s p
unfolding right_span
lies s p e =
    let a = leb p.start p.end in
    let b = leb p.end (length s) in
    let d = leb (size p) greatest in
    let f = both-second a (both b d) e in
    record {
      ordered = leb-true p.start p.end (both_first a (both b d) e);
      within = leb-true p.end (length s) (both_first b d f);
      small = leb-true (size p) greatest (both-second b d f);
    }

-- and what is so is right
pub lies-right : {s : List ℕ} {p : Span} → Lies s p → right_span s p ≡ true
unfolding right_span
lies-right {s} {p} l = rw (le-leb p.start p.end l.ordered, le-leb p.end (length s) l.within, le-leb (size p) greatest l.small)

-- one that ends before it starts is wrong
pub backward-wrong : (s : List ℕ) (p : Span) → p.end < p.start → right_span s p ≡ false
unfolding right_span
backward-wrong s p h = rw (lt-leb p.start p.end h)

-- ---- its shortest form

-- its length, and then its bytes
pub text-is : {s : List ℕ} {p : Span} → Lies s p → enc_of (size p) ++ part s p ≡ enc_text (part s p)
unfolding enc_text
text-is {s} {p} l = rw (length_part s p l.within)

-- that many
text-length : {s : List ℕ} {p : Span} → Lies s p → size_of (size p) + size p ≡ length (enc_text (part s p))
text-length {s} {p} l =
    omega (arith, length-enc (size p), length_part s p l.within, length-append (enc_of (size p)) (part s p), ap length (text-is l))

-- ---- how it is judged, answer by answer

module _ (s : List ℕ) (p : Span) (room : ℕ) where
  -- it ends before it starts
  pub span-backward : p.end < p.start → Err Forbidden ≡ measure_span s p room
  unfolding measure_span
  span-backward h = judged-forbidden _ _ _ (backward-wrong s p h)

  -- it ends after the bytes do
  pub span-outside : p.start ≤ p.end → length s < p.end → Err Forbidden ≡ measure_span s p room
  unfolding measure_span right_span
  span-outside h k = judged-forbidden _ _ _ (rw (le-leb p.start p.end h, lt-leb p.end (length s) k))

  -- its length can't be written
  pub span-great : p.start ≤ p.end → p.end ≤ length s → greatest < size p → Err Forbidden ≡ measure_span s p room
  unfolding measure_span right_span
  span-great h k g =
      judged-forbidden _ _ _ (rw (le-leb p.start p.end h, le-leb p.end (length s) k, lt-leb (size p) greatest g))

  -- it is right
  pub span_fits : {head : ℕ} → Lies s p → head ≡ size_of (size p) → fit (head + size p) room ≡ measure_span s p room
  unfolding measure_span
  span_fits l e = judged-fit {is_sized = true} _ (lies-right l) refl (rw e (text-length l))
