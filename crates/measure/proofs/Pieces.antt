-- A field, by what it is: how it is judged. Assumes nothing.
use Prim.Native.Nat.{ℕ, ◌+◌, ◌≤◌, ◌<◌}
use mathlib.Core.Path.{◌≡◌, refl}
use mathlib.Core.Bool.{true, false}
use mathlib.Core.List.{List}
use native.Mathlib.Omega.{arith}
use borrow.Author.Tests.{le-leb, lt-leb}
use lib.ListN.{length-append}
use Rattle.common.proofs.Tests.{both_true, both_false}
use Rattle.integer.specs.Integer.{size_of, greatest}
use Rattle.integer.proofs.Laws.{length-enc}
use Rattle.field.specs.Entries.{size}
use Rattle.field.specs.Value.{mean, enc_field}
use Rattle.field.specs.declared.Span.{Span}
use Rattle.field.specs.declared.Entries.{Entries}
use Rattle.field.specs.declared.Kind.{Kind}
use Rattle.field.specs.declared.Kind.TheVariants.{Namespace}
use Rattle.field.specs.declared.Track.{Track}
use Rattle.field.specs.declared.Piece.{Piece}
use Rattle.field.specs.declared.Piece.TheVariants.{Number, Byte, Bytes, List as Listing, Track as Tracked}
use Rattle.measure.specs.Judging.{right, sized, fit, joined, measure_span, measure_list, measure_of}
use Rattle.std.specs.Prelude.{Err}
use Rattle.measure.specs.declared.Unfit.TheVariants.{Forbidden}
use Rattle.measure.proofs.Judges.{judged-forbidden, judged-fit, judged-joined}
use Rattle.measure.proofs.Spans.{backward-wrong}

module _ (s : List ℕ) {p : Piece} (room : ℕ) where
  -- a number that can't be written
  pub number-great : {n : ℕ} → p ≡ Number n → greatest < n → Err Forbidden ≡ measure_of s p room
  unfolding measure_of right
  number-great {n} e h = rw e (judged-forbidden _ _ _ (lt-leb n greatest h))

  -- a number
  pub number_fits : {n head : ℕ} → p ≡ Number n → n ≤ greatest → head ≡ size_of n → fit (head + 0) room ≡ measure_of s p room
  unfolding measure_of right sized mean enc_field
  number_fits {n} e h f = rw e (judged-fit {is_sized = true} _ (le-leb n greatest h) refl (omega (arith, length-enc n)))

  pub number-judged : {n : ℕ} → p ≡ Number n → measure_of s (Number n) room ≡ measure_of s p room
  number-judged e = rw e

  -- a byte
  pub byte_fits : {b : ℕ} → p ≡ Byte b → fit (1 + 0) room ≡ measure_of s p room
  unfolding measure_of right sized mean enc_field
  byte_fits e = rw e (judged-fit {is_right = true} {is_sized = true} _ refl refl refl)

  -- bytes are judged as their part is
  pub bytes-judged : {q : Span} → p ≡ Bytes q → measure_span s q room ≡ measure_of s p room
  unfolding measure_of measure_span right sized mean enc_field
  bytes-judged e = rw e

  -- a list as its entries are, with no name
  pub list-judged : {kind : Kind} {l : Entries} → p ≡ Listing kind l → measure_list s kind l 0 room ≡ measure_of s p room
  unfolding measure_of measure_list right sized mean enc_field
  list-judged e = rw e

  -- a name that ends before it starts
  pub track-backward : {t : Track} → p ≡ Tracked t → t.name.end < t.name.start → Err Forbidden ≡ measure_of s p room
  unfolding measure_of right
  track-backward {t} e h = rw (e, backward-wrong s t.name h, both_false) (judged-forbidden {is_right = false} _ _ _ refl)

  -- a namespace and a name are judged as one
  pub track-judged : {t : Track} → p ≡ Tracked t → joined (measure_list s Namespace t.namespace (size t.name) room) (measure_span s t.name room) room ≡ measure_of s p room
  unfolding measure_of measure_list measure_span right sized mean enc_field
  track-judged e = rw (e, judged-joined, both_true, length-append)
