-- A field that is right is sized exactly where its value is good: the sizes judged before writing are those of the grammar.
-- Assumes nothing.
use Prim.Native.Nat.{ℕ}
use mathlib.Core.Path.{◌≡◌, refl, ◌∙◌}
use mathlib.Core.Bool.{true, false}
use mathlib.Core.List.{List, [], ◌∷◌, map}
use borrow.Author.Tests.{le-leb}
use Rattle.common.proofs.Tests.{both_first, both-second}
use Rattle.integer.specs.Integer.{greatest}
use Rattle.field.specs.Entries.{size}
use Rattle.field.specs.Value.{Value, contents, mean}
use Rattle.field.specs.declared.Entries.{Entries}
use Rattle.field.specs.declared.Kind.{Kind}
use Rattle.field.specs.declared.Kind.TheVariants.{Namespace}
use Rattle.field.specs.declared.Piece.{Piece}
use Rattle.field.specs.declared.Piece.TheVariants.{Number, Byte, Bytes, List as Listing, Track as Tracked}
use Rattle.field.proofs.Lengths.{length_part}
use Rattle.layout.specs.Permitted.{good_list, good}
use Rattle.layout.proofs.Good.{good-items}
use Rattle.measure.specs.Judging.{right_span, right_list, right, sized_list, sized}
use Rattle.measure.specs.Measuring.{right_all, sized_all}
use Rattle.measure.proofs.Spans.{lies}
use Rattle.measure.proofs.EntriesFrom.{items-length}
use Rattle.measure.proofs.Lists.{holds}

-- ---- one field

-- right entries are good exactly where they are sized, beside a name of that many bytes;
list-good : (s : List ℕ) (kind : Kind) (l : Entries) (also : ℕ) → right_list s kind l ≡ true → good_list kind (contents s kind l) also ≡ sized_list s kind l also
unfolding good_list sized_list
list-good s kind l also h =
    let e = holds s kind l h in
    let r = e.run in
    rw (items-length l.count r, le-leb l.count greatest e.small, good-items false kind l.count r.earlier s l.start r.runs)

-- and a right field is
pub sized-good : (s : List ℕ) (p : Piece) → right s p ≡ true → good (mean s p) ≡ sized s p
unfolding mean good right sized
sized-good s (Number n) h = h
sized-good s (Byte b) h = refl
sized-good s (Bytes p) h =
    let b = lies s p h in
    rw (length_part s p b.within) (le-leb (size p) greatest b.small)
sized-good s (Listing kind l) h = list-good s kind l 0 h
sized-good s (Tracked t) h =
    let a = right_list s Namespace t.namespace in
    let b = right_span s t.name in
    rw (length_part s t.name (lies s t.name (both-second a b h)).within)
    (list-good s Namespace t.namespace (size t.name) (both_first a b h))

-- A field that is right and sized is good by value.
pub right-good : (s : List ℕ) (p : Piece) → right s p ≡ true → sized s p ≡ true → good (mean s p) ≡ true
right-good s p h k = sized-good s p h ∙ k

-- ---- all of them

-- every value is good
pub data AllGood : List Value → Type 0 where
  none : AllGood []
  more : {v : Value} {vs : List Value} → good v ≡ true → AllGood vs → AllGood (v ∷ vs)

-- Fields that are right and sized are good by value, each of them.
pub all-good : (s : List ℕ) (ps : List Piece) → right_all s ps ≡ true → sized_all s ps ≡ true → AllGood (map (mean s) ps)
unfolding right_all sized_all
all-good s [] h k = none
all-good s (p ∷ ps) h k =
    more
    (right-good s p (both_first (right s p) (right_all s ps) h) (both_first (sized s p) (sized_all s ps) k))
    (all-good s ps (both-second (right s p) (right_all s ps) h) (both-second (sized s p) (sized_all s ps) k))
