-- What was read can be written again: a field that was found is right and sized, so that no writer refuses it with 5 or 6.
-- Assumes nothing.
use Prim.Native.Nat.{ℕ, zero, suc, ◌+◌}
use mathlib.Core.Path.{◌≡◌, refl, sym, ◌∙◌}
use mathlib.Core.Bool.{true, false}
use mathlib.Core.List.{List}
use native.Mathlib.Omega.{arith}
use borrow.Author.Tests.{le-leb, eq-eqb}
use lib.ListN.{length}
use Rattle.integer.specs.Integer.{greatest}
use Rattle.field.specs.Outcome.{whole}
use Rattle.field.specs.Entries.{size, text_at, entry_at, most_of, entries_at, Listed, list_at}
use Rattle.field.specs.Fields.{FieldForm, field_at}
use Rattle.field.specs.declared.Span.{Span}
use Rattle.field.specs.declared.Kind.{Kind}
use Rattle.field.specs.declared.Kind.TheVariants.{Namespace}
use Rattle.field.specs.declared.Piece.{Piece}
use Rattle.field.proofs.Found.{steps, number-at, text_at_lem}
use Rattle.field.proofs.Unjudged.{entry-any}
use Rattle.field.proofs.Pieces.{list_at_lem, FieldAt, a-number, a_byte_lem, some_bytes_lem, a-list, a-track, field-at}
use Rattle.field.proofs.Shortest.{list-fits}
use Rattle.layout.specs.Layout.{Layout, scan}
use Rattle.layout.proofs.Scanned.{Scanned, at-end, one_more, taken, left, scanned}
use Rattle.layout.proofs.Good.{field-good}
use Rattle.measure.specs.Judging.{right_span, right_list, right, sized}
use Rattle.measure.specs.Measuring.{right_all, sized_all}
use Rattle.measure.proofs.Spans.{lies-right}
use Rattle.encode.proofs.Good.{sized-good}

-- ---- each kind of field is right

-- a length and bytes,
text-right : (most : ℕ) (s : List ℕ) (at : ℕ) {p : Span} {end : ℕ} → text_at most s at ≡ whole p end → right_span s p ≡ true
text-right most s at h =
    let t = text_at_lem most s at h in
    lies-right (record { ordered = t.ordered; within = t.within; small = (number-at s at t.length_at).small })

-- entries: a run whose sizes were judged is the same run where they are not,
run-any : (kind : Kind) (count held : ℕ) (s : List ℕ) (at : ℕ) {holds end : ℕ} → entries_at true kind count held s at ≡ whole holds end → entries_at false kind count held s at ≡ whole holds end
unfolding entries_at most_of
run-any kind zero held s at h = h
run-any kind (suc count) held s at h =
    let most = most_of true kind held in
    let t = steps (entry_at kind most s at) _ h in
    rw (entry-any kind most s at t.first) (run-any kind count (held + size t.found.bytes) s t.end t.then)

-- so a list is right,
list_right : (kind : Kind) (s : List ℕ) (at : ℕ) {l : Listed} {end : ℕ} → list_at kind s at ≡ whole l end → right_list s kind l.entries ≡ true
unfolding right_list
list_right kind s at {l} h =
    let t = list_at_lem kind s at h in
    let e = l.entries in
    rw (le-leb e.count greatest (number-at s at t.count_at).small, le-leb e.end (length s) (omega (arith, t.ends, (list-fits kind s at h).within)), run-any kind e.count 0 s e.start t.run)
    (eq-eqb e.end e.end refl)

-- and a field of any form
field-right : {s : List ℕ} {at : ℕ} {form : FieldForm} {p : Piece} {end : ℕ} → FieldAt s at form p end → right s p ≡ true
unfolding right
field-right {s} {at} (a-number {n = n} e) = le-leb n greatest (number-at s at e).small
field-right (a_byte_lem e) = refl
field-right {s} {at} (some_bytes_lem e) = text-right greatest s at e
field-right {s} {at} (a-list {kind = kind} e) = list_right kind s at e
field-right {s} {at} (a-track {l = l} {next = next} e f) =
    rw (list_right Namespace s at e) (text-right (most_of true Namespace l.held) s next f)

-- ---- and sized

-- since it is right, and good by value
field-judged : {s : List ℕ} {at : ℕ} {form : FieldForm} {p : Piece} {end : ℕ} → FieldAt s at form p end → (right s p ≡ true) × (sized s p ≡ true)
field-judged {s} {p = p} f = let r = field-right f in (r, sym (sized-good s p r) ∙ (field-good f).is-good)

-- A field that was found is right and sized.
pub found_right : (form : FieldForm) (s : List ℕ) (at : ℕ) {p : Piece} {end : ℕ} → field_at form s at ≡ whole p end → (right s p ≡ true) × (sized s p ≡ true)
found_right form s at h = field-judged (field-at form s at h)

-- ---- all fields of a layout

-- by the steps of the reading,
steps-right : {s : List ℕ} {l : Layout} {at : ℕ} {ps : List Piece} {end : ℕ} → Scanned s l at ps end → (right_all s ps ≡ true) × (sized_all s ps ≡ true)
unfolding right_all sized_all
steps-right at-end = (refl, refl)
steps-right (one_more f r) =
    let j = field-judged f in
    let k = steps-right r in
    (rw j.0 k.0, rw j.1 k.1)
steps-right (taken r) = steps-right r
steps-right (left r) = steps-right r

-- What was read whole by a layout is right and sized, all of it.
pub scanned-right : (l : Layout) (s : List ℕ) (at : ℕ) {ps : List Piece} {end : ℕ} → scan l s at ≡ whole ps end → (right_all s ps ≡ true) × (sized_all s ps ≡ true)
scanned-right l s at h = steps-right (scanned l s at h)
