-- A field that was found is a good value, of the form that was asked for. Assumes nothing.
use Prim.Native.Nat.{ℕ, zero, suc, ◌+◌, ◌-◌, ◌≤◌}
use mathlib.Core.Path.{◌≡◌, refl}
use mathlib.Core.List.{List}
use mathlib.Core.Bool.{Bool, true}
use native.Mathlib.Omega.{arith}
use borrow.Author.Tests.{le-leb, eq-eqb}
use Rattle.integer.specs.Integer.{greatest}
use Rattle.field.specs.Outcome.{whole}
use Rattle.field.specs.Entries.{longest_track, size, number_at, entry_at, most_of, entries_at, Listed, list_at}
use Rattle.field.specs.Fields.{FieldForm}
use Rattle.field.specs.Value.{entry_value, entry_values, contents, mean}
use Rattle.field.specs.declared.Entry.{Entry}
use Rattle.field.specs.declared.Kind.{Kind}
use Rattle.field.specs.declared.Kind.TheVariants.{Namespace, Parameters, Versions}
use Rattle.field.specs.declared.Piece.{Piece}
use Rattle.field.proofs.Found.{steps, number-at, text_at_lem, entry-at, numbered-at}
use Rattle.field.proofs.Pieces.{list_at_lem, FieldAt, a-number, a_byte_lem, some_bytes_lem, a-list, a-track, items-suc}
use Rattle.field.proofs.Lengths.{length_part}
use Rattle.field.proofs.Shortest.{list-fits, held_small}
use Rattle.layout.specs.Layout.{control}
use Rattle.layout.specs.Permitted.{good_item, good_items, within, good_list, good, form_of, handed}

-- ---- entries

-- a version holds no bytes
version-plain : (most : ℕ) (s : List ℕ) (at : ℕ) {e : Entry} {end : ℕ} → entry_at Versions most s at ≡ whole e end → size e.bytes ≡ 0
unfolding entry_at
version-plain most s at {e} h =
    let t = steps (number_at s at) _ h in
    let p : e.bytes ≡ record { start = t.end; end = t.end } = cc in
    rw p (omega arith)

-- an entry that was found can be written, and holds nothing that its kind has no place for,
good-item : (kind : Kind) (most : ℕ) (s : List ℕ) (at : ℕ) {e : Entry} {end : ℕ} → entry_at kind most s at ≡ whole e end → good_item kind (entry_value s e) ≡ true
unfolding entry_at good_item
good-item Namespace most s at {e} h =
    let f = entry-at Namespace most s at h in
    let none : e.number ≡ 0 = (numbered-at 0 most s at h).numbered in
    rw (eq-eqb e.number 0 none, length_part s e.bytes (omega arith)) (le-leb (size e.bytes) greatest f.little)
good-item Parameters most s at {e} h =
    let f = entry-at Parameters most s at h in
    rw (le-leb e.number greatest f.small, length_part s e.bytes (omega arith)) (le-leb (size e.bytes) greatest f.little)
good-item Versions most s at {e} h =
    let f = entry-at Versions most s at h in
    rw (le-leb e.number greatest f.small, length_part s e.bytes (omega arith)) (eq-eqb (size e.bytes) 0 (version-plain most s at h))

-- and so do all entries of a run
pub good-items : (sized : Bool) (kind : Kind) (count held : ℕ) (s : List ℕ) (at : ℕ) {holds end : ℕ} → entries_at sized kind count held s at ≡ whole holds end → good_items kind (entry_values kind count s at) ≡ true
unfolding entries_at entry_values good_items
good-items sized kind zero held s at h = refl
good-items sized kind (suc count) held s at h =
    let most = most_of sized kind held in
    let t = steps (entry_at kind most s at) _ h in
    rw (items-suc kind most count s at t.first, good-item kind most s at t.first) (good-items sized kind count (held + size t.found.bytes) s t.end t.then)

-- ---- a list

-- its size is judged with that many bytes of a name beside it;

good-list : (kind : Kind) (s : List ℕ) (at also : ℕ) {l : Listed} {end : ℕ} → list_at kind s at ≡ whole l end → within kind (l.held + also) ≡ true → good_list kind (contents s kind l.entries) also ≡ true
unfolding good_list
good-list kind s at also {l} h k =
    let t = list_at_lem kind s at h in
    let f = list-fits kind s at h in
    rw (f.counted, f.sum, le-leb l.entries.count greatest (number-at s at t.count_at).small, t.is-few, good-items true kind l.entries.count 0 s l.entries.start t.run) k

-- where there is no name, its entries alone are within the size
alone : (kind : Kind) (s : List ℕ) (at : ℕ) {l : Listed} {end : ℕ} → list_at kind s at ≡ whole l end → within kind (l.held + 0) ≡ true
unfolding within
alone Namespace s at {l} h = le-leb (l.held + 0) longest_track (omega (arith, held_small s at h))
alone Parameters s at h = refl
alone Versions s at h = refl

-- ---- a field

-- its value is of the form asked for, hands on what the piece does, and is good
pub record Good (form : FieldForm) (s : List ℕ) (p : Piece) : Type 0 where
  pub as-asked : form_of (mean s p) ≡ form
  pub hands_on : handed (mean s p) ≡ control p
  pub is-good : good (mean s p) ≡ true

-- so is every field that was found
pub field-good : {s : List ℕ} {at : ℕ} {form : FieldForm} {p : Piece} {end : ℕ} → FieldAt s at form p end → Good form s p
unfolding mean good within most_of
field-good {s} {at} (a-number {n = n} e) =
    record { as-asked = refl; hands_on = refl; is-good = le-leb n greatest (number-at s at e).small }
field-good (a_byte_lem e) = record { as-asked = refl; hands_on = refl; is-good = refl }
field-good {s} {at} (some_bytes_lem {p = p} e) =
    let t = text_at_lem greatest s at e in
    record { as-asked = refl; hands_on = refl; is-good = rw (length_part s p t.within) (le-leb (size p) greatest t.short) }
field-good {s} {at} (a-list {kind = kind} e) =
    record { as-asked = refl; hands_on = refl; is-good = good-list kind s at 0 e (alone kind s at e) }
field-good {s} {at} (a-track {l = l} {next = next} {name = name} e f) =
    let t = text_at_lem (longest_track - l.held) s next f in
    let small : l.held + size name ≤ longest_track = omega (arith, held_small s at e, t.short) in
    record { as-asked = refl; hands_on = refl; is-good = rw (length_part s name t.within) (good-list Namespace s at (size name) e (le-leb (l.held + size name) longest_track small)) }
