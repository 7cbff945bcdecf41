-- Pieces that were found, by their parts: a list, a field of any form. And what they hold, by content. Assumes nothing.
use Prim.Native.Nat.{ℕ, suc, ◌+◌, ◌<◌}
use mathlib.Core.Path.{◌≡◌, refl}
use mathlib.Core.List.{List, ◌∷◌}
use mathlib.Core.Bool.{true}
use native.Mathlib.Omega.{arith}
use lib.ListN.{length, get_or}
use lib.Dec.{ltb}
use borrow.Author.Tests.{ltb-true}
use Rattle.common.proofs.Cases.{pick-by}
use Rattle.integer.specs.Integer.{greatest}
use Rattle.field.specs.Outcome.{whole}
use Rattle.field.specs.Entries.{number_at, text_at, entry_at, most_of, entries_at, few, Listed, list_at}
use Rattle.field.specs.Fields.{FieldForm, integer, byte, bytes, list, track, field_at}
use Rattle.field.specs.Value.{entry_value, entry_values}
use Rattle.field.specs.declared.Span.{Span}
use Rattle.field.specs.declared.Entry.{Entry}
use Rattle.field.specs.declared.Kind.{Kind}
use Rattle.field.specs.declared.Kind.TheVariants.{Namespace}
use Rattle.field.specs.declared.Piece.{Piece}
use Rattle.field.specs.declared.Piece.TheVariants.{Number, Byte, Bytes, List as Listing, Track as Tracked}
use Rattle.field.proofs.Found.{steps}
use Rattle.field.proofs.Unjudged.{entry-any}

-- what holds of a finding and its end holds of the finding and the end that the same outcome tells
pub as-told : {A : Type 0} (P : A → ℕ → Type 0) {a b : A} {last end : ℕ} → P a last → whole a last ≡ whole b end → P b end
as-told P {a} {b} {last} {end} p h =
    let e : b ≡ a = cc in
    let z : end ≡ last = cc in
    rw (e, z) p

-- ---- a list

-- a count that is few enough, and as many entries
pub record ListAt (kind : Kind) (s : List ℕ) (at : ℕ) (l : Listed) (end : ℕ) : Type 0 where
  pub count_at : number_at s at ≡ whole l.entries.count l.entries.start
  pub is-few : few kind l.entries.count ≡ true
  pub run : entries_at true kind l.entries.count 0 s l.entries.start ≡ whole l.held l.entries.end
  pub ends : end ≡ l.entries.end

-- every list that was found is one
pub list_at_lem : (kind : Kind) (s : List ℕ) (at : ℕ) {l : Listed} {end : ℕ} → list_at kind s at ≡ whole l end → ListAt kind s at l end
unfolding list_at
list_at_lem kind s at {l} {end} h =
    let t = steps (number_at s at) _ h in
    pick-by (λ r. r ≡ whole l end → ListAt kind s at l end) (few kind t.found)
    (λ f e.
    let u = steps (entries_at true kind t.found 0 s t.end) _ e in
    as-told (ListAt kind s at) (record { count_at = t.first; is-few = f; run = u.first; ends = refl }) u.then)
    (λ f e. absurd (let z : ◌≡◌ {A = ℕ} 0 1 = cc in omega arith))
    t.then

-- ---- a field of any form

-- what each form is found as
pub data FieldAt (s : List ℕ) (at : ℕ) : FieldForm → Piece → ℕ → Type 0 where
  a-number : {n end : ℕ} → number_at s at ≡ whole n end → FieldAt s at integer (Number n) end
  a_byte_lem : at < length s → FieldAt s at byte (Byte (get_or s at 0)) (at + 1)
  some_bytes_lem : {p : Span} {end : ℕ} → text_at greatest s at ≡ whole p end → FieldAt s at bytes (Bytes p) end
  a-list : {kind : Kind} {l : Listed} {end : ℕ} → list_at kind s at ≡ whole l end → FieldAt s at (list kind) (Listing kind l.entries) end
  a-track : {l : Listed} {next : ℕ} {name : Span} {end : ℕ} → list_at Namespace s at ≡ whole l next → text_at (most_of true Namespace l.held) s next ≡ whole name end → FieldAt s at track (Tracked (record { namespace = l.entries; name = name })) end

-- every field that was found is one of these
pub field-at : (form : FieldForm) (s : List ℕ) (at : ℕ) {p : Piece} {end : ℕ} → field_at form s at ≡ whole p end → FieldAt s at form p end
unfolding field_at
field-at integer s at h = let t = steps (number_at s at) _ h in as-told (FieldAt s at integer) (a-number t.first) t.then
field-at byte s at {p} {end} h =
    pick-by (λ r. r ≡ whole p end → FieldAt s at byte p end) (ltb at (length s))
    (λ f e. as-told (FieldAt s at byte) (a_byte_lem (ltb-true at (length s) f)) e)
    (λ f e. absurd (let z : ◌≡◌ {A = ℕ} 0 1 = cc in omega arith))
    h
field-at bytes s at h = let t = steps (text_at greatest s at) _ h in as-told (FieldAt s at bytes) (some_bytes_lem t.first) t.then
field-at (list kind) s at h = let t = steps (list_at kind s at) _ h in as-told (FieldAt s at (list kind)) (a-list t.first) t.then
field-at track s at h =
    let t = steps (list_at Namespace s at) _ h in
    let u = steps (text_at (most_of true Namespace t.found.held) s t.end) _ t.then in
    as-told (FieldAt s at track) (a-track t.first u.first) u.then

-- ---- entries by content

-- entries that were found one after the other are the items
pub items-suc : (kind : Kind) (most count : ℕ) (s : List ℕ) (at : ℕ) {e : Entry} {end : ℕ} → entry_at kind most s at ≡ whole e end → entry_values kind (suc count) s at ≡ entry_value s e ∷ entry_values kind count s end
unfolding entry_values
items-suc kind most count s at h = rw (entry-any kind most s at h)
