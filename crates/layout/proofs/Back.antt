-- Theorems 1 and 4, for every layout: what is encoded is read back, and the reading is unique. Assumes nothing.
use Prim.Native.Nat.{ℕ, ◌+◌, ◌≤◌}
use mathlib.Core.Path.{◌≡◌, refl, sym, ap, ap₂, ◌∙◌}
use mathlib.Core.List.{List, [], ◌∷◌, ◌++◌, map}
use mathlib.Core.Bool.{true, false}
use native.Mathlib.Nat.{add-zero}
use native.Mathlib.Omega.{arith}
use lib.ListN.{length, drop}
use lib.Seq.{drop_at, drop-append_seam}
use lib.Dec.{leb, eqb}
use borrow.Author.Tests.{leb-true, eqb-true}
use Rattle.common.specs.Choice.{pick}
use Rattle.common.proofs.Tests.{both-each}
use Rattle.integer.specs.Integer.{greatest}
use Rattle.field.specs.Outcome.{whole}
use Rattle.field.specs.Entries.{longest_track, few}
use Rattle.field.specs.Fields.{FieldForm, integer, byte, bytes, list, track}
use Rattle.field.specs.Value.{Value, number, octet, text, items, full_name, EntryValue, total, mean, enc_field, encode}
use Rattle.field.specs.declared.Kind.{Kind}
use Rattle.field.specs.declared.Kind.TheVariants.{Namespace, Parameters, Versions}
use Rattle.field.specs.declared.Piece.{Piece}
use Rattle.field.specs.declared.Piece.TheVariants.{Number, Byte, Bytes, List as Listing, Track as Tracked}
use Rattle.field.proofs.Back.{From, from_start, front, behind, further, Fit, a_field, a_parameter, a_version, AllFit, none, more, ListFit, FieldBack, integer-field, byte-field, bytes-field, list-field, track-field}
use Rattle.layout.specs.declared.FieldName.{FieldName}
use Rattle.layout.specs.Layout.{Layout, done, forbidden, field, when, control, scan, values_by}
use Rattle.layout.specs.Permitted.{good_item, good_items, within, good_list, good, form_of, handed, code, permitted}

-- ---- what is good, by its parts

-- what follows from a test that failed and passed: anything
never : {A : Type 0} → false ≡ true → A
never h = absurd (let z : ◌≡◌ {A = ℕ} 0 1 = cc in omega arith)

-- a good entry can be written,
pub item-fit : (kind : Kind) (i : EntryValue) → good_item kind i ≡ true → Fit kind i
unfolding good_item
item-fit Namespace i h =
    let p = both-each (eqb i.number 0) (leb (length i.bytes) greatest) h in
    a_field (eqb-true i.number 0 p.0) (leb-true (length i.bytes) greatest p.1)
item-fit Parameters i h =
    let p = both-each (leb i.number greatest) (leb (length i.bytes) greatest) h in
    a_parameter (leb-true i.number greatest p.0) (leb-true (length i.bytes) greatest p.1)
item-fit Versions i h =
    let p = both-each (leb i.number greatest) (eqb (length i.bytes) 0) h in
    a_version (leb-true i.number greatest p.0) (eqb-true (length i.bytes) 0 p.1)

-- each of good entries can,
pub items-fit : (kind : Kind) (is : List EntryValue) → good_items kind is ≡ true → AllFit kind is
unfolding good_items
items-fit kind [] h = none
items-fit kind (i ∷ is) h =
    let p = both-each (good_item kind i) (good_items kind is) h in
    more (item-fit kind i p.0) (items-fit kind is p.1)

-- in a namespace there are at most 4,096 bytes,
within-room : (kind : Kind) (held : ℕ) → within kind held ≡ true → kind ≡ Namespace → held ≤ longest_track
unfolding within
within-room kind held h e = leb-true held longest_track (rw e at h)

-- and a good list can be written and is not over a size
pub list-fit : (kind : Kind) (is : List EntryValue) (also : ℕ) → good_list kind is also ≡ true → ListFit kind is also
unfolding good_list
list-fit kind is also h =
    let p = both-each (leb (length is) greatest) _ h in
    let q = both-each (few kind (length is)) _ p.1 in
    let r = both-each (good_items kind is) (within kind (total is + also)) q.1 in
    record {
      countable = leb-true (length is) greatest p.0;
      few-enough = q.0;
      all_fit = items-fit kind is r.0;
      room = within-room kind (total is + also) r.1;
    }

-- ---- a field

-- a good value is read back by its form
pub field_back : (s : List ℕ) (v : Value) {at : ℕ} {rest : List ℕ} → good v ≡ true → From s at (enc_field v) rest → FieldBack (form_of v) s at v
unfolding good enc_field
field_back s (number n) h f = integer-field s n (leb-true n greatest h) f
field_back s (octet b) h f = byte-field s b f
field_back s (text b) h f = bytes-field s b (leb-true (length b) greatest h) f
field_back s (items kind is) h f = list-field kind s (list-fit kind is 0 h) f
field_back s (full_name is name) h f = track-field s name (list-fit Namespace is (length name) h) f

-- a piece hands on what its value does
pub hands : (s : List ℕ) (p : Piece) → control p ≡ handed (mean s p)
unfolding mean
hands s (Number n) = refl
hands s (Byte b) = refl
hands s (Bytes p) = refl
hands s (Listing kind l) = refl
hands s (Tracked t) = refl

-- the form that has a number,
numbered : ℕ → FieldForm
numbered n =
    pick (eqb n 0) integer (pick (eqb n 1) byte (pick (eqb n 2) bytes (pick (eqb n 3) (list Namespace) (pick (eqb n 4) (list Parameters) (pick (eqb n 5) (list Versions) track)))))

-- which is the form that it was given for,
numbered-code : (f : FieldForm) → numbered (code f) ≡ f
unfolding numbered code
numbered-code integer = refl
numbered-code byte = refl
numbered-code bytes = refl
numbered-code (list Namespace) = refl
numbered-code (list Parameters) = refl
numbered-code (list Versions) = refl
numbered-code track = refl

-- so that forms with the same number are the same
pub code-once : (f g : FieldForm) → code f ≡ code g → f ≡ g
code-once f g e = sym (numbered-code f) ∙ ap numbered e ∙ numbered-code g

-- ---- a layout

-- a first field that is permitted: it is of its form and good, and the others are permitted after it
pub record FieldPermitted (form : FieldForm) (next : ℕ → Layout) (v : Value) (vs : List Value) : Type 0 where
  pub of-form : form ≡ form_of v
  pub is-good : good v ≡ true
  pub others : permitted (next (handed v)) vs ≡ true

-- these are the parts of the test
pub field-permitted : (name : FieldName) (form : FieldForm) (next : ℕ → Layout) (v : Value) (vs : List Value) → permitted (field name form next) (v ∷ vs) ≡ true → FieldPermitted form next v vs
unfolding permitted
field-permitted name form next v vs h =
    let p = both-each (eqb (code form) (code (form_of v))) _ h in
    let q = both-each (good v) (permitted (next (handed v)) vs) p.1 in
    record { of-form = code-once form (form_of v) (eqb-true (code form) (code (form_of v)) p.0); is-good = q.0; others = q.1 }

-- fields stand at an offset: they are read there by a layout up to their end, and mean the values
pub record ScanBack (l : Layout) (s : List ℕ) (at : ℕ) (vs : List Value) : Type 0 where
  pub found : List Piece
  pub reads : scan l s at ≡ whole found (at + length (encode vs))
  pub means : map (mean s) found ≡ vs

-- a first field, and others by what follows it
field-scan : (name : FieldName) (form : FieldForm) (next : ℕ → Layout) (s : List ℕ) (at : ℕ) (v : Value) (vs : List Value) → form ≡ form_of v → FieldBack (form_of v) s at v → ScanBack (next (handed v)) s (at + length (enc_field v)) vs
    → ScanBack (field name form next) s at (v ∷ vs)
unfolding scan encode
field-scan name form next s at v vs e f o =
    let c : control f.found ≡ handed v = hands s f.found ∙ ap handed f.means in
    record {
      found = f.found ∷ o.found;
      reads = rw (e, f.reads, c, o.reads, further at (enc_field v) (encode vs));
      means = ap₂ (λ (w : Value) (ws : List Value). w ∷ ws) f.means o.means;
    }

-- permitted fields are read back
pub scan-back : (l : Layout) (vs : List Value) (s : List ℕ) {at : ℕ} {rest : List ℕ} → permitted l vs ≡ true → From s at (encode vs) rest → ScanBack l s at vs
unfolding permitted scan encode
scan-back done [] s {at} h f = record { found = []; reads = ap (whole []) (sym (add-zero at)); means = refl }
scan-back done (v ∷ vs) s h f = never h
scan-back forbidden vs s h f = never h
scan-back (field name form next) [] s h f = never h
scan-back (field name form next) (v ∷ vs) s {at} h f =
    let p = field-permitted name form next v vs h in
    let o = scan-back (next (handed v)) vs s p.others (behind (enc_field v) (encode vs) f) in
    field-scan name form next s at v vs p.of-form (field_back s v p.is-good (front (enc_field v) (encode vs) f)) o
scan-back (when true l m) vs s h f =
    let r = scan-back l vs s h f in
    record { found = r.found; reads = r.reads; means = r.means }
scan-back (when false l m) vs s h f =
    let r = scan-back m vs s h f in
    record { found = r.found; reads = r.reads; means = r.means }

-- A permitted list of fields, encoded at any offset and followed by anything, is read back as the same fields, and exactly those
-- bytes are used.
pub reads-back : (l : Layout) (vs : List Value) (before rest : List ℕ) → permitted l vs ≡ true
    → values_by l (before ++ (encode vs ++ rest)) (length before) ≡ whole vs (length before + length (encode vs))
unfolding values_by
reads-back l vs before rest h =
    let r = scan-back l vs (before ++ (encode vs ++ rest)) h (from_start before (encode vs) rest) in
    rw (r.reads, r.means)

-- No encoding begins another: two lists of fields that one layout permits and that are encoded alike are the same, and so is what
-- follows.
pub apart : (l : Layout) (vs ws : List Value) (s t : List ℕ) → permitted l vs ≡ true → permitted l ws ≡ true
    → encode vs ++ s ≡ encode ws ++ t → (vs ≡ ws) × (s ≡ t)
apart l vs ws s t h k e =
    let p = reads-back l vs [] s h in
    let q = reads-back l ws [] t k in
    let same : vs ≡ ws = cc in
    let long : length (encode vs) ≡ length (encode ws) = ap (λ (us : List Value). length (encode us)) same in
    (same, sym (drop_at (encode vs) s (length (encode ws)) long) ∙ ap (drop (length (encode ws))) e ∙ drop-append_seam (encode ws) t)

-- The reading of given bytes is unique.
pub once : (l : Layout) (s : List ℕ) (at : ℕ) {vs ws : List Value} {e f : ℕ} → values_by l s at ≡ whole vs e → values_by l s at ≡ whole ws f → (vs ≡ ws) × (e ≡ f)
once l s at p q = (cc, cc)
