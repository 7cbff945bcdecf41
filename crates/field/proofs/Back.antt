-- What is encoded is read back, field by field: the shortest form of a value, wherever it stands in bytes and whatever follows
-- it, is read up to its end, and means that value. Assumes nothing.
use Prim.Native.Nat.{ℕ, ◌+◌, ◌-◌, ◌≤◌}
use mathlib.Core.Path.{◌≡◌, refl, sym, ap, ap₂, ◌∙◌}
use mathlib.Core.List.{List, [], ◌∷◌, ◌++◌, append_assoc}
use mathlib.Core.Bool.{true}
use native.Mathlib.Nat.{add-zero, zero-add, add_assoc}
use native.Mathlib.Omega.{arith}
use lib.ListN.{length, drop, get_or, length-append}
use lib.Seq.{drop-drop, drop-append_seam, take-append_seam, get_or-drop}
use borrow.Author.Tests.{lt-ltb}
use Rattle.integer.specs.Integer.{enc_of, greatest}
use Rattle.integer.proofs.Laws.{round_trip}
use Rattle.field.specs.Outcome.{whole}
use Rattle.field.specs.Entries.{longest_track, size, number_at, text_at, numbered_at, entry_at, most_of, entries_at, few, Listed, list_at}
use Rattle.field.specs.Fields.{FieldForm, integer, byte, bytes, list, track, field_at}
use Rattle.field.specs.Value.{part, EntryValue, entry_value, entry_values, total, Value, number, octet, text, items, full_name, contents, mean, enc_text, enc_item, enc_items, enc_list, enc_field}
use Rattle.field.specs.declared.Span.{Span}
use Rattle.field.specs.declared.Entry.{Entry}
use Rattle.field.specs.declared.Kind.{Kind}
use Rattle.field.specs.declared.Kind.TheVariants.{Namespace, Parameters, Versions}
use Rattle.field.specs.declared.Piece.{Piece}
use Rattle.field.specs.declared.Piece.TheVariants.{Number, Byte, Bytes, List as Listing, Track as Tracked}
use Rattle.field.proofs.Found.{span, number_read, text_of}

-- ---- where bytes stand

-- from an offset on, s is xs, and then rest
pub record From (s : List ℕ) (at : ℕ) (xs rest : List ℕ) : Type 0 where
  pub within : at + length xs ≤ length s
  pub here : drop at s ≡ xs ++ rest

-- so it is after whatever comes before
pub from_start : (before xs rest : List ℕ) → From (before ++ (xs ++ rest)) (length before) xs rest
from_start before xs rest =
    record {
      within = omega (arith, length-append before (xs ++ rest), length-append xs rest);
      here = drop-append_seam before (xs ++ rest);
    }

-- two things that stand there one after the other: the first of them,
pub front : {s : List ℕ} {at : ℕ} (xs ys : List ℕ) {rest : List ℕ} → From s at (xs ++ ys) rest → From s at xs (ys ++ rest)
front xs ys {rest} f = record { within = omega (arith, f.within, length-append xs ys); here = f.here ∙ append_assoc xs ys rest }

-- and the second
pub behind : {s : List ℕ} {at : ℕ} (xs ys : List ℕ) {rest : List ℕ} → From s at (xs ++ ys) rest → From s (at + length xs) ys rest
behind {s} {at} xs ys {rest} f =
    record {
      within = omega (arith, f.within, length-append xs ys);
      here = sym (drop-drop (length xs) at s) ∙ ap (drop (length xs)) (front xs ys f).here ∙ drop-append_seam xs (ys ++ rest);
    }

-- where the second ends
pub further : (at : ℕ) (xs ys : List ℕ) → at + length xs + length ys ≡ at + length (xs ++ ys)
further at xs ys = rw length-append (add_assoc at (length xs) (length ys))

-- the part that they are
pub part-back : {s : List ℕ} {at : ℕ} (xs : List ℕ) {rest : List ℕ} → From s at xs rest → part s (span at (length xs)) ≡ xs
part-back {s} {at} xs {rest} f =
    let z : at + length xs - at ≡ length xs = omega arith in
    rw (z, f.here) (take-append_seam xs rest)

-- ---- an integer, and a length and bytes

-- an integer is read where its shortest form stands
pub number-back : (s : List ℕ) (n : ℕ) {at : ℕ} {rest : List ℕ} → n ≤ greatest → From s at (enc_of n) rest → number_at s at ≡ whole n (at + length (enc_of n))
number-back s n {at} {rest} h f = number_read s at (rw f.here (round_trip n rest h))

-- the part that bytes are whose length stands at an offset
abbrev pub text_span : ℕ → List ℕ → Span
text_span at b = span (at + length (enc_of (length b))) (length b)

-- it is read, up to its end, where it may be as long,
pub text-back : (most : ℕ) (s : List ℕ) (b : List ℕ) {at : ℕ} {rest : List ℕ} → length b ≤ greatest → length b ≤ most → From s at (enc_text b) rest
    → text_at most s at ≡ whole (text_span at b) (at + length (enc_text b))
unfolding enc_text
text-back most s b {at} h k f =
    let n = number-back s (length b) h (front (enc_of (length b)) b f) in
    let w = (behind (enc_of (length b)) b f).within in
    text_of most s at n k (omega arith) ∙ ap (whole (text_span at b)) (further at (enc_of (length b)) b)

-- and is the bytes
pub text-part : (s : List ℕ) (b : List ℕ) {at : ℕ} {rest : List ℕ} → From s at (enc_text b) rest → part s (text_span at b) ≡ b
unfolding enc_text
text-part s b f = part-back b (behind (enc_of (length b)) b f)

-- ---- an entry

-- an entry that can be written, and has nothing that its kind has no place for
pub data Fit : Kind → EntryValue → Type 0 where
  a_field : {i : EntryValue} → i.number ≡ 0 → length i.bytes ≤ greatest → Fit Namespace i
  a_parameter : {i : EntryValue} → i.number ≤ greatest → length i.bytes ≤ greatest → Fit Parameters i
  a_version : {i : EntryValue} → i.number ≤ greatest → length i.bytes ≡ 0 → Fit Versions i

-- an entry stands at an offset: it is read there up to its end, and is the item
pub record EntryBack (kind : Kind) (most : ℕ) (s : List ℕ) (at : ℕ) (i : EntryValue) : Type 0 where
  pub found : Entry
  pub reads : entry_at kind most s at ≡ whole found (at + length (enc_item kind i))
  pub means : entry_value s found ≡ i
  pub holds : size found.bytes ≡ length i.bytes

-- a number that was found before it, and a length and bytes
numbered-back : (n most : ℕ) (s b : List ℕ) {at : ℕ} {rest : List ℕ} → length b ≤ greatest → length b ≤ most → From s at (enc_text b) rest
    → numbered_at n most s at ≡ whole (record { number = n; bytes = text_span at b }) (at + length (enc_text b))
unfolding numbered_at
numbered-back n most s b h k f = rw (text-back most s b h k f)

-- an item is its number and its bytes
item-is : (i : EntryValue) {n : ℕ} {b : List ℕ} → n ≡ i.number → b ≡ i.bytes → record { number = n; bytes = b } ≡ i
item-is i e f = ap₂ (λ (n : ℕ) (b : List ℕ). record { number = n; bytes = b }) e f

-- of no length are only no bytes
no_bytes : (b : List ℕ) → length b ≡ 0 → [] ≡ b
no_bytes [] h = refl
no_bytes (x ∷ b) h = absurd (omega arith)

-- an entry of each kind is read back, where it may hold as many bytes
pub entry-back : {kind : Kind} {i : EntryValue} (most : ℕ) (s : List ℕ) {at : ℕ} {rest : List ℕ} → Fit kind i → length i.bytes ≤ most → From s at (enc_item kind i) rest → EntryBack kind most s at i
unfolding entry_at enc_item
entry-back {i = i} most s {at} (a_field z h) k f =
    let b = i.bytes in
    record {
      found = record { number = 0; bytes = text_span at b };
      reads = numbered-back 0 most s b h k f;
      means = item-is i (sym z) (text-part s b f);
      holds = omega arith;
    }
entry-back {i = i} most s {at} (a_parameter n h) k f =
    let b = i.bytes in
    let type = enc_of i.number in
    let g = behind type (enc_text b) f in
    record {
      found = record { number = i.number; bytes = text_span (at + length type) b };
      reads = rw (number-back s i.number n (front type (enc_text b) f), ← further at type (enc_text b)) (numbered-back i.number most s b h k g);
      means = item-is i refl (text-part s b g);
      holds = omega arith;
    }
entry-back {i = i} most s {at} (a_version n h) k f =
    let end = at + length (enc_of i.number) in
    let z : end - end ≡ 0 = omega arith in
    record {
      found = record { number = i.number; bytes = record { start = end; end = end } };
      reads = rw (number-back s i.number n f);
      means = rw z (item-is i refl (no_bytes i.bytes h));
      holds = omega arith;
    }

-- ---- entries, one after the other

-- each of them can be written
pub data AllFit (kind : Kind) : List EntryValue → Type 0 where
  none : AllFit kind []
  more : {i : EntryValue} {is : List EntryValue} → Fit kind i → AllFit kind is → AllFit kind (i ∷ is)

-- no length is too great to be written
fit-little : {kind : Kind} {i : EntryValue} → Fit kind i → length i.bytes ≤ greatest
fit-little (a_field z h) = h
fit-little (a_parameter n h) = h
fit-little (a_version n h) = omega arith

-- as many bytes more are not too many: in a namespace there are at most `longest_track`
fit-most : (kind : Kind) (held : ℕ) {n : ℕ} → n ≤ greatest → (kind ≡ Namespace → held + n ≤ longest_track) → n ≤ most_of true kind held
unfolding most_of
fit-most Namespace held h room = omega (arith, room refl)
fit-most Parameters held h room = h
fit-most Versions held h room = h

-- as many as there are items are read, up to their end, and hold the bytes that the items hold
pub entries-back : (kind : Kind) {is : List EntryValue} (s : List ℕ) (held : ℕ) {at : ℕ} {rest : List ℕ} → AllFit kind is → (kind ≡ Namespace → held + total is ≤ longest_track)
    → From s at (enc_items kind is) rest → entries_at true kind (length is) held s at ≡ whole (held + total is) (at + length (enc_items kind is))
unfolding entries_at enc_items total
entries-back kind s held {at} none room f = rw (add-zero held, add-zero at)
entries-back kind s held {at} (more {i = i} {is = is} h hs) room f =
    let xs = enc_item kind i in
    let ys = enc_items kind is in
    let e = entry-back (most_of true kind held) s h (fit-most kind held (fit-little h) (λ n. omega (arith, room n))) (front xs ys f) in
    rw (e.reads, e.holds, ← further at xs ys, ← add_assoc held (length i.bytes) (total is))
    (entries-back kind s (held + length i.bytes) hs (λ n. omega (arith, room n)) (behind xs ys f))

-- and they are the items
pub items_back : (kind : Kind) {is : List EntryValue} (s : List ℕ) {at : ℕ} {rest : List ℕ} → AllFit kind is → From s at (enc_items kind is) rest → entry_values kind (length is) s at ≡ is
unfolding entry_values enc_items
items_back kind s none f = refl
items_back kind s (more {i = i} {is = is} h hs) f =
    let xs = enc_item kind i in
    let ys = enc_items kind is in
    let e = entry-back greatest s h (fit-little h) (front xs ys f) in
    rw (e.reads, e.means, items_back kind s hs (behind xs ys f))

-- ---- a count and as many entries

-- a list that can be written and is not over a size, with that many bytes of a name
pub record ListFit (kind : Kind) (is : List EntryValue) (also : ℕ) : Type 0 where
  pub countable : length is ≤ greatest
  pub few-enough : few kind (length is) ≡ true
  pub all_fit : AllFit kind is
  pub room : kind ≡ Namespace → total is + also ≤ longest_track

-- what is found where it stands
abbrev pub listed : Kind → ℕ → List EntryValue → Listed
listed kind at is =
    record { entries = record { start = at + length (enc_of (length is)); end = at + length (enc_list kind is); count = length is }; held = total is }

-- it is read, up to its end,
pub list_back : (kind : Kind) (s : List ℕ) {is : List EntryValue} {also at : ℕ} {rest : List ℕ} → ListFit kind is also → From s at (enc_list kind is) rest
    → list_at kind s at ≡ whole (listed kind at is) (at + length (enc_list kind is))
unfolding list_at enc_list
list_back kind s {is} {at = at} h f =
    let count = enc_of (length is) in
    let ys = enc_items kind is in
    let z : 0 + total is ≡ total is = zero-add (total is) in
    let e = entries-back kind s 0 h.all_fit (λ n. omega (arith, h.room n)) (behind count ys f) in
    rw (number-back s (length is) h.countable (front count ys f), h.few-enough, e, z, further at count ys)

-- and holds the items
pub list-items : (kind : Kind) (s : List ℕ) {is : List EntryValue} {also at : ℕ} {rest : List ℕ} → ListFit kind is also → From s at (enc_list kind is) rest
    → contents s kind (listed kind at is).entries ≡ is
unfolding enc_list
list-items kind s {is} h f = items_back kind s h.all_fit (behind (enc_of (length is)) (enc_items kind is) f)

-- ---- a field: so for each form

-- a field stands at an offset: it is read there up to its end, and means the value
pub record FieldBack (form : FieldForm) (s : List ℕ) (at : ℕ) (v : Value) : Type 0 where
  pub found : Piece
  pub reads : field_at form s at ≡ whole found (at + length (enc_field v))
  pub means : mean s found ≡ v

-- a number up to the greatest
pub integer-field : (s : List ℕ) (n : ℕ) {at : ℕ} {rest : List ℕ} → n ≤ greatest → From s at (enc_of n) rest → FieldBack integer s at (number n)
unfolding field_at enc_field mean
integer-field s n h f = record { found = Number n; reads = rw (number-back s n h f); means = refl }

-- a byte, whatever it is
pub byte-field : (s : List ℕ) (b : ℕ) {at : ℕ} {rest : List ℕ} → From s at (b ∷ []) rest → FieldBack byte s at (octet b)
unfolding field_at enc_field mean
byte-field s b {at} f =
    let w = f.within in
    let z : at + 0 ≡ at = add-zero at in
    let e : get_or s at 0 ≡ b = rw z at (sym (get_or-drop at s 0 0)) ∙ ap (λ (x : List ℕ). get_or x 0 0) f.here in
    record { found = Byte b; reads = rw (lt-ltb at (length s) (omega arith), e); means = refl }

-- bytes that are no longer than a length can say
pub bytes-field : (s b : List ℕ) {at : ℕ} {rest : List ℕ} → length b ≤ greatest → From s at (enc_text b) rest → FieldBack bytes s at (text b)
unfolding field_at enc_field mean
bytes-field s b {at} h f = record { found = Bytes (text_span at b); reads = rw (text-back greatest s b h h f); means = ap text (text-part s b f) }

-- a list of each kind
pub list-field : (kind : Kind) (s : List ℕ) {is : List EntryValue} {also at : ℕ} {rest : List ℕ} → ListFit kind is also → From s at (enc_list kind is) rest → FieldBack (list kind) s at (items kind is)
unfolding field_at enc_field mean
list-field kind s {is} {at = at} h f =
    record { found = Listing kind (listed kind at is).entries; reads = rw (list_back kind s h f); means = ap (items kind) (list-items kind s h f) }

-- a full track name: the namespace leaves its name room
pub track-field : (s : List ℕ) {is : List EntryValue} (name : List ℕ) {at : ℕ} {rest : List ℕ} → ListFit Namespace is (length name) → From s at (enc_list Namespace is ++ enc_text name) rest
    → FieldBack track s at (full_name is name)
unfolding field_at enc_field mean most_of
track-field s {is} name {at} h f =
    let xs = enc_list Namespace is in
    let ys = enc_text name in
    let next = at + length xs in
    let r = h.room refl in
    let g = behind xs ys f in
    record {
      found = Tracked (record { namespace = (listed Namespace at is).entries; name = text_span next name });
      reads = rw (list_back Namespace s h (front xs ys f), text-back (longest_track - total is) s name (omega arith) (omega arith) g, further at xs ys);
      means = ap₂ full_name (list-items Namespace s h (front xs ys f)) (text-part s name g);
    }
