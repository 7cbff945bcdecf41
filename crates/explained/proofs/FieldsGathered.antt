-- What was read whole is gathered from its parts again. Assumes nothing.
use Prim.Native.Nat.{ℕ, zero, suc, ◌+◌, ◌-◌, ◌*◌, ◌≤◌, ◌<◌}
use mathlib.Core.Path.{◌≡◌, refl, sym, ap, ◌∙◌}
use mathlib.Core.List.{List, [], ◌∷◌, ◌++◌, append_assoc}
use mathlib.Core.Bool.{Bool, true}
use native.Mathlib.Omega.{arith}
use lib.ListN.{length, get_or, drop, length-append}
use lib.Seq.{drop-append-add, get_or-append-add}
use lib.Dec.{leb}
use borrow.Author.Tests.{le-leb, lt-ltb}
use Rattle.common.specs.Choice.{guard}
use Rattle.integer.specs.Integer.{greatest}
use Rattle.field.specs.Outcome.{Outcome, whole, on_found}
use Rattle.field.specs.Entries.{size, longest_track, number_at, text_at, numbered_at, entry_at, most_of, entries_at, Listed, list_at}
use Rattle.field.specs.Fields.{FieldForm}
use Rattle.field.specs.declared.Span.{Span}
use Rattle.field.specs.declared.Entry.{Entry}
use Rattle.field.specs.declared.Kind.{Kind}
use Rattle.field.specs.declared.Kind.TheVariants.{Namespace, Parameters, Versions}
use Rattle.field.specs.declared.Piece.{Piece}
use Rattle.field.proofs.Found.{steps, number-at, text_at_lem}
use Rattle.field.proofs.Pieces.{as-told, list_at_lem, FieldAt, a-number, a_byte_lem, some_bytes_lem, a-list, a-track}
use Rattle.layout.specs.Layout.{Layout, scan, control}
use Rattle.layout.specs.declared.FieldName.{FieldName}
use Rattle.layout.proofs.Scanned.{Scanned, at-end, one_more, taken, left, scanned}
use Rattle.parts.specs.Telling.{part_of}
use Rattle.parts.specs.declared.What.{What}
use Rattle.parts.specs.declared.What.TheVariants.{Number, Byte, Length, Content, Count, EntryNumber, EntryLength, EntryContent}
use Rattle.parts.specs.declared.Part.{Part}
use Rattle.explained.specs.Grammar.{Parts, a_number, a_byte, some_bytes, within, entry_parts, list_parts, field_parts, parts_of}
use Rattle.explained.specs.Explaining.{first, cut_at, explain}
use Rattle.explained.specs.Gathering.{part_at, parts_in, last_of, parts_of_field, field_of, gathered}

-- ---- parts in a row

-- where the last of them ends; none end where they begin
abbrev last_end : ℕ → List Part → ℕ
last_end at [] = at
last_end at (p ∷ ps) = last_end p.end ps

last-join : (at : ℕ) (ps qs : List Part) → last_end at (ps ++ qs) ≡ last_end (last_end at ps) qs
last-join at [] qs = refl
last-join at (p ∷ ps) qs = last-join p.end ps qs

-- it is found by how many they are
last_found : (p : Part) (ps qs : List Part) → (part_at (p ∷ (ps ++ qs)) (length ps)).end ≡ last_end p.end ps
last_found p [] qs = refl
last_found p (r ∷ ps) qs = last_found r ps qs

-- parts of that many entries, from an offset up to another, and those after them
record Run (kind : Kind) (count at end : ℕ) (all rest : List Part) : Type 0 where
  run : List Part
  joined : all ≡ run ++ rest
  many : length run ≡ parts_in kind * count
  ends : last_end at run ≡ end

no_more : (kind : Kind) (at : ℕ) (rest : List Part) → Run kind 0 at at rest rest
no_more kind at rest = record { run = []; joined = refl; many = none kind; ends = refl }
  where
    none : (kind : Kind) → 0 ≡ parts_in kind * 0
    none Namespace = refl
    none Parameters = refl
    none Versions = refl

-- one entry, and more
then-more : {kind : Kind} {count at mid end : ℕ} {all middle rest : List Part} → Run kind 1 at mid all middle → Run kind count mid end middle rest → Run kind (suc count) at end all rest
then-more {kind} {count} {at} {rest = rest} a b =
    record {
      run = a.run ++ b.run;
      joined = a.joined ∙ rw b.joined (sym (append_assoc a.run b.run rest));
      many = rw (length-append, a.many, b.many) (more kind);
      ends = last-join at a.run b.run ∙ rw a.ends b.ends;
    }
  where
    more : (kind : Kind) → parts_in kind * 1 + parts_in kind * count ≡ parts_in kind * suc count
    more Namespace = omega arith
    more Parameters = omega arith
    more Versions = omega arith

-- ---- the parts of a list: its count, its entries, and those behind it

module _ (kind : Kind) {at end : ℕ} (p : Part) {all rest : List Part} (r : Run kind p.value at end all rest) (starts : p.end ≡ at) where
  -- where its last part stands,
  last-at : (part_at (p ∷ all) (last_of kind (p ∷ all))).end ≡ end
  last-at =
      rw (r.joined, ← r.many) (last_found p r.run rest ∙ ap (λ (from : ℕ). last_end from r.run) starts ∙ r.ends)

  -- what is left behind it,
  left_behind : (n : ℕ) → drop (last_of kind (p ∷ all) + (n + 1)) (p ∷ all) ≡ drop n rest
  left_behind n =
      let z : length r.run + (n + 1) ≡ suc (length r.run + n) = omega arith in
      rw (r.joined, ← r.many, z) (drop-append-add r.run rest n)

  -- and what stands there
  stands-behind : (n : ℕ) → part_at (p ∷ all) (last_of kind (p ∷ all) + (n + 1)) ≡ part_at rest n
  stands-behind n =
      let z : length r.run + (n + 1) ≡ suc (length r.run + n) = omega arith in
      rw (r.joined, ← r.many, z) (get_or-append-add r.run rest n _)

-- ---- what is shown of a field

module _ (cut : ℕ) (name : FieldName) (s : List ℕ) where
  abbrev shown : Parts → ℕ → List Part
  shown ps at = (explain cut ps s at).parts

  -- ---- an integer, and a length and bytes

  number-shown : (what : What) (next : ℕ → Parts) (at : ℕ) {n end : ℕ} → number_at s at ≡ whole n end → shown (a_number name what next) at ≡ part_of name what n at end ∷ shown (next n) end
  unfolding explain
  number-shown what next at e =
      ap (λ (o : Outcome ℕ). (on_found o (cut_at cut name what s at) (λ n last. first (part_of name what n at last) (explain cut (next n) s last))).parts) e

  byte-shown : (next : ℕ → Parts) (at : ℕ) → at < length s → shown (a_byte name next) at ≡ part_of name Byte (get_or s at 0) at (at + 1) ∷ shown (next (get_or s at 0)) (at + 1)
  unfolding explain
  byte-shown next at h =
      ap (λ (t : Bool). (guard t (cut_at cut name Byte s at) (first (part_of name Byte (get_or s at 0) at (at + 1)) (explain cut (next (get_or s at 0)) s (at + 1)))).parts) (lt-ltb at (length s) h)

  bytes-shown : (what : What) (n : ℕ) (next : Parts) (at : ℕ) {end : ℕ} → at + n ≡ end → n ≤ length s - at → shown (some_bytes name what n next) at ≡ part_of name what 0 at end ∷ shown next end
  unfolding explain
  bytes-shown what n next at e h =
      ap (λ (t : Bool). (guard t (cut_at cut name what s at) (first (part_of name what 0 at (at + n)) (explain cut next s (at + n)))).parts) (le-leb n (length s - at) h)
      ∙ ap (λ (last : ℕ). part_of name what 0 at last ∷ shown next last) e

  -- a length, judged, and as many bytes
  text-shown : (most : ℕ) (ps : ℕ → Parts) (length-is what : What) (next : ℕ → Parts) (at : ℕ) {p : Span} {end : ℕ} → ((n start : ℕ) → number_at s at ≡ whole n start → ps n ≡ within (leb n most) (some_bytes name what n (next n))) → text_at most s at ≡ whole p end
      → shown (a_number name length-is ps) at ≡ part_of name length-is (size p) at p.start ∷ (part_of name what 0 p.start end ∷ shown (next (size p)) end)
  text-shown most ps length-is what next at {p} {end} h e =
      let t = text_at_lem most s at e in
      let n = size p in
      let judged : ps n ≡ some_bytes name what n (next n) = h n p.start t.length_at ∙ rw (le-leb n most t.short) in
      number-shown length-is ps at t.length_at
      ∙ ap (λ (qs : List Part). part_of name length-is n at p.start ∷ qs) (ap (λ (q : Parts). shown q p.start) judged
      ∙ bytes-shown what n (next n) p.start (omega (arith, t.ordered, t.ends)) (omega (arith, t.within, t.ordered)))

  any-text-shown : (length-is what : What) (next : ℕ → Parts) (at : ℕ) {p : Span} {end : ℕ} → text_at greatest s at ≡ whole p end
      → shown (a_number name length-is λ n. some_bytes name what n (next n)) at ≡ part_of name length-is (size p) at p.start ∷ (part_of name what 0 p.start end ∷ shown (next (size p)) end)
  any-text-shown length-is what next at e =
      text-shown greatest (λ n. some_bytes name what n (next n)) length-is what next at
      (λ n start f. rw (le-leb n greatest (number-at s at f).small)) e

  -- ---- entries

  module _ (next : ℕ → Parts) where
    -- one, and what is shown behind it
    abbrev Entered : Kind → ℕ → ℕ → ℕ → Entry → ℕ → Type 0
    Entered kind count held at e end = Run kind 1 at end (shown (entry_parts kind name (suc count) held next) at) (shown (entry_parts kind name count (held + size e.bytes) next) end)

    entry-run : (kind : Kind) (count held at : ℕ) {e : Entry} {end : ℕ} → entry_at kind (most_of true kind held) s at ≡ whole e end → Entered kind count held at e end
    unfolding entry_at numbered_at entry_parts most_of
    entry-run Namespace count held at h =
        let t = steps (text_at (longest_track - held) s at) _ h in
        as-told (Entered Namespace count held at)
        (record {
          run = part_of name EntryLength (size t.found) at t.found.start ∷ (part_of name EntryContent 0 t.found.start t.end ∷ []);
          joined = text-shown (longest_track - held) _ EntryLength EntryContent _ at (λ n start f. refl) t.first;
          many = refl;
          ends = refl;
        })
        t.then
    entry-run Parameters count held at h =
        let u = steps (number_at s at) _ h in
        let t = steps (text_at greatest s u.end) _ u.then in
        let p = part_of name EntryNumber u.found at u.end in
        as-told (Entered Parameters count held at)
        (record {
          run = p ∷ (part_of name EntryLength (size t.found) u.end t.found.start ∷ (part_of name EntryContent 0 t.found.start t.end ∷ []));
          joined = number-shown EntryNumber _ at u.first
              ∙ ap (λ (ps : List Part). p ∷ ps) (any-text-shown EntryLength EntryContent (λ n. entry_parts Parameters name count (held + n) next) u.end t.first);
          many = refl;
          ends = refl;
        })
        t.then
    entry-run Versions count held at h =
        let u = steps (number_at s at) _ h in
        let z : held + (u.end - u.end) ≡ held = omega arith in
        as-told (Entered Versions count held at)
        (record {
          run = part_of name EntryNumber u.found at u.end ∷ [];
          joined = rw z (number-shown EntryNumber _ at u.first);
          many = refl;
          ends = refl;
        })
        u.then

    entries-run : (kind : Kind) (count held at : ℕ) {got end : ℕ} → entries_at true kind count held s at ≡ whole got end → Run kind count at end (shown (entry_parts kind name count held next) at) (shown (next got) end)
    unfolding entries_at entry_parts
    entries-run kind zero held at h =
        as-told (λ got end. Run kind 0 at end (shown (next held) at) (shown (next got) end)) (no_more kind at (shown (next held) at)) h
    entries-run kind (suc count) held at h =
        let t = steps (entry_at kind (most_of true kind held) s at) _ h in
        then-more (entry-run kind count held at t.first) (entries-run kind count (held + size t.found.bytes) t.end t.then)

  -- ---- a list

  module _ (kind : Kind) (next : ℕ → Parts) (at : ℕ) {l : Listed} {end : ℕ} (h : list_at kind s at ≡ whole l end) where
    abbrev count : Part
    count = part_of name Count l.entries.count at l.entries.start

    abbrev entries : List Part
    entries = shown (entry_parts kind name l.entries.count 0 next) l.entries.start

    list-shown : shown (list_parts kind name next) at ≡ count ∷ entries
    unfolding list_parts
    list-shown =
        let t = list_at_lem kind s at h in
        number-shown Count _ at t.count_at ∙ ap (λ (b : Bool). count ∷ shown (within b (entry_parts kind name l.entries.count 0 next)) l.entries.start) t.is-few

    list-run : Run kind l.entries.count l.entries.start l.entries.end entries (shown (next l.held) end)
    list-run =
        let t = list_at_lem kind s at h in
        rw t.ends (entries-run next kind l.entries.count 0 l.entries.start t.run)

  -- ---- a field of any form

  -- what follows the namespace of a track
  abbrev titled : (ℕ → Parts) → ℕ → Parts
  titled next held = a_number name Length λ n. within (leb n (most_of true Namespace held)) (some_bytes name Content n (next 0))

  -- the parts of a field, and those after it
  record Shown (form : FieldForm) (p : Piece) (all rest : List Part) : Type 0 where
    is : field_of form all ≡ p
    leaves : drop (parts_of_field form all) all ≡ rest

  field-shown : {at : ℕ} {form : FieldForm} {p : Piece} {end : ℕ} (next : ℕ → Parts) → FieldAt s at form p end → Shown form p (shown (field_parts form name next) at) (shown (next (control p)) end)
  unfolding field_parts field_of parts_of_field
  field-shown {at} next (a-number e) = rw (number-shown Number next at e) (record { is = refl; leaves = refl })
  field-shown {at} next (a_byte_lem e) = rw (byte-shown next at e) (record { is = refl; leaves = refl })
  field-shown {at} {end = end} next (some_bytes_lem {p = p} e) =
      let z : end ≡ p.end = (text_at_lem greatest s at e).ends in
      rw (any-text-shown Length Content (λ n. next 0) at e) (record { is = rw z; leaves = refl })
  field-shown {at} next (a-list {kind = kind} e) =
      let first = count kind (λ held. next 0) at e in
      let run = list-run kind (λ held. next 0) at e in
      rw (list-shown kind (λ held. next 0) at e)
      (record { is = rw (last-at kind first run refl); leaves = left_behind kind first run refl 0 })
  field-shown {at} {end = end} next (a-track {l = l} {next = mid} {name = title} e f) =
      let first = count Namespace (titled next) at e in
      let run = list-run Namespace (titled next) at e in
      let z : end ≡ title.end = (text_at_lem (most_of true Namespace l.held) s mid f).ends in
      let behind = text-shown (most_of true Namespace l.held) _ Length Content (λ n. next 0) mid (λ n start g. refl) f in
      rw (list-shown Namespace (titled next) at e)
      (record {
        is = rw (last-at Namespace first run refl, stands-behind Namespace first run refl 1, behind, z);
        leaves = left_behind Namespace first run refl 2 ∙ rw behind;
      })

-- ---- all fields

gathers : (cut : ℕ) {s : List ℕ} {l : Layout} {at : ℕ} {ps : List Piece} {end : ℕ} → Scanned s l at ps end → gathered l (explain cut (parts_of l) s at).parts ≡ ps
unfolding parts_of gathered explain
gathers cut at-end = refl
gathers cut {s} (one_more {name = name} {next = next} f r) =
    let h = field-shown cut name s (λ n. parts_of (next n)) f in
    rw (h.is, h.leaves, gathers cut r)
gathers cut (taken r) = gathers cut r
gathers cut (left r) = gathers cut r

pub layout-gathers : (cut : ℕ) (l : Layout) (s : List ℕ) (at : ℕ) {ps : List Piece} {end : ℕ} → scan l s at ≡ whole ps end → gathered l (explain cut (parts_of l) s at).parts ≡ ps
layout-gathers cut l s at h = gathers cut (scanned l s at h)
