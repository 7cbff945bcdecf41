-- At each place of a layout, and at each stage of a field, the machine stands before the parts that the definitions give.
-- Assumes nothing.
use Prim.Native.Nat.{ℕ, zero, suc, ◌+◌, ◌-◌, ◌≤◌, ◌<◌}
use mathlib.Core.Path.{◌≡◌, refl, sym, subst, ◌∙◌}
use mathlib.Core.List.{List, [], ◌∷◌, ◌++◌}
use mathlib.Core.Bool.{Bool, true, false}
use native.Mathlib.Numerals.{add-one}
use native.Mathlib.Omega.{arith}
use lib.ListN.{length, take, set, length-set}
use lib.Seq.{take-suc-set}
use lib.Dec.{leb}
use borrow.Author.Tests.{lt-ltb, leb-true}
use Rattle.common.specs.Choice.{guard}
use Rattle.field.specs.Entries.{longest_track, most_of, few}
use Rattle.field.specs.Fields.{FieldForm, integer, byte, bytes, list, track}
use Rattle.field.specs.declared.Fault.TheVariants.{Forbidden as IsForbidden}
use Rattle.field.specs.declared.Kind.{Kind}
use Rattle.field.specs.declared.Kind.TheVariants.{Namespace, Parameters, Versions}
use Rattle.layout.specs.Layout.{Layout, done, forbidden, field, when}
use Rattle.layout.specs.declared.FieldName.{FieldName}
use Rattle.outline.specs.Places.{form_in, ahead_of}
use Rattle.outline.specs.declared.Form.{Form}
use Rattle.outline.specs.declared.Form.TheVariants.{Integer, Byte as AByte, Bytes as SomeBytes, List as AList, Track as ATrack}
use Rattle.outline.specs.declared.Ahead.TheVariants.{Field}
use Rattle.outline.specs.declared.Outline.{Outline}
use Rattle.outline.specs.declared.Outline.TheVariants.{Message, Datagram, Stream, SubgroupObject, FetchObject}
use Rattle.parts.specs.Cursors.{most_fields, ahead_by, behind, hand_on}
use Rattle.parts.specs.Expecting.{kind_in, expected_in, expected_of}
use Rattle.parts.specs.Advancing.{entries_end, entries_left, counted_by, bounded_by, held_with, advanced_by, advanced}
use Rattle.parts.specs.Telling.{cut_by, tell_number, tell_bytes, tell_as, tell_in}
use Rattle.parts.specs.declared.What.{What}
use Rattle.parts.specs.declared.What.TheVariants.{Number, Length, Content, Count, EntryNumber, EntryLength, EntryContent}
use Rattle.parts.specs.declared.Place.{Place}
use Rattle.parts.specs.declared.Stage.{Stage}
use Rattle.parts.specs.declared.Stage.TheVariants.{TypeNumber as AtType, Length as AtLength, Refused as Stopped, Field as AtField, Content as AtContent, Entry as AtEntry, EntryLength as AtEntryLength, EntryContent as AtEntryContent, NameLength as AtName}
use Rattle.parts.specs.declared.Cursor.{Cursor}
use Rattle.explained.specs.Grammar.{Parts, a_number, some_bytes, within, entry_parts, list_parts, field_parts, parts_of}
use Rattle.explained.proofs.ComingParts.{cut_of, Stands, Comes, ends, stops, reads, looks, takes}
use Rattle.explained.proofs.PlacesReached.{Reached, reached-true, reached-false, reached-next, Shallow}

-- ---- stages

-- one that lies in a field
abbrev InField : Stage → Type 0
InField AtType = ⊥
InField AtLength = ⊥
InField (Stopped number) = ⊥
InField AtField = Unit {0}
InField (AtContent size) = Unit {0}
InField (AtEntry left held) = Unit {0}
InField (AtEntryLength left held) = Unit {0}
InField (AtEntryContent left held size) = Unit {0}
InField (AtName held) = Unit {0}

-- there the answer for a cut part is that for a cut field
cuts-alike : (outline : Outline) (stage : Stage) → InField stage → cut_by outline stage ≡ cut_of outline
cuts-alike (Message type) AtType i = absurd i
cuts-alike (Message type) AtLength i = absurd i
cuts-alike (Message type) (Stopped number) i = absurd i
cuts-alike (Message type) AtField i = refl
cuts-alike (Message type) (AtContent size) i = refl
cuts-alike (Message type) (AtEntry left held) i = refl
cuts-alike (Message type) (AtEntryLength left held) i = refl
cuts-alike (Message type) (AtEntryContent left held size) i = refl
cuts-alike (Message type) (AtName held) i = refl
cuts-alike (Datagram type) stage i = refl
cuts-alike (Stream type) stage i = refl
cuts-alike SubgroupObject stage i = refl
cuts-alike FetchObject stage i = refl

-- ---- bytes that entries hold

-- by the definitions, and by the machine: the same in a namespace; elsewhere none asks
abbrev Agree : Kind → ℕ → ℕ → Type 0
Agree Namespace held kept = (held ≡ kept) × (held ≤ longest_track)
Agree Parameters held kept = Unit {0}
Agree Versions held kept = Unit {0}

agree-first : (kind : Kind) → Agree kind 0 0
agree-first Namespace = (refl, omega arith)
agree-first Parameters = tt
agree-first Versions = tt

-- ---- what is to come

module _ (outline : Outline) (last size : ℕ) where
  abbrev Coming : Cursor → ℕ → Parts → Type 0
  Coming = Comes outline last size

  abbrev placed : List ℕ → ℕ → Place
  placed ns passed = record { outline = outline; numbers = ns; passed = passed }

  module _ (ns : List ℕ) (passed : ℕ) where
    abbrev cursor : Stage → ℕ → Cursor
    cursor stage at = record { place = placed ns passed; stage = stage; at = at; end = last }

    stands : (stage : Stage) (at : ℕ) → InField stage → Stands outline last at (cursor stage at)
    stands stage at i = record { laid = refl; here-at = refl; ends_at = refl; cuts = cuts-alike outline stage i }

    -- ---- in a field

    module _ (name : FieldName) (form : Form) (ahead : ahead_by (placed ns passed) ≡ Field name form) where
      -- behind a part the machine goes on by the field's form
      goes : (stage : Stage) (at n mid : ℕ) → InField stage → advanced (cursor stage at) n mid size ≡ advanced_by stage (cursor stage at) form n mid
      unfolding advanced
      goes AtType at n mid i = absurd i
      goes AtLength at n mid i = absurd i
      goes (Stopped number) at n mid i = absurd i
      goes AtField at n mid i = rw ahead
      goes (AtContent size) at n mid i = rw ahead
      goes (AtEntry left held) at n mid i = rw ahead
      goes (AtEntryLength left held) at n mid i = rw ahead
      goes (AtEntryContent left held size) at n mid i = rw ahead
      goes (AtName held) at n mid i = rw ahead

      -- and looks for what the form says
      looks-for : (stage : Stage) (at : ℕ) (t : List ℕ) → InField stage → tell_in t (cursor stage at) ≡ tell_as (expected_in name form stage) t (cursor stage at)
      unfolding tell_in expected_of
      looks-for AtType at t i = absurd i
      looks-for AtLength at t i = absurd i
      looks-for (Stopped number) at t i = absurd i
      looks-for AtField at t i = rw ahead
      looks-for (AtContent size) at t i = rw ahead
      looks-for (AtEntry left held) at t i = rw ahead
      looks-for (AtEntryLength left held) at t i = rw ahead
      looks-for (AtEntryContent left held size) at t i = rw ahead
      looks-for (AtName held) at t i = rw ahead

      -- so an integer is to come,
      number-comes : (stage : Stage) (at : ℕ) (what : What) (next : ℕ → Parts) → InField stage → ((t : List ℕ) → tell_as (expected_in name form stage) t (cursor stage at) ≡ tell_number t (cursor stage at) name what) → ((n mid : ℕ) → Coming (advanced_by stage (cursor stage at) form n mid) mid (next n))
          → Coming (cursor stage at) at (a_number name what next)
      number-comes stage at what next i e k =
          reads (stands stage at i) (λ t. looks-for stage at t i ∙ e t)
          (λ n mid. subst (λ (c : Cursor). Coming c mid (next n)) (sym (goes stage at n mid i)) (k n mid))

      -- or bytes
      bytes-come : (stage : Stage) (at : ℕ) (what : What) (n : ℕ) (next : Parts) → InField stage → ((t : List ℕ) → tell_as (expected_in name form stage) t (cursor stage at) ≡ tell_bytes t (cursor stage at) name what n) → ((mid : ℕ) → Coming (advanced_by stage (cursor stage at) form 0 mid) mid next)
          → Coming (cursor stage at) at (some_bytes name what n next)
      bytes-come stage at what n next i e k =
          takes (stands stage at i) (λ t. looks-for stage at t i ∙ e t)
          (λ mid. subst (λ (c : Cursor). Coming c mid next) (sym (goes stage at 0 mid i)) (k mid))

      -- that the length before them names,
      content-comes : (n at : ℕ) (next : Parts) → ((mid : ℕ) → Coming (hand_on (cursor AtField at) 0 mid) mid next) → Coming (cursor (AtContent n) at) at (some_bytes name Content n next)
      unfolding hand_on
      content-comes n at next k = bytes-come (AtContent n) at Content n next tt (λ t. refl) k

      -- where a size that is judged is not over
      judged : (t : Bool) (c : Cursor) (mid : ℕ) (ps : Parts) → (t ≡ true → Coming c mid ps) → Coming (guard t (cursor (Stopped 6) mid) c) mid (within t ps)
      unfolding tell_in expected_of
      judged true c mid ps k = k refl
      judged false c mid ps k = stops (λ t. refl)

      -- in a track, by how many of its bytes are held,
      bounded : (stage to : Stage) (from held kept n mid : ℕ) (ps : Parts) → held ≡ kept → (n ≤ longest_track - held → Coming (cursor to mid) mid ps) → Coming (bounded_by (cursor stage from) kept n to mid) mid (within (leb n (most_of true Namespace held)) ps)
      unfolding bounded_by most_of
      bounded stage to from held kept n mid ps e k =
          rw e (judged (leb n (longest_track - kept)) (cursor to mid) mid ps (λ f. k (rw e (leb-true n (longest_track - kept) f))))

      -- ---- entries

      module _ (next : ℕ → Parts) where
        -- what is to come behind the entries, and that many entries before it
        abbrev Behind : Kind → Type 0
        Behind kind = (stage : Stage) (from held kept at : ℕ) → Agree kind held kept → Coming (entries_end (cursor stage from) form kept at) at (next held)

        abbrev Entries : Kind → ℕ → Type 0
        Entries kind left = (stage : Stage) (from held kept at : ℕ) → Agree kind held kept → Coming (entries_left (cursor stage from) form left kept at) at (entry_parts kind name left held next)

        -- the bytes of one, and those after it
        entry-comes : (kind : Kind) (left held kept n at : ℕ) → Agree kind (held + n) (held_with kept n) → Entries kind left → Coming (cursor (AtEntryContent (suc left) kept n) at) at (some_bytes name EntryContent n (entry_parts kind name left (held + n) next))
        entry-comes kind left held kept n at a rest =
            let stage = AtEntryContent (suc left) kept n in
            let z : suc left - 1 ≡ left = omega arith in
            bytes-come stage at EntryContent n (entry_parts kind name left (held + n) next) tt (λ t. refl)
            (λ mid. rw z (rest stage at (held + n) (held_with kept n) mid a))

        -- where some are left, one is to come
        some_left : (stage : Stage) (from left kept at : ℕ) → entries_left (cursor stage from) form (suc left) kept at ≡ cursor (AtEntry (suc left) kept) at
        unfolding entries_left
        some_left stage from left kept at = rw (lt-ltb 0 (suc left) (omega arith))

        entries-come : (kind : Kind) → kind_in form ≡ kind → Behind kind → (left : ℕ) → Entries kind left
        unfolding entries_left entry_parts
        entries-come kind e behind zero stage from held kept at a = behind stage from held kept at a
        entries-come Namespace e behind (suc left) stage from held kept at a =
            let entry = AtEntry (suc left) kept in
            rw (some_left stage from left kept at)
            (number-comes entry at EntryLength _ tt (λ t. rw e)
            (λ n mid. rw e (bounded entry (AtEntryContent (suc left) kept n) at held kept n mid _ a.0
            (λ f. entry-comes Namespace left held kept n mid (omega arith, omega arith) (entries-come Namespace e behind left)))))
        entries-come Parameters e behind (suc left) stage from held kept at a =
            rw (some_left stage from left kept at)
            (number-comes (AtEntry (suc left) kept) at EntryNumber _ tt (λ t. rw e)
            (λ type mid. rw e (number-comes (AtEntryLength (suc left) kept) mid EntryLength _ tt (λ t. refl)
            (λ n to. entry-comes Parameters left held kept n to tt (entries-come Parameters e behind left)))))
        entries-come Versions e behind (suc left) stage from held kept at a =
            let z : suc left - 1 ≡ left = omega arith in
            rw (some_left stage from left kept at)
            (number-comes (AtEntry (suc left) kept) at EntryNumber _ tt (λ t. rw e)
            (λ version mid. rw (e, z) (entries-come Versions e behind left (AtEntry (suc left) kept) at held kept mid a)))

        -- a count and as many
        list-comes : (kind : Kind) → kind_in form ≡ kind → Behind kind → (at n mid : ℕ) → Coming (counted_by (cursor AtField at) form kind n mid) mid (within (few kind n) (entry_parts kind name n 0 next))
        unfolding counted_by
        list-comes kind e behind at n mid =
            judged (few kind n) (entries_left (cursor AtField at) form n 0 mid) mid _
            (λ f. entries-come kind e behind n AtField at 0 0 mid (agree-first kind))

    -- ---- a field

    module _ (name : FieldName) (next : ℕ → Parts) (then : (n at mid : ℕ) → Coming (hand_on (cursor AtField at) n mid) mid (next n)) where
      field-comes : (form : FieldForm) → ahead_by (placed ns passed) ≡ Field name (form_in form) → (at : ℕ) → Coming (cursor AtField at) at (field_parts form name next)
      unfolding field_parts list_parts hand_on
      field-comes integer ahead at = number-comes name Integer ahead AtField at Number next tt (λ t. refl) (λ n mid. then n at mid)
      field-comes byte ahead at =
          looks (stands AtField at tt) (λ t. looks-for name AByte ahead AtField at t tt)
          (λ b mid. subst (λ (c : Cursor). Coming c mid (next b)) (sym (goes name AByte ahead AtField at b mid tt)) (then b at mid))
      field-comes bytes ahead at =
          number-comes name SomeBytes ahead AtField at Length _ tt (λ t. refl)
          (λ n mid. content-comes name SomeBytes ahead n mid (next 0) (λ to. then 0 at to))
      field-comes (list kind) ahead at =
          number-comes name (AList kind) ahead AtField at Count _ tt (λ t. refl)
          (λ n mid. list-comes name (AList kind) ahead (λ held. next 0) kind refl (λ stage from held kept to a. then 0 at to) at n mid)
      field-comes track ahead at =
          number-comes name ATrack ahead AtField at Count _ tt (λ t. refl)
          (λ n mid. list-comes name ATrack ahead _ Namespace refl
          (λ stage from held kept to a. number-comes name ATrack ahead (AtName kept) to Length _ tt (λ t. refl)
          (λ m after. bounded name ATrack ahead (AtName kept) (AtContent m) to held kept m after _ a.0
          (λ f. content-comes name ATrack ahead m after (next 0) (λ done_at. then 0 at done_at))))
          at n mid)

  -- ---- a layout

  -- the numbers that were handed on, and one more
  one_more : (ns : List ℕ) (passed n : ℕ) → passed < length ns → take (passed + 1) (set ns passed n) ≡ take passed ns ++ (n ∷ [])
  one_more ns passed n h = rw add-one (take-suc-set ns passed n h)

  -- are kept where fewer fields were passed than there are at most
  kept_on : (ns : List ℕ) (passed n at mid : ℕ) → passed < most_fields → hand_on (cursor ns passed AtField at) n mid ≡ cursor (set ns passed n) (passed + 1) AtField mid
  unfolding hand_on behind
  kept_on ns passed n at mid h = rw (lt-ltb passed most_fields h)

  pub layout-comes : (l : Layout) (ns : List ℕ) (passed room : ℕ) → length ns ≡ most_fields → passed + room ≡ most_fields → Reached outline (take passed ns) l → Shallow room l → (at : ℕ) → Coming (cursor ns passed AtField at) at (parts_of l)
  unfolding parts_of ahead_by ahead_of tell_in expected_of
  layout-comes done ns passed room h k r w at = ends (stands ns passed AtField at tt) (λ t. rw r.ahead)
  layout-comes forbidden ns passed room h k r w at =
      stops {c = cursor ns passed AtField at} {fault = IsForbidden} (λ t. rw r.ahead)
  layout-comes (field name form next) ns passed zero h k r w at = absurd w
  layout-comes (field name form next) ns passed (suc room) h k r w at =
      let few : passed < most_fields = omega arith in
      field-comes ns passed name (λ n. parts_of (next n))
      (λ n from mid. rw (kept_on ns passed n from mid few)
      (layout-comes (next n) (set ns passed n) (passed + 1) room (rw length-set h) (omega arith)
      (rw (one_more ns passed n (omega arith)) (reached-next r n)) (w n) mid))
      form r.ahead at
  layout-comes (when true l m) ns passed room h k r w at = layout-comes l ns passed room h k (reached-true r) w.0 at
  layout-comes (when false l m) ns passed room h k r w at = layout-comes m ns passed room h k (reached-false r) w.1 at
