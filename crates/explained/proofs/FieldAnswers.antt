-- The parts of a field are answered as the field is. Assumes nothing.
use Prim.Native.Nat.{ℕ, zero, suc, ◌+◌, ◌-◌}
use mathlib.Core.Path.{◌≡◌, refl, sym, ap, ◌∙◌}
use mathlib.Core.List.{List}
use mathlib.Core.Bool.{Bool, true, false}
use native.Mathlib.Omega.{arith}
use lib.ListN.{length}
use lib.Dec.{leb, ltb}
use borrow.Author.Tests.{le-leb}
use Rattle.common.specs.Choice.{guard}
use Rattle.common.specs.Answer.{Answer, Nothing, refused}
use Rattle.integer.specs.Integer.{greatest}
use Rattle.field.specs.Outcome.{Outcome, whole, no, on_found}
use Rattle.field.specs.Entries.{longest_track, size, number_at, text_at, numbered_at, entry_at, most_of, entries_at, few, list_at}
use Rattle.field.specs.Fields.{FieldForm, integer, byte, bytes, list, track, field_at}
use Rattle.field.specs.declared.Fault.TheVariants.{Cut, Oversize}
use Rattle.field.specs.declared.Kind.{Kind}
use Rattle.field.specs.declared.Kind.TheVariants.{Namespace, Parameters, Versions}
use Rattle.field.proofs.Found.{number-at}
use Rattle.field.proofs.Unjudged.{number-refused}
use Rattle.layout.specs.Layout.{control}
use Rattle.layout.specs.declared.FieldName.{FieldName}
use Rattle.parts.specs.Telling.{part_of}
use Rattle.parts.specs.declared.What.{What}
use Rattle.parts.specs.declared.What.TheVariants.{Number, Length, Content, Count, EntryNumber, EntryLength, EntryContent}
use Rattle.explained.specs.Grammar.{Parts, a_number, some_bytes, within, entry_parts, list_parts, field_parts}
use Rattle.explained.specs.Explaining.{Explained, first, cut_at, explain}
use Rattle.explained.proofs.AfterOutcomes.{after, after_then, after-guard, after-alike, guard-both}

module _ (cut : ℕ) (name : FieldName) (s : List ℕ) where
  -- what parts are answered by
  abbrev says : Parts → ℕ → Answer Nothing
  says ps at = (explain cut ps s at).answer

  -- ---- an integer, a byte, bytes

  number-says : (what : What) (next : ℕ → Parts) (at : ℕ) → says (a_number name what next) at ≡ after cut (number_at s at) (λ n end. says (next n) end)
  unfolding explain
  number-says what next at = go (number_at s at) refl
    where
      go : (o : Outcome ℕ) → number_at s at ≡ o → (on_found o (cut_at cut name what s at) (λ n last. first (part_of name what n at last) (explain cut (next n) s last))).answer ≡ after cut o (λ n end. says (next n) end)
      go (whole n end) e = refl
      go (no fault) e = rw (number-refused s at e)

  -- (a test stands before an answer as it stands before what is explained)
  guarded : (t : Bool) (e f : Explained) → (guard t e f).answer ≡ guard t e.answer f.answer
  guarded t e f = guard-both (λ (x : Explained) (a : Answer Nothing). x.answer ≡ a) t e f _ _ refl (λ h. refl)

  bytes-say : (what : What) (n : ℕ) (next : Parts) (at : ℕ) → says (some_bytes name what n next) at ≡ guard (leb n (length s - at)) (refused cut) (says next (at + n))
  unfolding explain
  bytes-say what n next at = guarded (leb n (length s - at)) _ _

  within-says : (t : Bool) (ps : Parts) (at : ℕ) → says (within t ps) at ≡ guard t (refused 6) (says ps at)
  unfolding explain
  within-says true ps at = refl
  within-says false ps at = refl

  -- ---- a length and bytes

  -- the length judged as it is for a name,
  text_says : (most : ℕ) (ps : ℕ → Parts) (length-is what : What) (next : ℕ → Parts) (at : ℕ) → ((n start : ℕ) → number_at s at ≡ whole n start → ps n ≡ within (leb n most) (some_bytes name what n (next n)))
      → says (a_number name length-is ps) at ≡ after cut (text_at most s at) (λ p end. says (next (size p)) end)
  unfolding text_at
  text_says most ps length-is what next at h =
      number-says length-is ps at
      ∙ after-alike cut (number_at s at) (λ n start e.
      ap (λ q. says q start) (h n start e)
      ∙ within-says (leb n most) (some_bytes name what n (next n)) start
      ∙ ap (guard (leb n most) (refused 6)) (bytes-say what n (next n) start ∙ sized n start ∙ sym (after-guard cut (leb n (length s - start)) Cut _ _))
      ∙ sym (after-guard cut (leb n most) Oversize _ _))
      ∙ sym (after_then cut (number_at s at) _ _)
    where
      sized : (n start : ℕ) → guard (leb n (length s - start)) (refused cut) (says (next n) (start + n)) ≡ guard (leb n (length s - start)) (refused cut) (says (next (start + n - start)) (start + n))
      sized n start = let z : start + n - start ≡ n = omega arith in rw z

  -- or not judged, since no length that was read is over the greatest number
  any-text-says : (length-is what : What) (next : ℕ → Parts) (at : ℕ) → says (a_number name length-is λ n. some_bytes name what n (next n)) at ≡ after cut (text_at greatest s at) (λ p end. says (next (size p)) end)
  any-text-says length-is what next at =
      text_says greatest (λ n. some_bytes name what n (next n)) length-is what next at
      (λ n start e. rw (le-leb n greatest (number-at s at e).small))

  -- ---- entries

  -- one that holds bytes, and those after it
  module _ (kind : Kind) (count held : ℕ) (next : ℕ → Parts) (rest : (held at : ℕ) → says (entry_parts kind name count held next) at ≡ after cut (entries_at true kind count held s at) (λ h end. says (next h) end)) where
    entry-says : (number most : ℕ) (ps : ℕ → Parts) (at : ℕ) → ((n start : ℕ) → number_at s at ≡ whole n start → ps n ≡ within (leb n most) (some_bytes name EntryContent n (entry_parts kind name count (held + n) next)))
        → says (a_number name EntryLength ps) at ≡ after cut (numbered_at number most s at) (λ e end. after cut (entries_at true kind count (held + size e.bytes) s end) (λ h end. says (next h) end))
    unfolding numbered_at
    entry-says number most ps at h =
        text_says most ps EntryLength EntryContent (λ n. entry_parts kind name count (held + n) next) at h
        ∙ after-alike cut (text_at most s at) (λ p end f. rest (held + size p) end)
        ∙ sym (after_then cut (text_at most s at) _ _)

  entries-say : (kind : Kind) (count held : ℕ) (next : ℕ → Parts) (at : ℕ) → says (entry_parts kind name count held next) at ≡ after cut (entries_at true kind count held s at) (λ h end. says (next h) end)
  unfolding entry_parts entries_at entry_at most_of
  entries-say kind zero held next at = refl
  entries-say Namespace (suc count) held next at =
      entry-says Namespace count held next (λ h end. entries-say Namespace count h next end) 0 (longest_track - held) _ at (λ n start e. refl)
      ∙ sym (after_then cut (numbered_at 0 (longest_track - held) s at) _ _)
  entries-say Parameters (suc count) held next at =
      number-says EntryNumber _ at
      ∙ after-alike cut (number_at s at) (λ type start e.
      entry-says Parameters count held next (λ h end. entries-say Parameters count h next end) type greatest _ start (λ n last f. rw (le-leb n greatest (number-at s start f).small)))
      ∙ sym (after_then cut (number_at s at) _ _)
      ∙ sym (after_then cut (entry_at Parameters greatest s at) _ _)
  entries-say Versions (suc count) held next at =
      number-says EntryNumber _ at
      ∙ after-alike cut (number_at s at) (λ version end e. let z : held + (end - end) ≡ held = omega arith in rw z (entries-say Versions count held next end))
      ∙ sym (after_then cut (number_at s at) _ _)
      ∙ sym (after_then cut (entry_at Versions greatest s at) _ _)

  -- a count and as many entries
  list-says : (kind : Kind) (next : ℕ → Parts) (at : ℕ) → says (list_parts kind name next) at ≡ after cut (list_at kind s at) (λ l end. says (next l.held) end)
  unfolding list_parts list_at
  list-says kind next at =
      number-says Count _ at
      ∙ after-alike cut (number_at s at) (λ count start e.
      within-says (few kind count) _ start
      ∙ ap (guard (few kind count) (refused 6)) (entries-say kind count 0 next start ∙ sym (after_then cut (entries_at true kind count 0 s start) _ _))
      ∙ sym (after-guard cut (few kind count) Oversize _ _))
      ∙ sym (after_then cut (number_at s at) _ _)

  -- ---- a field

  pub field-says : (form : FieldForm) (next : ℕ → Parts) (at : ℕ) → says (field_parts form name next) at ≡ after cut (field_at form s at) (λ p end. says (next (control p)) end)
  unfolding field_parts field_at explain
  field-says integer next at = number-says Number next at ∙ sym (after_then cut (number_at s at) _ _)
  field-says byte next at =
      guarded (ltb at (length s)) _ _ ∙ sym (after-guard cut (ltb at (length s)) Cut _ _)
  field-says bytes next at = any-text-says Length Content (λ n. next 0) at ∙ sym (after_then cut (text_at greatest s at) _ _)
  field-says (list kind) next at = list-says kind (λ held. next 0) at ∙ sym (after_then cut (list_at kind s at) _ _)
  field-says track next at =
      list-says Namespace _ at
      ∙ after-alike cut (list_at Namespace s at) (λ l end e.
      text_says (most_of true Namespace l.held) _ Length Content (λ n. next 0) end (λ n start f. refl)
      ∙ sym (after_then cut (text_at (most_of true Namespace l.held) s end) _ _))
      ∙ sym (after_then cut (list_at Namespace s at) _ _)
