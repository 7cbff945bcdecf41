-- What is told to the end: part by part, and of a field. Assumes nothing.
use Rattle.std.proofs.Common.{◌≡◌, ℕ, false, eqb, List, ◌++◌, get_or, drop, sym, refl, ap, subst, append_assoc, append-nil, arith}
use Rattle.common.specs.Answer.{number}
use Rattle.trace.specs.Fields.{offset_of}
use Rattle.parts.specs.Telling.{next_of}
use Rattle.parts.specs.declared.Cursor.{Cursor}
use Rattle.parts.specs.declared.NextPart.{NextPart}
use Rattle.explained.specs.Explaining.{Explained}
use Rattle.explained.specs.Tiling.{Tells, part, before, here, all}
use Rattle.explanation_lines.specs.Lines.{field_line, step_lines, value_lines}
use Rattle.explanation.specs.Telling.{Telling, telling, due_after, field_told, after_step, part_told, ending_line, next_told, is_nothing}
use Rattle.explanation.specs.Printing as printing
use Rattle.explanation.specs.Printing.{Prints, PartLines, over, more}
use Rattle.explanation.specs.declared.Ending.{Ending}
use Rattle.explanation.specs.declared.Due.{Due}
use Rattle.explanation.specs.declared.Due.TheVariants.{Field as AField, Part as PartDue, Ending as TheEnding}
use Rattle.explanation.specs.declared.Explaining.{Explaining}

-- ---- one text

pub prints-once : {field : List ℕ} {e : Explaining} {a b : List ℕ} → Prints field e a → Prints field e b → a ≡ b
prints-once (over h) (over k) = refl
prints-once (over h) (more k q) = absurd (let z : ◌≡◌ {A = ℕ} 0 1 = cc in omega arith)
prints-once (more h p) (over k) = absurd (let z : ◌≡◌ {A = ℕ} 0 1 = cc in omega arith)
prints-once {field} {e} (more h p) (more k q) = ap (λ (t : List ℕ). (next_told field e).text ++ t) (prints-once p q)

-- ---- what is next, and then the others

prints : {field : List ℕ} {e next : Explaining} {text rest : List ℕ} → is_nothing e.due ≡ false → next_told field e ≡ telling text next → Prints field next rest → Prints field e (text ++ rest)
prints {field} {e} {rest = rest} due is p =
    subst (λ (t : Telling). Prints field e (t.text ++ rest)) is (more due (subst (λ (t : Telling). Prints field t.next rest) (sym is) p))

module _ (field : List ℕ) (ending : Ending) (offset start : ℕ) where
  abbrev explaining : Due → Cursor → Explaining
  explaining due c = record { due = due; cursor = c; ending = ending; offset = offset; start = start }

  abbrev value : List ℕ
  value = drop start field

  -- the ending
  ends : (read : ℕ) (c : Cursor) → Prints field (explaining (TheEnding read) c) (ending_line ending read)
  unfolding next_told
  ends read c = rw append-nil at (prints {field = field} {e = explaining (TheEnding read) c} refl refl (over refl))

  -- a part
  part-next : (c : Cursor) {t : NextPart} → next_of value c ≡ t → next_told field (explaining PartDue c) ≡ telling (step_lines t.step (offset_of offset start) value) (after_step t.step t.cursor (explaining PartDue c))
  unfolding next_told part_told
  part-next c h = ap (λ (t : NextPart). telling (step_lines t.step (offset_of offset start) value) (after_step t.step t.cursor (explaining PartDue c))) h

  -- all parts, and the ending
  pub shows : {c : Cursor} {x : Explained} → Tells value c x → (t : List ℕ) × (PartLines (offset_of offset start) value x t) × (Prints field (explaining PartDue c) (t ++ ending_line ending (number x.answer)))
  unfolding number
  shows (part {c} h t) = let u = shows t in (_, printing.part u.1, rw append_assoc (prints refl (part-next c h) u.2))
  shows (before {c} h) = (_, printing.refused, prints refl (part-next c h) (ends _ c))
  shows (here {c} h) = (_, printing.faulty, prints refl (part-next c h) (ends _ c))
  shows (all {c} h) = (_, printing.whole, prints refl (part-next c h) (ends _ c))

  -- a message in a field, with its line before them,
  pub message-shown : {c : Cursor} {x : Explained} → get_or field 0 0 ≡ 2 → Tells value c x → (t : List ℕ) × (PartLines (offset_of offset start) value x t) × (Prints field (explaining AField c) (field_line offset field ++ t ++ ending_line ending (number x.answer)))
  unfolding next_told field_told value_lines due_after
  message-shown {c} tag t =
      let u = shows t in
      let line : next_told field (explaining AField c) ≡ telling (field_line offset field) (explaining PartDue c) = rw (tag, append-nil) in
      (u.0, u.1, rw append_assoc (prints refl line u.2))

  -- and any other value
  pub value-shown : (c : Cursor) → eqb (get_or field 0 0) 2 ≡ false → Prints field (explaining AField c) (field_line offset field ++ value_lines (get_or field 0 0) (offset_of offset start) value ++ ending_line ending 0)
  unfolding next_told field_told due_after
  value-shown c tag =
      let line : next_told field (explaining AField c) ≡ telling (field_line offset field ++ value_lines (get_or field 0 0) (offset_of offset start) value) (explaining (TheEnding 0) c) = rw tag in
      prints refl line (ends 0 c)
