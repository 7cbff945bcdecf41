-- What the reader answers is what is shown, of a message in a control stream and in a field. Assumes nothing.
use Rattle.std.proofs.Common.{◌≡◌, ℕ, ◌^◌, ◌<◌, Bool, true, false, eqb, List, ◌++◌, get_or, drop, refl, ap, ◌∙◌, add-zero, mod-eq_of_lt, ne_eqb, eqb-true}
use borrow.Author.Tests.{eqb-false}
use Rattle.common.specs.Answer.{Answer, whole, refused, number}
use Rattle.message.specs.Reading.{read_of}
use Rattle.trace.specs.Fields.{offset_of}
use Rattle.parts.specs.declared.Subject.TheVariants.{Message}
use Rattle.explained.specs.Explaining.{message_explained}
use Rattle.explained.specs.Tiling.{forget}
use Rattle.explained.proofs.Theorems.{tells, message-answers}
use Rattle.explanation_lines.specs.Lines.{field_line, answer_line, value_lines}
use Rattle.explanation.specs.Telling.{ending_line, field_begun, message_begun}
use Rattle.explanation.specs.Printing.{Prints, PartLines}
use Rattle.explanation.specs.declared.Ending.{Ending}
use Rattle.explanation.specs.declared.Ending.TheVariants.{Read}
use Rattle.explanation.proofs.PrintedParts.{shows, message-shown, value-shown}

number-kept : {A : Type 0} (a : Answer A) → number (forget a) ≡ number a
unfolding number
number-kept (whole a used) = refl
number-kept (refused n) = refl

-- the number that the parts come to is the reader's
reader's : (s : List ℕ) → number (message_explained s).answer ≡ number (read_of s)
reader's s = ap number (message-answers s) ∙ number-kept (read_of s)

-- ---- in a control stream

message-shown-at : (s : List ℕ) (offset : ℕ) → (t : List ℕ) × (PartLines (offset_of offset 0) s (message_explained s) t) × (Prints s (message_begun s offset) (t ++ answer_line (number (read_of s)) 0))
unfolding message_begun
message-shown-at s offset =
    let u = shows s Read offset 0 (tells Message s) in
    (u.0, u.1, rw (← reader's s) u.2)

pub message-ends : (s : List ℕ) (offset : ℕ) → (text : List ℕ) × Prints s (message_begun s offset) text
message-ends s offset = (_, (message-shown-at s offset).2)

-- an offset in 64 bits is kept
pub message-shows : (s : List ℕ) (offset : ℕ) → offset < 2 ^ 64 → (t : List ℕ) × (PartLines offset s (message_explained s) t) × (Prints s (message_begun s offset) (t ++ answer_line (number (read_of s)) 0))
unfolding offset_of
message-shows s offset h = rw (add-zero, mod-eq_of_lt h) at (message-shown-at s offset)

-- ---- in a field

pub field_shows : (field : List ℕ) (offset : ℕ) (ending : Ending) → get_or field 0 0 ≡ 2 → (t : List ℕ) × (PartLines (offset_of offset 3) (drop 3 field) (message_explained (drop 3 field)) t) × (Prints field (field_begun field offset ending) (field_line offset field ++ t ++ ending_line ending (number (read_of (drop 3 field)))))
unfolding field_begun
field_shows field offset ending tag =
    let u = message-shown field ending offset 3 tag (tells Message (drop 3 field)) in
    (u.0, u.1, rw (← reader's (drop 3 field)) u.2)

-- a field with another tag has no parts
pub value-shows : (field : List ℕ) (offset : ℕ) (ending : Ending) → (get_or field 0 0 ≡ 2 → ⊥) → Prints field (field_begun field offset ending) (field_line offset field ++ value_lines (get_or field 0 0) (offset_of offset 3) (drop 3 field) ++ ending_line ending 0)
unfolding field_begun
value-shows field offset ending other = value-shown field ending offset 3 _ (ne_eqb _ 2 other)

pub field-ends : (field : List ℕ) (offset : ℕ) (ending : Ending) → (text : List ℕ) × Prints field (field_begun field offset ending) text
field-ends field offset ending = go (eqb (get_or field 0 0) 2) refl
  where
    go : (b : Bool) → eqb (get_or field 0 0) 2 ≡ b → (text : List ℕ) × Prints field (field_begun field offset ending) text
    go true e = (_, (field_shows field offset ending (eqb-true _ 2 e)).2)
    go false e = (_, value-shows field offset ending (eqb-false _ 2 e))
