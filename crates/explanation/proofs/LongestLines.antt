-- No call puts more than `longest_lines` bytes. Assumes nothing.
use Rattle.std.proofs.Common.{◌≡◌, ℕ, ◌+◌, ◌≤◌, eqb, List, ◌++◌, length, get_or, take, drop, arith, length-append}
use Rattle.common.proofs.Cases.{pick-by}
use Rattle.parts.specs.Telling.{next_of}
use Rattle.parts.specs.declared.Step.{Step}
use Rattle.parts.specs.declared.Step.TheVariants.{Part as APart, Refused as IsRefused, Faulty, Whole}
use Rattle.trace.specs.Fields.{offset_of}
use Rattle.columns.specs.Pouring.{filling, pour}
use Rattle.columns.proofs.Poured.{pour-fits}
use Rattle.explanation_lines.specs.Lines.{step_lines, value_lines}
use Rattle.explanation_lines.proofs.LineBounds.{Few, longest_line, longest_value, part-bound, faulty-bound, left-bound, field_bound, mark-bound, answer-bound, fault-line-bound, arrival-bound, start-bound}
use Rattle.explanation.specs.Telling.{longest_lines, field_told, part_told, reason_word, ending_line, told_by, next_told}
use Rattle.explanation.specs.declared.Ending.{Ending}
use Rattle.explanation.specs.declared.Ending.TheVariants.{Answered, Fault, Read}
use Rattle.explanation.specs.declared.Due.{Due}
use Rattle.explanation.specs.declared.Due.TheVariants.{Field as AField, Part as PartDue, Ending as TheEnding, Nothing}
use Rattle.explanation.specs.declared.Explaining.{Explaining}

-- ---- the next lines

value-bound : (tag offset : ℕ) (value : List ℕ) → Few longest_value (value_lines tag offset value)
unfolding value_lines
value-bound tag offset value =
    pick-by (Few longest_value) (eqb tag 1)
    (λ e. start-bound offset value)
    (λ e. pick-by (Few longest_value) (eqb tag 3) (λ t. arrival-bound offset value) (λ t. omega arith))

step-bound : (step : Step) (offset : ℕ) (s : List ℕ) → Few longest_lines (step_lines step offset s)
step-bound (APart p) offset s = omega (arith, part-bound offset s (eqb p.start 0) p)
step-bound (IsRefused number) offset s = omega (arith, mark-bound number)
step-bound (Faulty p number) offset s = rw length-append (omega (arith, faulty-bound offset s p, mark-bound number))
step-bound (Whole used) offset s = omega (arith, left-bound offset s used)

ending-bound : (ending : Ending) (read : ℕ) → Few longest_line (ending_line ending read)
ending-bound (Answered number rule) read = answer-bound number rule
ending-bound (Fault reason) read = fault-line-bound (reason_word reason)
ending-bound Read read = answer-bound read 0

told-bound : (due : Due) (field : List ℕ) (e : Explaining) → Few longest_lines (told_by due field e).text
unfolding field_told part_told
told-bound AField field e =
    let value = value-bound (get_or field 0 0) (offset_of e.offset e.start) (drop e.start field) in
    rw length-append (omega (arith, field_bound e.offset field, value))
told-bound PartDue field e =
    let value = drop e.start field in
    step-bound (next_of value e.cursor).step (offset_of e.offset e.start) value
told-bound (TheEnding read) field e = omega (arith, ending-bound e.ending read)
told-bound Nothing field e = omega arith

module _ (field : List ℕ) (e : Explaining) where
  -- THE BOUND, whatever is due
  pub next_fits : length (next_told field e).text ≤ longest_lines
  unfolding next_told
  next_fits = told-bound e.due field e

  -- so that where there is room for so many bytes, nothing is lost
  pub all-put : (holds : List ℕ) (at : ℕ) → at + longest_lines ≤ length holds
      → let text = (next_told field e).text in
      pour (filling holds at) text ≡ filling (take at holds ++ text ++ drop (at + length text) holds) (at + length text)
  all-put holds at h = pour-fits holds at (next_told field e).text (omega (arith, next_fits))
