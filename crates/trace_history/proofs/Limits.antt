-- A trace under a lower limit of the body: a field that reads a Length over it is malformed, with 3; every other field is what it is,
-- and so a trace with no such field reports and is answered as before. Assumes nothing.
use Prim.Native.Nat.{ℕ, ◌≤◌}
use mathlib.Core.Path.{◌≡◌, refl, sym, ap, ◌∙◌}
use mathlib.Core.Bool.{Bool, true, false}
use mathlib.Core.List.{List, [], ◌∷◌}
use borrow.Author.Tests.{eqb-true}
use lib.ListN.{length}
use lib.Dec.{eqb}
use Rattle.common.specs.Answer.{Answer, refused, number}
use Rattle.common.specs.Choice.{pick, both}
use Rattle.common.specs.Lists.{Each}
use Rattle.common.proofs.Cases.{pick-by}
use Rattle.layout.specs.Typed.{Typed}
use Rattle.types.specs.Limits.{longest_body}
use Rattle.types.proofs.OneAnswer.{refusal_of}
use Rattle.message.specs.Reading.{read_up_to, read_of}
use Rattle.message.specs.Limits.{length_over}
use Rattle.message.proofs.Made.{answer_of}
use Rattle.message.proofs.OneReading.{reading_up_to}
use Rattle.message.proofs.Limits.{under-lower}
use Rattle.trace.specs.Fields.{number_of_tag, value_of}
use Rattle.trace.specs.Feeding.{Held, feed}
use Rattle.replay.specs.Events.{reading_by, control_by, event_of, event_in}
use Rattle.replay.specs.Progressing.{step_of, begun, step, fed, finish_of, replay_of}
use Rattle.replay.specs.declared.Event.{Event as FieldEvent}
use Rattle.replay.specs.declared.Event.TheVariants.{Malformed}
use Rattle.replay.specs.declared.Progress.{Progress}
use Rattle.report.specs.Report.{text_of, report_of}
use Rattle.answers.specs.Answers.{SoFar, line_in, add_line, with_text, last_text, answers_of}
use Rattle.trace_history.specs.Histories.{trace_fields}
use Rattle.trace_history.specs.Limits.{event_up_to, step_up_to, report_up_to, add_line_up_to, answers_up_to, field_over, NoneOver}
use Rattle.trace_history.proofs.Cutting.{holding, steps, fed-steps, rest_of, cut-so}

-- ---- a field

-- with tag 2 a field is what is read of its value
control-is : (field : List ℕ) → eqb (number_of_tag field) 2 ≡ true → event_in field ≡ reading_by (value_of field) (reading_up_to longest_body (value_of field))
unfolding event_of control_by
control-is field e = rw (eqb-true (number_of_tag field) 2 e)

-- the lower limit reads 3, or the same
event-by : (value : List ℕ) (over : Bool) (a : Answer Typed) → reading_by value (answer_of (pick over (refused 3) a)) ≡ pick over (Malformed 3) (reading_by value (answer_of a))
unfolding answer_of refusal_of number
event-by value true a = refl
event-by value false a = refl

-- so what a field was under a lower limit follows from what it is
pub event-under : (low : ℕ) → low ≤ longest_body → (field : List ℕ) → event_up_to low field ≡ pick (field_over low field) (Malformed 3) (event_in field)
unfolding event_up_to field_over reading_up_to
event-under low rises field = go (eqb (number_of_tag field) 2) refl
  where
    value : List ℕ
    value = value_of field

    go : (b : Bool) → eqb (number_of_tag field) 2 ≡ b → pick b (reading_by value (answer_of (read_up_to low value))) (event_in field) ≡ pick (both b (length_over low value)) (Malformed 3) (event_in field)
    go true e =
        ap (λ (a : Answer Typed). reading_by value (answer_of a)) (under-lower low longest_body rises value)
        ∙ event-by value (length_over low value) (read_of value)
        ∙ ap (pick (length_over low value) (Malformed 3)) (sym (control-is field e))
    go false e = refl

-- with the limit that there is, it is what it is
pub event-now : (field : List ℕ) → event_up_to longest_body field ≡ event_in field
unfolding event_up_to
event-now field = pick-by (λ (x : FieldEvent). x ≡ event_in field) (eqb (number_of_tag field) 2) (λ e. sym (control-is field e)) (λ e. refl)

-- ---- the trace

-- where each field is, under a limit, what it is
abbrev Kept : ℕ → List (List ℕ) → Type 0
Kept limit fields = Each (λ (field : List ℕ). event_up_to limit field ≡ event_in field) fields

kept-now : (fields : List (List ℕ)) → Kept longest_body fields
kept-now [] = tt
kept-now (field ∷ fields) = (event-now field, kept-now fields)

kept_under : (low : ℕ) → low ≤ longest_body → (fields : List (List ℕ)) → Each (λ (field : List ℕ). field_over low field ≡ false) fields → Kept low fields
kept_under low rises [] none = tt
kept_under low rises (field ∷ fields) none = (rw none.0 at (event-under low rises field), kept_under low rises fields none.1)

-- two steps that agree wherever a field is what it is come to the same
module _ {A : Type 0} (limit : ℕ) (f g : A → List ℕ → A) (agree : (a : A) (field : List ℕ) → event_up_to limit field ≡ event_in field → f a field ≡ g a field) where
  steps-agree : (a : A) (fields : List (List ℕ)) → Kept limit fields → steps f a fields ≡ steps g a fields
  unfolding steps
  steps-agree a [] kept = refl
  steps-agree a (field ∷ fields) kept = rw (agree a field kept.0) (steps-agree (g a field) fields kept.1)

  fed-agree : (a : A) (s : List ℕ) → Kept limit (trace_fields s) → feed f (holding a []) s ≡ feed g (holding a []) s
  fed-agree a s kept =
      fed-steps f a (cut-so s)
      ∙ ap (λ (end : A). holding end (rest_of s)) (steps-agree a (trace_fields s) kept)
      ∙ sym (fed-steps g a (cut-so s))

-- a step of the report, and a line of the answers, ask of a field only what it is
step-agrees : (limit : ℕ) (p : Progress) (field : List ℕ) → event_up_to limit field ≡ event_in field → step_up_to limit p field ≡ step p field
unfolding step_up_to step step_of
step-agrees limit p field e = rw e

line-agrees : (limit : ℕ) (t : SoFar) (field : List ℕ) → event_up_to limit field ≡ event_in field → add_line_up_to limit t field ≡ add_line t field
unfolding add_line_up_to add_line line_in
line-agrees limit t field e = rw e

module _ (limit : ℕ) (s : List ℕ) (kept : Kept limit (trace_fields s)) where
  report-is : report_up_to limit s ≡ report_of s
  unfolding report_up_to report_of replay_of fed
  report-is =
      ap (λ (h : Held Progress). text_of (finish_of h.so_far (length h.rest)))
      (fed-agree limit (step_up_to limit) step (step-agrees limit) begun s kept)

  answers-are : answers_up_to limit s ≡ answers_of s
  unfolding answers_up_to answers_of
  answers-are = ap last_text (fed-agree limit (add_line_up_to limit) add_line (line-agrees limit) (with_text begun []) s kept)

module _ (s : List ℕ) where
  pub report-now : report_up_to longest_body s ≡ report_of s
  report-now = report-is longest_body s (kept-now (trace_fields s))

  pub answers-now : answers_up_to longest_body s ≡ answers_of s
  answers-now = answers-are longest_body s (kept-now (trace_fields s))

  module _ (low : ℕ) (rises : low ≤ longest_body) (none : NoneOver low s) where
    pub report-under : report_up_to low s ≡ report_of s
    report-under = report-is low s (kept_under low rises (trace_fields s) none)

    pub answers-under : answers_up_to low s ≡ answers_of s
    answers-under = answers-are low s (kept_under low rises (trace_fields s) none)
