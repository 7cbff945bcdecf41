-- The contract of `of_trace` leaves one possible answer, and one possible content of the buffer; and the answers of a trace are of the same
-- run as its report. Assumes nothing.
use Prim.Native.Nat.{ℕ}
use mathlib.Core.Path.{◌≡◌, refl}
use mathlib.Core.List.{List, []}
use Rattle.common.specs.Answer.{Leaves}
use Rattle.text.specs.Lines.{put_text, told_putting}
use Rattle.std.specs.Prelude.{Option}
use Rattle.text.proofs.Outcomes.{leaves-once}
use Rattle.trace.specs.Feeding.{Held, feed}
use Rattle.replay.specs.Progressing.{step, begun, fed}
use Rattle.replay.specs.declared.Progress.{Progress}
use Rattle.answers.specs.Answers.{SoFar, add_line, with_text, answers_of}
use Rattle.answers.proofs.FedAlike.{feed-alike}

-- Two calls of `of_trace` with the same trace and the same buffer answer the same, and leave the same.
pub of-trace-once : (s before : List ℕ) {a b : Option ℕ} {x y : List ℕ} → Leaves (put_text (answers_of s) before) (told_putting a) x → Leaves (put_text (answers_of s) before) (told_putting b) y → (a ≡ b) × (x ≡ y)
of-trace-once s before l m = leaves-once l m

-- The progress after the whole fields of a trace, and what is left, are those of its run.
pub answers-replay : (s : List ℕ) → ◌≡◌ {A = Held Progress} (let h = feed add_line (record { so_far = with_text begun []; rest = [] }) s in record { so_far = h.so_far.progress; rest = h.rest }) (fed begun s)
unfolding fed step add_line
answers-replay s = feed-alike add_line step (λ (t : SoFar). t.progress) told-step (record { so_far = with_text begun []; rest = [] }) s
  where
    told-step : (t : SoFar) (field : List ℕ) → (add_line t field).progress ≡ step t.progress field
    told-step t field = refl
