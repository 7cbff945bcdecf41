-- A trace without fault, field by field: the ledger that the first field starts takes what each of the others is, and each line tells
-- what that is answered. Assumes nothing.
use Prim.Native.Nat.{ℕ}
use mathlib.Core.Path.{◌≡◌, refl, sym, ◌∙◌}
use mathlib.Core.Bool.{true}
use mathlib.Core.List.{List, [], ◌∷◌, ◌++◌, map, head_d, tail, append_assoc, append-nil}
use native.Mathlib.Omega.{arith}
use lib.ListN.{length}
use Rattle.ledger.specs.Ledgers.{most_rows}
use Rattle.ledger.specs.Answers.{Verdict, no_rule}
use Rattle.ledger.specs.Steps.{start_of}
use Rattle.ledger.specs.declared.Ledger.{Ledger}
use Rattle.ledger.specs.declared.Part.{Part}
use Rattle.row.specs.Places.{small}
use Rattle.history.specs.Events.{ledger_after, log_of}
use Rattle.trace.specs.Fields.{number_of_tag, value_of, field_size}
use Rattle.text.specs.Lines.{line_of}
use Rattle.replay.specs.Events.{event_in}
use Rattle.replay.specs.Progressing.{begun, heard_of, step_of, step, offset_of, fed, end_stage, finish_of, replay_of}
use Rattle.replay.specs.declared.Event.{Event as FieldEvent}
use Rattle.replay.specs.declared.Event.TheVariants.{Start, Control, Malformed, Arrived, Fault}
use Rattle.replay.specs.declared.Stage.{Stage}
use Rattle.replay.specs.declared.Stage.TheVariants.{Empty, Running, Faulty}
use Rattle.replay.proofs.Ledgers.{Startable, event-fits}
use Rattle.answers.specs.Answers.{line_by, line_in, SoFar, add_line, with_text, end_items, last_text, answers_of}
use Rattle.trace_history.specs.Histories.{trace_fields, Faultless, Started, start_by, start_in, happens, happening_in, history_of, verdict_in, lines_of, tell_by}
use Rattle.trace_history.proofs.Cutting.{steps, fed-steps, rest_of, cut-so}

abbrev stands : Ledger → Stage → ℕ → List ℕ → SoFar
stands l stage offset text = with_text (record { ledger = l; stage = stage; offset = offset }) text

-- ---- a fault stays

stays : (fields : List (List ℕ)) (l : Ledger) (at offset : ℕ) (text : List ℕ) → (steps add_line (stands l (Faulty at) offset text) fields).progress.stage ≡ Faulty at
unfolding steps add_line step_of
stays [] l at offset text = refl
stays (field ∷ fields) l at offset text = stays fields _ at _ _

-- so where there is none at the end, there was none
no-fault : {A : Type 0} (fields : List (List ℕ)) (l : Ledger) (at offset : ℕ) (text : List ℕ) → (steps add_line (stands l (Faulty at) offset text) fields).progress.stage ≡ Running → A
no-fault fields l at offset text h =
    let f = stays fields l at offset text in
    absurd (let z : ◌≡◌ {A = ℕ} 0 1 = cc in omega arith)

-- ---- after a start

-- the line of what a field is, and those after it
abbrev lines_by : ℕ → FieldEvent → ℕ → List (List ℕ) → List Verdict → List ℕ
lines_by offset e size fields says =
    line_of (line_by offset e (head_d says (no_rule 0))) ++ lines_of (offset_of offset size) fields (tail says)

-- what fields come to, without a fault
record Follows (end : SoFar) (l : Ledger) (text : List ℕ) : Type 0 where
  ledger : end.progress.ledger ≡ l
  lines : end.text ≡ text

abbrev Unbroken : List (List ℕ) → SoFar → Type 0
Unbroken fields t = (steps add_line t fields).progress.stage ≡ Running

follows : (fields : List (List ℕ)) (l : Ledger) (offset : ℕ) (text : List ℕ) → Unbroken fields (stands l Running offset text) → Follows (steps add_line (stands l Running offset text) fields) (ledger_after l (happening_in fields)) (text ++ lines_of offset fields (map verdict_in (log_of l (happening_in fields))))
unfolding steps add_line step_of line_in happening_in ledger_after log_of lines_of head_d
follows [] l offset text h = record { ledger = refl; lines = sym (append-nil text) }
follows (field ∷ fields) l offset text h = go (event_in field) h (λ m o t. follows fields m o t)
  where
    go : (e : FieldEvent) → Unbroken fields (tell_by (stands l Running offset text) e (field_size field)) → ((m : Ledger) (o : ℕ) (t : List ℕ) → Unbroken fields (stands m Running o t) → Follows (steps add_line (stands m Running o t) fields) (ledger_after m (happening_in fields)) (t ++ lines_of o fields (map verdict_in (log_of m (happening_in fields))))) → Follows (steps add_line (tell_by (stands l Running offset text) e (field_size field)) fields) (ledger_after l (happens e ++ happening_in fields)) (text ++ lines_by offset e (field_size field) fields (map verdict_in (log_of l (happens e ++ happening_in fields))))
    go (Start part maximum) k ih = no-fault fields _ _ _ _ k
    go (Control m) k ih =
        let f = ih _ _ _ k in
        record { ledger = f.ledger; lines = f.lines ∙ append_assoc text _ _ }
    go (Malformed number) k ih =
        let f = ih _ _ _ k in
        record { ledger = f.ledger; lines = f.lines ∙ append_assoc text _ _ }
    go (Arrived a) k ih =
        let f = ih _ _ _ k in
        record { ledger = f.ledger; lines = f.lines ∙ append_assoc text _ _ }
    go Fault k ih = no-fault fields _ _ _ _ k

-- ---- from the first field on

-- what it is answered
abbrev start_said : List (List ℕ) → Verdict
start_said [] = no_rule 0
start_said (field ∷ fields) = (heard_of begun (event_in field)).says

from_first : (fields : List (List ℕ)) → Unbroken fields (with_text begun []) → Follows (steps add_line (with_text begun []) fields) (ledger_after (start_by fields) (happening_in fields)) (lines_of 0 fields (start_said fields ∷ map verdict_in (log_of (start_by fields) (happening_in fields))))
unfolding steps add_line step_of line_in happening_in lines_of head_d
from_first [] h = absurd (let z : ◌≡◌ {A = ℕ} 0 1 = cc in omega arith)
from_first (field ∷ fields) h = go (event_in field) h
  where
    go : (e : FieldEvent) → Unbroken fields (tell_by (with_text begun []) e (field_size field)) → Follows (steps add_line (tell_by (with_text begun []) e (field_size field)) fields) (ledger_after (heard_of begun e).ledger (happens e ++ happening_in fields)) (lines_by 0 e (field_size field) fields ((heard_of begun e).says ∷ map verdict_in (log_of (heard_of begun e).ledger (happens e ++ happening_in fields))))
    go (Start part maximum) k = follows fields _ _ _ k
    go (Control m) k = no-fault fields _ _ _ _ k
    go (Malformed number) k = no-fault fields _ _ _ _ k
    go (Arrived a) k = no-fault fields _ _ _ _ k
    go Fault k = no-fault fields _ _ _ _ k

-- the first is a start, and it is accepted
small-starts : (part : Part) (maximum : ℕ) → small maximum ≡ true → (start_of part most_rows maximum).says ≡ no_rule 8
unfolding start_of
small-starts part maximum e = rw e

starts : (fields : List (List ℕ)) → Unbroken fields (with_text begun []) → Started (start_by fields) × (start_said fields ≡ no_rule 8)
unfolding steps add_line step_of line_in
starts [] h = absurd (let z : ◌≡◌ {A = ℕ} 0 1 = cc in omega arith)
starts (field ∷ fields) h = go (event_in field) (event-fits (number_of_tag field) (value_of field)) h
  where
    go : (e : FieldEvent) → Startable e → Unbroken fields (tell_by (with_text begun []) e (field_size field)) → Started (heard_of begun e).ledger × ((heard_of begun e).says ≡ no_rule 8)
    go (Start part maximum) fits k =
        let accepted = small-starts part maximum fits in
        (record { part = part; maximum = maximum; accepted = accepted; ledger = refl }, accepted)
    go (Control m) fits k = no-fault fields _ _ _ _ k
    go (Malformed number) fits k = no-fault fields _ _ _ _ k
    go (Arrived a) fits k = no-fault fields _ _ _ _ k
    go Fault fits k = no-fault fields _ _ _ _ k

-- ---- the whole trace

-- the lines follow the run
progress-is : (fields : List (List ℕ)) (t : SoFar) → (steps add_line t fields).progress ≡ steps step t.progress fields
unfolding steps step add_line
progress-is [] t = refl
progress-is (field ∷ fields) t = progress-is fields (add_line t field)

went : (stage : Stage) (offset left : ℕ) → end_stage stage offset left ≡ Running → stage ≡ Running
went Empty offset left h = absurd (let z : ◌≡◌ {A = ℕ} 0 1 = cc in omega arith)
went Running offset left h = refl
went (Faulty at) offset left h = absurd (let z : ◌≡◌ {A = ℕ} 0 1 = cc in omega arith)

module _ (s : List ℕ) where
  all_told : SoFar
  all_told = steps add_line (with_text begun []) (trace_fields s)

  run_is : replay_of s ≡ finish_of all_told.progress (length (rest_of s))
  unfolding replay_of fed all_told
  run_is = rw (fed-steps step begun (cut-so s), progress-is (trace_fields s) (with_text begun []))

  module _ (h : Faultless s) where
    ended : end_stage all_told.progress.stage all_told.progress.offset (length (rest_of s)) ≡ Running
    unfolding finish_of
    ended = rw run_is at h

    runs : all_told.progress.stage ≡ Running
    runs = went all_told.progress.stage all_told.progress.offset (length (rest_of s)) ended

    all-follows : Follows all_told (ledger_after (start_in s) (history_of s)) (lines_of 0 (trace_fields s) (start_said (trace_fields s) ∷ map verdict_in (log_of (start_in s) (history_of s))))
    unfolding start_in history_of all_told
    all-follows = from_first (trace_fields s) runs

    first : Started (start_by (trace_fields s)) × (start_said (trace_fields s) ≡ no_rule 8)
    unfolding all_told
    first = starts (trace_fields s) runs

    pub trace-starts : Started (start_in s)
    unfolding start_in
    trace-starts = first.0

    pub replay-follows : (replay_of s).ledger ≡ ledger_after (start_in s) (history_of s)
    unfolding finish_of all_told
    replay-follows = rw run_is all-follows.ledger

    pub answers-follow : answers_of s ≡ lines_of 0 (trace_fields s) (no_rule 8 ∷ map verdict_in (log_of (start_in s) (history_of s)))
    unfolding answers_of last_text end_items finish_of line_of all_told
    answers-follow =
        rw (fed-steps add_line (with_text begun []) (cut-so s), ended, ← first.1) (append-nil _ ∙ all-follows.lines)
