-- What holds of every trace without fault: it is a history; and of every trace under the limit of the body before it
-- was raised. Each theorem with its sentence, and nothing else. Assumes nothing.
use Prim.Native.Nat.{ℕ}
use mathlib.Core.Path.{◌≡◌, sym, ap, ◌∙◌}
use native.Mathlib.Omega.{arith}
use mathlib.Core.List.{List, ◌∷◌, map}
use lib.ListN.{length, take}
use Rattle.common.specs.Answer.{whole as answered}
use Rattle.common.specs.Choice.{pick}
use Rattle.types.specs.Limits.{longest_body}
use Rattle.message.specs.Types.{typed_of}
use Rattle.message.specs.Reading.{read_of}
use Rattle.message.specs.declared.Message.{Message}
use Rattle.ledger.specs.Answers.{no_rule}
use Rattle.ledger.specs.Ledgers.{most_rows, held}
use Rattle.ledger.specs.declared.Ledger.{Ledger}
use Rattle.history.specs.Events.{ledger_after, log_of}
use Rattle.history.specs.Orders.{Exchanged}
use Rattle.history.specs.Rows.{rows_of}
use Rattle.history.proofs.Theorems.{exchanged-histories-agree, rows-told-by-their-history}
use Rattle.trace.specs.Fields.{field_size}
use Rattle.replay.specs.Events.{event_in}
use Rattle.replay.specs.Progressing.{replay_of}
use Rattle.replay.specs.declared.Event.TheVariants.{Control, Malformed}
use Rattle.report.specs.Report.{ledger_text, text_of, report_of}
use Rattle.answers.specs.Answers.{answers_of}
use Rattle.trace_history.specs.Histories.{trace_fields, Faultless, Started, start_in, history_of, verdict_in, lines_of}
use Rattle.trace_history.specs.Limits.{former_body, event_up_to, report_up_to, answers_up_to, field_over, NoneOver, field_of_message}
use Rattle.trace_history.proofs.FieldsAsEvents.{trace-starts, replay-follows, answers-follow}
use Rattle.trace_history.proofs.Limits as limits
use Rattle.trace_history.proofs.MessageFields.{message-size, message-event}

-- 1. Its first field starts a ledger of 64 rows.
pub trace-starts-a-ledger : (s : List ℕ) → Faultless s → Started (start_in s)
trace-starts-a-ledger = trace-starts

-- 2. Its run leaves that ledger as the history of its events does.
pub trace-is-a-history : (s : List ℕ) → Faultless s → (replay_of s).ledger ≡ ledger_after (start_in s) (history_of s)
trace-is-a-history = replay-follows

-- 3. Its answers are those of that history, one by one: 8 for the start, and then each event's.
pub answers-of-a-history : (s : List ℕ) → Faultless s
    → answers_of s ≡ lines_of 0 (trace_fields s) (no_rule 8 ∷ map verdict_in (log_of (start_in s) (history_of s)))
answers-of-a-history = answers-follow

-- 4. Its report shows the ledger after that history.
pub report-of-a-history : (s : List ℕ) → Faultless s → report_of s ≡ ledger_text (ledger_after (start_in s) (history_of s))
unfolding report_of text_of
report-of-a-history s h = rw (h, replay-follows s h)

-- 5. The rows that it shows are those that the history and its answers tell.
pub rows-of-a-history : (s : List ℕ) → Faultless s
    → held (replay_of s).ledger ≡ rows_of (log_of (start_in s) (history_of s))
rows-of-a-history s h =
    let started = trace-starts s h in
    rw (replay-follows s h, started.ledger)
    (rows-told-by-their-history started.part most_rows started.maximum (history_of s))

-- 6. Two traces that start alike, and whose events differ by exchanges that demand 3 allows, print the same report,
-- byte for byte.
pub exchanged-traces-report-alike : (s t : List ℕ) → Faultless s → Faultless t → start_in s ≡ start_in t
    → Exchanged (start_in s) (history_of s) (history_of t) → report_of s ≡ report_of t
exchanged-traces-report-alike s t h k starts x =
    report-of-a-history s h
    ∙ ap ledger_text (exchanged-histories-agree x ∙ ap (λ (l : Ledger). ledger_after l (history_of t)) starts)
    ∙ sym (report-of-a-history t k)

-- 7. "Traces that read no Length over 16,383 report as before": the report is, byte for byte, the one under the limit
-- before it was raised,
pub reports-as-before : (s : List ℕ) → NoneOver former_body s → report_of s ≡ report_up_to former_body s
reports-as-before s none = sym (limits.report-under s former_body (omega arith) none)

-- and so are the answers.
pub answers-as-before : (s : List ℕ) → NoneOver former_body s → answers_of s ≡ answers_up_to former_body s
answers-as-before s none = sym (limits.answers-under s former_body (omega arith) none)

-- A field that reads such a Length was malformed, with 3; every other field is what it was.
pub field-before : (field : List ℕ)
    → event_up_to former_body field ≡ pick (field_over former_body field) (Malformed 3) (event_in field)
field-before = limits.event-under former_body (omega arith)

-- The limit is all that those definitions change: with the one that there is, they are the report and the answers.
pub report-now : (s : List ℕ) → report_up_to longest_body s ≡ report_of s
report-now = limits.report-now

pub answers-now : (s : List ℕ) → answers_up_to longest_body s ≡ answers_of s
answers-now = limits.answers-now

-- 8. "So that a message with its header still fits the trace field's two-byte length": every message that is read is a
-- field of a trace, whose two bytes of length hold its length, and the field is that message.
pub messages-fit : (s : List ℕ) (m : Message) {used : ℕ} → read_of s ≡ answered (typed_of m) used
    → (field_size (field_of_message (take used s)) ≡ length (field_of_message (take used s)))
    × (event_in (field_of_message (take used s)) ≡ Control m)
messages-fit s m read = (message-size s m read, message-event s m read)
