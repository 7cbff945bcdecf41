-- A run of arrivals, as a history.
use Rattle.std.specs.Prelude.{ℕ, ◌≡◌, List, map}
use Rattle.common.specs.Buffer.{over}
use Rattle.ledger.specs.Runs.{Run}
use Rattle.ledger.specs.declared.Ledger.{Ledger}
use Rattle.orders.specs.Events.{Event}
use Rattle.history.specs.Events.{ledger_after, Logged, log_of}

-- 01's number of what an event was answered
abbrev pub answer_number : Logged → ℕ
answer_number t = t.says.number

-- a run leaves the ledger after a history, and puts the number of each of its events into a buffer
pub record Follows (l : Ledger) (es : List Event) (before : List ℕ) (r : Run) : Type 0 where
  pub next : r.next ≡ ledger_after l es
  pub holds : r.holds ≡ over (map answer_number (log_of l es)) before
