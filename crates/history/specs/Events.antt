-- A history of a ledger, and the ledger after it.
use Rattle.std.specs.Prelude.{List, [], ◌∷◌}
use Rattle.ledger.specs.Answers.{Verdict}
use Rattle.ledger.specs.declared.Ledger.{Ledger}
use Rattle.orders.specs.Events.{Event, comes}

-- a history: events, the earliest first. The ledger after it,
unfoldable pub ledger_after : Ledger → List Event → Ledger
ledger_after l [] = l
ledger_after l (e ∷ es) = ledger_after (comes l e).next es

-- and each event with what it was answered
pub record Logged : Type 0 where
  pub event : Event
  pub says : Verdict

unfoldable pub log_of : Ledger → List Event → List Logged
log_of l [] = []
log_of l (e ∷ es) = record { event = e; says = (comes l e).says } ∷ log_of (comes l e).next es
