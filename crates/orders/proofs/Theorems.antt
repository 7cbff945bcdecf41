-- What holds of views. Each theorem with its sentence, and nothing else. Assumes nothing.
use mathlib.Core.Path.{◌≡◌}
use mathlib.Core.Bool.{true}
use Rattle.field.specs.declared.Arrival.{Arrival}
use Rattle.message.specs.declared.Message.{Message}
use Rattle.ledger.specs.Ledgers.{is_ledger, is_open}
use Rattle.ledger.specs.declared.Ledger.{Ledger}
use Rattle.ledger.specs.Views.{View, view_of, seen_of}
use Rattle.orders.specs.Events.{Event, message, arrival, comes}
use Rattle.orders.specs.Steps.{view_step}
use Rattle.orders.specs.Apart.{Apart, SeenInEitherOrder}
use Rattle.orders.proofs.LedgersFollow as ledgers
use Rattle.orders.proofs.EitherOrder as order

-- 1. A ledger follows the step of its view: of every event it says what the step says, and the view of the next ledger
-- is the next view.
pub ledger-follows : (l : Ledger) (e : Event) → is_ledger l ≡ true → seen_of (comes l e) ≡ view_step (view_of l) e
ledger-follows = ledgers.ledger-follows

-- A view loses nothing: two ledgers that have the same are the same.
pub view-loses-nothing : (k l : Ledger) → is_ledger k ≡ true → is_ledger l ≡ true → view_of k ≡ view_of l → k ≡ l
view-loses-nothing = ledgers.view-once

-- 2. Two arrivals may change places, in any view: the next view is the same, and each keeps its own answer.
pub arrivals-in-either-order : (v : View) (a b : Arrival) → SeenInEitherOrder v (arrival a) (arrival b)
arrivals-in-either-order = order.arrivals-either

-- Two messages that name different subscriptions, neither being SUBSCRIBE, or of which the ledger doesn't keep one, may
-- change places, in any view where the session is open after both.
pub messages-in-either-order : (v : View) {m n : Message} → Apart m n
    → is_open (view_step (view_step v (message m)).next (message n)).next.standing.session ≡ true
    → SeenInEitherOrder v (message m) (message n)
messages-in-either-order = order.messages-either
