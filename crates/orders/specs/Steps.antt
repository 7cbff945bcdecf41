-- A step on a view, for any event.
use Rattle.common.specs.Choice.{guard}
use Rattle.ledger.specs.Ledgers.{is_open}
use Rattle.ledger.specs.Views.{View, Seen}
use Rattle.ledger.specs.Steps.{unchanged, message_step, malformed_step, arrival_step}
use Rattle.orders.specs.Events.{Event, message, malformed, arrival, is_sound}

abbrev pub event_step : View → Event → Seen
event_step v (message m) = message_step v m
event_step v malformed = malformed_step v
event_step v (arrival a) = arrival_step v a

-- "Order: 14, 5, 10, then the rest"; what is no ledger, which answers 14, has no view
unfoldable pub view_step : View → Event → Seen
view_step v e =
    guard (is_sound e) (unchanged v 5)
    (guard (is_open v.standing.session) (unchanged v 10) (event_step v e))
