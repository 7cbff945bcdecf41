-- A ledger stays one through any history. Assumes nothing.
use mathlib.Core.Path.{◌≡◌}
use mathlib.Core.Bool.{true}
use mathlib.Core.List.{List, [], ◌∷◌}
use Rattle.ledger.specs.Ledgers.{is_ledger}
use Rattle.ledger.specs.declared.Ledger.{Ledger}
use Rattle.ledger.proofs.Keeps.{keeps-take, keeps-malformed, keeps-arrival}
use Rattle.orders.specs.Events.{Event, message, malformed, arrival, comes}
use Rattle.history.specs.Events.{ledger_after}

pub comes-keeps : (l : Ledger) (e : Event) → is_ledger l ≡ true → is_ledger (comes l e).next ≡ true
comes-keeps l (message m) w = keeps-take l w m
comes-keeps l malformed w = keeps-malformed l w
comes-keeps l (arrival a) w = keeps-arrival l w a

pub history-keeps : (l : Ledger) (es : List Event) → is_ledger l ≡ true → is_ledger (ledger_after l es) ≡ true
unfolding ledger_after
history-keeps l [] w = w
history-keeps l (e ∷ es) w = history-keeps (comes l e).next es (comes-keeps l e w)
