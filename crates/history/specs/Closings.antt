-- When a session is closed, and by which rule.
use Rattle.std.specs.Prelude.{ℕ, Bool, true, false, not, List, [], ◌∷◌, eqb}
use Rattle.common.specs.Choice.{pick, both}
use Rattle.ledger.specs.Answers.{is_own}
use Rattle.ledger.specs.Senders.{Sender, the, either, sender_of}
use Rattle.ledger.specs.declared.Part.{Part}
use Rattle.ledger.specs.declared.Part.TheVariants.{Publisher}
use Rattle.orders.specs.Events.{Event, message, malformed, arrival}
use Rattle.history.specs.Events.{Logged}

-- whether the peer of this part is the one that sends it; what either end may send is nobody's here, since it breaks no
-- rule
abbrev pub from_peer : Part → Sender → Bool
from_peer part (the sender) = not (is_own part sender)
from_peer part either = false

-- whether an event is the peer's: a message by its kind; malformed always, as "the caller reports answers 2 to 6 on a
-- peer's control bytes"; an arrival where the peer publishes, since "Objects are sent by publishers"
abbrev pub is_peers : Part → Event → Bool
is_peers part (message m) = from_peer part (sender_of m)
is_peers part malformed = true
is_peers part (arrival a) = from_peer part (the Publisher)

-- an event of the peer's that broke a rule
abbrev pub closing : Part → Logged → Bool
closing part t = both (eqb t.says.number 13) (is_peers part t.event)

-- whether there was one,
unfoldable pub any_broken : Part → List Logged → Bool
any_broken part [] = false
any_broken part (t ∷ ts) = pick (closing part t) true (any_broken part ts)

-- and the rule that the first of them broke, 0 where there was none
unfoldable pub first_broken : Part → List Logged → ℕ
first_broken part [] = 0
first_broken part (t ∷ ts) = pick (closing part t) t.says.rule (first_broken part ts)
