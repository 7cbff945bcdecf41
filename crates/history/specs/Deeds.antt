-- What an event did to a ledger, by what it was answered: only an 8 or a 16 did anything, rules apart.
use Rattle.std.specs.Prelude.{ℕ, eqb, Option}
use Rattle.common.specs.Choice.{pick}
use Rattle.field.specs.declared.Place.{Place}
use Rattle.field.specs.declared.Arrival.{Arrival}
use Rattle.subscription.specs.declared.Subscribe.{Subscribe}
use Rattle.subscription.specs.declared.SubscriptionMessage.{SubscriptionMessage}
use Rattle.subscription.specs.declared.SubscriptionMessage.TheVariants.{SubscribeUpdate as ASubscribeUpdate, Subscribe as ASubscribe, SubscribeOk as ASubscribeOk, SubscribeError as ASubscribeError, Unsubscribe as AUnsubscribe, SubscribeDone as ASubscribeDone, MaxSubscribeId as AMaxSubscribeId, SubscribesBlocked as ASubscribesBlocked}
use Rattle.message.specs.declared.Message.TheVariants.{Subscription, Fetch, Announce, Session}
use Rattle.orders.specs.Events.{Event, message, malformed, arrival}
use Rattle.history.specs.Events.{Logged}

pub data Deed : Type 0 where
  -- a SUBSCRIBE was accepted
  asked : Subscribe → Deed
  -- a SUBSCRIBE_OK made the row of an ID active
  opened : ℕ → Option Place → Deed
  -- a SUBSCRIBE_ERROR, a SUBSCRIBE_DONE or an UNSUBSCRIBE ended the row of an ID
  ended : ℕ → Deed
  -- a MAX_SUBSCRIBE_ID raised the maximum
  raised : ℕ → Deed
  -- an arrival was counted
  counted : Arrival → Deed
  -- it changed nothing, or broke a rule
  nothing : Deed

-- what a message does that is answered 8
abbrev pub deed_by : SubscriptionMessage → Deed
deed_by (ASubscribeUpdate m) = nothing
deed_by (ASubscribe m) = asked m
deed_by (ASubscribeOk m) = opened m.id m.largest
deed_by (ASubscribeError m) = ended m.id
deed_by (AUnsubscribe id) = ended id
deed_by (ASubscribeDone m) = ended m.id
deed_by (AMaxSubscribeId id) = raised id
deed_by (ASubscribesBlocked id) = nothing

abbrev pub deed_in : Event → ℕ → Deed
deed_in (message (Subscription m)) number = pick (eqb number 8) (deed_by m) nothing
deed_in (message (Fetch m)) number = nothing
deed_in (message (Announce m)) number = nothing
deed_in (message (Session m)) number = nothing
deed_in malformed number = nothing
deed_in (arrival a) number = pick (eqb number 16) (counted a) nothing

abbrev pub deed_of : Logged → Deed
deed_of t = deed_in t.event t.says.number
