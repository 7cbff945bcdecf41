-- Two events that may change places.
use Rattle.std.specs.Prelude.{ℕ, ◌≡◌}
use Rattle.message.specs.declared.Message.{Message}
use Rattle.message.specs.declared.Message.TheVariants.{Subscription, Fetch, Announce, Session}
use Rattle.fetch.specs.declared.FetchMessage.{FetchMessage}
use Rattle.announce.specs.declared.AnnounceMessage.{AnnounceMessage}
use Rattle.session.specs.declared.SessionMessage.{SessionMessage}
use Rattle.subscription.specs.declared.SubscribeOk.{SubscribeOk}
use Rattle.subscription.specs.declared.SubscribeError.{SubscribeError}
use Rattle.subscription.specs.declared.SubscribeDone.{SubscribeDone}
use Rattle.subscription.specs.declared.SubscribeUpdate.{SubscribeUpdate}
use Rattle.subscription.specs.declared.SubscriptionMessage.TheVariants.{SubscribeUpdate as ASubscribeUpdate, SubscribeOk as ASubscribeOk, SubscribeError as ASubscribeError, Unsubscribe as AUnsubscribe, SubscribeDone as ASubscribeDone, SubscribesBlocked as ASubscribesBlocked}
use Rattle.ledger.specs.Views.{View}
use Rattle.orders.specs.Events.{Event}
use Rattle.orders.specs.Steps.{view_step}

-- the subscription that a message names, SUBSCRIBE left out
pub data Names : Message → ℕ → Type 0 where
  ok : {m : SubscribeOk} → Names (Subscription (ASubscribeOk m)) m.id
  error : {m : SubscribeError} → Names (Subscription (ASubscribeError m)) m.id
  finished : {m : SubscribeDone} → Names (Subscription (ASubscribeDone m)) m.id
  left : {id : ℕ} → Names (Subscription (AUnsubscribe id)) id
  updated : {m : SubscribeUpdate} → Names (Subscription (ASubscribeUpdate m)) m.id

-- a message that the ledger doesn't keep, a joining FETCH among them
pub data NotKept : Message → Type 0 where
  updated : {m : SubscribeUpdate} → NotKept (Subscription (ASubscribeUpdate m))
  blocked : {id : ℕ} → NotKept (Subscription (ASubscribesBlocked id))
  fetch : {m : FetchMessage} → NotKept (Fetch m)
  announce : {m : AnnounceMessage} → NotKept (Announce m)
  session : {m : SessionMessage} → NotKept (Session m)

-- two messages that may change places: they name different subscriptions, neither being SUBSCRIBE; or one of them is
-- not kept by the ledger
pub data Apart : Message → Message → Type 0 where
  different : {m n : Message} {i j : ℕ} → Names m i → Names n j → (i ≡ j → ⊥) → Apart m n
  first-not-kept : {m n : Message} → NotKept m → Apart m n
  second-not-kept : {m n : Message} → NotKept n → Apart m n

-- two events in either order: the same view, and each its own answer
pub record SeenInEitherOrder (v : View) (e f : Event) : Type 0 where
  pub next : (view_step (view_step v e).next f).next ≡ (view_step (view_step v f).next e).next
  pub first : (view_step (view_step v f).next e).says ≡ (view_step v e).says
  pub second : (view_step (view_step v e).next f).says ≡ (view_step v f).says
