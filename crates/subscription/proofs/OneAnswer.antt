-- One possible answer: a message is put together again from what it says, so what it says, and what an answer says, loses nothing.
-- Assumes nothing.
use mathlib.Core.Path.{◌≡◌, refl}
use Rattle.std.specs.Prelude.{ℕ, Result, Option, Some, None}
use Rattle.common.proofs.Telling.{once}
use Rattle.field.specs.declared.Place.{Place}
use Rattle.field.specs.declared.Fault.{Fault}
use Rattle.layout.proofs.Family.{told_once}
use Rattle.subscription.specs.Told.{typed_of, told}
use Rattle.subscription.proofs.Made.{message_of}
use Rattle.subscription.specs.declared.Filter.{Filter}
use Rattle.subscription.specs.declared.Filter.TheVariants.{Latest, From, Range}
use Rattle.subscription.specs.declared.Subscribe.{Subscribe}
use Rattle.subscription.specs.declared.SubscribeOk.{SubscribeOk}
use Rattle.subscription.specs.declared.SubscriptionMessage.{SubscriptionMessage}
use Rattle.subscription.specs.declared.SubscriptionMessage.TheVariants.{SubscribeUpdate as ASubscribeUpdate, Subscribe as ASubscribe, SubscribeOk as ASubscribeOk, SubscribeError as ASubscribeError, Unsubscribe as AUnsubscribe, SubscribeDone as ASubscribeDone, MaxSubscribeId as AMaxSubscribeId, SubscribesBlocked as ASubscribesBlocked}

-- ---- a message that is made of its fields is the one that has them

subscribe-back : (m : Subscribe) (f : Filter) → m.filter ≡ f → message_of (typed_of (ASubscribe m)) ≡ ASubscribe m
unfolding message_of
subscribe-back m Latest e = rw e
subscribe-back m (From p) e = rw e
subscribe-back m (Range p last) e = rw e

ok-back : (m : SubscribeOk) (held : Option Place) → m.largest ≡ held → message_of (typed_of (ASubscribeOk m)) ≡ ASubscribeOk m
unfolding message_of
ok-back m None e = rw e
ok-back m (Some p) e = rw e

pub message-back : (m : SubscriptionMessage) → message_of (typed_of m) ≡ m
unfolding message_of
message-back (ASubscribeUpdate m) = refl
message-back (ASubscribe m) = subscribe-back m m.filter refl
message-back (ASubscribeOk m) = ok-back m m.largest refl
message-back (ASubscribeError m) = refl
message-back (AUnsubscribe id) = refl
message-back (ASubscribeDone m) = refl
message-back (AMaxSubscribeId id) = refl
message-back (ASubscribesBlocked id) = refl

-- ---- so

-- a type and fields are those of one message,
pub typed-once : (m n : SubscriptionMessage) → typed_of m ≡ typed_of n → m ≡ n
typed-once = once typed_of message_of message-back

-- and what is told is told of one answer
pub told-once : (a b : Result (SubscriptionMessage × ℕ) Fault) → told a ≡ told b → a ≡ b
told-once = told_once typed_of typed-once
