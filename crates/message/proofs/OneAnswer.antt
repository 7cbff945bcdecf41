-- One possible answer: 01's number and values lose nothing. A type and fields are those of
-- one message, which is made of them again, by its family; and so is the answer that tells it. Assumes nothing.
use Prim.Native.Nat.{ℕ}
use mathlib.Core.Path.{◌≡◌, refl, sym, ◌∙◌}
use mathlib.Core.List.{List}
use Rattle.std.specs.Prelude.{Ok, Err}
use Rattle.common.proofs.Telling.{once}
use Rattle.types.proofs.OneAnswer.{refusal_back}
use Rattle.types.specs.Table.{sessions, subscriptions, fetches, announces, messages, type_row_in, type_row_of}
use Rattle.subscription.proofs.OneAnswer.{message-back as subscription-back}
use Rattle.subscription.specs.Told.{typed_of as subscription_typed}
use Rattle.subscription.specs.declared.SubscriptionMessage.{SubscriptionMessage}
use Rattle.subscription.specs.declared.SubscriptionMessage.TheVariants as subscription
use Rattle.fetch.proofs.OneAnswer.{message-back as fetch-back}
use Rattle.fetch.specs.Told.{typed_of as fetch_typed}
use Rattle.fetch.specs.declared.FetchMessage.{FetchMessage}
use Rattle.fetch.specs.declared.FetchMessage.TheVariants as fetch
use Rattle.announce.proofs.OneAnswer.{message-back as announce-back}
use Rattle.announce.specs.Told.{typed_of as announce_typed}
use Rattle.types.specs.AnnounceKinds.{type_row as announce_row}
use Rattle.types.specs.declared.kinds.Naming.TheVariants as naming
use Rattle.types.specs.declared.kinds.Asking.TheVariants as asking
use Rattle.types.specs.declared.kinds.Refusing.TheVariants as refusing
use Rattle.announce.specs.declared.AnnounceMessage.{AnnounceMessage}
use Rattle.announce.specs.declared.AnnounceMessage.TheVariants as announce
use Rattle.session.proofs.OneAnswer.{message-back as session-back}
use Rattle.session.specs.Told.{typed_of as session_typed}
use Rattle.session.specs.declared.SessionMessage.{SessionMessage}
use Rattle.session.specs.declared.SessionMessage.TheVariants as session
use Rattle.message.specs.Types.{typed_of}
use Rattle.message.proofs.Made.{family_of, message_of, answer_of}
use Rattle.message.specs.Reading.{Reading, read_of, told}
use Rattle.message.specs.declared.Message.{Message}
use Rattle.message.specs.declared.Message.TheVariants.{Subscription, Fetch, Announce, Session}

-- ---- the families, by the numbers of their types

-- each message has a number of its family
of-subscription : (m : SubscriptionMessage) → family_of (subscription_typed m).type ≡ subscriptions
unfolding family_of type_row_of type_row_in messages
of-subscription (subscription.SubscribeUpdate m) = refl
of-subscription (subscription.Subscribe m) = refl
of-subscription (subscription.SubscribeOk m) = refl
of-subscription (subscription.SubscribeError m) = refl
of-subscription (subscription.Unsubscribe id) = refl
of-subscription (subscription.SubscribeDone m) = refl
of-subscription (subscription.MaxSubscribeId id) = refl
of-subscription (subscription.SubscribesBlocked id) = refl

of-fetch : (m : FetchMessage) → family_of (fetch_typed m).type ≡ fetches
unfolding family_of type_row_of type_row_in messages
of-fetch (fetch.Fetch m) = refl
of-fetch (fetch.FetchOk m) = refl
of-fetch (fetch.FetchError m) = refl
of-fetch (fetch.FetchCancel id) = refl
of-fetch (fetch.TrackStatusRequest t) = refl
of-fetch (fetch.TrackStatus m) = refl

of-announce : (m : AnnounceMessage) → family_of (announce_typed m).type ≡ announces
unfolding family_of type_row_of type_row_in messages announce_row
of-announce (announce.Named naming.AnnounceOk n) = refl
of-announce (announce.Named naming.Unannounce n) = refl
of-announce (announce.Named naming.SubscribeAnnouncesOk n) = refl
of-announce (announce.Named naming.UnsubscribeAnnounces n) = refl
of-announce (announce.Asked asking.Announce m) = refl
of-announce (announce.Asked asking.SubscribeAnnounces m) = refl
of-announce (announce.Refused refusing.AnnounceError m) = refl
of-announce (announce.Refused refusing.AnnounceCancel m) = refl
of-announce (announce.Refused refusing.SubscribeAnnouncesError m) = refl

of-session : (m : SessionMessage) → family_of (session_typed m).type ≡ sessions
unfolding family_of type_row_of type_row_in messages
of-session (session.ClientSetup m) = refl
of-session (session.ServerSetup m) = refl
of-session (session.GoAway uri) = refl

-- ---- they are the ones that were told

-- a message,
message-back : (m : Message) → message_of (typed_of m) ≡ m
unfolding message_of
message-back (Subscription m) = rw (of-subscription m, subscription-back m)
message-back (Fetch m) = rw (of-fetch m, fetch-back m)
message-back (Announce m) = rw (of-announce m, announce-back m)
message-back (Session m) = rw (of-session m, session-back m)

-- and an answer
pub answer_back : (a : Reading) → answer_of (told a) ≡ a
unfolding answer_of
answer_back (Ok (m, used)) = rw message-back
answer_back (Err r) = rw refusal_back

-- ---- so nothing is lost

-- a type and fields are those of one message,
pub typed-once : (m n : Message) → typed_of m ≡ typed_of n → m ≡ n
typed-once = once typed_of message_of message-back

-- and what is answered is answered in one way
pub told-once : (a b : Reading) → told a ≡ told b → a ≡ b
told-once = once told answer_of answer_back

-- ---- of reading and of writing

-- two answers that both meet the contract of `read` are the same
pub read-once : (s : List ℕ) (a b : Reading) → told a ≡ read_of s → told b ≡ read_of s → a ≡ b
read-once s a b h k = told-once a b (h ∙ sym k)
