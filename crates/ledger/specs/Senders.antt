-- Who sends a message, by its kind. Document 01 says it of those that may break a rule, section 8 of source document
-- 004 of the others.
use Rattle.subscription.specs.declared.SubscriptionMessage.{SubscriptionMessage}
use Rattle.subscription.specs.declared.SubscriptionMessage.TheVariants.{SubscribeUpdate, Subscribe, SubscribeOk, SubscribeError, Unsubscribe, SubscribeDone, MaxSubscribeId, SubscribesBlocked}
use Rattle.fetch.specs.declared.FetchMessage.{FetchMessage}
use Rattle.fetch.specs.declared.FetchMessage.TheVariants.{Fetch as AFetch, FetchOk, FetchError, FetchCancel, TrackStatusRequest, TrackStatus}
use Rattle.types.specs.declared.kinds.Naming.TheVariants.{AnnounceOk, Unannounce, SubscribeAnnouncesOk, UnsubscribeAnnounces}
use Rattle.types.specs.declared.kinds.Asking.TheVariants.{Announce as AnAnnounce, SubscribeAnnounces}
use Rattle.types.specs.declared.kinds.Refusing.TheVariants.{AnnounceError, AnnounceCancel, SubscribeAnnouncesError}
use Rattle.announce.specs.declared.AnnounceMessage.{AnnounceMessage}
use Rattle.announce.specs.declared.AnnounceMessage.TheVariants.{Named, Asked, Refused}
use Rattle.message.specs.declared.Message.{Message}
use Rattle.message.specs.declared.Message.TheVariants.{Subscription, Fetch, Announce, Session}
use Rattle.ledger.specs.declared.Part.{Part}
use Rattle.ledger.specs.declared.Part.TheVariants.{Subscriber, Publisher}

-- "SUBSCRIBE (sent by the subscriber)"; "SUBSCRIBE_OK, SUBSCRIBE_ERROR, SUBSCRIBE_DONE (publisher), UNSUBSCRIBE
-- (subscriber)"; "MAX_SUBSCRIBE_ID (publisher)". 004: "A subscriber issues a SUBSCRIBE_UPDATE to a publisher"; "The
-- SUBSCRIBES_BLOCKED message is sent when a subscriber would like to begin a new subscription"
abbrev pub sender : SubscriptionMessage → Part
sender (SubscribeUpdate m) = Subscriber
sender (Subscribe m) = Subscriber
sender (SubscribeOk m) = Publisher
sender (SubscribeError m) = Publisher
sender (Unsubscribe id) = Subscriber
sender (SubscribeDone m) = Publisher
sender (MaxSubscribeId id) = Publisher
sender (SubscribesBlocked id) = Subscriber

-- "A subscriber issues a FETCH to a publisher"; "A publisher sends a FETCH_OK control message", "a FETCH_ERROR control
-- message"; "A subscriber issues a FETCH_CANCEL message to a publisher"; "A potential subscriber sends a
-- 'TRACK_STATUS_REQUEST' message"; "A publisher sends a 'TRACK_STATUS' message"
abbrev pub fetch_sender : FetchMessage → Part
fetch_sender (AFetch m) = Subscriber
fetch_sender (FetchOk m) = Publisher
fetch_sender (FetchError m) = Publisher
fetch_sender (FetchCancel id) = Subscriber
fetch_sender (TrackStatusRequest track) = Subscriber
fetch_sender (TrackStatus m) = Publisher

-- "The publisher sends the ANNOUNCE control message", "the UNANNOUNCE control message"; "The subscriber sends an
-- ANNOUNCE_OK control message", "an ANNOUNCE_ERROR control message", "an ANNOUNCE_CANCEL control message", "the
-- SUBSCRIBE_ANNOUNCES control message"; "A publisher sends a SUBSCRIBE_ANNOUNCES_OK control message", "a
-- SUBSCRIBE_ANNOUNCES_ERROR control message"; "A subscriber issues a UNSUBSCRIBE_ANNOUNCES message to a publisher"
abbrev pub announce_sender : AnnounceMessage → Part
announce_sender (Asked AnAnnounce m) = Publisher
announce_sender (Named AnnounceOk namespace) = Subscriber
announce_sender (Refused AnnounceError m) = Subscriber
announce_sender (Named Unannounce namespace) = Publisher
announce_sender (Refused AnnounceCancel m) = Subscriber
announce_sender (Asked SubscribeAnnounces m) = Subscriber
announce_sender (Named SubscribeAnnouncesOk namespace) = Publisher
announce_sender (Refused SubscribeAnnouncesError m) = Publisher
announce_sender (Named UnsubscribeAnnounces namespace) = Subscriber

-- the one part; or either, as a client and a server may each be of either part, and "An endpoint sends a GOAWAY
-- message"
pub data Sender : Type 0 where
  the : Part → Sender
  either : Sender

abbrev pub sender_of : Message → Sender
sender_of (Subscription m) = the (sender m)
sender_of (Fetch m) = the (fetch_sender m)
sender_of (Announce m) = the (announce_sender m)
sender_of (Session m) = either
