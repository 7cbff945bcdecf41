-- The name of a message's track: where it stands in the bytes that the message was read from.
use Rattle.field.specs.Value.{nowhere}
use Rattle.field.specs.declared.Span.{Span}
use Rattle.subscription.specs.declared.SubscriptionMessage.{SubscriptionMessage}
use Rattle.subscription.specs.declared.SubscriptionMessage.TheVariants.{SubscribeUpdate, Subscribe, SubscribeOk, SubscribeError, Unsubscribe, SubscribeDone, MaxSubscribeId, SubscribesBlocked}

-- SUBSCRIBE names one
abbrev pub name_span : SubscriptionMessage → Span
name_span (SubscribeUpdate m) = nowhere
name_span (Subscribe m) = m.track.name
name_span (SubscribeOk m) = nowhere
name_span (SubscribeError m) = nowhere
name_span (Unsubscribe id) = nowhere
name_span (SubscribeDone m) = nowhere
name_span (MaxSubscribeId id) = nowhere
name_span (SubscribesBlocked id) = nowhere
