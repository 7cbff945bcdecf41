-- A message as the number of its type and its fields.
use Rattle.layout.specs.Typed.{Typed}
use Rattle.subscription.specs.Told.{typed_of as subscription_typed}
use Rattle.fetch.specs.Told.{typed_of as fetch_typed}
use Rattle.announce.specs.Told.{typed_of as announce_typed}
use Rattle.session.specs.Told.{typed_of as session_typed}
use Rattle.message.specs.declared.Message.{Message}
use Rattle.message.specs.declared.Message.TheVariants.{Subscription, Fetch, Announce, Session}

abbrev pub typed_of : Message → Typed
typed_of (Subscription m) = subscription_typed m
typed_of (Fetch m) = fetch_typed m
typed_of (Announce m) = announce_typed m
typed_of (Session m) = session_typed m
