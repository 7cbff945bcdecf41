-- What the layout of a message's type forbids, by its family: the messages of namespaces, and those of a session, hold nothing that
-- could be. Assumes nothing.
use mathlib.Core.Path.{◌≡◌, refl}
use mathlib.Core.Bool.{Bool, true}
use Rattle.layout.specs.Layout.{failure, parameters}
use Rattle.layout.specs.Allowed.{allowed}
use Rattle.subscription.specs.Told.{typed_of as subscription_typed}
use Rattle.subscription.specs.declared.SubscriptionMessage.{SubscriptionMessage}
use Rattle.fetch.specs.Told.{typed_of as fetch_typed}
use Rattle.fetch.specs.declared.FetchMessage.{FetchMessage}
use Rattle.types.specs.Announces.{named}
use Rattle.announce.specs.AfterNamespace.{rest}
use Rattle.announce.proofs.ByKind.{layout_is}
use Rattle.announce.specs.declared.AnnounceMessage.{AnnounceMessage}
use Rattle.announce.specs.declared.AnnounceMessage.TheVariants.{Named, Asked, Refused}
use Rattle.types.specs.declared.kinds.AnnounceKind.TheVariants.{Named as KindNamed, Asked as KindAsked, Refused as KindRefused}
use Rattle.types.specs.Sessions.{client_setup, server_setup, go_away}
use Rattle.session.specs.declared.SessionMessage.{SessionMessage}
use Rattle.session.specs.declared.SessionMessage.TheVariants.{ClientSetup, ServerSetup, GoAway}
use Rattle.types.specs.Table.{messages, type_row_in, type_row_of, layout_of, allowed_typed}
use Rattle.message_writer.specs.Writing.{allowed_of}
use Rattle.message.specs.declared.Message.{Message}
use Rattle.message.specs.declared.Message.TheVariants.{Subscription, Fetch, Announce, Session}
use Rattle.types.proofs.KindRows.{announce-layout}

-- a message is judged as its family judges it:
module _ {m : Message} {a : Bool} where
  pub by-subscription : {x : SubscriptionMessage} → m ≡ Subscription x → a ≡ allowed_typed (subscription_typed x) → a ≡ allowed_of m
  unfolding allowed_of
  by-subscription {x} e h = rw e h

  pub by-fetch : {x : FetchMessage} → m ≡ Fetch x → a ≡ allowed_typed (fetch_typed x) → a ≡ allowed_of m
  unfolding allowed_of
  by-fetch {x} e h = rw e h

-- nothing is forbidden about a namespace,
announce-any : (x : AnnounceMessage) → true ≡ allowed_of (Announce x)
unfolding allowed_of allowed failure parameters named rest
announce-any (Named k n) = rw (announce-layout (KindNamed k), layout_is (KindNamed k))
announce-any (Asked k m) = rw (announce-layout (KindAsked k), layout_is (KindAsked k))
announce-any (Refused k m) = rw (announce-layout (KindRefused k), layout_is (KindRefused k))

pub is-announce : {m : Message} {x : AnnounceMessage} → m ≡ Announce x → true ≡ allowed_of m
is-announce {x = x} e = rw e (announce-any x)

-- or of a session
session-any : (x : SessionMessage) → true ≡ allowed_of (Session x)
unfolding allowed_of allowed layout_of type_row_of type_row_in messages parameters client_setup server_setup go_away
session-any (ClientSetup m) = refl
session-any (ServerSetup m) = refl
session-any (GoAway uri) = refl

pub is-session : {m : Message} {x : SessionMessage} → m ≡ Session x → true ≡ allowed_of m
is-session {x = x} e = rw e (session-any x)
