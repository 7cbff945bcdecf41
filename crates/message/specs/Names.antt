-- The name of the track that a message names, as a part of the bytes that it was read from.
use Rattle.std.specs.Prelude.{ℕ, List, length, leb}
use Rattle.common.specs.Choice.{pick, both}
use Rattle.field.specs.Value.{nowhere}
use Rattle.field.specs.declared.Span.{Span}
use Rattle.subscription.specs.Names.{name_span as subscription_name}
use Rattle.fetch.specs.Names.{name_span as fetch_name}
use Rattle.message.specs.declared.Message.{Message}
use Rattle.message.specs.declared.Message.TheVariants.{Subscription, Fetch, Announce, Session}

-- where it stands: the messages of subscriptions and those that retrieve can name a track, the others name none
abbrev pub name_span : Message → Span
name_span (Subscription m) = subscription_name m
name_span (Fetch m) = fetch_name m
name_span (Announce m) = nowhere
name_span (Session m) = nowhere

-- and where in s, as the part that is handed back: nowhere where it does not stand within s
unfoldable pub named_span : List ℕ → Message → Span
named_span s m =
    pick (both (leb (name_span m).start (name_span m).end) (leb (name_span m).end (length s))) (name_span m) nowhere
