-- The kinds of control messages: the number of each, and which kind a number stands for.
use Rattle.std.specs.Prelude.{ℕ, Option, Some, None}
use Rattle.common.specs.Choice.{guard}
use Rattle.common.specs.Answer.{Answer, whole, refused}
use Rattle.types.specs.Table.{known}
use Rattle.types.specs.SubscriptionKinds.{number_of as subscription_number}
use Rattle.types.specs.FetchKinds.{number_of as fetch_number}
use Rattle.types.specs.AnnounceKinds.{number_of as announce_number}
use Rattle.types.specs.SessionKinds.{number_of as session_number}
use Rattle.types.specs.declared.kinds.Kind.{Kind}
use Rattle.types.specs.declared.kinds.Kind.TheVariants.{Subscription, Fetch, Announce, Session}

-- the number of a kind of message
unfoldable pub number_of : Kind → ℕ
number_of (Subscription k) = subscription_number k
number_of (Fetch k) = fetch_number k
number_of (Announce k) = announce_number k
number_of (Session k) = session_number k

-- a number and what is known of it: 2 where it is no type
unfoldable pub type_of : ℕ → Answer ℕ
type_of type = guard (known type) (refused 2) (whole type 0)

abbrev pub told_type : Option Kind → Answer ℕ
told_type (Some k) = whole (number_of k) 0
told_type None = refused 2
