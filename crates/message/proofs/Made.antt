-- The message that a type and fields say, and the answer that says so.
use Prim.Native.Nat.{ℕ}
use Rattle.std.specs.Prelude.{Ok, Err}
use Rattle.common.specs.Answer.{Answer, whole as answered, refused}
use Rattle.layout.specs.Typed.{Typed}
use Rattle.types.specs.Table.{Family, sessions, subscriptions, fetches, announces, on_listed, type_row_of}
use Rattle.subscription.proofs.Made.{message_of as subscription_of}
use Rattle.fetch.proofs.Made.{message_of as fetch_of}
use Rattle.announce.proofs.Made.{message_of as announce_of}
use Rattle.session.proofs.Made.{message_of as session_of}
use Rattle.types.proofs.OneAnswer.{refusal_of}
use Rattle.message.specs.Reading.{Reading}
use Rattle.message.specs.declared.Message.{Message}
use Rattle.message.specs.declared.Message.TheVariants.{Subscription, Fetch, Announce, Session}

-- the family whose a type is; of a number that is no type, any
unfoldable pub family_of : ℕ → Family
family_of type = on_listed (type_row_of type) sessions (λ r. r.family)

-- the message of a type, made by its family
abbrev pub message_by : Family → Typed → Message
message_by subscriptions t = Subscription (subscription_of t)
message_by fetches t = Fetch (fetch_of t)
message_by announces t = Announce (announce_of t)
message_by sessions t = Session (session_of t)

unfoldable pub message_of : Typed → Message
message_of t = message_by (family_of t.type) t

-- and the answer that says so
unfoldable pub answer_of : Answer Typed → Reading
answer_of (answered t used) = Ok (message_of t, used)
answer_of (refused n) = Err (refusal_of n)
