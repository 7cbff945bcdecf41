-- One possible answer: 01's number and values of a message, and of what was read, lose nothing. Assumes nothing.
use mathlib.Core.Path.{◌≡◌, refl}
use Rattle.std.specs.Prelude.{ℕ, Result}
use Rattle.common.proofs.Telling.{once}
use Rattle.field.specs.declared.Fault.{Fault}
use Rattle.layout.proofs.Family.{told_once}
use Rattle.session.specs.Told.{typed_of, told}
use Rattle.session.proofs.Made.{message_of}
use Rattle.session.specs.declared.SessionMessage.{SessionMessage}
use Rattle.session.specs.declared.SessionMessage.TheVariants.{ClientSetup, ServerSetup, GoAway}

-- the message that is made of what was said is the one that said it,
pub message-back : (m : SessionMessage) → message_of (typed_of m) ≡ m
unfolding message_of
message-back (ClientSetup m) = refl
message-back (ServerSetup m) = refl
message-back (GoAway uri) = refl

-- so a type and fields are those of one message,
pub typed-once : (m n : SessionMessage) → typed_of m ≡ typed_of n → m ≡ n
typed-once = once typed_of message_of message-back

-- and what is told is told of one answer
pub told-once : (a b : Result (SessionMessage × ℕ) Fault) → told a ≡ told b → a ≡ b
told-once = told_once typed_of typed-once
