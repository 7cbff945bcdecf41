-- One possible answer: 01's number and values of a message, and of what was read, lose nothing. Assumes nothing.
use mathlib.Core.Path.{◌≡◌, refl}
use Rattle.std.specs.Prelude.{ℕ, Result}
use Rattle.common.proofs.Telling.{once}
use Rattle.field.specs.declared.Fault.{Fault}
use Rattle.layout.proofs.Family.{told_once}
use Rattle.types.specs.AnnounceKinds.{type_row, number_of}
use Rattle.announce.specs.Told.{typed_of, told}
use Rattle.announce.proofs.Made.{kind_of, message_of}
use Rattle.types.specs.declared.kinds.Naming.TheVariants.{AnnounceOk, Unannounce, SubscribeAnnouncesOk, UnsubscribeAnnounces}
use Rattle.types.specs.declared.kinds.Asking.TheVariants.{Announce, SubscribeAnnounces}
use Rattle.types.specs.declared.kinds.Refusing.TheVariants.{AnnounceError, AnnounceCancel, SubscribeAnnouncesError}
use Rattle.types.specs.declared.kinds.AnnounceKind.{AnnounceKind}
use Rattle.types.specs.declared.kinds.AnnounceKind.TheVariants.{Named, Asked, Refused}
use Rattle.announce.specs.declared.AnnounceMessage.{AnnounceMessage}
use Rattle.announce.specs.declared.AnnounceMessage.TheVariants.{Named as ANamed, Asked as AnAsked, Refused as ARefused}

kind-back : (k : AnnounceKind) → kind_of (number_of k) ≡ k
unfolding kind_of type_row
kind-back (Asked Announce) = refl
kind-back (Named AnnounceOk) = refl
kind-back (Refused AnnounceError) = refl
kind-back (Named Unannounce) = refl
kind-back (Refused AnnounceCancel) = refl
kind-back (Asked SubscribeAnnounces) = refl
kind-back (Named SubscribeAnnouncesOk) = refl
kind-back (Refused SubscribeAnnouncesError) = refl
kind-back (Named UnsubscribeAnnounces) = refl

-- the message that is made of what was said is the one that said it,
pub message-back : (m : AnnounceMessage) → message_of (typed_of m) ≡ m
unfolding message_of
message-back (ANamed k n) = rw (kind-back (Named k))
message-back (AnAsked k m) = rw (kind-back (Asked k))
message-back (ARefused k m) = rw (kind-back (Refused k))

-- so a type and fields are those of one message,
pub typed-once : (m n : AnnounceMessage) → typed_of m ≡ typed_of n → m ≡ n
typed-once = once typed_of message_of message-back

-- and what is told is told of one answer
pub told-once : (a b : Result (AnnounceMessage × ℕ) Fault) → told a ≡ told b → a ≡ b
told-once = told_once typed_of typed-once
