-- One possible answer: a number is that of one kind of message, so 01's number of what was found loses nothing. Assumes nothing.
use Prim.Native.Nat.{ℕ}
use mathlib.Core.Path.{◌≡◌, refl}
use mathlib.Core.List.{List, [], ◌∷◌}
use lib.Dec.{eqb}
use Rattle.std.specs.Prelude.{Option, Some, None}
use Rattle.common.specs.Choice.{pick}
use Rattle.common.specs.Answer.{Answer, whole, refused}
use Rattle.common.proofs.Telling.{once}
use Rattle.types.specs.SubscriptionKinds.{type_row as subscription_row}
use Rattle.types.specs.FetchKinds.{type_row as fetch_row}
use Rattle.types.specs.AnnounceKinds.{type_row as announce_row}
use Rattle.types.specs.SessionKinds.{type_row as session_row}
use Rattle.types.specs.Kinds.{number_of, told_type}
use Rattle.types.specs.declared.kinds.SubscriptionKind.TheVariants as subscription
use Rattle.types.specs.declared.kinds.FetchKind.TheVariants as fetch
use Rattle.types.specs.declared.kinds.AnnounceKind.TheVariants.{Named, Asked, Refused}
use Rattle.types.specs.declared.kinds.Naming.TheVariants as naming
use Rattle.types.specs.declared.kinds.Asking.TheVariants as asking
use Rattle.types.specs.declared.kinds.Refusing.TheVariants as refusing
use Rattle.types.specs.declared.kinds.SessionKind.TheVariants as session
use Rattle.types.specs.declared.kinds.Kind.{Kind}
use Rattle.types.specs.declared.kinds.Kind.TheVariants.{Subscription, Fetch, Announce, Session}
use Rattle.types.specs.Refusals.{number_of as refusal_number}
use Rattle.types.specs.declared.Refusal.{Refusal}
use Rattle.types.specs.declared.Refusal.TheVariants.{More, Unknown, TooLong, Unfilled, Forbidden, Oversize}

-- the first kind of a list that has a number, or another where none has
first_of : Kind → List Kind → ℕ → Kind
first_of other [] number = other
first_of other (k ∷ ks) number = pick (eqb number (number_of k)) k (first_of other ks number)

-- the kind that has a number
kind_of : ℕ → Kind
kind_of =
    first_of (Session session.ServerSetup)
    (Subscription subscription.SubscribeUpdate ∷ Subscription subscription.Subscribe ∷ Subscription subscription.SubscribeOk
    ∷ Subscription subscription.SubscribeError ∷ Subscription subscription.Unsubscribe ∷ Subscription subscription.SubscribeDone
    ∷ Subscription subscription.MaxSubscribeId ∷ Subscription subscription.SubscribesBlocked
    ∷ Fetch fetch.Fetch ∷ Fetch fetch.FetchOk ∷ Fetch fetch.FetchError ∷ Fetch fetch.FetchCancel
    ∷ Fetch fetch.TrackStatusRequest ∷ Fetch fetch.TrackStatus
    ∷ Announce (Asked asking.Announce) ∷ Announce (Named naming.AnnounceOk) ∷ Announce (Refused refusing.AnnounceError)
    ∷ Announce (Named naming.Unannounce) ∷ Announce (Refused refusing.AnnounceCancel)
    ∷ Announce (Asked asking.SubscribeAnnounces) ∷ Announce (Named naming.SubscribeAnnouncesOk)
    ∷ Announce (Refused refusing.SubscribeAnnouncesError) ∷ Announce (Named naming.UnsubscribeAnnounces)
    ∷ Session session.ClientSetup ∷ Session session.GoAway ∷ [])

kind-back : (k : Kind) → kind_of (number_of k) ≡ k
unfolding kind_of first_of number_of subscription_row fetch_row announce_row session_row
kind-back (Subscription subscription.SubscribeUpdate) = refl
kind-back (Subscription subscription.Subscribe) = refl
kind-back (Subscription subscription.SubscribeOk) = refl
kind-back (Subscription subscription.SubscribeError) = refl
kind-back (Subscription subscription.Unsubscribe) = refl
kind-back (Subscription subscription.SubscribeDone) = refl
kind-back (Subscription subscription.MaxSubscribeId) = refl
kind-back (Subscription subscription.SubscribesBlocked) = refl
kind-back (Fetch fetch.Fetch) = refl
kind-back (Fetch fetch.FetchOk) = refl
kind-back (Fetch fetch.FetchError) = refl
kind-back (Fetch fetch.FetchCancel) = refl
kind-back (Fetch fetch.TrackStatusRequest) = refl
kind-back (Fetch fetch.TrackStatus) = refl
kind-back (Announce (Asked asking.Announce)) = refl
kind-back (Announce (Asked asking.SubscribeAnnounces)) = refl
kind-back (Announce (Named naming.AnnounceOk)) = refl
kind-back (Announce (Named naming.Unannounce)) = refl
kind-back (Announce (Named naming.SubscribeAnnouncesOk)) = refl
kind-back (Announce (Named naming.UnsubscribeAnnounces)) = refl
kind-back (Announce (Refused refusing.AnnounceError)) = refl
kind-back (Announce (Refused refusing.AnnounceCancel)) = refl
kind-back (Announce (Refused refusing.SubscribeAnnouncesError)) = refl
kind-back (Session session.ClientSetup) = refl
kind-back (Session session.ServerSetup) = refl
kind-back (Session session.GoAway) = refl

-- what was found, by its number
found_of : Answer ℕ → Option Kind
found_of (whole number used) = Some (kind_of number)
found_of (refused number) = None

found_back : (f : Option Kind) → found_of (told_type f) ≡ f
unfolding found_of
found_back (Some k) = rw (kind-back k)
found_back None = refl

-- so what is told is told of one answer
pub told-once : (a b : Option Kind) → told_type a ≡ told_type b → a ≡ b
told-once = once told_type found_of found_back

-- the refusal that has a number, or the last where none has
unfoldable pub refusal_of : ℕ → Refusal
refusal_of number =
    pick (eqb number 1) More (pick (eqb number 2) Unknown (pick (eqb number 3) TooLong
    (pick (eqb number 4) Unfilled (pick (eqb number 5) Forbidden Oversize))))

pub refusal_back : (r : Refusal) → refusal_of (refusal_number r) ≡ r
unfolding refusal_of
refusal_back More = refl
refusal_back Unknown = refl
refusal_back TooLong = refl
refusal_back Unfilled = refl
refusal_back Forbidden = refl
refusal_back Oversize = refl

-- and a number is that of one refusal
pub refusal-once : (a b : Refusal) → refusal_number a ≡ refusal_number b → a ≡ b
refusal-once = once refusal_number refusal_of refusal_back
