-- The kinds of control messages: each stands in its row of the table, so its number is known, and the layout of its body is its row's. Assumes nothing.
use Prim.Native.Nat.{ℕ}
use mathlib.Core.Path.{◌≡◌, refl, sym, ap, ◌∙◌}
use mathlib.Core.Bool.{true, false}
use native.Mathlib.Omega.{arith}
use Rattle.types.proofs.Gaps.{below-the-first}
use Rattle.types.specs.SubscriptionKinds.{type_row as subscription_row, layout_of as subscription_layout}
use Rattle.types.specs.declared.kinds.SubscriptionKind.{SubscriptionKind}
use Rattle.types.specs.declared.kinds.SubscriptionKind.TheVariants.{SubscribeUpdate, Subscribe, SubscribeOk, SubscribeError, Unsubscribe, SubscribeDone, MaxSubscribeId, SubscribesBlocked}
use Rattle.types.specs.FetchKinds.{type_row as fetch_row, layout_of as fetch_layout}
use Rattle.types.specs.declared.kinds.FetchKind.{FetchKind}
use Rattle.types.specs.declared.kinds.FetchKind.TheVariants.{Fetch as AFetch, FetchOk, FetchError, FetchCancel, TrackStatusRequest, TrackStatus}
use Rattle.types.specs.AnnounceKinds.{type_row as announce_row, number_of as announce_number, layout_of as announce_layout}
use Rattle.types.specs.declared.kinds.AnnounceKind.{AnnounceKind}
use Rattle.types.specs.declared.kinds.AnnounceKind.TheVariants.{Named, Asked, Refused}
use Rattle.types.specs.declared.kinds.Naming.TheVariants.{AnnounceOk, Unannounce, SubscribeAnnouncesOk, UnsubscribeAnnounces}
use Rattle.types.specs.declared.kinds.Asking.TheVariants.{Announce as AnAnnounce, SubscribeAnnounces}
use Rattle.types.specs.declared.kinds.Refusing.TheVariants.{AnnounceError, AnnounceCancel, SubscribeAnnouncesError}
use Rattle.types.specs.SessionKinds.{type_row as session_row, layout_of as session_layout}
use Rattle.types.specs.declared.kinds.SessionKind.{SessionKind}
use Rattle.types.specs.declared.kinds.SessionKind.TheVariants.{ClientSetup, ServerSetup, GoAway}
use Rattle.types.specs.Table.{TypeRow, listed, messages, type_row_in, type_row_of, known, layout_of}
use Rattle.types.specs.Kinds.{number_of}
use Rattle.types.specs.declared.kinds.Kind.{Kind}
use Rattle.types.specs.declared.kinds.Kind.TheVariants.{Subscription, Fetch, Announce, Session}

-- ---- the families

-- a row is found by its number,
abbrev Stands : TypeRow → Type 0
Stands r = type_row_of r.number ≡ listed r

-- so that is known,
row-known : (r : TypeRow) → Stands r → known r.number ≡ true
unfolding known
row-known r h = rw h

-- and the layout of its body is the row's
row-layout : (r : TypeRow) → Stands r → layout_of r.number ≡ r.layout
unfolding layout_of
row-layout r h = rw h

subscription : (k : SubscriptionKind) → Stands (subscription_row k)
unfolding type_row_of type_row_in messages subscription_row
subscription SubscribeUpdate = refl
subscription Subscribe = refl
subscription SubscribeOk = refl
subscription SubscribeError = refl
subscription Unsubscribe = refl
subscription SubscribeDone = refl
subscription MaxSubscribeId = refl
subscription SubscribesBlocked = refl

fetch : (k : FetchKind) → Stands (fetch_row k)
unfolding type_row_of type_row_in messages fetch_row
fetch AFetch = refl
fetch FetchOk = refl
fetch FetchError = refl
fetch FetchCancel = refl
fetch TrackStatusRequest = refl
fetch TrackStatus = refl

announce : (k : AnnounceKind) → Stands (announce_row k)
unfolding type_row_of type_row_in messages announce_row
announce (Named AnnounceOk) = refl
announce (Named Unannounce) = refl
announce (Named SubscribeAnnouncesOk) = refl
announce (Named UnsubscribeAnnounces) = refl
announce (Asked AnAnnounce) = refl
announce (Asked SubscribeAnnounces) = refl
announce (Refused AnnounceError) = refl
announce (Refused AnnounceCancel) = refl
announce (Refused SubscribeAnnouncesError) = refl

session : (k : SessionKind) → Stands (session_row k)
unfolding type_row_of type_row_in messages session_row
session ClientSetup = refl
session ServerSetup = refl
session GoAway = refl

-- ---- every kind

-- its number is known,
pub is_known : (k : Kind) → known (number_of k) ≡ true
unfolding number_of
is_known (Subscription k) = row-known (subscription_row k) (subscription k)
is_known (Fetch k) = row-known (fetch_row k) (fetch k)
is_known (Announce k) = row-known (announce_row k) (announce k)
is_known (Session k) = row-known (session_row k) (session k)

-- so it is not 0,
pub not-zero : (k : Kind) → number_of k ≡ 0 → ⊥
not-zero k e =
    let h : false ≡ true = sym (below-the-first (omega arith)) ∙ ap known (sym e) ∙ is_known k in
    let z : ◌≡◌ {A = ℕ} 0 1 = cc in
    omega arith

-- and the layout of its body is its family's
pub layout-subscription : (k : SubscriptionKind) → layout_of (number_of (Subscription k)) ≡ subscription_layout k
unfolding number_of
layout-subscription k = row-layout (subscription_row k) (subscription k)

pub layout-fetch : (k : FetchKind) → layout_of (number_of (Fetch k)) ≡ fetch_layout k
unfolding number_of
layout-fetch k = row-layout (fetch_row k) (fetch k)

pub layout-announce : (k : AnnounceKind) → layout_of (number_of (Announce k)) ≡ announce_layout k
unfolding number_of
layout-announce k = row-layout (announce_row k) (announce k)

pub layout-session : (k : SessionKind) → layout_of (number_of (Session k)) ≡ session_layout k
unfolding number_of
layout-session k = row-layout (session_row k) (session k)

-- the same of a message about a namespace, by the kind that its family has
pub announce-known : (k : AnnounceKind) → known (announce_number k) ≡ true
announce-known k = row-known (announce_row k) (announce k)

pub announce-layout : (k : AnnounceKind) → layout_of (announce_number k) ≡ announce_layout k
announce-layout k = row-layout (announce_row k) (announce k)
