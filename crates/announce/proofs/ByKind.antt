-- A message of a kind that is known. Assumes nothing.
use Prim.Native.Nat.{ℕ}
use mathlib.Core.Path.{◌≡◌, refl}
use mathlib.Core.List.{List}
use Rattle.field.specs.Outcome.{whole, no}
use Rattle.field.specs.declared.Fault.{Fault}
use Rattle.field.specs.declared.Piece.{Piece}
use Rattle.layout.specs.Layout.{done, scan}
use Rattle.layout.specs.Typed.{typed}
use Rattle.layout.specs.declared.FieldName.{FieldName}
use Rattle.layout.specs.declared.FieldName.TheVariants.{TrackNamespace, TrackNamespacePrefix}
use Rattle.layout.proofs.Family.{typed_no, typed-whole}
use Rattle.layout.proofs.Steps.{To, Stops}
use Rattle.types.specs.Announces.{named}
use Rattle.types.specs.AnnounceKinds.{type_row, number_of, layout_of}
use Rattle.announce.specs.AfterNamespace.{rest}
use Rattle.types.specs.declared.kinds.Naming.TheVariants.{AnnounceOk, Unannounce, SubscribeAnnouncesOk, UnsubscribeAnnounces}
use Rattle.types.specs.declared.kinds.Asking.TheVariants.{Announce, SubscribeAnnounces}
use Rattle.types.specs.declared.kinds.Refusing.TheVariants.{AnnounceError, AnnounceCancel, SubscribeAnnouncesError}
use Rattle.types.specs.declared.kinds.AnnounceKind.{AnnounceKind}
use Rattle.types.specs.declared.kinds.AnnounceKind.TheVariants.{Named, Asked, Refused}

-- its layout: a namespace, by the name that 004 has for it, and what follows it
pub named-as : (kind : AnnounceKind) → (name : FieldName) × (layout_of kind ≡ named name (rest kind))
unfolding type_row rest
named-as (Asked Announce) = (TrackNamespace, refl)
named-as (Named AnnounceOk) = (TrackNamespace, refl)
named-as (Refused AnnounceError) = (TrackNamespace, refl)
named-as (Named Unannounce) = (TrackNamespace, refl)
named-as (Refused AnnounceCancel) = (TrackNamespace, refl)
named-as (Asked SubscribeAnnounces) = (TrackNamespacePrefix, refl)
named-as (Named SubscribeAnnouncesOk) = (TrackNamespacePrefix, refl)
named-as (Refused SubscribeAnnouncesError) = (TrackNamespacePrefix, refl)
named-as (Named UnsubscribeAnnounces) = (TrackNamespacePrefix, refl)

pub layout_is : (kind : AnnounceKind) → layout_of kind ≡ named (named-as kind).0 (rest kind)
layout_is kind = (named-as kind).1

-- so what is read of it, by the kind that it is: a fault, or all of it
module _ (s : List ℕ) (at : ℕ) {kind k : AnnounceKind} (which : kind ≡ k) where
  pub kind-no : {fault : Fault} → ((name : FieldName) → Stops s (named name (rest k)) at fault) → no fault ≡ typed (number_of kind) (scan (layout_of kind) s at)
  kind-no w = rw which (rw (layout_is k) (typed_no (number_of k) (w (named-as k).0)))

  pub kind-whole : {type : ℕ} {ps : List Piece} {end : ℕ} → ((name : FieldName) → To s (named name (rest k)) at ps done end) → type ≡ number_of k → whole (record { type = type; pieces = ps }) end ≡ typed (number_of kind) (scan (layout_of kind) s at)
  kind-whole w e = rw (which, e) (rw (layout_is k) (typed-whole (number_of k) (w (named-as k).0)))
