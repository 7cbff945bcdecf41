-- The message that a type and fields say. Made of any fields that the layout of its type reads, it says them. Assumes nothing.
use Prim.Native.Nat.{ℕ}
use mathlib.Core.Path.{◌≡◌, refl}
use mathlib.Core.List.{List}
use lib.Dec.{eqb}
use Rattle.common.specs.Choice.{pick}
use Rattle.field.specs.declared.Piece.{Piece}
use Rattle.layout.proofs.Parts.{entries_in, failure_in}
use Rattle.layout.specs.Typed.{Typed}
use Rattle.layout.specs.Layout.{failure, parameters}
use Rattle.layout.proofs.Every.{Every}
use Rattle.types.specs.Table.{typed_as, announce_row, announce_ok_row, announce_error_row, unannounce_row, announce_cancel_row, subscribe_announces_row, subscribe_announces_ok_row, subscribe_announces_error_row}
use Rattle.types.specs.Announces.{named}
use Rattle.types.specs.declared.kinds.Naming.TheVariants.{AnnounceOk, Unannounce, SubscribeAnnouncesOk, UnsubscribeAnnounces}
use Rattle.types.specs.declared.kinds.Asking.TheVariants.{Announce, SubscribeAnnounces}
use Rattle.types.specs.declared.kinds.Refusing.TheVariants.{AnnounceError, AnnounceCancel, SubscribeAnnouncesError}
use Rattle.types.specs.declared.kinds.AnnounceKind.{AnnounceKind}
use Rattle.types.specs.declared.kinds.AnnounceKind.TheVariants.{Named, Asked, Refused}
use Rattle.announce.specs.declared.AnnounceMessage.{AnnounceMessage}
use Rattle.announce.specs.declared.AnnounceMessage.TheVariants.{Named as ANamed, Asked as AnAsked, Refused as ARefused}
use Rattle.types.specs.AnnounceKinds.{type_row}
use Rattle.announce.specs.Told.{typed_of}

-- the kind that a number stands for
unfoldable pub kind_of : ℕ → AnnounceKind
kind_of type =
    pick (eqb type announce_row.number) (Asked Announce)
    (pick (eqb type announce_ok_row.number) (Named AnnounceOk)
    (pick (eqb type announce_error_row.number) (Refused AnnounceError)
    (pick (eqb type unannounce_row.number) (Named Unannounce)
    (pick (eqb type announce_cancel_row.number) (Refused AnnounceCancel)
    (pick (eqb type subscribe_announces_row.number) (Asked SubscribeAnnounces)
    (pick (eqb type subscribe_announces_ok_row.number) (Named SubscribeAnnouncesOk)
    (pick (eqb type subscribe_announces_error_row.number) (Refused SubscribeAnnouncesError) (Named UnsubscribeAnnounces))))))))

abbrev pub message_by : AnnounceKind → List Piece → AnnounceMessage
message_by (Named k) ps = ANamed k (entries_in ps 0)
message_by (Asked k) ps = AnAsked k (record { namespace = entries_in ps 0; parameters = entries_in ps 1 })
message_by (Refused k) ps = ARefused k (record { namespace = entries_in ps 0; failure = failure_in ps 1 })

unfoldable pub message_of : Typed → AnnounceMessage
message_of t = message_by (kind_of t.type) t.pieces

-- whatever fields the layout of a kind reads, the message that is made of them says them
pub made-says : (k : AnnounceKind) → Every (type_row k).layout (λ ps. typed_of (message_of (typed_as (type_row k) ps)) ≡ typed_as (type_row k) ps)
unfolding type_row kind_of message_of named failure parameters
made-says (Named AnnounceOk) = λ n. refl
made-says (Named Unannounce) = λ n. refl
made-says (Named SubscribeAnnouncesOk) = λ n. refl
made-says (Named UnsubscribeAnnounces) = λ n. refl
made-says (Asked Announce) = λ n ps. refl
made-says (Asked SubscribeAnnounces) = λ n ps. refl
made-says (Refused AnnounceError) = λ n code reason. refl
made-says (Refused AnnounceCancel) = λ n code reason. refl
made-says (Refused SubscribeAnnouncesError) = λ n code reason. refl
