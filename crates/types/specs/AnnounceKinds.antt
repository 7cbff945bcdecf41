-- The row of the table that each kind of message stands in.
use Rattle.std.specs.Prelude.{ℕ}
use Rattle.layout.specs.Layout.{Layout}
use Rattle.types.specs.Table.{TypeRow, announce_row, announce_ok_row, announce_error_row, unannounce_row, announce_cancel_row, subscribe_announces_row, subscribe_announces_ok_row, subscribe_announces_error_row, unsubscribe_announces_row}
use Rattle.types.specs.declared.kinds.Naming.TheVariants.{AnnounceOk, Unannounce, SubscribeAnnouncesOk, UnsubscribeAnnounces}
use Rattle.types.specs.declared.kinds.Asking.TheVariants.{Announce, SubscribeAnnounces}
use Rattle.types.specs.declared.kinds.Refusing.TheVariants.{AnnounceError, AnnounceCancel, SubscribeAnnouncesError}
use Rattle.types.specs.declared.kinds.AnnounceKind.{AnnounceKind}
use Rattle.types.specs.declared.kinds.AnnounceKind.TheVariants.{Named, Asked, Refused}

unfoldable pub type_row : AnnounceKind → TypeRow
type_row (Asked Announce) = announce_row
type_row (Named AnnounceOk) = announce_ok_row
type_row (Refused AnnounceError) = announce_error_row
type_row (Named Unannounce) = unannounce_row
type_row (Refused AnnounceCancel) = announce_cancel_row
type_row (Asked SubscribeAnnounces) = subscribe_announces_row
type_row (Named SubscribeAnnouncesOk) = subscribe_announces_ok_row
type_row (Refused SubscribeAnnouncesError) = subscribe_announces_error_row
type_row (Named UnsubscribeAnnounces) = unsubscribe_announces_row

-- its number, and the layout of its body
abbrev pub number_of : AnnounceKind → ℕ
number_of kind = (type_row kind).number

abbrev pub layout_of : AnnounceKind → Layout
layout_of kind = (type_row kind).layout
