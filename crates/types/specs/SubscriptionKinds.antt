-- The row of the table that each kind of message stands in.
use Rattle.std.specs.Prelude.{ℕ}
use Rattle.layout.specs.Layout.{Layout}
use Rattle.types.specs.Table.{TypeRow, max_subscribe_id_row, subscribes_blocked_row, subscribe_row, subscribe_ok_row, subscribe_error_row, unsubscribe_row, subscribe_update_row, subscribe_done_row}
use Rattle.types.specs.declared.kinds.SubscriptionKind.{SubscriptionKind}
use Rattle.types.specs.declared.kinds.SubscriptionKind.TheVariants.{SubscribeUpdate, Subscribe, SubscribeOk, SubscribeError, Unsubscribe, SubscribeDone, MaxSubscribeId, SubscribesBlocked}

unfoldable pub type_row : SubscriptionKind → TypeRow
type_row SubscribeUpdate = subscribe_update_row
type_row Subscribe = subscribe_row
type_row SubscribeOk = subscribe_ok_row
type_row SubscribeError = subscribe_error_row
type_row Unsubscribe = unsubscribe_row
type_row SubscribeDone = subscribe_done_row
type_row MaxSubscribeId = max_subscribe_id_row
type_row SubscribesBlocked = subscribes_blocked_row

-- its number, and the layout of its body
abbrev pub number_of : SubscriptionKind → ℕ
number_of kind = (type_row kind).number

abbrev pub layout_of : SubscriptionKind → Layout
layout_of kind = (type_row kind).layout
