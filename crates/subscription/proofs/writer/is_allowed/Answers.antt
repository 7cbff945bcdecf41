-- `is_allowed` meets its contract. Assumes nothing.
use Rattle.common.proofs.Telling.{told_of}
use Rattle.layout.specs.Layout.{place, failure, parameters}
use Rattle.layout.specs.Allowed.{allowed}
use Rattle.types.specs.Subscriptions.{subscribe_update, subscribe_error, subscribe_done, id_only}
use Rattle.types.specs.Table.{messages, type_row_in, type_row_of, layout_of}
use Rattle.subscription.proofs.Allows.{judged, ok-is}
use Rattle.subscription.proofs.writer.is_allowed.Goals as goal

pub returns-in-SubscribeUpdate : goal.returns-in-SubscribeUpdate
unfolding allowed place failure parameters subscribe_update subscribe_error subscribe_done id_only layout_of type_row_of type_row_in messages
returns-in-SubscribeUpdate c = search (told_of judged)

pub returns-in-Subscribe : goal.returns-in-Subscribe
unfolding allowed place failure parameters subscribe_update subscribe_error subscribe_done id_only layout_of type_row_of type_row_in messages
returns-in-Subscribe c = search (told_of judged)

pub returns-in-SubscribeOk : goal.returns-in-SubscribeOk
unfolding allowed place failure parameters subscribe_update subscribe_error subscribe_done id_only layout_of type_row_of type_row_in messages
returns-in-SubscribeOk c = search ok-is

pub returns-in-SubscribeError : goal.returns-in-SubscribeError
unfolding allowed place failure parameters subscribe_update subscribe_error subscribe_done id_only layout_of type_row_of type_row_in messages
returns-in-SubscribeError c = search (told_of judged)

pub returns-in-Unsubscribe : goal.returns-in-Unsubscribe
unfolding allowed place failure parameters subscribe_update subscribe_error subscribe_done id_only layout_of type_row_of type_row_in messages
returns-in-Unsubscribe c = search (told_of judged)

pub returns-in-SubscribeDone : goal.returns-in-SubscribeDone
unfolding allowed place failure parameters subscribe_update subscribe_error subscribe_done id_only layout_of type_row_of type_row_in messages
returns-in-SubscribeDone c = search (told_of judged)

pub returns-in-MaxSubscribeId : goal.returns-in-MaxSubscribeId
unfolding allowed place failure parameters subscribe_update subscribe_error subscribe_done id_only layout_of type_row_of type_row_in messages
returns-in-MaxSubscribeId c = search (told_of judged)

pub returns-in-SubscribesBlocked : goal.returns-in-SubscribesBlocked
unfolding allowed place failure parameters subscribe_update subscribe_error subscribe_done id_only layout_of type_row_of type_row_in messages
returns-in-SubscribesBlocked c = search (told_of judged)
