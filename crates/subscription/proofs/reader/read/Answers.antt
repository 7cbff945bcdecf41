-- `read` meets its contract: each kind by its own reader. Assumes nothing.
use Rattle.common.proofs.Exits.{handed}
use Rattle.layout.proofs.Family.{by-reader, by-fields, by-fault}
use Rattle.layout.proofs.Steps.{stopping, going}
use Rattle.types.specs.Subscriptions.{id_only}
use Rattle.types.specs.SubscriptionKinds.{type_row, number_of, layout_of}
use Rattle.subscription.proofs.reader.read.Goals as goal

pub returns-in_err-id-in-Unsubscribe : goal.returns-in_err-id-in-Unsubscribe
unfolding type_row id_only
returns-in_err-id-in-Unsubscribe c = rw (handed c.from_residual.ensures.1) (search (by-fault number_of layout_of, stopping, c.in_err-id-in-Unsubscribe.ensures) depth 10)

pub returns-in_err-maximum-in-MaxSubscribeId : goal.returns-in_err-maximum-in-MaxSubscribeId
unfolding type_row id_only
returns-in_err-maximum-in-MaxSubscribeId c = rw (handed c.from_residual-in_err-maximum-in-MaxSubscribeId.ensures.1) (search (by-fault number_of layout_of, stopping, c.in_err-maximum-in-MaxSubscribeId.ensures) depth 10)

pub returns-in_err-maximum-in-SubscribesBlocked : goal.returns-in_err-maximum-in-SubscribesBlocked
unfolding type_row id_only
returns-in_err-maximum-in-SubscribesBlocked c = rw (handed c.from_residual-in_err-maximum-in-SubscribesBlocked.ensures.1) (search (by-fault number_of layout_of, stopping, c.in_err-maximum-in-SubscribesBlocked.ensures) depth 10)

pub returns-in-SubscribeUpdate : goal.returns-in-SubscribeUpdate
unfolding type_row id_only
returns-in-SubscribeUpdate c = search (by-reader number_of layout_of)

pub returns-in-Subscribe : goal.returns-in-Subscribe
unfolding type_row id_only
returns-in-Subscribe c = search (by-reader number_of layout_of)

pub returns-in-SubscribeOk : goal.returns-in-SubscribeOk
unfolding type_row id_only
returns-in-SubscribeOk c = search (by-reader number_of layout_of)

pub returns-in-SubscribeError : goal.returns-in-SubscribeError
unfolding type_row id_only
returns-in-SubscribeError c = search (by-reader number_of layout_of)

pub returns-in-SubscribeDone : goal.returns-in-SubscribeDone
unfolding type_row id_only
returns-in-SubscribeDone c = search (by-reader number_of layout_of)

pub returns-in_ok-id-in-Unsubscribe : goal.returns-in_ok-id-in-Unsubscribe
unfolding type_row id_only
returns-in_ok-id-in-Unsubscribe c = search (by-fields number_of layout_of, going, c.in_ok-id-in-Unsubscribe.ensures) depth 10

pub returns-in_ok-maximum-in-MaxSubscribeId : goal.returns-in_ok-maximum-in-MaxSubscribeId
unfolding type_row id_only
returns-in_ok-maximum-in-MaxSubscribeId c = search (by-fields number_of layout_of, going, c.in_ok-maximum-in-MaxSubscribeId.ensures) depth 10

pub returns-in_ok-maximum-in-SubscribesBlocked : goal.returns-in_ok-maximum-in-SubscribesBlocked
unfolding type_row id_only
returns-in_ok-maximum-in-SubscribesBlocked c = search (by-fields number_of layout_of, going, c.in_ok-maximum-in-SubscribesBlocked.ensures) depth 10
