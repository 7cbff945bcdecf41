-- `keep` meets its contract. Assumes nothing.
use mathlib.Core.Path.{ap, ◌∙◌}
use Rattle.ledger.specs.Views.{view_of, came_of}
use Rattle.ledger.proofs.CodePaths.{of-kind, Unkept, other-kind}
use Rattle.ledger.proofs.messages.keep.Goals as goal

pub returns-in-Subscribe : goal.returns-in-Subscribe
returns-in-Subscribe c = of-kind _ c.add.ensures c.in-Subscribe.is

pub returns-in-SubscribeOk : goal.returns-in-SubscribeOk
returns-in-SubscribeOk c = of-kind _ c.accept.ensures c.in-SubscribeOk.is

pub returns-in-SubscribeError : goal.returns-in-SubscribeError
returns-in-SubscribeError c = of-kind _ c.end.ensures c.in-SubscribeError.is

pub returns-in-SubscribeDone : goal.returns-in-SubscribeDone
returns-in-SubscribeDone c = of-kind _ c.end-in-SubscribeDone.ensures c.in-SubscribeDone.is

pub returns-in-Unsubscribe : goal.returns-in-Unsubscribe
returns-in-Unsubscribe c = of-kind _ c.end-in-Unsubscribe.ensures c.in-Unsubscribe.is

pub returns-in-MaxSubscribeId : goal.returns-in-MaxSubscribeId
returns-in-MaxSubscribeId c = of-kind _ c.raise.ensures c.in-MaxSubscribeId.is

pub returns-in_default : goal.returns-in_default
returns-in_default c =
    let unkept : Unkept c.args.m = record {
      asks = c.in_default.not-Subscribe;
      accepts = c.in_default.not-SubscribeOk;
      errs = c.in_default.not-SubscribeError;
      leaves = c.in_default.not-Unsubscribe;
      ends = c.in_default.not-SubscribeDone;
      raises = c.in_default.not-MaxSubscribeId;
    } in
    c.other.ensures ∙ ap came_of (other-kind (view_of c.args.l) c.args.m unkept)
