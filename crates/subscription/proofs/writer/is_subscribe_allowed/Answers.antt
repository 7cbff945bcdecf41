-- `is_subscribe_allowed` meets its contract. Assumes nothing.
use Rattle.layout.specs.Layout.{place, parameters}
use Rattle.layout.specs.Allowed.{allowed}
use Rattle.types.specs.Subscriptions.{filter}
use Rattle.subscription.proofs.Allows.{order-no, filter-is, range-is}
use Rattle.subscription.proofs.writer.is_subscribe_allowed.Goals as goal

pub returns-then-not-is_askable : goal.returns-then-not-is_askable
unfolding allowed place parameters filter
returns-then-not-is_askable c = search order-no

pub returns-in-Latest : goal.returns-in-Latest
unfolding allowed place parameters filter
returns-in-Latest c = search filter-is

pub returns-in-From : goal.returns-in-From
unfolding allowed place parameters filter
returns-in-From c = search filter-is

pub returns-in-Range : goal.returns-in-Range
unfolding allowed place parameters filter
returns-in-Range c = search range-is
