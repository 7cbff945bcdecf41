-- `read_body` meets its contract: each kind by its family's reader. Assumes nothing.
use Rattle.common.proofs.Exits.{handed}
use Rattle.message.proofs.Bodies.{as-subscription, as-fetch, as-announce, as-session}
use Rattle.message.proofs.reader.read_body.Goals as goal

pub returns-in_err-m-in-Subscription : goal.returns-in_err-m-in-Subscription
returns-in_err-m-in-Subscription c =
    rw (handed c.from_residual.ensures.1) (as-subscription _ _ c.in-Subscription.is c.in_err-m-in-Subscription.ensures)

pub returns-in_err-m-in-Fetch : goal.returns-in_err-m-in-Fetch
returns-in_err-m-in-Fetch c =
    rw (handed c.from_residual-in_err-m-in-Fetch.ensures.1) (as-fetch _ _ c.in-Fetch.is c.in_err-m-in-Fetch.ensures)

pub returns-in_err-m-in-Announce : goal.returns-in_err-m-in-Announce
returns-in_err-m-in-Announce c =
    rw (handed c.from_residual-in_err-m-in-Announce.ensures.1) (as-announce _ _ c.in-Announce.is c.in_err-m-in-Announce.ensures)

pub returns-in_err-m-in-Session : goal.returns-in_err-m-in-Session
returns-in_err-m-in-Session c =
    rw (handed c.from_residual-in_err-m-in-Session.ensures.1) (as-session _ _ c.in-Session.is c.in_err-m-in-Session.ensures)

pub returns-in_ok-m-in-Subscription : goal.returns-in_ok-m-in-Subscription
returns-in_ok-m-in-Subscription c = as-subscription _ _ c.in-Subscription.is c.in_ok-m-in-Subscription.ensures

pub returns-in_ok-m-in-Fetch : goal.returns-in_ok-m-in-Fetch
returns-in_ok-m-in-Fetch c = as-fetch _ _ c.in-Fetch.is c.in_ok-m-in-Fetch.ensures

pub returns-in_ok-m-in-Announce : goal.returns-in_ok-m-in-Announce
returns-in_ok-m-in-Announce c = as-announce _ _ c.in-Announce.is c.in_ok-m-in-Announce.ensures

pub returns-in_ok-m-in-Session : goal.returns-in_ok-m-in-Session
returns-in_ok-m-in-Session c = as-session _ _ c.in-Session.is c.in_ok-m-in-Session.ensures
