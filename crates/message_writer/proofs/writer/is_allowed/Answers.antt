-- `is_allowed` meets its contract. Assumes nothing.
use Rattle.message_writer.proofs.Allows.{by-subscription, by-fetch, is-announce, is-session}
use Rattle.message_writer.proofs.writer.is_allowed.Goals as goal

pub returns-in-Subscription : goal.returns-in-Subscription
returns-in-Subscription c = search by-subscription

pub returns-in-Fetch : goal.returns-in-Fetch
returns-in-Fetch c = search by-fetch

pub returns-in-Announce : goal.returns-in-Announce
returns-in-Announce c = search is-announce

pub returns-in-Session : goal.returns-in-Session
returns-in-Session c = search is-session
