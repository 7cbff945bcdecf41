-- `status` meets its contract. Assumes nothing.
use mathlib.Core.Path.{refl, sym, ◌∙◌}
use native.Mathlib.Omega.{arith}
use lib.ListN.{drop}
use Rattle.header.specs.Layouts.{status}
use Rattle.layout.specs.Layout.{done, forbidden}
use Rattle.outline.specs.Places.{rest_of, ahead_of}
use Rattle.outline.proofs.OneByOne.{stands, past, done-ahead, forbidden-ahead, yes-ahead, no-ahead}
use Rattle.outline.proofs.headers.status.Goals as goal

pub returns-in-empty : goal.returns-in-empty
unfolding rest_of ahead_of status
returns-in-empty c = stands status 0 c.args.v.now (omega arith) refl

pub returns-in-len1-up : goal.returns-in-len1-up
unfolding rest_of ahead_of status
returns-in-len1-up c = let v = c.args.v.now in past status 1 v (omega arith) (yes-ahead done forbidden (drop 1 v) (sym c.is_status.ensures ∙ c.if-is_status.true) (done-ahead (drop 1 v)))

pub returns-in_default : goal.returns-in_default
unfolding rest_of ahead_of status
returns-in_default c = let v = c.args.v.now in past status 1 v (omega arith) (no-ahead done forbidden (drop 1 v) (sym c.is_status.ensures ∙ c.if-is_status.false) (forbidden-ahead (drop 1 v)))
