-- `payload` meets its contract. Assumes nothing.
use mathlib.Core.Path.{refl}
use native.Mathlib.Omega.{arith}
use borrow.Author.Tests.{eq-eqb, ne_eqb}
use lib.ListN.{drop, get_or}
use Rattle.common.proofs.Parts.{to_end}
use Rattle.header.specs.Layouts.{status, payload}
use Rattle.layout.specs.Layout.{done}
use Rattle.outline.specs.Places.{rest_of, ahead_of}
use Rattle.outline.proofs.OneByOne.{stands, past, done-ahead, yes-ahead, no-ahead}
use Rattle.outline.proofs.headers.payload.Goals as goal

pub returns-in-empty : goal.returns-in-empty
unfolding rest_of ahead_of payload
returns-in-empty c = stands payload 0 c.args.v.now (omega arith) refl

pub returns-in-0 : goal.returns-in-0
unfolding rest_of ahead_of payload
returns-in-0 c = let v = c.args.v.now in past payload 1 v (omega arith) (yes-ahead status done (drop 1 v) (eq-eqb (get_or v 0 0) 0 (omega arith)) (rw (to_end v 1) at c.status.ensures))

pub returns-in_default : goal.returns-in_default
unfolding rest_of ahead_of payload
returns-in_default c = let v = c.args.v.now in past payload 1 v (omega arith) (no-ahead status done (drop 1 v) (ne_eqb (get_or v 0 0) 0 (λ e. omega arith)) (done-ahead (drop 1 v)))
