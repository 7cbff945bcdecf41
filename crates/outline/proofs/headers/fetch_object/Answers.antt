-- `fetch_object` meets its contract. Assumes nothing.
use mathlib.Core.Path.{refl}
use native.Mathlib.Omega.{arith}
use Rattle.common.proofs.Parts.{to_end}
use Rattle.header.specs.Layouts.{fetch_object}
use Rattle.outline.specs.Places.{rest_of, ahead_of}
use Rattle.outline.proofs.OneByOne.{stands, past}
use Rattle.outline.proofs.headers.fetch_object.Goals as goal

pub returns-in-empty : goal.returns-in-empty
unfolding rest_of ahead_of fetch_object
returns-in-empty c = stands fetch_object 0 c.args.v.now (omega arith) refl

pub returns-in-len1 : goal.returns-in-len1
unfolding rest_of ahead_of fetch_object
returns-in-len1 c = stands fetch_object 1 c.args.v.now (omega arith) refl

pub returns-in-len2 : goal.returns-in-len2
unfolding rest_of ahead_of fetch_object
returns-in-len2 c = stands fetch_object 2 c.args.v.now (omega arith) refl

pub returns-in-len3 : goal.returns-in-len3
unfolding rest_of ahead_of fetch_object
returns-in-len3 c = stands fetch_object 3 c.args.v.now (omega arith) refl

pub returns-in-len4 : goal.returns-in-len4
unfolding rest_of ahead_of fetch_object
returns-in-len4 c = stands fetch_object 4 c.args.v.now (omega arith) refl

pub returns-in-len5-up : goal.returns-in-len5-up
unfolding rest_of ahead_of fetch_object
returns-in-len5-up c = let v = c.args.v.now in past fetch_object 5 v (omega arith) (rw (to_end v 5) at c.payload.ensures)
