-- `subgroup_object` meets its contract. Assumes nothing.
use mathlib.Core.Path.{refl}
use native.Mathlib.Omega.{arith}
use Rattle.common.proofs.Parts.{to_end}
use Rattle.header.specs.Layouts.{subgroup_object}
use Rattle.outline.specs.Places.{rest_of, ahead_of}
use Rattle.outline.proofs.OneByOne.{stands, past}
use Rattle.outline.proofs.headers.subgroup_object.Goals as goal

pub returns-in-empty : goal.returns-in-empty
unfolding rest_of ahead_of subgroup_object
returns-in-empty c = stands subgroup_object 0 c.args.v.now (omega arith) refl

pub returns-in-len1 : goal.returns-in-len1
unfolding rest_of ahead_of subgroup_object
returns-in-len1 c = stands subgroup_object 1 c.args.v.now (omega arith) refl

pub returns-in-len2-up : goal.returns-in-len2-up
unfolding rest_of ahead_of subgroup_object
returns-in-len2-up c = let v = c.args.v.now in past subgroup_object 2 v (omega arith) (rw (to_end v 2) at c.payload.ensures)
