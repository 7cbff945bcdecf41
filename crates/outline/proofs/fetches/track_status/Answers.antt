-- `track_status` meets its contract. Assumes nothing.
use mathlib.Core.Path.{refl, sym, ◌∙◌}
use native.Mathlib.Omega.{arith}
use lib.ListN.{drop, get_or}
use Rattle.common.proofs.Parts.{to_end}
use Rattle.types.specs.Fetches.{largest, track_status}
use Rattle.layout.specs.Layout.{forbidden}
use Rattle.outline.specs.Places.{rest_of, ahead_of}
use Rattle.outline.proofs.OneByOne.{stands, past, forbidden-ahead, yes-ahead, no-ahead}
use Rattle.outline.proofs.fetches.track_status.Goals as goal

pub returns-in-empty : goal.returns-in-empty
unfolding rest_of ahead_of track_status
returns-in-empty c = stands track_status 0 c.args.v.now (omega arith) refl

pub returns-in-len1 : goal.returns-in-len1
unfolding rest_of ahead_of track_status
returns-in-len1 c = stands track_status 1 c.args.v.now (omega arith) refl

pub returns-in-len2-up : goal.returns-in-len2-up
unfolding rest_of ahead_of track_status
returns-in-len2-up c = let v = c.args.v.now in past track_status 2 v (omega arith) (yes-ahead (largest (get_or v 1 0)) forbidden (drop 2 v) (sym c.is_track_status.ensures ∙ c.if-is_track_status.true) (rw (to_end v 2) at c.largest.ensures))

pub returns-in_default : goal.returns-in_default
unfolding rest_of ahead_of track_status
returns-in_default c = let v = c.args.v.now in past track_status 2 v (omega arith) (no-ahead (largest (get_or v 1 0)) forbidden (drop 2 v) (sym c.is_track_status.ensures ∙ c.if-is_track_status.false) (forbidden-ahead (drop 2 v)))
