-- `fetch_ok` meets its contract. Assumes nothing.
use mathlib.Core.Path.{refl}
use native.Mathlib.Omega.{arith}
use lib.ListN.{drop, get_or}
use Rattle.common.proofs.Parts.{to_end}
use Rattle.types.specs.Fetches.{fetch_ok}
use Rattle.layout.specs.Layout.{field, forbidden, largest_place}
use Rattle.outline.proofs.Givable.{is-givable, is-too-low, is-too-high}
use Rattle.field.specs.Fields.{byte}
use Rattle.layout.specs.declared.FieldName.TheVariants.{EndOfTrack}
use Rattle.outline.specs.Places.{rest_of, ahead_of}
use Rattle.outline.proofs.OneByOne.{stands, past, forbidden-ahead, yes-ahead, no-ahead}
use Rattle.outline.proofs.fetches.fetch_ok.Goals as goal

pub returns-in-empty : goal.returns-in-empty
unfolding rest_of ahead_of fetch_ok
returns-in-empty c = stands fetch_ok 0 c.args.v.now (omega arith) refl

pub returns-in-len1 : goal.returns-in-len1
unfolding rest_of ahead_of fetch_ok
returns-in-len1 c = stands fetch_ok 1 c.args.v.now (omega arith) refl

pub returns-in-1-to-2 : goal.returns-in-1-to-2
unfolding rest_of ahead_of fetch_ok
returns-in-1-to-2 c = let v = c.args.v.now in past fetch_ok 2 v (omega arith) (yes-ahead (field EndOfTrack byte (λ end_of_track. largest_place)) forbidden (drop 2 v) (is-givable (get_or v 1 0) (omega arith) (omega arith)) (rw (to_end v 2) at c.fetched.ensures))

pub returns-in_default : goal.returns-in_default
unfolding rest_of ahead_of fetch_ok
returns-in_default c = let v = c.args.v.now in past fetch_ok 2 v (omega arith) (no-ahead (field EndOfTrack byte (λ end_of_track. largest_place)) forbidden (drop 2 v) (is-too-low (get_or v 1 0) (omega arith)) (forbidden-ahead (drop 2 v)))

pub returns-in_default-2 : goal.returns-in_default-2
unfolding rest_of ahead_of fetch_ok
returns-in_default-2 c = let v = c.args.v.now in past fetch_ok 2 v (omega arith) (no-ahead (field EndOfTrack byte (λ end_of_track. largest_place)) forbidden (drop 2 v) (is-too-high (get_or v 1 0) (omega arith)) (forbidden-ahead (drop 2 v)))
