-- `fetch` meets its contract. Assumes nothing.
use mathlib.Core.Path.{refl}
use native.Mathlib.Omega.{arith}
use borrow.Author.Tests.{lt-leb, le-leb}
use lib.ListN.{drop, get_or}
use Rattle.common.proofs.Parts.{to_end}
use Rattle.types.specs.Fetches.{range, fetch}
use Rattle.layout.specs.Layout.{forbidden}
use Rattle.field.specs.Rules.{askable}
use Rattle.outline.specs.Places.{rest_of, ahead_of}
use Rattle.outline.proofs.OneByOne.{stands, past, forbidden-ahead, yes-ahead, no-ahead}
use Rattle.outline.proofs.fetches.fetch.Goals as goal

pub returns-in-empty : goal.returns-in-empty
unfolding rest_of ahead_of askable fetch
returns-in-empty c = stands fetch 0 c.args.v.now (omega arith) refl

pub returns-in-len1 : goal.returns-in-len1
unfolding rest_of ahead_of askable fetch
returns-in-len1 c = stands fetch 1 c.args.v.now (omega arith) refl

pub returns-in-len2 : goal.returns-in-len2
unfolding rest_of ahead_of askable fetch
returns-in-len2 c = stands fetch 2 c.args.v.now (omega arith) refl

pub returns-in-0-to-2 : goal.returns-in-0-to-2
unfolding rest_of ahead_of askable fetch
returns-in-0-to-2 c = let v = c.args.v.now in past fetch 3 v (omega arith) (yes-ahead range forbidden (drop 3 v) (le-leb (get_or v 2 0) 2 (omega arith)) (rw (to_end v 3) at c.range.ensures))

pub returns-in_default : goal.returns-in_default
unfolding rest_of ahead_of askable fetch
returns-in_default c = let v = c.args.v.now in past fetch 3 v (omega arith) (no-ahead range forbidden (drop 3 v) (lt-leb (get_or v 2 0) 2 (omega arith)) (forbidden-ahead (drop 3 v)))
