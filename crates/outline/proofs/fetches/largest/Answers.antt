-- `largest` meets its contract. Assumes nothing.
use mathlib.Core.Path.{refl, sym, ◌∙◌}
use mathlib.Core.List.{[], ◌∷◌}
use native.Mathlib.Omega.{arith}
use lib.ListN.{drop, get_or}
use Rattle.types.specs.Fetches.{largest}
use Rattle.layout.specs.Layout.{field, when, done, forbidden}
use Rattle.types.specs.Rules.{may_hold}
use Rattle.field.specs.Fields.{integer}
use Rattle.layout.specs.declared.FieldName.TheVariants.{LargestObjectId}
use Rattle.outline.specs.Places.{rest_of, ahead_of}
use Rattle.outline.proofs.OneByOne.{stands, past, done-ahead, forbidden-ahead, yes-ahead, no-ahead}
use Rattle.outline.proofs.fetches.largest.Goals as goal

pub returns-in-empty : goal.returns-in-empty
unfolding rest_of ahead_of largest
returns-in-empty c = stands (largest c.args.status) 0 c.args.v.now (omega arith) refl

pub returns-in-len1-up : goal.returns-in-len1-up
unfolding rest_of ahead_of largest
returns-in-len1-up c = let v = c.args.v.now in past (largest c.args.status) 1 v (omega arith) (no-ahead (field LargestObjectId integer (λ object. when (may_hold c.args.status object) done forbidden)) forbidden (drop 1 v) (sym c.may_hold.ensures ∙ c.if-not-may_hold.true) (forbidden-ahead (drop 1 v)))

pub returns-in-len1 : goal.returns-in-len1
unfolding rest_of ahead_of largest
returns-in-len1 c = stands (largest c.args.status) 1 c.args.v.now (omega arith) (yes-ahead (field LargestObjectId integer (λ object. when (may_hold c.args.status object) done forbidden)) forbidden [] (sym c.may_hold.ensures ∙ c.if-not-may_hold.false) refl)

pub returns-in-len2-up : goal.returns-in-len2-up
unfolding rest_of ahead_of largest
returns-in-len2-up c = let v = c.args.v.now in past (largest c.args.status) 2 v (omega arith) (yes-ahead (field LargestObjectId integer (λ object. when (may_hold c.args.status object) done forbidden)) forbidden (get_or v 1 0 ∷ drop 2 v) (sym c.may_hold.ensures ∙ c.if-not-may_hold.false) (no-ahead done forbidden (drop 2 v) (sym c.may_hold-2.ensures ∙ c.if-not-may_hold-2.true) (forbidden-ahead (drop 2 v))))

pub returns-in_default : goal.returns-in_default
unfolding rest_of ahead_of largest
returns-in_default c = let v = c.args.v.now in past (largest c.args.status) 2 v (omega arith) (yes-ahead (field LargestObjectId integer (λ object. when (may_hold c.args.status object) done forbidden)) forbidden (get_or v 1 0 ∷ drop 2 v) (sym c.may_hold.ensures ∙ c.if-not-may_hold.false) (yes-ahead done forbidden (drop 2 v) (sym c.may_hold-2.ensures ∙ c.if-not-may_hold-2.false) (done-ahead (drop 2 v))))
