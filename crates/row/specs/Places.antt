-- "A place is a group and an object, compared by group first."
use Rattle.std.specs.Prelude.{ℕ, Bool, leb, ltb, eqb}
use Rattle.common.specs.Choice.{pick, both}
use Rattle.integer.specs.Integer.{greatest}
use Rattle.field.specs.declared.Place.{Place}

-- whether a place stands before another
unfoldable pub before : Place → Place → Bool
before p q = pick (eqb p.group q.group) (ltb p.object q.object) (ltb p.group q.group)

-- "no number is above the greatest integer"
unfoldable pub small : ℕ → Bool
small n = leb n greatest

unfoldable pub small_place : Place → Bool
small_place p = both (small p.group) (small p.object)
