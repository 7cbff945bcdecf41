-- What is told of an answer at a row loses nothing: one number and one row left, one answer. Assumes nothing.
use mathlib.Core.Path.{◌≡◌, refl, sym, ap, ◌∙◌}
use lib.Dec.{eqb}
use Rattle.common.specs.Choice.{pick}
use Rattle.row.specs.Rows.{AtRow, told_arriving, told_opening}
use Rattle.row.specs.declared.Row.{Row}
use Rattle.std.specs.Prelude.{Option, Some, None, Result, Ok, Err}
use Rattle.row.specs.declared.NotCounted.{NotCounted}
use Rattle.row.specs.declared.NotCounted.TheVariants.{Waiting, Outside}

-- ---- an arrival

abbrev arriving_of : AtRow → Result Row NotCounted
arriving_of at = pick (eqb at.number 19) (Err Waiting) (pick (eqb at.number 17) (Err Outside) (Ok at.row))

arriving-back : (came : Result Row NotCounted) (r : Row) → arriving_of (told_arriving came r) ≡ came
arriving-back (Err Waiting) r = refl
arriving-back (Err Outside) r = refl
arriving-back (Ok next) r = refl

pub arriving-once : (a b : Result Row NotCounted) (r : Row) → told_arriving a r ≡ told_arriving b r → a ≡ b
arriving-once a b r e = sym (arriving-back a r) ∙ ap arriving_of e ∙ arriving-back b r

-- ---- a SUBSCRIBE_OK

abbrev opening_of : AtRow → Option Row
opening_of at = pick (eqb at.number 8) (Some at.row) None

opening-back : (came : Option Row) (r : Row) → opening_of (told_opening came r) ≡ came
opening-back None r = refl
opening-back (Some next) r = refl

pub opening-once : (a b : Option Row) (r : Row) → told_opening a r ≡ told_opening b r → a ≡ b
opening-once a b r e = sym (opening-back a r) ∙ ap opening_of e ∙ opening-back b r
