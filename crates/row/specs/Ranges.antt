-- "A range is not known yet, open from a place, or closed at a last group."
use Rattle.std.specs.Prelude.{Bool, true, false, not, leb, ltb, Option, Some, None}
use Rattle.common.specs.Choice.{pick, both}
use Rattle.field.specs.declared.Place.{Place}
use Rattle.subscription.specs.declared.Filter.{Filter}
use Rattle.subscription.specs.declared.Filter.TheVariants.{Latest, From, Range as Until}
use Rattle.row.specs.Places.{before, small, small_place}
use Rattle.row.specs.declared.Range.{Range}
use Rattle.row.specs.declared.Range.TheVariants.{Unknown, Open, Closed}

-- "closed at a last group", "all of it"
unfoldable pub in_range : Range → Place → Bool
in_range Unknown p = false
in_range (Open start) p = not (before p start)
in_range (Closed start last) p = both (not (before p start)) (leb p.group last)

unfoldable pub is_known : Range → Bool
is_known Unknown = false
is_known (Open start) = true
is_known (Closed start last) = true

unfoldable pub small_range : Range → Bool
small_range Unknown = true
small_range (Open start) = small_place start
small_range (Closed start last) = both (small_place start) (small last)

-- "its range not known yet for filter 2 and as asked for 3 and 4"
abbrev pub asked_of : Filter → Range
asked_of Latest = Unknown
asked_of (From start) = Open start
asked_of (Until start last) = Closed start last

-- "Range at OK: filter 2 starts at the largest place given, or at (0, 0) when no content exists."
abbrev pub latest : Option Place → Place
latest None = record { group = 0; object = 0 }
latest (Some place) = place

-- "Filters 3 and 4 start as asked; if the start group is below the largest group given, at the largest place."
abbrev pub moved : Place → Option Place → Place
moved start None = start
moved start (Some place) = pick (ltb start.group place.group) place start

-- "Filter 4 ends with its end group, all of it; such a range may be empty."
unfoldable pub settled_of : Range → Option Place → Range
settled_of Unknown content = Open (latest content)
settled_of (Open start) content = Open (moved start content)
settled_of (Closed start last) content = Closed (moved start content) last
