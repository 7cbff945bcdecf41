-- "A row: ID, alias, pending or active, range, greatest place counted or none, count."
use Rattle.std.specs.Prelude.{ℕ, ◌+◌, Bool, true, false, not, leb, ltb, eqb, Option, None, Some, Result, Ok, Err}
use Rattle.common.specs.Choice.{guard, pick, both}
use Rattle.field.specs.declared.Place.{Place}
use Rattle.row.specs.Places.{before, small, small_place}
use Rattle.row.specs.Ranges.{in_range, is_known, small_range, settled_of}
use Rattle.row.specs.declared.State.{State}
use Rattle.row.specs.declared.State.TheVariants.{Pending, Active}
use Rattle.row.specs.declared.Range.{Range}
use Rattle.row.specs.declared.Range.TheVariants.{Unknown}
use Rattle.row.specs.declared.Row.{Row}
use Rattle.row.specs.declared.NotCounted.{NotCounted}
use Rattle.row.specs.declared.NotCounted.TheVariants.{Waiting, Outside}
use Rattle.row.specs.declared.Ending.{Ending}
use Rattle.row.specs.declared.Ending.TheVariants.{SubscribeError, SubscribeDone, Unsubscribe}

-- ---- what a row is

-- the count at which a row stops
abbrev pub top : ℕ
top = 4_294_967_295

-- "count is 0 exactly when no place is held"
unfoldable pub count_agrees : Option Place → ℕ → Bool
count_agrees None count = eqb count 0
count_agrees (Some place) count = both (not (eqb count 0)) (small_place place)

-- "a pending row has count 0; an active row's range is known"
unfoldable pub suits : State → Range → ℕ → Bool
suits Pending range count = eqb count 0
suits Active range count = is_known range

-- "no number is above the greatest integer, no count above 4,294,967,295"
unfoldable pub is_row : Row → Bool
is_row r =
    both (small r.id)
    (both (small r.alias)
    (both (leb r.count top)
    (both (small_range r.range) (both (count_agrees r.greatest r.count)
    (suits r.state r.range r.count)))))

-- "unused rows are pending, without range or place, all numbers 0"
abbrev pub unused_row : Row
unused_row = record { id = 0; alias = 0; state = Pending; range = Unknown; greatest = None; count = 0 }

unfoldable pub is_pending : State → Bool
is_pending Pending = true
is_pending Active = false

unfoldable pub is_nowhere : Option Place → Bool
is_nowhere None = true
is_nowhere (Some place) = false

unfoldable pub is_unused : Row → Bool
is_unused r =
    both (eqb r.id 0)
    (both (eqb r.alias 0)
    (both (eqb r.count 0) (both (is_pending r.state) (both (not (is_known r.range)) (is_nowhere r.greatest)))))

-- ---- what becomes of a row

-- "a pending row is added"
abbrev pub pending_row : ℕ → ℕ → Range → Row
pending_row id alias range =
    record { id = id; alias = alias; state = Pending; range = range; greatest = None; count = 0 }

-- "the row keeps the greater place"
unfoldable pub greater : Option Place → Place → Place
greater None place = place
greater (Some held) place = pick (before held place) place held

-- "the count rises by one but stops at 4,294,967,295"
unfoldable pub risen : ℕ → ℕ
risen count = pick (ltb count top) (count + 1) count

unfoldable pub counted_row : Row → Place → Row
counted_row r place = record {
  id = r.id;
  alias = r.alias;
  state = r.state;
  range = r.range;
  greatest = Some (greater r.greatest place);
  count = risen r.count;
}

-- what is answered at a row: 01's number, the rule that comes with a 13 (0 with any other), and the row that is left
pub record AtRow : Type 0 where
  pub number : ℕ
  pub rule : ℕ
  pub row : Row

abbrev pub replying : ℕ → Row → AtRow
replying number row = record { number = number; rule = 0; row = row }

-- 19, "row still pending"; 17, "outside the range"; 16, "arrival counted": "With an active row and a place in range it
-- is counted"
unfoldable pub arrive_of : Row → Place → AtRow
arrive_of r place =
    pick (is_pending r.state) (replying 19 r)
    (guard (in_range r.range place) (replying 17 r) (replying 16 (counted_row r place)))

-- an active row, with the range that SUBSCRIBE_OK settles
abbrev pub active_row : Row → Range → Row
active_row r range = record {
  id = r.id;
  alias = r.alias;
  state = Active;
  range = range;
  greatest = r.greatest;
  count = r.count;
}

-- "R6: OK or ERROR on active"
abbrev pub breaks_r6 : Row → AtRow
breaks_r6 r = record { number = 13; rule = 6; row = r }

-- "OK on pending makes it active"
unfoldable pub open_of : Row → Option Place → AtRow
open_of r content =
    guard (is_pending r.state) (breaks_r6 r) (replying 8 (active_row r (settled_of r.range content)))

-- "ERROR on pending, DONE on active and UNSUBSCRIBE on either free it"
abbrev pub may_end : Ending → State → Bool
may_end SubscribeError Pending = true
may_end SubscribeError Active = false
may_end SubscribeDone Pending = false
may_end SubscribeDone Active = true
may_end Unsubscribe state = true

-- ---- 01's number and values of each answer, at the row as it was

abbrev pub arrived_number : Result Row NotCounted → ℕ
arrived_number (Err Waiting) = 19
arrived_number (Err Outside) = 17
arrived_number (Ok next) = 16

-- the row after an arrival
abbrev pub left_by : Result Row NotCounted → Row → Row
left_by (Err why) r = r
left_by (Ok next) r = next

abbrev pub told_arriving : Result Row NotCounted → Row → AtRow
told_arriving came r = replying (arrived_number came) (left_by came r)

abbrev pub told_opening : Option Row → Row → AtRow
told_opening None r = breaks_r6 r
told_opening (Some next) r = replying 8 next
