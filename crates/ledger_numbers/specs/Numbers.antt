-- A ledger as numbers: what it starts with, "its own end's part (subscriber or publisher), a row capacity and a maximum
-- Subscribe ID", and its rows. "A row: ID, alias, pending or active, range, greatest place counted or none, count."
use Rattle.std.specs.Prelude.{ℕ, ◌+◌, ◌*◌, List, [], ◌∷◌, ◌++◌, Option, Some, None}
use Rattle.field.specs.declared.Place.{Place}
use Rattle.row.specs.declared.State.{State}
use Rattle.row.specs.declared.State.TheVariants.{Pending, Active}
use Rattle.row.specs.declared.Range.{Range}
use Rattle.row.specs.declared.Range.TheVariants.{Unknown, Open, Closed}
use Rattle.row.specs.declared.Row.{Row}
use Rattle.ledger.specs.Ledgers.{most_rows}
use Rattle.ledger.specs.Answers.{closing_rule}
use Rattle.ledger.specs.declared.Part.{Part}
use Rattle.ledger.specs.declared.Part.TheVariants.{Subscriber, Publisher}
use Rattle.ledger.specs.declared.Ledger.{Ledger}

-- how many numbers a ledger has of its own, how many a row has, and how many both
abbrev pub own_numbers : ℕ
own_numbers = 6

abbrev pub row_numbers : ℕ
row_numbers = 11

abbrev pub ledger_numbers : ℕ
ledger_numbers = own_numbers + row_numbers * most_rows

-- ---- a row

abbrev pub state_number : State → ℕ
state_number Pending = 0
state_number Active = 1

-- not known yet, open or closed; where it starts; its last group
abbrev pub range_numbers : Range → List ℕ
range_numbers Unknown = 0 ∷ 0 ∷ 0 ∷ 0 ∷ []
range_numbers (Open from) = 1 ∷ from.group ∷ from.object ∷ 0 ∷ []
range_numbers (Closed from last) = 2 ∷ from.group ∷ from.object ∷ last ∷ []

-- none, or one; where it is
abbrev pub greatest_numbers : Option Place → List ℕ
greatest_numbers None = 0 ∷ 0 ∷ 0 ∷ []
greatest_numbers (Some place) = 1 ∷ place.group ∷ place.object ∷ []

unfoldable pub numbers_of_row : Row → List ℕ
numbers_of_row r =
    r.id ∷ r.alias ∷ state_number r.state ∷ range_numbers r.range ++ greatest_numbers r.greatest
    ++ (r.count ∷ [])

unfoldable pub numbers_of_rows : List Row → List ℕ
numbers_of_rows [] = []
numbers_of_rows (r ∷ rs) = numbers_of_row r ++ numbers_of_rows rs

-- ---- a ledger: its own numbers, and those of its rows

abbrev pub part_number : Part → ℕ
part_number Subscriber = 0
part_number Publisher = 1

unfoldable pub numbers_of : Ledger → List ℕ
numbers_of l =
    part_number l.part ∷ closing_rule l.session ∷ l.capacity ∷ l.maximum ∷ l.next ∷ l.used
    ∷ numbers_of_rows l.rows
