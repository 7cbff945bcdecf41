-- The ledger that numbers name, and what is left of them after a call.
use Rattle.std.specs.Prelude.{ℕ, zero, suc, ◌+◌, Bool, true, false, List, [], ◌∷◌, length, take, get_or, leb, eqb, Option, Some, None}
use Rattle.common.specs.Choice.{pick, both}
use Rattle.common.specs.Buffer.{over}
use Rattle.field.specs.declared.Place.{Place}
use Rattle.row.specs.declared.State.{State}
use Rattle.row.specs.declared.State.TheVariants.{Pending, Active}
use Rattle.row.specs.declared.Range.{Range}
use Rattle.row.specs.declared.Range.TheVariants.{Unknown, Open, Closed}
use Rattle.row.specs.declared.Row.{Row}
use Rattle.ledger.specs.Ledgers.{most_rows, empty_ledger}
use Rattle.ledger.specs.declared.Part.{Part}
use Rattle.ledger.specs.declared.Part.TheVariants.{Subscriber, Publisher}
use Rattle.ledger.specs.declared.Rule.{Rule}
use Rattle.ledger.specs.declared.Rule.TheVariants.{R1, R2, R3, R4, R5, R6, R7}
use Rattle.ledger.specs.declared.Session.{Session}
use Rattle.ledger.specs.declared.Session.TheVariants.{Open as IsOpen, Closed as IsClosed}
use Rattle.ledger.specs.declared.Ledger.{Ledger}
use Rattle.ledger_numbers.specs.Numbers.{own_numbers, row_numbers, ledger_numbers, numbers_of}

-- ---- what numbers name. A number that names nothing is taken for the last; `unpack_of` refuses it.

unfoldable pub state_named : ℕ → State
state_named n = pick (eqb n 0) Pending Active

abbrev pub place_named : ℕ → ℕ → Place
place_named group object = record { group = group; object = object }

unfoldable pub range_named : ℕ → ℕ → ℕ → ℕ → Range
range_named n group object last =
    pick (eqb n 0) Unknown (pick (eqb n 1) (Open (place_named group object)) (Closed (place_named group object) last))

unfoldable pub greatest_named : ℕ → ℕ → ℕ → Option Place
greatest_named n group object = pick (eqb n 0) None (Some (place_named group object))

-- a row's numbers at an offset
unfoldable pub row_named : List ℕ → ℕ → Row
row_named ns at = record {
  id = get_or ns at 0;
  alias = get_or ns (at + 1) 0;
  state = state_named (get_or ns (at + 2) 0);
  range = range_named (get_or ns (at + 3) 0) (get_or ns (at + 4) 0) (get_or ns (at + 5) 0) (get_or ns (at + 6) 0);
  greatest = greatest_named (get_or ns (at + 7) 0) (get_or ns (at + 8) 0) (get_or ns (at + 9) 0);
  count = get_or ns (at + 10) 0;
}

-- that many rows from an offset on
unfoldable pub rows_named : ℕ → List ℕ → ℕ → List Row
rows_named zero ns at = []
rows_named (suc more) ns at = row_named ns at ∷ rows_named more ns (at + row_numbers)

unfoldable pub part_named : ℕ → Part
part_named n = pick (eqb n 0) Subscriber Publisher

unfoldable pub rule_named : ℕ → Rule
rule_named n =
    pick (eqb n 1) R1 (pick (eqb n 2) R2 (pick (eqb n 3) R3
    (pick (eqb n 4) R4 (pick (eqb n 5) R5 (pick (eqb n 6) R6 R7)))))

unfoldable pub session_named : ℕ → Session
session_named n = pick (eqb n 0) IsOpen (IsClosed (rule_named n))

unfoldable pub ledger_named : List ℕ → Ledger
ledger_named ns = record {
  rows = rows_named most_rows ns own_numbers;
  part = part_named (get_or ns 0 0);
  session = session_named (get_or ns 1 0);
  capacity = get_or ns 2 0;
  maximum = get_or ns 3 0;
  next = get_or ns 4 0;
  used = get_or ns 5 0;
}

-- ---- numbers are a ledger's where what they name has these numbers

unfoldable pub are_same : List ℕ → List ℕ → Bool
are_same [] [] = true
are_same [] (n ∷ ns) = false
are_same (m ∷ ms) [] = false
are_same (m ∷ ms) (n ∷ ns) = both (eqb m n) (are_same ms ns)

-- other numbers, and too few, are as a ledger that has no room for a row: which is none, so that every call answers 14
abbrev pub no_ledger : Ledger
no_ledger = empty_ledger Subscriber 0 0

unfoldable pub unpack_of : List ℕ → Ledger
unpack_of ns = pick (are_same (numbers_of (ledger_named ns)) (take ledger_numbers ns)) (ledger_named ns) no_ledger

-- the numbers after a call that left this ledger: they stay where it is none, or there is no room for it
unfoldable pub kept_in : List ℕ → Ledger → List ℕ
kept_in before next =
    pick (eqb next.capacity 0) before
    (pick (leb (length (numbers_of next)) (length before)) (over (numbers_of next) before) before)
