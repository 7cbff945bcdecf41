-- What a ledger is: every condition of document 01's list, and nothing else. "Anything else" is no ledger.
use Rattle.std.specs.Prelude.{ℕ, ◌+◌, Bool, true, false, not, List, [], ◌∷◌, length, take, drop, replicate, leb, ltb, eqb}
use Rattle.common.specs.Choice.{pick, both}
use Rattle.integer.specs.Integer.{greatest}
use Rattle.row.specs.Places.{small}
use Rattle.row.specs.Rows.{is_row, unused_row, is_unused}
use Rattle.row.specs.declared.Row.{Row}
use Rattle.ledger.specs.declared.Part.{Part}
use Rattle.ledger.specs.declared.Session.{Session}
use Rattle.ledger.specs.declared.Session.TheVariants.{Open, Closed}
use Rattle.ledger.specs.declared.Ledger.{Ledger}

-- how many rows a ledger has places for: "the capacity is 1 to 64"
abbrev pub most_rows : ℕ
most_rows = 64

-- ---- rows

-- the rows in use
unfoldable pub held : Ledger → List Row
held l = take l.used l.rows

-- "Rows rise strictly by ID, none above the highest ID accepted": each ID is `low` at least and below `next`; each is a
-- row
unfoldable pub rising : ℕ → ℕ → List Row → Bool
rising low next [] = true
rising low next (r ∷ rs) =
    both (leb low r.id) (both (ltb r.id next) (both (is_row r) (rising (r.id + 1) next rs)))

-- "aliases are distinct"
unfoldable pub has_alias : ℕ → List Row → Bool
has_alias alias [] = false
has_alias alias (r ∷ rs) = pick (eqb r.alias alias) true (has_alias alias rs)

unfoldable pub distinct : List Row → Bool
distinct [] = true
distinct (r ∷ rs) = both (not (has_alias r.alias rs)) (distinct rs)

-- "unused rows are pending, without range or place, all numbers 0"
unfoldable pub all_unused : List Row → Bool
all_unused [] = true
all_unused (r ∷ rs) = both (is_unused r) (all_unused rs)

-- ---- the ledger

-- "the capacity is 1 to 64 and bounds the rows"; "no number is above the greatest integer", of which `next` is one more
unfoldable pub bounded : Ledger → Bool
bounded l =
    both (leb 1 l.capacity)
    (both (leb l.capacity most_rows)
    (both (leb l.used l.capacity) (both (small l.maximum) (leb l.next (greatest + 1)))))

unfoldable pub is_ledger : Ledger → Bool
is_ledger l =
    both (eqb (length l.rows) most_rows)
    (both (bounded l)
    (both (rising 0 l.next (held l)) (both (distinct (held l)) (all_unused (drop l.used l.rows)))))

abbrev pub is_open : Session → Bool
is_open Open = true
is_open (Closed rule) = false

-- a ledger with no row in use
abbrev pub empty_ledger : Part → ℕ → ℕ → Ledger
empty_ledger part capacity maximum = record {
  rows = replicate most_rows unused_row;
  part = part;
  session = Open;
  capacity = capacity;
  maximum = maximum;
  next = 0;
  used = 0;
}
