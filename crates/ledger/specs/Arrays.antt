-- Rows in their places, as the code finds them and stores them. This stands between the code and its proof: what a
-- method promises is said of views, without it.
use Rattle.std.specs.Prelude.{ℕ, suc, ◌+◌, ◌-◌, List, [], ◌∷◌, ◌++◌, take, drop, get_or, set, eqb, Option, Some, None}
use Rattle.common.specs.Choice.{pick}
use Rattle.row.specs.Rows.{unused_row}
use Rattle.row.specs.declared.Row.{Row}
use Rattle.ledger.specs.declared.Ledger.{Ledger}

-- where the first stands, counted from `from`, that has this number
unfoldable pub find : {A : Type 0} → (A → ℕ) → ℕ → ℕ → List A → Option ℕ
find of n from [] = None
find of n from (r ∷ rs) = pick (eqb (of r) n) (Some from) (find of n (from + 1) rs)

abbrev pub row_at : Ledger → ℕ → Row
row_at l i = get_or l.rows i unused_row

-- other rows, how many of them are in use, and another next ID
abbrev pub with_rows : Ledger → List Row → ℕ → ℕ → Ledger
with_rows l rows used next = record {
  rows = rows;
  part = l.part;
  session = l.session;
  capacity = l.capacity;
  maximum = l.maximum;
  next = next;
  used = used;
}

-- one row changed
unfoldable pub changed : Ledger → ℕ → Row → Ledger
changed l i r = with_rows l (set l.rows i r) l.used l.next

-- a row added last, whose ID is then the highest
unfoldable pub added : Ledger → Row → Ledger
added l r = with_rows l (set l.rows l.used r) (l.used + 1) (r.id + 1)

-- a row taken out: those after it move up one place
unfoldable pub freed : Ledger → ℕ → Ledger
freed l i = with_rows l (take i l.rows ++ (drop (suc i) l.rows ++ unused_row ∷ [])) (l.used - 1) l.next
