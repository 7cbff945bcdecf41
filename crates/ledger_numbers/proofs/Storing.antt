-- The numbers of rows and of a ledger, stored one by one, one after the other. Assumes nothing.
use Rattle.std.specs.Prelude.{Option, Some, None}
use Prim.Native.Nat.{ℕ, ◌+◌, ◌*◌, ◌≤◌, ◌<◌}
use mathlib.Core.Path.{◌≡◌, refl, ap, ◌∙◌}
use mathlib.Core.List.{List, [], ◌∷◌, ◌++◌}
use native.Mathlib.Numerals.{add-one}
use native.Mathlib.Omega.{arith}
use lib.ListN.{length, get_or, drop, length-append, drop_of_length-le}
use lib.Seq.{drop-cons}
use Rattle.common.specs.Buffer.{Put}
use Rattle.common.proofs.Puts.{Room, lent, given, second_fits, put_both}
use Rattle.common.proofs.PutLoop.{Going, Next}
use Rattle.field.specs.declared.Place.{Place}
use Rattle.row.specs.declared.Range.{Range}
use Rattle.row.specs.declared.Range.TheVariants.{Unknown, Open, Closed}
use Rattle.row.specs.declared.Row.{Row}
use Rattle.ledger.specs.Answers.{closing_rule}
use Rattle.ledger.specs.Ledgers.{most_rows}
use Rattle.ledger.specs.declared.Ledger.{Ledger}
use Rattle.ledger_numbers.specs.Numbers.{own_numbers, row_numbers, ledger_numbers, state_number, range_numbers, greatest_numbers, numbers_of_row, numbers_of_rows, part_number, numbers_of}

-- ---- a row

-- the numbers of a range are four,
four : (r : Range) {ns : List ℕ} → ns ≡ range_numbers r → range_numbers r ≡ get_or ns 0 0 ∷ get_or ns 1 0 ∷ get_or ns 2 0 ∷ get_or ns 3 0 ∷ []
four Unknown e = rw e
four (Open from) e = rw e
four (Closed from last) e = rw e

-- those of a place, or of none, three
three : (g : Option Place) {ns : List ℕ} → ns ≡ greatest_numbers g → greatest_numbers g ≡ get_or ns 0 0 ∷ get_or ns 1 0 ∷ get_or ns 2 0 ∷ []
three None e = rw e
three (Some place) e = rw e

module _ (r : Row) {asked shown : List ℕ} {s : ℕ} (f : asked ≡ range_numbers r.range) (t : shown ≡ greatest_numbers r.greatest) (e : s ≡ state_number r.state) where
  -- a row's numbers, one by one
  pub row-numbers : numbers_of_row r ≡ r.id ∷ r.alias ∷ s ∷ get_or asked 0 0 ∷ get_or asked 1 0 ∷ get_or asked 2 0 ∷ get_or asked 3 0 ∷ get_or shown 0 0 ∷ get_or shown 1 0 ∷ get_or shown 2 0 ∷ r.count ∷ []
  unfolding numbers_of_row
  row-numbers = rw (four r.range f, three r.greatest t, ← e)

pub row-length : (r : Row) → length (numbers_of_row r) ≡ row_numbers
row-length r = ap length (row-numbers r refl refl refl)

pub row_fits : (r : Row) {n : ℕ} → length (numbers_of_row r) ≤ n → row_numbers ≤ n
row_fits r h = omega (arith, row-length r)

-- ---- rows

-- what was put ends within all of it
pub at-within : {all before out : List ℕ} {at : ℕ} {left : List ℕ} → Going all before out at left → at ≤ length all
at-within {left = left} g = omega (arith, g.put.count, ap length g.joins, length-append g.done left)

pub rows-length : (rs : List Row) → length (numbers_of_rows rs) ≡ row_numbers * length rs
unfolding numbers_of_rows
rows-length [] = refl
rows-length (r ∷ rs) = length-append (numbers_of_row r) (numbers_of_rows rs) ∙ omega (arith, row-length r, rows-length rs)

module _ (rs : List Row) (i : ℕ) where
  -- they go on with the i-th,
  pub row_next : (d : Row) → i < length rs → Next (numbers_of_row (get_or rs i d)) (numbers_of_rows (drop (i + 1) rs)) (numbers_of_rows (drop i rs))
  unfolding numbers_of_rows
  row_next d h = record { joins = rw (drop-cons rs i d h, add-one i) }

  -- and after the last they end
  pub rows_end : length rs ≤ i → numbers_of_rows (drop i rs) ≡ []
  unfolding numbers_of_rows
  rows_end h = rw (drop_of_length-le rs {i = i} h)

-- ---- a ledger

-- it always has as many numbers
pub numbers-length : (l : Ledger) → length l.rows ≡ most_rows → length (numbers_of l) ≡ ledger_numbers
unfolding numbers_of
numbers-length l h = omega (arith, rows-length l.rows)

module _ (l : Ledger) {p s : ℕ} (e : p ≡ part_number l.part) (f : s ≡ closing_rule l.session) (before : List ℕ) (fits : length (numbers_of l) ≤ length before) where
  -- its own numbers, which are copied to the front,
  abbrev front : List ℕ
  front = p ∷ s ∷ l.capacity ∷ l.maximum ∷ l.next ∷ l.used ∷ []

  front-room : Room front (numbers_of_rows l.rows) (numbers_of l) before
  unfolding numbers_of
  front-room = record { joins = rw (e, f); fits = fits }

  module _ {copied : List ℕ} (own : copied ≡ front) where
    front-put : Put front before own_numbers (copied ++ drop own_numbers before)
    front-put = record { count = refl; holds = ap (λ (ns : List ℕ). ns ++ drop own_numbers before) own }

    -- there is room for the rows after them,
    pub rows_fit : length (numbers_of_rows l.rows) ≤ length (lent own_numbers (copied ++ drop own_numbers before))
    rows_fit = second_fits front-room front-put

    -- and then all of them stand there,
    pub ledger-put : {n : ℕ} {t : List ℕ} → Put (numbers_of_rows l.rows) (lent own_numbers (copied ++ drop own_numbers before)) n t → Put (numbers_of l) before (own_numbers + n) (given own_numbers (copied ++ drop own_numbers before) t)
    ledger-put q = put_both front-room front-put q
