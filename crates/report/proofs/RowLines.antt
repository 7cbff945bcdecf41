-- The rows of a ledger, one line after the other, and how long a report can be. Assumes nothing.
use Prim.Native.Nat.{ℕ, ◌+◌, ◌*◌, ◌≤◌, ◌<◌, min}
use mathlib.Core.Path.{◌≡◌, ap}
use mathlib.Core.List.{List, [], ◌∷◌, ◌++◌}
use native.Mathlib.Nat.{le_refl}
use native.Mathlib.Numerals.{add-one}
use native.Mathlib.Omega.{arith}
use lib.ListN.{length, get_or, take, drop, length-take, length-append, drop_of_length-le}
use lib.Seq.{drop-cons}
use Rattle.std.proofs.lemmas.List.{take_min}
use Rattle.common.proofs.PutLoop.{Next}
use Rattle.row.specs.declared.Row.{Row}
use Rattle.ledger.specs.Ledgers.{most_rows, held}
use Rattle.ledger.specs.declared.Ledger.{Ledger}
use Rattle.ledger.specs.declared.Session.{Session}
use Rattle.ledger.specs.declared.Session.TheVariants.{Open, Closed}
use Rattle.text.specs.Lines.{line_of, longest_line}
use Rattle.text.specs.declared.Item.{Item}
use Rattle.text.proofs.Bounds.{line-bound}
use Rattle.report.specs.Rows.{session_line, columns_line, row_line}
use Rattle.report.specs.Report.{rows_text, ledger_text, longest_report}

-- ---- how long lines are

session-bound : (session : Session) (rows : ℕ) → length (line_of (session_line session rows)) ≤ longest_line
session-bound Open rows = omega (arith, line-bound (session_line Open rows))
session-bound (Closed rule) rows = omega (arith, line-bound (session_line (Closed rule) rows))

rows_bound : (rs : List Row) → length (rows_text rs) ≤ longest_line * length rs
unfolding rows_text
rows_bound [] = le_refl 0
rows_bound (r ∷ rs) = omega (arith, length-append (line_of (row_line r)) (rows_text rs), line-bound (row_line r), rows_bound rs)

-- a report is the session's line, the columns and the rows,
ledger-length : (l : Ledger) → length (ledger_text l) ≡ length (line_of (session_line l.session l.used)) + length (line_of columns_line) + length (rows_text (held l))
unfolding ledger_text
ledger-length l =
    let a = line_of (session_line l.session l.used) in
    let b = line_of columns_line in
    omega (arith, length-append a (b ++ rows_text (held l)), length-append b (rows_text (held l)))

-- each of which is counted
pub ledger-counted : (l : Ledger) {first second : List Item} → first ≡ session_line l.session l.used → second ≡ columns_line → {a b c : ℕ} → a ≡ length (line_of first) → b ≡ length (line_of second) → c ≡ length (rows_text (held l)) → a + b + c ≡ length (ledger_text l)
ledger-counted l f g i j k =
    omega (arith, ledger-length l, ap (λ items. length (line_of items)) f, ap (λ items. length (line_of items)) g)

pub front-bound : (l : Ledger) {first second : List Item} → first ≡ session_line l.session l.used → second ≡ columns_line → {a b : ℕ} → a ≡ length (line_of first) → b ≡ length (line_of second) → a + b ≤ longest_line * 2
front-bound l f g i j =
    omega (arith, session-bound l.session l.used, line-bound columns_line, ap (λ items. length (line_of items)) f, ap (λ items. length (line_of items)) g)

-- ---- rows

module _ (rs : List Row) (i : ℕ) where
  -- the text goes on with the i-th,
  pub row_next : (d : Row) → i < length rs → {line : List Item} → line ≡ row_line (get_or rs i d) → Next (line_of line) (rows_text (drop (i + 1) rs)) (rows_text (drop i rs))
  unfolding rows_text
  row_next d h f = record { joins = rw (f, add-one i, drop-cons rs i d h) }

  -- and after the last it ends
  pub rows_end : length rs ≤ i → rows_text (drop i rs) ≡ []
  unfolding rows_text
  rows_end h = rw (drop_of_length-le rs {i = i} h)

-- no more rows than there are places take more,
pub few-bound : (rs : List Row) → length rs ≤ most_rows → length (rows_text rs) ≤ longest_line * most_rows
few-bound rs h = omega (arith, rows_bound rs)

-- a ledger's rows are within its places,
pub held_rows : (l : Ledger) → take (min l.used (length l.rows)) l.rows ≡ held l
unfolding held
held_rows l = take_min l.used l.rows

held_few : (l : Ledger) → length l.rows ≡ most_rows → length (held l) ≤ most_rows
unfolding held
held_few l places = omega (arith, length-take l.used l.rows)

-- so no report is longer
pub few-rows-bound : (l : Ledger) → length (held l) ≤ most_rows → length (ledger_text l) ≤ longest_report
few-rows-bound l few =
    omega (arith, ledger-length l, session-bound l.session l.used, line-bound columns_line, few-bound (held l) few)

pub ledger-bound : (l : Ledger) → length l.rows ≡ most_rows → length (ledger_text l) ≤ longest_report
ledger-bound l places = few-rows-bound l (held_few l places)
