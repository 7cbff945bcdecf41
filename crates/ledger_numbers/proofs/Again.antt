-- Numbers of a ledger name it again, and numbers that are unpacked are those of what they name. Assumes nothing.
use Rattle.std.specs.Prelude.{Option, Some, None}
use Prim.Native.Nat.{ℕ, zero, suc, ◌+◌}
use mathlib.Core.Path.{◌≡◌, refl, sym, ap, ◌∙◌}
use mathlib.Core.Bool.{Bool, true, false}
use mathlib.Core.List.{List, [], ◌∷◌, ◌++◌, append_assoc, append-nil}
use mathlib.Core.Logic.{◌⊎◌, inl, inr, ⊎_elim}
use borrow.Author.Tests.{eqb-true, eqb-false, eq-eqb}
use lib.ListN.{length, take, drop, get_or}
use lib.Seq.{drop-drop, drop_at, take_at}
use lib.Dec.{eqb, leb}
use Rattle.common.specs.Choice.{pick}
use Rattle.common.specs.Buffer.{over}
use Rattle.common.proofs.Tests.{both-each}
use Rattle.field.specs.declared.Place.{Place}
use Rattle.row.specs.declared.State.{State}
use Rattle.row.specs.declared.State.TheVariants.{Pending, Active}
use Rattle.row.specs.declared.Range.{Range}
use Rattle.row.specs.declared.Range.TheVariants.{Unknown, Open, Closed}
use Rattle.row.specs.declared.Row.{Row}
use Rattle.ledger.specs.Answers.{closing_rule}
use Rattle.ledger.specs.Ledgers.{most_rows, is_ledger, bounded}
use Rattle.ledger.specs.declared.Part.{Part}
use Rattle.ledger.specs.declared.Part.TheVariants.{Subscriber, Publisher}
use Rattle.ledger.specs.declared.Rule.TheVariants.{R1, R2, R3, R4, R5, R6, R7}
use Rattle.ledger.specs.declared.Session.{Session}
use Rattle.ledger.specs.declared.Session.TheVariants.{Open as IsOpen, Closed as IsClosed}
use Rattle.ledger.specs.declared.Ledger.{Ledger}
use Rattle.ledger_numbers.specs.Numbers.{own_numbers, row_numbers, ledger_numbers, state_number, range_numbers, greatest_numbers, numbers_of_row, numbers_of_rows, part_number, numbers_of}
use Rattle.ledger_numbers.specs.Naming.{state_named, range_named, greatest_named, row_named, rows_named, part_named, rule_named, session_named, ledger_named, are_same, no_ledger, unpack_of, kept_in}
use Rattle.ledger_numbers.proofs.Storing.{row-numbers, row-length, numbers-length}
use Rattle.ledger_numbers.proofs.RowsNamed.{row-behind}

-- ---- a row

state-again : (s : State) → state_named (state_number s) ≡ s
unfolding state_named
state-again Pending = refl
state-again Active = refl

range-again : (r : Range) → range_named (get_or (range_numbers r) 0 0) (get_or (range_numbers r) 1 0) (get_or (range_numbers r) 2 0) (get_or (range_numbers r) 3 0) ≡ r
unfolding range_named
range-again Unknown = refl
range-again (Open from) = refl
range-again (Closed from last) = refl

greatest-again : (g : Option Place) → greatest_named (get_or (greatest_numbers g) 0 0) (get_or (greatest_numbers g) 1 0) (get_or (greatest_numbers g) 2 0) ≡ g
unfolding greatest_named
greatest-again None = refl
greatest-again (Some place) = refl

row-again : (r : Row) (rest : List ℕ) → row_named (numbers_of_row r ++ rest) 0 ≡ r
unfolding row_named
row-again r rest =
    rw (row-numbers r refl refl refl, state-again r.state, range-again r.range, greatest-again r.greatest)

-- ---- rows, and what follows them

rows-again : (rs : List Row) (rest ns : List ℕ) (at : ℕ) → drop at ns ≡ numbers_of_rows rs ++ rest → rows_named (length rs) ns at ≡ rs
unfolding rows_named numbers_of_rows
rows-again [] rest ns at e = refl
rows-again (r ∷ rs) rest ns at e =
    let f : drop at ns ≡ numbers_of_row r ++ (numbers_of_rows rs ++ rest) = e ∙ append_assoc (numbers_of_row r) (numbers_of_rows rs) rest in
    let first : row_named ns at ≡ r = sym (row-behind ns at) ∙ rw f (row-again r (numbers_of_rows rs ++ rest)) in
    let others : drop (at + row_numbers) ns ≡ numbers_of_rows rs ++ rest = sym (drop-drop row_numbers at ns) ∙ rw f (drop_at (numbers_of_row r) (numbers_of_rows rs ++ rest) row_numbers (row-length r)) in
    rw (first, rows-again rs rest ns (at + row_numbers) others)

-- ---- a ledger

part-again : (p : Part) → part_named (part_number p) ≡ p
unfolding part_named
part-again Subscriber = refl
part-again Publisher = refl

session-again : (s : Session) → session_named (closing_rule s) ≡ s
unfolding session_named rule_named
session-again IsOpen = refl
session-again (IsClosed R1) = refl
session-again (IsClosed R2) = refl
session-again (IsClosed R3) = refl
session-again (IsClosed R4) = refl
session-again (IsClosed R5) = refl
session-again (IsClosed R6) = refl
session-again (IsClosed R7) = refl

module _ (l : Ledger) (places : length l.rows ≡ most_rows) (rest : List ℕ) where
  rows_named_lem : rows_named most_rows (numbers_of l ++ rest) own_numbers ≡ l.rows
  unfolding numbers_of
  rows_named_lem = rw (← places) (rows-again l.rows rest (numbers_of l ++ rest) own_numbers refl)

  pub named-before : ledger_named (numbers_of l ++ rest) ≡ l
  unfolding ledger_named numbers_of
  named-before = rw (rows_named_lem, part-again l.part, session-again l.session)

-- ---- two lists that are found the same

same-itself : (ns : List ℕ) → are_same ns ns ≡ true
unfolding are_same
same-itself [] = refl
same-itself (n ∷ ns) = rw (eq-eqb n n refl, same-itself ns)

same-is : (a b : List ℕ) → are_same a b ≡ true → a ≡ b
unfolding are_same
same-is [] [] h = refl
same-is [] (n ∷ ns) h = cc
same-is (m ∷ ms) [] h = cc
same-is (m ∷ ms) (n ∷ ns) h =
    let p = both-each (eqb m n) (are_same ms ns) h in
    rw (eqb-true m n p.0, same-is ms ns p.1)

-- ---- unpacking

pub unpacked : (l : Ledger) → length l.rows ≡ most_rows → (rest : List ℕ) → unpack_of (numbers_of l ++ rest) ≡ l
unfolding unpack_of
unpacked l places rest =
    rw (named-before l places rest, take_at (numbers_of l) rest ledger_numbers (numbers-length l places), same-itself (numbers_of l))

either : (b : Bool) → (b ≡ true) ⊎ (b ≡ false)
either true = inl refl
either false = inr refl

pub numbers-again : (ns : List ℕ) → ((unpack_of ns).capacity ≡ 0 → ⊥) → numbers_of (unpack_of ns) ≡ take ledger_numbers ns
unfolding unpack_of
numbers-again ns h =
    ⊎_elim
    (λ t. rw t (same-is (numbers_of (ledger_named ns)) (take ledger_numbers ns) t))
    (λ f. absurd (h (rw f)))
    (either (are_same (numbers_of (ledger_named ns)) (take ledger_numbers ns)))

pub named : (l : Ledger) → length l.rows ≡ most_rows → ledger_named (numbers_of l) ≡ l
named l places = rw append-nil at (named-before l places [])

-- ---- what is kept after a call that left the ledger as it was

-- the first numbers of a list, put over it
over-itself : (n : ℕ) (ns : List ℕ) → over (take n ns) ns ≡ ns
over-itself zero ns = refl
over-itself (suc n) [] = refl
over-itself (suc n) (x ∷ ns) = ap (λ (t : List ℕ). x ∷ t) (over-itself n ns)

kept_by : (none fits : Bool) (ns : List ℕ) {xs : List ℕ} → (none ≡ false → xs ≡ ns) → pick none ns (pick fits xs ns) ≡ ns
kept_by true fits ns h = refl
kept_by false true ns h = h refl
kept_by false false ns h = refl

pub kept : (ns : List ℕ) → kept_in ns (unpack_of ns) ≡ ns
unfolding kept_in
kept ns =
    kept_by (eqb (unpack_of ns).capacity 0) (leb (length (numbers_of (unpack_of ns))) (length ns)) ns
    (λ f. ap (λ (own : List ℕ). over own ns) (numbers-again ns (eqb-false _ _ f)) ∙ over-itself ledger_numbers ns)

pub no-ledger : is_ledger no_ledger ≡ false
unfolding is_ledger bounded
no-ledger = refl
