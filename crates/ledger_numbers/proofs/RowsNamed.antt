-- The rows that numbers name, one after the other. Assumes nothing.
use Rattle.std.specs.Simd.{first_chunks}
use native.Mathlib.Nat.{add-zero}
use Rattle.ledger.proofs.PartsOfLists.{chunk, from_on}
use Prim.Native.Nat.{ℕ, zero, suc, ◌+◌, ◌-◌, ◌/◌, ◌*◌, ◌≤◌, ◌<◌}
use mathlib.Core.Path.{◌≡◌, refl, ap, ◌∙◌}
use mathlib.Core.List.{List, [], ◌∷◌}
use native.Mathlib.Omega.{arith}
use lib.ListN.{length-drop, length, get_or, take, drop}
use lib.Seq.{drop-drop, get_or-take, get_or-drop}
use Rattle.row.specs.declared.Row.{Row}
use Rattle.ledger.specs.Ledgers.{most_rows}
use Rattle.ledger_numbers.specs.Numbers.{ledger_numbers, own_numbers, row_numbers}
use Rattle.ledger_numbers.specs.Naming.{row_named, rows_named}

-- what stands before an offset does not count
pub row-behind : (ns : List ℕ) (at : ℕ) → row_named (drop at ns) 0 ≡ row_named ns at
unfolding row_named
row-behind ns at =
    let e : at + 0 ≡ at = omega arith in
    simp get_or-drop (rw e)

-- rows that are each the one that its numbers name
pub all-named : (n : ℕ) (ns : List ℕ) (at : ℕ) (rows : List Row) → length rows ≡ n → ((i : ℕ) (d : Row) → i < n → get_or rows i d ≡ row_named ns (at + row_numbers * i)) → rows ≡ rows_named n ns at
unfolding rows_named
all-named zero ns at [] l each = refl
all-named zero ns at (r ∷ rows) l each = absurd (omega arith)
all-named (suc n) ns at [] l each = absurd (omega arith)
all-named (suc n) ns at (r ∷ rows) l each =
    let first : at + row_numbers * 0 ≡ at = omega arith in
    let one : r ≡ row_named ns at = each zero r (omega arith) ∙ ap (row_named ns) first in
    let on : (i : ℕ) → at + row_numbers * suc i ≡ at + row_numbers + row_numbers * i = λ i. omega arith in
    let rest = all-named n ns (at + row_numbers) rows (omega arith) (λ i d h. each (suc i) d (omega arith) ∙ ap (row_named ns) (on i)) in
    λ i. one i ∷ rest i

-- the eleven numbers are all that a row reads
row-front : (at : ℕ) (ns : List ℕ) → row_named (take row_numbers (drop at ns)) 0 ≡ row_named ns at
unfolding row_named
row-front at ns =
    let n : (j : ℕ) → j < row_numbers → get_or (take row_numbers (drop at ns)) j 0 ≡ get_or ns (at + j) 0 = λ j h. get_or-take row_numbers (drop at ns) j 0 h ∙ get_or-drop at ns j 0 in
    rw (n 0 (omega arith), n 1 (omega arith), n 2 (omega arith), n 3 (omega arith), n 4 (omega arith), n 5 (omega arith), n 6 (omega arith), n 7 (omega arith), n 8 (omega arith), n 9 (omega arith), n 10 (omega arith), add-zero at)

-- a row's numbers, as they are cut from all
pub row-cut : (ns : List ℕ) (i : ℕ) (parts : List (List ℕ)) → ledger_numbers ≤ length ns → (let rest = take (length ns - own_numbers) (drop own_numbers ns) in parts ≡ first_chunks row_numbers (length rest / row_numbers) rest) → i < most_rows → row_named (get_or parts i []) 0 ≡ row_named ns (own_numbers + row_numbers * i)
row-cut ns i parts long cut h =
    let rest : List ℕ = take (length ns - own_numbers) (drop own_numbers ns) in
    let all : rest ≡ drop own_numbers ns = from_on ns own_numbers in
    let enough : length rest ≡ length ns - own_numbers = ap length all ∙ length-drop own_numbers ns in
    let within : i < length rest / row_numbers = omega arith in
    rw (cut, chunk row_numbers (length rest / row_numbers) i rest within, all, drop-drop (row_numbers * i) own_numbers ns) (row-front (own_numbers + row_numbers * i) ns)
