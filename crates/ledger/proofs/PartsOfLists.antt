-- Parts of a list, as slices and loops over them see them; and how many rows are in use. Assumes nothing.
use Rattle.std.specs.Simd.{first_chunks}
use native.Mathlib.Nat.{mul-zero, mul-suc, add_comm}
use Prim.Native.Nat.{ℕ, zero, suc, ◌+◌, ◌*◌, ◌-◌, ◌≤◌, ◌<◌}
use mathlib.Core.Path.{◌≡◌, sym, ap, ◌∙◌}
use mathlib.Core.List.{List, [], ◌∷◌}
use native.Mathlib.Numerals.{add-one}
use native.Mathlib.Omega.{arith}
use lib.ListN.{length, take, drop, get_or, drop_of_length-le, length-drop}
use lib.Seq.{drop-drop, take_all, drop-cons, length-take-le}
use Rattle.ledger.specs.Ledgers.{most_rows, held}
use Rattle.ledger.specs.declared.Ledger.{Ledger}

module _ {A : Type 0} (xs : List A) (i : ℕ) where
  pub rest-next : (d : A) → i < length xs → drop i xs ≡ get_or xs i d ∷ drop (i + 1) xs
  rest-next d h = drop-cons xs i d h ∙ rw add-one

  pub rest_end : length xs ≤ i → drop i xs ≡ []
  rest_end h = drop_of_length-le xs {i = i} h

-- all from the i-th on, as a slice has them
pub from_on : {A : Type 0} (xs : List A) (i : ℕ) → take (length xs - i) (drop i xs) ≡ drop i xs
from_on xs i = take_all (length xs - i) (drop i xs) (rw length-drop (omega arith))

-- a piece of as many elements as all of them are cut into
pub chunk : {A : Type 0} (m n k : ℕ) (xs : List A) → k < n → get_or (first_chunks m n xs) k [] ≡ take m (drop (m * k) xs)
chunk m zero k xs h = absurd (omega arith)
chunk m (suc n) zero xs h = rw mul-zero
chunk m (suc n) (suc k) xs h =
    chunk m n k (drop m xs) (omega arith)
    ∙ ap (take m) (drop-drop (m * k) m xs ∙ ap (λ (i : ℕ). drop i xs) (sym (mul-suc m k ∙ add_comm (m * k) m)))

-- there are as many rows in use as the ledger says
pub held-long : (l : Ledger) → length l.rows ≡ most_rows → l.used ≤ most_rows → length (held l) ≡ l.used
unfolding held
held-long l long few = length-take-le l.used l.rows (omega arith)
