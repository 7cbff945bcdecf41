-- The aliases of rows, one after the other; a number found among them is a row found by its alias. Assumes nothing.
use Prim.Native.Nat.{ℕ, zero, suc, ◌+◌, ◌≤◌, ◌<◌}
use mathlib.Core.Path.{◌≡◌, refl, sym, ap, ◌∙◌}
use mathlib.Core.List.{List, [], ◌∷◌, map}
use native.Mathlib.Numerals.{add-one}
use native.Mathlib.Omega.{arith}
use lib.ListN.{length, take, get_or, set, length-set, length-map, get_or-map}
use lib.Seq.{take_all, take-suc, take-suc-set}
use Rattle.row.specs.declared.Row.{Row}
use Rattle.ledger.specs.Ledgers.{most_rows}
use Rattle.ledger.specs.Steps.{alias_of}
use Rattle.ledger.specs.Arrays.{find}
use Rattle.ledger.specs.Runs.{itself}

pub take-map : {A B : Type 0} (f : A → B) (n : ℕ) (xs : List A) → take n (map f xs) ≡ map f (take n xs)
take-map f zero xs = refl
take-map f (suc n) [] = refl
take-map f (suc n) (x ∷ xs) = ap (λ (t : List _). f x ∷ t) (take-map f n xs)

pub find-map : (n from : ℕ) (rs : List Row) → find itself n from (map alias_of rs) ≡ find alias_of n from rs
unfolding find
find-map n from [] = refl
find-map n from (r ∷ rs) = rw (find-map n (from + 1) rs)

-- the first i of the names are those of the rows
pub record Named (rs : List Row) (names : List ℕ) (i : ℕ) : Type 0 where
  pub to : i ≤ most_rows
  pub long : length names ≡ most_rows
  pub so_far : take i names ≡ map alias_of (take i rs)

module _ (rs : List Row) (names : List ℕ) (i : ℕ) (k : length rs ≡ most_rows) (n : Named rs names i) where
  pub named-next : (d : Row) → i < most_rows → Named rs (set names i (get_or rs i d).alias) (i + 1)
  named-next d h =
      record {
        to = omega arith;
        long = length-set names i _ ∙ n.long;
        so_far =
            rw (add-one, take-suc-set names i (get_or rs i d).alias (omega (arith, n.long)), n.so_far, ← take-map alias_of i rs, ← take-map alias_of (suc i) rs)
            (sym (rw (take-suc (map alias_of rs) i d.alias (rw length-map (omega arith)), get_or-map alias_of rs i d)));
      }

  pub all_named : most_rows ≤ i → names ≡ map alias_of rs
  all_named h =
      sym (take_all i names (omega (arith, n.long))) ∙ n.so_far ∙ ap (map alias_of) (take_all i rs (omega arith))
