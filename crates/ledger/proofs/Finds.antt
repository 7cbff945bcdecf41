-- Where a row was found, and what it means that none was. Assumes nothing.
use Rattle.std.specs.Prelude.{Option, Some, None}
use Rattle.std.specs.Option.{is_some}
use Prim.Native.Nat.{ℕ, zero, suc, ◌+◌, ◌<◌}
use mathlib.Core.Path.{◌≡◌, refl, sym, subst}
use mathlib.Core.Bool.{Bool, true, false}
use mathlib.Core.List.{List, [], ◌∷◌}
use native.Mathlib.Nat.{add-zero, zero-add}
use native.Mathlib.Omega.{arith}
use lib.Dec.{eqb}
use lib.ListN.{length, length-take}
use Rattle.common.specs.Choice.{pick}
use Rattle.row.specs.declared.Row.{Row}
use Rattle.ledger.specs.Ledgers.{held, has_alias}
use Rattle.ledger.specs.Steps.{alias_of}
use Rattle.ledger.specs.Arrays.{find}
use Rattle.ledger.specs.declared.Ledger.{Ledger}

module _ {A : Type 0} (key : A → ℕ) (n : ℕ) where
  -- none has a number; or the first that has it stands at a place
  pub data HasNone : List A → Type 0 where
    end : HasNone []
    other : {x : A} {xs : List A} → eqb (key x) n ≡ false → HasNone xs → HasNone (x ∷ xs)

  pub data IsFirst : List A → ℕ → Type 0 where
    here : {x : A} {xs : List A} → eqb (key x) n ≡ true → IsFirst (x ∷ xs) zero
    later : {x : A} {xs : List A} {i : ℕ} → eqb (key x) n ≡ false → IsFirst xs i → IsFirst (x ∷ xs) (suc i)

  pub find-by : (from : ℕ) (xs : List A) (P : Option ℕ → Type 0) → (HasNone xs → P None) → ((i : ℕ) → IsFirst xs i → P (Some (from + i))) → P (find key n from xs)
  unfolding find
  find-by from [] P none at = none end
  find-by from (x ∷ xs) P none at = go (eqb (key x) n) refl (find-by (from + 1) xs P)
    where
      go : (b : Bool) → eqb (key x) n ≡ b → ((HasNone xs → P None) → ((i : ℕ) → IsFirst xs i → P (Some (from + 1 + i))) → P (find key n (from + 1) xs)) → P (pick b (Some from) (find key n (from + 1) xs))
      go true e ih = subst (λ (i : ℕ). P (Some i)) (add-zero from) (at zero (here e))
      go false e ih =
          ih (λ h. none (other e h))
          (λ i h. let on : from + suc i ≡ from + 1 + i = omega arith in subst (λ (k : ℕ). P (Some k)) on (at (suc i) (later e h)))

  first_below : {xs : List A} {i : ℕ} → IsFirst xs i → i < length xs
  first_below (here e) = omega arith
  first_below (later e h) = omega (arith, first_below h)

-- ---- a row in use

module _ (key : Row → ℕ) (n : ℕ) (l : Ledger) where
  pub by_place : (P : Option ℕ → Type 0) → (HasNone key n (held l) → P None) → ((i : ℕ) → IsFirst key n (held l) i → P (Some i)) → P (find key n 0 (held l))
  by_place P none at = find-by key n 0 (held l) P none (λ i h. subst (λ (k : ℕ). P (Some k)) (sym (zero-add i)) (at i h))

  pub first-used : {i : ℕ} → IsFirst key n (held l) i → i < l.used
  unfolding held
  first-used h = omega (arith, first_below key n h, length-take l.used l.rows)

  -- by what the search found
  module _ {f : Option ℕ} (found : f ≡ find key n 0 (held l)) where
    pub found_none : f ≡ None → HasNone key n (held l)
    found_none missing =
        by_place (λ (g : Option ℕ). f ≡ g → HasNone key n (held l)) (λ h _. h)
        (λ j h e. absurd (let z : ◌≡◌ {A = ℕ} 0 1 = cc in omega arith)) found

    pub found_first : {i : ℕ} → f ≡ Some i → IsFirst key n (held l) i
    found_first {i} at =
        by_place (λ (g : Option ℕ). f ≡ g → IsFirst key n (held l) i) (λ _ e. absurd (let z : ◌≡◌ {A = ℕ} 0 1 = cc in omega arith))
        (λ j h e. let is : j ≡ i = cc in subst (IsFirst key n (held l)) is h) found

    pub found-used : {i : ℕ} → f ≡ Some i → i < l.used
    found-used at = first-used (found_first at)

-- one is found exactly where one has the alias
pub has-found : (alias from : ℕ) (rs : List Row) → has_alias alias rs ≡ is_some (find alias_of alias from rs)
unfolding find has_alias
has-found alias from [] = refl
has-found alias from (r ∷ rs) = go (eqb r.alias alias) (has-found alias (from + 1) rs)
  where
    go : (b : Bool) → has_alias alias rs ≡ is_some (find alias_of alias (from + 1) rs) → pick b true (has_alias alias rs) ≡ is_some (pick b (Some from) (find alias_of alias (from + 1) rs))
    go true ih = refl
    go false ih = ih
