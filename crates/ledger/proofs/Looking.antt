-- What the library's searches of rows give, in the words of `specs/`. Assumes nothing.
use Rattle.std.specs.Prelude.{Option, Some, None}
use Rattle.std.specs.List.{list_all, list_any}
use Rattle.std.specs.List.{position_from}
use Rattle.std.proofs.lemmas.Iterator.Adapters.{position_from-zero}
use Prim.Native.Nat.{ℕ, ◌+◌}
use mathlib.Core.Path.{◌≡◌, refl, sym, ◌∙◌}
use mathlib.Core.Bool.{Bool, true, false, cond, ◌||◌, ◌&&◌}
use mathlib.Core.List.{List, [], ◌∷◌}
use lib.Dec.{eqb, ltb}
use lib.ListN.{length}
use Rattle.std.specs.List.{position_or_len}
use Rattle.common.specs.Choice.{pick, both}
use Rattle.row.specs.Rows.{is_unused}
use Rattle.row.specs.declared.Row.{Row}
use Rattle.ledger.specs.Ledgers.{has_alias, all_unused}
use Rattle.ledger.specs.Arrays.{find}

module _ {A : Type 0} (key : A → ℕ) (n : ℕ) where
  finds-from : (from : ℕ) (xs : List A) → find key n from xs ≡ position_from (λ x. eqb (key x) n) from xs
  unfolding find
  finds-from from [] = refl
  finds-from from (x ∷ xs) = rw (finds-from (from + 1) xs)

  -- where `position` says that the first with the number stands
  pub found : (xs : List A) {f : Option ℕ} → (let i = position_or_len (λ x. eqb (key x) n) xs in f ≡ cond (ltb i (length xs)) (Some i) None) → f ≡ find key n 0 xs
  found xs e = e ∙ position_from-zero (λ x. eqb (key x) n) xs ∙ sym (finds-from 0 xs)

pub alias-any : (alias : ℕ) (rs : List Row) → list_any (λ r. eqb r.alias alias) rs ≡ has_alias alias rs
unfolding has_alias
alias-any alias [] = refl
alias-any alias (r ∷ rs) = rw (alias-any alias rs) (go (eqb r.alias alias) (has_alias alias rs))
  where
    go : (b c : Bool) → (b || c) ≡ pick b true c
    go true c = refl
    go false c = refl

pub unused-all : (rs : List Row) → list_all is_unused rs ≡ all_unused rs
unfolding all_unused
unused-all [] = refl
unused-all (r ∷ rs) = rw (unused-all rs) (go (is_unused r) (all_unused rs))
  where
    go : (b c : Bool) → (b && c) ≡ both b c
    go true c = refl
    go false c = refl
