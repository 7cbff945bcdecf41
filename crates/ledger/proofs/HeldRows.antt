-- The rows in use after a step, by key and not by place: a row changed, added last, or taken out. Assumes nothing.
use Prim.Native.Nat.{ℕ, zero, suc, ◌-◌, ◌≤◌, ◌<◌}
use mathlib.Core.Path.{◌≡◌, refl, sym, ap, ◌∙◌}
use mathlib.Core.List.{List, [], ◌∷◌, ◌++◌}
use native.Mathlib.Numerals.{add-one}
use native.Mathlib.Omega.{arith}
use lib.ListN.{length, take, drop, get_or, set}
use lib.Seq.{take-append-le, drop-append-le, take-set-lt, take-suc-set, get_or-take, set-get_or}
use Rattle.row.specs.Rows.{unused_row}
use Rattle.row.specs.declared.Row.{Row}
use Rattle.ledger.specs.Keys.{gone, now, turn}
use Rattle.ledger.specs.Ledgers.{held}
use Rattle.ledger.specs.Arrays.{row_at, with_rows, changed, added, freed}
use Rattle.ledger.specs.declared.Ledger.{Ledger}
use Rattle.ledger.proofs.Finds.{IsFirst, first-used}
use Rattle.ledger.proofs.Keyed.{changed-there, gone-there}

-- ---- lists without an element

module _ {A : Type 0} where
  -- the first k of those without it
  take-gone : (k : ℕ) (xs ys : List A) (i : ℕ) → i ≤ k → k < length xs → take k (take i xs ++ (drop (suc i) xs ++ ys)) ≡ take i (take (suc k) xs) ++ drop (suc i) (take (suc k) xs)
  take-gone k [] ys i h l = absurd (omega arith)
  take-gone zero (x ∷ xs) ys zero h l = refl
  take-gone zero (x ∷ xs) ys (suc i) h l = absurd (omega arith)
  take-gone (suc k) (x ∷ xs) ys zero h l = take-append-le (suc k) xs ys (omega arith)
  take-gone (suc k) (x ∷ xs) ys (suc i) h l = ap (λ (t : List A). x ∷ t) (take-gone k xs ys i (omega arith) (omega arith))

  -- and those after them
  pub drop-gone : (k : ℕ) (xs ys : List A) (i : ℕ) → i ≤ k → k < length xs → drop k (take i xs ++ (drop (suc i) xs ++ ys)) ≡ drop (suc k) xs ++ ys
  drop-gone k [] ys i h l = absurd (omega arith)
  drop-gone zero (x ∷ xs) ys zero h l = refl
  drop-gone zero (x ∷ xs) ys (suc i) h l = absurd (omega arith)
  drop-gone (suc k) (x ∷ xs) ys zero h l = drop-append-le (suc k) xs ys (omega arith)
  drop-gone (suc k) (x ∷ xs) ys (suc i) h l = drop-gone k xs ys i (omega arith) (omega arith)

-- ---- the rows in use

module _ (l : Ledger) where
  -- a row changed
  held-changed : (i : ℕ) (r : Row) → i < l.used → held (changed l i r) ≡ set (held l) i r
  unfolding held changed
  held-changed i r h = take-set-lt l.used l.rows i r h

  pub held_at : (i : ℕ) (d : Row) → i < l.used → get_or (held l) i d ≡ get_or l.rows i d
  unfolding held
  held_at i d h = get_or-take l.used l.rows i d h

  -- the row itself, stored back
  pub same_row : (i : ℕ) → l ≡ changed l i (row_at l i)
  unfolding changed
  same_row i = ap (λ (rs : List Row). with_rows l rs l.used l.next) (sym (set-get_or l.rows i unused_row))

  -- the row at a place in use, by what it is found by
  pub held-changed-by : (key : Row → ℕ) (n : ℕ) (i : ℕ) → IsFirst key n (held l) i → (f : Row → Row) → held (changed l i (f (row_at l i))) ≡ turn key n (λ r. now (f r)) (held l)
  held-changed-by key n i e f =
      let h : i < l.used = first-used key n l e in
      held-changed i (f (row_at l i)) h
      ∙ ap (λ (r : Row). set (held l) i (f r)) (sym (held_at i unused_row h))
      ∙ changed-there key n e f unused_row

  -- a row added last
  pub held-added : (r : Row) → l.used < length l.rows → held (added l r) ≡ held l ++ (r ∷ [])
  unfolding held added
  held-added r h = rw (add-one l.used) (take-suc-set l.rows l.used r h)

  -- a row taken out
  held-freed : (i : ℕ) → i < l.used → l.used ≤ length l.rows → held (freed l i) ≡ take i (held l) ++ drop (suc i) (held l)
  unfolding held freed
  held-freed i h k =
      let up : suc (l.used - 1) ≡ l.used = omega arith in
      take-gone (l.used - 1) l.rows (unused_row ∷ []) i (omega arith) (omega arith)
      ∙ ap (λ (n : ℕ). take i (take n l.rows) ++ drop (suc i) (take n l.rows)) up

  pub held-freed-by : (key : Row → ℕ) (n : ℕ) (i : ℕ) → IsFirst key n (held l) i → l.used ≤ length l.rows → held (freed l i) ≡ turn key n (λ _. gone) (held l)
  held-freed-by key n i e k = held-freed i (first-used key n l e) k ∙ gone-there key n e
