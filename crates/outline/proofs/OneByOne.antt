-- A place after so many numbers, with the numbers one by one. Assumes nothing.
use Prim.Native.Nat.{ℕ, zero, suc, ◌+◌, ◌≤◌}
use mathlib.Core.Path.{◌≡◌, refl, sym, ap, ◌∙◌}
use mathlib.Core.Bool.{Bool, true, false}
use mathlib.Core.List.{List, [], ◌∷◌, ◌++◌, append-nil}
use native.Mathlib.Omega.{arith}
use native.Mathlib.Nat.{le_of_eq}
use lib.ListN.{length, drop, get_or, drop_of_length-le}
use lib.Seq.{drop-cons}
use Rattle.common.specs.Choice.{pick}
use Rattle.layout.specs.Layout.{Layout, done, forbidden, when}
use Rattle.outline.specs.Places.{rest_of, ahead_of}
use Rattle.outline.specs.declared.Ahead.{Ahead}
use Rattle.outline.specs.declared.Ahead.TheVariants.{Done, Forbidden}

-- so many numbers from an index on, one by one
abbrev pub one_by_one : ℕ → List ℕ → ℕ → List ℕ
one_by_one zero v i = []
one_by_one (suc n) v i = get_or v i 0 ∷ one_by_one n v (suc i)

-- what stands from an index on begins with them
from-there : (n : ℕ) (v : List ℕ) (i : ℕ) → i + n ≤ length v → drop i v ≡ one_by_one n v i ++ drop (i + n) v
from-there zero v i h =
    let e : i ≡ i + 0 = omega arith in
    ap (λ (k : ℕ). drop k v) e
from-there (suc n) v i h =
    let e : suc i + n ≡ i + suc n = omega arith in
    drop-cons v i 0 (omega arith)
    ∙ ap (λ (ns : List ℕ). get_or v i 0 ∷ ns) (from-there n v (suc i) (omega arith) ∙ ap (λ (k : ℕ). one_by_one n v (suc i) ++ drop k v) e)

module _ (l : Layout) (n : ℕ) (v : List ℕ) {r : Ahead} where
  -- after that many numbers and others,
  pub past : n ≤ length v → r ≡ ahead_of (rest_of l (one_by_one n v 0 ++ drop n v)) → r ≡ ahead_of (rest_of l v)
  past h e =
      let z : 0 + n ≡ n = omega arith in
      let all : v ≡ one_by_one n v 0 ++ drop n v = from-there n v 0 (omega arith) ∙ ap (λ (k : ℕ). one_by_one n v 0 ++ drop k v) z in
      e ∙ ap (λ (ns : List ℕ). ahead_of (rest_of l ns)) (sym all)

  -- and after exactly that many
  pub stands : length v ≡ n → r ≡ ahead_of (rest_of l (one_by_one n v 0)) → r ≡ ahead_of (rest_of l v)
  stands h e =
      past (omega arith)
      (e ∙ ap (λ (ns : List ℕ). ahead_of (rest_of l ns)) (sym (append-nil (one_by_one n v 0)) ∙ ap (λ (ns : List ℕ). one_by_one n v 0 ++ ns) (sym (drop_of_length-le v (le_of_eq h)))))

-- after the end nothing stands, and after a forbidden value nothing but that
pub done-ahead : (ns : List ℕ) → Done ≡ ahead_of (rest_of done ns)
unfolding rest_of ahead_of
done-ahead [] = refl
done-ahead (n ∷ ns) = refl

pub forbidden-ahead : (ns : List ℕ) → Forbidden ≡ ahead_of (rest_of forbidden ns)
unfolding rest_of ahead_of
forbidden-ahead [] = refl
forbidden-ahead (n ∷ ns) = refl

-- the one or the other of two layouts, by a test
when-ahead : (test : Bool) (l m : Layout) (ns : List ℕ) → pick test (ahead_of (rest_of l ns)) (ahead_of (rest_of m ns)) ≡ ahead_of (rest_of (when test l m) ns)
unfolding rest_of ahead_of
when-ahead test l m [] = refl
when-ahead true l m (n ∷ ns) = refl
when-ahead false l m (n ∷ ns) = refl

module _ {test : Bool} (l m : Layout) (ns : List ℕ) {r : Ahead} where
  pub yes-ahead : test ≡ true → r ≡ ahead_of (rest_of l ns) → r ≡ ahead_of (rest_of (when test l m) ns)
  yes-ahead e h = h ∙ ap (λ (t : Bool). pick t (ahead_of (rest_of l ns)) (ahead_of (rest_of m ns))) (sym e) ∙ when-ahead test l m ns

  pub no-ahead : test ≡ false → r ≡ ahead_of (rest_of m ns) → r ≡ ahead_of (rest_of (when test l m) ns)
  no-ahead e h = h ∙ ap (λ (t : Bool). pick t (ahead_of (rest_of l ns)) (ahead_of (rest_of m ns))) (sym e) ∙ when-ahead test l m ns
