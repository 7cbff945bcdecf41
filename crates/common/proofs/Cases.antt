-- What holds on both sides of a test holds of what the test picks; and an answer is whole or refused, not both. Assumes nothing.
use Prim.Native.Nat.{ℕ, ◌≤◌, ◌<◌}
use mathlib.Core.Path.{◌≡◌, refl}
use mathlib.Core.Bool.{Bool, true, false}
use native.Mathlib.Omega.{arith}
use lib.Dec.{leb}
use borrow.Author.Tests.{leb-true, leb-false}
use Rattle.common.specs.Choice.{pick}
use Rattle.common.specs.Answer.{whole, refused}

pub pick-by {ℓ} : {A : Type ℓ} (P : A → Type 0) (t : Bool) {a b : A} → (t ≡ true → P a) → (t ≡ false → P b) → P (pick t a b)
pick-by P true f g = f refl
pick-by P false f g = g refl

pub pick-le {ℓ} : {A : Type ℓ} (P : A → Type 0) (m n : ℕ) {a b : A} → (m ≤ n → P a) → (n < m → P b) → P (pick (leb m n) a b)
pick-le P m n f g = pick-by P (leb m n) (λ e. f (leb-true m n e)) (λ e. g (leb-false m n e))

-- what is whole was not refused
pub apart : {A : Type 0} {a : A} {used n : ℕ} → refused n ≡ whole a used → ⊥
apart h = let z : ◌≡◌ {A = ℕ} 0 1 = cc in omega arith

-- pairs of the same parts are the same
pub both : {A B : Type 0} {p q : A × B} → p.0 ≡ q.0 → p.1 ≡ q.1 → p ≡ q
both {p = (a, b)} {q = (c, d)} e f = cc
