-- A judgement, answer by answer; and two judgements as one. Assumes nothing.
use Prim.Native.Nat.{ℕ, ◌+◌, ◌≤◌, ◌<◌}
use mathlib.Core.Path.{◌≡◌, refl}
use mathlib.Core.Bool.{Bool, true, false}
use native.Mathlib.Omega.{arith}
use borrow.Author.Tests.{le-leb, lt-leb}
use Rattle.common.proofs.Cases.{pick-le}
use Rattle.common.specs.Choice.{both}
use Rattle.measure.specs.Judging.{Judged, fit, judged, joined, graver}
use Rattle.std.specs.Prelude.{Ok, Err}
use Rattle.measure.specs.declared.Unfit.TheVariants.{TooLong, Oversize, Forbidden}

-- ---- that many bytes, of the room there is

-- they fit
pub fit-within : (n room : ℕ) → n ≤ room → Ok n ≡ fit n room
unfolding fit
fit-within n room h = rw (le-leb n room h)

-- they don't
pub fit-over : (n room : ℕ) → room < n → Err TooLong ≡ fit n room
unfolding fit
fit-over n room h = rw (lt-leb n room h)

-- what holds on both sides of the room holds of what fits
fit-cases : (P : Judged → Type 0) (n room : ℕ) → (n ≤ room → P (Ok n)) → (room < n → P (Err TooLong)) → P (fit n room)
unfolding fit
fit-cases P n room = pick-le P n room

-- ---- the three answers

-- what is not right is forbidden
pub judged-forbidden : {is_right : Bool} (is_sized : Bool) (n room : ℕ) → is_right ≡ false → Err Forbidden ≡ judged is_right is_sized n room
unfolding judged
judged-forbidden is_sized n room e = rw e

-- what is right and not sized is over a size
pub judged-oversize : {is_right is_sized : Bool} (n room : ℕ) → is_right ≡ true → is_sized ≡ false → Err Oversize ≡ judged is_right is_sized n room
unfolding judged
judged-oversize n room e f = rw (e, f)

-- what is both takes its bytes of the room
pub judged-fit : {is_right is_sized : Bool} {m n : ℕ} (room : ℕ) → is_right ≡ true → is_sized ≡ true → m ≡ n → fit m room ≡ judged is_right is_sized n room
unfolding judged
judged-fit room e f g = rw (e, f, g)

-- what takes that many bytes is right and sized, and is no longer than the room
pub record Taken (is_right is_sized : Bool) (n room m : ℕ) : Type 0 where
  pub is_right_lem : is_right ≡ true
  pub is-sized : is_sized ≡ true
  pub counts : m ≡ n
  pub fits : n ≤ room

pub judged-takes : (is_right is_sized : Bool) (n room : ℕ) {m : ℕ} → judged is_right is_sized n room ≡ Ok m → Taken is_right is_sized n room m
unfolding judged
judged-takes true true n room {m} =
    fit-cases (λ a. a ≡ Ok m → Taken true true n room m) n room
    (λ h e. record { is_right_lem = refl; is-sized = refl; counts = cc; fits = h })
    (λ h e. absurd (let z : ◌≡◌ {A = ℕ} 0 1 = cc in omega arith))
judged-takes true false n room = λ e. absurd (let z : ◌≡◌ {A = ℕ} 0 1 = cc in omega arith)
judged-takes false is_sized n room = λ e. absurd (let z : ◌≡◌ {A = ℕ} 0 1 = cc in omega arith)

-- what is forbidden is not right
pub judged-wrong : (is_right is_sized : Bool) (n room : ℕ) → judged is_right is_sized n room ≡ Err Forbidden → is_right ≡ false
unfolding judged
judged-wrong true true n room =
    fit-cases (λ a. a ≡ Err Forbidden → true ≡ false) n room (λ h e. cc) (λ h e. cc)
judged-wrong true false n room = λ e. cc
judged-wrong false is_sized n room = λ e. refl

-- what is over a size is right, and not sized
pub judged-great : (is_right is_sized : Bool) (n room : ℕ) → judged is_right is_sized n room ≡ Err Oversize → (is_right ≡ true) × (is_sized ≡ false)
unfolding judged
judged-great true true n room =
    fit-cases (λ a. a ≡ Err Oversize → (true ≡ true) × (true ≡ false)) n room (λ h e. (refl, cc)) (λ h e. (refl, cc))
judged-great true false n room = λ e. (refl, refl)
judged-great false is_sized n room = λ e. (cc, cc)

-- what is too long is right and sized, and is longer than the room
pub judged-long : (is_right is_sized : Bool) (n room : ℕ) → judged is_right is_sized n room ≡ Err TooLong → ((is_right ≡ true) × (is_sized ≡ true)) × (room < n)
unfolding judged
judged-long true true n room =
    fit-cases (λ a. a ≡ Err TooLong → ((true ≡ true) × (true ≡ true)) × (room < n)) n room
    (λ h e. absurd (let z : ◌≡◌ {A = ℕ} 0 1 = cc in omega arith))
    (λ h e. ((refl, refl), h))
judged-long true false n room = λ e. absurd (let z : ◌≡◌ {A = ℕ} 0 1 = cc in omega arith)
judged-long false is_sized n room = λ e. absurd (let z : ◌≡◌ {A = ℕ} 0 1 = cc in omega arith)

-- ---- TWO JUDGEMENTS JOINED are the judgement of both together

-- two sizes
fits-joined : (m n room : ℕ) → joined (fit m room) (fit n room) room ≡ fit (m + n) room
unfolding joined graver
fits-joined m n room =
    fit-cases (λ a. joined a (fit n room) room ≡ fit (m + n) room) m room
    (λ h. fit-cases (λ b. joined (Ok m) b room ≡ fit (m + n) room) n room (λ k. refl) (λ k. fit-over (m + n) room (omega arith)))
    (λ h. fit-cases (λ b. joined (Err TooLong) b room ≡ fit (m + n) room) n room (λ k. fit-over (m + n) room (omega arith)) (λ k. fit-over (m + n) room (omega arith)))

-- a size, and what is over a size;
fit-oversize : (n room : ℕ) → joined (fit n room) (Err Oversize) room ≡ Err Oversize
unfolding joined graver
fit-oversize n room = fit-cases (λ a. joined a (Err Oversize) room ≡ Err Oversize) n room (λ h. refl) (λ h. refl)

-- and what is forbidden;
fit-forbidden : (n room : ℕ) → joined (fit n room) (Err Forbidden) room ≡ Err Forbidden
unfolding joined graver
fit-forbidden n room = fit-cases (λ a. joined a (Err Forbidden) room ≡ Err Forbidden) n room (λ h. refl) (λ h. refl)

-- and what is over a size before it
oversize-fit : (n room : ℕ) → joined (Err Oversize) (fit n room) room ≡ Err Oversize
unfolding joined graver
oversize-fit n room = fit-cases (λ b. joined (Err Oversize) b room ≡ Err Oversize) n room (λ h. refl) (λ h. refl)

-- what is forbidden goes before all
forbidden-any : (b : Judged) (room : ℕ) → joined (Err Forbidden) b room ≡ Err Forbidden
unfolding joined graver
forbidden-any (Ok n) room = refl
forbidden-any (Err y) room = refl

-- what is right and sized together is so part by part
pub judged-joined : (r₁ s₁ : Bool) (n₁ : ℕ) (r₂ s₂ : Bool) (n₂ room : ℕ) → joined (judged r₁ s₁ n₁ room) (judged r₂ s₂ n₂ room) room ≡ judged (both r₁ r₂) (both s₁ s₂) (n₁ + n₂) room
unfolding judged joined graver
judged-joined true true n₁ true true n₂ room = fits-joined n₁ n₂ room
judged-joined true true n₁ true false n₂ room = fit-oversize n₁ room
judged-joined true true n₁ false s₂ n₂ room = fit-forbidden n₁ room
judged-joined true false n₁ true true n₂ room = oversize-fit n₂ room
judged-joined true false n₁ true false n₂ room = refl
judged-joined true false n₁ false s₂ n₂ room = refl
judged-joined false s₁ n₁ r₂ s₂ n₂ room = forbidden-any (judged r₂ s₂ n₂ room) room
