-- What comes of what was found, as an answer: in several steps, behind a test. And two things that go the same way.
-- Assumes nothing.
use Prim.Native.Nat.{ℕ}
use mathlib.Core.Path.{◌≡◌, refl}
use mathlib.Core.Bool.{Bool, true, false}
use Rattle.common.specs.Choice.{guard}
use Rattle.common.specs.Answer.{Answer, Nothing, refused}
use Rattle.field.specs.Outcome.{Outcome, whole, no, and_then, on_found, fault_number}
use Rattle.field.specs.declared.Fault.{Fault}

-- what a finding and its end are answered by; a refusal, by the answer for a cut field
abbrev pub after : {A : Type 0} → ℕ → Outcome A → (A → ℕ → Answer Nothing) → Answer Nothing
after cut (whole a end) f = f a end
after cut (no fault) f = refused (fault_number cut fault)

module _ (cut : ℕ) where
  -- two steps are the first, and after it the second
  pub after_then : {A B : Type 0} (o : Outcome A) (f : A → ℕ → Outcome B) (g : B → ℕ → Answer Nothing) → after cut (and_then o f) g ≡ after cut o (λ a end. after cut (f a end) g)
  after_then (whole a end) f g = refl
  after_then (no fault) f g = refl

  -- a test that refuses stands before what follows
  pub after-guard : {A : Type 0} (t : Bool) (fault : Fault) (o : Outcome A) (g : A → ℕ → Answer Nothing) → after cut (guard t (no fault) o) g ≡ guard t (refused (fault_number cut fault)) (after cut o g)
  after-guard true fault o g = refl
  after-guard false fault o g = refl

  -- what follows alike is answered alike
  pub after-alike : {A : Type 0} (o : Outcome A) {f g : A → ℕ → Answer Nothing} → ((a : A) (end : ℕ) → o ≡ whole a end → f a end ≡ g a end) → after cut o f ≡ after cut o g
  after-alike (whole a end) h = h a end refl
  after-alike (no fault) h = refl

-- ---- two things that go the same way: what holds of both on each side holds of them

module _ {A B : Type 0} (P : A → B → Type 0) where
  -- where a number is found, or is not;
  pub found-both : (o : Outcome ℕ) (a : A) (f : ℕ → ℕ → A) (b : B) (g : ℕ → ℕ → B) → P a b → ((n end : ℕ) → o ≡ whole n end → P (f n end) (g n end)) → P (on_found o a f) (on_found o b g)
  found-both (whole n end) a f b g h k = k n end refl
  found-both (no fault) a f b g h k = h

  -- where a test holds, or does not
  pub guard-both : (t : Bool) (a c : A) (b d : B) → P a b → (t ≡ true → P c d) → P (guard t a c) (guard t b d)
  guard-both true a c b d h k = k refl
  guard-both false a c b d h k = h
