-- What `array::from_fn` makes by a closure that changes nothing: at each place, what the closure gives there. Assumes nothing.
use Rattle.std.specs.Array.{IsFromFnResultFrom, IsElementAt}
use Prim.Native.Nat.{ℕ, zero, suc, ◌+◌, ◌≤◌, ◌<◌}
use mathlib.Core.Path.{◌≡◌, refl, subst, ◌∙◌}
use mathlib.Core.Bool.{Bool, true, false}
use mathlib.Core.List.{List}
use native.Mathlib.Omega.{arith}
use borrow.Author.Tests.{eqb-true, eqb-false}
use denote.Param.Members.{Mut, Called}
use lib.Dec.{eqb}
use lib.ListN.{get_or}

module _ {F B : Type 0} {g : Mut F (ℕ × Unit {0}) B} (v : ℕ → B) (f : F) (ys : List B) (same : (j : ℕ) (y : B) (q : F) → Called g f (j, tt) y q → (q ≡ f) × (y ≡ v j)) where
  pub from_calls : (i n : ℕ) → IsFromFnResultFrom g f ys i n → (k : ℕ) (d : B) → i ≤ k → k < i + n → get_or ys k d ≡ v k
  from_calls i zero calls k d h l = absurd (omega arith)
  from_calls i (suc n) (q, y, at, call, rest) k d h l =
      let e = same i y q call in
      let more : IsFromFnResultFrom g f ys (i + 1) n = subst (λ (p : F). IsFromFnResultFrom g p ys (i + 1) n) e.0 rest in
      go (eqb i k) refl (e.1) at (λ (w : i < k). from_calls (i + 1) n more k d (omega arith) (omega arith))
    where
      go : (b : Bool) → eqb i k ≡ b → y ≡ v i → IsElementAt ys i y → (i < k → get_or ys k d ≡ v k) → get_or ys k d ≡ v k
      go true t made here later =
          let z : i ≡ k = eqb-true i k t in
          subst (λ (m : ℕ). get_or ys m d ≡ v m) z (here.1 d ∙ made)
      go false t made here later = let z = eqb-false i k t in later (omega arith)
