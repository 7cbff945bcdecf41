-- For every layout: where a reading is cut, more bytes could still decide. Assumes nothing.
use Prim.Native.Nat.{ℕ}
use mathlib.Core.Path.{◌≡◌}
use mathlib.Core.List.{List, ◌++◌}
use native.Mathlib.Omega.{arith}
use lib.ListN.{replicate}
use Rattle.field.specs.Outcome.{no}
use Rattle.field.specs.declared.Fault.TheVariants.{Cut}
use Rattle.field.proofs.Stable.{field-stays}
use Rattle.field.proofs.Cuts.{Decided, found-decided, refused-decided, pick-decided, then-decided, field-decided}
use Rattle.layout.specs.Layout.{Layout, done, forbidden, field, when, control, scan}
use Rattle.layout.proofs.Stable.{stays}

-- how many bytes decide a reading by a layout: those of its first field, and after them those of what follows it
decided : (l : Layout) (at : ℕ) (s : List ℕ) → Decided (λ u. scan l u at) s
unfolding scan
decided done at s = found-decided s
decided forbidden at s = refused-decided (λ h. let z : ◌≡◌ {A = ℕ} 0 1 = cc in omega arith) s
decided (field name form next) at s =
    then-decided (λ s t. field-stays s t form at) (field-decided form at)
    (λ p end. then-decided (λ s t. stays (next (control p)) s t end) (decided (next (control p)) end) (λ ps last. found-decided))
    s
decided (when test l m) at s = pick-decided test (decided l at s) (decided m at s)

-- Whatever the bytes are, with that many zeros after them a reading is not cut:
pub zeros-decide : (l : Layout) (s : List ℕ) (at : ℕ) → (n : ℕ) × (scan l (s ++ replicate n 0) at ≡ no Cut → ⊥)
zeros-decide l s at = let d = decided l at s in (d.more, d.decides)

-- so where it is cut, there are bytes that could still decide it.
pub more-decides : (l : Layout) (s : List ℕ) (at : ℕ) → (t : List ℕ) × (scan l (s ++ t) at ≡ no Cut → ⊥)
more-decides l s at = let d = zeros-decide l s at in (replicate d.0 0, d.1)
