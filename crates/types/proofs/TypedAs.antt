-- A message by what it is known to be, where the number of its type was looked up. Assumes nothing.
use Prim.Native.Nat.{ℕ}
use mathlib.Core.Path.{◌≡◌, sym, ◌∙◌}
use Rattle.layout.specs.Typed.{Typed}

-- what is made of that number and of its fields is made of the message
pub typed-of : {M F : Type 0} (typed_of : M → Typed) (make : Typed → F) {m v : M} {type : ℕ} {f : F} → m ≡ v → type ≡ (typed_of m).type
    → f ≡ make (record { type = type; pieces = (typed_of v).pieces }) → f ≡ make (typed_of m)
typed-of typed_of make {m} {v} e n h = h ∙ rw (n, sym e)
