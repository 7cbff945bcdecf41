-- A reading that is not whole. Assumes nothing.
use Prim.Native.Nat.{ℕ}
use mathlib.Core.Path.{◌≡◌, refl}
use Rattle.std.specs.Prelude.{Ok, Err}
use Rattle.message.specs.Reading.{Reading, on_whole}
use Rattle.message.specs.declared.Message.{Message}

-- "every other reading ends there"
pub not-whole : {A : Type 0} (r : Reading) (taken : Message → ℕ → A) (rest : A) → ((m : Message) (used : ℕ) → r ≡ Ok (m, used) → ⊥) → rest ≡ on_whole r rest taken
not-whole (Ok (m, used)) taken rest h = absurd (h m used refl)
not-whole (Err r) taken rest h = refl
