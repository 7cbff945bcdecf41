-- A status stands behind the fields of an object in a datagram, so that those are the same. Assumes nothing.
use Prim.Native.Nat.{ℕ, ◌<◌}
use mathlib.Core.Path.{◌≡◌, refl}
use mathlib.Core.List.{List, [], ◌∷◌}
use native.Mathlib.Omega.{arith}
use lib.ListN.{length}
use Rattle.layout.specs.Layout.{place}
use Rattle.header.specs.Layouts.{behind, object_datagram, status, datagram_status}
use Rattle.outline.specs.Places.{rest_of, ahead_of}

pub before-status : (v : List ℕ) → length v < 5 → ahead_of (rest_of object_datagram v) ≡ ahead_of (rest_of datagram_status v)
unfolding rest_of ahead_of object_datagram datagram_status behind place status
before-status [] h = refl
before-status (a ∷ []) h = refl
before-status (a ∷ b ∷ []) h = refl
before-status (a ∷ b ∷ c ∷ []) h = refl
before-status (a ∷ b ∷ c ∷ d ∷ []) h = refl
before-status (a ∷ b ∷ c ∷ d ∷ e ∷ v) h = absurd (omega arith)
