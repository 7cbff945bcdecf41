-- A fetch that joins a subscription, by either of its two types. Assumes nothing.
use Prim.Native.Nat.{ℕ, ◌≤◌}
use mathlib.Core.Path.{◌≡◌, refl}
use mathlib.Core.Bool.{Bool, true, false}
use mathlib.Core.List.{List}
use native.Mathlib.Omega.{arith}
use borrow.Author.Tests.{eq-eqb, eqb-false}
use lib.Dec.{eqb}
use Rattle.layout.specs.Layout.{forbidden, when}
use Rattle.types.specs.Fetches.{joining}
use Rattle.outline.specs.Places.{rest_of, ahead_of}
use Rattle.outline.specs.declared.Ahead.{Ahead}
use Rattle.outline.proofs.OneByOne.{yes-ahead, no-ahead}

module _ (type : ℕ) (ns : List ℕ) {r : Ahead} where
  by-test : (first : Bool) → eqb type 2 ≡ first → 2 ≤ type → type ≤ 3 → r ≡ ahead_of (rest_of joining ns) → r ≡ ahead_of (rest_of (when (eqb type 2) joining (when (eqb type 3) joining forbidden)) ns)
  by-test true e h k a = yes-ahead joining (when (eqb type 3) joining forbidden) ns e a
  by-test false e h k a =
      let apart = eqb-false type 2 e in
      no-ahead joining (when (eqb type 3) joining forbidden) ns e (yes-ahead joining forbidden ns (eq-eqb type 3 (omega (arith, apart))) a)

  pub either-joins : 2 ≤ type → type ≤ 3 → r ≡ ahead_of (rest_of joining ns) → r ≡ ahead_of (rest_of (when (eqb type 2) joining (when (eqb type 3) joining forbidden)) ns)
  either-joins = by-test (eqb type 2) refl
