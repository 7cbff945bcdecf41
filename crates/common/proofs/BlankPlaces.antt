-- A list put over the front of places that all hold one item: those behind it hold it still. Assumes nothing.
use Rattle.std.proofs.Common.{ℕ, ◌≡◌, ◌≤◌, ◌-◌, ◌++◌, List, length, drop, replicate, arith}
use Rattle.std.proofs.lemmas.List.{drop-replicate, length-replicate, length-append, length-drop}
use Rattle.std.proofs.lemmas.Slice.{drop-append-drop}

module _ {A : Type 0} (ys : List A) (x : A) {k most : ℕ} (fits : k ≤ most) (front : length ys ≡ k) where
  -- they are as many as before,
  pub places : length (ys ++ drop k (replicate most x)) ≡ most
  places = omega (arith, fits, front, length-append ys (drop k (replicate most x)), length-drop k (replicate most x), length-replicate most x)

  -- and those behind are blank, where that item is
  pub blank_behind : {blank : A} → x ≡ blank → drop k (ys ++ drop k (replicate most x)) ≡ replicate (most - k) blank
  blank_behind e = rw (drop-append-drop k (replicate most x) ys k (omega arith) front, drop-replicate k most x, e)
