-- A ledger's own numbers and others, compared one by one. Assumes nothing.
use Prim.Native.Nat.{ℕ, zero, suc, ◌+◌, ◌<◌}
use mathlib.Core.Path.{◌≡◌, refl, sym, ap, ◌∙◌}
use mathlib.Core.Bool.{Bool, true, false, ◌&&◌}
use lib.Pointwise.{pointwise}
use mathlib.Core.List.{List, [], ◌∷◌, append-nil}
use native.Mathlib.Nat.{not-suc-le-zero}
use native.Mathlib.Omega.{arith}
use lib.ListN.{length, take, replicate, length-take, drop_of_length-le}
use lib.Dec.{eqb}
use Rattle.common.specs.Choice.{both}
use Rattle.common.specs.Buffer.{Put}
use Rattle.ledger.specs.Ledgers.{most_rows}
use Rattle.ledger.specs.declared.Ledger.{Ledger}
use Rattle.ledger_numbers.specs.Numbers.{own_numbers, row_numbers, ledger_numbers, numbers_of}
use Rattle.ledger_numbers.specs.Naming.{rows_named, ledger_named, are_same, no_ledger, unpack_of}
use Rattle.ledger_numbers.proofs.Storing.{numbers-length}

-- two slices that are equal element by element
pub same-slices : (ms ns : List ℕ) → pointwise eqb ms ns ≡ are_same ms ns
unfolding are_same
same-slices [] [] = refl
same-slices [] (n ∷ ns) = refl
same-slices (m ∷ ms) [] = refl
same-slices (m ∷ ms) (n ∷ ns) = rw (same-slices ms ns) (go (eqb m n) (are_same ms ns))
  where
    go : (b c : Bool) → (b && c) ≡ both b c
    go true c = refl
    go false c = refl

-- ---- what was put into an array that has no more room is all that it holds

module _ (l : Ledger) (places : length l.rows ≡ most_rows) {own : List ℕ} {n : ℕ} (p : Put (numbers_of l) (replicate ledger_numbers 0) n own) where
  pub own_is : own ≡ numbers_of l
  own_is =
      let zeros : List ℕ = replicate ledger_numbers 0 in
      p.holds ∙ rw (drop_of_length-le zeros {i = length (numbers_of l)} (omega (arith, numbers-length l places)), append-nil)

-- ---- the ledger that is unpacked

pub rows-in-length : (n : ℕ) (ns : List ℕ) (at : ℕ) → length (rows_named n ns at) ≡ n
unfolding rows_named
rows-in-length zero ns at = refl
rows-in-length (suc n) ns at = ap suc (rows-in-length n ns (at + row_numbers))

-- what numbers name has as many as a ledger
pub named-length : (ns : List ℕ) → length (numbers_of (ledger_named ns)) ≡ ledger_numbers
unfolding ledger_named
named-length ns = numbers-length (ledger_named ns) (rows-in-length most_rows ns own_numbers)

-- of two lists one is longer
differ : (a b : List ℕ) → length b < length a → are_same a b ≡ false
unfolding are_same
differ [] b h = absurd (not-suc-le-zero h)
differ (x ∷ a) [] h = refl
differ (x ∷ a) (y ∷ b) h = rw (differ a b (omega arith)) (never (eqb x y))
  where
    never : (t : Bool) → both t false ≡ false
    never true = refl
    never false = refl

-- too few numbers are none of a ledger
pub unpack-few : (ns : List ℕ) → length ns < ledger_numbers → unpack_of ns ≡ no_ledger
unfolding unpack_of
unpack-few ns h =
    rw (differ (numbers_of (ledger_named ns)) (take ledger_numbers ns) (rw length-take (omega (arith, named-length ns))))

module _ (ns : List ℕ) {l : Ledger} {r : Bool} (e : l ≡ ledger_named ns) (f : r ≡ are_same (numbers_of l) (take ledger_numbers ns)) where
  -- numbers that are those of what they name, and others
  pub unpack-same : r ≡ true → l ≡ unpack_of ns
  unfolding unpack_of
  unpack-same t =
      let g : are_same (numbers_of (ledger_named ns)) (take ledger_numbers ns) ≡ true = rw (← e) (sym f ∙ t) in
      e ∙ rw g

  pub unpack-other : r ≡ false → unpack_of ns ≡ no_ledger
  unfolding unpack_of
  unpack-other t =
      let g : are_same (numbers_of (ledger_named ns)) (take ledger_numbers ns) ≡ false = rw (← e) (sym f ∙ t) in
      rw g
