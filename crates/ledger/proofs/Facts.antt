-- What a ledger is, as facts. Assumes nothing.
use Prim.Native.Nat.{ℕ, ◌+◌, ◌≤◌}
use mathlib.Core.Path.{◌≡◌}
use mathlib.Core.Bool.{true}
use native.Mathlib.Omega.{arith}
use borrow.Author.Tests.{leb-true, eqb-true, le-leb, eq-eqb}
use lib.Dec.{leb, eqb}
use lib.ListN.{length, drop}
use Rattle.common.proofs.Tests.{both_first, both-second}
use Rattle.integer.specs.Integer.{greatest}
use Rattle.row.specs.Places.{small}
use Rattle.ledger.specs.Ledgers.{most_rows, held, rising, distinct, all_unused, bounded, is_ledger}
use Rattle.ledger.specs.declared.Ledger.{Ledger}

-- the numbers beside the rows
pub record Bounds (capacity used maximum next : ℕ) : Type 0 where
  pub some : 1 ≤ capacity
  pub few : capacity ≤ most_rows
  pub room : used ≤ capacity
  pub least : small maximum ≡ true
  pub most : next ≤ greatest + 1

abbrev pub Within : Ledger → Type 0
Within l = Bounds l.capacity l.used l.maximum l.next

pub bounds : (l : Ledger) → bounded l ≡ true → Within l
unfolding bounded
bounds l e =
    let t₁ = leb 1 l.capacity in
    let t₂ = leb l.capacity most_rows in
    let t₃ = leb l.used l.capacity in
    let t₄ = small l.maximum in
    let e₁ = both-second t₁ _ e in
    let e₂ = both-second t₂ _ e₁ in
    let e₃ = both-second t₃ _ e₂ in
    record {
      some = leb-true 1 l.capacity (both_first t₁ _ e);
      few = leb-true l.capacity most_rows (both_first t₂ _ e₁);
      room = leb-true l.used l.capacity (both_first t₃ _ e₂);
      least = both_first t₄ _ e₃;
      most = leb-true l.next (greatest + 1) (both-second t₄ _ e₃);
    }

pub bounded-by : (l : Ledger) → Within l → bounded l ≡ true
unfolding bounded
bounded-by l b =
    rw
    (le-leb 1 l.capacity b.some, le-leb l.capacity most_rows b.few, le-leb l.used l.capacity b.room, b.least, le-leb l.next (greatest + 1) b.most)

-- a ledger, by its parts
pub record IsLedger (l : Ledger) : Type 0 where
  pub long : length l.rows ≡ most_rows
  pub within : Within l
  pub rises : rising 0 l.next (held l) ≡ true
  pub apart : distinct (held l) ≡ true
  pub rest : all_unused (drop l.used l.rows) ≡ true

pub parts : (l : Ledger) → is_ledger l ≡ true → IsLedger l
unfolding is_ledger
parts l e =
    let t₁ = eqb (length l.rows) most_rows in
    let t₂ = bounded l in
    let t₃ = rising 0 l.next (held l) in
    let t₄ = distinct (held l) in
    let e₁ = both-second t₁ _ e in
    let e₂ = both-second t₂ _ e₁ in
    let e₃ = both-second t₃ _ e₂ in
    record {
      long = eqb-true (length l.rows) most_rows (both_first t₁ _ e);
      within = bounds l (both_first t₂ _ e₁);
      rises = both_first t₃ _ e₂;
      apart = both_first t₄ _ e₃;
      rest = both-second t₄ _ e₃;
    }

pub whole : (l : Ledger) → IsLedger l → is_ledger l ≡ true
unfolding is_ledger
whole l w = rw (eq-eqb (length l.rows) most_rows w.long, bounded-by l w.within, w.rises, w.apart, w.rest)

-- so there are no more rows in use than places
pub few-used : (l : Ledger) → bounded l ≡ true → l.used ≤ most_rows
few-used l e = let b = bounds l e in omega (arith, b.few, b.room)

pub ledger-used : (l : Ledger) → is_ledger l ≡ true → l.used ≤ most_rows
ledger-used l e = let b = (parts l e).within in omega (arith, b.few, b.room)
