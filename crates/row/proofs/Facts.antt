-- What a row is, as facts. Assumes nothing.
use Prim.Native.Nat.{◌≤◌}
use mathlib.Core.Path.{◌≡◌}
use mathlib.Core.Bool.{true}
use borrow.Author.Tests.{leb-true, le-leb}
use lib.Dec.{leb}
use Rattle.common.proofs.Tests.{both_first, both-second}
use Rattle.row.specs.Places.{small}
use Rattle.row.specs.Ranges.{small_range}
use Rattle.row.specs.Rows.{top, count_agrees, suits, is_row}
use Rattle.row.specs.declared.Row.{Row}

pub record IsRow (r : Row) : Type 0 where
  pub id : small r.id ≡ true
  pub alias : small r.alias ≡ true
  pub count : r.count ≤ top
  pub range : small_range r.range ≡ true
  pub agrees : count_agrees r.greatest r.count ≡ true
  pub suited : suits r.state r.range r.count ≡ true

pub row-parts : (r : Row) → is_row r ≡ true → IsRow r
unfolding is_row
row-parts r e =
    let t₁ = small r.id in
    let t₂ = small r.alias in
    let t₃ = leb r.count top in
    let t₄ = small_range r.range in
    let t₅ = count_agrees r.greatest r.count in
    let e₁ = both-second t₁ _ e in
    let e₂ = both-second t₂ _ e₁ in
    let e₃ = both-second t₃ _ e₂ in
    let e₄ = both-second t₄ _ e₃ in
    record {
      id = both_first t₁ _ e;
      alias = both_first t₂ _ e₁;
      count = leb-true r.count top (both_first t₃ _ e₂);
      range = both_first t₄ _ e₃;
      agrees = both_first t₅ _ e₄;
      suited = both-second t₅ _ e₄;
    }

pub row-whole : (r : Row) → IsRow r → is_row r ≡ true
unfolding is_row
row-whole r w = rw (w.id, w.alias, le-leb r.count top w.count, w.range, w.agrees, w.suited)
