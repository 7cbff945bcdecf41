-- What an arrival makes of a row does not depend on the arrivals before it. Assumes nothing.
use Rattle.std.specs.Prelude.{Some}
use mathlib.Core.Path.{◌≡◌, refl, sym, ap, ◌∙◌}
use mathlib.Core.Bool.{Bool, true, false, not}
use Rattle.common.specs.Choice.{pick, both}
use Rattle.field.specs.declared.Place.{Place}
use Rattle.row.proofs.Keeping.{after, arrive-by}
use Rattle.row.proofs.Ordering.{greater-either}
use Rattle.row.specs.Ranges.{in_range}
use Rattle.row.specs.Rows.{is_pending, AtRow, risen, counted_row, replying, arrive_of}
use Rattle.row.specs.declared.Row.{Row}

-- ---- what an arrival leaves as it was

module _ (p : Place) (r : Row) where
  after-state : (after p r).state ≡ r.state
  unfolding after counted_row
  after-state = arrive-by (λ (x : AtRow). x.row.state ≡ r.state) p r refl refl (λ _. refl)

  after-range : (after p r).range ≡ r.range
  unfolding after counted_row
  after-range = arrive-by (λ (x : AtRow). x.row.range ≡ r.range) p r refl refl (λ _. refl)

-- so another is answered as before,
number_is : (r : Row) (p : Place) → (arrive_of r p).number ≡ pick (is_pending r.state) 19 (pick (in_range r.range p) 16 17)
unfolding arrive_of
number_is r p = go (is_pending r.state) (in_range r.range p)
  where
    go : (s b : Bool) → (pick s (replying 19 r) (pick b (replying 16 (counted_row r p)) (replying 17 r))).number ≡ pick s 19 (pick b 16 17)
    go true b = refl
    go false true = refl
    go false false = refl

pub number-after : (p q : Place) (r : Row) → (arrive_of (after p r) q).number ≡ (arrive_of r q).number
number-after p q r =
    number_is (after p r) q ∙ rw (after-state p r, after-range p r) (sym (number_is r q))

-- ---- and either may come first

-- whether an arrival is counted in a row, and the row then
counts : Row → Place → Bool
counts r p = both (not (is_pending r.state)) (in_range r.range p)

abbrev grown : Row → Place → Bool → Row
grown r p b = pick b (counted_row r p) r

after_is : (p : Place) (r : Row) → after p r ≡ grown r p (counts r p)
unfolding after arrive_of counts
after_is p r = go (is_pending r.state) (in_range r.range p)
  where
    go : (s b : Bool) → (pick s (replying 19 r) (pick b (replying 16 (counted_row r p)) (replying 17 r))).row ≡ grown r p (both (not s) b)
    go true b = refl
    go false true = refl
    go false false = refl

counts-after : (p q : Place) (r : Row) → counts (after p r) q ≡ counts r q
unfolding counts
counts-after p q r = rw (after-state p r, after-range p r)

counted-either : (r : Row) (p q : Place) → counted_row (counted_row r p) q ≡ counted_row (counted_row r q) p
unfolding counted_row
counted-either r p q =
    ap
    (λ (x : Place). record { id = r.id; alias = r.alias; state = r.state; range = r.range; greatest = Some x; count = risen (risen r.count) })
    (greater-either r.greatest p q)

twice : (p q : Place) (r : Row) → after q (after p r) ≡ grown (grown r p (counts r p)) q (counts r q)
twice p q r = after_is q (after p r) ∙ (λ i. grown (after_is p r i) q (counts-after p q r i))

pub after-either : (p q : Place) (r : Row) → after q (after p r) ≡ after p (after q r)
after-either p q r = twice p q r ∙ go (counts r p) (counts r q) ∙ sym (twice q p r)
  where
    go : (s t : Bool) → grown (grown r p s) q t ≡ grown (grown r q t) p s
    go true true = counted-either r p q
    go true false = refl
    go false true = refl
    go false false = refl
