-- What becomes of a row is a row, with the same ID and alias. Assumes nothing.
use Rattle.std.specs.Prelude.{Option, Some, None}
use Prim.Native.Nat.{ℕ, ◌≤◌}
use mathlib.Core.Path.{◌≡◌, refl}
use mathlib.Core.Bool.{Bool, true, false, not}
use native.Mathlib.Omega.{arith}
use borrow.Author.Tests.{ltb-true, ltb-false, ne_eqb}
use lib.Dec.{ltb, eqb}
use Rattle.common.proofs.Cases.{pick-by}
use Rattle.common.proofs.Tests.{both_first, both-second}
use Rattle.field.specs.declared.Place.{Place}
use Rattle.row.specs.Places.{before, small, small_place}
use Rattle.row.specs.Ranges.{in_range, is_known, small_range, latest, moved, settled_of}
use Rattle.row.specs.Rows.{top, count_agrees, suits, is_row, pending_row, greater, risen, is_pending, counted_row, AtRow, replying, arrive_of, active_row, breaks_r6, open_of}
use Rattle.row.specs.declared.State.{State}
use Rattle.row.specs.declared.State.TheVariants.{Pending, Active}
use Rattle.row.specs.declared.Range.{Range}
use Rattle.row.specs.declared.Range.TheVariants.{Unknown, Open, Closed}
use Rattle.row.specs.declared.Row.{Row}
use Rattle.row.proofs.Facts.{IsRow, row-parts, row-whole}

-- ---- a pending row

pub pending-is : (id alias : ℕ) (range : Range) → small id ≡ true → small alias ≡ true → small_range range ≡ true → is_row (pending_row id alias range) ≡ true
unfolding is_row count_agrees suits
pending-is id alias range i a s = rw (i, a, s)

-- ---- the row after an arrival

unfoldable pub after : Place → Row → Row
after place r = (arrive_of r place).row

-- what is not pending is active
is-active : (s : State) → is_pending s ≡ false → s ≡ Active
unfolding is_pending
is-active Pending e = absurd (let z : ◌≡◌ {A = ℕ} 0 1 = cc in omega arith)
is-active Active e = refl

-- it waits, it is outside, or it is counted at an active row
pub arrive-by : (P : AtRow → Type 0) (place : Place) (r : Row) → P (replying 19 r) → P (replying 17 r) → (r.state ≡ Active → P (replying 16 (counted_row r place))) → P (arrive_of r place)
unfolding arrive_of
arrive-by P place r waits misses counts =
    pick-by P (is_pending r.state) (λ _. waits) (λ e.
    pick-by P (in_range r.range place) (λ _. counts (is-active r.state e)) (λ _. misses))

-- so nothing changes, or it is counted
after-by : (P : Row → Type 0) (place : Place) (r : Row) → P r → (r.state ≡ Active → P (counted_row r place)) → P (after place r)
unfolding after
after-by P place r same counted = arrive-by (λ (x : AtRow). P x.row) place r same same counted

pub after-id : (place : Place) (r : Row) → (after place r).id ≡ r.id
unfolding counted_row
after-id place r = after-by (λ (x : Row). x.id ≡ r.id) place r refl (λ _. refl)

pub after-alias : (place : Place) (r : Row) → (after place r).alias ≡ r.alias
unfolding counted_row
after-alias place r = after-by (λ (x : Row). x.alias ≡ r.alias) place r refl (λ _. refl)

risen-most : (n : ℕ) → n ≤ top → risen n ≤ top
unfolding risen
risen-most n h = pick-by (λ (k : ℕ). k ≤ top) (ltb n top) (λ e. omega (arith, ltb-true n top e)) (λ _. h)

risen-some : (n : ℕ) → risen n ≡ 0 → ⊥
unfolding risen
risen-some n = pick-by (λ (k : ℕ). k ≡ 0 → ⊥) (ltb n top) (λ _ z. omega arith) (λ e z. omega (arith, ltb-false n top e))

greater-small : (g : Option Place) (n : ℕ) (place : Place) → count_agrees g n ≡ true → small_place place ≡ true → small_place (greater g place) ≡ true
unfolding greater count_agrees
greater-small None n place a s = s
greater-small (Some held) n place a s =
    pick-by (λ (p : Place). small_place p ≡ true) (before held place) (λ _. s) (λ _. both-second (not (eqb n 0)) (small_place held) a)

counted_is : (place : Place) (r : Row) → small_place place ≡ true → IsRow r → r.state ≡ Active → IsRow (counted_row r place)
unfolding counted_row count_agrees suits
counted_is place r s w e =
    record {
      id = w.id;
      alias = w.alias;
      count = risen-most r.count w.count;
      range = w.range;
      agrees = rw (ne_eqb (risen r.count) 0 (risen-some r.count)) (greater-small r.greatest r.count place w.agrees s);
      suited = rw e (rw e at w.suited);
    }

pub after_is : (place : Place) (r : Row) → small_place place ≡ true → is_row r ≡ true → is_row (after place r) ≡ true
after_is place r s w =
    after-by (λ (x : Row). is_row x ≡ true) place r w
    (λ e. row-whole (counted_row r place) (counted_is place r s (row-parts r w) e))

-- ---- the row after a SUBSCRIBE_OK

unfoldable pub opened : Option Place → Row → Row
opened content r = (open_of r content).row

-- a rule is broken, or a pending row is active now
pub open_by : (P : AtRow → Type 0) (content : Option Place) (r : Row) → P (breaks_r6 r) → P (replying 8 (active_row r (settled_of r.range content))) → P (open_of r content)
unfolding open_of
open_by P content r refused active = pick-by P (is_pending r.state) (λ _. active) (λ _. refused)

-- so nothing changes, or it is active
opened-by : (P : Row → Type 0) (content : Option Place) (r : Row) → P r → P (active_row r (settled_of r.range content)) → P (opened content r)
unfolding opened
opened-by P content r same active = open_by (λ (x : AtRow). P x.row) content r same active

pub opened-id : (content : Option Place) (r : Row) → (opened content r).id ≡ r.id
opened-id content r = opened-by (λ (x : Row). x.id ≡ r.id) content r refl refl

pub opened-alias : (content : Option Place) (r : Row) → (opened content r).alias ≡ r.alias
opened-alias content r = opened-by (λ (x : Row). x.alias ≡ r.alias) content r refl refl

-- no number of a content is above the greatest integer
abbrev pub small_content : Option Place → Bool
small_content None = true
small_content (Some place) = small_place place

latest-small : (content : Option Place) → small_content content ≡ true → small_place (latest content) ≡ true
unfolding small_place small
latest-small None s = refl
latest-small (Some place) s = s

moved-small : (start : Place) (content : Option Place) → small_place start ≡ true → small_content content ≡ true → small_place (moved start content) ≡ true
moved-small start None a s = a
moved-small start (Some place) a s =
    pick-by (λ (p : Place). small_place p ≡ true) (ltb start.group place.group) (λ _. s) (λ _. a)

settled-small : (range : Range) (content : Option Place) → small_range range ≡ true → small_content content ≡ true → small_range (settled_of range content) ≡ true
unfolding small_range settled_of
settled-small Unknown content a s = latest-small content s
settled-small (Open start) content a s = moved-small start content a s
settled-small (Closed start last) content a s =
    rw (moved-small start content (both_first (small_place start) (small last) a) s) (both-second (small_place start) (small last) a)

settled-known : (range : Range) (content : Option Place) → is_known (settled_of range content) ≡ true
unfolding settled_of is_known
settled-known Unknown content = refl
settled-known (Open start) content = refl
settled-known (Closed start last) content = refl

active-is : (content : Option Place) (r : Row) → small_content content ≡ true → IsRow r → IsRow (active_row r (settled_of r.range content))
unfolding suits
active-is content r s w =
    record {
      id = w.id;
      alias = w.alias;
      count = w.count;
      range = settled-small r.range content w.range s;
      agrees = w.agrees;
      suited = settled-known r.range content;
    }

pub opened-is : (content : Option Place) (r : Row) → small_content content ≡ true → is_row r ≡ true → is_row (opened content r) ≡ true
opened-is content r s w =
    opened-by (λ (x : Row). is_row x ≡ true) content r w
    (row-whole (active_row r (settled_of r.range content)) (active-is content r s (row-parts r w)))
