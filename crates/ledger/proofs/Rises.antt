-- Rows rise, and aliases are distinct, also where a row is changed, added last or taken out. Assumes nothing.
use Prim.Native.Nat.{ℕ, ◌+◌, ◌≤◌, ◌<◌}
use mathlib.Core.Path.{◌≡◌, refl, sym}
use mathlib.Core.Bool.{Bool, true, false, not}
use mathlib.Core.List.{List, [], ◌∷◌, ◌++◌}
use native.Mathlib.Omega.{arith}
use borrow.Author.Tests.{leb-true, ltb-true, le-leb, lt-ltb, eqb-false, ne_eqb, not-true}
use lib.Dec.{leb, ltb, eqb}
use Rattle.common.specs.Choice.{pick}
use Rattle.common.proofs.Cases.{pick-by}
use Rattle.common.proofs.Tests.{both_first, both-second}
use Rattle.row.specs.Rows.{unused_row, is_row, is_unused, is_pending, is_nowhere}
use Rattle.row.specs.Ranges.{is_known}
use Rattle.row.specs.declared.Row.{Row}
use Rattle.ledger.specs.Keys.{Change, gone, now, instead, turn}
use Rattle.ledger.specs.Steps.{alias_of}
use Rattle.ledger.specs.Ledgers.{rising, has_alias, distinct, all_unused}
use Rattle.ledger.proofs.Keyed.{Known}

-- ---- rows that rise, by their parts

record First (low next : ℕ) (r : Row) (rs : List Row) : Type 0 where
  above : low ≤ r.id
  below : r.id < next
  is : is_row r ≡ true
  more : rising (r.id + 1) next rs ≡ true

first : (low next : ℕ) (r : Row) (rs : List Row) → rising low next (r ∷ rs) ≡ true → First low next r rs
unfolding rising
first low next r rs e =
    let t₁ = leb low r.id in
    let t₂ = ltb r.id next in
    let e₁ = both-second t₁ _ e in
    let e₂ = both-second t₂ _ e₁ in
    record {
      above = leb-true low r.id (both_first t₁ _ e);
      below = ltb-true r.id next (both_first t₂ _ e₁);
      is = both_first (is_row r) _ e₂;
      more = both-second (is_row r) _ e₂;
    }

all : (low next : ℕ) (r : Row) (rs : List Row) → First low next r rs → rising low next (r ∷ rs) ≡ true
unfolding rising
all low next r rs w = rw (le-leb low r.id w.above, lt-ltb r.id next w.below, w.is, w.more)

-- from a lower place on they rise too
rise-lower : (low' low next : ℕ) (rs : List Row) → low' ≤ low → rising low next rs ≡ true → rising low' next rs ≡ true
unfolding rising
rise-lower low' low next [] h e = refl
rise-lower low' low next (r ∷ rs) h e =
    let w = first low next r rs e in
    all low' next r rs (record { above = omega (arith, w.above); below = w.below; is = w.is; more = w.more })

-- ---- an alias that no row has

pub has-not : (alias : ℕ) (r : Row) (rs : List Row) → has_alias alias (r ∷ rs) ≡ false → (eqb r.alias alias ≡ false) × (has_alias alias rs ≡ false)
unfolding has_alias
has-not alias r rs e = neither (eqb r.alias alias) (has_alias alias rs) e
  where
    neither : (b c : Bool) → pick b true c ≡ false → (b ≡ false) × (c ≡ false)
    neither true true e = (e, e)
    neither true false e = (e, refl)
    neither false c e = (refl, e)

-- ---- a row is turned

-- it goes, or it is a row that keeps its ID
abbrev pub StillRow : Row → Change Row → Type 0
StillRow r gone = Unit {0}
StillRow r (now next) = (next.id ≡ r.id) × (is_row r ≡ true → is_row next ≡ true)

module _ (key : Row → ℕ) (n : ℕ) (f : Row → Change Row) where
  pub rising-turn : ((r : Row) → StillRow r (f r)) → (low next : ℕ) (rs : List Row) → rising low next rs ≡ true → rising low next (turn key n f rs) ≡ true
  unfolding rising turn
  rising-turn still low next [] e = e
  rising-turn still low next (r ∷ rs) e =
      pick-by (λ (xs : List Row). rising low next xs ≡ true) (eqb (key r) n) (λ _. there (f r) (still r))
      (λ _. all low next r (turn key n f rs) (record {
        above = w.above;
        below = w.below;
        is = w.is;
        more = rising-turn still (r.id + 1) next rs w.more;
      }))
    where
      w : First low next r rs
      w = first low next r rs e

      there : (c : Change Row) → StillRow r c → rising low next (instead c rs) ≡ true
      there gone s = rise-lower low (r.id + 1) next rs (omega (arith, w.above)) w.more
      there (now x) s = rw (s.1 w.is, s.0, le-leb low r.id w.above, lt-ltb r.id next w.below, w.more)

  -- where aliases are kept, an alias that no row has is still free,
  module _ (keeps : (r : Row) → Known alias_of r (f r)) where
    pub has-turn : (alias : ℕ) (rs : List Row) → has_alias alias rs ≡ false → has_alias alias (turn key n f rs) ≡ false
    unfolding has_alias turn
    has-turn alias [] e = refl
    has-turn alias (r ∷ rs) e =
        pick-by (λ (xs : List Row). has_alias alias xs ≡ false) (eqb (key r) n) (λ _. there (f r) (keeps r)) (λ _. rw h.0 (has-turn alias rs h.1))
      where
        h : (eqb r.alias alias ≡ false) × (has_alias alias rs ≡ false)
        h = has-not alias r rs e

        there : (c : Change Row) → Known alias_of r c → has_alias alias (instead c rs) ≡ false
        there gone k = h.1
        there (now x) k = rw (k, h.0, h.1)

    -- and they are distinct
    pub distinct-turn : (rs : List Row) → distinct rs ≡ true → distinct (turn key n f rs) ≡ true
    unfolding distinct turn
    distinct-turn [] d = d
    distinct-turn (r ∷ rs) d =
        pick-by (λ (xs : List Row). distinct xs ≡ true) (eqb (key r) n) (λ _. there (f r) (keeps r))
        (λ _. rw (has-turn r.alias rs fresh, distinct-turn rs more))
      where
        more : distinct rs ≡ true
        more = both-second (not (has_alias r.alias rs)) (distinct rs) d

        fresh : has_alias r.alias rs ≡ false
        fresh = not-true (has_alias r.alias rs) (both_first (not (has_alias r.alias rs)) (distinct rs) d)

        there : (c : Change Row) → Known alias_of r c → distinct (instead c rs) ≡ true
        there gone k = more
        there (now x) k = rw (k, fresh, more)

-- ---- a row is added last

pub rising-last : (low next : ℕ) (rs : List Row) (r : Row) → rising low next rs ≡ true → low ≤ r.id → next ≤ r.id → is_row r ≡ true → rising low (r.id + 1) (rs ++ (r ∷ [])) ≡ true
unfolding rising
rising-last low next [] r e h k is = rw (le-leb low r.id h, lt-ltb r.id (r.id + 1) (omega arith), is)
rising-last low next (x ∷ rs) r e h k is =
    let w = first low next x rs e in
    all low (r.id + 1) x (rs ++ (r ∷ [])) (record {
      above = w.above;
      below = omega (arith, w.below);
      is = w.is;
      more = rising-last (x.id + 1) next rs r w.more (omega (arith, w.below)) k is;
    })

has_last : (alias : ℕ) (rs : List Row) (r : Row) → (r.alias ≡ alias → ⊥) → has_alias alias (rs ++ (r ∷ [])) ≡ has_alias alias rs
unfolding has_alias
has_last alias [] r h = rw (ne_eqb r.alias alias h)
has_last alias (x ∷ rs) r h = rw (has_last alias rs r h)

pub distinct-last : (rs : List Row) (r : Row) → distinct rs ≡ true → has_alias r.alias rs ≡ false → distinct (rs ++ (r ∷ [])) ≡ true
unfolding distinct has_alias
distinct-last [] r d h = refl
distinct-last (x ∷ rs) r d h =
    let s = has-not r.alias x rs h in
    let other : r.alias ≡ x.alias → ⊥ = λ e. eqb-false x.alias r.alias s.0 (sym e) in
    let p = not (has_alias x.alias rs) in
    rw (has_last x.alias rs r other, both_first p (distinct rs) d, distinct-last rs r (both-second p (distinct rs) d) s.1)

-- ---- unused rows

pub unused-last : (rs : List Row) → all_unused rs ≡ true → all_unused (rs ++ (unused_row ∷ [])) ≡ true
unfolding all_unused is_unused is_pending is_nowhere is_known
unused-last [] e = refl
unused-last (r ∷ rs) e =
    rw (both_first (is_unused r) (all_unused rs) e, unused-last rs (both-second (is_unused r) (all_unused rs) e))

pub unused-rest : (r : Row) (rs : List Row) → all_unused (r ∷ rs) ≡ true → all_unused rs ≡ true
unfolding all_unused
unused-rest r rs e = both-second (is_unused r) (all_unused rs) e
