-- Places are ordered by group, then object, and the greater of several does not depend on the order they come in. Assumes nothing.
use Rattle.std.specs.Prelude.{Option, Some, None}
use Prim.Native.Nat.{◌≤◌, ◌<◌}
use mathlib.Core.Path.{◌≡◌, refl, sym, ap, ◌∙◌}
use mathlib.Core.Bool.{Bool, true, false}
use mathlib.Core.Logic.{◌⊎◌, inl, inr}
use native.Mathlib.Omega.{arith}
use borrow.Author.Tests.{ltb-true, ltb-false, eqb-true, eqb-false, lt-ltb, le-ltb, eq-eqb, ne_eqb}
use lib.Dec.{eqb}
use Rattle.common.proofs.Cases.{pick-by}
use Rattle.common.specs.Choice.{pick}
use Rattle.field.specs.declared.Place.{Place}
use Rattle.row.specs.Places.{before}
use Rattle.row.specs.Rows.{greater}

-- ---- what the test says

abbrev Before : Place → Place → Type 0
Before a b = (a.group < b.group) ⊎ ((a.group ≡ b.group) × (a.object < b.object))

-- the other way round, or the same place
abbrev From : Place → Place → Type 0
From a b = (b.group < a.group) ⊎ ((a.group ≡ b.group) × (b.object ≤ a.object))

module _ (a b : Place) where
  is-before : before a b ≡ true → Before a b
  unfolding before
  is-before = pick-by (λ (t : Bool). t ≡ true → Before a b) (eqb a.group b.group) (λ e o. inr (eqb-true a.group b.group e, ltb-true a.object b.object o)) (λ _ g. inl (ltb-true a.group b.group g))

  is-from : before a b ≡ false → From a b
  unfolding before
  is-from = pick-by (λ (t : Bool). t ≡ false → From a b) (eqb a.group b.group) (λ e o. inr (eqb-true a.group b.group e, ltb-false a.object b.object o)) (λ n g.
      let other = eqb-false a.group b.group n in
      let low : b.group ≤ a.group = ltb-false a.group b.group g in
      inl (omega arith))

  before-is : Before a b → before a b ≡ true
  unfolding before
  before-is (inl g) = rw (ne_eqb a.group b.group (λ e. omega arith), lt-ltb a.group b.group g)
  before-is (inr s) = rw (eq-eqb a.group b.group s.0, lt-ltb a.object b.object s.1)

  from_is : From a b → before a b ≡ false
  unfolding before
  from_is (inl g) = rw (ne_eqb a.group b.group (λ e. omega arith), le-ltb a.group b.group (omega arith))
  from_is (inr s) = rw (eq-eqb a.group b.group s.0, le-ltb a.object b.object s.1)

-- ---- the laws of an order

turned : (a b : Place) → Before a b → From b a
turned a b (inl g) = inl g
turned a b (inr s) = inr (omega arith, omega arith)

chained : (a b c : Place) → Before a b → Before b c → Before a c
chained a b c (inl g) (inl h) = inl (omega arith)
chained a b c (inl g) (inr h) = inl (omega arith)
chained a b c (inr g) (inl h) = inl (omega arith)
chained a b c (inr g) (inr h) = inr (omega arith, omega arith)

linked : (a b c : Place) → From a b → From b c → From a c
linked a b c (inl g) (inl h) = inl (omega arith)
linked a b c (inl g) (inr h) = inl (omega arith)
linked a b c (inr g) (inl h) = inl (omega arith)
linked a b c (inr g) (inr h) = inr (omega arith, omega arith)

equal : (a b : Place) → From a b → From b a → a ≡ b
equal a b (inl g) (inl h) = absurd (omega arith)
equal a b (inl g) (inr h) = absurd (omega arith)
equal a b (inr g) (inl h) = absurd (omega arith)
equal a b (inr g) (inr h) =
    let groups : a.group ≡ b.group = omega arith in
    let objects : a.object ≡ b.object = omega arith in
    λ i. record { group = groups i; object = objects i }

pub before_self : (a : Place) → before a a ≡ false
before_self a = from_is a a (inr (refl, omega arith))

module _ (a b : Place) where
  pub before-not : before a b ≡ true → before b a ≡ false
  before-not e = from_is b a (turned a b (is-before a b e))

  pub neither-before : before a b ≡ false → before b a ≡ false → a ≡ b
  neither-before e h = equal a b (is-from a b e) (is-from b a h)

  module _ (c : Place) where
    pub before-before : before a b ≡ true → before b c ≡ true → before a c ≡ true
    before-before e h = before-is a c (chained a b c (is-before a b e) (is-before b c h))

    pub not-before : before a b ≡ false → before b c ≡ false → before a c ≡ false
    not-before e h = from_is a c (linked a b c (is-from a b e) (is-from b c h))

-- ---- the greater of two, and of three

abbrev later : Place → Place → Place
later a b = pick (before a b) b a

later-comm : (a b : Place) → later a b ≡ later b a
later-comm a b =
    pick-by (λ (t : Place). t ≡ later b a) (before a b) (λ e. rw (before-not a b e)) (λ e.
    pick-by (λ (t : Place). a ≡ t) (before b a) (λ _. refl) (λ h. neither-before a b e h))

later-assoc : (a b c : Place) → later (later a b) c ≡ later a (later b c)
later-assoc a b c = go (before a b) refl (before b c) refl
  where
    go : (s : Bool) → before a b ≡ s → (t : Bool) → before b c ≡ t → later (later a b) c ≡ later a (later b c)
    go true p true q = rw (p, q, before-before a b c p q)
    go true p false q = rw (p, q, p)
    go false p true q = rw (p, q)
    go false p false q = rw (p, q, p, not-before a b c p q)

-- which of two places a row is shown first does not matter
pub greater-either : (g : Option Place) (p q : Place) → greater (Some (greater g p)) q ≡ greater (Some (greater g q)) p
unfolding greater
greater-either None p q = later-comm p q
greater-either (Some x) p q = later-assoc x p q ∙ ap (later x) (later-comm p q) ∙ sym (later-assoc x q p)
