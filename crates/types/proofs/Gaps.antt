-- Numbers that stand in no row of the table: those of a gap, and one that was compared with every number that stands there.
-- Assumes nothing.
use Prim.Native.Nat.{ℕ, ◌≤◌}
use mathlib.Core.Path.{◌≡◌, refl, sym, ap, ◌∙◌}
use mathlib.Core.Bool.{Bool, true, false}
use mathlib.Core.List.{List, [], ◌∷◌}
use native.Mathlib.Nat.{le_refl}
use native.Mathlib.Omega.{arith}
use borrow.Author.Tests.{eqb-true, ne_eqb, le-leb}
use lib.Dec.{leb, eqb}
use Rattle.common.specs.Choice.{pick, both}
use Rattle.common.proofs.Cases.{pick-by}
use Rattle.layout.specs.Layout.{forbidden}
use Rattle.types.specs.Table.{TypeRow, InTable, unlisted, type_row_in, messages, type_row_of, known, layout_of, name_of}

-- ---- a test that no row passes

-- whether no row's number passes a test
abbrev pub none : (ℕ → Bool) → List TypeRow → Bool
none test [] = true
none test (r ∷ rs) = pick (test r.number) false (none test rs)

-- then a number that passes it stands in no row
unlisted-by : (test : ℕ → Bool) (rows : List TypeRow) (type : ℕ) → none test rows ≡ true → test type ≡ true → type_row_in rows type ≡ unlisted
unfolding type_row_in
unlisted-by test [] type h t = refl
unlisted-by test (r ∷ rs) type h t =
    pick-by (λ (b : Bool). b ≡ true → type_row_in (r ∷ rs) type ≡ unlisted) (test r.number)
    (λ e k. absurd (apart k))
    (λ e k. pick-by (λ (l : InTable). l ≡ unlisted) (eqb type r.number)
    (λ same. absurd (apart (sym e ∙ ap test (sym (eqb-true type r.number same)) ∙ t)))
    (λ other. unlisted-by test rs type k t))
    h
  where
    apart : false ≡ true → ⊥
    apart e = let z : ◌≡◌ {A = ℕ} 0 1 = cc in omega arith

module _ (test : ℕ → Bool) (h : none test messages ≡ true) {type : ℕ} (t : test type ≡ true) where
  stands-nowhere : type_row_of type ≡ unlisted
  unfolding type_row_of
  stands-nowhere = unlisted-by test messages type h t

  -- it is not known,
  pub unknown-by : known type ≡ false
  unfolding known
  unknown-by = rw stands-nowhere

  -- has no name,
  pub nameless-by : name_of type ≡ []
  unfolding name_of
  nameless-by = rw stands-nowhere

  -- and no layout
  layoutless-by : layout_of type ≡ forbidden
  unfolding layout_of
  layoutless-by = rw stands-nowhere

-- ---- "gaps between them and numbers beyond the last"

-- from one number to another where no row's lies between them,
gap : (low high : ℕ) → none (λ n. both (leb low n) (leb n high)) messages ≡ true → {type : ℕ} → low ≤ type → type ≤ high → known type ≡ false
gap low high h {type} a b =
    unknown-by (λ n. both (leb low n) (leb n high)) h (rw (le-leb low type a, le-leb type high b))

pub below-the-first : {type : ℕ} → type ≤ 0x1 → known type ≡ false
unfolding messages
below-the-first h = gap 0x0 0x1 refl (omega arith) h

pub the-short-gap : known 0xF ≡ false
unfolding messages
the-short-gap = gap 0xF 0xF refl (le_refl 0xF) (le_refl 0xF)

pub the-long-gap : {type : ℕ} → 0x1B ≤ type → type ≤ 0x3F → known type ≡ false
unfolding messages
the-long-gap = gap 0x1B 0x3F refl

-- and from one on where no row's is greater
pub beyond-the-last : {type : ℕ} → 0x42 ≤ type → known type ≡ false
unfolding messages
beyond-the-last {type} h = unknown-by (leb 0x42) refl (le-leb 0x42 type h)

-- ---- a number that was compared with others

-- one after the other, and is none of them
abbrev pub Missed : Type 0 → List ℕ → ℕ → Type 0
Missed N [] type = N
Missed N (n ∷ ns) type = Missed (N × (type ≡ n → ⊥)) ns type

-- whether a number is none of these
abbrev pub is_none : List ℕ → ℕ → Bool
is_none [] type = true
is_none (n ∷ ns) type = pick (eqb type n) false (is_none ns type)

missed_by : (N : Type 0) (ns : List ℕ) (type : ℕ) → Missed N ns type → N × (is_none ns type ≡ true)
missed_by N [] type m = (m, refl)
missed_by N (n ∷ ns) type m =
    let r = missed_by (N × (type ≡ n → ⊥)) ns type m in
    (r.0.0, rw (ne_eqb type n r.0.1) r.1)

-- where these are all that stand in rows,
module _ (ns : List ℕ) (h : none (is_none ns) messages ≡ true) (type : ℕ) (m : Missed (Unit {0}) ns type) where
  passed : is_none ns type ≡ true
  passed = (missed_by (Unit {0}) ns type m).1

  -- it is not known,
  pub unknown-missed : known type ≡ false
  unknown-missed = unknown-by (is_none ns) h passed

  -- has no name,
  pub nameless-missed : name_of type ≡ []
  nameless-missed = nameless-by (is_none ns) h passed

  -- and no layout
  pub layoutless-missed : layout_of type ≡ forbidden
  layoutless-missed = layoutless-by (is_none ns) h passed
