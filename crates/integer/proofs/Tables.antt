-- What the test of an edition's table shows of each form in it, and of the first that some other test takes. Assumes nothing.
use Prim.Native.Nat.{ℕ, suc, ◌-◌, ◌*◌, ◌≤◌, ◌<◌}
use mathlib.Core.Path.{◌≡◌}
use mathlib.Core.Bool.{Bool, true, false}
use mathlib.Core.List.{[], ◌∷◌}
use native.Mathlib.Nat.{le_refl}
use native.Mathlib.Omega.{arith}
use lib.Dec.{T, leb, ltb, eqb, leb→le, eqb→eq}
use Rattle.common.specs.Choice.{both}
use Rattle.common.proofs.Cases.{pick-by}
use Rattle.integer.specs.Edition.{Form, Edition, no_form, room_of, lead_of, lead_end, last_of, longest_form, agree, follows, in_order, first_of}

-- ---- what the test shows

-- of a form that follows another, whose first bytes ended at from
pub record Following (from : ℕ) (before form : Form) : Type 0 where
  pub longer : before.bytes < form.bytes
  pub more : before.greatest < form.greatest
  pub lead : from ≡ lead_of form
  pub top : suc form.greatest ≡ room_of form
  pub full : 8 * (form.bytes - 1) ≤ form.bits

pub data Ordered : ℕ → Form → Edition → Type 0 where
  end : {before : Form} → Ordered 256 before []
  next : {from : ℕ} {before form : Form} {forms : Edition} → Following from before form → Ordered (lead_end form) form forms → Ordered from before (form ∷ forms)

both_hold : (a b : Bool) → T (both a b) → T a × T b
both_hold true b t = (tt, t)
both_hold false b t = absurd t

pub ordered : (from : ℕ) (before : Form) (edition : Edition) → T (in_order from before edition) → Ordered from before edition
ordered from before [] t = rw (eqb→eq from 256 t) end
ordered from before (form ∷ forms) t =
    let r = both_hold (follows from before form) _ t in
    let s = both_hold (agree form) (in_order (lead_end form) form forms) r.1 in
    let l = both_hold (ltb before.bytes form.bytes) _ r.0 in
    let m = both_hold (ltb before.greatest form.greatest) (eqb from (lead_of form)) l.1 in
    let c = both_hold (eqb (suc form.greatest) (room_of form)) (leb (8 * (form.bytes - 1)) form.bits) s.0 in
    next
    (record { longer = leb→le _ _ l.0; more = leb→le _ _ m.0; lead = eqb→eq _ _ m.1; top = eqb→eq _ _ c.0; full = leb→le _ _ c.1 })
    (ordered (lead_end form) form forms s.1)

-- first bytes end where bytes do
reach : {from : ℕ} {before : Form} {edition : Edition} → Ordered from before edition → from ≤ 256
reach end = le_refl 256
reach (next n o) = omega (arith, n.lead, reach o)

-- the last form is the longest, and holds the most
rising : {from : ℕ} {before : Form} {edition : Edition} → Ordered from before edition → (before.bytes ≤ (last_of before edition).bytes) × (before.greatest ≤ (last_of before edition).greatest)
rising {before = b} end = (le_refl b.bytes, le_refl b.greatest)
rising (next n o) = let r = rising o in (omega (arith, n.longer, r.0), omega (arith, n.more, r.1))

-- ---- each form of a table

pub data In (form : Form) : Edition → Type 0 where
  here : {forms : Edition} → In form (form ∷ forms)
  there : {other : Form} {forms : Edition} → In form forms → In form (other ∷ forms)

-- what is so of each is so of any
pub data Each (P : Form → Type 0) : Edition → Type 0 where
  no_more : Each P []
  and : {form : Form} {forms : Edition} → P form → Each P forms → Each P (form ∷ forms)

pub any : {P : Form → Type 0} {form : Form} {edition : Edition} → In form edition → Each P edition → P form
any here (and p all) = p
any (there i) (and p all) = any i all

-- of a form that stands anywhere after another, whose first bytes ended at from
pub record Behind (from : ℕ) (before form : Form) : Type 0 where
  pub longer : before.bytes < form.bytes
  pub more : before.greatest < form.greatest
  pub lead : from ≤ lead_of form
  pub within : lead_end form ≤ 256
  pub top : suc form.greatest ≡ room_of form
  pub full : 8 * (form.bytes - 1) ≤ form.bits

pub behind : {from : ℕ} {before form : Form} {edition : Edition} → Ordered from before edition → In form edition → Behind from before form
behind (end) i = elim i [ ]
behind (next n o) here =
    record { longer = n.longer; more = n.more; lead = omega (arith, n.lead); within = reach o; top = n.top; full = n.full }
behind (next n o) (there i) =
    let b = behind o i in
    record {
      longer = omega (arith, n.longer, b.longer);
      more = omega (arith, n.more, b.more);
      lead = omega (arith, n.lead, b.lead);
      within = b.within;
      top = b.top;
      full = b.full;
    }

pub up-to-last : {from : ℕ} {before form : Form} {edition : Edition} → Ordered from before edition → In form edition → (form.bytes ≤ (last_of before edition).bytes) × (form.greatest ≤ (last_of before edition).greatest)
up-to-last (end) i = elim i [ ]
up-to-last (next n o) here = rising o
up-to-last (next n o) (there i) = up-to-last o i

last-in : (form : Form) (forms : Edition) → In (last_of form forms) (form ∷ forms)
last-in form [] = here
last-in form (other ∷ forms) = there (last-in other forms)

pub longest-in : {edition : Edition} → Ordered 0 no_form edition → In (longest_form edition) edition
longest-in (next {form} {forms} n o) = last-in form forms

-- ---- the first form that a test takes

-- is one that it takes, if it takes none before;
pub sole : (takes : Form → Bool) {from : ℕ} {before form : Form} {edition : Edition} → Ordered from before edition → In form edition → takes form ≡ true
    → ((other : Form) → Behind (lead_end other) other form → takes other ≡ false) → first_of takes edition ≡ form
sole takes (end) i t others = elim i [ ]
sole takes (next n o) here t others = rw t
sole takes (next {form = other} n o) (there i) t others = rw (others other (behind o i)) (sole takes o i t others)

-- is one that it takes, or none;
pub first_by : (P : Form → Type 0) (takes : Form → Bool) (edition : Edition) → ((form : Form) → In form edition → takes form ≡ true → P form) → P no_form → P (first_of takes edition)
first_by P takes [] one none = none
first_by P takes (form ∷ forms) one none =
    pick-by P (takes form) (one form here) (λ t. first_by P takes forms (λ other i. one other (there i)) none)

-- is no longer than any that it takes;
pub record Taken (takes : Form → Bool) (edition : Edition) (form found : Form) : Type 0 where
  pub is-in : In found edition
  pub taken : takes found ≡ true
  pub no_longer : found.bytes ≤ form.bytes

pub first_taken : (takes : Form → Bool) {from : ℕ} {before form : Form} {edition : Edition} → Ordered from before edition → In form edition → takes form ≡ true → Taken takes edition form (first_of takes edition)
first_taken takes (end) i t = elim i [ ]
first_taken takes {form} (next n o) here t = rw t (record { is-in = here; taken = t; no_longer = le_refl form.bytes })
first_taken takes {form} (next {form = other} {forms} n o) (there i) t =
    pick-by (Taken takes (other ∷ forms) form) (takes other)
    (λ u. let b = behind o i in record { is-in = here; taken = u; no_longer = omega (arith, b.longer) })
    (λ u. let r = first_taken takes o i t in record { is-in = there r.is-in; taken = r.taken; no_longer = r.no_longer })
