-- The forms of an edition, found by a first byte, by how many bytes they have, and by a number. Assumes nothing.
use Prim.Native.Nat.{ℕ, zero, suc, ◌+◌, ◌-◌, ◌*◌, ◌/◌, ◌%◌, ◌^◌, ◌≤◌, ◌<◌, zero-le}
use mathlib.Core.Path.{◌≡◌, refl, sym, ap, ◌∙◌}
use mathlib.Core.Bool.{Bool, true, false}
use mathlib.Core.List.{[], ◌∷◌}
use native.Mathlib.Nat.{lt_of_not-le, div-lt_iff_lt-mul, le-div_iff_mul-le, mod-lt, zero-lt-suc, suc-mul, div-div-eq-div-mul, mul_comm, pow-suc}
use native.Mathlib.Omega.{arith}
use lib.Arith.{digits_div}
use lib.Dec.{T, leb, eqb}
use lib.Pow.{pow-add, pow_pos}
use borrow.Author.Tests.{leb-true, leb-false, le-leb, lt-leb, eq-eqb, eqb-true, eqb-false, ne_eqb}
use Rattle.common.proofs.Cases.{pick-by}
use Rattle.integer.specs.Edition.{Form, Edition, no_form, room_of, share_of, longest_form, is_edition, first_of, begun_by, of_bytes, fewest_for}
use Rattle.integer.proofs.Tables.{Ordered, end, next, ordered, In, here, there, Behind, behind, up-to-last, longest-in, Each, any, sole, first_by, first_taken}

-- ---- a first byte, and whose share it is in

-- a byte lies in the share that its leading bits say,
in-share : (q m b : ℕ) → 0 < m → b / m ≡ q → (q * m ≤ b) × (b < q * m + m)
in-share q m b h e =
    let r : b < suc q * m = (div-lt_iff_lt-mul h).0 (omega (arith, e)) in
    ((le-div_iff_mul-le h).0 (omega (arith, e)), rw suc-mul at r)

-- and past it, where it has others and does not lie before
past-share : (q m b : ℕ) → q * m ≤ b → (b / m ≡ q → ⊥) → q * m + m ≤ b
past-share q m b h other = go (leb (q * m + m) b) refl
  where
    go : (t : Bool) → leb (q * m + m) b ≡ t → q * m + m ≤ b
    go true e = leb-true (q * m + m) b e
    go false e =
        let lt = leb-false (q * m + m) b e in
        let whole : q * m + (b - q * m) ≡ b = omega arith in
        absurd (other (rw whole at (digits_div q {m = m} {r = b - q * m} (omega arith))))

-- so a byte that no form before has in its share begins one that follows
begun-in : {from : ℕ} {before : Form} {edition : Edition} (b : ℕ) → Ordered from before edition → from ≤ b → b < 256
    → let found = first_of (λ form. eqb (b / share_of form) form.tag) edition in
    In found edition × (b / share_of found ≡ found.tag)
begun-in b end h k = absurd (omega arith)
begun-in b (next {form} {forms} n o) h k =
    pick-by (λ (found : Form). In found (form ∷ forms) × (b / share_of found ≡ found.tag)) (eqb (b / share_of form) form.tag)
    (λ t. (here, eqb-true _ _ t))
    (λ t.
    let on = past-share form.tag (share_of form) b (omega (arith, n.lead)) (eqb-false _ _ t) in
    let r = begun-in b o on k in
    (there r.0, r.1))

-- ---- a number, and the form that it falls to

-- the first that holds it: it is above each form before, and within this one. Above them all there is none
pub data Falls (n : ℕ) : Form → Edition → Type 0 where
  within : {form : Form} {forms : Edition} → n ≤ form.greatest → Falls n form (form ∷ forms)
  above : {other form : Form} {forms : Edition} → other.greatest < n → Falls n form forms → Falls n form (other ∷ forms)
  above-all : Falls n no_form []

pub fewest-is : {n : ℕ} {form : Form} {edition : Edition} → Falls n form edition → fewest_for edition n ≡ form
unfolding fewest_for
fewest-is {n} (within {form} h) = rw (le-leb n form.greatest h)
fewest-is {n} (above {other} h r) = rw (lt-leb n other.greatest h) (fewest-is r)
fewest-is above-all = refl

-- ---- each form, and the three ways to find one

bytes_bits : (k : ℕ) → 2 ^ (8 * k) ≡ 256 ^ k
bytes_bits zero = refl
bytes_bits (suc k) = ap (λ (b : ℕ). 2 ^ b) (omega arith) ∙ pow-add 2 (8 * k) 8 ∙ ap (λ (x : ℕ). x * 256) (bytes_bits k) ∙ sym (pow-suc 256 k)

module _ (edition : Edition) (sound : T (is_edition edition)) where
  in_order : Ordered 0 no_form edition
  in_order = ordered 0 no_form edition sound

  pub facts : {form : Form} → In form edition → Behind 0 no_form form
  facts i = behind in_order i

  pub some : {form : Form} → In form edition → 0 < form.bytes
  some i = omega (arith, (facts i).longer)

  -- its room is its share of the first byte, with all that the bytes after hold
  pub split : {form : Form} → In form edition → room_of form ≡ share_of form * 256 ^ (form.bytes - 1)
  split {form} i =
      let k = form.bytes - 1 in
      let e : form.bits ≡ form.bits - 8 * k + 8 * k = omega (arith, (facts i).full) in
      ap (λ (b : ℕ). 2 ^ b) e ∙ pow-add 2 (form.bits - 8 * k) (8 * k) ∙ ap (λ (x : ℕ). share_of form * x) (bytes_bits k)

  -- so the leading bits of what a form's bytes spell are those of the first byte
  pub leading : {form : Form} → In form edition → (m : ℕ) → m / 256 ^ (form.bytes - 1) / share_of form ≡ m / room_of form
  leading {form} i m = rw (div-div-eq-div-mul, mul_comm (256 ^ (form.bytes - 1)) (share_of form), ← split i)

  -- by a first byte: there is one,
  pub begun : (first : ℕ) → In (begun_by edition first) edition × (first % 256 / share_of (begun_by edition first) ≡ (begun_by edition first).tag)
  unfolding begun_by
  begun first = begun-in (first % 256) in_order zero-le (mod-lt first (zero-lt-suc 255))

  -- and no other has the byte's leading bits
  pub begun-is : {form : Form} → In form edition → (first : ℕ) → first % 256 / share_of form ≡ form.tag → begun_by edition first ≡ form
  unfolding begun_by
  begun-is {form} i first e =
      sole _ in_order i (eq-eqb _ _ e)
      (λ other b. ne_eqb _ _ (λ f.
      let x = in-share other.tag (share_of other) (first % 256) (pow_pos (other.bits - 8 * (other.bytes - 1))) f in
      let y = in-share form.tag (share_of form) (first % 256) (pow_pos (form.bits - 8 * (form.bytes - 1))) e in
      omega (arith, b.lead, x.1, y.0)))

  -- by how many bytes it has
  pub of-bytes : {form : Form} → In form edition → of_bytes edition form.bytes ≡ form
  unfolding of_bytes
  of-bytes {form} i =
      sole _ in_order i (eq-eqb form.bytes form.bytes refl)
      (λ other b. ne_eqb other.bytes form.bytes (λ e. omega (arith, e, b.longer)))

  -- by a number: there is one up to the greatest,
  pub fewest : (n : ℕ) → n ≤ (longest_form edition).greatest → In (fewest_for edition n) edition × (n ≤ (fewest_for edition n).greatest)
  unfolding fewest_for
  fewest n h =
      let r = first_taken _ in_order (longest-in in_order) (le-leb n _ h) in
      (r.is-in, leb-true _ _ r.taken)

  -- a width that no form has is that of a number above it;
  pub no-form : (n : ℕ) {width : ℕ} → width ≡ (fewest_for edition n).bytes → Each (λ form. width ≡ form.bytes → ⊥) edition → (longest_form edition).greatest < n
  no-form n e others = lt_of_not-le (λ h. any (fewest n h).0 others e)

  -- it is known by its bytes, and has room;
  pub the_form : {form : Form} → In form edition → (n : ℕ) → (fewest_for edition n).bytes ≡ form.bytes → (fewest_for edition n ≡ form) × (n ≤ form.greatest)
  unfolding fewest_for
  the_form {form} i n =
      first_by (λ (found : Form). found.bytes ≡ form.bytes → (found ≡ form) × (n ≤ form.greatest)) _ edition
      (λ found j t e.
      let same = sym (of-bytes j) ∙ ap (of_bytes edition) e ∙ of-bytes i in
      (same, rw (← same) (leb-true _ _ t)))
      (λ e. absurd (omega (arith, e, some i)))

  -- and no form that has room for the number is shorter
  pub fewest-least : {form : Form} → In form edition → (n : ℕ) → n ≤ form.greatest → (fewest_for edition n).bytes ≤ form.bytes
  unfolding fewest_for
  fewest-least i n h = (first_taken _ in_order i (le-leb n _ h)).no_longer

  -- the longest is the last
  pub few : {form : Form} → In form edition → (form.bytes ≤ (longest_form edition).bytes) × (form.greatest ≤ (longest_form edition).greatest)
  few i = up-to-last in_order i

  -- so there is none for a number above it
  pub fewest-none : (n : ℕ) → (longest_form edition).greatest < n → fewest_for edition n ≡ no_form
  unfolding fewest_for
  fewest-none n h =
      first_by (λ (found : Form). found ≡ no_form) _ edition (λ form i t. absurd (omega (arith, leb-true n form.greatest t, (few i).1))) refl

  pub fewest-few : (n : ℕ) → (fewest_for edition n).bytes ≤ (longest_form edition).bytes
  unfolding fewest_for
  fewest-few n = first_by (λ (found : Form). found.bytes ≤ (longest_form edition).bytes) _ edition (λ found i t. (few i).0) zero-le
