-- The laws of the integers, each shown once over any edition: what a reader and a writer of them owe each other.
-- Assumes nothing.
use Prim.Native.Nat.{ℕ, suc, ◌-◌, ◌*◌, ◌/◌, ◌%◌, ◌^◌, ◌≤◌, ◌<◌}
use mathlib.Core.Path.{◌≡◌, refl, sym, ap, ◌∙◌}
use mathlib.Core.List.{List, ◌++◌}
use native.Mathlib.Nat.{mod-lt, mod-eq_of_lt, div-add-mod', div-lt_iff_lt-mul, mul_assoc, mul-le-mul_right, pow-succ', le_refl, lt_of_lt_of_le, one-le-pow, zero-lt-suc, suc-mul}
use native.Mathlib.Omega.{arith}
use lib.Arith.{digits_lt, digits_div, digits_mod}
use lib.Dec.{T}
use lib.ListN.{length, get_or, take, drop, length-append, length-take, get_or-append}
use lib.Pow.{pow_pos}
use lib.Seq.{get_or-take, length-take-le, take-append-le, take_at, take-take, drop_at}
use borrow.Author.Tests.{le-leb, lt-leb}
use Rattle.common.specs.Answer.{Answer, Nothing, whole, refused, wrote, Leaves}
use Rattle.common.specs.Buffer.{over}
use Rattle.common.specs.Octets.{Octets}
use Rattle.common.proofs.Cases.{pick-le}
use Rattle.integer.specs.Bytes.{spell, bytes_of}
use Rattle.integer.specs.Edition.{Form, Edition, room_of, share_of, longest_form, is_edition, begun_by, of_bytes, fewest_for, read_by, led_by, enc_by, put_form, write_by}
use Rattle.integer.proofs.Digits.{length-bytes_of, spell-bytes_of, head-bytes_of, spelt, spelt-first}
use Rattle.integer.proofs.Tables.{In}
use Rattle.integer.proofs.Forms.{facts, some, split, leading, begun, begun-is, of-bytes, fewest, the_form, fewest-least, few}

-- ---- a whole integer at the front of bytes, by its parts

pub record Reads (edition : Edition) (s : List ℕ) (n used : ℕ) : Type 0 where
  pub width : used ≡ (begun_by edition (get_or s 0 0)).bytes
  pub within : used ≤ length s
  pub value : n ≡ spell 0 (take used s) % room_of (begun_by edition (get_or s 0 0))

module _ {edition : Edition} {s : List ℕ} where
  -- what was read has these parts
  pub parts : {n used : ℕ} → read_by edition s ≡ whole n used → Reads edition s n used
  unfolding read_by
  parts {n} {used} =
      pick-le (λ r. r ≡ whole n used → Reads edition s n used) width (length s)
      (λ h e. have h (cc) (cc))
      (λ h e. absurd (let z : ◌≡◌ {A = ℕ} 0 1 = cc in omega arith))
    where
      width : ℕ
      width = (begun_by edition (get_or s 0 0)).bytes

      have : width ≤ length s → used ≡ width → n ≡ spell 0 (take width s) % room_of (begun_by edition (get_or s 0 0)) → Reads edition s n used
      have h e v = record { width = e; within = rw e h; value = rw e v }

  -- and with these parts it is read
  pub joined : {n used : ℕ} → Reads edition s n used → read_by edition s ≡ whole n used
  unfolding read_by
  joined r =
      let h : (begun_by edition (get_or s 0 0)).bytes ≤ length s = rw (← r.width) r.within in
      rw (le-leb _ (length s) h, ← r.width, r.value)

-- the only refusal
pub cut-is : (edition : Edition) (s : List ℕ) {k : ℕ} → read_by edition s ≡ refused k → (k ≡ 1) × (length s < (begun_by edition (get_or s 0 0)).bytes)
unfolding read_by
cut-is edition s {k} =
    pick-le (λ r. r ≡ refused k → (k ≡ 1) × (length s < (begun_by edition (get_or s 0 0)).bytes)) _ (length s)
    (λ h e. absurd (let z : ◌≡◌ {A = ℕ} 0 1 = cc in omega arith))
    (λ h e. (cc, h))

-- too few bytes
pub short : (edition : Edition) (s : List ℕ) → length s < (begun_by edition (get_or s 0 0)).bytes → read_by edition s ≡ refused 1
unfolding read_by
short edition s h = rw (lt-leb _ (length s) h)

pub record Bounds (edition : Edition) (s : List ℕ) (n used : ℕ) : Type 0 where
  pub small : n ≤ (longest_form edition).greatest
  pub some : 0 < used
  pub few : used ≤ (longest_form edition).bytes
  pub within : used ≤ length s

module _ (edition : Edition) (sound : T (is_edition edition)) where
  -- ---- a form is read back, whatever follows it

  pub form-reads : {form : Form} → In form edition → (n : ℕ) (rest : List ℕ) → n < room_of form → Reads edition (bytes_of form.bytes (led_by form n) ++ rest) n form.bytes
  form-reads {form} i n rest h =
      let w = form.bytes in
      let m = led_by form n in
      let behind = 256 ^ (w - 1) in
      let some : 0 < w = some edition sound i in
      let less : m < 256 * behind = lt_of_lt_of_le (digits_lt (le_refl (suc form.tag)) h)
      (rw (split edition sound i, ← mul_assoc, suc-mul) (mul-le-mul_right behind (facts edition sound i).within)) in
      let last : suc (w - 1) ≡ w = omega arith in
      let fit : m < 256 ^ w = rw (← last, pow-succ') less in
      let long = length-bytes_of w m in
      let first : get_or (bytes_of w m ++ rest) 0 0 ≡ m / behind =
      get_or-append (bytes_of w m) rest 0 0 (rw long some) ∙ head-bytes_of w m some fit in
      let byte : m / behind < 256 = (div-lt_iff_lt-mul (one-le-pow (w - 1) 256 (zero-lt-suc 255))).1 less in
      let lead : m / behind % 256 / share_of form ≡ form.tag =
      rw (mod-eq_of_lt byte, leading edition sound i) (digits_div form.tag h) in
      let found : begun_by edition (get_or (bytes_of w m ++ rest) 0 0) ≡ form = begun-is edition sound i _ (rw first lead) in
      record {
        width = ap (λ (g : Form). g.bytes) (sym found);
        within = rw (length-append, long) (omega arith);
        value = rw (found, take_at (bytes_of w m) rest w long, spell-bytes_of w m fit) (sym (digits_mod form.tag h));
      }

  pub length-enc : (n : ℕ) → length (enc_by edition n) ≡ (fewest_for edition n).bytes
  unfolding enc_by
  length-enc n = length-bytes_of (fewest_for edition n).bytes (led_by (fewest_for edition n) n)

  -- the form that was chosen has room
  pub room_for : (n : ℕ) → n ≤ (longest_form edition).greatest → n < room_of (fewest_for edition n)
  room_for n h = let f = fewest edition sound n h in rw (← (facts edition sound f.0).top) (omega (arith, f.1))

  pub round_trip : (n : ℕ) (rest : List ℕ) → n ≤ (longest_form edition).greatest → read_by edition (enc_by edition n ++ rest) ≡ whole n (length (enc_by edition n))
  unfolding enc_by
  round_trip n rest h = rw length-enc (joined (form-reads (fewest edition sound n h).0 n rest (room_for n h)))

  -- ---- the bounds of what is read

  -- which is a number that its form has room for
  held : {s : List ℕ} {n used : ℕ} → Reads edition s n used → n ≤ (begun_by edition (get_or s 0 0)).greatest
  held {s} {n} {used} r =
      let form = begun_by edition (get_or s 0 0) in
      let lt : n < room_of form = rw r.value (mod-lt (spell 0 (take used s)) (pow_pos form.bits)) in
      omega (arith, (facts edition sound (begun edition sound (get_or s 0 0)).0).top)

  pub bounds : (s : List ℕ) {n used : ℕ} → read_by edition s ≡ whole n used → Bounds edition s n used
  bounds s e =
      let r = parts e in
      let i = (begun edition sound (get_or s 0 0)).0 in
      let l = few edition sound i in
      record {
        small = omega (arith, held r, l.1);
        some = rw r.width (some edition sound i);
        few = rw r.width l.0;
        within = r.within;
      }

  -- ---- no form that is read is shorter than the shortest

  pub shortest : (s : List ℕ) {n used : ℕ} → read_by edition s ≡ whole n used → length (enc_by edition n) ≤ used
  shortest s {n} e =
      let r = parts e in
      rw (length-enc, r.width) (fewest-least edition sound (begun edition sound (get_or s 0 0)).0 n (held r))

  -- nor is that ever none
  pub enc-some : (n : ℕ) → n ≤ (longest_form edition).greatest → 0 < length (enc_by edition n)
  enc-some n h = rw length-enc (some edition sound (fewest edition sound n h).0)

  -- the shortest form of a smaller number is no longer
  pub no_longer : (a b : ℕ) → a ≤ b → b ≤ (longest_form edition).greatest → length (enc_by edition a) ≤ length (enc_by edition b)
  no_longer a b k h =
      let f = fewest edition sound b h in
      rw (length-enc a, length-enc b) (fewest-least edition sound f.0 a (omega (arith, f.1)))

  -- ---- only the bytes used count

  pub only-used : (s t : List ℕ) {n used : ℕ} → take used s ≡ take used t → read_by edition s ≡ whole n used → read_by edition t ≡ whole n used
  only-used s t {n} {used} e r =
      let p = parts r in
      let b = bounds s r in
      let same : get_or s 0 0 ≡ get_or t 0 0 =
      sym (get_or-take used s 0 0 b.some) ∙ ap (λ (l : List ℕ). get_or l 0 0) e ∙ get_or-take used t 0 0 b.some in
      joined
      (record {
        width = rw (← same) p.width;
        within = omega (arith, length-take-le used s b.within, simp length-take at (ap length e));
        value = rw (← same, ← e) p.value;
      })

  -- bytes that follow change nothing,
  pub stable : (s t : List ℕ) {n used : ℕ} → read_by edition s ≡ whole n used → read_by edition (s ++ t) ≡ whole n used
  stable s t {n} {used} r = only-used s (s ++ t) (sym (take-append-le used s t (parts r).within)) r

  -- nor do they if they are cut off
  pub alone : (s : List ℕ) {n used : ℕ} → read_by edition s ≡ whole n used → read_by edition (take used s) ≡ whole n used
  alone s {n} {used} r = only-used s (take used s) (sym (take-take used used s (le_refl used))) r

  -- ---- no encoding begins another

  pub enc-apart : (a b : ℕ) (s t : List ℕ) → a ≤ (longest_form edition).greatest → b ≤ (longest_form edition).greatest → enc_by edition a ++ s ≡ enc_by edition b ++ t → (a ≡ b) × (s ≡ t)
  enc-apart a b s t h k e =
      let p = round_trip a s h in
      let q = round_trip b t k in
      let n : a ≡ b = cc in
      let l : length (enc_by edition a) ≡ length (enc_by edition b) = cc in
      (n, sym (drop_at (enc_by edition a) s (length (enc_by edition b)) l) ∙ ap (drop (length (enc_by edition b))) e ∙ drop_at (enc_by edition b) t (length (enc_by edition b)) refl)

  -- ---- of the forms that a number is read from, the shortest is the only one of its length

  pub only : (s : List ℕ) {n used : ℕ} → Octets s → read_by edition s ≡ whole n used → used ≤ length (enc_by edition n) → take used s ≡ enc_by edition n
  unfolding enc_by
  only s {n} {used} o e h =
      let r = parts e in
      let b = bounds s e in
      let first = get_or s 0 0 in
      let form = begun_by edition first in
      let f = begun edition sound first in
      let m = spell 0 (take used s) in
      let size : form.bytes ≡ (fewest_for edition n).bytes = omega (arith, r.width, length-enc n, shortest s e) in
      let same : form ≡ fewest_for edition n =
      sym (of-bytes edition sound f.0) ∙ ap (of_bytes edition) size ∙ of-bytes edition sound (fewest edition sound n b.small).0 in
      let front : first ≡ m / 256 ^ (form.bytes - 1) = rw (← r.width) (spelt-first s o used b.some b.within) in
      let high : m / room_of form ≡ form.tag =
      sym (leading edition sound f.0 m) ∙ rw (← front) (rw (mod-eq_of_lt (o 0)) at f.1) in
      let all : m ≡ led_by form n = rw (← high, r.value) (sym (div-add-mod' m (room_of form))) in
      sym (spelt s o used b.within) ∙ rw (all, r.width, same)

-- ---- what a writer does

module _ (edition : Edition) (n : ℕ) (before : List ℕ) where
  pub write-great : (longest_form edition).greatest < n → Leaves (write_by edition n before) (refused 5) before
  unfolding write_by
  write-great h = let t = lt-leb n (longest_form edition).greatest h in record { says = rw t; holds = rw t }

  -- up to the greatest, the shortest form is put:
  pub write-is : n ≤ (longest_form edition).greatest → write_by edition n before ≡ put_form (fewest_for edition n).bytes (led_by (fewest_for edition n) n) before
  unfolding write_by
  write-is h = rw (le-leb n (longest_form edition).greatest h)

  -- where there is room it stands at the front, and every byte after it as it was
  pub written : {after : List ℕ} {r : Answer Nothing} → Leaves (write_by edition n before) r after → n ≤ (longest_form edition).greatest → length (enc_by edition n) ≤ length before → (r ≡ wrote (length (enc_by edition n))) × (after ≡ over (enc_by edition n) before)
  unfolding put_form enc_by
  written w g h =
      let l = length-bytes_of (fewest_for edition n).bytes (led_by (fewest_for edition n) n) in
      let t = le-leb (fewest_for edition n).bytes (length before) (rw l at h) in
      let e = write-is g in
      (w.says ∙ rw (e, t, l), w.holds ∙ rw (e, t))

-- the row of a number, known by its bytes: it has room, and its form is put
module _ (edition : Edition) (sound : T (is_edition edition)) {form : Form} (i : In form edition) (n : ℕ) (size : (fewest_for edition n).bytes ≡ form.bytes) where
  pub row_fits : n < room_of form
  row_fits = omega (arith, (the_form edition sound i n size).1, (facts edition sound i).top)

  pub row_put : (before : List ℕ) → write_by edition n before ≡ put_form form.bytes (led_by form n) before
  row_put before =
      let f = the_form edition sound i n size in
      write-is edition n before (omega (arith, f.1, (few edition sound i).1)) ∙ ap (λ (g : Form). put_form g.bytes (led_by g n) before) f.0
