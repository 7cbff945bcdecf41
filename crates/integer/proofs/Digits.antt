-- Numbers by their bytes, at every width: what a list spells, and the bytes of a number. Assumes nothing.
use Prim.Native.Nat.{ℕ, zero, suc, ◌+◌, ◌-◌, ◌*◌, ◌/◌, ◌%◌, ◌^◌, ◌≤◌, ◌<◌}
use mathlib.Core.Path.{◌≡◌, refl, sym, ap, ◌∙◌}
use mathlib.Core.List.{List, [], ◌∷◌, ◌++◌, append_assoc}
use native.Mathlib.Nat.{pow-suc, pow-succ', div-lt_iff_lt-mul, div-div-eq-div-mul, zero-lt-suc, not-suc-le-zero, le_refl, div-one, pow-le-pow_right}
use native.Mathlib.Numerals.{add-one, sub-one}
use native.Mathlib.Omega.{arith}
use lib.Arith.{digits_lt, digits_div, digits_mod}
use lib.ListN.{length, get_or, take, drop, set, length-append, length-drop, length-set, take-append-drop, get_or-append}
use lib.Pow.{pow-add}
use lib.Seq.{length-take-le, take-append-add, take-suc, drop-cons, get_or-take, get_or-set_same, drop-set-lt}
use Rattle.common.specs.Octets.{Octets}
use Rattle.integer.specs.Bytes.{spell, bytes_of}

-- ---- what bytes spell

-- more bytes at the end
spell-append : (n : ℕ) (xs ys : List ℕ) → spell n (xs ++ ys) ≡ spell (spell n xs) ys
unfolding spell
spell-append n [] ys = refl
spell-append n (x ∷ xs) ys = spell-append (n * 256 + x) xs ys

-- one byte more
pub spell-snoc : (n : ℕ) (xs : List ℕ) (x : ℕ) → spell n (xs ++ x ∷ []) ≡ spell n xs * 256 + x
unfolding spell
spell-snoc n xs x = spell-append n xs (x ∷ [])

-- a turn of the loop that gathers
pub spell_next : (s : List ℕ) (i : ℕ) → i < length s → spell 0 (take (i + 1) s) ≡ spell 0 (take i s) * 256 + get_or s i 0
spell_next s i h = rw (add-one, take-suc s i 0, spell-snoc)

-- what stands before bytes counts once for all that they can spell
spell-from : (n : ℕ) (xs : List ℕ) → spell n xs ≡ n * 256 ^ length xs + spell 0 xs
unfolding spell
spell-from n [] = omega arith
spell-from n (x ∷ xs) = rw (spell-from (n * 256 + x) xs, spell-from (0 * 256 + x) xs, pow-succ') (omega arith)

-- that many bytes spell less than this
pub spell-fits : (n i : ℕ) {x : ℕ} → n < 256 ^ i → x < 256 → n * 256 + x < 256 ^ (i + 1)
spell-fits n i h k = rw (add-one, pow-suc) (digits_lt h k)

-- and eight of them fit a machine's number
pub eight-fit : (i : ℕ) → i ≤ 8 → 256 ^ i ≤ 2 ^ 64
eight-fit i h = pow-le-pow_right (zero-lt-suc 255) {i = i} {j = 8} h

-- ---- bytes that are spelled in two parts

module _ (s : List ℕ) (h w : ℕ) (k : h ≤ w) (b : w ≤ length s) where
  cut : take w s ≡ take h s ++ take (w - h) (drop h s)
  cut =
      let e : w ≡ length (take h s) + (w - h) = omega (arith, length-take-le h s (omega arith)) in
      ap (λ (i : ℕ). take i s) e ∙ ap (take (length (take h s) + (w - h))) (sym (take-append-drop h s)) ∙ take-append-add (take h s) (drop h s) (w - h)

  length-second : length (take (w - h) (drop h s)) ≡ w - h
  length-second = length-take-le (w - h) (drop h s) (omega (arith, length-drop h s))

  -- the first part counts once for all that the second can spell
  pub parts-spell : spell 0 (take h s) * 256 ^ (w - h) + spell 0 (take (w - h) (drop h s)) ≡ spell 0 (take w s)
  parts-spell = rw (cut, spell-append, spell-from (spell 0 (take h s)) (take (w - h) (drop h s)), length-second)

  -- and both together fit as the whole does
  pub parts-fit : {high low : ℕ} → w ≤ 8 → high < 256 ^ length (take h s) → low < 256 ^ length (take (w - h) (drop h s)) → high * 256 ^ (w - h) + low < 2 ^ 64
  parts-fit f x y =
      let e : h + (w - h) ≡ w = omega arith in
      let z = digits_lt (rw (length-take-le h s (omega arith)) at x) (rw length-second at y) in
      omega (arith, rw (← pow-add 256 h (w - h), e) at z, eight-fit w f)

-- ---- the bytes of a number

pub length-bytes_of : (width n : ℕ) → length (bytes_of width n) ≡ width
unfolding bytes_of
length-bytes_of zero n = refl
length-bytes_of (suc k) n = rw (length-append, length-bytes_of k (n / 256)) (omega arith)

-- they spell it
pub spell-bytes_of : (width n : ℕ) → n < 256 ^ width → spell 0 (bytes_of width n) ≡ n
unfolding bytes_of spell
spell-bytes_of zero n h = omega arith
spell-bytes_of (suc k) n h =
    rw (spell-snoc, spell-bytes_of k (n / 256) ((div-lt_iff_lt-mul (zero-lt-suc 255)).1 (rw pow-suc at h))) (omega arith)

-- the first of them
pub head-bytes_of : (width n : ℕ) → 0 < width → n < 256 ^ width → get_or (bytes_of width n) 0 0 ≡ n / 256 ^ (width - 1)
unfolding bytes_of
head-bytes_of zero n some h = absurd (not-suc-le-zero some)
head-bytes_of (suc zero) n some h = omega (arith, div-one n)
head-bytes_of (suc (suc k)) n some h =
    rw (
      get_or-append (bytes_of (suc k) (n / 256)) (n % 256 ∷ []) 0 0 (rw length-bytes_of (zero-lt-suc k)),
      head-bytes_of (suc k) (n / 256) (zero-lt-suc k) ((div-lt_iff_lt-mul (zero-lt-suc 255)).1 (rw pow-suc at h)),
      sub-one,
      sub-one,
      div-div-eq-div-mul,
      pow-succ',
    )

-- a turn of the loop that puts
pub put_next : (i n : ℕ) (out : List ℕ) → 0 < i → i ≤ length out → bytes_of (i - 1) (n / 256) ++ drop (i - 1) (set out (i - 1) (n % 256)) ≡ bytes_of i n ++ drop i out
unfolding bytes_of
put_next zero n out h k = absurd (not-suc-le-zero h)
put_next (suc j) n out h k =
    rw (sub-one, append_assoc, drop-cons (set out j (n % 256)) j 0 (rw length-set k), get_or-set_same, drop-set-lt (suc j) out j (n % 256) (le_refl (suc j)))

-- ---- bytes are those of the number that they spell

module _ (s : List ℕ) (o : Octets s) where
  -- one byte more
  spelt-suc : (i : ℕ) → i < length s → spell 0 (take (suc i) s) ≡ spell 0 (take i s) * 256 + get_or s i 0
  spelt-suc i h = rw (take-suc s i 0 h, spell-snoc)

  -- that many bytes spell less than this,
  spelt-fits : (i : ℕ) → i ≤ length s → spell 0 (take i s) < 256 ^ i
  unfolding spell
  spelt-fits zero h = zero-lt-suc 0
  spelt-fits (suc i) h = rw (spelt-suc i h, pow-suc) (digits_lt (spelt-fits i (omega arith)) (o i))

  -- and are the bytes of what they spell,
  pub spelt : (i : ℕ) → i ≤ length s → bytes_of i (spell 0 (take i s)) ≡ take i s
  unfolding bytes_of
  spelt zero h = refl
  spelt (suc i) h =
      let m = spell 0 (take i s) in
      rw (spelt-suc i h, digits_div m (o i), digits_mod m (o i), spelt i (omega arith), take-suc s i 0 h)

  -- whose first is what is left of the number when those after it are taken off
  pub spelt-first : (w : ℕ) → 0 < w → w ≤ length s → get_or s 0 0 ≡ spell 0 (take w s) / 256 ^ (w - 1)
  spelt-first w some h =
      sym (get_or-take w s 0 0 some) ∙ ap (λ (x : List ℕ). get_or x 0 0) (sym (spelt w h)) ∙ head-bytes_of w (spell 0 (take w s)) some (spelt-fits w h)
