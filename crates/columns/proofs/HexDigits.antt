-- Hexadecimal digits: how many a column shows, and those of a number one by one. Assumes nothing.
use Prim.Native.Nat.{ℕ, zero, suc, ◌+◌, ◌-◌, ◌*◌, ◌/◌, ◌%◌, ◌^◌, ◌≤◌, ◌<◌}
use mathlib.Core.Path.{◌≡◌, refl, ap, ◌∙◌}
use mathlib.Core.List.{List, [], ◌∷◌, ◌++◌}
use native.Mathlib.Nat.{pow-suc, div-lt_iff_lt-mul, zero-lt-suc, not-suc-le-zero}
use native.Mathlib.Omega.{arith}
use borrow.Author.Tests.{lt-ltb, le-ltb, le-leb, lt-leb}
use lib.Dec.{ltb}
use lib.ListN.{length, get_or, take, drop, length-append}
use lib.Seq.{length-take-le}
use Rattle.common.specs.Choice.{pick}
use Rattle.types.specs.Letters.{letters}
use Rattle.columns.specs.Columns.{hex_digit, hex_byte, hex_after, hex_bytes, most_shown, shown_bytes, hex_in, hex_of}

-- ---- of bytes

pub hex-none : (s : List ℕ) → length s ≡ 0 → hex_bytes s ≡ []
unfolding hex_bytes
hex-none [] h = refl
hex-none (b ∷ s) h = absurd (omega arith)

-- the first byte, and the others
pub hex-some : (s : List ℕ) → 0 < length s → hex_bytes s ≡ hex_byte (get_or s 0 0) ++ hex_after (drop 1 s)
unfolding hex_bytes
hex-some [] h = absurd (not-suc-le-zero h)
hex-some (b ∷ s) h = refl

after-length : (s : List ℕ) → length (hex_after s) ≡ 3 * length s
unfolding hex_after hex_byte
after-length [] = refl
after-length (b ∷ s) = omega (arith, after-length s)

pub hex-length : (s : List ℕ) → length (hex_bytes s) ≡ 3 * length s - 1
unfolding hex_bytes hex_byte
hex-length [] = refl
hex-length (b ∷ s) = omega (arith, after-length s)

-- up to eight are shown,
module _ (s : List ℕ) where
  module _ (h : length s ≤ most_shown) where
    pub shown-all : shown_bytes s ≡ hex_bytes s
    unfolding shown_bytes
    shown-all = rw (le-leb (length s) most_shown h)

    pub all-length : length (shown_bytes s) ≡ 3 * length s - 1
    all-length = ap length shown-all ∙ hex-length s

  -- and of more the first eight
  module _ (h : most_shown < length s) where
    pub shown-some : shown_bytes s ≡ hex_bytes (take most_shown s) ++ letters ".."
    unfolding shown_bytes
    shown-some = rw (lt-leb (length s) most_shown h)

    pub some-length : length (shown_bytes s) ≡ 3 * most_shown + 1
    unfolding letters
    some-length =
        let front = take most_shown s in
        ap length shown-some ∙ rw (length-append (hex_bytes front) (letters ".."), hex-length front, length-take-le most_shown s (omega arith))

-- ---- of a number

-- one digit more would change nothing where they are enough
hex-enough : (k n : ℕ) → n < 16 ^ suc k → hex_in (suc k) n ≡ hex_in (suc (suc k)) n
unfolding hex_in
hex-enough zero n h = rw (lt-ltb n 16 h)
hex-enough (suc k) n h =
    ap (λ (l : List ℕ). pick (ltb n 16) (hex_digit n ∷ []) (l ++ hex_digit (n % 16) ∷ [])) (hex-enough k (n / 16) ((div-lt_iff_lt-mul (zero-lt-suc 15)).1 (rw pow-suc at h)))

pub hex-one : (n : ℕ) → n < 16 → hex_of n ≡ hex_digit n ∷ []
unfolding hex_of hex_in
hex-one n h = rw (lt-ltb n 16 h)

pub hex-more : (n : ℕ) → 16 ≤ n → n < 2 ^ 64 → hex_of n ≡ hex_of (n / 16) ++ hex_digit (n % 16) ∷ []
unfolding hex_of hex_in
hex-more n h fits = rw (le-ltb n 16 h) (ap (λ (l : List ℕ). l ++ hex_digit (n % 16) ∷ []) (hex-enough 14 (n / 16) (omega arith)))
