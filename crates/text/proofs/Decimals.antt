-- The digits of a number, as the loops that count them and put them meet them. Assumes nothing.
use Prim.Native.Nat.{ℕ, zero, suc, ◌+◌, ◌-◌, ◌*◌, ◌/◌, ◌%◌, ◌^◌, ◌≤◌, ◌<◌}
use mathlib.Core.Path.{◌≡◌, refl, sym, ap, ◌∙◌}
use mathlib.Core.List.{List, [], ◌∷◌, ◌++◌, append_assoc}
use native.Mathlib.Nat.{mod-eq_of_lt, pow-suc, div-lt_iff_lt-mul, zero-lt-suc, not-suc-le-zero, le_refl}
use native.Mathlib.Numerals.{sub-one, add-one}
use native.Mathlib.Omega.{arith}
use borrow.Author.Tests.{ltb-true, lt-ltb, le-ltb}
use lib.Dec.{ltb}
use lib.ListN.{length, set, drop, length-append, length-set}
use lib.Seq.{drop-cons, get_or-set_same, drop-set-lt}
use Rattle.common.proofs.Cases.{pick-by}
use Rattle.common.specs.Buffer.{Put}
use Rattle.text.specs.Decimals.{decimal_in, decimal_of, spelled, spelled_number}

-- ---- how many there are

-- never more than were enough
pub decimal-few : (k n : ℕ) → length (decimal_in k n) ≤ k
unfolding decimal_in
decimal-few zero n = le_refl zero
decimal-few (suc k) n =
    pick-by (λ (l : List ℕ). length l ≤ suc k) (ltb n 10)
    (λ e. omega arith)
    (λ e. omega (arith, decimal-few k (n / 10), length-append (decimal_in k (n / 10)) ((48 + n % 10) ∷ [])))

-- one, of a number below ten
pub one-digit : (k n : ℕ) → n < 10 → length (decimal_in (suc k) n) ≡ 1
unfolding decimal_in
one-digit k n h = rw (lt-ltb n 10 h)

-- and one more than its tenth part has, of another
more-digits : (k n : ℕ) → 10 ≤ n → length (decimal_in (suc k) n) ≡ length (decimal_in k (n / 10)) + 1
unfolding decimal_in
more-digits k n h = rw (le-ltb n 10 h, length-append)

-- one more than the number's logarithm, if those are enough
pub digits-by_log : (more log n : ℕ) → log ≤ more → 10 ^ log ≤ n → n < 10 * 10 ^ log → length (decimal_in (suc more) n) ≡ log + 1
digits-by_log more zero n h low high = one-digit more n (omega arith)
digits-by_log zero (suc log) n h low high = absurd (omega arith)
digits-by_log (suc more) (suc log) n h low high =
    let a = rw pow-suc at low in
    let b = rw pow-suc at high in
    omega (arith, more-digits (suc more) n (omega arith), digits-by_log more log (n / 10) (omega arith) (omega arith) (omega arith))

-- ---- that many digits of a number, as they are put: the last one first

unfoldable pub last_of : ℕ → ℕ → List ℕ
last_of zero n = []
last_of (suc k) n = last_of k (n / 10) ++ (48 + n % 10) ∷ []

-- a number's digits are that many
decimal-last : (k n : ℕ) → decimal_in k n ≡ last_of (length (decimal_in k n)) n
unfolding decimal_in last_of
decimal-last zero n = refl
decimal-last (suc k) n =
    pick-by (λ (l : List ℕ). l ≡ last_of (length l) n) (ltb n 10)
    (λ e. rw (mod-eq_of_lt (ltb-true n 10 e)))
    (λ e. let d = decimal_in k (n / 10) in rw (length-append d ((48 + n % 10) ∷ []), add-one (length d), ← decimal-last k (n / 10)))

pub decimal-is : (n : ℕ) → last_of (length (decimal_of n)) n ≡ decimal_of n
unfolding decimal_of
decimal-is n = sym (decimal-last 20 n)

-- a turn of the loop that puts
pub digit-next : (i n : ℕ) (out : List ℕ) → 0 < i → i ≤ length out → last_of (i - 1) (n / 10) ++ drop (i - 1) (set out (i - 1) (48 + n % 10)) ≡ last_of i n ++ drop i out
unfolding last_of
digit-next zero n out h k = absurd (not-suc-le-zero h)
digit-next (suc j) n out h k =
    rw (sub-one, append_assoc, drop-cons (set out j (48 + n % 10)) j 0 (rw length-set k), get_or-set_same, drop-set-lt (suc j) out j (48 + n % 10) (le_refl (suc j)))

-- and when none is left
pub digits-put : (n : ℕ) (before : List ℕ) {out : List ℕ} (left : ℕ) {count : ℕ} → count ≡ length (decimal_of n) → last_of 0 left ++ drop 0 out ≡ last_of count n ++ drop count before → Put (decimal_of n) before count out
unfolding last_of
digits-put n before left c e = record { count = c; holds = e ∙ rw (c, decimal-is n) }

-- ---- what they spell

-- one digit more at the end
spelled-more : (m : ℕ) (xs : List ℕ) (x : ℕ) → spelled m (xs ++ x ∷ []) ≡ spelled m xs * 10 + (x - 48)
unfolding spelled
spelled-more m [] x = refl
spelled-more m (y ∷ ys) x = spelled-more (m * 10 + (y - 48)) ys x

spelled_back : (k n : ℕ) → n < 10 ^ k → spelled 0 (decimal_in k n) ≡ n
unfolding decimal_in spelled
spelled_back zero n h = omega arith
spelled_back (suc k) n h =
    pick-by (λ (l : List ℕ). spelled 0 l ≡ n) (ltb n 10)
    (λ e. omega arith)
    (λ e. rw (spelled-more, spelled_back k (n / 10) ((div-lt_iff_lt-mul (zero-lt-suc 9)).1 (rw pow-suc at h))) (omega arith))

-- The digits of a number spell it, if twenty are enough.
pub digits-spell : (n : ℕ) → n < 10 ^ 20 → spelled_number (decimal_of n) ≡ n
unfolding spelled_number decimal_of
digits-spell n h = spelled_back 20 n h

-- so no two have the same
pub digits-once : (m n : ℕ) → m < 10 ^ 20 → n < 10 ^ 20 → decimal_of m ≡ decimal_of n → m ≡ n
digits-once m n h k e = sym (digits-spell m h) ∙ ap spelled_number e ∙ digits-spell n k
