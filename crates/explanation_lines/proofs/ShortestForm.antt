-- The shortest form of a number, written into eight bytes. Assumes nothing.
use Rattle.std.proofs.Common.{◌≡◌, ℕ, ◌≤◌, List, [], ◌∷◌, length, take, sym, refl, ◌∙◌, arith, take_at}
use Rattle.common.specs.Answer.{Answer, Nothing, Leaves}
use Rattle.common.proofs.Cases.{pick-le}
use Rattle.integer.specs.Integer.{greatest, size_of, enc_of, write_of}
use Rattle.integer.proofs.Widths.{size_none}
use Rattle.integer.proofs.Laws.{length-enc, enc-few}
use Rattle.integer.proofs.Writes.{written}

none_is : (s : List ℕ) → length s ≡ 0 → [] ≡ s
none_is [] h = refl
none_is (b ∷ s) h = absurd (omega arith)

-- as many of them as its size are the form: none, where the number is too great to be written
pub form-written : (n : ℕ) (before : List ℕ) {after : List ℕ} {r : Answer Nothing} → 8 ≤ length before
    → Leaves (write_of n before) r after → take (size_of n) after ≡ enc_of n
form-written n before {after} room w =
    pick-le (λ (k : ℕ). take (size_of n) after ≡ enc_of n) n greatest {a = 0} {b = 0}
    (λ h. rw (written n before w h (omega (arith, enc-few n))).1 (take_at (enc_of n) _ (size_of n) (length-enc n)))
    (λ h. rw (← size_none n h) (none_is (enc_of n) (length-enc n ∙ sym (size_none n h))))
