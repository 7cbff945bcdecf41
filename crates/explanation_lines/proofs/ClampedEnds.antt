-- The bytes from an offset up to another, where both are kept within the bytes. Assumes nothing.
use Rattle.std.proofs.Common.{◌≡◌, ℕ, zero, suc, ◌-◌, min, List, [], ◌∷◌, length, take, sym, ap, ◌∙◌, arith, drop_of_length-le, take_all}
use native.Mathlib.Nat.{zero-min, min-zero, suc-min-suc, suc-sub-suc, sub-zero, zero-sub}
use Rattle.explanation_lines.specs.Lines.{between}

none_between : (start end : ℕ) → between [] start end ≡ []
none_between start end =
    rw (drop_of_length-le {A = ℕ} [] {i = start} (omega arith)) (take_all (end - start) [] (omega arith))

take_within : (n : ℕ) (s : List ℕ) → take (min n (length s)) s ≡ take n s
take_within zero s = rw zero-min
take_within (suc n) [] = rw min-zero
take_within (suc n) (b ∷ s) = rw (suc-min-suc n (length s)) (ap (λ (l : List ℕ). b ∷ l) (take_within n s))

within : (s : List ℕ) (start end : ℕ)
    → between s (min start (min end (length s))) (min end (length s)) ≡ between s start end
within [] start end = none_between (min start (min end 0)) (min end 0) ∙ sym (none_between start end)
within (b ∷ s) zero end = simp (zero-min, sub-zero) (take_within end (b ∷ s))
within (b ∷ s) (suc start) zero = rw (zero-min, min-zero, zero-sub)
within (b ∷ s) (suc start) (suc end) = simp (suc-min-suc, suc-sub-suc) (within s start end)

-- the end first, and then the start by it
pub clamped : (s : List ℕ) (start end : ℕ) {first last : ℕ} → last ≡ min end (length s) → first ≡ min start last
    → between s first last ≡ between s start end
clamped s start end e f = rw (f, e) (within s start end)
