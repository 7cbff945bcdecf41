-- How a call ends: values into `info`, and 7 where the writer refused. Assumes nothing.
use Prim.Native.Nat.{ℕ, ◌≤◌}
use mathlib.Core.Path.{◌≡◌, refl}
use mathlib.Core.List.{List, [], ◌∷◌}
use native.Mathlib.Omega.{arith}
use lib.ListN.{length, set}
use Rattle.common.specs.Buffer.{over}
use Rattle.encode.specs.Writing.{told_writing}
use Rattle.std.specs.Prelude.{Err}
use Rattle.encode.specs.declared.Refusal.{Refusal}
use Rattle.encode.specs.declared.Refusal.TheVariants.{Forbidden, Oversize, TooLong, TooShort}
use Rattle.rewrite.specs.Ends.{end_number, end_info}

-- ---- values at the front of `info`

pub one : (info : List ℕ) (a : ℕ) → 1 ≤ length info → set info 0 a ≡ over (a ∷ []) info
one (x ∷ rest) a h = refl
one [] a h = absurd (omega (arith, h))

pub two : (info : List ℕ) (a b : ℕ) → 2 ≤ length info → set (set info 0 a) 1 b ≡ over (a ∷ b ∷ []) info
two (x ∷ y ∷ rest) a b h = refl
two (x ∷ []) a b h = absurd (omega (arith, h))
two [] a b h = absurd (omega (arith, h))

pub three : (info : List ℕ) (a b c : ℕ) → 3 ≤ length info → set (set (set info 0 a) 1 b) 2 c ≡ over (a ∷ b ∷ c ∷ []) info
three (x ∷ y ∷ z ∷ rest) a b c h = refl
three (x ∷ y ∷ []) a b c h = absurd (omega (arith, h))
three (x ∷ []) a b c h = absurd (omega (arith, h))
three [] a b c h = absurd (omega (arith, h))

-- ---- nothing was written

pub refused_end : (refusal : Refusal) (used type : ℕ) (info : List ℕ) → (7 ≡ end_number (told_writing (Err refusal))) × (info ≡ end_info (told_writing (Err refusal)) used type info)
unfolding end_number end_info
refused_end Forbidden used type info = (refl, refl)
refused_end Oversize used type info = (refl, refl)
refused_end TooLong used type info = (refl, refl)
refused_end TooShort used type info = (refl, refl)
