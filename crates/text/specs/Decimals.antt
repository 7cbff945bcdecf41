-- Numbers in decimal digits.
use Rattle.std.specs.Prelude.{ℕ, zero, suc, ◌+◌, ◌-◌, ◌*◌, ◌/◌, ◌%◌, List, [], ◌∷◌, ◌++◌, ltb}
use Rattle.common.specs.Choice.{pick}

-- a number in decimal digits, if that many are enough for it: one below ten is its digit, another is its tenth part and
-- then its last digit
unfoldable pub decimal_in : ℕ → ℕ → List ℕ
decimal_in zero n = []
decimal_in (suc k) n = pick (ltb n 10) ((48 + n) ∷ []) (decimal_in k (n / 10) ++ (48 + n % 10) ∷ [])

-- twenty are enough for a number of 64 bits
unfoldable pub decimal_of : ℕ → List ℕ
decimal_of n = decimal_in 20 n

-- ---- and back

-- the number that starts as n and goes on with these digits, most significant first
unfoldable pub spelled : ℕ → List ℕ → ℕ
spelled n [] = n
spelled n (digit ∷ digits) = spelled (n * 10 + (digit - 48)) digits

-- the number that digits spell
unfoldable pub spelled_number : List ℕ → ℕ
spelled_number digits = spelled 0 digits
