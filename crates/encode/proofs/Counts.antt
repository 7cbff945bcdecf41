-- Numbers that the code counts by: bytes that were put stand in a buffer. Assumes nothing.
use Prim.Native.Nat.{ℕ, ◌≤◌, ◌<◌, ◌^◌}
use native.Mathlib.Nat.{lt_of_le_of_lt}
use mir.Syntax.{w64}
use mir.Val.{Fits}

-- how many bytes were put is a number of the machine
pub is-counted : {n most : ℕ} → n ≤ most → most < 2 ^ 64 → Fits w64 n
is-counted h k = record { fits = lt_of_le_of_lt h k }
