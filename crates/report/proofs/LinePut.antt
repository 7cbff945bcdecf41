-- A line that has room is put. Assumes nothing.
use Prim.Native.Nat.{ℕ, ◌≤◌}
use mathlib.Core.Path.{◌≡◌}
use mathlib.Core.List.{List}
use native.Mathlib.Omega.{arith}
use lib.ListN.{length}
use Rattle.common.specs.Answer.{Leaves}
use Rattle.common.specs.Buffer.{Put}
use Rattle.text.specs.Lines.{put_text, told_putting}
use Rattle.std.specs.Prelude.{Option, Some, None, unwrap_or}
use Rattle.text.proofs.Outcomes.{done-is, short-is}

-- where it has room, as many bytes as are said
pub line-put : (text before : List ℕ) (r : Option ℕ) {after : List ℕ} → length text ≤ length before → Leaves (put_text text before) (told_putting r) after → Put text before (unwrap_or r 0) after
line-put text before (Some n) fits w = (done-is text before w).1
line-put text before None fits w = absurd (omega (arith, fits, (short-is text before w).0))

-- what was put ends within the buffer
pub put-within : (text before : List ℕ) (r : Option ℕ) {after : List ℕ} → Leaves (put_text text before) (told_putting r) after → {n : ℕ} → r ≡ Some n → n ≤ length before
put-within text before r w e =
    let d = done-is text before (rw e at w) in
    omega (arith, d.0, d.1.count)
