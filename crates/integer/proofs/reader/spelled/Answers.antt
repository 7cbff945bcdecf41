-- `spelled` meets its contract. The loop has the number that the bytes so far spell. Assumes nothing.
use Prim.Native.Nat.{ℕ, ◌+◌, ◌*◌, ◌^◌, ◌<◌}
use mathlib.Core.Path.{◌≡◌, refl, sym}
use native.Mathlib.Omega.{arith}
use lib.Dec.{lit<}
use lib.ListN.{length, get_or}
use lib.Seq.{take_all}
use Rattle.integer.specs.Integer.{spell}
use Rattle.integer.proofs.Digits.{spell_next, spell-fits, eight-fit}
use Rattle.integer.proofs.reader.spelled.Goals as goal

pub loop-x-init : goal.loop-x-init
unfolding spell
loop-x-init c = (refl, lit< tt)

-- what the turn makes of the number
turn : (n i x : ℕ) → n < 256 ^ i → x < 256 → n * 256 + x < 256 ^ (i + 1)
turn n i x h k = spell-fits n i h k

pub overflow_mul-number : goal.overflow_mul-number
overflow_mul-number c =
    let l = c.loop-x in
    omega (arith, turn _ _ (get_or c.args.s.now l.x-index 0) l.invariant.1 (omega (arith, c.type_inv.s l.x-index)), eight-fit (l.x-index + 1) (omega (arith, c.requires)))

pub overflow_add-number : goal.overflow_add-number
overflow_add-number c =
    let l = c.loop-x in
    omega (arith, turn _ _ (get_or c.args.s.now l.x-index 0) l.invariant.1 (omega (arith, c.type_inv.s l.x-index)), eight-fit (l.x-index + 1) (omega (arith, c.requires)))

pub loop-x-preserved : goal.loop-x-preserved
loop-x-preserved c =
    let l = c.loop-x in
    (rw l.invariant.0 (sym (spell_next _ l.x-index (omega arith))), turn _ _ _ l.invariant.1 (omega (arith, c.type_inv.s l.x-index)))

pub returns : goal.returns
returns c =
    let l = c.loop-x in
    let s = c.args.s.now in
    let e : l.x-index ≡ length s = omega arith in
    (rw (l.invariant.0, e, take_all (length s) s (omega arith)), rw (← e) l.invariant.1)
