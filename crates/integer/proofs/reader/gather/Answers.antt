-- `gather` meets its contract: the two halves spell what the whole does. Assumes nothing.
use Prim.Native.Nat.{ℕ, ◌+◌, ◌-◌, ◌*◌, ◌/◌, ◌^◌, ◌≤◌, ◌<◌}
use mathlib.Core.Path.{◌≡◌, sym}
use native.Mathlib.Omega.{arith}
use lib.ListN.{drop, length-take}
use lib.Seq.{length-take-le}
use Rattle.integer.specs.Integer.{wide}
use Rattle.integer.proofs.Digits.{parts-spell, parts-fit}
use Rattle.integer.proofs.Widths.{wide_form, room-pos}
use Rattle.integer.proofs.Front.{short, enough}
use Rattle.integer.proofs.reader.gather.Goals as goal
use Rattle.integer.proofs.reader.gather.Goals.{After-spelled-low}

-- a width is at most eight
few : (first : ℕ) {width : ℕ} → width ≡ wide first → width ≤ 8
few first e = rw e (wide_form first).few

pub returns-then-s-width : goal.returns-then-s-width
returns-then-s-width c = sym (short _ (rw (← c.requires.0) c.if-s-width.true))

pub slice_bounds-spelled-end : goal.slice_bounds-spelled-end
slice_bounds-spelled-end c = sym (length-take-le _ _ (omega arith))

pub spelled-high-requires : goal.spelled-high-requires
spelled-high-requires c =
    omega (arith, length-take (c.args.width / 2) c.args.s.now, few _ c.requires.0)

pub spelled-low-requires : goal.spelled-low-requires
spelled-low-requires c =
    omega (arith, length-take (c.args.width - c.args.width / 2) (drop (c.args.width / 2) c.args.s.now), few _ c.requires.0)

-- the two halves together fit
fits : (c : After-spelled-low) → c.spelled-high.result * c.args.step + c.spelled-low.result < 2 ^ 64
fits c =
    let w = c.args.width in
    rw c.requires.1 (parts-fit c.args.s.now (w / 2) w (omega arith) (omega arith) (few _ c.requires.0) c.spelled-high.ensures.1 c.spelled-low.ensures.1)

pub overflow_mul-number : goal.overflow_mul-number
overflow_mul-number c = omega (arith, fits c)

pub overflow_add-number : goal.overflow_add-number
overflow_add-number c = omega (arith, fits c)

pub nonzero_rem-result : goal.nonzero_rem-result
nonzero_rem-result c = rw c.requires.2 (room-pos c.args.width)

pub returns : goal.returns
returns c =
    let w = c.args.width in
    let e = parts-spell c.args.s.now (w / 2) w (omega arith) (omega arith) in
    rw (c.requires.1, c.requires.2, c.spelled-high.ensures.0, c.spelled-low.ensures.0, e) (sym (enough c.args.s.now c.requires.0 (omega arith)))
