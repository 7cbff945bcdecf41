-- `places` meets its contract: one digit more than the logarithm. Assumes nothing.
use native.Mathlib.Omega.{arith}
use Rattle.text.specs.Decimals.{decimal_of}
use Rattle.text.proofs.Decimals.{one-digit, digits-by_log}
use Rattle.text.proofs.digits.places.Goals as goal

pub returns-in-Some : goal.returns-in-Some
unfolding decimal_of
returns-in-Some c =
    let e = c.in-Some.ensures in
    omega (arith, digits-by_log 19 c.in-Some.log c.args.n (omega (arith, e.bound)) e.power_le e.next_power_gt)

pub returns-in-None : goal.returns-in-None
unfolding decimal_of
returns-in-None c = omega (arith, one-digit 19 c.args.n (omega (arith, c.in-None.ensures.none)))
