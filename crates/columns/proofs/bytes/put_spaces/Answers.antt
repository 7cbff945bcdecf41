-- `put_spaces` meets its contract. Assumes nothing.
use mathlib.Core.Path.{◌≡◌, ap}
use native.Mathlib.Omega.{arith}
use Prim.Native.Nat.{◌-◌}
use Rattle.columns.specs.Columns.{spaces}
use Rattle.columns.proofs.Poured.{poured-next, poured-end}
use Rattle.columns.proofs.Turns.{space-next}
use Rattle.columns.proofs.bytes.put_spaces.Goals as goal

pub loop-i-preserved : goal.loop-i-preserved
loop-i-preserved c =
    poured-next _ (space-next c.args.count c.loop-i._i c.loop-i-test.true) c.loop-i.invariant c.put_byte-end.ensures

pub returns : goal.returns
returns c =
    let z : c.args.count - c.loop-i._i ≡ 0 = omega arith in
    poured-end (ap spaces z) c.loop-i.invariant
