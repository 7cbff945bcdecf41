-- `tell` meets its contract. Assumes nothing.
use mathlib.Core.Path.{refl}
use native.Mathlib.Omega.{arith}
use lib.ListN.{length-set}
use Rattle.rewrite.specs.Ends.{end_number, end_info}
use Rattle.rewrite.proofs.InfoTold.{three, refused_end}
use Rattle.rewrite.proofs.telling.tell.Goals as goal

pub returns : goal.returns
unfolding end_number end_info
returns c =
    rw c.in-Ok.is (record { says = refl; tells = three c.args.info.now _ _ _ c.requires })

pub returns-in_default : goal.returns-in_default
returns-in_default c =
    let n = refused_end c.in_default.field-0 c.args.used c.args.number c.args.info.now in
    rw c.in_default.is (record { says = n.0; tells = n.1 })

pub bounds-info-1 : goal.bounds-info-1
bounds-info-1 c = simp length-set (omega arith)
