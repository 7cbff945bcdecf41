use Prim.Native.Nat.{◌-◌}
use Rattle.field.proofs.Walks.{Walking}
use Rattle.field.proofs.walking.walk.Given as goal

abbrev pub invariant-loop : goal.invariant-loop
invariant-loop l = Walking l.sized l.kind l.count l.s l.start (l.count - l.counter) l.w.end l.w.held l.w.size
