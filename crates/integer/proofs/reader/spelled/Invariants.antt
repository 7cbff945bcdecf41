use Prim.Native.Nat.{◌^◌, ◌<◌}
use mathlib.Core.Path.{◌≡◌}
use lib.ListN.{take}
use Rattle.integer.specs.Integer.{spell}
use Rattle.integer.proofs.reader.spelled.Given as goal

abbrev pub invariant-loop-x : goal.invariant-loop-x
invariant-loop-x l = (l.number ≡ spell 0 (take l.x-index l.s)) × (l.number < 256 ^ l.x-index)
