-- Each contract leaves one possible answer, and one possible content of `out` and of `info`. Assumes nothing.
use Prim.Native.Nat.{ℕ}
use mathlib.Core.Path.{◌≡◌, sym, ◌∙◌}
use mathlib.Core.List.{List}
use Rattle.rewrite.specs.Rewriting.{Doing, Does}

pub does-once : {d : Doing} {n k : ℕ} {out other info told : List ℕ} → Does d n out info → Does d k other told → (n ≡ k) × ((out ≡ other) × (info ≡ told))
does-once a b = (a.says ∙ sym b.says, (a.leaves ∙ sym b.leaves, a.tells ∙ sym b.tells))
