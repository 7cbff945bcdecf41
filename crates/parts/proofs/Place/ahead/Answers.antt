-- `ahead` meets its contract: the numbers have ten places. Assumes nothing.
use mathlib.Core.Path.{◌≡◌, sym, ap, ◌∙◌}
use native.Mathlib.Omega.{arith}
use Prim.Native.Nat.{ℕ, min}
use Rattle.std.proofs.lemmas.List.{take_min}
use lib.ListN.{length, take}
use Rattle.outline.specs.Places.{ahead_at}
use Rattle.parts.specs.Cursors.{ahead_by}
use Rattle.parts.proofs.Place.ahead.Goals as goal

pub returns : goal.returns
unfolding ahead_by
returns c =
    let p = c.args.self in
    let ten : length p.numbers ≡ 10 = omega arith in
    let all = ap (min p.passed) (sym ten) in
    c.look_ahead.ensures
    ∙ ap (ahead_at p.outline) (ap (λ (n : ℕ). take n p.numbers) (c.min.ensures ∙ all) ∙ take_min p.passed p.numbers)
