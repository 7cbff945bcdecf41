-- `join` meets its contract. Assumes nothing.
use mathlib.Core.Path.{◌≡◌, refl, ap, ◌∙◌}
use Rattle.std.specs.Ordering.{ord_max}
use Rattle.measure.specs.declared.Unfit.{Unfit}
use Rattle.measure.specs.declared.Unfit.TheVariants.{TooLong, Oversize, Forbidden}
use Rattle.measure.specs.contracts.UnfitOrd.TheImpl as order
use Rattle.std.specs.Prelude.{Err}
use Rattle.measure.specs.Judging.{joined, graver}
use Rattle.measure.proofs.Numbers.{told-pair}
use Rattle.measure.proofs.judging.Judge.join.Goals as goal

-- the greater refusal is the graver
graver-max : (x y : Unfit) → ord_max order.cmp-value.it x y ≡ graver x y
unfolding graver
graver-max Forbidden Forbidden = refl
graver-max Forbidden Oversize = refl
graver-max Forbidden TooLong = refl
graver-max Oversize Forbidden = refl
graver-max Oversize Oversize = refl
graver-max Oversize TooLong = refl
graver-max TooLong Forbidden = refl
graver-max TooLong Oversize = refl
graver-max TooLong TooLong = refl

pub returns-in-Ok-Ok : goal.returns-in-Ok-Ok
unfolding joined
returns-in-Ok-Ok c = told-pair _ c.in-Ok-Ok.is-0 c.in-Ok-Ok.is-1 c.add.ensures

pub returns-in-Err-Err : goal.returns-in-Err-Err
unfolding joined graver
returns-in-Err-Err c = told-pair _ c.in-Err-Err.is-0 c.in-Err-Err.is-1 (ap (λ (x : Unfit). Err x) (c.max.ensures ∙ graver-max c.in-Err-Err.x c.in-Err-Err.y))

pub returns-in-Err-Ok : goal.returns-in-Err-Ok
unfolding joined
returns-in-Err-Ok c = told-pair _ c.in-Err-Ok.is-0 c.in-Err-Ok.is-1 refl

pub returns-in-Ok-Err : goal.returns-in-Ok-Err
unfolding joined
returns-in-Ok-Err c = told-pair _ c.in-Ok-Err.is-0 c.in-Ok-Err.is-1 refl
