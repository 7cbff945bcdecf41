-- One possible answer: 01's number and values of a judgement lose nothing. Assumes nothing.
use mathlib.Core.Path.{◌≡◌, refl, sym, ap, ◌∙◌}
use lib.Dec.{eqb}
use Rattle.common.specs.Choice.{pick}
use Rattle.common.specs.Answer.{Answer, whole, refused, Nothing}
use Rattle.measure.specs.Measuring.{told_measured}
use Rattle.std.specs.Prelude.{Ok, Err}
use Rattle.measure.specs.Judging.{Judged}
use Rattle.measure.specs.declared.Unfit.TheVariants.{TooLong, Oversize, Forbidden}

-- the judgement that was said
heard : Answer Nothing → Judged
heard (whole nothing used) = Ok used
heard (refused n) = Err (pick (eqb n 5) Forbidden (pick (eqb n 6) Oversize TooLong))

-- is the one that was meant
heard-saying : (a : Judged) → heard (told_measured a) ≡ a
unfolding heard
heard-saying (Ok n) = refl
heard-saying (Err TooLong) = refl
heard-saying (Err Oversize) = refl
heard-saying (Err Forbidden) = refl

-- so two judgements that say the same are the same
pub told-measured-once : (a b : Judged) → told_measured a ≡ told_measured b → a ≡ b
told-measured-once a b e = sym (heard-saying a) ∙ ap heard e ∙ heard-saying b
