-- `list` meets its contract: the entries are walked once, then what they came to is judged. Assumes nothing.
use mathlib.Core.Path.{sym, ◌∙◌}
use Rattle.measure.proofs.Lists.{list-great, list-outside, list-missing, list-other, list-many, list_over, list-fits}
use Rattle.measure.proofs.judging.Judge.list.Goals as goal

pub returns-then-l-gt-GREATEST : goal.returns-then-l-gt-GREATEST
returns-then-l-gt-GREATEST c = list-great _ _ _ _ _ c.if-l-gt-GREATEST.true

pub returns-then-l-self : goal.returns-then-l-self
returns-then-l-self c = list-outside _ _ _ _ _ c.if-l-gt-GREATEST.false c.if-l-self.true

pub returns-in_default : goal.returns-in_default
returns-in_default c = list-missing _ _ _ _ _ c.if-l-gt-GREATEST.false c.if-l-self.false c.walk.ensures c.in_default.is

pub returns-then-w-l : goal.returns-then-w-l
returns-then-w-l c =
    list-other _ _ _ _ _ c.if-l-gt-GREATEST.false c.if-l-self.false c.walk.ensures c.in-Ok.is c.if-w-l.true

pub returns-then-not-is_few : goal.returns-then-not-is_few
returns-then-not-is_few c =
    list-many _ _ _ _ _ c.if-l-gt-GREATEST.false c.if-l-self.false c.walk.ensures c.in-Ok.is c.if-w-l.false (sym c.is_few.ensures ∙ c.if-not-is_few.true)

pub returns-then-not-is_within : goal.returns-then-not-is_within
returns-then-not-is_within c =
    list_over _ _ _ _ _ c.if-l-gt-GREATEST.false c.if-l-self.false c.walk.ensures c.in-Ok.is c.if-w-l.false (sym c.is_few.ensures ∙ c.if-not-is_few.false) (sym c.is_within.ensures ∙ c.if-not-is_within.true)

pub returns : goal.returns
returns c =
    c.add.ensures
    ∙ list-fits _ _ _ _ _ c.if-l-gt-GREATEST.false c.if-l-self.false c.walk.ensures c.in-Ok.is c.if-w-l.false (sym c.is_few.ensures ∙ c.if-not-is_few.false) (sym c.is_within.ensures ∙ c.if-not-is_within.false) c.size.ensures
