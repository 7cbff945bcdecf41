-- `measure_middle` meets its contract: each arm judges one of the four. Assumes nothing.
use mathlib.Core.Path.{◌∙◌}
use Rattle.measure.proofs.Middles.{nothing-fits, one-byte-fits, some-bytes-judged, both-judged}
use Rattle.measure.proofs.Numbers.{measured-all, judgement-joined}
use Rattle.measure.proofs.judging.Judge.measure_middle.Goals as goal

pub returns-in-Nothing : goal.returns-in-Nothing
returns-in-Nothing c = measured-all _ _ _ (nothing-fits _ _ c.in-Nothing.is)

pub returns-in-Byte : goal.returns-in-Byte
returns-in-Byte c = measured-all _ _ _ (c.add.ensures ∙ one-byte-fits _ _ c.in-Byte.is)

pub returns-in-Bytes : goal.returns-in-Bytes
returns-in-Bytes c = measured-all _ _ _ (c.span.ensures ∙ some-bytes-judged _ _ c.in-Bytes.is)

pub returns-in-Both : goal.returns-in-Both
returns-in-Both c =
    measured-all _ _ _ (judgement-joined c.add-in-Both.result c.span-in-Both.result _ {r = c.join.result} c.join.ensures ∙ rw (c.add-in-Both.ensures, c.span-in-Both.ensures) (both-judged _ _ c.in-Both.is))
