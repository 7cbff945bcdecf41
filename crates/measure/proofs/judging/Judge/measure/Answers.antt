-- `measure` meets its contract: each arm judges one kind of field. Assumes nothing.
use mathlib.Core.Path.{◌∙◌}
use Rattle.measure.proofs.Numbers.{measured, judgement-joined}
use Rattle.measure.proofs.Pieces.{number-judged, byte_fits, bytes-judged, list-judged, track-backward, track-judged}
use Rattle.measure.proofs.judging.Judge.measure.Goals as goal

pub returns-then-t : goal.returns-then-t
returns-then-t c = measured _ _ _ (track-backward _ _ c.in-Track.is c.if-t.true)

pub returns-in-Number : goal.returns-in-Number
returns-in-Number c = measured _ _ _ (c.number.ensures ∙ number-judged _ _ c.in-Number.is)

pub returns-in-Byte : goal.returns-in-Byte
returns-in-Byte c = measured _ _ _ (c.add.ensures ∙ byte_fits _ _ c.in-Byte.is)

pub returns-in-Bytes : goal.returns-in-Bytes
returns-in-Bytes c = measured _ _ _ (c.span.ensures ∙ bytes-judged _ _ c.in-Bytes.is)

pub returns-in-List : goal.returns-in-List
returns-in-List c = measured _ _ _ (c.list.ensures ∙ list-judged _ _ c.in-List.is)

pub returns-else-t : goal.returns-else-t
returns-else-t c = measured _ _ _ (judgement-joined c.list-fields.result c.span-in-Track.result _ {r = c.join.result} c.join.ensures ∙ rw (c.list-fields.ensures, c.span-in-Track.ensures) (track-judged _ _ c.in-Track.is))
