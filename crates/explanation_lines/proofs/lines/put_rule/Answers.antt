-- `put_rule` meets its contract. Assumes nothing.
use Rattle.std.proofs.Common.{refl, eq-eqb, ne_eqb}
use Rattle.columns.proofs.Poured.{poured-both, poured-end}
use Rattle.explanation_lines.specs.Lines.{rule_text}
use Rattle.explanation_lines.proofs.lines.put_rule.Goals as goal

pub returns-then-rule-eq0 : goal.returns-then-rule-eq0
unfolding rule_text
returns-then-rule-eq0 c = rw (eq-eqb _ 0 c.if-rule-eq0.true) (poured-end refl refl)

pub returns : goal.returns
unfolding rule_text
returns c = rw (ne_eqb _ 0 c.if-rule-eq0.false) (poured-both _ _ _ c.put_byte-next.ensures c.put_item.ensures)
