-- `put_field_value` meets its contract. Assumes nothing.
use Rattle.std.proofs.Common.{◌≡◌, ne_eqb, arith}
use Rattle.columns.specs.Pouring.{pour}
use Rattle.explanation_lines.specs.Lines.{value_lines}
use Rattle.explanation_lines.proofs.numbers.put_field_value.Goals as goal

pub returns-in-1 : goal.returns-in-1
unfolding pour value_lines
returns-in-1 c = rw c.in-1.is c.put_start.ensures

pub returns-in-3 : goal.returns-in-3
unfolding pour value_lines
returns-in-3 c = rw c.in-3.is c.put_arrival.ensures

pub returns-in_default : goal.returns-in_default
unfolding pour value_lines
returns-in_default c = rw (ne_eqb c.args.tag 1 (λ (e : c.args.tag ≡ 1). omega arith), ne_eqb c.args.tag 3 (λ (e : c.args.tag ≡ 3). omega arith))
