-- `put_start` meets its contract. Assumes nothing.
use Rattle.std.proofs.Common.{◌<◌, length, sym, ◌∙◌, arith, eqb-true, lt-ltb}
use Rattle.std.proofs.lemmas.Bool.Decides.{nat_tests}
use Rattle.types.specs.Letters.{letters}
use Rattle.text.specs.Lines.{item_of}
use Rattle.columns.proofs.Poured.{poured-both, poured-three}
use Rattle.explanation_lines.specs.Lines.{start_lines}
use Rattle.explanation_lines.proofs.numbers.put_start.Goals as goal

pub returns : goal.returns
unfolding letters item_of start_lines
returns c =
    let h : 0 < length c.args.s.now = grind (arith, nat_tests) in rw (lt-ltb 0 _ h, ← c.first_byte.ensures) (poured-three _ _ _ _ c.put_margin-margin.ensures c.put_str-called.ensures (poured-three _ _ _ _ c.put_item-part.ensures c.put_byte-next.ensures c.put_numbers.ensures))

pub returns-then-is_empty : goal.returns-then-is_empty
unfolding letters item_of start_lines
returns-then-is_empty c =
    rw (eqb-true _ 0 (sym c.is_empty.ensures ∙ c.if-is_empty.true)) (poured-three _ _ _ _ c.put_margin-margin.ensures c.put_str-called.ensures (poured-both _ _ _ c.put_str-next.ensures (rw c.number.ensures at c.put_mark.ensures)))
