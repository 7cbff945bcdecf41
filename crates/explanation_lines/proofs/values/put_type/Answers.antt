-- `put_type` meets its contract. Assumes nothing.
use Rattle.std.proofs.Common.{◌<◌, length, sym, ◌∙◌, arith, eqb-true, lt-ltb}
use Rattle.std.proofs.lemmas.Bool.Decides.{nat_tests}
use Rattle.types.specs.Letters.{letters}
use Rattle.types.specs.Table.{name_of}
use Rattle.columns.proofs.Poured.{poured-both, poured-four}
use Rattle.explanation_lines.specs.Lines.{type_text}
use Rattle.explanation_lines.proofs.values.put_type.Goals as goal

pub returns-then-is_empty : goal.returns-then-is_empty
unfolding letters type_text
returns-then-is_empty c =
    let e = eqb-true _ 0 (sym c.is_empty.ensures ∙ c.if-is_empty.true) in
    rw (rw c.name-name.ensures at e) (poured-both _ _ _ c.put_str-next.ensures c.put_hexadecimal.ensures)

pub returns : goal.returns
unfolding letters type_text
returns c =
    let h : 0 < length (name_of c.args.n) = grind (arith, nat_tests) in
    rw (lt-ltb 0 _ h, ← c.name-name.ensures) (search poured-four)
