-- `put_shortest` meets its contract. Assumes nothing.
use Rattle.std.proofs.Common.{sym, refl, ◌∙◌, arith, length-take-le, eq-eqb, ne_eqb}
use Rattle.types.specs.Letters.{letters}
use Rattle.integer.proofs.Widths.{size_few}
use Rattle.columns.proofs.Poured.{poured-both, poured-end}
use Rattle.explanation_lines.specs.Lines.{shortest_text}
use Rattle.explanation_lines.proofs.ShortestForm.{form-written}
use Rattle.explanation_lines.proofs.values.put_shortest.Goals as goal

pub returns : goal.returns
unfolding letters shortest_text
returns c =
    rw (ne_eqb _ _ (λ e. c.if-used-size.false (e ∙ sym c.size-size.ensures)), ← form-written _ _ (omega arith) c.write.ensures, ← c.size-size.ensures) (poured-both _ _ _ c.put_str-next.ensures c.put_hex.ensures)

pub slice_bounds-put_hex-end : goal.slice_bounds-put_hex-end
unfolding letters shortest_text
slice_bounds-put_hex-end c = sym (length-take-le _ c.write.new.out (omega (arith, c.size-size.ensures, size_few c.args.n)))

pub slice_bounds-form-end : goal.slice_bounds-form-end
unfolding letters shortest_text
slice_bounds-form-end c = omega (arith, c.size-size.ensures, size_few c.args.n)

pub returns-then-used-size : goal.returns-then-used-size
unfolding letters shortest_text
returns-then-used-size c = rw (eq-eqb _ _ (c.if-used-size.true ∙ c.size-size.ensures)) (poured-end refl refl)
