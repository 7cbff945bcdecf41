-- `put_tag` meets its contract. Assumes nothing.
use Rattle.std.proofs.Common.{◌≡◌, ne_eqb, arith}
use Rattle.types.specs.Letters.{letters}
use Rattle.text.specs.Lines.{item_of}
use Rattle.columns.proofs.Poured.{poured-both}
use Rattle.explanation_lines.specs.Lines.{tag_words}
use Rattle.explanation_lines.proofs.lines.put_tag.Goals as goal

pub returns-in_default : goal.returns-in_default
unfolding letters item_of tag_words
returns-in_default c =
    rw (ne_eqb c.args.tag 1 (λ (e : c.args.tag ≡ 1). omega arith), ne_eqb c.args.tag 2 (λ (e : c.args.tag ≡ 2). omega arith), ne_eqb c.args.tag 3 (λ (e : c.args.tag ≡ 3). omega arith)) (poured-both _ _ _ c.put_str-next.ensures c.put_item.ensures)

pub returns-in-3 : goal.returns-in-3
unfolding letters item_of tag_words
returns-in-3 c = rw c.in-3.is c.put_str-in-3.ensures

pub returns-in-2 : goal.returns-in-2
unfolding letters item_of tag_words
returns-in-2 c = rw c.in-2.is c.put_str-in-2.ensures

pub returns-in-1 : goal.returns-in-1
unfolding letters item_of tag_words
returns-in-1 c = rw c.in-1.is c.put_str.ensures
