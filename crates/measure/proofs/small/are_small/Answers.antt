-- `are_small` meets its contract. Assumes nothing.
use Rattle.std.proofs.Common.{rules, ◌∙◌}
use Rattle.std.proofs.lemmas.Iterator.{YieldsList-from_slice}
use Rattle.std.proofs.lemmas.Iterator.Search.{all_from_yields_List}
use Rattle.measure.specs.Small.{small_piece}
use Rattle.measure.specs.Fields.{fields_of}
use Rattle.measure.proofs.AllSmall.{all-small}
use Rattle.measure.proofs.small.are_small.Goals as goal

pub returns : goal.returns
unfolding fields_of
returns c = all_from_yields_List small_piece _ _ _ c.all.ensures.ran (YieldsList-from_slice _ cc) (λ x b q h. search rules) ∙ all-small _
