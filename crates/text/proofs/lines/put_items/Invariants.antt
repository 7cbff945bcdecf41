use mathlib.Core.List.{◌∷◌, [], ◌++◌}
use lib.ListN.{drop}
use Rattle.common.proofs.PutLoop.{Going}
use Rattle.text.specs.Lines.{line_of}
use Rattle.text.proofs.lines.put_items.Given as goal

abbrev pub invariant-loop-item : goal.invariant-loop-item
invariant-loop-item l = Going (line_of l.items) l.initial.out l.out l.at (line_of (drop l.item-index l.others ++ l.last ∷ []))
