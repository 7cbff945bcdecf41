use Rattle.std.proofs.Common.{◌≡◌, drop}
use Rattle.columns.specs.Pouring.{filling, pour}
use Rattle.explanation_lines.specs.Lines.{number_lines}
use Rattle.explanation_lines.proofs.numbers.put_numbers.Given as goal

abbrev pub invariant-loop-name : goal.invariant-loop-name
invariant-loop-name l =
    pour (filling l.out l.line) (number_lines (drop l.name-index l.names) l.offset l.s l.next) ≡ pour (filling l.initial.out l.at) (number_lines l.names l.offset l.s l.start)
