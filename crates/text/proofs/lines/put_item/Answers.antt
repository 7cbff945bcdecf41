-- `put_item` meets its contract: in each arm, the item is what was put. Assumes nothing.
use native.Mathlib.Omega.{arith}
use Rattle.text.proofs.Ended.{number_is, word-is, name-is, letter-fits, letter-within, rule_fits, rule-sum, rule-put, rule-length}
use Rattle.text.proofs.lines.put_item.Goals as goal

pub bounds-out-0 : goal.bounds-out-0
bounds-out-0 c = letter-fits c.args.out.now c.requires c.in-Rule.is

pub slice_bounds-put_number-start : goal.slice_bounds-put_number-start
slice_bounds-put_number-start c = letter-within c.args.out.now c.requires c.in-Rule.is

pub slice_bounds-put_number-count : goal.slice_bounds-put_number-count
slice_bounds-put_number-count c = letter-within c.args.out.now c.requires c.in-Rule.is

pub put_number-requires-in-Rule : goal.put_number-requires-in-Rule
put_number-requires-in-Rule c = rule_fits c.args.out.now c.requires c.in-Rule.is

pub overflow_add-result : goal.overflow_add-result
overflow_add-result c =
    omega (arith, rule-sum c.args.out.now c.requires c.in-Rule.is c.put_number-in-Rule.ensures)

pub shape_of-out-in-Rule : goal.shape_of-out-in-Rule
shape_of-out-in-Rule c =
    rule-length c.args.out.now c.requires c.in-Rule.is c.put_number-in-Rule.ensures

pub returns-in-Rule : goal.returns-in-Rule
returns-in-Rule c =
    rule-put _ c.requires c.in-Rule.is c.put_number-in-Rule.ensures

pub put_number-requires : goal.put_number-requires
put_number-requires c = rw (number_is c.in-Number.is) at c.requires

pub put_str-requires : goal.put_str-requires
put_str-requires c = rw c.as_str.ensures (rw (word-is c.in-Word.is) at c.requires)

pub put_str-requires-in-Name : goal.put_str-requires-in-Name
put_str-requires-in-Name c = rw c.name.ensures (rw (name-is c.in-Name.is) at c.requires)

pub returns-in-Number : goal.returns-in-Number
returns-in-Number c = rw (number_is c.in-Number.is) c.put_number.ensures

pub returns-in-Word : goal.returns-in-Word
returns-in-Word c = rw (word-is c.in-Word.is) (rw c.as_str.ensures at c.put_str.ensures)

pub returns-in-Name : goal.returns-in-Name
returns-in-Name c = rw (name-is c.in-Name.is) (rw c.name.ensures at c.put_str-in-Name.ensures)
