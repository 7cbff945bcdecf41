-- `tell_field` meets its contract. Assumes nothing.
use Rattle.std.proofs.Common.{refl}
use Rattle.explanation.proofs.FieldValues.{told-field}
use Rattle.explanation.proofs.Explaining.tell_field.Goals as goal

pub returns : goal.returns
returns c =
    told-field _ c.args.self c.min-start.ensures refl c.tag_of-tag.ensures c.put_field_line-line.ensures c.put_field_value.ensures c.due_after.ensures refl
