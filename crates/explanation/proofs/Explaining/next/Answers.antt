-- `next` meets its contract. Assumes nothing.
use Rattle.std.proofs.Common.{refl}
use Rattle.columns.specs.Pouring.{pour}
use Rattle.explanation.proofs.DueLines.{as-due}
use Rattle.explanation.proofs.Explaining.next.Goals as goal

pub returns-in-Field : goal.returns-in-Field
unfolding pour
returns-in-Field c = as-due _ c.args.self c.in-Field.is c.tell_field.ensures

pub returns-in-Part : goal.returns-in-Part
unfolding pour
returns-in-Part c = as-due _ c.args.self c.in-Part.is c.tell_part.ensures

pub returns-in-Ending : goal.returns-in-Ending
unfolding pour
returns-in-Ending c = as-due _ c.args.self c.in-Ending.is (record { puts = c.put_ending.ensures; leaves = c.over.ensures })

pub returns-in-Nothing : goal.returns-in-Nothing
unfolding pour
returns-in-Nothing c = as-due _ c.args.self c.in-Nothing.is (record { puts = refl; leaves = refl })
