-- `put_head` meets its contract: each arm puts the numbers that its kind of entry has. Assumes nothing.
use Rattle.encode.proofs.EntryForms.{field-head, version-head, parameter-head}
use Rattle.encode.proofs.putting.put_head.Goals as goal

pub put_number-requires : goal.put_number-requires
put_number-requires c =
    (c.requires.number_le_greatest.1, rw (field-head _ _ _ c.in-Namespace.is) at c.requires.n_in_bounds)

pub put_two-requires : goal.put_two-requires
put_two-requires c = record {
  first_le_greatest = c.requires.number_le_greatest;
  second_in_bounds = rw (parameter-head _ _ _ c.in-Parameters.is) at c.requires.n_in_bounds;
}

pub put_number-requires-in-Versions : goal.put_number-requires-in-Versions
put_number-requires-in-Versions c =
    (c.requires.number_le_greatest.0, rw (version-head _ _ _ c.in-Versions.is) at c.requires.n_in_bounds)

pub returns-in-Namespace : goal.returns-in-Namespace
returns-in-Namespace c = rw (field-head _ _ _ c.in-Namespace.is) c.put_number.ensures

pub returns-in-Parameters : goal.returns-in-Parameters
returns-in-Parameters c = rw (parameter-head _ _ _ c.in-Parameters.is) c.put_two.ensures

pub returns-in-Versions : goal.returns-in-Versions
returns-in-Versions c = rw (version-head _ _ _ c.in-Versions.is) c.put_number-in-Versions.ensures
