-- `is_status_allowed` meets its contract. Assumes nothing.
use mathlib.Core.Path.{sym, ◌∙◌}
use Rattle.fetch.proofs.Allows.{status-no, group-no, object-is}
use Rattle.fetch.proofs.writer.is_status_allowed.Goals as goal
use Rattle.fetch.proofs.writer.is_status_allowed.Goals.{then-is_track_status, else-is_track_status}

pub returns-then-may_hold : goal.returns-then-may_hold
returns-then-may_hold c =
    elim c.if-is_track_status.branch [
      | then-is_track_status w ↦ c.may_hold-then-may_hold.ensures ∙ object-is _ (sym w.if-is_track_status.true ∙ c.is_track_status.ensures) (sym c.if-may_hold.true ∙ w.value-is ∙ w.may_hold.ensures)
      | else-is_track_status w ↦ cc
    ]

pub returns-else-may_hold : goal.returns-else-may_hold
returns-else-may_hold c =
    c.if-may_hold.false
    ∙ elim c.if-is_track_status.branch [
      | then-is_track_status w ↦ group-no _ (sym w.if-is_track_status.true ∙ c.is_track_status.ensures) (sym c.if-may_hold.false ∙ w.value-is ∙ w.may_hold.ensures)
      | else-is_track_status w ↦ status-no _ (sym w.if-is_track_status.false ∙ c.is_track_status.ensures)
    ]
