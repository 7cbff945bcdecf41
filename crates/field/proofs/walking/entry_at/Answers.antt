-- `entry_at` meets its contract: the number that the entry begins with, and what stands after it. Assumes nothing.
use mathlib.Core.Path.{◌≡◌, sym, ◌∙◌}
use Rattle.common.proofs.Exits.{handed}
use Rattle.field.specs.Outcome.{whole}
use Rattle.field.proofs.Answers.{lead_at, read_fits, entry-cut, lead-read, lead-none, entry-bare, entry-text}
use Rattle.field.proofs.walking.entry_at.Goals as goal
use Rattle.field.proofs.walking.entry_at.Goals.{Joined-has_number, then-has_number+in_ok-n, else-has_number}

-- the number in front, by either way
lead : (c : Joined-has_number) → lead_at c.args.kind c.args.s.now c.args.at ≡ whole c.if-has_number.number.0 c.if-has_number.number.1
lead c =
    let a = c.args in
    elim c.if-has_number.branch [
      | then-has_number+in_ok-n w ↦ rw w.number-is (lead-read a.s.now a.at w.in_ok-n.ensures a.kind (sym c.has_number.ensures ∙ w.if-has_number.true))
      | else-has_number w ↦ rw w.number-is (lead-none a.s.now a.at a.kind (sym c.has_number.ensures ∙ w.if-has_number.false))
    ]

pub returns-in_err-n : goal.returns-in_err-n
returns-in_err-n c =
    rw (handed c.from_residual.ensures.1) (entry-cut _ _ c.in_err-n.ensures c.args.kind _ (sym c.has_number.ensures ∙ c.if-has_number.true))

pub overflow_add-number : goal.overflow_add-number
overflow_add-number c = search (read_fits, c.in_ok-n.ensures)

pub returns-then-not-has_bytes : goal.returns-then-not-has_bytes
returns-then-not-has_bytes c =
    entry-bare _ _ c.args.kind _ (sym c.has_bytes.ensures ∙ c.if-not-has_bytes.true) (lead (goal.at.returns-then-not-has_bytes c).Joined-has_number)

pub returns-in_err-entry : goal.returns-in_err-entry
returns-in_err-entry c =
    rw (handed c.from_residual-in_err-entry.ensures.1)
    (entry-text _ _ c.args.kind _ (sym c.has_bytes.ensures ∙ c.if-not-has_bytes.false) (lead (goal.at.returns-in_err-entry c).Joined-has_number) c.in_err-entry.ensures)

pub returns : goal.returns
returns c =
    entry-text _ _ c.args.kind _ (sym c.has_bytes.ensures ∙ c.if-not-has_bytes.false) (lead (goal.at.returns c).Joined-has_number) c.in_ok-entry.ensures
