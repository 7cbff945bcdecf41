-- `without` meets its contract: the rows after the freed one are copied to one place before, and the last is unused.
-- Assumes nothing.
use Prim.Native.Nat.{ℕ, suc, ◌+◌, ◌-◌, ◌≤◌}
use native.Mathlib.Numerals.{add-one}
use mathlib.Core.Path.{◌≡◌, ap, ◌∙◌}
use mathlib.Core.List.{List, ◌++◌}
use native.Mathlib.Omega.{arith}
use lib.ListN.{length, take, drop}
use Rattle.std.proofs.lemmas.List.{length-take, length-drop, take_all}
use Rattle.std.proofs.lemmas.Slice.{take-put_mid, drop-put_mid}
use Rattle.row.specs.Rows.{unused_row}
use Rattle.row.specs.declared.Row.{Row}
use Rattle.ledger.specs.Ledgers.{most_rows}
use Rattle.ledger.specs.Arrays.{freed, with_rows}
use Rattle.ledger.proofs.RowsMovedUp.{last-cleared}
use Rattle.ledger.proofs.endings.without.Goals as goal
use Rattle.ledger.proofs.endings.without.Goals.{Start}

-- there are 64 places
places : (c : Start) → length c.args.l.rows ≡ most_rows
places c = c.well_formed.0.1.1.0.1.0.1

pub returns : goal.returns
unfolding freed
returns c =
    let long = places (goal.at.returns c).Start in
    let rows = c.args.l.rows in
    let inside : c.args.at ≤ length rows = omega (arith, long) in
    let new = c.copy_from_slice.new.self in
    let size : length new ≡ 63 - c.args.at = omega (arith, long, c.copy_from_slice.ensures.len, length-take (63 - c.args.at) (drop c.args.at rows), length-drop c.args.at rows) in
    let later : new ≡ drop (suc c.args.at) rows = c.copy_from_slice.ensures.after ∙ take_all _ _ (omega (arith, long, length-drop (c.args.at + 1) rows)) ∙ ap (λ (i : ℕ). drop i rows) (add-one c.args.at) in
    let moved = last-cleared rows _ c.args.at 63 unused_row long (omega (arith, long))
    (take-put_mid c.args.at (63 - c.args.at) rows new 63 (omega (arith, size)) inside ∙ ap (λ (rs : List Row). take c.args.at rows ++ rs) later)
    (drop-put_mid c.args.at (63 - c.args.at) rows new 63 (omega arith) inside size) in
    rw (c.unused.ensures) (ap (λ (rs : List Row). with_rows c.args.l rs (c.args.l.used - 1) c.args.l.next) moved)
