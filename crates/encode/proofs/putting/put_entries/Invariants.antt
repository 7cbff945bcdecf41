use Prim.Native.Nat.{ℕ, ◌+◌}
use mathlib.Core.Path.{◌≡◌}
use Rattle.field.specs.Value.{contents, enc_items}
use Rattle.encode.proofs.EntriesPut.{Entering}
use Rattle.encode.proofs.putting.put_entries.Given as goal

-- some are left, and are to be put
abbrev pub invariant-loop : goal.invariant-loop
invariant-loop l =
    (left : ℕ) × (left + l.counter ≡ l.end) × Entering l.kind l.bytes (enc_items l.kind (contents l.bytes l.kind l.fn.l)) l.initial.out l.out l.at l.here left
