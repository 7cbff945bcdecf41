-- One possible answer: what an answer says in the terms of the definitions loses nothing of it. Assumes nothing.
use mathlib.Core.Path.{◌≡◌, refl, sym, ap}
use Rattle.std.specs.Prelude.{ℕ, Result, Ok, Err}
use Rattle.common.proofs.Cases.{both}
use Rattle.integer.specs.declared.Cut.{Cut as Ended}
use Rattle.field.specs.Outcome.{Outcome, no}
use Rattle.field.specs.Told.{told_cut, told_fault, told_number, told_byte, told_place, told_failure, told_bytes, told_list, told_track, told_entry, told_walk}
use Rattle.field.specs.declared.Entries.{Entries}
use Rattle.field.specs.declared.Entry.{Entry}
use Rattle.field.specs.declared.Failure.{Failure}
use Rattle.field.specs.declared.Fault.{Fault}
use Rattle.field.specs.declared.Kind.{Kind}
use Rattle.field.specs.declared.Place.{Place}
use Rattle.field.specs.declared.Span.{Span}
use Rattle.field.specs.declared.Sums.{Sums}
use Rattle.field.specs.declared.Track.{Track}
use Rattle.field.proofs.Unjudged.{apart}

-- ---- once for all of them: what is told of something read is no fault, and loses nothing of it

pub cut-once : {A B : Type 0} (told : A → Outcome B) → ((a : A) (fault : Fault) → told a ≡ no fault → ⊥) → ((a b : A) → told a ≡ told b → a ≡ b) → (r q : Result A Ended) → told_cut told r ≡ told_cut told q → r ≡ q
cut-once told whole once (Ok a) (Ok b) e = ap Ok (once a b e)
cut-once told whole once (Ok a) (Err ended) e = absurd (whole a _ e)
cut-once told whole once (Err ended) (Ok b) e = absurd (whole b _ (sym e))
cut-once told whole once (Err ended) (Err other) e = refl

pub fault-once : {A B : Type 0} (told : A → Outcome B) → ((a : A) (fault : Fault) → told a ≡ no fault → ⊥) → ((a b : A) → told a ≡ told b → a ≡ b) → (r q : Result A Fault) → told_fault told r ≡ told_fault told q → r ≡ q
fault-once told whole once (Ok a) (Ok b) e = ap Ok (once a b e)
fault-once told whole once (Ok a) (Err fault) e = absurd (whole a _ e)
fault-once told whole once (Err fault) (Ok b) e = absurd (whole b _ (sym e))
fault-once told whole once (Err fault) (Err other) e = cc

-- ---- of `read_number`,
pub number-once : (a b : Result (ℕ × ℕ) Ended) → told_number a ≡ told_number b → a ≡ b
number-once = cut-once _ (λ a fault e. apart e) λ a b e. both (cc) (cc)

-- of `read_byte`,
pub byte-once : (a b : Result (ℕ × ℕ) Ended) → told_byte a ≡ told_byte b → a ≡ b
byte-once = cut-once _ (λ a fault e. apart e) λ a b e. both (cc) (cc)

-- of `read_place`,
pub place-once : (a b : Result (Place × ℕ) Ended) → told_place a ≡ told_place b → a ≡ b
place-once = cut-once _ (λ a fault e. apart e) λ a b e. both (cc) (cc)

-- of `read_failure`,
pub failure-once : (a b : Result Failure Ended) → told_failure a ≡ told_failure b → a ≡ b
failure-once = cut-once _ (λ a fault e. apart e) λ a b e. cc

-- of `read_bytes`,
pub bytes-once : (a b : Result Span Ended) → told_bytes a ≡ told_bytes b → a ≡ b
bytes-once = cut-once _ (λ a fault e. apart e) λ a b e. cc

-- of `read_list`,
pub list-once : (kind : Kind) (a b : Result Entries Fault) → told_list kind a ≡ told_list kind b → a ≡ b
list-once kind = fault-once _ (λ a fault e. apart e) λ a b e. cc

-- of `read_track`,
pub track-once : (a b : Result Track Fault) → told_track a ≡ told_track b → a ≡ b
track-once = fault-once _ (λ a fault e. apart e) λ a b e. cc

-- of `entry_at`,
pub entry-once : (a b : Result Entry Fault) → told_entry a ≡ told_entry b → a ≡ b
entry-once = fault-once _ (λ a fault e. apart e) λ a b e. cc

-- of `walk`
pub walk-once : (a b : Result Sums Fault) → told_walk a ≡ told_walk b → a ≡ b
walk-once = fault-once _ (λ a fault e. apart e) λ a b e. cc
