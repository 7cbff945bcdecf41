-- What each reader's answer is, in the terms of the definitions.
use Rattle.std.specs.Prelude.{ℕ, Result, Ok, Err}
use Rattle.integer.specs.declared.Cut.{Cut as Ended}
use Rattle.field.specs.Outcome.{Outcome, whole, no}
use Rattle.field.specs.Entries.{Listed}
use Rattle.field.specs.declared.Entries.{Entries}
use Rattle.field.specs.declared.Span.{Span}
use Rattle.field.specs.declared.Track.{Track}
use Rattle.field.specs.declared.Fault.{Fault}
use Rattle.field.specs.declared.Fault.TheVariants.{Cut}
use Rattle.field.specs.declared.Entry.{Entry}
use Rattle.field.specs.declared.Kind.{Kind}
use Rattle.field.specs.declared.Piece.{Piece}
use Rattle.field.specs.declared.Piece.TheVariants.{Number, Byte, Bytes, List as Listing, Track as Tracked}
use Rattle.field.specs.declared.Place.{Place}
use Rattle.field.specs.declared.Failure.{Failure}
use Rattle.field.specs.declared.Sums.{Sums}

-- the bytes ended before what was read
abbrev pub told_cut : {A B : Type 0} → (A → Outcome B) → Result A Ended → Outcome B
told_cut told (Ok a) = told a
told_cut told (Err ended) = no Cut

-- what was read is at fault
abbrev pub told_fault : {A B : Type 0} → (A → Outcome B) → Result A Fault → Outcome B
told_fault told (Ok a) = told a
told_fault told (Err fault) = no fault

abbrev pub told_number : Result (ℕ × ℕ) Ended → Outcome Piece
told_number = told_cut λ (n, end). whole (Number n) end

abbrev pub told_byte : Result (ℕ × ℕ) Ended → Outcome Piece
told_byte = told_cut λ (b, end). whole (Byte b) end

abbrev pub told_place : Result (Place × ℕ) Ended → Outcome Place
told_place = told_cut λ (p, end). whole p end

abbrev pub told_failure : Result Failure Ended → Outcome Failure
told_failure = told_cut λ f. whole f f.reason.end

abbrev pub told_bytes : Result Span Ended → Outcome Piece
told_bytes = told_cut λ p. whole (Bytes p) p.end

abbrev pub told_counted : Result (Entries × ℕ) Fault → Outcome Listed
told_counted = told_fault λ (l, held). whole (record { entries = l; held = held }) l.end

abbrev pub told_list : Kind → Result Entries Fault → Outcome Piece
told_list kind = told_fault λ l. whole (Listing kind l) l.end

abbrev pub told_track : Result Track Fault → Outcome Piece
told_track = told_fault λ t. whole (Tracked t) t.name.end

abbrev pub told_entry : Result Entry Fault → Outcome Entry
told_entry = told_fault λ e. whole e e.bytes.end

abbrev pub told_walk : Result Sums Fault → Outcome Sums
told_walk = told_fault λ w. whole w w.end
