-- What a field is, by what was read of its value. Assumes nothing.
use Rattle.std.proofs.Common.{◌≡◌, ℕ, ◌<◌, List, length, get_or, sym, ap, ◌∙◌, arith, eq-eqb, ne_eqb}
use Rattle.std.specs.Prelude.{Ok, Err}
use Rattle.common.specs.Answer.{number}
use Rattle.field.specs.Outcome.{whole, no}
use Rattle.field.specs.Fields.{field_at, integer, place_at}
use Rattle.field.specs.declared.Fault.TheVariants.{Cut}
use Rattle.field.specs.declared.Piece.TheVariants.{Number}
use Rattle.field.specs.declared.Place.{Place}
use Rattle.field.proofs.Found.{number-at}
use Rattle.field.proofs.TwoReads.{number-missing, number-there}
use Rattle.types.specs.Limits.{longest_body}
use Rattle.types.specs.declared.Refusal.{Refusal}
use Rattle.message.specs.Reading.{Reading, read_of, told}
use Rattle.message.specs.declared.Message.{Message}
use Rattle.message.proofs.OneReading.{reading-only}
use Rattle.replay.specs.Events.{part_by, started_by, malformed_by, reading_by, control_by, arrived_by}
use Rattle.replay.specs.declared.Event.{Event}
use Rattle.replay.specs.declared.Event.TheVariants.{Control, Arrived, Fault}

-- ---- tag 1

module _ (value : List ℕ) where
  pub start-cut : no Cut ≡ field_at integer value 1 → Fault ≡ started_by value
  unfolding started_by
  start-cut said = rw (number-missing value 1 said)

  module _ {n end : ℕ} (said : whole (Number n) end ≡ field_at integer value 1) where
    pub start-over : (end ≡ length value → ⊥) → Fault ≡ started_by value
    unfolding started_by
    start-over k = rw (number-there value 1 said, ne_eqb end (length value) k)

    -- after a part there is a maximum
    pub start-part : 0 < length value
    start-part =
        let w = number-at value 1 (number-there value 1 said) in
        omega (arith, w.after, w.within)

    pub start-filled : {e : Event} → end ≡ length value → e ≡ part_by (get_or value 0 0) n → e ≡ started_by value
    unfolding started_by
    start-filled k is = rw (number-there value 1 said, eq-eqb end (length value) k) is

-- ---- tag 2

-- a reading tells the field:
control-by : (value : List ℕ) (r : Reading) → told r ≡ read_of value → reading_by value r ≡ control_by value
unfolding control_by
control-by value r said = ap (reading_by value) (reading-only longest_body value r said)

-- no message,
pub control-else : (value : List ℕ) (refusal : Refusal) {e : Event} → told (Err refusal) ≡ read_of value → e ≡ malformed_by (number (told (Err refusal))) → e ≡ control_by value
control-else value refusal said is = is ∙ control-by value (Err refusal) said

-- or a message
module _ (value : List ℕ) (m : Message) {used : ℕ} (said : told (Ok (m, used)) ≡ read_of value) where
  pub control-over : (used ≡ length value → ⊥) → Fault ≡ control_by value
  control-over k = rw (ne_eqb used (length value) k) at (control-by value (Ok (m, used)) said)

  pub control-filled : used ≡ length value → Control m ≡ control_by value
  control-filled k = rw (eq-eqb used (length value) k) at (control-by value (Ok (m, used)) said)

-- ---- tag 3

module _ (value : List ℕ) where
  pub arrival-cut : no Cut ≡ field_at integer value 0 → Fault ≡ arrived_by value
  unfolding arrived_by
  arrival-cut said = rw (number-missing value 0 said)

  module _ {alias next : ℕ} (said : whole (Number alias) next ≡ field_at integer value 0) where
    pub arrival-half : no Cut ≡ place_at value next → Fault ≡ arrived_by value
    unfolding arrived_by
    arrival-half then = rw (number-there value 0 said, sym then)

    module _ {place : Place} {end : ℕ} (then : whole place end ≡ place_at value next) where
      pub arrival-over : (end ≡ length value → ⊥) → Fault ≡ arrived_by value
      unfolding arrived_by
      arrival-over l = rw (number-there value 0 said, sym then, ne_eqb end (length value) l)

      pub arrival-filled : end ≡ length value → Arrived (record { alias = alias; place = place }) ≡ arrived_by value
      unfolding arrived_by
      arrival-filled l = rw (number-there value 0 said, sym then, eq-eqb end (length value) l)
