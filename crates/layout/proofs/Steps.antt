-- How a reader goes through a layout, call by call: what it has read so far, and where it stops. A rule for each answer of a reader
-- of a field, for the proofs of readers to search among. Assumes nothing.
use Prim.Native.Nat.{ℕ}
use mathlib.Core.Path.{◌≡◌, refl, sym, ap, ◌∙◌}
use mathlib.Core.List.{List, [], ◌∷◌, ◌++◌, append-nil, append_assoc}
use mathlib.Core.Bool.{Bool, true, false}
use Rattle.common.proofs.Tests.{tests}
use Rattle.field.specs.Outcome.{Outcome, whole, no, and_then}
use Rattle.integer.specs.Integer.{greatest}
use Rattle.field.specs.Entries.{number_at, text_at}
use Rattle.field.specs.Fields.{FieldForm, integer, byte, field_at, place_at, failure_at}
use Rattle.field.specs.declared.Fault.{Fault}
use Rattle.field.specs.declared.Fault.TheVariants.{Cut, Forbidden}
use Rattle.field.specs.declared.Piece.{Piece}
use Rattle.field.specs.declared.Piece.TheVariants.{Number, Byte, Bytes}
use Rattle.field.specs.declared.Place.{Place}
use Rattle.field.specs.declared.Failure.{Failure}
use Rattle.field.proofs.Unjudged.{as_number, as-text, as-no-number, as-no-text}
use Rattle.field.proofs.TwoReads.{place-parts, failure-parts, CutIn, first-cut, second-cut, place-stops, failure-stops}
use Rattle.layout.specs.Typed.{led}
use Rattle.layout.specs.declared.FieldName.{FieldName}
use Rattle.layout.specs.Layout.{Layout, done, forbidden, field, when, place, failure, control, scan}

-- ---- fields that come first

-- none of them changes nothing,
led-none : (o : Outcome (List Piece)) → led [] o ≡ o
led-none (whole qs end) = refl
led-none (no fault) = refl

-- and one more stands before them
led-one : (p : Piece) (ps : List Piece) (o : Outcome (List Piece)) → led (p ∷ ps) o ≡ and_then (led ps o) (λ qs end. whole (p ∷ qs) end)
led-one p ps (whole qs end) = refl
led-one p ps (no fault) = refl

-- fields before others before them
pub led-led : (ps qs : List Piece) (o : Outcome (List Piece)) → led (ps ++ qs) o ≡ led ps (led qs o)
led-led ps qs (whole rs end) = rw append_assoc
led-led ps qs (no fault) = refl

-- ---- how far a reading came: past some fields, to a layout that is still to be read

pub data To (s : List ℕ) : Layout → ℕ → List Piece → Layout → ℕ → Type 0 where
  there : {l : Layout} {at : ℕ} → To s l at [] l at
  then : {name : FieldName} {form : FieldForm} {next : ℕ → Layout} {at : ℕ} {p : Piece} {mid : ℕ} {ps : List Piece} {l : Layout} {end : ℕ} → whole p mid ≡ field_at form s at → To s (next (control p)) mid ps l end → To s (field name form next) at (p ∷ ps) l end
  yes : {t : Bool} {k m : Layout} {at : ℕ} {ps : List Piece} {l : Layout} {end : ℕ} → t ≡ true → To s k at ps l end → To s (when t k m) at ps l end
  else : {t : Bool} {k m : Layout} {at : ℕ} {ps : List Piece} {l : Layout} {end : ℕ} → t ≡ false → To s m at ps l end → To s (when t k m) at ps l end
  -- fields that another reader read, and a layout that is left of this one
  past : {k m : Layout} {at mid : ℕ} (ps qs : List Piece) {l : Layout} {end : ℕ} → led ps (scan m s mid) ≡ scan k s at → To s m mid qs l end → To s k at (ps ++ qs) l end

-- what is read after them is read after them
pub is-on : {s : List ℕ} {k : Layout} {at : ℕ} {ps : List Piece} {l : Layout} {end : ℕ} → To s k at ps l end → led ps (scan l s end) ≡ scan k s at
unfolding scan
is-on {s} {l} {end} there = led-none (scan l s end)
is-on {s} {l} {end} (then {p = p} {ps = ps} e w) = rw (← e, ← is-on w) (led-one p ps (scan l s end))
is-on (yes e w) = rw (e, ← is-on w)
is-on (else e w) = rw (e, ← is-on w)
is-on {s} {l} {end} (past ps qs e w) = led-led ps qs (scan l s end) ∙ ap (led ps) (is-on w) ∙ e

-- and where nothing is left to be read, the reading is whole
pub is_whole : {s : List ℕ} {k : Layout} {at : ℕ} {ps : List Piece} {end : ℕ} → To s k at ps done end → whole ps end ≡ scan k s at
unfolding scan
is_whole {ps} {end} w = rw (← is-on w) (rw append-nil)

-- ---- where a reading stops

pub data Stops (s : List ℕ) : Layout → ℕ → Fault → Type 0 where
  here : {name : FieldName} {form : FieldForm} {next : ℕ → Layout} {at : ℕ} {fault : Fault} → no fault ≡ field_at form s at → Stops s (field name form next) at fault
  later : {name : FieldName} {form : FieldForm} {next : ℕ → Layout} {at : ℕ} {p : Piece} {mid : ℕ} {fault : Fault} → whole p mid ≡ field_at form s at → Stops s (next (control p)) mid fault → Stops s (field name form next) at fault
  refused : {at : ℕ} → Stops s forbidden at Forbidden
  yes : {t : Bool} {l m : Layout} {at : ℕ} {fault : Fault} → t ≡ true → Stops s l at fault → Stops s (when t l m) at fault
  else : {t : Bool} {l m : Layout} {at : ℕ} {fault : Fault} → t ≡ false → Stops s m at fault → Stops s (when t l m) at fault
  -- where another reader stopped, and after what it read
  ends : {l : Layout} {at : ℕ} {fault : Fault} → no fault ≡ scan l s at → Stops s l at fault
  past : {l m : Layout} {at mid : ℕ} (ps : List Piece) {fault : Fault} → led ps (scan m s mid) ≡ scan l s at → Stops s m mid fault → Stops s l at fault

pub is-no : {s : List ℕ} {l : Layout} {at : ℕ} {fault : Fault} → Stops s l at fault → no fault ≡ scan l s at
unfolding scan
is-no (here e) = rw (← e)
is-no (later e w) = rw (← e, ← is-no w)
is-no refused = refl
is-no (yes e w) = rw (e, ← is-no w)
is-no (else e w) = rw (e, ← is-no w)
is-no (ends e) = e
is-no (past ps e w) = ap (led ps) (is-no w) ∙ e

-- ---- a reader that goes on where another came to, with the fields before

module _ {s : List ℕ} {k : Layout} {at : ℕ} where
  -- the first of them,
  pub handed-on : {o : Outcome (List Piece)} {ps : List Piece} {l : Layout} {end : ℕ} → o ≡ led ps (scan l s end) → To s k at ps l end → o ≡ scan k s at
  handed-on h w = h ∙ is-on w

  module _ (first : List Piece) where
    -- one that hands on again,
    pub passed_on : {o : Outcome (List Piece)} (ps : List Piece) {l : Layout} {end : ℕ} → o ≡ led (first ++ ps) (scan l s end) → To s k at ps l end → o ≡ led first (scan k s at)
    passed_on ps {l} {end} h w = h ∙ led-led first ps (scan l s end) ∙ ap (led first) (is-on w)

    -- and one that stops
    pub led-no : {fault : Fault} → Stops s k at fault → no fault ≡ led first (scan k s at)
    led-no w = rw (← is-no w)

-- ---- an integer, or a byte, that is known to be so much

module _ {s : List ℕ} {at : ℕ} {name : FieldName} {next : ℕ → Layout} {n mid k : ℕ} (known : n ≡ k) where
  pub number-past-as : {fault : Fault} → whole (Number n) mid ≡ field_at integer s at → Stops s (next k) mid fault → Stops s (field name integer next) at fault
  number-past-as e w = later (rw known at e) w

  pub byte-past-as : {fault : Fault} → whole (Byte n) mid ≡ field_at byte s at → Stops s (next k) mid fault → Stops s (field name byte next) at fault
  byte-past-as e w = later (rw known at e) w

  pub number-as : {ps : List Piece} {l : Layout} {end : ℕ} → whole (Number n) mid ≡ field_at integer s at → To s (next k) mid ps l end → To s (field name integer next) at (Number k ∷ ps) l end
  number-as e w = then (rw known at e) w

  pub byte-as : {ps : List Piece} {l : Layout} {end : ℕ} → whole (Byte n) mid ≡ field_at byte s at → To s (next k) mid ps l end → To s (field name byte next) at (Byte k ∷ ps) l end
  byte-as e w = then (rw known at e) w

-- ---- two fields at once: a place is two integers, a failure an integer and bytes

module _ {s : List ℕ} {at : ℕ} (group object : FieldName) (next : ℕ → ℕ → Layout) where
  pub place-cut : no Cut ≡ place_at s at → Stops s (place group object next) at Cut
  unfolding place
  place-cut e = go (place-stops s at (sym e))
    where
      go : CutIn (number_at s) s at → Stops s (place group object next) at Cut
      go (first-cut f) = here (sym (as-no-number s at f))
      go (second-cut {next = mid} f g) = later (sym (as_number s at f)) (here (sym (as-no-number s mid g)))

  module _ {p : Place} {mid : ℕ} (e : whole p mid ≡ place_at s at) where
    pub place-past : {fault : Fault} → Stops s (next p.group p.object) mid fault → Stops s (place group object next) at fault
    unfolding place
    place-past w =
        let t = place-parts s at (sym e) in
        later (sym (as_number s at t.first)) (later (sym (as_number s t.next t.second)) w)

    pub place-then : {ps : List Piece} {l : Layout} {end : ℕ} → To s (next p.group p.object) mid ps l end → To s (place group object next) at (Number p.group ∷ Number p.object ∷ ps) l end
    unfolding place
    place-then w =
        let t = place-parts s at (sym e) in
        then (sym (as_number s at t.first)) (then (sym (as_number s t.next t.second)) w)

module _ {s : List ℕ} {at : ℕ} (next : Layout) where
  pub failure-cut : no Cut ≡ failure_at s at → Stops s (failure next) at Cut
  unfolding failure
  failure-cut e = go (failure-stops s at (sym e))
    where
      go : CutIn (text_at greatest s) s at → Stops s (failure next) at Cut
      go (first-cut f) = here (sym (as-no-number s at f))
      go (second-cut {next = mid} f g) = later (sym (as_number s at f)) (here (sym (as-no-text s mid g)))

  module _ {f : Failure} {mid : ℕ} (e : whole f mid ≡ failure_at s at) where
    pub failure-past : {fault : Fault} → Stops s next mid fault → Stops s (failure next) at fault
    unfolding failure
    failure-past w =
        let t = failure-parts s at (sym e) in
        later (sym (as_number s at t.first)) (later (sym (as-text s t.next t.second)) w)

    pub failure-then : {ps : List Piece} {l : Layout} {end : ℕ} → To s next mid ps l end → To s (failure next) at (Number f.code ∷ Bytes f.reason ∷ ps) l end
    unfolding failure
    failure-then w =
        let t = failure-parts s at (sym e) in
        then (sym (as_number s at t.first)) (then (sym (as-text s t.next t.second)) w)

-- ---- the rules to search among, and those of the tests between fields

-- for a refusal
pub ruleset stopping = (refused, here, later, place-cut, place-past, failure-cut, failure-past, Stops.yes, Stops.else, tests)

-- for all that was read
pub ruleset going = (there, then, place-then, failure-then, To.yes, To.else, tests)
