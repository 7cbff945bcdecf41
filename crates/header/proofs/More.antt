-- Where 1 is answered on a stream, more bytes can still decide. Assumes nothing.
use Prim.Native.Nat.{ℕ}
use mathlib.Core.Path.{◌≡◌, refl, sym, ap, ◌∙◌}
use mathlib.Core.List.{List, ◌++◌}
use native.Mathlib.Omega.{arith}
use Rattle.common.specs.Answer.{Answer, refused}
use Rattle.common.proofs.Cases.{apart}
use Rattle.field.specs.Outcome.{Outcome, whole, no, fault_number, answer}
use Rattle.field.specs.Entries.{number_at}
use Rattle.field.specs.Fields.{integer, field_at}
use Rattle.field.specs.declared.Fault.{Fault}
use Rattle.field.specs.declared.Fault.TheVariants.{Cut, Forbidden, Oversize}
use Rattle.field.specs.declared.Piece.{Piece}
use Rattle.field.proofs.Unjudged.{number-refused}
use Rattle.layout.specs.Layout.{Layout, forbidden, field, scan}
use Rattle.layout.specs.Typed.{Typed, typed}
use Rattle.layout.specs.declared.FieldName.TheVariants.{MessageType}
use Rattle.layout.proofs.Cuts.{more-decides}
use Rattle.header.specs.Layouts.{InTable, listed, on_listed}
use Rattle.header.specs.Reading.{headed_of}
use Rattle.header.proofs.Front.{Judged, no-type, not_listed, by-fields, judged}

-- ---- 1 is the answer for cut fields, and for no others

only-cut : (fault : Fault) → fault_number 1 fault ≡ 1 → fault ≡ Cut
only-cut Cut h = refl
only-cut Forbidden h = absurd (omega arith)
only-cut Oversize h = absurd (omega arith)

was-cut : {A : Type 0} (o : Outcome A) → answer 1 o ≡ refused 1 → o ≡ no Cut
was-cut (whole a end) h = absurd (apart (sym h))
was-cut (no fault) h = ap no (only-cut fault (cc))

-- so it is with a type before them
typed-cut : (type : ℕ) (o : Outcome (List Piece)) → answer 1 (typed type o) ≡ refused 1 → o ≡ no Cut
typed-cut type (whole ps end) h = absurd (apart (sym h))
typed-cut type (no fault) h = ap no (only-cut fault (cc))

-- ---- a type is a field like others

-- the layout that begins with it; what follows an unknown one is not read
abbrev headed : (ℕ → InTable) → Layout
headed types = field MessageType integer λ type. on_listed (types type) forbidden (λ l. l)

-- where there is no type, or its fields are cut, this layout is cut
no_number : (types : ℕ → InTable) (s : List ℕ) {fault : Fault} → number_at s 0 ≡ no fault → scan (headed types) s 0 ≡ no Cut
unfolding scan field_at
no_number types s e = rw e (ap no (number-refused s 0 e))

fields-cut : (types : ℕ → InTable) (s : List ℕ) {type at : ℕ} {l : Layout} → number_at s 0 ≡ whole type at → types type ≡ listed l → scan l s at ≡ no Cut → scan (headed types) s 0 ≡ no Cut
unfolding scan field_at
fields-cut types s e f h = rw (e, f, h)

-- and these are all that 1 is answered for
headed-cut : (types : ℕ → InTable) (s : List ℕ) → headed_of 1 types s ≡ refused 1 → scan (headed types) s 0 ≡ no Cut
headed-cut types s = go (judged 1 types s)
  where
    go : {a : Answer Typed} → Judged 1 types s a → a ≡ refused 1 → scan (headed types) s 0 ≡ no Cut
    go (no-type e) k = no_number types s e
    go (not_listed e f) k = absurd (let z : ◌≡◌ {A = ℕ} 2 1 = cc in omega arith)
    go (by-fields {type = type} {o = o} e f h) k = fields-cut types s e f (h ∙ typed-cut type o k)

-- ---- so more bytes can decide

pub bare-more : (l : Layout) (s : List ℕ) → (rest : List ℕ) × (answer 1 (scan l (s ++ rest) 0) ≡ refused 1 → ⊥)
bare-more l s = let m = more-decides l s 0 in (m.0, λ h. m.1 (was-cut (scan l (s ++ m.0) 0) h))

pub headed-more : (types : ℕ → InTable) (s : List ℕ) → (rest : List ℕ) × (headed_of 1 types (s ++ rest) ≡ refused 1 → ⊥)
headed-more types s = let m = more-decides (headed types) s 0 in (m.0, λ h. m.1 (headed-cut types (s ++ m.0) h))
