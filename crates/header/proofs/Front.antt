-- A header after its type: what each answer comes from, each way round; what follows changes none but a cut one. Assumes nothing.
use Prim.Native.Nat.{ℕ}
use mathlib.Core.Path.{◌≡◌, refl, sym, ap, ◌∙◌}
use mathlib.Core.List.{List, ◌++◌}
use Rattle.common.specs.Answer.{Answer, whole as answered, refused}
use Rattle.common.proofs.Cases.{apart}
use Rattle.field.specs.Outcome.{Outcome, whole, no, on_found, answer}
use Rattle.field.specs.Entries.{number_at}
use Rattle.field.specs.Fields.{integer}
use Rattle.field.specs.declared.Fault.{Fault}
use Rattle.field.specs.declared.Fault.TheVariants.{Cut}
use Rattle.field.specs.declared.Piece.{Piece}
use Rattle.field.proofs.Stable.{Stays, same, cut as was-cut, keeps-whole, field-stays}
use Rattle.field.proofs.Unjudged.{as_number, found_number}
use Rattle.layout.specs.Layout.{Layout, scan}
use Rattle.layout.specs.Typed.{Typed, typed}
use Rattle.layout.proofs.Stable.{stays}
use Rattle.header.specs.Layouts.{InTable, listed, unlisted, on_listed}
use Rattle.header.specs.Reading.{headed_of}

-- what is told whole was read whole
pub was-whole : {A : Type 0} {a : A} {used : ℕ} (o : Outcome A) → answer 1 o ≡ answered a used → o ≡ whole a used
was-whole (whole b end) h = cc
was-whole (no fault) h = absurd (apart h)

-- ---- what an answer comes from

-- there is no type; it is unknown; or it names a layout, by which the fields are read
pub data Judged (cut : ℕ) (types : ℕ → InTable) (s : List ℕ) : Answer Typed → Type 0 where
  no-type : {fault : Fault} → number_at s 0 ≡ no fault → Judged cut types s (refused cut)
  not_listed : {type at : ℕ} → number_at s 0 ≡ whole type at → types type ≡ unlisted → Judged cut types s (refused 2)
  by-fields : {type at : ℕ} {l : Layout} {o : Outcome (List Piece)} → number_at s 0 ≡ whole type at → types type ≡ listed l → scan l s at ≡ o → Judged cut types s (answer cut (typed type o))

module _ (cut : ℕ) (types : ℕ → InTable) (s : List ℕ) where
  -- every answer comes from one of these,
  by-type : (type at : ℕ) (n : InTable) → number_at s 0 ≡ whole type at → types type ≡ n → Judged cut types s (on_listed n (refused 2) (λ l. answer cut (typed type (scan l s at))))
  by-type type at (listed l) e f = by-fields e f refl
  by-type type at unlisted e f = not_listed e f

  by_number : (o : Outcome ℕ) → number_at s 0 ≡ o → Judged cut types s (on_found o (refused cut) (λ type at. on_listed (types type) (refused 2) (λ l. answer cut (typed type (scan l s at)))))
  by_number (whole type at) e = by-type type at (types type) e refl
  by_number (no fault) e = no-type e

  pub judged : Judged cut types s (headed_of cut types s)
  unfolding headed_of
  judged = by_number (number_at s 0) refl

  -- which gives the answer
  answer-is : {a : Answer Typed} → Judged cut types s a → headed_of cut types s ≡ a
  unfolding headed_of
  answer-is (no-type e) = rw e
  answer-is (not_listed e f) = rw (e, f)
  answer-is (by-fields e f h) = rw (e, f, h)

-- ---- a whole header

-- its type, which names a layout, and its fields after it
pub record HeadedAt (types : ℕ → InTable) (s : List ℕ) (t : Typed) (used : ℕ) : Type 0 where
  pub layout : Layout
  pub next : ℕ
  pub type_at : number_at s 0 ≡ whole t.type next
  pub named : types t.type ≡ listed layout
  pub fields : scan layout s next ≡ whole t.pieces used

-- what holds of a header and its end holds of those that the same answer tells
as-answered : (P : Typed → ℕ → Type 0) {m t : Typed} {end used : ℕ} → P m end → answered m end ≡ answered t used → P t used
as-answered P {m} {t} {end} {used} p h =
    let e : t ≡ m = cc in
    let z : used ≡ end = cc in
    rw (e, z) p

module _ (cut : ℕ) (types : ℕ → InTable) (s : List ℕ) {t : Typed} {used : ℕ} where
  whole_fields : {type at : ℕ} {l : Layout} (o : Outcome (List Piece)) → number_at s 0 ≡ whole type at → types type ≡ listed l → scan l s at ≡ o → answer cut (typed type o) ≡ answered t used → HeadedAt types s t used
  whole_fields {type} {at} {l} (whole ps end) e f h =
      as-answered (HeadedAt types s) (record { layout = l; next = at; type_at = e; named = f; fields = h })
  whole_fields (no fault) e f h = λ k. absurd (apart k)

  -- what was read has these parts,
  pub parts : headed_of cut types s ≡ answered t used → HeadedAt types s t used
  parts = go (judged cut types s)
    where
      go : {a : Answer Typed} → Judged cut types s a → a ≡ answered t used → HeadedAt types s t used
      go (no-type e) k = absurd (apart k)
      go (not_listed e f) k = absurd (apart k)
      go (by-fields {o = o} e f h) k = whole_fields o e f h k

  -- and with these parts it is read
  pub joined : HeadedAt types s t used → headed_of cut types s ≡ answered t used
  joined w = answer-is cut types s (by-fields w.type_at w.named w.fields)

-- ---- what follows

-- fields that are not cut stay,
steady : {A : Type 0} {o u : Outcome A} → (o ≡ no Cut → ⊥) → Stays o u → u ≡ o
steady other same = refl
steady other was-cut = absurd (other refl)

pub scan-steady : (l : Layout) (s rest : List ℕ) (at : ℕ) → (scan l s at ≡ no Cut → ⊥) → scan l (s ++ rest) at ≡ scan l s at
scan-steady l s rest at other = steady other (stays l s rest at)

module _ (cut : ℕ) (types : ℕ → InTable) (s rest : List ℕ) where
  -- so does a type,
  number-stays : {n end : ℕ} → number_at s 0 ≡ whole n end → number_at (s ++ rest) 0 ≡ whole n end
  number-stays h = found_number (s ++ rest) 0 (keeps-whole (field-stays s rest integer 0) (as_number s 0 h))

  judged-stays : {a : Answer Typed} → (a ≡ refused cut → ⊥) → Judged cut types s a → Judged cut types (s ++ rest) a
  judged-stays other (no-type e) = absurd (other refl)
  judged-stays other (not_listed e f) = not_listed (number-stays e) f
  judged-stays other (by-fields {type = type} {at = at} {l = l} e f h) =
      by-fields (number-stays e) f (scan-steady l s rest at (λ k. other (ap (λ o. answer cut (typed type o)) (sym h ∙ k))) ∙ h)

  -- and so does the answer, unless it is the one for a cut header
  pub headed-steady : (headed_of cut types s ≡ refused cut → ⊥) → headed_of cut types (s ++ rest) ≡ headed_of cut types s
  headed-steady other = answer-is cut types (s ++ rest) (judged-stays other (judged cut types s))
