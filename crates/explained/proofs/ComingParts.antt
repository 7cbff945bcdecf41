-- What is to come at a cursor: parts, when what stands there is how they begin, and behind each part the rest of them is
-- to come. What is to come is told. Assumes nothing.
use Prim.Native.Nat.{ℕ, ◌+◌, ◌-◌, ◌≤◌}
use mathlib.Core.Path.{◌≡◌, refl, ap, subst, ◌∙◌}
use mathlib.Core.List.{List}
use mathlib.Core.Bool.{Bool, true, false}
use native.Mathlib.Omega.{arith}
use lib.ListN.{length, take, get_or}
use lib.Dec.{leb, ltb}
use borrow.Author.Tests.{le-leb, leb-true, ltb-true}
use Rattle.common.specs.Choice.{guard}
use Rattle.common.proofs.Tests.{both_false}
use Rattle.common.proofs.Cases.{pick-by}
use Rattle.field.specs.Outcome.{Outcome, whole, no, on_found, fault_number}
use Rattle.field.specs.Entries.{number_at}
use Rattle.field.specs.declared.Fault.{Fault}
use Rattle.field.proofs.Found.{number-at}
use Rattle.layout.specs.declared.FieldName.{FieldName}
use Rattle.layout.specs.declared.FieldName.TheVariants.{MessageLength}
use Rattle.outline.specs.declared.Outline.{Outline}
use Rattle.parts.specs.Advancing.{advanced}
use Rattle.parts.specs.Telling.{part_of, going, staying, cut_by, cut_in, must_fill, ended_at, tell_number, tell_byte, tell_bytes, tell_in, next_of}
use Rattle.parts.specs.declared.What.{What}
use Rattle.parts.specs.declared.What.TheVariants.{Byte as AByte, Left}
use Rattle.parts.specs.declared.Part.{Part}
use Rattle.parts.specs.declared.Stage.TheVariants.{Field as AtField}
use Rattle.parts.specs.declared.Cursor.{Cursor}
use Rattle.parts.specs.declared.Step.TheVariants.{Refused as IsRefused, Faulty}
use Rattle.parts.specs.declared.NextPart.{NextPart}
use Rattle.explained.specs.Grammar.{Parts, end, stop, a_number, a_byte, some_bytes}
use Rattle.explained.specs.Explaining.{Explained, taking, first, cut_at, explain}
use Rattle.explained.specs.Tiling.{Tells, part, before, here, all}
use Rattle.explained.proofs.FilledBytes.{ended, ended-refusing, ended-found, ended-guard}

-- ---- a step

-- a cursor that sees some bytes of those that there are, and what is answered where they end in its part
pub record Sees (s seen : List ℕ) (cut : ℕ) (c : Cursor) : Type 0 where
  pub seen-is : take c.end s ≡ seen
  pub cuts : cut_by c.place.outline c.stage ≡ cut

module _ {s seen : List ℕ} {cut : ℕ} {c : Cursor} (sees : Sees s seen cut c) where
  -- the next step is looked for among these bytes
  step_is : {t : NextPart} → tell_in seen c ≡ t → next_of s c ≡ t
  unfolding next_of
  step_is e = ap (λ (t : List ℕ). tell_in t c) sees.seen-is ∙ e

  -- a part, and what is told behind it,
  tells-part : {d : Cursor} (p : Part) (e : Explained) → tell_in seen c ≡ going p d → Tells s d e → Tells s c (first p e)
  tells-part p e h t = part {p = p} {e = e} (step_is h) t

  -- or one in which the bytes end
  tells-cut : (name : FieldName) (what : What) → tell_in seen c ≡ cut_in (length seen) c name what → Tells s c (cut_at cut name what seen c.at)
  unfolding cut_in
  tells-cut name what h =
      let p = part_of name what 0 c.at (length seen) in
      here {p = p} (step_is (h ∙ ap (λ (n : ℕ). staying (Faulty p n) c) sees.cuts))

  -- an integer,
  pub tells-number : (name : FieldName) (what : What) (some : ℕ → ℕ → Explained) → tell_in seen c ≡ tell_number seen c name what → ((n mid : ℕ) → mid ≤ length seen → Tells s (advanced c n mid (length seen)) (some n mid))
      → Tells s c (on_found (number_at seen c.at) (cut_at cut name what seen c.at) (λ n mid. first (part_of name what n c.at mid) (some n mid)))
  unfolding tell_number
  tells-number name what some e k = go (number_at seen c.at) refl
    where
      go : (o : Outcome ℕ) → number_at seen c.at ≡ o → Tells s c (on_found o (cut_at cut name what seen c.at) (λ n mid. first (part_of name what n c.at mid) (some n mid)))
      go (whole n mid) f =
          tells-part (part_of name what n c.at mid) (some n mid) (e ∙ rw f) (k n mid (number-at seen c.at f).within)
      go (no fault) f = tells-cut name what (e ∙ rw f)

  -- a byte,
  tells-byte : (name : FieldName) (some : ℕ → ℕ → Explained) → tell_in seen c ≡ tell_byte seen c name → ((b mid : ℕ) → mid ≤ length seen → Tells s (advanced c b mid (length seen)) (some b mid))
      → Tells s c (guard (ltb c.at (length seen)) (cut_at cut name AByte seen c.at) (first (part_of name AByte (get_or seen c.at 0) c.at (c.at + 1)) (some (get_or seen c.at 0) (c.at + 1))))
  unfolding tell_byte
  tells-byte name some e k =
      let b = get_or seen c.at 0 in
      pick-by (Tells s c) (ltb c.at (length seen))
      (λ f. let g : c.at + 1 ≤ length seen = omega (arith, ltb-true c.at (length seen) f) in
      tells-part (part_of name AByte b c.at (c.at + 1)) (some b (c.at + 1)) (e ∙ rw f) (k b (c.at + 1) g))
      (λ f. tells-cut name AByte (e ∙ rw f))

  -- bytes,
  tells-bytes : (name : FieldName) (what : What) (n : ℕ) (some : ℕ → Explained) → tell_in seen c ≡ tell_bytes seen c name what n → c.at ≤ length seen → ((mid : ℕ) → mid ≤ length seen → Tells s (advanced c 0 mid (length seen)) (some mid))
      → Tells s c (guard (leb n (length seen - c.at)) (cut_at cut name what seen c.at) (first (part_of name what 0 c.at (c.at + n)) (some (c.at + n))))
  unfolding tell_bytes
  tells-bytes name what n some e h k =
      let z = le-leb c.at (length seen) h in
      pick-by (Tells s c) (leb n (length seen - c.at))
      (λ f. let g : c.at + n ≤ length seen = omega (arith, leb-true n (length seen - c.at) f) in
      tells-part (part_of name what 0 c.at (c.at + n)) (some (c.at + n)) (e ∙ rw (z, f)) (k (c.at + n) g))
      (λ f. tells-cut name what (e ∙ rw (z, f)))

  -- or nothing more
  tells-end : (must : Bool) → must_fill c.place.outline ≡ must → tell_in seen c ≡ ended_at (length seen) c → Tells s c (ended must (length seen) (taking c.at))
  unfolding ended_at
  tells-end true m e =
      pick-by (Tells s c) (ltb c.at (length seen))
      (λ f. here {p = part_of MessageLength Left 0 c.at (length seen)} {number = 4} (step_is (e ∙ rw (m, f))))
      (λ f. all {used = c.at} (step_is (e ∙ rw (m, f))))
  tells-end false m e = all {used = c.at} (step_is (e ∙ rw (m, both_false (ltb c.at (length seen)))))

-- ---- what is to come

-- the answer for a cut field
abbrev pub cut_of : Outline → ℕ
cut_of outline = cut_by outline AtField

-- a cursor that stands at an offset, in a field of what is laid out, when the bytes that it may take end at another
pub record Stands (outline : Outline) (last at : ℕ) (c : Cursor) : Type 0 where
  pub laid : c.place.outline ≡ outline
  pub here-at : c.at ≡ at
  pub ends_at : c.end ≡ last
  pub cuts : cut_by c.place.outline c.stage ≡ cut_of outline

-- what is to come, among bytes of a size
pub data Comes (outline : Outline) (last size : ℕ) : Cursor → ℕ → Parts → Type 0 where
  ends : {c : Cursor} {at : ℕ} → Stands outline last at c → ((t : List ℕ) → tell_in t c ≡ ended_at (length t) c) → Comes outline last size c at end
  stops : {c : Cursor} {at : ℕ} {fault : Fault} → ((t : List ℕ) → tell_in t c ≡ staying (IsRefused (fault_number (cut_of outline) fault)) c) → Comes outline last size c at (stop fault)
  reads : {c : Cursor} {at : ℕ} {name : FieldName} {what : What} {next : ℕ → Parts} → Stands outline last at c → ((t : List ℕ) → tell_in t c ≡ tell_number t c name what) → ((n mid : ℕ) → Comes outline last size (advanced c n mid size) mid (next n)) → Comes outline last size c at (a_number name what next)
  looks : {c : Cursor} {at : ℕ} {name : FieldName} {next : ℕ → Parts} → Stands outline last at c → ((t : List ℕ) → tell_in t c ≡ tell_byte t c name) → ((b mid : ℕ) → Comes outline last size (advanced c b mid size) mid (next b)) → Comes outline last size c at (a_byte name next)
  takes : {c : Cursor} {at : ℕ} {name : FieldName} {what : What} {n : ℕ} {next : Parts} → Stands outline last at c → ((t : List ℕ) → tell_in t c ≡ tell_bytes t c name what n) → ((mid : ℕ) → Comes outline last size (advanced c 0 mid size) mid next) → Comes outline last size c at (some_bytes name what n next)

-- ---- what is to come is told

module _ (outline : Outline) (last : ℕ) (s : List ℕ) where
  abbrev seen : List ℕ
  seen = take last s

  abbrev size : ℕ
  size = length seen

  abbrev cut : ℕ
  cut = cut_of outline

  abbrev must : Bool
  must = must_fill outline

  -- what is told of parts
  abbrev telling : Parts → ℕ → Explained
  telling ps at = ended must size (explain cut ps seen at)

  module _ {c : Cursor} {at : ℕ} (d : Stands outline last at c) where
    sees : Sees s seen cut c
    sees = record { seen-is = ap (λ (z : ℕ). take z s) d.ends_at; cuts = d.cuts }

    -- from the offset where the cursor stands
    stood : (ps : Parts) → Tells s c (telling ps c.at) → Tells s c (telling ps at)
    stood ps t = subst (λ (z : ℕ). Tells s c (telling ps z)) d.here-at t

  pub told : {c : Cursor} {at : ℕ} {ps : Parts} → Comes outline last size c at ps → at ≤ size → Tells s c (telling ps at)
  unfolding explain next_of
  told (ends d e) h = stood d end (tells-end (sees d) must (ap must_fill d.laid) (e seen))
  told {c} (stops {fault = fault} e) h =
      subst (Tells s c) (ended-refusing must size (fault_number cut fault)) (before (e (take c.end s)))
  told {c} (reads {name = name} {what = what} {next = next} d e k) h =
      stood d (a_number name what next)
      (subst (Tells s c) (ended-found must size (number_at seen c.at) _ cut _ (λ n mid. explain cut (next n) seen mid))
      (tells-number (sees d) name what (λ n mid. telling (next n) mid) (e seen) (λ n mid g. told (k n mid) g)))
  told {c} (looks {name = name} {next = next} d e k) h =
      stood d (a_byte name next)
      (subst (Tells s c) (ended-guard must size (ltb c.at size) _ cut _ (explain cut (next (get_or seen c.at 0)) seen (c.at + 1)))
      (tells-byte (sees d) name (λ b mid. telling (next b) mid) (e seen) (λ b mid g. told (k b mid) g)))
  told {c} (takes {name = name} {what = what} {n = n} {next = next} d e k) h =
      stood d (some_bytes name what n next)
      (subst (Tells s c) (ended-guard must size (leb n (size - c.at)) _ cut _ (explain cut next seen (c.at + n)))
      (tells-bytes (sees d) name what n (λ mid. telling next mid) (e seen) (omega (arith, d.here-at)) (λ mid g. told (k mid) g)))
