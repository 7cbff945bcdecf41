-- Where a field is cut, more bytes could still decide it: found, or refused for something else. Assumes nothing.
use Prim.Native.Nat.{ℕ, zero, suc, ◌+◌, ◌-◌, ◌≤◌}
use mathlib.Core.Path.{◌≡◌, refl}
use mathlib.Core.List.{List, ◌++◌, append_assoc}
use mathlib.Core.Bool.{Bool, true, false}
use native.Mathlib.Omega.{arith}
use lib.ListN.{length, get_or, drop, replicate, length-append, length-drop, length-replicate, replicate-append-replicate}
use lib.Dec.{leb}
use borrow.Author.Tests.{le-leb, lt-ltb}
use Rattle.common.specs.Answer.{Answer, whole as answered, refused}
use Rattle.common.specs.Choice.{pick}
use Rattle.integer.specs.Integer.{read_of, on_read, greatest}
use Rattle.integer.proofs.Widths.{wide_form}
use Rattle.integer.proofs.Front.{cut-is}
use Rattle.field.specs.Outcome.{Outcome, whole, no, and_then}
use Rattle.field.specs.Entries.{size, number_at, text_at, numbered_at, entry_at, most_of, entries_at, few, list_at}
use Rattle.field.specs.Fields.{FieldForm, integer, byte, bytes, list, track, field_at}
use Rattle.field.specs.declared.Fault.{Fault}
use Rattle.field.specs.declared.Fault.TheVariants.{Cut, Oversize}
use Rattle.field.specs.declared.Kind.{Kind}
use Rattle.field.specs.declared.Kind.TheVariants.{Namespace, Parameters, Versions}
use Rattle.field.proofs.Unjudged.{apart}
use Rattle.field.proofs.Stable.{Stays, keeps-whole, number-stays, text-stays, entry-stays, entries-stays, list-stays}

-- ---- how many bytes decide a reading: with that many zeros after, it is not cut

pub record Decided {A : Type 0} (f : List ℕ → Outcome A) (s : List ℕ) : Type 0 where
  pub more : ℕ
  pub decides : f (s ++ replicate more 0) ≡ no Cut → ⊥

-- none, where bytes don't matter: something was found,
pub found-decided : {A : Type 0} {a : A} {end : ℕ} (s : List ℕ) → Decided (λ u. whole a end) s
found-decided s = record { more = 0; decides = apart }

-- or refused, and not for want of bytes;
pub refused-decided : {A : Type 0} {fault : Fault} → (fault ≡ Cut → ⊥) → (s : List ℕ) → Decided {A = A} (λ u. no fault) s
refused-decided other s = record { more = 0; decides = λ h. other (cc) }

-- as many as are enough, whatever they are;
enough-decided : {A : Type 0} {f : List ℕ → Outcome A} (enough : ℕ) → ((u : List ℕ) → enough ≤ length u → f u ≡ no Cut → ⊥) → (s : List ℕ) → Decided f s
enough-decided enough decides s =
    record { more = enough; decides = decides (s ++ replicate enough 0) (rw (length-append, length-replicate) (omega arith)) }

-- as many as for what a test picks;
pub pick-decided : {A : Type 0} (t : Bool) {f g : List ℕ → Outcome A} {s : List ℕ} → Decided f s → Decided g s → Decided (λ u. pick t (f u) (g u)) s
pick-decided true d e = d
pick-decided false d e = e

-- and for one thing after another, those of the first, and after them those of the next
pub then-decided : {A B : Type 0} {f : List ℕ → Outcome A} {g : A → ℕ → List ℕ → Outcome B} → ((s t : List ℕ) → Stays (f s) (f (s ++ t))) → ((s : List ℕ) → Decided f s) → ((a : A) (end : ℕ) (s : List ℕ) → Decided (g a end) s)
    → (s : List ℕ) → Decided (λ u. and_then (f u) λ a end. g a end u) s
then-decided {A} {f = f} {g = g} stays first next s = go (f (s ++ replicate (first s).more 0)) refl
  where
    go : (o : Outcome A) → f (s ++ replicate (first s).more 0) ≡ o → Decided (λ u. and_then (f u) λ a end. g a end u) s
    go (whole a end) e =
        let m = (first s).more in
        let n = next a end (s ++ replicate m 0) in
        let found = keeps-whole (stays (s ++ replicate m 0) (replicate n.more 0)) e in
        record { more = m + n.more; decides = λ h. n.decides (rw (← replicate-append-replicate {A = ℕ} m n.more 0, ← append_assoc, found) at h) }
    go (no fault) e =
        record { more = (first s).more; decides = λ h. let k = rw e at h in let z : fault ≡ Cut = cc in (first s).decides (rw z at e) }

-- ---- what stands at an offset

-- an integer: eight bytes are enough
number-decided : (at : ℕ) (s : List ℕ) → Decided (λ u. number_at u at) s
unfolding number_at
number-decided at = enough-decided (at + 8) λ u room. go u room (read_of (drop at u)) refl
  where
    go : (u : List ℕ) → at + 8 ≤ length u → (r : Answer ℕ) → read_of (drop at u) ≡ r → on_read r (no Cut) (λ n used. whole n (at + used)) ≡ no Cut → ⊥
    go u room (answered n used) e h = apart h
    go u room (refused k) e h =
        omega (arith, rw length-drop at (cut-is (drop at u) e).1, (wide_form (get_or (drop at u) 0 0)).few)

-- over a size is not cut
oversize : Oversize ≡ Cut → ⊥
oversize h = let z : ◌≡◌ {A = ℕ} 0 1 = cc in omega arith

-- a length and bytes: as many as it says
text-decided : (most at : ℕ) (s : List ℕ) → Decided (λ u. text_at most u at) s
unfolding text_at
text-decided most at =
    then-decided (λ s t. number-stays s t at) (number-decided at)
    (λ n start s. pick-decided (leb n most)
    (enough-decided (start + n) (λ u room h. apart (rw (le-leb n (length u - start) (omega arith)) at h)) s)
    (refused-decided oversize s))

-- an entry
numbered-decided : (number most at : ℕ) (s : List ℕ) → Decided (λ u. numbered_at number most u at) s
unfolding numbered_at
numbered-decided number most at =
    then-decided (λ s t. text-stays s t most at) (text-decided most at) (λ p end. found-decided)

entry-decided : (kind : Kind) (most at : ℕ) (s : List ℕ) → Decided (λ u. entry_at kind most u at) s
unfolding entry_at
entry-decided Namespace most at = numbered-decided 0 most at
entry-decided Parameters most at =
    then-decided (λ s t. number-stays s t at) (number-decided at) (λ type next. numbered-decided type most next)
entry-decided Versions most at =
    then-decided (λ s t. number-stays s t at) (number-decided at) (λ version end. found-decided)

-- a run of entries
entries-decided : (sized : Bool) (kind : Kind) (count held at : ℕ) (s : List ℕ) → Decided (λ u. entries_at sized kind count held u at) s
unfolding entries_at
entries-decided sized kind zero held at = found-decided
entries-decided sized kind (suc count) held at =
    then-decided (λ s t. entry-stays s t kind (most_of sized kind held) at) (entry-decided kind (most_of sized kind held) at)
    (λ e end. entries-decided sized kind count (held + size e.bytes) end)

-- a count and entries
list-decided : (kind : Kind) (at : ℕ) (s : List ℕ) → Decided (λ u. list_at kind u at) s
unfolding list_at
list-decided kind at =
    then-decided (λ s t. number-stays s t at) (number-decided at)
    (λ count first s. pick-decided (few kind count)
    (then-decided (λ s t. entries-stays s t true kind count 0 first) (entries-decided true kind count 0 first) (λ held end. found-decided) s)
    (refused-decided oversize s))

-- a field
pub field-decided : (form : FieldForm) (at : ℕ) (s : List ℕ) → Decided (λ u. field_at form u at) s
unfolding field_at
field-decided integer at =
    then-decided (λ s t. number-stays s t at) (number-decided at) (λ n end. found-decided)
field-decided byte at =
    enough-decided (at + 1) (λ u room h. apart (rw (lt-ltb at (length u) (omega arith)) at h))
field-decided bytes at =
    then-decided (λ s t. text-stays s t greatest at) (text-decided greatest at) (λ p end. found-decided)
field-decided (list kind) at =
    then-decided (λ s t. list-stays s t kind at) (list-decided kind at) (λ l end. found-decided)
field-decided track at =
    then-decided (λ s t. list-stays s t Namespace at) (list-decided Namespace at)
    (λ l next. then-decided (λ s t. text-stays s t (most_of true Namespace l.held) next) (text-decided (most_of true Namespace l.held) next) (λ name end. found-decided))
