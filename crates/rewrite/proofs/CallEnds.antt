-- What was read is written again, by the room alone: each end of a call does what is asked. Assumes nothing.
use Prim.Native.Nat.{ℕ, ◌≤◌, ◌<◌}
use mathlib.Core.Path.{◌≡◌, refl, ap, ◌∙◌}
use mathlib.Core.Bool.{Bool, true, false}
use mathlib.Core.List.{List, [], ◌∷◌}
use native.Mathlib.Omega.{arith}
use lib.ListN.{length}
use lib.Dec.{leb}
use borrow.Author.Tests.{le-leb, lt-leb}
use Rattle.common.specs.Choice.{pick}
use Rattle.common.specs.Answer.{Answer, whole, refused, Nothing, wrote, Written, Leaves}
use Rattle.common.specs.Buffer.{over}
use Rattle.encode.specs.Writing.{written_of}
use Rattle.rewrite.specs.Rewriting.{Does, putting, rewriting}
use Rattle.rewrite.specs.Ends.{end_number, end_info}

-- ---- the writer

-- bytes put by the room alone
abbrev pub fitted : List ℕ → List ℕ → Written
fitted bytes before = written_of true true true bytes before

-- what is refused with nothing but 7 is written by the room alone
pub by-room : (is_right is_sized is_short : Bool) (bytes before : List ℕ) → ((k : ℕ) → (written_of is_right is_sized is_short bytes before).says ≡ refused k → k ≡ 7) → written_of is_right is_sized is_short bytes before ≡ fitted bytes before
unfolding written_of
by-room true true true bytes before h = refl
by-room true true false bytes before h = let z : ◌≡◌ {A = ℕ} 3 7 = h 3 refl in absurd (omega (arith, z))
by-room true false is_short bytes before h = let z : ◌≡◌ {A = ℕ} 6 7 = h 6 refl in absurd (omega (arith, z))
by-room false is_sized is_short bytes before h = let z : ◌≡◌ {A = ℕ} 5 7 = h 5 refl in absurd (omega (arith, z))

-- ---- the ends of a call

module _ {A : Type 0} {read : Answer A} (form : A → List ℕ) (type : A → ℕ) (out info : List ℕ) where
  -- nothing was read
  pub refusing : {n : ℕ} → read ≡ refused n → Does (rewriting read form type out info) n out info
  refusing e = rw e (record { says = refl; leaves = refl; tells = refl })

  -- `info` is too short
  pub short : {a : A} {used : ℕ} → read ≡ whole a used → length info < 3 → Does (rewriting read form type out info) 7 out info
  unfolding putting
  short e h = rw (e, lt-leb 3 (length info) h) (record { says = refl; leaves = refl; tells = refl })

-- what the writer said and left, of that many bytes used, and what was then answered and told
pub record Ends (w : Written) (used type : ℕ) (info : List ℕ) (n : ℕ) (after told : List ℕ) : Type 0 where
  pub said : Answer Nothing
  pub leaves : Leaves w said after
  pub ends : n ≡ end_number said
  pub tells : told ≡ end_info said used type info

-- something was written, or there was no room
room : (b : Bool) (bytes : List ℕ) (used type : ℕ) (out info : List ℕ) {n : ℕ} {after told : List ℕ}
    → Ends (pick b (record { says = wrote (length bytes); holds = over bytes out }) (record { says = refused 7; holds = out })) used type info n after told
    → Does (pick b (record { says = 0; out = over bytes out; info = over (used ∷ length bytes ∷ type ∷ []) info }) (record { says = 7; out = out; info = info })) n after told
unfolding end_number end_info
room true bytes used type out info x =
    record { says = x.ends ∙ ap end_number x.leaves.says; leaves = x.leaves.holds; tells = x.tells ∙ ap (λ y. end_info y used type info) x.leaves.says }
room false bytes used type out info x =
    record { says = x.ends ∙ ap end_number x.leaves.says; leaves = x.leaves.holds; tells = x.tells ∙ ap (λ y. end_info y used type info) x.leaves.says }

-- `info` is long enough, and the writer was called
pub writing : {A : Type 0} {read : Answer A} (form : A → List ℕ) (type : A → ℕ) (out info : List ℕ) {a : A} {used n : ℕ} {after told : List ℕ} → read ≡ whole a used → 3 ≤ length info
    → Ends (fitted (form a) out) used (type a) info n after told → Does (rewriting read form type out info) n after told
unfolding putting written_of
writing form type out info {a} {used} e h x =
    rw (e, le-leb 3 (length info) h) (room (leb (length (form a)) (length out)) (form a) used (type a) out info x)
