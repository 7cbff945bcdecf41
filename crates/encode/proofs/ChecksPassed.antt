-- What was written passed every check; and what passes them is written where there is room, and else refused with 7.
-- Assumes nothing.
use Prim.Native.Nat.{ℕ, ◌≤◌}
use mathlib.Core.Path.{◌≡◌, refl, sym, ◌∙◌}
use mathlib.Core.Bool.{Bool, true, false}
use mathlib.Core.List.{List}
use native.Mathlib.Omega.{arith}
use lib.ListN.{length}
use lib.Dec.{leb}
use borrow.Author.Tests.{le-leb}
use Rattle.common.specs.Choice.{pick}
use Rattle.common.specs.Answer.{Answer, refused, Nothing, wrote, Written}
use Rattle.common.specs.Buffer.{over}
use Rattle.common.proofs.Cases.{pick-by, apart}
use Rattle.encode.specs.Writing.{written_of}

-- ---- what was written

-- every check holds, and the bytes stand at the front of the buffer
pub record Wrote (is_right is_sized is_short : Bool) (bytes before : List ℕ) (after : Written) (n : ℕ) : Type 0 where
  pub is_right_lem : is_right ≡ true
  pub is-sized : is_sized ≡ true
  pub is-short : is_short ≡ true
  pub used : n ≡ length bytes
  pub holds : after.holds ≡ over bytes before

-- where the writer says so
pub was-written : (is_right is_sized is_short : Bool) (bytes before : List ℕ) {n : ℕ} → (written_of is_right is_sized is_short bytes before).says ≡ wrote n
    → Wrote is_right is_sized is_short bytes before (written_of is_right is_sized is_short bytes before) n
unfolding written_of
was-written true true true bytes before {n} h =
    pick-by (λ (w : Written). w.says ≡ wrote n → Wrote true true true bytes before w n) (leb (length bytes) (length before))
    (λ _ e. record { is_right_lem = refl; is-sized = refl; is-short = refl; used = cc; holds = refl })
    (λ _ e. absurd (apart e))
    h
was-written true true false bytes before h = absurd (apart h)
was-written true false is_short bytes before h = absurd (apart h)
was-written false is_sized is_short bytes before h = absurd (apart h)

-- ---- what will be

-- every check is passed, and the bytes are that many at most
pub record Passes (is_right is_sized is_short : Bool) (bytes : List ℕ) (most : ℕ) : Type 0 where
  pub is_right_lem : is_right ≡ true
  pub is-sized : is_sized ≡ true
  pub is-short : is_short ≡ true
  pub fits : length bytes ≤ most

-- what is said of the one or the other
says-pick : (b : Bool) (x y : Written) → (pick b x y).says ≡ pick b x.says y.says
says-pick true x y = refl
says-pick false x y = refl

module _ {is_right is_sized is_short : Bool} {bytes : List ℕ} {most : ℕ} (p : Passes is_right is_sized is_short bytes most) (before : List ℕ) where
  -- then there is room, or not
  answer : (written_of is_right is_sized is_short bytes before).says ≡ pick (leb (length bytes) (length before)) (wrote (length bytes)) (refused 7)
  unfolding written_of
  answer = rw (p.is_right_lem, p.is-sized, p.is-short) (says-pick (leb (length bytes) (length before)) _ _)

  -- what holds of both answers holds of the answer
  either : (P : Answer Nothing → Type 0) → P (wrote (length bytes)) → P (refused 7) → P (written_of is_right is_sized is_short bytes before).says
  either P done no_room = rw answer (pick-by P (leb (length bytes) (length before)) (λ _. done) (λ _. no_room))

  -- No more bytes are written,
  pub no_more : {n : ℕ} → (written_of is_right is_sized is_short bytes before).says ≡ wrote n → n ≤ most
  no_more {n} =
      either (λ a. a ≡ wrote n → n ≤ most) (λ e. let z : n ≡ length bytes = cc in omega (arith, p.fits)) (λ e. absurd (apart e))

  -- it is refused for want of room only,
  pub only-room : {k : ℕ} → (written_of is_right is_sized is_short bytes before).says ≡ refused k → k ≡ 7
  only-room {k} = either (λ a. a ≡ refused k → k ≡ 7) (λ e. absurd (apart (sym e))) (λ e. cc)

  -- and where there is room for that many, it is written.
  pub written_then : most ≤ length before → (n : ℕ) × ((written_of is_right is_sized is_short bytes before).says ≡ wrote n)
  written_then enough =
      (length bytes, answer ∙ rw (le-leb (length bytes) (length before) (omega (arith, p.fits))))
