-- Every refusal is one of 1 to 6. Assumes nothing.
use Prim.Native.Nat.{ℕ, ◌+◌, ◌≤◌}
use mathlib.Core.Path.{◌≡◌}
use mathlib.Core.List.{List}
use native.Mathlib.Omega.{arith}
use lib.Dec.{lit≤, eqb}
use Rattle.common.specs.Answer.{Answer, refused}
use Rattle.common.proofs.Cases.{pick-by}
use Rattle.field.specs.Outcome.{Outcome, whole, no}
use Rattle.field.specs.declared.Fault.TheVariants.{Cut, Forbidden, Oversize}
use Rattle.layout.specs.Typed.{Typed, typed}
use Rattle.message.specs.Reading.{filled_by, read_up_to}
use Rattle.message.proofs.Front.{Stops, no-type, unknown, no_length, too_long, missing, Judged, stopped, present, judged}

-- a body is refused by 4, 5 or 6,
pub body-numbers : (end : ℕ) (o : Outcome Typed) {n : ℕ} → filled_by end o ≡ refused n → (4 ≤ n) × (n ≤ 6)
body-numbers end (whole m last) {n} h =
    pick-by (λ r. r ≡ refused n → (4 ≤ n) × (n ≤ 6)) (eqb last end)
    (λ e k. absurd (let z : ◌≡◌ {A = ℕ} 0 1 = cc in omega arith))
    (λ e k. let z : n ≡ 4 = cc in (omega arith, omega arith))
    h
body-numbers end (no Cut) {n} h = let z : n ≡ 4 = cc in (omega arith, omega arith)
body-numbers end (no Forbidden) {n} h = let z : n ≡ 5 = cc in (omega arith, omega arith)
body-numbers end (no Oversize) {n} h = let z : n ≡ 6 = cc in (omega arith, omega arith)

-- what comes before it by 1, 2 or 3
stop-numbers : {limit : ℕ} {s : List ℕ} {n : ℕ} → Stops limit s n → (1 ≤ n) × (n ≤ 3)
stop-numbers (no-type e) = (lit≤ tt, lit≤ tt)
stop-numbers (unknown e k) = (lit≤ tt, lit≤ tt)
stop-numbers (no_length e k f) = (lit≤ tt, lit≤ tt)
stop-numbers (too_long h long) = (lit≤ tt, lit≤ tt)
stop-numbers (missing h short room) = (lit≤ tt, lit≤ tt)

-- so every refusal is one of 1 to 6
pub numbers : (limit : ℕ) (s : List ℕ) {n : ℕ} → read_up_to limit s ≡ refused n → (1 ≤ n) × (n ≤ 6)
numbers limit s {n} = go (judged limit s)
  where
    go : {o : Answer Typed} → Judged limit s o → o ≡ refused n → (1 ≤ n) × (n ≤ 6)
    go (stopped {n = k} h) e =
        let z : k ≡ n = cc in
        let b = stop-numbers h in
        (omega arith, omega arith)
    go (present {type = type} {size = size} {at = at} {fields = fields} h short room e) f =
        let b = body-numbers (at + size) (typed type fields) f in
        (omega arith, omega arith)
