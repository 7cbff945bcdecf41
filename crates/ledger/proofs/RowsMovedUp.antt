-- A row taken out: those after it have moved up one place, and the last place is unused. Assumes nothing.
use Rattle.std.proofs.lemmas.List.{take-append-drop, drop_more, length-take-le, length-drop, length-append}
use Prim.Native.Nat.{ℕ, suc, ◌+◌, ◌<◌}
use mathlib.Core.Path.{◌≡◌, sym, ◌∙◌}
use mathlib.Core.List.{List, [], ◌∷◌, ◌++◌, append_assoc}
use native.Mathlib.Omega.{arith}
use lib.ListN.{length, get_or, take, drop, set, drop_of_length-le}
use lib.Seq.{set_at}

-- the last element stands behind those that moved up until it is written over
pub last-cleared : {A : Type 0} (xs moved : List A) (i n : ℕ) (v : A) → length xs ≡ n + 1 → i < length xs → take n moved ≡ take i xs ++ drop (suc i) xs → drop n moved ≡ drop n xs → set moved n v ≡ take i xs ++ (drop (suc i) xs ++ (v ∷ []))
last-cleared xs moved i n v long inside front behind =
    let d = get_or xs n v in
    let last : drop n moved ≡ d ∷ [] = behind ∙ rw (drop_more xs n v (omega (arith, long)), drop_of_length-le xs {i = n + 1} (omega (arith, long))) in
    let is : moved ≡ (take i xs ++ drop (suc i) xs) ++ (d ∷ []) = sym (take-append-drop n moved) ∙ rw (front, last) in
    rw is (set_at (take i xs ++ drop (suc i) xs) d [] v n (omega (arith, long, inside, length-append (take i xs) (drop (suc i) xs), length-take-le i xs (omega (arith, inside)), length-drop (suc i) xs)) ∙ append_assoc (take i xs) (drop (suc i) xs) (v ∷ []))
