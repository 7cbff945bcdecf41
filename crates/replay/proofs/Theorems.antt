-- What holds of the run of every trace. Assumes nothing.
use Rattle.std.proofs.Common.{◌≡◌, ℕ, ◌+◌, ◌-◌, ◌^◌, ◌<◌, Bool, true, false, leb, List, [], ◌∷◌, ◌++◌, length, get_or, take, sym, refl, ap, ◌∙◌, append_assoc, append-nil, mod-eq_of_lt, arith, length-drop, get_or-drop, leb-false, leb-true}
use Rattle.common.specs.Octets.{Octets}
use Rattle.ledger.specs.Ledgers.{is_ledger}
use Rattle.trace.specs.Fields.{field_size, is_whole}
use Rattle.trace.specs.Feeding.{Held, feed}
use Rattle.trace.proofs.Fed.{size-take, size-head, whole-fits, cut_short, feed-cut, fed-none, fed_by}
use Rattle.replay.specs.Progressing.{offset_of, step_of, begun, step, holding, fed}
use Rattle.replay.specs.declared.Progress.{Progress}
use Rattle.replay.proofs.WhatIsLeft.{rest-is, rest-none}
use Rattle.replay.proofs.Ledgers.{step_keeps, begun-is}

-- ---- cuts

-- It doesn't matter where a trace is cut: what is left goes in front of what comes next.
pub fed-cuts : (p : Progress) (s t : List ℕ) → fed p (s ++ t) ≡ fed (fed p s).so_far ((fed p s).rest ++ t)
unfolding fed
fed-cuts p s t =
    let h = feed step (holding p []) s in
    feed-cut step (holding p []) s t
    ∙ ap (λ (x : Held Progress). feed step x t) (sym (fed-none step h.so_far h.rest (rest-none p s)))
    ∙ sym (feed-cut step (holding h.so_far []) h.rest t)

-- pieces, one after the other, each after what is left of those before
pub fed_pieces : Progress → List ℕ → List (List ℕ) → Held Progress
fed_pieces p left [] = holding p left
fed_pieces p left (piece ∷ pieces) =
    let h = fed p (left ++ piece) in
    fed_pieces h.so_far h.rest pieces

pub joined : List (List ℕ) → List ℕ
joined [] = []
joined (piece ∷ pieces) = piece ++ joined pieces

-- However a trace is cut into pieces, it comes to the same.
pub fed-pieces : (p : Progress) (left : List ℕ) (pieces : List (List ℕ)) → is_whole left ≡ false
    → fed_pieces p left pieces ≡ fed p (left ++ joined pieces)
unfolding fed_pieces joined fed
fed-pieces p left [] none = sym (fed-none step p left none) ∙ ap (fed p) (sym (append-nil left))
fed-pieces p left (piece ∷ pieces) none =
    let s = left ++ piece in
    fed-pieces (fed p s).so_far (fed p s).rest pieces (rest-none p s)
    ∙ sym (fed-cuts p s (joined pieces))
    ∙ ap (fed p) (append_assoc left piece (joined pieces))

-- ---- what is left

-- It is no whole field, so it has fewer bytes than the longest.
pub rest-short : (p : Progress) (s : List ℕ) → Octets s → length (fed p s).rest < 65_538
unfolding field_size
rest-short p s bytes = go (leb 3 (length (fed p s).rest)) refl
  where
    byte : (i : ℕ) → get_or (fed p s).rest i 0 < 256
    byte i =
        let n = length s - length (fed p s).rest in
        let e : get_or (fed p s).rest i 0 ≡ get_or s (n + i) 0 = ap (λ (l : List ℕ). get_or l i 0) (rest-is p s) ∙ get_or-drop n s i 0 in
        omega (arith, bytes (n + i))

    go : (b : Bool) → leb 3 (length (fed p s).rest) ≡ b → length (fed p s).rest < 65_538
    go false e = omega (arith, leb-false 3 (length (fed p s).rest) e)
    go true e =
        let less = cut_short (fed p s).rest (rest-none p s) (leb-true 3 (length (fed p s).rest) e) in
        omega (arith, byte 1, byte 2)

-- ---- offsets

-- a field's step goes on by its bytes, where 64 bits hold the sum
step-offset : (p : Progress) (s : List ℕ) → p.offset + field_size s < 2 ^ 64
    → (step p (take (field_size s) s)).offset ≡ p.offset + field_size s
unfolding step step_of offset_of
step-offset p s h = rw (size-take (field_size s) s (size-head s)) (mod-eq_of_lt h)

offsets : (p : Progress) (s : List ℕ) → p.offset + length s < 2 ^ 64
    → (fed p s).so_far.offset + length (fed p s).rest ≡ p.offset + length s
unfolding fed
offsets =
    fed_by step (λ (p : Progress) (s : List ℕ) (h : Held Progress). p.offset + length s < 2 ^ 64 → h.so_far.offset + length h.rest ≡ p.offset + length s)
    (λ p s e small. refl)
    (λ p s h e behind small.
    let fits = (whole-fits s e).1 in
    let size = step-offset p s (omega arith) in
    let long = length-drop (field_size s) s in
    behind (omega arith) ∙ omega arith)

-- The offset is the number of bytes of the fields that were taken, for every trace below 2^64 bytes.
pub offset-exact : (s : List ℕ) → length s < 2 ^ 64 → (fed begun s).so_far.offset + length (fed begun s).rest ≡ length s
offset-exact s h = omega (arith, offsets begun s (omega arith))

-- ---- ledgers

ledgers : (p : Progress) (s : List ℕ) → is_ledger p.ledger ≡ true → is_ledger (fed p s).so_far.ledger ≡ true
unfolding fed
ledgers =
    fed_by step (λ (p : Progress) (s : List ℕ) (h : Held Progress). is_ledger p.ledger ≡ true → is_ledger h.so_far.ledger ≡ true)
    (λ p s e w. w)
    (λ p s h e behind w. behind (step_keeps p (take (field_size s) s) w))

-- After every trace there is a ledger.
pub run-ledger : (s : List ℕ) → is_ledger (fed begun s).so_far.ledger ≡ true
run-ledger s = ledgers begun s begun-is
