-- Bytes put over others, part after part, where a part may begin before the end of what was put. Assumes nothing.
use Rattle.std.proofs.Common.{ℕ, ◌≡◌, ◌-◌, ◌+◌, ◌≤◌, ◌++◌, List, length, take, drop, arith}
use Rattle.std.proofs.Math.Seq.{take-add}
use Rattle.std.proofs.lemmas.List.{take-append-drop, take-append-le, take-take, length-take-le, length-take, length-drop, length-append, take_min}
use Rattle.std.proofs.lemmas.Slice.{take-put_mid, drop-put_mid, drop-append-drop}
use Prim.Native.Nat.{min}
use mathlib.Core.Path.{refl, sym, ◌∙◌, ap}
use Rattle.common.specs.Buffer.{Put}
use borrow.Rule.Slice.PartMut.{put_mid, mid_of}

-- the first n of the bytes stand at the front, and after them what was there
abbrev pub reached : ℕ → List ℕ → List ℕ → List ℕ
reached n bytes before = take n bytes ++ drop n before

-- and so do more of them, when a part that reaches further is put there too
module _ (bytes before : List ℕ) (at end : ℕ) {out : List ℕ} {n : ℕ} (sofar : out ≡ reached n bytes before) (below : at ≤ n) (past : n ≤ end) (fits : end ≤ length bytes) where
  -- the part,
  abbrev pub part : List ℕ
  part = mid_of at (end - at) bytes

  -- which begins within what was put,
  put : length (take n bytes) ≡ n
  put = length-take-le n bytes (omega (arith, past, fits))

  inside : at ≤ length out
  inside = rw sofar (omega (arith, below, put, length-append (take n bytes) (drop n before)))

  -- and ends where it should:
  long : length part ≡ end - at
  long = length-take-le (end - at) (drop at bytes) (omega (arith, length-drop at bytes, fits))

  joined : at + (end - at) ≡ end
  joined = omega (arith, below, past)

  -- before it stand the bytes, and behind it what was there,
  front : take at out ≡ take at bytes
  front = rw (sofar, take-append-le at (take n bytes) (drop n before) (omega (arith, below, put)), take-take at n bytes below) refl

  back : drop end out ≡ drop end before
  back = rw sofar (drop-append-drop n before (take n bytes) end past put)

  -- and with it the bytes are longer
  all : take at bytes ++ part ≡ take end bytes
  all = sym (take-add at (end - at) bytes) ∙ ap (λ (m : ℕ). take m bytes) joined

  pub reached_on : put_mid at (end - at) out part ≡ reached end bytes before
  reached_on =
      let new = put_mid at (end - at) out part in
      let first : take end new ≡ take end bytes = take-put_mid at (end - at) out part end (omega (arith, long, joined)) inside ∙ rw front all in
      let last : drop end new ≡ drop end before = drop-put_mid at (end - at) out part end (omega (arith, joined)) inside long ∙ back in
      sym (take-append-drop end new) ∙ rw (first, last) refl

-- where as many stand as there are, or as have room, all of them are put
pub reached_all : (bytes before : List ℕ) {out : List ℕ} {n : ℕ} → n ≡ min (length bytes) (length before) → out ≡ reached n bytes before → Put (take (length before) bytes) before n out
reached_all bytes before {n = n} most sofar =
    let turned : n ≡ min (length before) (length bytes) = omega (arith, most) in
    let count : n ≡ length (take (length before) bytes) = turned ∙ sym (length-take (length before) bytes) in
    let same : take n bytes ≡ take (length before) bytes = ap (λ (m : ℕ). take m bytes) turned ∙ take_min (length before) bytes in
    record { count = count; holds = sofar ∙ rw (same, count) refl }
