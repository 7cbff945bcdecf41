-- Fields that are put one after the other: those that are left are right. Assumes nothing.
use Prim.Native.Nat.{ℕ, ◌+◌, ◌≤◌, ◌<◌}
use mathlib.Core.Path.{◌≡◌, sym}
use mathlib.Core.Bool.{true}
use mathlib.Core.List.{List, [], ◌∷◌, ◌++◌, map}
use native.Mathlib.Numerals.{add-one}
use lib.Seq.{drop-cons}
use lib.ListN.{length, get_or, drop}
use Rattle.common.specs.Choice.{both}
use Rattle.common.proofs.Tests.{both_first, both-second}
use Rattle.common.specs.Buffer.{Put}
use Rattle.common.proofs.Puts.{lent, given, first_fits}
use Rattle.common.proofs.PutLoop.{Going, Next, going_start, going_end, next_fits, going-sum, going_next}
use Rattle.field.specs.Value.{mean, enc_field, encode}
use Rattle.field.specs.declared.Piece.{Piece}
use Rattle.measure.specs.Judging.{right}
use Rattle.measure.specs.Measuring.{right_all, encode_all}
use Rattle.measure.proofs.Joins.{right-joined, encode-joined}
use Rattle.encode.proofs.Pieces.{Asks}

-- fields that are right are left to be put
pub record Filling (s all before out : List ℕ) (at : ℕ) (left : List Piece) : Type 0 where
  pub going : Going all before out at (encode_all s left)
  pub rights : right_all s left ≡ true

-- at the start all are left
pub filling-start : {s : List ℕ} {ps : List Piece} (before : List ℕ) → right_all s ps ≡ true → Filling s (encode_all s ps) before before 0 ps
filling-start {s} {ps} before h = record { going = going_start (encode_all s ps) before; rights = h }

-- ---- one at a time

-- a part, as a field, and those after it
pub left-more : {A B : Type 0} (f : A → B) (xs : List A) (i : ℕ) {x : A} → i < length xs → x ≡ get_or xs i x → map f (drop i xs) ≡ f x ∷ map f (drop (i + 1) xs)
left-more f xs i {x} h is = rw (drop-cons xs i x h, add-one i, ← is)

module _ {s all before out : List ℕ} {at : ℕ} {ps : List Piece} (g : Filling s all before out at ps) (fits : length all ≤ length before) where
  -- none is left
  pub filling-end : ps ≡ [] → Put all before at out
  unfolding encode_all encode
  filling-end n = going_end g.going fits (rw n)

  module _ {p : Piece} {others : List Piece} (is : ps ≡ p ∷ others) where
    -- the others follow the next
    next : Next (enc_field (mean s p)) (encode_all s others) (encode_all s ps)
    unfolding encode_all encode
    next = record { joins = rw is }

    -- all of which are right
    next-right : both (right s p) (right_all s others) ≡ true
    unfolding right_all
    next-right = rw is at g.rights

    -- it can be put into what is left,
    pub field-asks : Asks s p (length (lent at out))
    field-asks = (both_first _ _ next-right, next_fits g.going fits next)

    module _ {n : ℕ} {t : List ℕ} (q : Put (enc_field (mean s p)) (lent at out) n t) where
      -- ends within the buffer,
      pub field-sum : at + n ≤ length before
      field-sum = going-sum g.going fits next q

      -- and then the others are left
      pub field_next : Filling s all before (given at out t) (at + n) others
      field_next =
          record { going = going_next g.going fits next q; rights = both-second (right s p) _ next-right }

-- ---- several at a time

-- what the writer of several asks
abbrev pub AllAsk : List ℕ → List Piece → ℕ → Type 0
AllAsk s ps room = (right_all s ps ≡ true) × (length (encode_all s ps) ≤ room)

module _ (s : List ℕ) (ps qs : List Piece) where
  -- some, and after them the others
  several : Next (encode_all s ps) (encode_all s qs) (encode_all s (ps ++ qs))
  several = record { joins = encode-joined s ps qs }

  -- which are both right
  both_right : right_all s (ps ++ qs) ≡ true → both (right_all s ps) (right_all s qs) ≡ true
  both_right h = rw (right-joined s ps qs) at h

  -- the first can be put where all can,
  module _ (before : List ℕ) (h : AllAsk s (ps ++ qs) (length before)) where
    pub first-asks : AllAsk s ps (length before)
    first-asks =
        (both_first _ _ (both_right h.0), first_fits {x = encode_all s ps} {y = encode_all s qs} {before = before} (record { joins = sym (encode-joined s ps qs); fits = h.1 }))

    -- and then the others are left
    pub first-filled : {n : ℕ} {after : List ℕ} → Put (encode_all s ps) before n after → Filling s (encode_all s (ps ++ qs)) before after n qs
    first-filled p =
        record { going = record { done = encode_all s ps; put = p; joins = sym (encode-joined s ps qs) }; rights = both-second (right_all s ps) _ (both_right h.0) }

  -- some of those that are left can be put,
  module _ {all before out : List ℕ} {at : ℕ} (g : Filling s all before out at (ps ++ qs)) (fits : length all ≤ length before) where
    pub several-ask : AllAsk s ps (length (lent at out))
    several-ask = (both_first _ _ (both_right g.rights), next_fits g.going fits several)

    module _ {n : ℕ} {t : List ℕ} (q : Put (encode_all s ps) (lent at out) n t) where
      -- end within the buffer,
      pub several-sum : at + n ≤ length before
      several-sum = going-sum g.going fits several q

      -- and then the others are left
      pub several-filled : Filling s all before (given at out t) (at + n) qs
      several-filled =
          record { going = going_next g.going fits several q; rights = both-second (right_all s ps) _ (both_right g.rights) }
