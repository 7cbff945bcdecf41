-- A header, which is numbers, what stands between them, and numbers: judged part by part, and then put. Assumes nothing.
use Prim.Native.Nat.{ℕ, ◌+◌, ◌≤◌}
use mathlib.Core.Path.{◌≡◌, ◌∙◌}
use mathlib.Core.List.{List, ◌++◌, map}
use lib.ListN.{length}
use Rattle.common.specs.Buffer.{Put}
use Rattle.common.proofs.Puts.{lent, given}
use Rattle.common.proofs.PutLoop.{going-within, left-fits, last_sum, going-last}
use Rattle.field.specs.declared.Piece.TheVariants.{Number}
use Rattle.measure.specs.Judging.{Judged, joined}
use Rattle.measure.specs.Fields.{middle_pieces, headed}
use Rattle.measure.specs.Measuring.{encode_all, measure_all}
use Rattle.measure.specs.declared.Middle.{Middle}
use Rattle.measure.proofs.Joins.{measure-joined}
use Rattle.encode.proofs.FieldsPut.{Filling, AllAsk, first-asks, first-filled, several-ask, several-sum, several-filled}

module _ (s front : List ℕ) (m : Middle) (back : List ℕ) where
  -- its three parts are judged as one
  pub headed-judged : (room : ℕ) {a b d e f : Judged} → a ≡ measure_all s (map Number front) room → b ≡ measure_all s (middle_pieces m) room → d ≡ measure_all s (map Number back) room → e ≡ joined b d room → f ≡ joined a e room → f ≡ measure_all s (headed front m back) room
  unfolding headed
  headed-judged room a b d e f =
      f
      ∙ rw (a, e, b, d, measure-joined s (middle_pieces m) (map Number back) room)
      (measure-joined s (map Number front) (middle_pieces m ++ map Number back) room)

  -- ---- and put one after the other

  module _ (before : List ℕ) (h : AllAsk s (headed front m back) (length before)) where
    -- the numbers in front can be put,
    pub front-asks : AllAsk s (map Number front) (length before)
    unfolding headed
    front-asks = first-asks s (map Number front) (middle_pieces m ++ map Number back) before h

    module _ {i : ℕ} {out : List ℕ} (p : Put (encode_all s (map Number front)) before i out) where
      front-filled : Filling s (encode_all s (headed front m back)) before out i (middle_pieces m ++ map Number back)
      unfolding headed
      front-filled =
          first-filled s (map Number front) (middle_pieces m ++ map Number back) before h p

      -- then what stands between them,
      pub front-within : i ≤ length out
      front-within = going-within front-filled.going h.1

      pub middle-asks : AllAsk s (middle_pieces m) (length (lent i out))
      middle-asks = several-ask s (middle_pieces m) (map Number back) front-filled h.1

      module _ {j : ℕ} {t : List ℕ} (q : Put (encode_all s (middle_pieces m)) (lent i out) j t) where
        middle-filled : Filling s (encode_all s (headed front m back)) before (given i out t) (i + j) (map Number back)
        middle-filled = several-filled s (middle_pieces m) (map Number back) front-filled h.1 q

        pub middle-sum : i + j ≤ length before
        middle-sum = several-sum s (middle_pieces m) (map Number back) front-filled h.1 q

        -- then those after,
        pub middle-within : i + j ≤ length (given i out t)
        middle-within = going-within middle-filled.going h.1

        pub back-asks : AllAsk s (map Number back) (length (lent (i + j) (given i out t)))
        back-asks = (middle-filled.rights, left-fits middle-filled.going h.1)

        module _ {k : ℕ} {u : List ℕ} (r : Put (encode_all s (map Number back)) (lent (i + j) (given i out t)) k u) where
          pub back_sum : i + j + k ≤ length before
          back_sum = last_sum middle-filled.going h.1 r

          -- and all stands there
          pub headed-put : Put (encode_all s (headed front m back)) before (i + j + k) (given (i + j) (given i out t) u)
          headed-put = going-last middle-filled.going h.1 r
