-- A loop that puts one thing after the other: what was put so far, and what is left to be put. Assumes nothing.
use Prim.Native.Nat.{ℕ, ◌+◌, ◌≤◌}
use mathlib.Core.Path.{◌≡◌, refl, sym, ap, ◌∙◌}
use mathlib.Core.List.{List, [], ◌++◌, append_assoc, append-nil}
use native.Mathlib.Omega.{arith}
use lib.ListN.{length, length-append}
use Rattle.common.specs.Buffer.{Put}
use Rattle.common.proofs.Puts.{lent, given, put-length, Room, first_fits, ends-within, second_fits, both-fit, put_both}

-- all is what was put, and then what is left
pub record Going (all before out : List ℕ) (at : ℕ) (left : List ℕ) : Type 0 where
  pub done : List ℕ
  pub put : Put done before at out
  pub joins : done ++ left ≡ all

-- what is left is x, and then the others
pub record Next (x others left : List ℕ) : Type 0 where
  pub joins : left ≡ x ++ others

-- at the start nothing was put
pub going_start : (all before : List ℕ) → Going all before before 0 all
going_start all before = record { done = []; put = record { count = refl; holds = refl }; joins = refl }

module _ {all before out : List ℕ} {at : ℕ} {left : List ℕ} (g : Going all before out at left) (fits : length all ≤ length before) where
  -- there is room for what was put, and what is left
  room : Room g.done left all before
  room = record { joins = g.joins; fits = fits }

  -- the buffer keeps its length
  pub going-length : length out ≡ length before
  going-length = put-length g.put (first_fits room)

  -- what was put ends within it
  pub going-within : at ≤ length out
  going-within = ends-within room g.put

  -- nothing is left
  pub going_end : left ≡ [] → Put all before at out
  going_end n =
      let e : g.done ≡ all = sym (append-nil g.done) ∙ ap (λ (y : List ℕ). g.done ++ y) (sym n) ∙ g.joins in
      rw (← e) g.put

  -- what is left has room after it
  pub left-fits : length left ≤ length (lent at out)
  left-fits = second_fits room g.put

  module _ {n : ℕ} {t : List ℕ} (q : Put left (lent at out) n t) where
    -- where it ends within the buffer,
    pub last_sum : at + n ≤ length before
    last_sum = both-fit room g.put q

    -- and then all was put
    pub going-last : Put all before (at + n) (given at out t)
    going-last = put_both room g.put q

  module _ {x others : List ℕ} (next : Next x others left) where
    -- what was put, the next, and the others are all
    regrouped : g.done ++ x ++ others ≡ all
    regrouped = append_assoc g.done x others ∙ ap (λ (y : List ℕ). g.done ++ y) (sym next.joins) ∙ g.joins

    -- there is room for the next too
    next-room : Room g.done x (g.done ++ x) before
    next-room =
        record { joins = refl; fits = omega (arith, fits, ap length regrouped, length-append (g.done ++ x) others) }

    -- in what is left of the buffer,
    pub next_fits : length x ≤ length (lent at out)
    next_fits = second_fits next-room g.put

    module _ {n : ℕ} {t : List ℕ} (q : Put x (lent at out) n t) where
      -- within which it ends,
      pub going-sum : at + n ≤ length before
      going-sum = both-fit next-room g.put q

      -- and then the others are left
      pub going_next : Going all before (given at out t) (at + n) others
      going_next = record { done = g.done ++ x; put = put_both next-room g.put q; joins = regrouped }
