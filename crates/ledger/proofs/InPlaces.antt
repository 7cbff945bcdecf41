-- What the code stores in the array, as what a step makes of the view. Assumes nothing.
use Prim.Native.Nat.{ℕ, suc, ◌+◌, ◌-◌, ◌<◌}
use mathlib.Core.Path.{◌≡◌, sym, ap, ◌∙◌}
use mathlib.Core.Bool.{Bool, true}
use mathlib.Core.List.{List, [], ◌∷◌, ◌++◌}
use native.Mathlib.Omega.{arith}
use lib.ListN.{length, take, drop, length-set, length-append, length-take, length-drop}
use lib.Seq.{drop-set-lt}
use Rattle.row.specs.Rows.{unused_row}
use Rattle.row.specs.declared.Row.{Row}
use Rattle.ledger.specs.Ledgers.{most_rows, held, all_unused}
use Rattle.ledger.specs.Answers.{no_rule, done}
use Rattle.ledger.specs.Keys.{Looked, one, look, on_looked, gone, now, turn}
use Rattle.ledger.specs.Views.{Seen, standing_of, view_of, came_of, seen_of}
use Rattle.ledger.specs.Steps.{Reply, answer, verdict_by, standing_after, replied, RowStep, by_key, with_highest}
use Rattle.ledger.specs.Arrays.{row_at, changed, added, freed}
use Rattle.ledger.specs.declared.Ledger.{Ledger}
use Rattle.ledger.proofs.PartsOfLists.{rest-next}
use Rattle.ledger.proofs.Finds.{HasNone, IsFirst, first-used}
use Rattle.ledger.proofs.Keyed.{look_none, look_at, turn-found, turn-same}
use Rattle.ledger.proofs.Rises.{unused-last, unused-rest}
use Rattle.ledger.proofs.HeldRows.{drop-gone, held_at, held-changed-by, held-added, held-freed-by}
use Rattle.ledger.proofs.Shapes.{Shaped, kept-as}

-- ---- the places stay as they have to be

-- without one element and with another, a list is as long
gone_long : (xs : List Row) (x : Row) (i : ℕ) → i < length xs → length (take i xs ++ (drop (suc i) xs ++ (x ∷ []))) ≡ length xs
gone_long xs x i h =
    length-append (take i xs) (drop (suc i) xs ++ (x ∷ [])) ∙ simp (length-append, length-take, length-drop) (omega arith)

module _ (l : Ledger) (h : Shaped l.rows l.used) where
  abbrev ShapedAs : Ledger → Type 0
  ShapedAs k = Shaped k.rows k.used

  changed-shaped : (i : ℕ) (r : Row) → i < l.used → ShapedAs (changed l i r)
  unfolding changed
  changed-shaped i r at =
      record {
        long = length-set l.rows i r ∙ h.long;
        few = h.few;
        rest = rw (drop-set-lt l.used l.rows i r at) h.rest;
      }

  -- after the first unused row the others are unused
  after_first : l.used < length l.rows → all_unused (drop (l.used + 1) l.rows) ≡ true
  after_first some = unused-rest (row_at l l.used) _ (rw (rest-next l.rows l.used unused_row some) at h.rest)

  added-shaped : (r : Row) → l.used < most_rows → ShapedAs (added l r)
  unfolding added
  added-shaped r room =
      record {
        long = length-set l.rows l.used r ∙ h.long;
        few = omega arith;
        rest = rw (drop-set-lt (l.used + 1) l.rows l.used r (omega arith)) (after_first (omega (arith, h.long)));
      }

  freed-shaped : (i : ℕ) → i < l.used → ShapedAs (freed l i)
  unfolding freed
  freed-shaped i at =
      let up : suc (l.used - 1) ≡ l.used = omega arith in
      let inside : l.used - 1 < length l.rows = omega (arith, h.long, h.few) in
      let rest : drop (l.used - 1) (take i l.rows ++ (drop (suc i) l.rows ++ (unused_row ∷ []))) ≡ drop l.used l.rows ++ (unused_row ∷ []) =
      drop-gone (l.used - 1) l.rows (unused_row ∷ []) i (omega arith) inside
      ∙ ap (λ (k : ℕ). drop k l.rows ++ (unused_row ∷ [])) up
      in
      record {
        long = gone_long l.rows unused_row i (omega (arith, h.long, h.few)) ∙ h.long;
        few = omega (arith, h.few);
        rest = rw rest (unused-last (drop l.used l.rows) h.rest);
      }

  -- ---- a row added last

  pub added-kept : (r : Row) → l.used < most_rows → done (added l r) ≡ came_of (record { says = no_rule 8; next = record { standing = with_highest (standing_of l) r.id; rows = held l ++ (r ∷ []) } })
  unfolding added
  added-kept r room = kept-as (done (added l r)) (added-shaped r room) seen
    where
      seen : seen_of (done (added l r)) ≡ record { says = no_rule 8; next = record { standing = with_highest (standing_of l) r.id; rows = held l ++ (r ∷ []) } }
      seen =
          ap (λ (rs : List Row). record { says = no_rule 8; next = record { standing = with_highest (standing_of l) r.id; rows = rs } })
          (held-added l r (omega (arith, h.long)))

  -- ---- the row that has a number

  module _ (key : Row → ℕ) (n : ℕ) (own : Bool) (missing : Reply) (at : Row → RowStep) where
    -- what is seen where something is replied, and the row is turned that has the number
    abbrev turned : Reply → Seen
    turned reply =
        record { says = verdict_by reply; next = record { standing = standing_after own reply (standing_of l); rows = turn key n (λ r. (at r).row) (held l) } }

    named_by : {looked : Looked Row} → look key n (held l) ≡ looked → turned (on_looked missing (λ r. (at r).reply) looked) ≡ by_key (view_of l) own key n missing at
    unfolding by_key
    named_by e = rw e

    -- the rows stay as they are where the row that is found does
    stays : (reply : Reply) → ((r : Row) → look key n (held l) ≡ one r → (at r).row ≡ now r) → replied (view_of l) own reply ≡ turned reply
    stays reply e =
        ap (λ (rs : List Row). record { says = verdict_by reply; next = record { standing = standing_after own reply (standing_of l); rows = rs } })
        (sym (turn-same key n (λ r. (at r).row) (held l) e))

    -- no row has it
    pub none_kept : HasNone key n (held l) → came_of (replied (view_of l) own missing) ≡ came_of (by_key (view_of l) own key n missing at)
    none_kept none =
        let e = look_none key n none in
        ap came_of (stays missing (λ r k. absurd (let z : ◌≡◌ {A = ℕ} 0 1 = cc in omega arith)) ∙ named_by e)

    module _ {i : ℕ} (first : IsFirst key n (held l) i) where
      looked : look key n (held l) ≡ one (row_at l i)
      looked = look_at key n first unused_row ∙ ap one (held_at l i unused_row (first-used key n l first))

      is_found_lem : {x : Row} → look key n (held l) ≡ one x → row_at l i ≡ x
      is_found_lem k = let found = looked in cc

      -- it is found, and stays as it is
      pub same-kept-at : {reply : Reply} → at (row_at l i) ≡ record { reply = reply; row = now (row_at l i) } → came_of (replied (view_of l) own reply) ≡ came_of (by_key (view_of l) own key n missing at)
      same-kept-at {reply} e =
          let row : (at (row_at l i)).row ≡ now (row_at l i) = ap (λ (x : RowStep). x.row) e in
          let says : (at (row_at l i)).reply ≡ reply = ap (λ (x : RowStep). x.reply) e in
          ap came_of
          (stays reply (λ r k. rw (sym (is_found_lem k)) row)
          ∙ ap turned (sym says)
          ∙ named_by looked)

      -- it is changed
      pub changed-kept : {number : ℕ} {r : Row} → at (row_at l i) ≡ record { reply = answer number; row = now r } → record { says = no_rule number; next = changed l i r } ≡ came_of (by_key (view_of l) own key n missing at)
      unfolding changed
      changed-kept {number} {r} e =
          kept-as (record { says = no_rule number; next = changed l i r }) (changed-shaped i r (first-used key n l first))
          (seen ∙ ap turned (sym (ap (λ (x : RowStep). x.reply) e)) ∙ named_by looked)
        where
          seen : seen_of (record { says = no_rule number; next = changed l i r }) ≡ turned (answer number)
          seen =
              ap (λ (rs : List Row). record { says = no_rule number; next = record { standing = standing_of l; rows = rs } })
              (held-changed-by l key n i first (λ _. r)
              ∙ turn-found key n (λ _. now r) (λ x. (at x).row) (held l)
              (λ x k. rw (sym (is_found_lem k)) (sym (ap (λ (x : RowStep). x.row) e))))

      -- it is taken out
      pub freed-kept : {number : ℕ} → at (row_at l i) ≡ record { reply = answer number; row = gone } → record { says = no_rule number; next = freed l i } ≡ came_of (by_key (view_of l) own key n missing at)
      unfolding freed
      freed-kept {number} e =
          kept-as (record { says = no_rule number; next = freed l i }) (freed-shaped i (first-used key n l first))
          (seen ∙ ap turned (sym (ap (λ (x : RowStep). x.reply) e)) ∙ named_by looked)
        where
          seen : seen_of (record { says = no_rule number; next = freed l i }) ≡ turned (answer number)
          seen =
              ap (λ (rs : List Row). record { says = no_rule number; next = record { standing = standing_of l; rows = rs } })
              (held-freed-by l key n i first (omega (arith, h.long, h.few))
              ∙ turn-found key n (λ _. gone) (λ x. (at x).row) (held l)
              (λ x k. rw (sym (is_found_lem k)) (sym (ap (λ (x : RowStep). x.row) e))))
