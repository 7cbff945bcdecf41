-- The loops that check rows: those that are left give what all of them give. Assumes nothing.
use Prim.Native.Nat.{ℕ, ◌+◌, ◌≤◌, ◌<◌}
use mathlib.Core.Path.{◌≡◌, refl, sym, ◌∙◌}
use mathlib.Core.Bool.{Bool, true, false}
use mathlib.Core.List.{List}
use borrow.Author.Tests.{le-leb, lt-leb, lt-ltb, le-ltb}
use lib.ListN.{length, drop, get_or}
use Rattle.row.specs.Rows.{is_row}
use Rattle.row.specs.declared.Row.{Row}
use Rattle.ledger.specs.Ledgers.{rising, has_alias, distinct}
use Rattle.ledger.proofs.PartsOfLists.{rest-next, rest_end}

-- ---- rows in use rise

pub Rising : ℕ → List Row → ℕ → ℕ → Type 0
Rising next rs low i = rising low next (drop i rs) ≡ rising 0 next rs

pub rises : (next : ℕ) (rs : List Row) → Rising next rs 0 0
unfolding Rising
rises next rs = refl

module _ (next : ℕ) (rs : List Row) (low i : ℕ) (a : Rising next rs low i) where
  module _ (d : Row) (h : i < length rs) where
    pub not-above : (get_or rs i d).id < low → false ≡ rising 0 next rs
    unfolding Rising rising
    not-above e = sym (rw (rest-next rs i d h, lt-leb _ _ e)) ∙ a

    module _ (above : low ≤ (get_or rs i d).id) where
      pub not-below : next ≤ (get_or rs i d).id → false ≡ rising 0 next rs
      unfolding Rising rising
      not-below e = sym (rw (rest-next rs i d h, le-leb _ _ above, le-ltb _ _ e)) ∙ a

      module _ (below : (get_or rs i d).id < next) {b : Bool} (judged : b ≡ is_row (get_or rs i d)) where
        pub no-such-row : b ≡ false → false ≡ rising 0 next rs
        unfolding Rising rising
        no-such-row e = sym (rw (rest-next rs i d h, le-leb _ _ above, lt-ltb _ _ below, sym judged ∙ e)) ∙ a

        pub rises-on : b ≡ true → Rising next rs ((get_or rs i d).id + 1) (i + 1)
        unfolding Rising rising
        rises-on e = sym (rw (rest-next rs i d h, le-leb _ _ above, lt-ltb _ _ below, sym judged ∙ e)) ∙ a

  pub all-rise : length rs ≤ i → true ≡ rising 0 next rs
  unfolding Rising rising
  all-rise h = sym (rw (rest_end rs i h)) ∙ a

-- ---- aliases are distinct

pub Apart : List Row → ℕ → Type 0
Apart rs i = distinct (drop i rs) ≡ distinct rs

pub are-apart : (rs : List Row) → Apart rs 0
unfolding Apart
are-apart rs = refl

module _ (rs : List Row) (i : ℕ) (a : Apart rs i) where
  -- whether a later row holds the alias of the i-th
  module _ (d : Row) (h : i < length rs) {b : Bool} (held : b ≡ has_alias (get_or rs i d).alias (drop (i + 1) rs)) where
    pub held-twice : b ≡ true → false ≡ distinct rs
    unfolding Apart distinct
    held-twice e = sym (rw (rest-next rs i d h, sym held ∙ e)) ∙ a

    pub held-once : b ≡ false → Apart rs (i + 1)
    unfolding Apart distinct
    held-once e = sym (rw (rest-next rs i d h, sym held ∙ e)) ∙ a

  pub all_apart : length rs ≤ i → true ≡ distinct rs
  unfolding Apart distinct
  all_apart h = sym (rw (rest_end rs i h)) ∙ a
