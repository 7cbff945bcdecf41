-- What a list of rows becomes by deeds, one after the other, is what the deeds tell. Assumes nothing.
use Rattle.std.specs.Prelude.{Option, Some, None}
use Prim.Native.Nat.{ℕ, suc, ◌+◌, ◌≤◌, ◌<◌, min}
use mathlib.Core.Path.{◌≡◌, refl, sym, ap, ◌∙◌}
use mathlib.Core.Bool.{Bool, true, false}
use mathlib.Core.List.{List, [], ◌∷◌, ◌++◌, append_assoc, append-nil}
use native.Mathlib.Omega.{arith}
use borrow.Author.Tests.{ltb-true, ltb-false}
use lib.Dec.{eqb, ltb}
use lib.ListN.{length}
use Rattle.common.proofs.Cases.{pick-by}
use Rattle.common.specs.Choice.{pick}
use Rattle.field.specs.declared.Place.{Place}
use Rattle.subscription.specs.declared.Subscribe.{Subscribe}
use Rattle.row.proofs.Ordering.{greater-either}
use Rattle.row.specs.Ranges.{settled_of}
use Rattle.row.specs.Rows.{top, greater, risen, counted_row, active_row}
use Rattle.row.specs.declared.Row.{Row}
use Rattle.row.specs.declared.State.{State}
use Rattle.row.specs.declared.State.TheVariants.{Pending, Active}
use Rattle.ledger.specs.Steps.{new_row}
use Rattle.ledger.specs.Keys.{Change, gone, now, instead}
use Rattle.history.specs.Events.{Logged}
use Rattle.history.specs.Deeds.{Deed, asked, opened, ended, raised, counted, nothing, deed_of}
use Rattle.history.specs.Rows.{ends, opens, counts, is_ended, given, state_of, settled, greatest_of, row_of, adds, rows_of}

-- ---- one deed

-- what it makes of a row,
abbrev pub made : Deed → Row → Change Row
made (asked m) r = now r
made (opened id content) r = pick (eqb r.id id) (now (active_row r (settled_of r.range content))) (now r)
made (ended id) r = pick (eqb r.id id) gone (now r)
made (raised maximum) r = now r
made (counted a) r = pick (eqb r.alias a.alias) (now (counted_row r a.place)) (now r)
made nothing r = now r

-- of each row,
unfoldable pub every : (Row → Change Row) → List Row → List Row
every f [] = []
every f (r ∷ rs) = instead (f r) (every f rs)

-- and the row that it adds
abbrev pub new : Deed → List Row
new (asked m) = new_row m ∷ []
new (opened id content) = []
new (ended id) = []
new (raised maximum) = []
new (counted a) = []
new nothing = []

-- ---- a row, by the deeds that come

abbrev behind : (Row → List Row) → Change Row → List Row
behind f gone = []
behind f (now r) = f r

later : List Logged → Row → List Row
later [] r = r ∷ []
later (t ∷ ts) r = behind (later ts) (made (deed_of t) r)

state_from : State → List (Option Place) → State
state_from s [] = s
state_from s (content ∷ more) = state_from Active more

greatest_from : Option Place → List Place → Option Place
greatest_from g [] = g
greatest_from g (p ∷ ps) = greatest_from (Some (greater g p)) ps

count_from : ℕ → List Place → ℕ
count_from n [] = n
count_from n (p ∷ ps) = count_from (risen n) ps

shown : Row → List (Option Place) → List Place → Row
shown r contents places = record {
  id = r.id;
  alias = r.alias;
  state = state_from r.state contents;
  range = settled r.range contents;
  greatest = greatest_from r.greatest places;
  count = count_from r.count places;
}

abbrev unless : Bool → Row → List Row
unless over r = pick over [] (r ∷ [])

-- it is gone, or it shows what they give
Shows : List Logged → Row → Type 0
Shows ts r = later ts r ≡ unless (is_ended r.id ts) (shown r (given (opens r.id) ts) (given (counts r.alias) ts))

module _ (ts : List Logged) (ih : (r : Row) → Shows ts r) (r : Row) where
  contents : List (Option Place)
  contents = given (opens r.id) ts

  places : List Place
  places = given (counts r.alias) ts

  opened-shows : (content : Option Place) (b : Bool) → behind (later ts) (pick b (now (active_row r (settled_of r.range content))) (now r)) ≡ unless (is_ended r.id ts) (shown r (pick b (content ∷ []) [] ++ contents) places)
  unfolding Shows contents places shown state_from settled
  opened-shows content true = ih (active_row r (settled_of r.range content))
  opened-shows content false = ih r

  ended-shows : (b : Bool) → behind (later ts) (pick b gone (now r)) ≡ unless (pick b true (is_ended r.id ts)) (shown r contents places)
  unfolding Shows contents places
  ended-shows true = refl
  ended-shows false = ih r

  counted-shows : (p : Place) (b : Bool) → behind (later ts) (pick b (now (counted_row r p)) (now r)) ≡ unless (is_ended r.id ts) (shown r contents (pick b (p ∷ []) [] ++ places))
  unfolding Shows contents places shown greatest_from count_from counted_row
  counted-shows p true = ih (counted_row r p)
  counted-shows p false = ih r

  deed-shows : (d : Deed) → behind (later ts) (made d r) ≡ unless (pick (ends r.id d) true (is_ended r.id ts)) (shown r (opens r.id d ++ contents) (counts r.alias d ++ places))
  unfolding Shows contents places
  deed-shows (asked m) = ih r
  deed-shows (opened id content) = opened-shows content (eqb r.id id)
  deed-shows (ended id) = ended-shows (eqb r.id id)
  deed-shows (raised maximum) = ih r
  deed-shows (counted a) = counted-shows a.place (eqb r.alias a.alias)
  deed-shows nothing = ih r

later-shows : (ts : List Logged) (r : Row) → Shows ts r
unfolding Shows later is_ended given shown state_from greatest_from count_from settled contents places
later-shows [] r = refl
later-shows (t ∷ ts) r = deed-shows ts (later-shows ts) r (deed_of t)

-- ---- a new row

state-active : (contents : List (Option Place)) → state_from Active contents ≡ Active
unfolding state_from
state-active [] = refl
state-active (content ∷ more) = state-active more

state-is : (contents : List (Option Place)) → state_from Pending contents ≡ state_of contents
unfolding state_from
state-is [] = refl
state-is (content ∷ more) = state-active more

-- which place comes first does not matter
greatest-first : (ps : List Place) (g : Option Place) (p : Place) → greatest_from (Some (greater g p)) ps ≡ Some (greater (greatest_from g ps) p)
unfolding greatest_from
greatest-first [] g p = refl
greatest-first (q ∷ ps) g p =
    ap (λ (x : Place). greatest_from (Some x) ps) (greater-either g p q) ∙ greatest-first ps (Some (greater g q)) p

greatest-is : (ps : List Place) → greatest_from None ps ≡ greatest_of ps
unfolding greatest_from greatest_of
greatest-is [] = refl
greatest-is (p ∷ ps) = greatest-first ps None p ∙ ap (λ (g : Option Place). Some (greater g p)) (greatest-is ps)

risen-min : (n : ℕ) → risen (min top n) ≡ min top (suc n)
unfolding risen
risen-min n =
    pick-by (λ (m : ℕ). m ≡ min top (suc n)) (ltb (min top n) top)
    (λ e. let low : min top n < top = ltb-true (min top n) top e in omega arith)
    (λ e. let high : top ≤ min top n = ltb-false (min top n) top e in omega arith)

count-from : (ps : List Place) (n : ℕ) → count_from (min top n) ps ≡ min top (n + length ps)
unfolding count_from
count-from [] n = let none : n ≡ n + 0 = omega arith in ap (min top) none
count-from (p ∷ ps) n =
    let on : suc n + length ps ≡ n + suc (length ps) = omega arith in
    ap (λ (m : ℕ). count_from m ps) (risen-min n) ∙ count-from ps (suc n) ∙ ap (min top) on

count-is : (ps : List Place) → count_from 0 ps ≡ min top (length ps)
count-is ps = let none : 0 + length ps ≡ length ps = omega arith in count-from ps 0 ∙ ap (min top) none

new-shows : (m : Subscribe) (ts : List Logged) → later ts (new_row m) ≡ adds (asked m) ts
unfolding Shows row_of shown
new-shows m ts =
    let contents = given (opens m.id) ts in
    let places = given (counts m.alias) ts in
    later-shows ts (new_row m)
    ∙ ap (unless (is_ended m.id ts))
    (λ i. record {
      id = m.id;
      alias = m.alias;
      state = state-is contents i;
      range = settled (new_row m).range contents;
      greatest = greatest-is places i;
      count = count-is places i;
    })

-- ---- rows

pub laters : List Row → List Logged → List Row
laters [] ts = []
laters (r ∷ rs) ts = later ts r ++ laters rs ts

pub no-laters : (ts : List Logged) → laters [] ts ≡ []
unfolding laters
no-laters ts = refl

pub laters-none : (rs : List Row) → laters rs [] ≡ rs
unfolding laters later
laters-none [] = refl
laters-none (r ∷ rs) = ap (λ (xs : List Row). r ∷ xs) (laters-none rs)

laters-both : (rs more : List Row) (ts : List Logged) → laters (rs ++ more) ts ≡ laters rs ts ++ laters more ts
unfolding laters
laters-both [] more ts = refl
laters-both (r ∷ rs) more ts =
    ap (λ (xs : List Row). later ts r ++ xs) (laters-both rs more ts) ∙ sym (append_assoc (later ts r) (laters rs ts) (laters more ts))

module _ (t : Logged) (ts : List Logged) where
  laters-every : (rs : List Row) → laters (every (made (deed_of t)) rs) ts ≡ laters rs (t ∷ ts)
  unfolding laters later every
  laters-every [] = refl
  laters-every (r ∷ rs) =
      go (made (deed_of t) r) ∙ ap (λ (xs : List Row). behind (later ts) (made (deed_of t) r) ++ xs) (laters-every rs)
    where
      others : List Row
      others = every (made (deed_of t)) rs

      go : (c : Change Row) → laters (instead c others) ts ≡ behind (later ts) c ++ laters others ts
      go gone = refl
      go (now x) = refl

  laters-new : laters (new (deed_of t)) ts ≡ adds (deed_of t) ts
  unfolding laters
  laters-new = go (deed_of t)
    where
      go : (d : Deed) → laters (new d) ts ≡ adds d ts
      go (asked m) = append-nil (later ts (new_row m)) ∙ new-shows m ts
      go (opened id content) = refl
      go (ended id) = refl
      go (raised maximum) = refl
      go (counted a) = refl
      go nothing = refl

  -- one deed, and those that come
  pub laters-on : (rs : List Row) → laters (every (made (deed_of t)) rs ++ new (deed_of t)) ts ++ rows_of ts ≡ laters rs (t ∷ ts) ++ rows_of (t ∷ ts)
  unfolding rows_of
  laters-on rs =
      ap (λ (xs : List Row). xs ++ rows_of ts)
      (laters-both (every (made (deed_of t)) rs) (new (deed_of t)) ts ∙ (λ i. laters-every rs i ++ laters-new i))
      ∙ append_assoc (laters rs (t ∷ ts)) (adds (deed_of t) ts) (rows_of ts)
