-- A part that holds counted entries: when it is right, and how it is judged. Assumes nothing.
use Prim.Native.Nat.{ℕ, ◌+◌, ◌≤◌, ◌<◌}
use mathlib.Core.Path.{◌≡◌, refl, sym, ap, ◌∙◌}
use mathlib.Core.Bool.{true, false}
use mathlib.Core.List.{List, ◌++◌}
use native.Mathlib.Omega.{arith}
use borrow.Author.Tests.{le-leb, lt-leb, eq-eqb, ne_eqb, leb-true}
use lib.Dec.{leb}
use lib.ListN.{length, length-append}
use Rattle.std.specs.Prelude.{Result, Ok, Err}
use Rattle.common.specs.Choice.{both}
use Rattle.common.proofs.Tests.{both_first, both-second}
use Rattle.integer.specs.Integer.{size_of, greatest, enc_of}
use Rattle.integer.proofs.Laws.{length-enc}
use Rattle.field.specs.Outcome.{Outcome, whole, no, and_then}
use Rattle.field.specs.Entries.{entries_at, few}
use Rattle.field.specs.Value.{entry_values, contents, total, enc_items, enc_list, walk_of}
use Rattle.field.specs.Told.{told_walk}
use Rattle.field.specs.declared.Entries.{Entries}
use Rattle.field.specs.declared.Fault.{Fault}
use Rattle.field.specs.declared.Kind.{Kind}
use Rattle.field.specs.declared.Sums.{Sums}
use Rattle.field.proofs.Found.{steps}
use Rattle.layout.specs.Permitted.{within}
use Rattle.measure.specs.Judging.{ends_at, right_list, sized_list, fit, measure_list}
use Rattle.measure.specs.declared.Unfit.TheVariants.{Oversize, Forbidden}
use Rattle.measure.proofs.Judges.{judged-forbidden, judged-oversize, judged-fit}
use Rattle.measure.proofs.EntriesFrom.{Run, items-length, items-held}

-- ---- a right list, by its parts

-- its count can be written, it ends within the bytes, and the entries are there
pub record Holds (s : List ℕ) (kind : Kind) (l : Entries) : Type 0 where
  pub small : l.count ≤ greatest
  pub within : l.end ≤ length s
  pub run : Run kind l.count s l.start

-- so is what is right
pub holds : (s : List ℕ) (kind : Kind) (l : Entries) → right_list s kind l ≡ true → Holds s kind l
unfolding right_list
holds s kind l e =
    let a = leb l.count greatest in
    let b = leb l.end (length s) in
    let o = entries_at false kind l.count 0 s l.start in
    let d = ends_at o l.end in
    let f = both-second a (both b d) e in
    record {
      small = leb-true l.count greatest (both_first a (both b d) e);
      within = leb-true l.end (length s) (both_first b d f);
      run = go o refl (both-second b d f);
    }
  where
    go : (o : Outcome ℕ) → entries_at false kind l.count 0 s l.start ≡ o → ends_at o l.end ≡ true → Run kind l.count s l.start
    go (whole held last) f h = record { earlier = 0; held = held; end = last; runs = f }
    go (no fault) f h = absurd (let z : ◌≡◌ {A = ℕ} 0 1 = cc in omega arith)

-- its shortest form is the count, and then the entries
pub list-is : {s : List ℕ} {kind : Kind} (l : Entries) → Run kind l.count s l.start → enc_of l.count ++ enc_items kind (contents s kind l) ≡ enc_list kind (contents s kind l)
unfolding enc_list
list-is l r = rw (items-length l.count r)

-- ---- what walking the entries comes to

module _ (kind : Kind) (count : ℕ) (s : List ℕ) (at : ℕ) where
  -- where the entries end, what they hold, and what their shortest form takes
  pub record Walks (w : Sums) : Type 0 where
    pub runs : entries_at false kind count 0 s at ≡ whole w.held w.end
    pub takes : w.size ≡ length (enc_items kind (entry_values kind count s at))

  -- all were found
  walked : {w : Sums} → walk_of false kind count s at ≡ whole w w.end → Walks w
  unfolding walk_of
  walked {w} h =
      let t = steps (entries_at false kind count 0 s at) _ h in
      have t.found t.end t.first (cc)
    where
      have : (held end : ℕ) → entries_at false kind count 0 s at ≡ whole held end → record { end = end; held = held; size = length (enc_items kind (entry_values kind count s at)) } ≡ w → Walks w
      have held end f e = rw (← e) (record { runs = f; takes = refl })

  -- or one was missing
  missing : {fault : Fault} → walk_of false kind count s at ≡ no fault → entries_at false kind count 0 s at ≡ no fault
  unfolding walk_of
  missing {fault} = go (entries_at false kind count 0 s at)
    where
      go : (o : Outcome ℕ) → (and_then {B = Sums} o λ held end. whole (record { end = end; held = held; size = length (enc_items kind (entry_values kind count s at)) }) end) ≡ no fault → o ≡ no fault
      go (whole held end) h = absurd (let z : ◌≡◌ {A = ℕ} 0 1 = cc in omega arith)
      go (no f) h = cc

-- ---- how it is judged, answer by answer

module _ (s : List ℕ) (kind : Kind) (l : Entries) (also room : ℕ) where
  -- the count can't be written
  pub list-great : greatest < l.count → Err Forbidden ≡ measure_list s kind l also room
  unfolding measure_list right_list
  list-great h = judged-forbidden _ _ _ (rw (lt-leb l.count greatest h))

  module _ (small : l.count ≤ greatest) where
    -- the bytes end before the part does
    pub list-outside : length s < l.end → Err Forbidden ≡ measure_list s kind l also room
    unfolding measure_list right_list
    list-outside h = judged-forbidden _ _ _ (rw (le-leb l.count greatest small, lt-leb l.end (length s) h))

    module _ (inside : l.end ≤ length s) {r : Result Sums Fault} (said : told_walk r ≡ walk_of false kind l.count s l.start) where
      -- an entry is missing
      pub list-missing : {fault : Fault} → r ≡ Err fault → Err Forbidden ≡ measure_list s kind l also room
      unfolding measure_list right_list
      list-missing f =
          judged-forbidden _ _ _
          (rw (le-leb l.count greatest small, le-leb l.end (length s) inside, missing kind l.count s l.start (sym said ∙ ap told_walk f)))

      module _ {w : Sums} (f : r ≡ Ok w) where
        -- what was walked
        walks : Walks kind l.count s l.start w
        walks = walked kind l.count s l.start (sym said ∙ ap told_walk f)

        -- the entries end elsewhere
        pub list-other : (w.end ≡ l.end → ⊥) → Err Forbidden ≡ measure_list s kind l also room
        unfolding measure_list right_list
        list-other h =
            judged-forbidden _ _ _
            (rw (le-leb l.count greatest small, le-leb l.end (length s) inside, walks.runs, ne_eqb w.end l.end h))

        abbrev run : Run kind l.count s l.start
        run = record { earlier = 0; held = w.held; end = w.end; runs = walks.runs }

        -- they hold what their items do
        held-is : w.held ≡ total (contents s kind l)
        held-is = omega (arith, items-held l.count run)

        module _ (ends : w.end ≡ l.end) where
          -- the entries are those of the part
          is_right_lem : right_list s kind l ≡ true
          unfolding right_list
          is_right_lem =
              rw (le-leb l.count greatest small, le-leb l.end (length s) inside, walks.runs, eq-eqb w.end l.end ends)

          -- there are too many entries, or too few
          pub list-many : few kind l.count ≡ false → Err Oversize ≡ measure_list s kind l also room
          unfolding measure_list sized_list
          list-many h = judged-oversize _ _ is_right_lem (rw h)

          module _ (fine : few kind l.count ≡ true) where
            -- they hold too many bytes
            pub list_over : within kind (w.held + also) ≡ false → Err Oversize ≡ measure_list s kind l also room
            unfolding measure_list sized_list
            list_over h = judged-oversize _ _ is_right_lem (rw (fine, ← held-is, h))

            -- all is well
            pub list-fits : {head : ℕ} → within kind (w.held + also) ≡ true → head ≡ size_of l.count → fit (head + w.size) room ≡ measure_list s kind l also room
            unfolding measure_list sized_list
            list-fits {head} h e =
                judged-fit _ is_right_lem (rw (fine, ← held-is, h))
                (omega (arith, e, walks.takes, length-enc l.count, length-append (enc_of l.count) (enc_items kind (contents s kind l)), ap length (list-is l run)))
