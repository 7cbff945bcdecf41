-- The loop that puts entries: those that are left are there, so each is found. Assumes nothing.
use Prim.Native.Nat.{ℕ, ◌+◌, ◌-◌, ◌≤◌, ◌<◌}
use mathlib.Core.Path.{◌≡◌, refl, sym, ap, ◌∙◌}
use mathlib.Core.Bool.{true}
use mathlib.Core.List.{List, ◌++◌, append_assoc}
use native.Mathlib.Omega.{arith}
use lib.ListN.{length}
use Rattle.std.specs.Prelude.{Result, Ok, Err}
use Rattle.common.specs.Buffer.{Put}
use Rattle.common.proofs.Puts.{lent, given}
use Rattle.common.proofs.PutLoop.{Going, Next, going_start, going-within, going_end, next_fits, going-sum, going_next}
use Rattle.integer.specs.Integer.{greatest}
use Rattle.field.specs.Outcome.{whole}
use Rattle.field.specs.Entries.{size, entry_at}
use Rattle.field.specs.Value.{part, entry_values, contents, enc_items}
use Rattle.field.specs.Told.{told_entry}
use Rattle.field.specs.declared.Entries.{Entries}
use Rattle.field.specs.declared.Entry.{Entry}
use Rattle.field.specs.declared.Fault.{Fault}
use Rattle.field.specs.declared.Kind.{Kind}
use Rattle.field.proofs.Found.{EntryAt, entry-at}
use Rattle.field.proofs.Lengths.{length_part}
use Rattle.measure.specs.Judging.{right_list}
use Rattle.measure.proofs.EntriesFrom.{Run, run-first, run-next, items-next, items-none}
use Rattle.measure.proofs.Lists.{holds}
use Rattle.encode.specs.Entries.{enc_head}
use Rattle.encode.proofs.EntryForms.{head-is}

-- that many entries from an offset on are there, and left to be put
pub record Entering (kind : Kind) (s all before out : List ℕ) (at here left : ℕ) : Type 0 where
  pub going : Going all before out at (enc_items kind (entry_values kind left s here))
  pub run : Run kind left s here

-- and the next of them was found
pub record Turn (kind : Kind) (s all before out : List ℕ) (at here left : ℕ) (e : Entry) : Type 0 where
  pub entering : Entering kind s all before out at here left
  pub fits : length all ≤ length before
  pub more : 0 < left
  pub found : entry_at kind greatest s here ≡ whole e e.bytes.end

-- at the start all are left
pub entering-start : (kind : Kind) (s before : List ℕ) (l : Entries) → right_list s kind l ≡ true → Entering kind s (enc_items kind (contents s kind l)) before before 0 l.start l.count
entering-start kind s before l h = record { going = going_start _ before; run = (holds s kind l h).run }

module _ {kind : Kind} {s all before out : List ℕ} {at here left : ℕ} (g : Entering kind s all before out at here left) (fits : length all ≤ length before) where
  -- no entry is left
  pub entering-end : left ≤ 0 → Put all before at out
  entering-end h =
      let z : left ≡ 0 = omega arith in
      going_end g.going fits (rw z (items-none kind s here))

  module _ {r : Result Entry Fault} (more : 0 < left) (said : told_entry r ≡ entry_at kind greatest s here) where
    -- there is a next entry
    pub entry_found : {fault : Fault} → r ≡ Err fault → ⊥
    entry_found f = run-first left g.run more (sym said ∙ ap told_entry f)

    -- which is then to be put
    pub turn : {e : Entry} → r ≡ Ok e → Turn kind s all before out at here left e
    turn f = record { entering = g; fits = fits; more = more; found = sym said ∙ ap told_entry f }

-- ---- a turn: the numbers in front of an entry, then its bytes

-- those of the entries after it
abbrev others : Kind → List ℕ → ℕ → Entry → List ℕ
others kind s left e = enc_items kind (entry_values kind (left - 1) s e.bytes.end)

module _ {kind : Kind} {s all before out : List ℕ} {at here left : ℕ} {e : Entry} (w : Turn kind s all before out at here left e) where
  -- what was found, by its parts
  pub parts : EntryAt kind greatest s here e e.bytes.end
  parts = entry-at kind greatest s here w.found

  -- the numbers come first,
  head-next : Next (enc_head kind e.number (size e.bytes)) (part s e.bytes ++ others kind s left e) (enc_items kind (entry_values kind left s here))
  head-next =
      record { joins = items-next kind left s here w.more w.found ∙ ap (λ (x : List ℕ). x ++ others kind s left e) (sym (head-is kind s here w.found)) ∙ append_assoc (enc_head kind e.number (size e.bytes)) (part s e.bytes) _ }

  -- and then the bytes
  bytes_next : Next (part s e.bytes) (others kind s left e) (part s e.bytes ++ others kind s left e)
  bytes_next = record { joins = refl }

  -- the numbers can be put into what is left,
  pub head-asks : ((e.number ≤ greatest) × (size e.bytes ≤ greatest)) × (length (enc_head kind e.number (size e.bytes)) ≤ length (lent at out))
  head-asks = ((parts.small, parts.little), next_fits w.entering.going w.fits head-next)

  module _ {head : ℕ} {t : List ℕ} (q : Put (enc_head kind e.number (size e.bytes)) (lent at out) head t) where
    -- and then the bytes are left
    headed : Going all before (given at out t) (at + head) (part s e.bytes ++ others kind s left e)
    headed = going_next w.entering.going w.fits head-next q

    -- they end within the buffer,
    pub head-sum : at + head ≤ length before
    head-sum = going-sum w.entering.going w.fits head-next q

    pub head-within : at + head ≤ length (given at out t)
    head-within = going-within headed w.fits

    -- and there is room for the bytes after them,
    pub bytes_fit : size e.bytes ≤ length (lent (at + head) (given at out t))
    bytes_fit = rw (length_part s e.bytes parts.within) at (next_fits headed w.fits bytes_next)

    module _ {n : ℕ} {u : List ℕ} (k : Put (part s e.bytes) (lent (at + head) (given at out t)) n u) where
      -- which end within it too,
      pub entry-sum : at + head + n ≤ length before
      entry-sum = going-sum headed w.fits bytes_next k

      -- and then the others are left
      pub entry_next : Entering kind s all before (given (at + head) (given at out t) u) (at + head + n) e.bytes.end (left - 1)
      entry_next =
          record { going = going_next headed w.fits bytes_next k; run = run-next left w.entering.run w.more w.found }
