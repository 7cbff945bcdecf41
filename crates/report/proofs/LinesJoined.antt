-- The session's line, the columns and the rows, each into what is left after the one before. Assumes nothing.
use Prim.Native.Nat.{ℕ, ◌+◌, ◌≤◌}
use mathlib.Core.Path.{◌≡◌, refl}
use mathlib.Core.List.{List, ◌++◌, append_assoc}
use lib.ListN.{length}
use Rattle.common.specs.Buffer.{Put}
use Rattle.common.proofs.Puts.{lent, given, Room, first_fits, ends-within, second_fits, both-fit, put_both}
use Rattle.ledger.specs.Ledgers.{held}
use Rattle.ledger.specs.declared.Ledger.{Ledger}
use Rattle.text.specs.Lines.{line_of}
use Rattle.text.specs.declared.Item.{Item}
use Rattle.report.specs.Rows.{session_line, columns_line}
use Rattle.report.specs.Report.{rows_text, ledger_text}

-- the two lines in front
abbrev session : Ledger → List ℕ
session l = line_of (session_line l.session l.used)

abbrev columns : List ℕ
columns = line_of columns_line

module _ (l : Ledger) (before : List ℕ) (fits : length (ledger_text l) ≤ length before) where
  all_room : Room (session l ++ columns) (rows_text (held l)) (ledger_text l) before
  unfolding ledger_text
  all_room = record { joins = append_assoc (session l) columns (rows_text (held l)); fits = fits }

  front-room : Room (session l) columns (session l ++ columns) before
  front-room = record { joins = refl; fits = first_fits all_room }

  -- a line is put as its items are known,
  module _ {line : List Item} (is : line ≡ session_line l.session l.used) where
    pub session-fits : length (line_of line) ≤ length before
    session-fits = rw is (first_fits front-room)

    module _ {n : ℕ} {after : List ℕ} (p : Put (line_of line) before n after) where
      first : Put (session l) before n after
      first = rw (← is) p

      pub session-ends : n ≤ length after
      session-ends = ends-within front-room first

      -- the columns after it,
      module _ {other : List Item} (are : other ≡ columns_line) where
        pub columns-fit : length (line_of other) ≤ length (lent n after)
        columns-fit = rw are (second_fits front-room first)

        module _ {m : ℕ} {t : List ℕ} (q : Put (line_of other) (lent n after) m t) where
          second : Put columns (lent n after) m t
          second = rw (← are) q

          front : Put (session l ++ columns) before (n + m) (given n after t)
          front = put_both front-room first second

          pub front-sum : n + m ≤ length before
          front-sum = both-fit front-room first second

          pub front_ends : n + m ≤ length (given n after t)
          front_ends = ends-within all_room front

          -- and the rows after both
          pub rows_fit : length (rows_text (held l)) ≤ length (lent (n + m) (given n after t))
          rows_fit = second_fits all_room front

          module _ {k : ℕ} {u : List ℕ} (r : Put (rows_text (held l)) (lent (n + m) (given n after t)) k u) where
            pub all-sum : n + m + k ≤ length before
            all-sum = both-fit all_room front r

            pub all-put : Put (ledger_text l) before (n + m + k) (given (n + m) (given n after t) u)
            all-put = put_both all_room front r
