-- `arrivals` meets its contract: along the run the ledger is what taking the arrivals so far one by one leaves, and the buffer
-- begins with their numbers. Assumes nothing.
use Prim.Native.Nat.{◌+◌, ◌*◌, ◌≤◌, ◌<◌}
use mathlib.Core.Path.{◌≡◌, sym, ◌∙◌}
use lib.Seq.{length-take-le}
use native.Mathlib.Omega.{arith}
use lib.ListN.{length, get_or}
use mathlib.Core.List.{[]}
use Rattle.ledger.specs.Ledgers.{most_rows}
use Rattle.ledger.specs.Arrays.{changed}
use Rattle.ledger.proofs.RunTurns.{arrival_at, in-chunk, begins, within, stopped-turn, missed-turn, counted-turn, fits, inside, ends, not-one, no_room}
use Rattle.ledger.proofs.Ledger.arrivals.Goals as goal
use Rattle.ledger.proofs.Ledger.arrivals.Goals.{In-Some, In-loop-k, After-first-n, Then-n-eq0, then-n-eq0+in-Some, then-n-eq0+in_default, else-n-eq0}

pub returns-then-not-is_ledger : goal.returns-then-not-is_ledger
returns-then-not-is_ledger c = not-one _ _ _ (sym c.is_ledger.ensures ∙ c.if-not-is_ledger.true)

pub returns-then-answers-came : goal.returns-then-answers-came
returns-then-answers-came c =
    no_room _ _ _ (sym c.is_ledger.ensures ∙ c.if-not-is_ledger.false) c.as_chunks.ensures.front_len c.if-answers-came.true

pub loop-k-init : goal.loop-k-init
loop-k-init c =
    (c.if-answers-came.false, begins _ _ _ _ (sym c.is_ledger.ensures ∙ c.if-not-is_ledger.false) c.is_open-opened.ensures c.aliases-names.ensures)

-- the numbers of the next arrival are there, and they are the next three of the run
there : (c : In-loop-k) → 3 * c.loop-k.k + 2 < length c.args.run.now
there c = let n = c.as_chunks.ensures.front_len in within _ _ (omega arith)

turned : (c : After-first-n) → record { alias = get_or (get_or c.as_chunks.result.0.now c.loop-k.k []) 0 0; place = record { group = get_or (get_or c.as_chunks.result.0.now c.loop-k.k []) 1 0; object = get_or (get_or c.as_chunks.result.0.now c.loop-k.k []) 2 0 } } ≡ arrival_at c.args.run.now (3 * c.loop-k.k)
turned c = let n = c.as_chunks.ensures.front_len in in-chunk _ _ _ c.as_chunks.ensures.front (omega arith)

-- where a row is found, it is one of the ledger's
spotted : (c : In-Some) → c.in-Some.i < most_rows
spotted c = inside c.loop-k.invariant.1 (there (goal.at.In-Some c).In-loop-k) (omega arith) (turned (goal.at.In-Some c).After-first-n) c.first-n.ensures c.if-n-eq0.true c.find_name.ensures c.in-Some.is

-- and the names in use fit
fitting : (c : Then-n-eq0) → (c.args.self.used ≤ most_rows) × (c.args.self.used ≤ length c.aliases-names.result)
fitting c = fits c.loop-k.invariant.1 (there (goal.at.Then-n-eq0 c).In-loop-k) (omega arith) (turned (goal.at.Then-n-eq0 c).After-first-n) c.first-n.ensures c.if-n-eq0.true

pub slice_bounds-names-end : goal.slice_bounds-names-end
slice_bounds-names-end c = (fitting c).1

pub slice_bounds-find_name-end : goal.slice_bounds-find_name-end
slice_bounds-find_name-end c =
    sym (length-take-le c.args.self.used c.aliases-names.result (fitting (goal.at.slice_bounds-find_name-end c).Then-n-eq0).1)

pub offset_bounds-l-i : goal.offset_bounds-l-i
offset_bounds-l-i c = omega (arith, spotted c)

pub bounds-l-i : goal.bounds-l-i
bounds-l-i c = spotted c

pub offset_bounds-l-i-in-Some : goal.offset_bounds-l-i-in-Some
offset_bounds-l-i-in-Some c = omega (arith, spotted (goal.at.offset_bounds-l-i-in-Some c).In-Some)

pub bounds-l-i-in-Some : goal.bounds-l-i-in-Some
bounds-l-i-in-Some c = spotted (goal.at.bounds-l-i-in-Some c).In-Some

pub loop-k-preserved : goal.loop-k-preserved
unfolding changed
loop-k-preserved c =
    let g = c.loop-k.invariant.1 in
    let h = there (goal.at.loop-k-preserved c).In-loop-k in
    let at = turned (goal.at.loop-k-preserved c).After-first-n in
    let first = c.first-n.ensures in (
      c.loop-k.invariant.0,
      elim c.if-n-eq0.branch [
        | then-n-eq0+in-Some w ↦ rw (w.l-is, w.n-is) (counted-turn g h (omega arith) at first w.if-n-eq0.true w.find_name.ensures w.in-Some.is w.arrive-came.result w.arrive-came.ensures w.unwrap_or.ensures w.arrived_number-n.ensures)
        | then-n-eq0+in_default w ↦ rw (w.l-is, w.n-is) (missed-turn g h (omega arith) at first w.if-n-eq0.true w.find_name.ensures w.in_default.is)
        | else-n-eq0 w ↦ rw (w.l-is, w.n-is) (stopped-turn g h (omega arith) at first w.if-n-eq0.false)
      ],
    )

pub returns : goal.returns
returns c =
    ends c.loop-k.invariant.1 c.as_chunks.ensures.front_len (omega arith) (omega arith) (sym c.is_ledger.ensures ∙ c.if-not-is_ledger.false) c.loop-k.invariant.0
