-- What a run that ended shows. Assumes nothing.
use Prim.Native.Nat.{ℕ, ◌-◌, ◌≤◌}
use mathlib.Core.Path.{◌≡◌}
use mathlib.Core.List.{List}
use native.Mathlib.Omega.{arith}
use lib.ListN.{length}
use Rattle.common.specs.Answer.{Answer, Nothing, Leaves}
use Rattle.text.specs.Lines.{line_of, fault_line, put_text}
use Rattle.text.specs.declared.Item.{Item}
use Rattle.replay.specs.Progressing.{begun, fed, finish_of, replay_of, fed_of}
use Rattle.replay.proofs.WhatIsLeft.{rest-few}
use Rattle.replay.specs.declared.Fed.{Fed}
use Rattle.replay.specs.declared.Stage.TheVariants.{Empty, Running, Faulty}
use Rattle.replay.specs.declared.Progress.{Progress}
use Rattle.report.specs.Report.{ledger_text, text_of, report_of}

module _ (p q : Progress) (e : q ≡ p) (before : List ℕ) {r : Answer Nothing} {after : List ℕ} where
  pub shows_nothing : (line : List Item) → q.stage ≡ Empty → line ≡ fault_line 0 → Leaves (put_text (line_of line) before) r after → Leaves (put_text (text_of p) before) r after
  unfolding text_of
  shows_nothing line s f w = rw (← e, s, ← f) w

  pub shows-ledger : q.stage ≡ Running → Leaves (put_text (ledger_text q.ledger) before) r after → Leaves (put_text (text_of p) before) r after
  unfolding text_of
  shows-ledger s w = rw (← e, s) w

  pub shows-fault : (at : ℕ) (line : List Item) → q.stage ≡ Faulty at → line ≡ fault_line at → Leaves (put_text (line_of line) before) r after → Leaves (put_text (text_of p) before) r after
  unfolding text_of
  shows-fault at line s f w = rw (← e, s, ← f) w

-- a trace that was fed whole, and ends
module _ (s : List ℕ) (p : Progress) (r : Fed) (b : p ≡ begun) (e : r ≡ fed_of p s) where
  pub used-fits : r.used ≤ length s
  unfolding fed_of
  used-fits = rw e (omega arith)

  pub shows-report : text_of (finish_of r.progress (length s - r.used)) ≡ report_of s
  unfolding fed_of report_of replay_of
  shows-report =
      let left : length s - (length s - length (fed begun s).rest) ≡ length (fed begun s).rest = omega (arith, rest-few begun s) in
      rw (e, b, left)
