-- The last lines of a trace are no more than `longest_lines` bytes. Assumes nothing.
use Prim.Native.Nat.{ℕ, ◌*◌, ◌≤◌}
use mathlib.Core.List.{List, []}
use native.Mathlib.Omega.{arith}
use lib.Dec.{eqb}
use lib.ListN.{length, length-append}
use Rattle.common.proofs.Cases.{pick-by}
use Rattle.text.specs.Lines.{line_of, fault_line as trace_fault}
use Rattle.text.proofs.Bounds.{line-bound}
use Rattle.replay.specs.Progressing.{on_fault, end_stage}
use Rattle.replay.specs.declared.Stage.{Stage}
use Rattle.replay.specs.declared.Stage.TheVariants.{Empty, Running, Faulty as AtFault}
use Rattle.replay.specs.declared.Progress.{Progress}
use Rattle.explanation_lines.specs.declared.Word.TheVariants.{EndsInside, NoBytes}
use Rattle.explanation_lines.proofs.LineBounds.{Few, longest_line, cut-field-bound, fault-line-bound}
use Rattle.explanation.specs.Telling.{longest_lines}
use Rattle.explanation_traces.specs.Traces.{ends_inside, end_reason, end_text}

inside-bound : (offset : ℕ) (rest : List ℕ) → Few (2 * longest_line) (ends_inside offset rest)
inside-bound offset rest = rw length-append (omega (arith, cut-field-bound offset rest, fault-line-bound EndsInside))

reason-bound : (stage : Stage) (offset : ℕ) (rest : List ℕ) → Few (2 * longest_line) (end_reason stage offset rest)
reason-bound (AtFault at) offset rest = omega arith
reason-bound Empty offset rest =
    pick-by (Few (2 * longest_line)) (eqb (length rest) 0)
    (λ e. omega (arith, fault-line-bound NoBytes))
    (λ e. inside-bound offset rest)
reason-bound Running offset rest =
    pick-by (Few (2 * longest_line)) (eqb (length rest) 0) (λ e. omega arith) (λ e. inside-bound offset rest)

trace-fault-bound : (stage : Stage) → Few longest_line (line_of (on_fault stage trace_fault []))
unfolding line_of
trace-fault-bound Empty = omega (arith, line-bound (trace_fault 0))
trace-fault-bound Running = omega arith
trace-fault-bound (AtFault at) = omega (arith, line-bound (trace_fault at))

pub end_fits : (p : Progress) (rest : List ℕ) → length (end_text p rest) ≤ longest_lines
unfolding end_text
end_fits p rest =
    let fault = trace-fault-bound (end_stage p.stage p.offset (length rest)) in
    rw length-append (omega (arith, reason-bound p.stage p.offset rest, fault))
