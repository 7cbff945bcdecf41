-- A TRACE, field by field: each is taken as in a replay, and what is answered to it stands below its parts.
use Rattle.std.specs.Prelude.{ℕ, ◌+◌, Option, Some, None, Bool, true, false, List, [], ◌++◌, length, drop, take, eqb}
use Rattle.common.specs.Choice.{pick}
use Rattle.ledger.specs.Answers.{Verdict}
use Rattle.text.specs.Lines.{line_of, fault_line as trace_fault}
use Rattle.trace.specs.Fields.{number_of_tag, field_size, is_whole}
use Rattle.replay.specs.Progressing.{on_fault, end_stage, stepped_by}
use Rattle.replay.specs.declared.Event.{Event}
use Rattle.replay.specs.declared.Event.TheVariants.{Start, Control, Malformed, Arrived, Fault as AtFault}
use Rattle.replay.specs.declared.Stage.{Stage}
use Rattle.replay.specs.declared.Stage.TheVariants.{Empty, Running, Faulty}
use Rattle.replay.specs.declared.Progress.{Progress}
use Rattle.explanation_lines.specs.Lines.{fault_line, cut_field_line}
use Rattle.explanation.specs.Telling.{duly, field_begun}
use Rattle.explanation_lines.specs.declared.Word.TheVariants.{EndsInside, NoBytes}
use Rattle.explanation.specs.declared.Reason.{Reason}
use Rattle.explanation.specs.declared.Reason.TheVariants.{NoTag, NotFirst, SecondStart, NoStart, NoMessage, NoArrival}
use Rattle.explanation.specs.declared.Ending.{Ending}
use Rattle.explanation.specs.declared.Ending.TheVariants.{Answered, Fault}
use Rattle.explanation.specs.declared.Due.TheVariants.{Nothing}
use Rattle.explanation.specs.declared.Explaining.{Explaining}
use Rattle.explanation_traces.specs.declared.FieldTaken.{FieldTaken}

-- ---- why a field is at fault: its tag; that it isn't due; or its value has another shape

abbrev pub is_empty : Stage → Bool
is_empty Empty = true
is_empty Running = false
is_empty (Faulty at) = false

unfoldable pub reason_of : Stage → ℕ → Reason
reason_of stage tag =
    pick (eqb tag 1) (pick (is_empty stage) NoStart SecondStart)
    (pick (eqb tag 2) (pick (is_empty stage) NotFirst NoMessage)
    (pick (eqb tag 3) (pick (is_empty stage) NotFirst NoArrival) NoTag))

-- ---- a field

abbrev pub ending_by : Event → Verdict → Reason → Ending
ending_by (Start part maximum) said reason = Answered said.number said.rule
ending_by (Control m) said reason = Answered said.number said.rule
ending_by (Malformed refusal) said reason = Answered said.number said.rule
ending_by (Arrived a) said reason = Answered said.number said.rule
ending_by AtFault said reason = Fault reason

-- after a fault nothing is shown
abbrev pub shown_in : Stage → Explaining → Explaining
shown_in Empty e = e
shown_in Running e = e
shown_in (Faulty at) e = duly e Nothing

-- by the event that it is, and what the ledger says to it
unfoldable pub explaining_by : Stage → ℕ → List ℕ → Event → Verdict → Explaining
explaining_by stage offset field event said =
    shown_in stage (field_begun field offset (ending_by event said (reason_of stage (number_of_tag field))))

unfoldable pub explaining_in : Progress → List ℕ → Explaining
explaining_in p field =
    let stepped = stepped_by p field in
    explaining_by p.stage p.offset field stepped.event stepped.says

-- the field at an offset; where none is whole, none
unfoldable pub taken_at : Progress → List ℕ → ℕ → Option FieldTaken
taken_at p s at =
    let field = take (field_size (drop at s)) (drop at s) in
    pick (is_whole (drop at s))
    (Some
    (record {
      explaining = explaining_in p field;
      progress = (stepped_by p field).next;
      used = at + field_size (drop at s);
    }))
    None

-- ---- the end of a trace, where these bytes are left of a field

abbrev pub ends_inside : ℕ → List ℕ → List ℕ
ends_inside offset rest = cut_field_line offset rest ++ fault_line EndsInside

abbrev pub end_reason : Stage → ℕ → List ℕ → List ℕ
end_reason (Faulty at) offset rest = []
end_reason Empty offset rest = pick (eqb (length rest) 0) (fault_line NoBytes) (ends_inside offset rest)
end_reason Running offset rest = pick (eqb (length rest) 0) [] (ends_inside offset rest)

unfoldable pub end_text : Progress → List ℕ → List ℕ
end_text p rest =
    end_reason p.stage p.offset rest ++
    line_of (on_fault (end_stage p.stage p.offset (length rest)) trace_fault [])
