-- How the functions that feed a trace go on: what is fed to one progress from an offset on is what is fed to the next
-- from a later one on.
use Rattle.std.specs.Prelude.{◌≡◌, ℕ, ◌-◌, ◌*◌, ◌^◌, ◌<◌, ◌≤◌, false, List, Option, Some, None, length, take, drop, ◌==◌}
use Rattle.common.specs.Choice.{guard}
use Rattle.trace.specs.Fields.{is_whole}
use Rattle.trace.specs.declared.Field.{Field}
use Rattle.replay.specs.Events.{arrived_by}
use Rattle.replay.specs.Progressing.{fed, arrived_all}
use Rattle.replay.specs.declared.Event.{Event}
use Rattle.replay.specs.declared.Event.TheVariants.{Fault}
use Rattle.replay.specs.declared.Stage.TheVariants.{Running}
use Rattle.replay.specs.declared.Progress.{Progress}
use Rattle.replay.specs.declared.Fed.{Fed}
use Rattle.replay.specs.declared.Gathered.{Gathered}

-- a field that is an arrival
unfoldable pub arrival_in : List ℕ → Field → Event
arrival_in s f = guard (f.tag == 3) Fault (arrived_by (take (f.end - f.start) (drop f.start s)))

-- arrivals from an offset on: feeding them all is feeding what is after them to the ledger after them
pub record Gathers (s : List ℕ) (at : ℕ) (g : Gathered) (before after : List ℕ) : Type 0 where
  pub same-room : length after ≡ length before
  pub fits : 3 * g.count ≤ length before
  pub goes_on : at ≤ g.end
  pub ends : g.end ≤ length s
  pub moves : 0 < g.count → at < g.end
  pub feeds : (p : Progress) → p.stage ≡ Running → p.offset < 2 ^ 64 →
      fed p (drop at s) ≡ fed (arrived_all p (take (3 * g.count) after) (g.end - at)) (drop g.end s)

-- one turn: it goes on where a whole field stands there, and else there is none
pub record Further (p : Progress) (s : List ℕ) (at : ℕ) (r : Fed) : Type 0 where
  pub goes_on : at < r.used
  pub ends : r.used ≤ length s
  pub feeds : fed p (drop at s) ≡ fed r.progress (drop r.used s)

abbrev pub Turns : Progress → List ℕ → ℕ → Option Fed → Type 0
Turns p s at (Some r) = Further p s at r
Turns p s at None = is_whole (drop at s) ≡ false
