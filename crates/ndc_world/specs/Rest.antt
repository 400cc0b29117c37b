-- What is left of a script that runs.
use Rattle.std.specs.Prelude.{ℕ, ◌+◌, ◌≤◌, Bool, List, [], length, if◌then◌else◌}
use Rattle.std.specs.List.{AllByRecursion}
use Rattle.ndc_script_types.specs.WellFormed.{IsWellFormedAct}
use Rattle.ndc_script_types.specs.declared.script.Header.{Header}
use Rattle.ndc_script_types.specs.declared.script.Line.{Line}
use Rattle.ndc_script_types.specs.declared.script.Script.{Script}
use Rattle.ndc_index.specs.declared.seen.Seen.{Seen}
use Rattle.ndc_model.specs.Lines.{AnsweredLine, plain_lines, ran_from, ran_of, world_behind}
use Rattle.ndc_model.specs.World.{World, opening_world}
use Rattle.ndc_world.specs.Running.{Running}
use Rattle.ndc_world.specs.Standing.{WorldValue}

-- a script that runs, in a world for which its clusters stand
abbrev pub at_world : WorldValue → World → Running
at_world value w = record { header = value.header; lines = value.lines; world = w }

-- what runs where these lines do, in the world that was left
abbrev pub left_of : Running → List Line → List AnsweredLine
left_of running lines = ran_from running.header running.world (plain_lines lines)

-- these lines may run after so many: they are as they should be, and no more than 100,000 lines run with them
pub record MayRun (header : Header) (count : ℕ) (lines : List Line) : Type 0 where
  pub fit : AllByRecursion (λ line. IsWellFormedAct header line.act) lines
  pub few : count + length (plain_lines lines) ≤ 100000

-- what is kept of what became learned: all of it, where it is to be told late
abbrev pub kept_where : Bool → List Seen → List Seen
kept_where keeps seen = if keeps then seen else []

-- a script before its first line
abbrev pub opening_of : Script → Running
opening_of script = record { header = script.header; lines = 0; world = opening_world script.header }

-- the world after the last line of a script
abbrev pub last_world : Script → World
last_world script = world_behind (opening_world script.header) (ran_of script)
