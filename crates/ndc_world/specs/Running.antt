-- A script that runs.
use Rattle.std.specs.Prelude.{◌≡◌, ℕ, ◌+◌, List, length}
use Rattle.ndc_script_types.specs.declared.script.Header.{Header}
use Rattle.ndc_script_types.specs.declared.script.Line.{Line}
use Rattle.ndc_index.specs.declared.seen.Seen.{Seen}
use Rattle.ndc_model.specs.Lines.{AnsweredLine, answers_of, lines_of_act, ran_from, seen_in, world_behind}
use Rattle.ndc_model.specs.World.{World}
use Rattle.ndc_world.specs.Counts.{refused_in}

-- the header, how many lines were run, and the world after them
pub record Running : Type 0 where
  pub header : Header
  pub lines : ℕ
  pub world : World

-- what runs where a line of the text does: its lines
abbrev pub ran_at : Running → Line → List AnsweredLine
ran_at running line = ran_from running.header running.world (lines_of_act line.number line.act)

-- the script after it
abbrev pub behind_line : Running → Line → Running
behind_line running line = record running {
  lines = running.lines + length (lines_of_act line.number line.act);
  world = world_behind running.world (ran_at running line);
}

-- lines that ran from a world on left this one, told this, made this learned, and so many of them were refused
pub record HaveRun (ran : List AnsweredLine) (w v : World) (told : List ℕ) (shown : List Seen) (count : ℕ) : Type 0 where
  pub world : v ≡ world_behind w ran
  pub answers : told ≡ answers_of ran
  pub seen : shown ≡ seen_in ran
  pub refused : count ≡ refused_in ran
