-- What holds of every line and every script.
use Rattle.std.specs.Prelude.{◌≡◌, ℕ, Bool, true, false, List, [], take, length, codes}
use Rattle.std.specs.Str.{bytes_eq}
use Rattle.ndc_script_types.specs.declared.script.Act.{Act}
use Rattle.ndc_script_types.specs.declared.script.Act.TheVariants as act
use Rattle.ndc_script_types.specs.declared.script.Header.{Header}
use Rattle.ndc_script_types.specs.declared.script.Line.{Line}
use Rattle.ndc_script_types.specs.declared.script.Script.{Script}
use Rattle.ndc_model.specs.Steps.{Stepped}
use Rattle.ndc_model.specs.World.{World}

-- whether a text begins with another
abbrev pub begins_with : List ℕ → List ℕ → Bool
begins_with front text = bytes_eq (take (length front) text) front

-- whether an answer is a refusal
abbrev pub is_refusal : List ℕ → Bool
is_refusal answer = begins_with (codes "refused") answer

-- whether an answer is the refusal that ends a handover
abbrev pub is_overtaken : List ℕ → Bool
is_overtaken answer = begins_with (codes "refused Overtaken") answer

-- a line changes nothing and makes nothing learned
pub record ChangesNothing (w : World) (step : Stepped) : Type 0 where
  pub world : step.world ≡ w
  pub seen : step.seen ≡ []

-- whether a line only reads
abbrev pub is_reading : Act → Bool
is_reading (act.Domain at domain) = true
is_reading (act.MembersOf at domain) = true
is_reading (act.LevelsOf reader source shard) = true
is_reading (act.Gaps cluster) = true
is_reading (act.History cluster domain workflow) = true
is_reading (act.Branches cluster domain workflow) = true
is_reading (act.Current cluster domain workflow) = true
is_reading (act.StateOf cluster domain workflow) = true
is_reading (act.Dump cluster domain workflow) = true
is_reading (act.Compare one two domain workflow) = true
is_reading (act.LettersOf reader) = true
is_reading (act.ProgressOf cluster domain workflow id) = true
is_reading _ = false

-- a script of a header and lines
abbrev pub script_of : Header → List Line → Script
script_of header lines = record { header = header; lines = lines }
