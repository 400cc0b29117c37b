-- What is shown of what becomes of a script.
use Rattle.std.specs.Prelude.{◌≡◌, Bool, List, ◌++◌, codes, decimal, length, if◌then◌else◌, ℕ}
use Rattle.ndc_script_types.specs.declared.script.Script.{Script}
use Rattle.ndc_laws_program.specs.Summed.{SumsUp}
use Rattle.ndc_model.specs.Lines.{ran_of}
use Rattle.ndc_world.specs.Counts.{refused_in}
use Rattle.ndc_world.specs.Summary.{summary_with}
use Rattle.ndc_world.specs.declared.summary.Summary.{Summary}
use Rattle.ndc_world.specs.Rest.{last_world}
use Rattle.ndc_world_queries.specs.Summaries.{totals_of}
use Rattle.ndc_world_queries.specs.declared.parts.Totals.{Totals}

-- `yes` or `no`
abbrev pub answer_of : Bool → List ℕ
answer_of same = if same then codes "yes" else codes "no"

-- the line on what a world comes to
abbrev pub summary_line : Summary → List ℕ
summary_line summary =
    codes "answers " ++ decimal summary.answers ++ codes " refused " ++ decimal summary.refused ++ codes " batches " ++ decimal summary.batches ++ codes " workflows " ++ decimal summary.workflows
    ++ codes " branches " ++ decimal summary.branches ++ codes " same " ++ answer_of summary.same ++ codes "\n"

-- what is shown of what becomes of a script
abbrev pub demo_text : Script → List ℕ
demo_text script = summary_line (summary_with (length (ran_of script)) (refused_in (ran_of script)) (totals_of script.header (last_world script)))

-- it ends by saying that all clusters are the same
abbrev pub SaysSame : Script → Type 0
SaysSame script = (front : List ℕ) × (demo_text script ≡ front ++ codes " same yes\n")

-- its line shows so many answers, those of them that are refusals, and numbers that sum up the clusters after the last line
pub record SaysNumbers (answers : ℕ) (script : Script) : Type 0 where
  pub totals : Totals
  pub sums : SumsUp script.header (last_world script) totals
  pub shown : demo_text script ≡ summary_line (summary_with answers (refused_in (ran_of script)) totals)
