-- What is told of an input: of one dump alone, or of many.
use Rattle.std.specs.Prelude.{ℕ, Bool, true, false, not, List, [], ◌∷◌, ◌++◌, map, codes, decimal, length, unwrap_or, Option, Some, None, Result, Ok, Err, if◌then◌else◌}
use Rattle.std.specs.List.{concat, flat_map, list_any}
use Rattle.ndc_event.specs.Outcome.{◌>>=◌}
use Rattle.ndc_event.specs.declared.name.Name.{Name}
use Rattle.ndc_dump.specs.Input.{most_bytes}
use Rattle.ndc_dump.specs.declared.dump.Dump.{Dump}
use Rattle.ndc_dump_causes.specs.declared.error.DumpError.{DumpError}
use Rattle.ndc_dump_causes.specs.declared.error.DumpError.TheVariants as error
use Rattle.ndc_explain.specs.Explanation.{findings, leaves_any}
use Rattle.ndc_explain_union.specs.Groupings.{Grouped, groups_of}
use Rattle.ndc_explain_union.specs.Parts.{Inputs, is_alone, parts_of}
use Rattle.ndc_explain_union.specs.Takings.{Taking, dump_in, taken_of}
use Rattle.ndc_explain_union.specs.declared.groups.WorkflowName.{WorkflowName}
use Rattle.ndc_explain_union.specs.declared.taken.InputError.{InputError}
use Rattle.ndc_explain_union.specs.declared.taken.InputError.TheVariants as input
use Rattle.ndc_explain_top.specs.Rows.{gathered}
use Rattle.ndc_explain_top.specs.Sections.{Sectioned, count_of, leaves, section_of}
use Rattle.ndc_explain_top.specs.Told.{told_of}
use Rattle.ndc_explain_top.specs.declared.asked.Form.{Form}
use Rattle.ndc_explain_top.specs.declared.asked.Form.TheVariants as form
use Rattle.ndc_explain_top.specs.declared.asked.Request.{Request}
use Rattle.ndc_explain_top.specs.declared.fault.Fault.{Fault}
use Rattle.ndc_explain_top.specs.declared.fault.Fault.TheVariants as fault
use Rattle.ndc_explain_top.specs.declared.section.Mark.TheVariants as mark

-- how many bytes the input may have: those that were asked for, or else the program's own limit
abbrev pub limit_of : Request → ℕ
limit_of request = unwrap_or request.limit most_bytes

-- what is told, and whether it leaves something: something to be driven again, a signal that waits, or dumps that make no sound set
pub record Reported : Type 0 where
  pub text : List ℕ
  pub leaves : Bool

-- ---- one dump alone

abbrev pub report_alone : Request → Result Dump DumpError → Result Reported Fault
report_alone request (Ok dump) = Ok (record { text = told_of request dump; leaves = leaves_any (findings dump.view) })
report_alone request (Err (error.Line line cause)) = Err (fault.DumpLine None line cause)
report_alone request (Err (error.Key key cause)) = Err (fault.DumpBatch None key cause)
report_alone request (Err error.Memory) = Err fault.Memory

-- ---- many dumps

-- the dumps, or the fault of the first that is none
abbrev pub dumps_or : Result (List Taking) InputError → Result (List Taking) Fault
dumps_or (Ok takings) = Ok takings
dumps_or (Err (input.Line spot line cause)) = Err (fault.DumpLine (Some spot) line cause)
dumps_or (Err (input.Key spot key cause)) = Err (fault.DumpBatch (Some spot) key cause)
dumps_or (Err input.Memory) = Err fault.Memory

-- the workflow of a group, where there is one
abbrev pub section_at : Request → List Name → Option (WorkflowName × List Taking) → List Sectioned
section_at request named None = []
section_at request named (Some group) = section_of request (gathered named group.0 group.1) ∷ []

-- the workflows, in the order of their first dumps
abbrev pub sections_of : Request → List Name → Grouped → List Sectioned
sections_of request named groups = map (λ group. section_of request (gathered named group.0 group.1)) groups

-- the first line: how many dumps, clusters and workflows there are, and how many workflows are forked, differ between clusters, have zombies,
-- have something to be driven again, have a signal that waits, or have dumps that make no sound set
unfoldable pub summary_line : ℕ → ℕ → List Sectioned → List ℕ
summary_line dumps clusters sections =
    concat (
    codes "dumps " ∷ decimal dumps ∷ codes " clusters " ∷ decimal clusters ∷ codes " workflows " ∷ decimal (length sections)
    ∷ codes " forked " ∷ decimal (count_of mark.Forked sections) ∷ codes " differing " ∷ decimal (count_of mark.Differing sections)
    ∷ codes " zombies " ∷ decimal (count_of mark.Zombies sections) ∷ codes " re-drive " ∷ decimal (count_of mark.Lost sections)
    ∷ codes " waiting " ∷ decimal (count_of mark.Waiting sections) ∷ codes " unsound " ∷ decimal (count_of mark.Unsound sections) ∷ codes "\n" ∷ [])

-- whether the summary stands first, and an empty line before each workflow
abbrev pub has_summary : Form → Bool
has_summary form.Text = true
has_summary form.Picture = false
has_summary form.TreePicture = true
has_summary form.View = false

abbrev pub gap : Bool → List ℕ
gap summed = if summed then codes "\n" else []

unfoldable pub section_told : Bool → Sectioned → List ℕ
section_told summed section = gap summed ++ section.text

-- the summary where it stands, and the workflows
abbrev pub report_text : Bool → ℕ → ℕ → List Sectioned → List ℕ
report_text summed dumps clusters sections =
    (if summed then summary_line dumps clusters sections else []) ++ flat_map (section_told summed) sections

-- whether a document can be drawn: there is one workflow, and its dumps make a sound set
abbrev pub is_drawn : List Sectioned → Bool
is_drawn (section ∷ []) = not section.marks.unsound
is_drawn _ = false

abbrev pub can_be_told : Form → List Sectioned → Bool
can_be_told form.Picture sections = is_drawn sections
can_be_told _ sections = true

unfoldable pub report_with : Request → ℕ → ℕ → List Sectioned → Result Reported Fault
report_with request dumps clusters sections =
    if can_be_told request.form sections
    then Ok (record { text = report_text (has_summary request.form) dumps clusters sections; leaves = list_any (λ section. leaves section.marks) sections })
    else Err fault.NotDrawn

unfoldable pub report_many : Request → Inputs → Result Reported Fault
report_many request inputs = do
  takings ← dumps_or (taken_of request.bare inputs.parts)
  report_with request (length takings) (length inputs.clusters) (sections_of request inputs.clusters (groups_of takings))

-- ---- an input

-- what is told of an input, or why it cannot be told
abbrev pub report_by : Request → Inputs → List ℕ → Result Reported Fault
report_by request inputs bytes = if is_alone inputs then report_alone request (dump_in request.bare bytes) else report_many request inputs

unfoldable pub report_of : Request → List ℕ → Result Reported Fault
report_of request bytes = report_by request (parts_of bytes) bytes
