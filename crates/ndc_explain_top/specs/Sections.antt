-- What is told of a workflow of which an input has dumps.
use Rattle.std.specs.Prelude.{ℕ, suc, Bool, true, false, ◌||◌, List, [], ◌∷◌, ◌++◌, codes, decimal, Option, Some, None, Result, Ok, Err, if◌then◌else◌}
use Rattle.std.specs.List.{concat, flat_map}
use Rattle.ndc_domain.specs.Clusters.{ClusterList}
use Rattle.ndc_event.specs.declared.name.Name.{Name}
use Rattle.ndc_text.specs.Views.{dump_text, key_text}
use Rattle.ndc_dump.specs.Faults.{key_cause_name}
use Rattle.ndc_dump.specs.declared.dump.Dump.{Dump}
use Rattle.ndc_dump_causes.specs.declared.error.DumpError.{DumpError}
use Rattle.ndc_dump_causes.specs.declared.error.DumpError.TheVariants as dump
use Rattle.ndc_explain.specs.Explanation.{Findings, explained, findings, has_forks, has_lost, has_waiting, has_zombies}
use Rattle.ndc_explain_picture.specs.Graph.{tree_picture_of}
use Rattle.ndc_explain_picture.specs.Picture.{picture_of}
use Rattle.ndc_explain_union.specs.Takings.{Taking}
use Rattle.ndc_explain_union.specs.Unions.{dump_of_union}
use Rattle.ndc_explain_top.specs.Rows.{Gathered, are_of_one, are_short, rows_told}
use Rattle.ndc_explain_top.specs.declared.asked.Form.{Form}
use Rattle.ndc_explain_top.specs.declared.asked.Form.TheVariants as form
use Rattle.ndc_explain_top.specs.declared.asked.Request.{Request}
use Rattle.ndc_explain_top.specs.declared.section.Mark.{Mark}
use Rattle.ndc_explain_top.specs.declared.section.Mark.TheVariants as mark
use Rattle.ndc_explain_top.specs.declared.section.Marks.{Marks}

-- what is told of a workflow, and what is counted of it
pub record Sectioned : Type 0 where
  pub text : List ℕ
  pub marks : Marks

-- the line that names the cluster of a dump, where one was named
abbrev pub cluster_line : Option Name → List ℕ
cluster_line None = []
cluster_line (Some name) = codes "cluster " ++ (name ++ codes "\n")

-- a dump with its view, after its cluster
unfoldable pub taking_shown : Taking → List ℕ
taking_shown taking = cluster_line taking.spot.cluster ++ dump_text taking.dump.domain taking.dump.workflow taking.dump.view

abbrev pub takings_shown : List Taking → List ℕ
takings_shown dumps = flat_map taking_shown dumps

-- a workflow whose dumps make this one together, of which this was found
abbrev pub sound_text : Form → Option ClusterList → Bool → Gathered → Dump → Findings → List ℕ
sound_text form.Text clusters all it dump found = rows_told clusters it ++ explained clusters all dump found
sound_text form.Picture clusters all it dump found = picture_of clusters dump
sound_text form.TreePicture clusters all it dump found = tree_picture_of clusters dump
sound_text form.View clusters all it dump found = takings_shown it.dumps

-- a line that is not a batch's
unfoldable pub faulty_line : ℕ → List ℕ
faulty_line line = concat (codes "unsound: line " ∷ decimal line ∷ codes "\n" ∷ [])

-- the line that says why dumps make no sound set together: a key has two contents, or the cause why what all have is not a dump
abbrev pub cause_line : Option DumpError → List ℕ
cause_line None = codes "unsound: a key has two contents\n"
cause_line (Some (dump.Line line cause)) = faulty_line line
cause_line (Some (dump.Key key cause)) = codes "unsound: batch " ++ (key_text key ++ (codes ": " ++ (key_cause_name cause ++ codes "\n")))
cause_line (Some dump.Memory) = []

-- a workflow whose dumps make no sound set together
abbrev pub unsound_text : Form → Option ClusterList → Gathered → Option DumpError → List ℕ
unsound_text form.Text clusters it cause = rows_told clusters it ++ cause_line cause
unsound_text form.Picture clusters it cause = rows_told clusters it ++ cause_line cause
unsound_text form.TreePicture clusters it cause = rows_told clusters it ++ cause_line cause
unsound_text form.View clusters it cause = takings_shown it.dumps

unfoldable pub sound_section : Request → Gathered → Dump → Sectioned
sound_section request it dump = record {
  text = sound_text request.form request.clusters request.all it dump (findings dump.view);
  marks = record {
    forked = has_forks dump.view;
    differing = are_short it;
    zombies = has_zombies dump.view;
    lost = has_lost (findings dump.view);
    waiting = has_waiting (findings dump.view);
    unsound = false;
  };
}

unfoldable pub unsound_section : Request → Gathered → Option DumpError → Sectioned
unsound_section request it cause = record {
  text = unsound_text request.form request.clusters it cause;
  marks = record { forked = false; differing = true; zombies = false; lost = false; waiting = false; unsound = true };
}

-- a workflow by the dump that its dumps make together
abbrev pub section_by : Request → Gathered → Result Dump DumpError → Sectioned
section_by request it (Ok dump) = sound_section request it dump
section_by request it (Err error) = unsound_section request it (Some error)

-- what is told of a workflow: where no key has two contents, by what its dumps make together
unfoldable pub section_of : Request → Gathered → Sectioned
section_of request it =
    if are_of_one it then section_by request it (dump_of_union it.workflow it.dumps it.union) else unsound_section request it None

-- whether a workflow has a mark
abbrev pub has_mark : Mark → Marks → Bool
has_mark mark.Forked marks = marks.forked
has_mark mark.Differing marks = marks.differing
has_mark mark.Zombies marks = marks.zombies
has_mark mark.Lost marks = marks.lost
has_mark mark.Waiting marks = marks.waiting
has_mark mark.Unsound marks = marks.unsound

-- how many of the workflows have it
abbrev pub count_of : Mark → List Sectioned → ℕ
count_of it [] = 0
count_of it (section ∷ sections) = if has_mark it section.marks then suc (count_of it sections) else count_of it sections

-- whether a workflow has something to be driven again, a signal that waits, or dumps that make no sound set
abbrev pub leaves : Marks → Bool
leaves marks = marks.lost || (marks.waiting || marks.unsound)
