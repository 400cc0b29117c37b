-- What is told of what clusters have learned.
use Rattle.std.specs.Prelude.{ℕ, Bool, true, false, ◌==◌, List, [], ◌∷◌, ◌++◌, codes, decimal, length, if◌then◌else◌}
use Rattle.std.specs.List.{flat_map}
use Rattle.ndc_event.specs.Key.{run_text}
use Rattle.ndc_event.specs.declared.name.Name.{Name}
use Rattle.ndc_model_sets.specs.declared.view.RunView.{RunView}

-- the bytes of a dump, with `| ` before each line; whether a line begins with the first
abbrev pub quoted_from : Bool → List ℕ → List ℕ
quoted_from begins [] = []
quoted_from true (byte ∷ bytes) = codes "| " ++ byte ∷ quoted_from (byte == 10) bytes
quoted_from false (byte ∷ bytes) = byte ∷ quoted_from (byte == 10) bytes

abbrev pub quoted : List ℕ → List ℕ
quoted bytes = quoted_from true bytes

-- `WORKFLOW`
abbrev pub workflow_line : Name → List ℕ
workflow_line workflow = workflow ++ codes "\n"

-- workflows, a line for each
abbrev pub workflows_text : List Name → List ℕ
workflows_text workflows = decimal (length workflows) ++ codes " workflows\n" ++ flat_map workflow_line workflows

-- `WORKFLOW run RUN has COUNT branches`, where these are several
unfoldable pub fork_line : Name → RunView → List ℕ
fork_line workflow run =
    if length run.branches == 1 then []
    else workflow ++ codes " run " ++ run_text run.run ++ codes " has " ++ decimal (length run.branches) ++ codes " branches\n"

-- lines, after one that says so, or one that says that there are none
abbrev pub lines_or_none : List ℕ → List ℕ → List ℕ → List ℕ
lines_or_none none some [] = none
lines_or_none none some (byte ∷ lines) = some ++ byte ∷ lines
