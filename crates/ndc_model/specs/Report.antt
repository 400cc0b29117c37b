-- The report of a script: the answers of its lines, and a line for each indexer that is asked for.
use Rattle.std.specs.Prelude.{ℕ, List, ◌++◌}
use Rattle.ndc_script_types.specs.declared.script.Script.{Script}
use Rattle.ndc_index.specs.Lines.{Asked, index_lines}
use Rattle.ndc_model.specs.Lines.{answers_of, ran_of, seen_in}

-- the report of a script: its answers, the lines of the indexers that are told as it runs, and those of the ones that are told after it
abbrev pub report_of : Script → List Asked → List Asked → List ℕ
report_of script indexers late =
    answers_of (ran_of script) ++ index_lines (seen_in (ran_of script)) indexers ++ index_lines (seen_in (ran_of script)) late
