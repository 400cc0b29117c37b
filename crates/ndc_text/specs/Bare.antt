-- Dumps without the lines of their view: the heading and the batches alone.
use Rattle.std.specs.Prelude.{ℕ, List, ◌++◌, codes}
use Rattle.std.specs.List.{flat_map}
use Rattle.ndc_event.specs.declared.batch.Batch.{Batch}
use Rattle.ndc_event.specs.declared.name.Name.{Name}
use Rattle.ndc_text.specs.Text.{batch_text}

-- the heading and the batches of a workflow, a line each
abbrev pub bare_text : Name → Name → List Batch → List ℕ
bare_text domain workflow batches = codes "dump 2 " ++ domain ++ codes " " ++ workflow ++ codes "\n" ++ flat_map (λ b. batch_text b ++ codes "\n") batches
