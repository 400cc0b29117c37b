-- What the clusters of a world come to, in numbers.
use Rattle.std.specs.Prelude.{ℕ, ◌+◌, Bool, true, ◌&&◌, List, [], ◌∷◌, ◌++◌, length, map, if◌then◌else◌}
use Rattle.std.specs.List.{flat_map, fold, list_all, list_any, sum_by}
use Rattle.std.specs.Cmp.Lexicographic.{pointwise}
use Rattle.ndc_script_types.specs.declared.script.Header.{Header}
use Rattle.ndc_model_cells.specs.declared.message.Message.{Message}
use Rattle.ndc_model_cells.specs.Cells.{Cell, both, learned_of}
use Rattle.ndc_model_cells.specs.Jobs.{cell_for}
use Rattle.ndc_model_cells.specs.Places.{is_of}
use Rattle.ndc_domain.specs.declared.record.DomainRecord.{DomainRecord}
use Rattle.ndc_domain.specs.Records.{record_eq}
use Rattle.ndc_event.specs.declared.batch.Batch.{Batch}
use Rattle.ndc_model.specs.Reading.{is_nothing}
use Rattle.ndc_model.specs.World.{World, shards_of}
use Rattle.ndc_model_sets.specs.Branches.{runs, tips}
use Rattle.ndc_world_queries.specs.Same.{same_batches}
use Rattle.ndc_world_queries.specs.declared.parts.Totals.{Totals}

-- the messages that cells have written, cell by cell
abbrev pub messages_of : List Cell → List Message
messages_of cells = flat_map (λ cell. cell.written) cells

-- the workflow of a batch is added to those that were found, by this batch, where none of them is it
abbrev pub with_workflow : List Batch → Batch → List Batch
with_workflow found b = if list_any (is_of b.domain b.workflow) found then found else found ++ b ∷ []

-- the workflows to which cells have written, each by the first batch that was found of it
abbrev pub workflows_in : List Cell → List Batch
workflows_in cells = fold with_workflow [] (map (λ sent. sent.batch) (messages_of cells))

-- what a cell has learned of the workflow of a batch
abbrev pub learned_with : Batch → Cell → List Batch
learned_with b cell = learned_of b.domain b.workflow cell

-- what the first of these cells has learned of the workflow of a batch
abbrev pub first_learned : List Cell → Batch → List Batch
first_learned [] b = []
first_learned (cell ∷ cells) b = learned_with b cell

-- how many branches the runs of a workflow have, of which this is learned
unfoldable pub branch_count : List Batch → ℕ
branch_count batches = sum_by (λ run. length (tips run batches)) (runs batches)

-- whether all these lists hold the batches of the first
abbrev pub are_alike : List (List Batch) → Bool
are_alike [] = true
are_alike (one ∷ others) = list_all (same_batches one) others

-- whether two tables hold the same records
abbrev pub same_table : List DomainRecord → List DomainRecord → Bool
same_table one two = pointwise record_eq one two

-- whether all these tables hold the records of the first
abbrev pub are_one_table : List (List DomainRecord) → Bool
are_one_table [] = true
are_one_table (one ∷ others) = list_all (same_table one) others

-- one, where there is anything
abbrev pub one_if_any : List Batch → ℕ
one_if_any batches = if is_nothing batches then 0 else 1

-- what the workflow of a batch comes to in the cells of its shard, without the batches that were written: whether the first cell has
-- learned anything of it, how many branches its runs have there, and whether all cells have learned the same of it
unfoldable pub part_of : List Cell → Batch → Totals
part_of cells b = record {
  batches = 0;
  workflows = one_if_any (first_learned cells b);
  branches = branch_count (first_learned cells b);
  same = are_alike (map (learned_with b) cells);
}

-- two parts together
abbrev pub added : Totals → Totals → Totals
added one two = record {
  batches = one.batches + two.batches;
  workflows = one.workflows + two.workflows;
  branches = one.branches + two.branches;
  same = one.same && two.same;
}

-- so many batches alone
abbrev pub batches_alone : ℕ → Totals
batches_alone count = record { batches = count; workflows = 0; branches = 0; same = true }

-- what the cells of one shard come to, a cell for each cluster: the batches that they have written, carried ones too, and a part for each
-- workflow to which one of them has written
unfoldable pub totals_in : List Cell → Totals
totals_in cells = fold added (batches_alone (length (flat_map both (messages_of cells)))) (map (part_of cells) (workflows_in cells))

-- the cells of all clusters for a shard
abbrev pub cells_of : World → ℕ → List Cell
cells_of w shard = map (λ cluster. cell_for shard cluster.cells) w.clusters

-- nothing, and whether all clusters hold one table
abbrev pub tables_alone : World → Totals
tables_alone w = record { batches = 0; workflows = 0; branches = 0; same = are_one_table (map (λ cluster. cluster.table) w.clusters) }

-- what all clusters come to: how many batches they have written; how many workflows there are of which the first cluster has learned
-- anything, and how many branches their runs have there; and whether all hold one table and have learned the same of each workflow
unfoldable pub totals_of : Header → World → Totals
totals_of header w = fold added (tables_alone w) (map (λ shard. totals_in (cells_of w shard)) (shards_of header))
