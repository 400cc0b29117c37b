use Rattle.std.proofs.Common.{◌++◌, List, ap, map, ◌∙◌}
use Rattle.ndc_model_cells.specs.Cells.{Cell, put_off_in}
use Rattle.ndc_model_cells.specs.Jobs.{workflows_of}
use Rattle.ndc_model_cells.specs.Places.{place_of}
use Rattle.ndc_model_cells.specs.declared.message.Message.{Message}
use Rattle.ndc_model.specs.Moves.{arrives}
use Rattle.ndc_world_replication.proofs.AgainLemmas.{places_among, sent_by_places}
use Rattle.ndc_world_replication.proofs.replication.Replication.add_again.Goals as goal

pub add_places-requires-clause-behind : goal.add_places-requires-clause-behind
add_places-requires-clause-behind g c =
    places_among c.args.header.now c.args.self.now c.requires.reached c.args.shard c.requires.shard c.args.reader c.requires.reader c.as_slice-places.result.now
    (c.as_slice-places.ensures.value ∙ c.in_ok-behind.ensures ∙ ap (λ (cell : Cell). map place_of (workflows_of (put_off_in cell))) c.reader_cell-cell.ensures)

pub returns : goal.returns
returns g c =
    c.in_ok-add_places.ensures
    ∙ ap (λ (l : List Message). c.args.jobs.now.items ++ map (arrives c.args.shard) l)
    (sent_by_places c.args.header.now c.args.self.now c.requires.reached c.args.shard c.requires.shard c.args.reader c.requires.reader c.as_slice-places.result.now
    (c.as_slice-places.ensures.value ∙ c.in_ok-behind.ensures ∙ ap (λ (cell : Cell). map place_of (workflows_of (put_off_in cell))) c.reader_cell-cell.ensures))
