use Rattle.std.proofs.Common.{List, map, ◌∙◌, ap}
use Rattle.std.specs.List.{filter_map}
use Rattle.ndc_model_cells.specs.Cells.{Cell, put_off_in}
use Rattle.ndc_model_cells.specs.Jobs.{workflows_of}
use Rattle.ndc_model_cells.specs.Places.{place_of}
use Rattle.ndc_event.specs.declared.name.Name.{Name}
use Rattle.ndc_shard_workflows.specs.Behind.{first_behind}
use Rattle.ndc_shard_workflows.proofs.WaitLemmas.{behind-are}
use Rattle.ndc_shard_workflows.proofs.workflows.Workflows.behind.Goals as goal

pub returns-clause-list : goal.returns-clause-list
returns-clause-list c =
    c.in_ok-places.ensures ∙ ap (λ (list : List (Name × Name)). filter_map (first_behind c.self.inside.domains) list) c.in_ok-list.ensures.list
    ∙ behind-are c.self.inside.domains c.is_in_order.ensures.cell c.is_in_order.ensures.workflows c.self.inside.behind c.list.ensures.ordered c.self.invariant.1
    ∙ ap (λ (cell : Cell). map place_of (workflows_of (put_off_in cell))) c.self.view_is
