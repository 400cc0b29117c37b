-- What a cell has learned of domains.
use Rattle.std.specs.Prelude.{◌&&◌, List}
use Rattle.std.specs.List.{filter, filter_map, list_any}
use Rattle.std.specs.Str.{bytes_eq}
use Rattle.ndc_model_cells.specs.declared.message.Message.{Message}
use Rattle.ndc_model_cells.specs.Cells.{Cell, is_learned_in, learned_message}
use Rattle.ndc_event.specs.declared.name.Name.{Name}

-- the messages of what a cell has learned of these domains, in order of place
abbrev pub learned_of_domains : List Name → Cell → List Message
learned_of_domains domains cell =
    filter_map (learned_message cell) (filter (λ b. is_learned_in cell b && list_any (λ domain. bytes_eq domain b.domain) domains) cell.arrived)
