-- How the members of a batch object, held by references, are seen.
use Rattle.std.specs.Prelude.{option_map}
use Rattle.serde_json.specs.View.{view, items_view}
use Rattle.ndc_text.specs.Walk as walk
use Rattle.ndc_text.specs.declared.read.Parts.{Parts}

abbrev pub parts_view : Parts → walk.Parts
parts_view p = record {
  carrier = option_map (λ v. view v.now) p.carrier;
  domain = p.domain.now;
  events = items_view p.events.now;
  parent = option_map (λ v. view v.now) p.parent;
  run = p.run.now;
  task = p.task;
  version = p.version;
  workflow = p.workflow.now;
}
