use Rattle.std.proofs.Common.{sym, ◌∙◌, ap}
use Rattle.std.specs.Prelude.{min}
use Rattle.std.specs.List.{reduce}
use Rattle.std.proofs.lemmas.Iterator.{YieldsList-from_slice}
use Rattle.std.proofs.lemmas.Iterator.Adapters.{option_map_id}
use Rattle.std.proofs.lemmas.Iterator.Consumers.{min_from_yields_List, YieldsList-from_copied}
use Rattle.ndc_node_lanes.specs.Levels.{LevelsValue}
use Rattle.ndc_node_lanes.proofs.told_levels.ToldLevels.trim_level.Goals as goal

pub returns : goal.returns
returns c = sym (option_map_id _) ∙ min_from_yields_List c.copied.result _ c.min.ensures.ran (YieldsList-from_copied (YieldsList-from_slice c.deref.result.now cc)) ∙ ap (reduce min) (c.deref.ensures.value ∙ ap (λ (v : LevelsValue). v.told) c.self.view_is)
