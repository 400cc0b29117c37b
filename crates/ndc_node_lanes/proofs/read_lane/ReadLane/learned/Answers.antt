use Rattle.std.proofs.Common.{◌≡◌, List, rules, not, ap, sym, subst, ◌∙◌}
use Rattle.std.specs.List.{filter}
use Rattle.std.proofs.lemmas.Fn.{filter_same}
use Rattle.ndc_node_lanes.proofs.LaneLemmas.{lane-learned}
use Rattle.ndc_node_lanes.specs.Lane.{IsLane, with_learned}
use Rattle.ndc_node_lanes.specs.Told.{is_for}
use Rattle.ndc_node_lanes.specs.declared.told.Told.{Told}
use Rattle.ndc_node_lanes.proofs.read_lane.ReadLane.learned.Goals as goal

pub returns : goal.returns
returns c =
    let held : c.retain.new.self.items ≡ filter (λ entry. not (is_for c.args.domain.now c.args.workflow.now c.args.key entry)) c.self.inside.held.items = filter_same _ _ _ (λ x b f' k. search rules) _ _ c.retain.ensures.filtered in
    ap (λ (l : List Told). record { epoch = c.self.inside.epoch; read = c.self.inside.read; held = l; most = c.self.inside.most }) held
    ∙ ap (with_learned c.args.domain.now c.args.workflow.now c.args.key) c.self.view_is

pub invariant_of-self : goal.invariant_of-self
invariant_of-self c =
    let held : c.retain.new.self.items ≡ filter (λ entry. not (is_for c.args.domain.now c.args.workflow.now c.args.key entry)) c.self.inside.held.items = filter_same _ _ _ (λ x b f' k. search rules) _ _ c.retain.ensures.filtered in
    subst (λ (l : List Told). IsLane (record { epoch = c.self.inside.epoch; read = c.self.inside.read; held = l; most = c.self.inside.most })) (sym held)
    (lane-learned c.args.domain.now c.args.workflow.now c.args.key _ c.self.invariant)
