use Rattle.std.proofs.Common.{◌≡◌, ℕ, ◌+◌, ◌≤◌, ◌++◌, true, List, length, max, rules, ap, sym, subst, ◌∙◌, arith}
use Rattle.ndc_node_lanes.proofs.LaneLemmas.{lane-heard}
use Rattle.ndc_node_lanes.specs.Lane.{IsLane, fresh}
use Rattle.ndc_node_lanes.specs.Told.{are_in_turn}
use Rattle.ndc_node_lanes.specs.declared.told.Told.{Told}
use Rattle.ndc_node_lanes.proofs.read_lane.ReadLane.hear.Goals as goal

pub invariant_of-self-2 : goal.invariant_of-self-2
invariant_of-self-2 c =
    let turn : are_in_turn c.args.from c.args.next c.args.entries.items ≡ true =
    sym (c.are_in_turn.ensures ∙ ap (are_in_turn c.args.from c.args.next) c.as_slice.ensures.value) ∙ search rules in
    let others : c.fresh-fresh.result.items ≡ fresh c.self.inside.read c.args.entries.items = c.fresh-fresh.ensures in
    let room : length c.self.inside.held.items + length (fresh c.self.inside.read c.args.entries.items) ≤ c.self.inside.most = omega (arith, ap length others) in
    let held : c.append.new.self.items ≡ c.self.inside.held.items ++ fresh c.self.inside.read c.args.entries.items = c.in_ok-append.ensures.items ∙ ap (λ (l : List Told). c.self.inside.held.items ++ l) others in
    let read : c.max-self-inside.result ≡ max c.self.inside.read c.args.next = c.max-self-inside.ensures in
    subst (λ (n : ℕ). IsLane (record { epoch = c.self.inside.epoch; read = n; held = c.append.new.self.items; most = c.self.inside.most })) (sym read)
    (subst (λ (l : List Told). IsLane (record { epoch = c.self.inside.epoch; read = max c.self.inside.read c.args.next; held = l; most = c.self.inside.most })) (sym held)
    (lane-heard c.args.from c.args.next c.args.entries.items _ c.self.invariant turn room))
