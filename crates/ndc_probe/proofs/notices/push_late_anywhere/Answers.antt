use Rattle.std.proofs.Common.{ℕ, List, ◌++◌, append_assoc, ap, ◌∙◌}
use Rattle.std.specs.List.{flat_map, range_with_len}
use Rattle.ndc_probe.specs.Notices.{late_from}
use Rattle.ndc_world_queries.proofs.GapLemmas.{shards_more}
use Rattle.ndc_probe.proofs.notices.push_late_anywhere.Goals as goal

pub loop-number-preserved : goal.loop-number-preserved
loop-number-preserved c =
    let late = late_from c.args.header.now c.args.reader c.args.domain.now c.args.world.now.world in
    let number = c.loop-number.number in
    c.in_ok-push_late_from.ensures
    ∙ ap (λ (l : List ℕ). l ++ late number) c.loop-number.invariant
    ∙ append_assoc c.args.text.now.items (flat_map late (range_with_len 0 number)) (late number)
    ∙ ap (λ (l : List ℕ). c.args.text.now.items ++ l) (shards_more late number)
