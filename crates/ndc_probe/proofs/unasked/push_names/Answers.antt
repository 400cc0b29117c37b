use Rattle.std.proofs.Common.{ℕ, List, ◌++◌, append_assoc, ap, ◌∙◌}
use Rattle.std.specs.List.{flat_map, range_with_len}
use Rattle.ndc_probe.specs.Unasked.{name_word}
use Rattle.ndc_world_queries.proofs.GapLemmas.{shards_more}
use Rattle.ndc_probe.proofs.unasked.push_names.Goals as goal

pub loop-number-preserved : goal.loop-number-preserved
loop-number-preserved c =
    let word = name_word c.args.header.now in
    let number = c.loop-number.number in
    c.in_ok-push_name.ensures
    ∙ ap (λ (l : List ℕ). l ++ word number) c.loop-number.invariant
    ∙ append_assoc c.args.text.now.items (flat_map word (range_with_len 0 number)) (word number)
    ∙ ap (λ (l : List ℕ). c.args.text.now.items ++ l) (shards_more word number)
