use Rattle.std.proofs.Common.{◌≡◌, ◌++◌, codes, map, drop}
use Rattle.std.specs.List.{flat_map}
use Rattle.ndc_index.specs.Texts.{count_text}
use Rattle.ndc_index.proofs.kinds.push_later.Given as goal

abbrev pub invariant-loop-entry : goal.invariant-loop-entry
invariant-loop-entry l =
    l.into.items ++ flat_map (λ later. codes " " ++ count_text later) (map (λ entry. (entry.name, entry.count)) (drop l.entry-index l.entries))
    ≡ l.initial.into.items ++ flat_map (λ later. codes " " ++ count_text later) (map (λ entry. (entry.name, entry.count)) l.entries)
