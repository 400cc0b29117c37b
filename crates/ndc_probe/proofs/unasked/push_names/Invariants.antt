use Rattle.std.proofs.Common.{◌≡◌, ◌++◌}
use Rattle.std.specs.List.{flat_map, range_with_len}
use Rattle.ndc_probe.specs.Unasked.{name_word}
use Rattle.ndc_probe.proofs.unasked.push_names.Given as goal

-- the names of the clusters so far
abbrev pub invariant-loop-number : goal.invariant-loop-number
invariant-loop-number l = l.text.items ≡ l.initial.text.items ++ flat_map (name_word l.header) (range_with_len 0 l.number)
