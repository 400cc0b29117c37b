use Rattle.std.proofs.Common.{◌≡◌, ◌++◌}
use Rattle.std.specs.List.{filter_map}
use Rattle.ndc_shard_workflows.specs.Behind.{first_behind}
use Rattle.ndc_shard_workflows.proofs.workflows.first_places.Given as goal

-- the places so far, and those of the workflows that are left, are all
abbrev pub invariant-loop-domain : goal.invariant-loop-domain
invariant-loop-domain l = l.places.items ++ filter_map (first_behind l.domains) l.domain-iterator.rest.items ≡ filter_map (first_behind l.domains) l.fn.list.items
