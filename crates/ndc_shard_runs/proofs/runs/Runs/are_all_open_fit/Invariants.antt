use Rattle.std.proofs.Common.{◌≡◌, drop, map}
use Rattle.std.specs.List.{list_all}
use Rattle.ndc_shard_runs.specs.Copies.{are_open_fit}
use Rattle.ndc_shard_runs.proofs.runs.Runs.are_all_open_fit.Given as goal

-- the copies in all batches gone over fit
abbrev pub invariant-loop-other : goal.invariant-loop-other
invariant-loop-other l =
    list_all (λ other. are_open_fit l.self l.batch other.events) (map (λ b. b.now) (drop l.other-index l.others)) ≡ list_all (λ other. are_open_fit l.self l.batch other.events) (map (λ b. b.now) l.others)
