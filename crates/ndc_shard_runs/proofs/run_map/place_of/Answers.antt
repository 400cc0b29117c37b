use Rattle.std.proofs.Common.{rules}
use Rattle.std.proofs.lemmas.Fn.{always_returns_same}
use Rattle.ndc_shard_runs.proofs.RunMapLemmas.{run_cmp, placed}
use Rattle.ndc_shard_runs.proofs.run_map.place_of.Goals as goal

-- the closure compares a run's id with the one that is sought
pub returns : goal.returns
returns c =
    let by_id = c.binary_search_by.ensures.position (run_cmp c.args.run) (always_returns_same _ _ _ (λ a r g called. (search rules, search rules))) in
    placed c.args.runs.now c.requires c.args.run _ c.binary_search_by.ensures.bound by_id
