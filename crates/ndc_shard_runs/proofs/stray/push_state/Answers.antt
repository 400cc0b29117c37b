use Rattle.std.proofs.Common.{map, ◌++◌, ◌∙◌, ap, sym}
use Rattle.std.specs.Option.{option_copied}
use Rattle.ndc_shard_runs.specs.Settled.{origins_seen, seen_by}
use Rattle.ndc_shard_runs.proofs.StrayLemmas.{seen-more}
use Rattle.ndc_shard_runs.proofs.stray.push_state.Goals as goal

pub returns-in_ok-push-in-Some : goal.returns-in_ok-push-in-Some
returns-in_ok-push-in-Some c =
    ap (λ l. origins_seen (map (λ s. s.now) l)) c.in_ok-push-in-Some.ensures.items ∙ seen-more (λ s. s.now) c.args.list.now.items c.in-Some.state
    ∙ ap (λ o. origins_seen (map (λ s. s.now) c.args.list.now.items) ++ seen_by (option_copied o)) (sym c.in-Some.is)
