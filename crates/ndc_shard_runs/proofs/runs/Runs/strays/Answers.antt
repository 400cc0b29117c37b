use Rattle.std.proofs.Common.{◌≡◌, IfOk, [], List, map, ◌∙◌, ap, subst}
use Rattle.std.specs.List.{flat_map}
use Rattle.ndc_reapply.specs.Strays.{strays_of}
use Rattle.ndc_reapply.specs.declared.stray.Stray.{Stray}
use Rattle.ndc_shard_runs.specs.Settled.{origins_seen, settled_from, unsettled}
use Rattle.ndc_shard_runs.proofs.StrayLemmas.{strays-by}
use Rattle.ndc_shard_runs.proofs.runs.Runs.strays.Goals as goal

pub returns : goal.returns
returns c =
    let x = c.args.self.now in
    let all = map (λ b. b.now) c.in_ok-batches.batches.items in
    let seen = origins_seen (map (λ s. s.now) c.in_ok-states.states.items) in
    subst (λ (l : List Stray). IfOk c.strays.result (λ list. list.items ≡ l))
    (ap (λ l. strays_of l [])
    (c.as_slice-4.ensures.value ∙ c.in_ok-signals.ensures
    ∙ ap (λ l. unsettled (origins_seen (map (λ s. s.now) l)) (map (λ b. b.now) c.as_slice-2.result.now)) c.as_slice-3.ensures.value
    ∙ ap (λ l. unsettled seen (map (λ b. b.now) l)) c.as_slice-2.ensures.value)
    ∙ strays-by x all seen c.in_ok-batches.ensures.list (c.in_ok-states.ensures ∙ ap (λ l. flat_map (settled_from x) (map (λ b. b.now) l)) c.as_slice.ensures.value))
    c.strays.ensures
