use Rattle.std.proofs.Common.{◌∙◌, ap}
use Rattle.std.specs.Option.{option_copied}
use Rattle.ndc_tree.specs.Events.{event_at}
use Rattle.ndc_tree.specs.Tree.{TreeValue}
use Rattle.ndc_shard_runs.specs.Copies.{event_of}
use Rattle.ndc_shard_runs.specs.RunMap.{batches_of}
use Rattle.ndc_shard_runs.proofs.runs.Runs.event_of.Goals as goal

pub returns-in_err-run : goal.returns-in_err-run
returns-in_err-run c =
    let o = c.args.origin.now in
    ap option_copied c.from_residual.ensures
    ∙ ap (λ x. event_at o.version o.event (batches_of x)) c.in_err-run.ensures
    ∙ ap (event_at o.version o.event) (c.self.invariant.parts o.run) ∙ ap (event_of o) c.self.view_is

pub returns : goal.returns
returns c =
    let o = c.args.origin.now in
    c.event.ensures ∙ ap (λ (t : TreeValue). event_at o.version o.event t.batches) c.tree.ensures.tree
    ∙ ap (λ x. event_at o.version o.event (batches_of x)) c.in_ok-run.ensures
    ∙ ap (event_at o.version o.event) (c.self.invariant.parts o.run) ∙ ap (event_of o) c.self.view_is
