use Rattle.std.proofs.Common.{◌∙◌, ap, sym}
use Rattle.ndc_model_sets.specs.Reading.{current_key}
use Rattle.ndc_shard_runs.specs.Kept.{is_ahead}
use Rattle.ndc_shard_runs.specs.RunMap.{all_of, batches_of}
use Rattle.ndc_shard_runs.proofs.LearnLemmas.{current-at}
use Rattle.ndc_shard_runs.proofs.PartLemmas.{part-key}
use Rattle.ndc_shard_runs.proofs.runs.Runs.is_behind_tip.Goals as goal

pub returns-in-None : goal.returns-in-None
returns-in-None c =
    let b = c.args.batch.now in
    ap (λ o. is_ahead b.key (current_key b.run (batches_of o))) c.in-None.ensures
    ∙ ap (is_ahead b.key) (ap (current_key b.run) (c.self.invariant.parts b.run) ∙ part-key (all_of c.self.inside.runs) c.self.invariant.sound b.run ∙ ap (current_key b.run) c.self.view_is)

pub returns-in-Some : goal.returns-in-Some
returns-in-Some c =
    let b = c.args.batch.now in
    c.is_ahead.ensures
    ∙ ap (is_ahead b.key) (c.tip.ensures ∙ current-at b.run c.self.inside.runs c.in-Some.run'.now (sym c.in-Some.ensures)
    ∙ ap (current_key b.run) (c.self.invariant.parts b.run) ∙ part-key (all_of c.self.inside.runs) c.self.invariant.sound b.run ∙ ap (current_key b.run) c.self.view_is)
