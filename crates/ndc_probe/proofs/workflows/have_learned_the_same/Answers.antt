use Rattle.std.proofs.Common.{◌≡◌, ◌↔◌, IsTrue, List, option_copied, subst}
use Rattle.ndc_event.specs.declared.batch.Batch.{Batch}
use Rattle.ndc_model.specs.Reading.{learned_at}
use Rattle.ndc_world_replication.specs.Found.{batches_or_none}
use Rattle.ndc_world_queries.proofs.BatchLemmas.{batches_told}
use Rattle.ndc_probe.proofs.workflows.have_learned_the_same.Goals as goal

pub returns : goal.returns
returns c =
    let same = c.in_ok-same.same in
    let one : List Batch = learned_at c.args.header.now c.args.one c.args.domain.now c.args.workflow.now c.args.world.now.world in
    let two : List Batch = learned_at c.args.header.now c.args.two c.args.domain.now c.args.workflow.now c.args.world.now.world in
    let first = subst (λ (l : List Batch). IsTrue same ↔ (l ≡ batches_or_none (option_copied c.runs_at-second.result))) c.runs_at-first.ensures c.in_ok-same.ensures in
    batches_told one two same (subst (λ (l : List Batch). IsTrue same ↔ (one ≡ l)) c.runs_at-second.ensures first)
