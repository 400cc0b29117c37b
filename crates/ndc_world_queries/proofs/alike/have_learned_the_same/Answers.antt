use Rattle.std.proofs.Common.{◌≡◌, ◌↔◌, IsTrue, List, option_copied, subst}
use Rattle.ndc_event.specs.declared.batch.Batch.{Batch}
use Rattle.ndc_world_replication.specs.Found.{batches_or_none}
use Rattle.ndc_world_queries.specs.Summaries.{learned_with}
use Rattle.ndc_world_queries.proofs.BatchLemmas.{batches_told}
use Rattle.ndc_world_queries.proofs.alike.have_learned_the_same.Goals as goal

pub returns : goal.returns
returns g c =
    let same = c.in_ok-same.same in
    let one : List Batch = learned_with c.args.batch.now (g.C.Cell.cell c.args.one.now) in
    let two : List Batch = learned_with c.args.batch.now (g.C.Cell.cell c.args.two.now) in
    let first = subst (λ (l : List Batch). IsTrue same ↔ (l ≡ batches_or_none (option_copied c.learned_with-second.result))) c.learned_with-first.ensures c.in_ok-same.ensures in
    batches_told one two same (subst (λ (l : List Batch). IsTrue same ↔ (one ≡ l)) c.learned_with-second.ensures first)
