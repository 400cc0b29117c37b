use Rattle.std.proofs.Common.{◌≡◌, ℕ, List, Err, ap, subst, ◌∙◌}
use Rattle.std.specs.Prelude.{OnErr}
use Rattle.ndc_domain.specs.Outcome.{Answers}
use Rattle.ndc_domain.specs.Records.{join_of}
use Rattle.ndc_model.specs.World.{World, cluster_at}
use Rattle.ndc_world_replication.specs.Tables.{table_left}
use Rattle.ndc_world_steps.proofs.JoinLemmas.{join_refuses}
use Rattle.ndc_world_steps.specs.Told.{leaving, only_answer}
use Rattle.ndc_world_steps.proofs.domains.join.Goals as goal

pub returns-in_ok-join_refused-in-Err : goal.returns-in_ok-join_refused-in-Err
returns-in_ok-join_refused-in-Err g c =
    let w = c.args.replication.now in
    let wanted = join_of c.args.at c.args.domain.now c.args.member (cluster_at c.args.at w).table in
    let refused_by : table_left c.args.at w wanted ≡ Err c.in-Err.error =
    subst (λ r. Answers (λ _. c.join.new.self) r (table_left c.args.at w wanted)) c.in-Err.is c.in_ok-join.ensures.answer in
    let same : c.join.new.self ≡ w = subst (λ r. OnErr r (c.join.new.self ≡ w)) c.in-Err.is c.in_ok-join.ensures.unchanged in
    ap (λ (v : World). leaving v c.answered-in-Err.result) same ∙ ap (leaving w) c.answered-in-Err.ensures
    ∙ ap (λ (l : List ℕ). leaving w (only_answer l)) c.in_ok-join_refused-in-Err.ensures ∙ join_refuses c.args.at w c.in-Err.error wanted refused_by
