use Rattle.std.proofs.Common.{ℕ, [], ◌∷◌, ap, decimal, ◌∙◌}
use Rattle.ndc_laws_jobs.proofs.StandLemmas.{sync-left}
use Rattle.ndc_model.specs.Texts.{ok}
use Rattle.ndc_world_steps.specs.Told.{AnswerValue}
use Rattle.ndc_world_steps.proofs.ActivityLemmas.{left_as}
use Rattle.ndc_world_steps.proofs.reports.sync.Goals as goal

pub returns : goal.returns
returns g c =
    λ w stand. left_as (sync-left c.args.replication.now c.args.reports.now w stand c.args.to c.args.from) c.in_ok-count.ensures.taken
    (ap (λ (t : AnswerValue). t.text) c.answered.ensures ∙ c.in_ok-counted.ensures ∙ ap (λ (n : ℕ). ok (decimal n ∷ [])) c.in_ok-count.ensures.count) (ap (λ (t : AnswerValue). t.seen) c.answered.ensures)
