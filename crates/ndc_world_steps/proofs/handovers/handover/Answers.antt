use Rattle.std.proofs.Common.{◌≡◌, ℕ, List, subst, ap, sym, ◌∙◌}
use Rattle.std.specs.Prelude.{IfOk}
use Rattle.ndc_model.specs.Steps.{Stepped}
use Rattle.ndc_world_steps.specs.Told.{leaving, only_answer}
use Rattle.ndc_world_steps.proofs.HandoverLemmas.{begins, open_refuses}
use Rattle.ndc_world_steps.proofs.handovers.handover.Goals as goal

pub returns-then-is_open : goal.returns-then-is_open
returns-then-is_open g c =
    ap (leaving c.args.replication.now) c.answered.ensures
    ∙ ap (λ (l : List ℕ). leaving c.args.replication.now (only_answer l)) c.in_ok-still_open.ensures
    ∙ open_refuses c.args.header.now c.args.at c.args.domain.now c.args.target c.args.replication.now (sym c.is_open.ensures ∙ c.if-is_open.true)

pub returns : goal.returns
returns g c =
    subst (λ (s : Stepped). IfOk c.begin.result (λ step. leaving c.begin.new.replication step ≡ s))
    (begins c.args.header.now c.args.at c.args.domain.now c.args.target c.args.replication.now (sym c.is_open.ensures ∙ c.if-is_open.false))
    c.begin.ensures
