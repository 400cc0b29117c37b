use Rattle.std.proofs.Common.{◌≡◌, ℕ, List, Some, None, find, subst, ap, sym, ◌∙◌}
use Rattle.std.specs.Prelude.{IfOk}
use Rattle.ndc_graceful.specs.declared.handover.Handover.{Handover}
use Rattle.ndc_model.specs.Steps.{Stepped}
use Rattle.ndc_world_steps.specs.Links.{IsBetween, is_handover_to}
use Rattle.ndc_world_steps.specs.Told.{leaving, only_answer}
use Rattle.ndc_world_steps.proofs.HandoverLemmas.{completes, found_fits}
use Rattle.ndc_world_steps.proofs.handovers.complete.Goals as goal

pub returns-in_default : goal.returns-in_default
returns-in_default g c =
    ap (leaving c.args.replication.now) c.answered.ensures
    ∙ ap (λ (l : List ℕ). leaving c.args.replication.now (only_answer l)) c.in_ok-no_handover.ensures
    ∙ completes c.args.at c.args.domain.now c.args.replication.now None
    (sym c.in_default.is ∙ c.in_ok-handover.ensures ∙ ap (λ (l : List Handover). find (is_handover_to c.args.at c.args.domain.now) l) c.handovers.ensures)

pub complete_one-requires-clause-fit : goal.complete_one-requires-clause-fit
complete_one-requires-clause-fit g c =
    found_fits (IsBetween c.args.header.now) (is_handover_to c.args.at c.args.domain.now) c.args.replication.now.handovers c.in-Some.handover c.requires.fit
    (sym c.in-Some.is ∙ c.in_ok-handover.ensures ∙ ap (λ (l : List Handover). find (is_handover_to c.args.at c.args.domain.now) l) c.handovers.ensures)

pub returns : goal.returns
returns g c =
    subst (λ (s : Stepped). IfOk c.complete_one.result (λ step. leaving c.complete_one.new.replication step ≡ s))
    (completes c.args.at c.args.domain.now c.args.replication.now (Some c.in-Some.handover)
    (sym c.in-Some.is ∙ c.in_ok-handover.ensures ∙ ap (λ (l : List Handover). find (is_handover_to c.args.at c.args.domain.now) l) c.handovers.ensures))
    c.complete_one.ensures
