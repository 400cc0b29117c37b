use Rattle.std.proofs.Common.{refl, ◌∙◌, ap}
use Rattle.ndc_model_cells.specs.Messages.{batches_of}
use Rattle.ndc_shard_workflows.specs.Admitting.{Settling}
use Rattle.ndc_shard_workflows.proofs.admitting.go_on.Goals as goal

pub returns-clause-settled : goal.returns-clause-settled
returns-clause-settled g c = record {
  batches = c.new-batches.result;
  aside = c.in_ok-done.done.aside;
  told_is = refl;
  batches_are = c.new-batches.ensures ∙ c.in_ok-batches_in.ensures ∙ ap (λ (s : Settling). batches_of s.learned) c.in_ok-done.ensures.settled;
  aside_are = ap (λ (s : Settling). s.aside) c.in_ok-done.ensures.settled;
  known_is = ap (λ (s : Settling). s.known) c.in_ok-done.ensures.settled;
  waiting_is = ap (λ (s : Settling). s.waiting) c.in_ok-done.ensures.settled;
}
