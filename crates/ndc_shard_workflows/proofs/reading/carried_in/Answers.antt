use Rattle.std.proofs.Common.{rules, ◌∙◌, ap, map}
use Rattle.ndc_shard_workflows.specs.Messages.{is_under, least_of, noted_at}
use Rattle.ndc_shard_workflows.proofs.CarriedLemmas.{least-found}
use Rattle.ndc_shard_workflows.proofs.reading.carried_in.Goals as goal

pub returns : goal.returns
returns c one =
    least-found (is_under c.args.workflow.now.arrived one) c.args.workflow.now c.requires.workflow (map (λ b. b.now) c.args.known.now) (map (λ b. b.now) c.as_slice.result.now)
    (noted_at one c.note_all.new.self) (noted_at one c.note_all-2.new.self) c.requires.learned (search rules)
    (c.in_ok-note_all.ensures one ∙ ap (λ l. least_of (is_under c.args.workflow.now.arrived one) (map (λ b. b.now) c.args.known.now) (noted_at one l)) c.new-carried.ensures)
    (c.in_ok-note_all-2.ensures one)
