use Rattle.std.proofs.Common.{List, sym, subst}
use Rattle.ndc_event.specs.declared.batch.Batch.{Batch}
use Rattle.ndc_model_sets.specs.Learned.{learned}
use Rattle.ndc_model_sets.specs.Sound.{IsSound}
use Rattle.ndc_shard_waiting.specs.Learning.{with_messages}
use Rattle.ndc_shard_waiting.proofs.LearnLemmas.{learned_is}
use Rattle.ndc_shard_workflows.specs.Arriving.{ComesFrom}
use Rattle.ndc_shard_workflows.proofs.TriedLemmas.{learned-view}
use Rattle.ndc_shard_workflows.proofs.workflow.Workflow.admit.Goals as goal

pub returns-in-Some-clause-sound : goal.returns-in-Some-clause-sound
returns-in-Some-clause-sound g c = subst IsSound (learned-view c.self.inside.runs c.self.inside.waiting c.self.invariant.apart c.args.self.now c.self.view_is) c.is_sound.ensures

pub returns-then-has_arrived-clause-sound : goal.returns-then-has_arrived-clause-sound
returns-then-has_arrived-clause-sound g c = subst IsSound (learned-view c.self.inside.runs c.self.inside.waiting c.self.invariant.apart c.args.self.now c.self.view_is) c.is_sound.ensures

pub returns-in-Ok-clause-sound : goal.returns-in-Ok-clause-sound
returns-in-Ok-clause-sound g c = subst IsSound (sym (learned_is c.admit.new.runs c.admit.new.waiting c.in-Ok.ensures.apart)) c.is_sound-in-Ok.ensures

pub returns-in-Ok-clause-comes : goal.returns-in-Ok-clause-comes
returns-in-Ok-clause-comes g c =
    subst (λ (l : List Batch). ComesFrom l (learned (with_messages c.admit.new.waiting c.admit.new.runs))) (learned-view c.self.inside.runs c.self.inside.waiting c.self.invariant.apart c.args.self.now c.self.view_is)
    (subst (ComesFrom c.self.inside.runs) (sym (learned_is c.admit.new.runs c.admit.new.waiting c.in-Ok.ensures.apart)) c.in-Ok.ensures.comes)
