-- Two batches that may be written one after the other may be written together.
use Rattle.std.proofs.Common.{◌≡◌, ◌||◌, true, false, List, [], ◌∷◌, Option, Some, None, refl, sym, ◌∙◌, subst, ap}
use Rattle.std.specs.Option.{option_or}
use Rattle.ndc_model_cells.specs.declared.message.Message.{Message}
use Rattle.ndc_model_cells.specs.Messages.{carrying, waits_for}
use Rattle.ndc_model_cells.specs.Places.{is_of}
use Rattle.ndc_model_cells.specs.Workflow.{WorkflowValue}
use Rattle.ndc_event.specs.declared.batch.Batch.{Batch}
use Rattle.ndc_event.specs.declared.key.BatchKey.{BatchKey}
use Rattle.ndc_model_sets.specs.Learned.{has_key, learned}
use Rattle.ndc_model_sets.specs.Sets.{IsSet, arrived, batch_at, earlier}
use Rattle.ndc_model_sets.specs.Sound.{IsSound}
use Rattle.ndc_shard_waiting.specs.Learning.{with_message}
use Rattle.ndc_shard_waiting.proofs.LearnLemmas.{set-all}
use Rattle.ndc_shard_waiting.proofs.OrderLemmas.{all-two, arrived-at, has-append}
use Rattle.ndc_shard_workflows.specs.Workflow.{IsWorkflow, beside, with_written}
use Rattle.ndc_shard_workflows.specs.Writing.{GoesBehind, MayBeWritten, MayBeWrittenTogether}
use Rattle.ndc_shard_workflows.proofs.OneWriteLemmas.{CanBeWritten, written-is, written-learned}
use Rattle.ndc_shard_workflows.proofs.PutLemmas.{can-be}

-- what waits for none of two batches waits for neither
both-not : (o : Option BatchKey) (b s : Batch) → has_key o (b ∷ []) ≡ false → has_key o (s ∷ []) ≡ false → has_key o (b ∷ s ∷ []) ≡ false
both-not None b s e f = f
both-not (Some key) b s e f = has-append key (b ∷ []) (s ∷ []) ∙ ap (λ t. t || has_key (Some key) (s ∷ [])) e ∙ f

module _ (b s : Batch) (w : WorkflowValue) (is : IsWorkflow w) (first : MayBeWritten (carrying b None) w) (second : MayBeWritten (carrying s None) (with_written (carrying b None) w))
    (goes : GoesBehind b s) (own : is_of b.domain b.workflow s ≡ true) where
  abbrev sent : Message
  sent = carrying b None

  arrived-set : IsSet w.arrived
  arrived-set = subst (λ (v : WorkflowValue). IsSet v.arrived) (sym is.parts) (set-all (learned w.arrived) w.waiting is.apart)

  second-fresh : batch_at s.key w.arrived ≡ None
  second-fresh = by (batch_at s.key w.arrived) (sym (arrived-at b w.arrived s.key arrived-set.ordered) ∙ second.may.fresh.0)
    where
      by : (o : Option Batch) → option_or o (batch_at s.key (b ∷ [])) ≡ None → o ≡ None
      by None e = refl
      by (Some x) e = absurd (cc)

  can : CanBeWritten sent (beside (learned w.arrived) w.waiting)
  can = subst (CanBeWritten sent) is.parts (can-be sent w first.may)

  -- what is learned with the first
  learned-then : learned (arrived b w.arrived) ≡ arrived b (learned w.arrived)
  learned-then =
      ap (λ (v : WorkflowValue). learned (with_message sent v.arrived)) is.parts
      ∙ ap (λ (v : WorkflowValue). learned v.arrived) (sym (written-is (learned w.arrived) w.waiting is.apart sent can))
      ∙ written-learned (learned w.arrived) w.waiting is.apart sent can
      ∙ ap (λ (v : WorkflowValue). with_message sent (learned v.arrived)) (sym is.parts)

  pub both-may : MayBeWrittenTogether (carrying b (Some s)) w
  both-may = record {
    together = record { back = first.message.back; second = goes };
    own = own;
    fresh = (first.may.fresh.0, (second-fresh, tt));
    reached = first.may.reached;
    awaited = all-two (λ m. waits_for (b ∷ []) m ≡ false) (λ m. waits_for (s ∷ []) m ≡ false) (λ m. waits_for (b ∷ s ∷ []) m ≡ false) (λ m e f. both-not (earlier m.batch) b s e f) w.waiting
        first.may.awaited second.may.awaited;
    sound = subst (λ (l : List Batch). IsSound (arrived s l)) learned-then second.may.sound;
    small = (first.may.small.0, second.may.small);
  }
