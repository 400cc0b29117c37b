-- Two entries that may be written together may be written one after the other.
use Rattle.std.proofs.Common.{◌≡◌, ◌||◌, Bool, true, false, true≢false, List, [], ◌∷◌, Option, Some, None, refl, sym, ◌∙◌, subst, ap, if◌then◌else◌}
use Rattle.std.specs.Prelude.{IfSome, is_some}
use Rattle.std.specs.Option.{option_or}
use Rattle.std.specs.List.{AllByRecursion}
use Rattle.ndc_event.specs.declared.batch.Batch.{Batch}
use Rattle.ndc_event.specs.declared.key.BatchKey.{BatchKey}
use Rattle.ndc_event.specs.declared.name.Name.{Name}
use Rattle.ndc_model_cells.proofs.NameLemmas.{own-names}
use Rattle.ndc_model_cells.specs.Cells.{Cell, IsCell}
use Rattle.ndc_model_cells.specs.Messages.{IsNewTo, carrying, waits_for}
use Rattle.ndc_model_cells.specs.Places.{is_of}
use Rattle.ndc_model_cells.specs.Workflow.{WorkflowValue, workflow_of}
use Rattle.ndc_model_cells.specs.Writing.{Entry, with_written}
use Rattle.ndc_model_cells.specs.declared.message.Message.{Message}
use Rattle.ndc_model_sets.proofs.SetLemmas.{at-first}
use Rattle.ndc_model_sets.specs.Learned.{has_key, learned}
use Rattle.ndc_model_sets.specs.Sets.{IsSet, arrived, batch_at, earlier}
use Rattle.ndc_model_sets.specs.Sound.{IsSound}
use Rattle.ndc_shard.specs.Shards.{AreWritable, GoAsTwo, having_written}
use Rattle.ndc_shard_waiting.proofs.LearnLemmas.{set-all}
use Rattle.ndc_shard_waiting.proofs.OrderLemmas.{all-more, arrived-at, has-append, not-at}
use Rattle.ndc_shard_waiting.specs.Learning.{with_message}
use Rattle.ndc_shard_workflows.proofs.CellLemmas.{written_same}
use Rattle.ndc_shard_workflows.proofs.LearnableLemmas.{first-sound}
use Rattle.ndc_shard_workflows.proofs.OneWriteLemmas.{CanBeWritten, goes-after, goes-back, goes-reached, written-can, written-is, written-learned}
use Rattle.ndc_shard_workflows.proofs.PutLemmas.{can-be}
use Rattle.ndc_shard_workflows.proofs.PutOffLemmas.{new-to-known}
use Rattle.ndc_shard_workflows.proofs.SameLemmas.{names-of}
use Rattle.ndc_shard_workflows.specs.Workflow as workflows
use Rattle.ndc_shard_workflows.specs.Workflow.{IsWorkflow, beside}
use Rattle.ndc_shard_workflows.specs.Writing.{GoesBehind, MayBeWritten, MayBeWrittenTogether}

-- what waits for none of two batches waits for neither
neither : (o : Option BatchKey) (b s : Batch) → has_key o (b ∷ s ∷ []) ≡ false → (has_key o (b ∷ []) ≡ false) × (has_key o (s ∷ []) ≡ false)
neither None b s e = absurd (true≢false e)
neither (Some key) b s e = by (has_key (Some key) (b ∷ [])) (has_key (Some key) (s ∷ [])) (sym (has-append key (b ∷ []) (s ∷ [])) ∙ e)
  where
    by : (t u : Bool) → (t || u) ≡ false → (t ≡ false) × (u ≡ false)
    by true u f = absurd (true≢false f)
    by false u f = (refl, f)

-- two batches in a workflow
module _ (b s : Batch) (w : WorkflowValue) (is : IsWorkflow w) (may : MayBeWrittenTogether (carrying b (Some s)) w) where
  abbrev known : List Batch
  known = learned w.arrived

  abbrev one : Message
  one = carrying b None

  goes : GoesBehind b s
  goes = may.together.second

  first-awaited : AllByRecursion (λ sent. waits_for (b ∷ []) sent ≡ false) w.waiting
  first-awaited = all-more (λ sent. waits_for (b ∷ s ∷ []) sent ≡ false) (λ sent. waits_for (b ∷ []) sent ≡ false) (λ sent e. (neither (earlier sent.batch) b s e).0) w.waiting may.awaited

  second-awaited : AllByRecursion (λ sent. waits_for (s ∷ []) sent ≡ false) w.waiting
  second-awaited = all-more (λ sent. waits_for (b ∷ s ∷ []) sent ≡ false) (λ sent. waits_for (s ∷ []) sent ≡ false) (λ sent e. (neither (earlier sent.batch) b s e).1) w.waiting may.awaited

  both-can : CanBeWritten (carrying b (Some s)) (beside known w.waiting)
  both-can = subst (CanBeWritten (carrying b (Some s))) is.parts (can-be (carrying b (Some s)) w may)

  -- the first alone
  pub first-may : MayBeWritten one w
  first-may = record {
    message = record { back = may.together.back; second = tt };
    may = record {
      together = record { back = may.together.back; second = tt };
      own = tt;
      fresh = (may.fresh.0, tt);
      reached = may.reached;
      awaited = first-awaited;
      sound = first-sound known b s (written-can known w.waiting is.apart (carrying b (Some s)) both-can);
      small = (may.small.0, tt);
    };
  }

  first-can : CanBeWritten one (beside known w.waiting)
  first-can = subst (CanBeWritten one) is.parts (can-be one w first-may.may)

  arrived-set : IsSet w.arrived
  arrived-set = subst (λ (v : WorkflowValue). IsSet v.arrived) (sym is.parts) (set-all known w.waiting is.apart)

  -- what is learned with the first
  learned-then : learned (arrived b w.arrived) ≡ arrived b known
  learned-then =
      ap (λ (v : WorkflowValue). learned (with_message one v.arrived)) is.parts
      ∙ ap (λ (v : WorkflowValue). learned v.arrived) (sym (written-is known w.waiting is.apart one first-can))
      ∙ written-learned known w.waiting is.apart one first-can
      ∙ ap (λ (v : WorkflowValue). with_message one (learned v.arrived)) (sym is.parts)

  -- the key of the second is free then too
  second-free : batch_at s.key (arrived b w.arrived) ≡ None
  second-free =
      arrived-at b w.arrived s.key arrived-set.ordered ∙ ap (λ o. option_or o (batch_at s.key (b ∷ []))) may.fresh.1.0
      ∙ ap (λ (t : Bool). if t then Some b else None) (not-at s.key b (goes-after b s goes))

  first-new : batch_at b.key known ≡ None
  first-new = (new-to-known known w.waiting is.apart one (subst (λ (v : WorkflowValue). IsNewTo v.arrived one) is.parts (may.fresh.0, tt))).0

  first-there : has_key (Some b.key) (learned (arrived b w.arrived)) ≡ true
  first-there =
      ap (λ (l : List Batch). has_key (Some b.key) l) learned-then
      ∙ ap is_some (arrived-at b known b.key is.apart.set.ordered ∙ ap (λ o. option_or o (batch_at b.key (b ∷ []))) first-new ∙ at-first b [])

  -- the second after the first
  pub second-may : MayBeWritten (carrying s None) (workflows.with_written one w)
  second-may = record {
    message = record { back = goes-back b s goes; second = tt };
    may = record {
      together = record { back = goes-back b s goes; second = tt };
      own = tt;
      fresh = (second-free, tt);
      reached = goes-reached b s goes (learned (arrived b w.arrived)) first-there;
      awaited = second-awaited;
      sound = subst (λ (l : List Batch). IsSound (arrived s l)) (sym learned-then) may.sound;
      small = (may.small.1.0, tt);
    };
  }

-- two entries in a cell
module _ (first second : Entry) (old : Cell) (two : GoAsTwo first second) (is : IsCell old) (workflow : IsWorkflow (workflow_of first.batch.domain first.batch.workflow old))
    (may : MayBeWrittenTogether (carrying first.batch (Some second.batch)) (workflow_of first.batch.domain first.batch.workflow old)) where
  abbrev d : Name
  d = first.batch.domain

  abbrev n : Name
  n = first.batch.workflow

  first-own : IfSome first.second (λ b. is_of d n b ≡ true)
  first-own = subst (λ (o : Option Batch). IfSome o (λ b. is_of d n b ≡ true)) (sym two.first_alone) tt

  -- its workflow after the first
  between : workflow_of d n (with_written first old) ≡ workflows.with_written (carrying first.batch None) (workflow_of d n old)
  between =
      written_same d n first old is may.together.back (own-names first.batch) first-own
      ∙ ap (λ (o : Option Batch). workflows.with_written (carrying first.batch o) (workflow_of d n old)) two.first_alone

  first-part : MayBeWritten (carrying first.batch first.second) (workflow_of d n old)
  first-part = subst (λ (o : Option Batch). MayBeWritten (carrying first.batch o) (workflow_of d n old)) (sym two.first_alone) (first-may first.batch second.batch (workflow_of d n old) workflow may)

  second-part : MayBeWritten (carrying second.batch second.second) (workflow_of second.batch.domain second.batch.workflow (with_written first old))
  second-part =
      let names = names-of d n second.batch two.own in
      subst (λ (o : Option Batch). MayBeWritten (carrying second.batch o) (workflow_of second.batch.domain second.batch.workflow (with_written first old))) (sym two.second_alone)
      (subst (λ (k : Name). MayBeWritten (carrying second.batch None) (workflow_of k second.batch.workflow (with_written first old))) (sym names.0)
      (subst (λ (k : Name). MayBeWritten (carrying second.batch None) (workflow_of d k (with_written first old))) (sym names.1)
      (subst (MayBeWritten (carrying second.batch None)) (sym between) (second-may first.batch second.batch (workflow_of d n old) workflow may))))

-- the same of a shard, which is seen as its workflows with what they have written
pub pair-writable : (first second : Entry) (old shard : Cell) (messages : List Message) → having_written messages old ≡ shard → GoAsTwo first second → IsCell old
    → IsWorkflow (workflow_of first.batch.domain first.batch.workflow old)
    → MayBeWrittenTogether (carrying first.batch (Some second.batch)) (workflow_of first.batch.domain first.batch.workflow old) → AreWritable (first ∷ second ∷ []) shard
pair-writable first second old shard messages seen two is workflow may =
    subst (AreWritable (first ∷ second ∷ [])) seen (
      first-part first second (having_written messages old) two (record { ordered = is.ordered; back = is.back }) workflow may,
      (second-part first second (having_written messages old) two (record { ordered = is.ordered; back = is.back }) workflow may, tt),
    )
