-- Two entries of which the second goes right after the first are written together as they are one after the other.
use Rattle.std.proofs.Common.{◌≡◌, ◌++◌, true, List, [], ◌∷◌, Option, Some, None, refl, sym, ◌∙◌, subst, ap}
use Rattle.std.specs.Prelude.{IfSome}
use Rattle.ndc_event.specs.declared.batch.Batch.{Batch}
use Rattle.ndc_event.specs.declared.name.Name.{Name}
use Rattle.ndc_model_cells.proofs.NameLemmas.{own-names}
use Rattle.ndc_model_cells.proofs.PlaceLemmas.{writing_keeps}
use Rattle.ndc_model_cells.specs.Cells.{Cell, IsCell}
use Rattle.ndc_model_cells.specs.Messages.{carrying}
use Rattle.ndc_model_cells.specs.Places.{is_of, place_of}
use Rattle.ndc_model_cells.specs.Workflow.{workflow_of}
use Rattle.ndc_model_cells.specs.Writing.{Entry, with_all_written, with_batches, with_written}
use Rattle.ndc_model_cells.specs.declared.place.Place.{Place}
use Rattle.ndc_model_sets.specs.Sets.{PointsBack}
use Rattle.ndc_shard_workflows.proofs.CellLemmas.{written_same}
use Rattle.ndc_shard_workflows.proofs.SameLemmas.{names-of}
use Rattle.ndc_shard_workflows.proofs.TogetherLemmas.{both-may}
use Rattle.ndc_shard_workflows.specs.Workflow as workflows
use Rattle.ndc_shard_workflows.specs.Workflow.{IsWorkflow}
use Rattle.ndc_shard_workflows.specs.Writing.{MayBeWritten, MayBeWrittenTogether}
use Rattle.ndc_shard.proofs.SentLemmas.{behind-write, write-messages}
use Rattle.ndc_shard.specs.Sent.{AreSent, messages_at}
use Rattle.ndc_shard.specs.Shards.{AreLone, AreWritable, GoAsTwo, having_written}

-- both batches, as what is written together
abbrev pub pair : Entry → Entry → Entry
pair first second = record { batch = first.batch; second = Some second.batch }

pair-is : (first second : Entry) (old : Cell) → GoAsTwo first second → with_batches (pair first second) old ≡ with_batches second (with_batches first old)
pair-is first second old two =
    λ i. with_batches (record { batch = second.batch; second = (sym two.second_alone) i }) (with_batches (record { batch = first.batch; second = (sym two.first_alone) i }) old)

module _ (first second : Entry) (old : Cell) (two : GoAsTwo first second) (is : IsCell old) (workflow : IsWorkflow (workflow_of first.batch.domain first.batch.workflow old))
    (may : AreWritable (first ∷ second ∷ []) old) where
  abbrev d : Name
  d = first.batch.domain

  abbrev n : Name
  n = first.batch.workflow

  first-may : MayBeWritten (carrying first.batch None) (workflow_of d n old)
  first-may = subst (λ (o : Option Batch). MayBeWritten (carrying first.batch o) (workflow_of d n old)) two.first_alone may.0

  first-own : IfSome first.second (λ b. is_of d n b ≡ true)
  first-own = subst (λ (o : Option Batch). IfSome o (λ b. is_of d n b ≡ true)) (sym two.first_alone) tt

  -- its workflow after the first
  between : workflow_of d n (with_written first old) ≡ workflows.with_written (carrying first.batch None) (workflow_of d n old)
  between =
      written_same d n first old is may.0.message.back (own-names first.batch) first-own
      ∙ ap (λ (o : Option Batch). workflows.with_written (carrying first.batch o) (workflow_of d n old)) two.first_alone

  second-may : MayBeWritten (carrying second.batch None) (workflows.with_written (carrying first.batch None) (workflow_of d n old))
  second-may =
      let names = names-of d n second.batch two.own in
      subst (MayBeWritten (carrying second.batch None)) between
      (subst (λ (k : Name). MayBeWritten (carrying second.batch None) (workflow_of d k (with_written first old))) names.1
      (subst (λ (k : Name). MayBeWritten (carrying second.batch None) (workflow_of k second.batch.workflow (with_written first old))) names.0
      (subst (λ (o : Option Batch). MayBeWritten (carrying second.batch o) (workflow_of second.batch.domain second.batch.workflow (with_written first old))) two.second_alone may.1.0)))

  pub pair-may : MayBeWrittenTogether (carrying first.batch (Some second.batch)) (workflow_of d n old)
  pair-may = both-may first.batch second.batch (workflow_of d n old) workflow first-may second-may two.behind two.own

-- the same of a shard, which is seen as its workflows with what they have written
module _ (first second : Entry) (old new : Cell) (places behind : List Place) (shard : Cell) (seen : having_written (messages_at places old) old ≡ shard) (is : IsCell old)
    (lone : AreLone (first ∷ second ∷ [])) (may : AreWritable (first ∷ second ∷ []) shard) (two : GoAsTwo first second) (are : AreSent places old)
    (cell_is : new ≡ with_batches (pair first second) old) (places_are : behind ≡ (places ++ place_of first.batch ∷ []) ++ place_of second.batch ∷ []) where
  abbrev mid : Cell
  mid = with_batches first old

  abbrev so_far : List Place
  so_far = places ++ place_of first.batch ∷ []

  is-mid : IsCell mid
  is-mid =
      let kept = writing_keeps first old is may.0.message.back (subst (λ (o : Option Batch). IfSome o PointsBack) (sym two.first_alone) tt) in
      record { ordered = kept.ordered; back = kept.back }

  seen-mid : having_written (messages_at so_far mid) mid ≡ with_written first shard
  seen-mid = write-messages first old mid places so_far shard seen is lone.0 may.0 are refl refl

  are-mid : AreSent so_far mid
  are-mid = behind-write first old mid places so_far (messages_at places old) shard seen is lone.0 may.0 are refl refl

  cell-then : new ≡ with_batches second mid
  cell-then = cell_is ∙ pair-is first second old two

  pub two-messages : having_written (messages_at behind new) new ≡ with_all_written (first ∷ second ∷ []) shard
  two-messages = write-messages second mid new so_far behind (with_written first shard) seen-mid is-mid lone.1.0 may.1.0 are-mid cell-then places_are

  pub two-sent : AreSent behind new
  two-sent = behind-write second mid new so_far behind (messages_at so_far mid) (with_written first shard) seen-mid is-mid lone.1.0 may.1.0 are-mid cell-then places_are
