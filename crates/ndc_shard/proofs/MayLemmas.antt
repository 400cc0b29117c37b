-- An entry that comes after all that is learned, and that the world lets a cell write, may be written.
use Rattle.std.proofs.Common.{◌≡◌, true, List, [], ◌∷◌, Option, Some, None, refl, sym, ◌∙◌, subst, ap}
use Rattle.std.specs.Prelude.{◌^◌, IfSome, option_to_list}
use Rattle.std.specs.Option.{option_or}
use Rattle.std.specs.List.{AllByRecursion}
use Rattle.std.proofs.lemmas.List.Elements.{filter_passes, recursion_from_All}
use Rattle.ndc_model_cells.specs.declared.message.Message.{Message}
use Rattle.ndc_model_cells.specs.Cells.{Cell, arrived_of, both, learned_of}
use Rattle.ndc_model_cells.specs.Places.{is_of}
use Rattle.ndc_model_cells.specs.Writing.{Entry, with_written}
use Rattle.ndc_model_cells.specs.Laws.{arrived_second}
use Rattle.ndc_model_cells.proofs.PlaceLemmas.{writing_keeps, written_arrives}
use Rattle.ndc_shard_entries.specs.Written.{AreWrittenTo, HasIdsUpTo, IsSecond, IsWrittenTo}
use Rattle.ndc_shard_entries.proofs.LawProofs.{sent-message, sent-new}
use Rattle.ndc_event.specs.declared.batch.Batch.{Batch}
use Rattle.ndc_event.specs.declared.name.Name.{Name}
use Rattle.ndc_model_sets.specs.Learned.{has_key, learned}
use Rattle.ndc_model_sets.specs.Sets.{PointsBack, arrived, batch_at, earlier}
use Rattle.ndc_model_sets.specs.Sound.{IsSound}
use Rattle.ndc_shard_waiting.specs.Learning.{with_message, with_messages}
use Rattle.ndc_model_cells.specs.Messages.{batches_of, IsMessage, IsNewTo, HasSmallIds, carrying}
use Rattle.ndc_shard_waiting.specs.Waiting.{freed, still_put_off}
use Rattle.ndc_shard_waiting.proofs.LawLemmas.{all_arrived, frees_none, others_put_off}
use Rattle.ndc_shard_waiting.proofs.LearnLemmas.{found-all-of, learned_is}
use Rattle.ndc_shard_waiting.proofs.KeptLemmas.{both-back}
use Rattle.ndc_model_cells.specs.Allowed.{MayWrite, MayWriteAll}
use Rattle.ndc_model_cells.specs.Workflow.{WorkflowValue, workflow_of}
use Rattle.ndc_shard_workflows.specs.Workflow.{IsWorkflow}
use Rattle.ndc_shard_workflows.proofs.CellLemmas.{written_same}
use Rattle.ndc_shard_workflows.proofs.OneWriteLemmas.{CanBeWritten, message-together}
use Rattle.ndc_shard_workflows.specs.Workflows.{IsOwn}
use Rattle.ndc_shard_workflows.specs.Writing.{MayBeWritten}
use Rattle.ndc_shard_workflows.proofs.OwnLemmas.{own-written}
use Rattle.ndc_shard_workflows.proofs.SameLemmas.{of-names}
use Rattle.ndc_shard.specs.Shards.{AreWritable, IsFit}

module _ (domain workflow : Name) (entry : Entry) (cell : Cell) (fit : IsFit domain workflow cell)
    (written : IsWrittenTo (learned_of domain workflow cell) domain workflow entry) (reached : has_key (earlier entry.batch) (learned_of domain workflow cell) ≡ true)
    (small : AllByRecursion HasSmallIds (both (carrying entry.batch entry.second))) (may : MayWrite domain workflow entry cell) where
  abbrev sent : Message
  sent = carrying entry.batch entry.second

  abbrev known : List Batch
  known = learned_of domain workflow cell

  abbrev waiting : List Message
  waiting = (workflow_of domain workflow cell).waiting

  message : IsMessage sent
  message = sent-message known domain workflow entry sent written refl refl

  new-known : IsNewTo known sent
  new-known = sent-new known domain workflow entry sent written refl refl

  -- the batches are new to all that has arrived
  new-all : (batches : List Batch) → AllByRecursion (λ b. batch_at b.key known ≡ None) batches → AllByRecursion (λ b. batch_at b.key (batches_of waiting) ≡ None) batches
      → AllByRecursion (λ b. batch_at b.key (with_messages waiting known) ≡ None) batches
  new-all [] one two = tt
  new-all (b ∷ batches) one two =
      (found-all-of known waiting fit.workflow_is.apart b.key ∙ ap (λ o. option_or o (batch_at b.key (batches_of waiting))) one.0 ∙ two.0, new-all batches one.1 two.1)

  fresh : IsNewTo (arrived_of domain workflow cell) sent
  fresh = subst (λ (w : WorkflowValue). IsNewTo w.arrived sent) (sym fit.workflow_is.parts) (new-all (both sent) new-known may.new)

  -- they are of the workflow
  first-own : is_of domain workflow entry.batch ≡ true
  first-own = of-names domain workflow entry.batch written.of.domain_is written.of.workflow_is

  second-own : IfSome entry.second (λ b. is_of domain workflow b ≡ true)
  second-own = by entry.second written.second
    where
      by : (o : Option Batch) → IfSome o (IsSecond domain workflow entry.batch) → IfSome o (λ b. is_of domain workflow b ≡ true)
      by None none = tt
      by (Some b) second = of-names domain workflow b second.of.domain_is second.of.workflow_is

  -- what is learned then is what was learned, with them
  pub learned-then : learned (arrived_of domain workflow (with_written entry cell)) ≡ with_message sent known
  learned-then =
      ap learned (written_arrives domain workflow entry cell fit.cell_is written.back first-own second-own)
      ∙ ap (λ (w : WorkflowValue). learned (with_message sent w.arrived)) fit.workflow_is.parts
      ∙ ap learned (all_arrived known waiting sent fit.workflow_is.apart message new-known may.new reached)
      ∙ learned_is (with_messages (freed sent waiting) known) (still_put_off sent waiting) (others_put_off known waiting sent fit.workflow_is.apart message new-known may.new reached)
      ∙ ap (λ (l : List Message). with_messages l known) (frees_none waiting sent may.awaited)

  can : CanBeWritten sent (workflow_of domain workflow cell)
  can = record {
    together = message-together sent message;
    fresh = fresh;
    reached = reached;
    awaited = may.awaited;
    sound = subst IsSound learned-then may.sound;
    small = small;
  }

  pub may-be : MayBeWritten sent (workflow_of entry.batch.domain entry.batch.workflow cell)
  may-be =
      subst (λ (d : Name). MayBeWritten sent (workflow_of d entry.batch.workflow cell)) (sym written.of.domain_is)
      (subst (λ (n : Name). MayBeWritten sent (workflow_of domain n cell)) (sym written.of.workflow_is) (record {
        message = message;
        may = record {
          together = can.together;
          own = names entry.second second-own;
          fresh = can.fresh;
          reached = can.reached;
          awaited = can.awaited;
          sound = can.sound;
          small = can.small;
        };
      }))
    where
      names : (o : Option Batch) → IfSome o (λ b. is_of domain workflow b ≡ true) → IfSome o (λ b. is_of entry.batch.domain entry.batch.workflow b ≡ true)
      names o own =
          subst (λ (d : Name). IfSome o (λ b. is_of d entry.batch.workflow b ≡ true)) (sym written.of.domain_is)
          (subst (λ (n : Name). IfSome o (λ b. is_of domain n b ≡ true)) (sym written.of.workflow_is) own)

  second-back : IfSome entry.second PointsBack
  second-back = by entry.second (both-back sent message).1
    where
      by : (o : Option Batch) → AllByRecursion PointsBack (option_to_list o) → IfSome o PointsBack
      by None back = tt
      by (Some b) back = back.0

  own-before : IsOwn domain workflow (workflow_of domain workflow cell)
  own-before = record {
    is = fit.workflow_is;
    sound = fit.sound;
    arrived = recursion_from_All _ _ (filter_passes (is_of domain workflow) cell.arrived);
    waiting = recursion_from_All _ _ (filter_passes (λ m. is_of domain workflow m.batch) cell.waiting);
  }

  -- the workflow after it is as it should be
  pub fit-then : IsFit domain workflow (with_written entry cell)
  fit-then = record {
    cell_is = writing_keeps entry cell fit.cell_is written.back second-back;
    workflow_is = subst IsWorkflow (sym (written_same domain workflow entry cell fit.cell_is written.back first-own second-own))
        (own-written domain workflow sent (workflow_of domain workflow cell) own-before first-own second-own can).is;
    sound = may.sound;
  }

-- the earlier key of each entry, where it has one, is learned, with the entries before it
abbrev pub AreReached : List Batch → List Entry → Type 0
AreReached batches [] = Unit {0}
AreReached batches (entry ∷ entries) = (has_key (earlier entry.batch) batches ≡ true) × AreReached (arrived_second entry.second (arrived entry.batch batches)) entries

pub all-may : (domain workflow : Name) (entries : List Entry) (cell : Cell) → IsFit domain workflow cell → AreWrittenTo (learned_of domain workflow cell) domain workflow entries
    → AreReached (learned_of domain workflow cell) entries → AllByRecursion (HasIdsUpTo (10 ^ 12)) entries → MayWriteAll domain workflow entries cell → AreWritable entries cell
all-may domain workflow [] cell fit behind reached small may = tt
all-may domain workflow (entry ∷ entries) cell fit behind reached small may = (
  may-be domain workflow entry cell fit behind.0 reached.0 small.0 may.0,
  all-may domain workflow entries (with_written entry cell) (fit-then domain workflow entry cell fit behind.0 reached.0 small.0 may.0)
      (subst (λ (l : List Batch). AreWrittenTo l domain workflow entries) after behind.1) (subst (λ (l : List Batch). AreReached l entries) after reached.1) small.1 may.1,
)
  where
    after : arrived_second entry.second (arrived entry.batch (learned_of domain workflow cell)) ≡ learned_of domain workflow (with_written entry cell)
    after = sym (learned-then domain workflow entry cell fit behind.0 reached.0 small.0 may.0)
