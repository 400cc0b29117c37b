-- What the conditions of the calls of a shard come to: what they ask of one cell, where a set is kept for each workflow.
use Rattle.std.proofs.Common.{◌≡◌, ℕ, true, List, [], ◌∷◌, Option, Some, None, IfSome, inl, inr, sym, ◌∙◌, subst, ap, true≢false}
use Rattle.std.specs.Prelude.{IsSome, is_some}
use Rattle.std.specs.List.{AllByRecursion}
use Rattle.std.specs.Option.{option_or}
use Rattle.ndc_command.specs.declared.command.Command.{Command}
use Rattle.ndc_event.specs.declared.batch.Batch.{Batch}
use Rattle.ndc_event.specs.declared.key.BatchKey.{BatchKey}
use Rattle.ndc_event.specs.declared.name.Name.{Name}
use Rattle.ndc_model_cells.specs.Keeping.{CanArrive, CanWrite, CanWriteEach, IsKept}
use Rattle.ndc_laws_cells.proofs.AskLemmas.{AllWait, IsFine, command-asked, has-room, reapply-asked, reset-asked}
use Rattle.ndc_laws_cells.proofs.KeptLemmas.{HaveCarriers, may-arrive}
use Rattle.ndc_laws_cells.proofs.NameLemmas.{names-of, workflows-apart}
use Rattle.ndc_model_cells.specs.declared.message.Message.{Message}
use Rattle.ndc_model_cells.specs.Allowed.{MayArrive, MayBeAsked, MayReapply}
use Rattle.ndc_model_cells.specs.Cells.{Cell, IsCell, arrived_of, both}
use Rattle.ndc_model_cells.specs.Jobs.{workflows_of}
use Rattle.ndc_model_cells.specs.Messages.{batches_of}
use Rattle.ndc_model_cells.specs.Places.{is_of}
use Rattle.ndc_model_cells.specs.Workflow.{workflow_of}
use Rattle.ndc_model_cells.specs.Writing.{Desk, command_of, reset_at}
use Rattle.ndc_model_sets.specs.Learned.{has_key, learned}
use Rattle.ndc_model_sets.specs.Sets.{Has, batch_at, earlier}
use Rattle.ndc_model_sets.proofs.BranchLemmas.{among-has, has-among}
use Rattle.ndc_model_sets.proofs.ForkLemmas.{among-left, among-right}
use Rattle.ndc_model_sets.proofs.Lists.{Among, all-among, filter-among}
use Rattle.ndc_shard.specs.Sent.{HasCarrier, is_lone}
use Rattle.ndc_shard.proofs.SentLemmas.{lone-some}
use Rattle.ndc_shard_waiting.specs.Waiting.{CanWait}
use Rattle.ndc_shard_waiting.specs.Learning.{with_messages}
use Rattle.ndc_shard_waiting.proofs.LearnLemmas.{found-all-of}
use Rattle.ndc_shard_workflows.specs.Workflow.{IsWorkflow}

-- a batch of a message that waits is one of all that wait
among-batches : (messages : List Message) (sent : Message) (b : Batch) → Among sent messages → Among b (both sent) → Among b (batches_of messages)
among-batches [] sent b none there = absurd none
among-batches (m ∷ ms) sent b (inl same) there = among-left b (both m) (batches_of ms) (subst (λ (x : Message). Among b (both x)) same there)
among-batches (m ∷ ms) sent b (inr later) there = among-right b (both m) (batches_of ms) (among-batches ms sent b later there)

-- what waits of a workflow that is as it should be has arrived, and has an earlier key
pub all-wait : (domain workflow : Name) (cell : Cell) → IsWorkflow (workflow_of domain workflow cell) → AllWait domain workflow cell
all-wait domain workflow cell is sent there = record {
  arrived = λ b h. subst (λ l. Has l b) (sym (ap (λ w. w.arrived) is.parts)) (found b (among-batches waiting sent b there h));
  later = λ none. never (earlier sent.batch) none (all-among CanWait waiting sent is.apart.messages.each there).waits;
}
  where
    waiting : List Message
    waiting = (workflow_of domain workflow cell).waiting

    known : List Batch
    known = learned (arrived_of domain workflow cell)

    never : (o : Option BatchKey) → o ≡ None → IsSome o → ⊥
    never o e some = true≢false (sym some ∙ ap is_some e)

    found : (b : Batch) → Among b (batches_of waiting) → Has (with_messages waiting known) b
    found b h =
        found-all-of known waiting is.apart b.key
        ∙ ap (λ (o : Option Batch). option_or o (batch_at b.key (batches_of waiting))) (all-among (λ (x : Batch). batch_at x.key known ≡ None) (batches_of waiting) b is.apart.apart h)
        ∙ among-has (batches_of waiting) b is.apart.messages.set.ordered h

pub fine-of : (all : List Batch) (domain workflow : Name) (cell : Cell) → IsCell cell → IsWorkflow (workflow_of domain workflow cell) → IsKept all domain workflow cell → IsFine all domain workflow cell
fine-of all domain workflow cell is workflow_is kept = record { cell_is = is; waits = all-wait domain workflow cell workflow_is; kept = kept }

-- no batch of a workflow has arrived without its carrier
carriers-of : (domain workflow : Name) (cell : Cell) → AllByRecursion (HasCarrier cell) cell.arrived → HaveCarriers (arrived_of domain workflow cell)
carriers-of domain workflow cell carried b key has e =
    let p = filter-among (is_of domain workflow) cell.arrived b (has-among (arrived_of domain workflow cell) b has) in
    let n = names-of domain workflow b p.0 in
    let lone = subst (λ o. IfSome o (λ k. is_lone (batch_at k (arrived_of b.domain b.workflow cell)) ≡ true)) e (all-among (HasCarrier cell) cell.arrived b carried p.1) in
    let here = lone-some (batch_at key (arrived_of b.domain b.workflow cell)) lone in
    subst (λ d. has_key (Some key) (arrived_of d workflow cell) ≡ true) n.0 (subst (λ u. has_key (Some key) (arrived_of b.domain u cell) ≡ true) n.1 here)

pub can-arrive : (sent : Message) (cell : Cell) → IsCell cell → AllByRecursion (HasCarrier cell) cell.arrived → CanArrive sent cell → MayArrive sent cell
can-arrive sent cell is carried can = may-arrive can.all sent cell can.kept can.message is (carriers-of sent.batch.domain sent.batch.workflow cell carried) can.range

module _ (home : Desk) (domain workflow : Name) (cell : Cell) (is : IsCell cell) (workflow_is : IsWorkflow (workflow_of domain workflow cell)) (can : CanWrite home domain workflow cell) where
  fine : IsFine can.all domain workflow cell
  fine = fine-of can.all domain workflow cell is workflow_is can.kept

  pub can-command : (command : Command) → MayBeAsked home domain workflow (command_of home domain workflow command cell) cell
  can-command command = record {
    limit = can.limit_most;
    room = has-room can.all domain workflow cell fine can.author.named can.range;
    takes = command-asked home can.all domain workflow cell fine can.author can.range command;
  }

  pub can-reset : (event : ℕ) → MayBeAsked home domain workflow (reset_at home domain workflow event cell) cell
  can-reset event = record {
    limit = can.limit_most;
    room = has-room can.all domain workflow cell fine can.author.named can.range;
    takes = reset-asked home can.all domain workflow cell fine can.author can.range event;
  }

pub can-reapply : (home : Desk) (cell : Cell) → IsCell cell → ((domain workflow : Name) → IsWorkflow (workflow_of domain workflow cell)) → CanWriteEach home cell → MayReapply home (workflows_of cell.arrived) cell
can-reapply home cell is workflows can =
    reapply-asked home (workflows_of cell.arrived) (workflows-apart cell.arrived) cell
    (λ b h. let one = can b.domain b.workflow in record { all = one.all; fine = fine-of one.all b.domain b.workflow cell is (workflows b.domain b.workflow) one.kept; author = one.author; range = one.range })
