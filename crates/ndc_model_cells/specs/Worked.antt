-- Small worked cells: a workflow at cluster A, and at cluster B after a failover.
use Rattle.std.specs.Prelude.{ℕ, List, [], ◌∷◌, codes, Some, None}
use Rattle.ndc_model_cells.specs.declared.message.Message.{Message}
use Rattle.ndc_model_cells.specs.Cells.{Cell}
use Rattle.ndc_model_cells.specs.Writing.{Desk}
use Rattle.ndc_domain.specs.Clusters.{cluster_no}
use Rattle.ndc_domain.specs.declared.record.DomainRecord.{DomainRecord}
use Rattle.ndc_event.specs.declared.batch.Batch.{Batch}
use Rattle.ndc_event.specs.declared.kind.EventKind.TheVariants.{WorkflowExecutionStarted, DecisionTaskScheduled, DecisionTaskStarted, DecisionTaskCompleted, DecisionTaskFailed, TimerStarted}
use Rattle.ndc_history.specs.declared.item.Item.{Item}
use Rattle.ndc_model_sets.specs.Worked.{key, run, from, batch, begun, signaled, signal, copy}

-- the record of the domain, with this version and both clusters as members
abbrev pub alpha : ℕ → DomainRecord
alpha version = record { name = codes "alpha"; version = version; config = 0; days = 7; members = 0 ∷ 1 ∷ [] }

-- clusters A and B, seen from one of them, whose record of the domain has this version
abbrev pub home : ℕ → ℕ → Desk
home me version = record {
  clusters = record { increment = 10; members = (codes "A", 1) ∷ (codes "B", 2) ∷ [] };
  me = cluster_no me;
  limit = 100;
  table = alpha version ∷ [];
}

-- the cell where these batches have arrived
abbrev pub holding : List Batch → Cell
holding batches = record { arrived = batches; written = []; waiting = [] }

-- a batch that is sent alone, with this history
abbrev pub sent_alone : Batch → List Item → Message
sent_alone b history = record { batch = b; history = history; second = None }

-- A's second batch, a signal
abbrev pub first_signal : Batch
first_signal = signaled (key 1 2) (key 1 1) 3 (signal (codes "a1") (codes "x"))

-- B's first batch, a signal that was written beside it
abbrev pub other_signal : Batch
other_signal = signaled (key 2 2) (key 1 1) 3 (signal (codes "b1") (codes "y"))

-- A's signal, applied again by B
abbrev pub applied_again : Batch
applied_again = signaled (key 2 3) (key 2 2) 4 (copy (codes "a1") (codes "x") (from 3 1))

-- a decision that A has started
abbrev pub decided : Batch
decided = batch (run 1) (key 1 2) (Some (key 1 1)) None 3 (DecisionTaskStarted ∷ [])

-- what B writes below it for a signal: the decision fails first, and is scheduled again
abbrev pub signaled_over : Batch
signaled_over =
    batch (run 1) (key 2 3) (Some (key 1 2)) None 4
    (DecisionTaskFailed (codes "failoverClose") ∷ DecisionTaskScheduled ∷ signal (codes "b1") (codes "y") ∷ [])

-- a run of two signals around a decision that started a timer
abbrev pub to_be_reset : List Batch
to_be_reset =
    begun ∷ signaled (key 1 2) (key 1 1) 3 (signal (codes "p") (codes "x")) ∷ batch (run 1) (key 1 3) (Some (key 1 2)) None 4 (DecisionTaskStarted ∷ [])
    ∷ batch (run 1) (key 1 4) (Some (key 1 3)) None 5 (DecisionTaskCompleted ∷ TimerStarted (codes "t") ∷ [])
    ∷ batch (run 1) (key 1 5) (Some (key 1 4)) None 7 (signal (codes "q") (codes "y") ∷ DecisionTaskScheduled ∷ []) ∷ []

-- the first batch of the run that it is reset to at its decision's completion
abbrev pub reset_to : Batch
reset_to =
    batch (run 7) (key 1 7) None None 1
    (WorkflowExecutionStarted (codes "order") ∷ DecisionTaskScheduled ∷ copy (codes "p") (codes "x") (from 3 1) ∷ DecisionTaskStarted
    ∷ DecisionTaskFailed (codes "reset") ∷ DecisionTaskScheduled ∷ copy (codes "q") (codes "y") (from 7 1) ∷ [])
