-- On what terms a cell takes messages that nobody vouches for.
use Rattle.std.specs.Prelude.{◌≡◌, ℕ, Bool, true, false, ◌&&◌, ◌||◌, not, is_some, nat_lt, length, List, Option, Some, None, IfSome, ◌⊎◌}
use Rattle.std.specs.List.{list_any}
use Rattle.ndc_domain.specs.Clusters.{ClusterList, writer_of}
use Rattle.ndc_domain.specs.declared.clusters.ClusterNo.{ClusterNo}
use Rattle.ndc_event.specs.declared.batch.Batch.{Batch}
use Rattle.ndc_event.specs.declared.batch.Event.{Event}
use Rattle.ndc_event.specs.declared.key.BatchKey.{BatchKey}
use Rattle.ndc_event.specs.declared.kind.EventKind.{EventKind}
use Rattle.ndc_event.specs.declared.kind.EventKind.TheVariants.{WorkflowExecutionSignaled}
use Rattle.ndc_model_cells.specs.Cells.{Cell, both}
use Rattle.ndc_model_cells.specs.Messages.{IsNewTo}
use Rattle.ndc_model_cells.specs.Writing.{is_writer}
use Rattle.ndc_model_cells.specs.declared.message.Message.{Message}
use Rattle.ndc_model_sets.specs.Learned.{has_key}
use Rattle.ndc_model_sets.specs.Sets.{Has, batch_at}
use Rattle.ndc_shard_runs.specs.Copies.{event_of}

-- the clusters, which of them the cell is of, whether it asks for what it lost, and whether one more message may wait
pub record TermsValue : Type 0 where
  pub clusters : ClusterList
  pub me : ClusterNo
  pub recall : Bool
  pub may_wait : Bool

-- the clusters, which of them the cell is of, whether it asks for what it lost, and how many messages may wait in it
pub record CellTermsValue : Type 0 where
  pub clusters : ClusterList
  pub me : ClusterNo
  pub recall : Bool
  pub most_waiting : ℕ

-- the terms in a cell: one more message may wait while fewer do
abbrev pub terms_in : CellTermsValue → Cell → TermsValue
terms_in terms cell = record { clusters = terms.clusters; me = terms.me; recall = terms.recall; may_wait = nat_lt (length cell.waiting) terms.most_waiting }

-- whether the cell's own cluster writes with a version
abbrev pub is_own : TermsValue → ℕ → Bool
is_own terms version = is_writer terms.me (writer_of terms.clusters version)

-- whether a batch has a version of the cell's own cluster, which has not learned it and does not ask for it
abbrev pub is_unknown_own : TermsValue → List Batch → Batch → Bool
is_unknown_own terms known b = not terms.recall && (is_own terms b.key.version && not (has_key (Some b.key) known))

-- whether an event of this kind is a copied signal that names an event of the cell's own cluster, which has not learned that
abbrev pub names_unknown_own : TermsValue → List Batch → EventKind → Bool
names_unknown_own terms known (WorkflowExecutionSignaled name input (Some origin)) = is_own terms origin.version && not (is_some (event_of origin known))
names_unknown_own terms known _ = false

-- whether one of these events is
abbrev pub name_unknown_own : TermsValue → List Batch → List Event → Bool
name_unknown_own terms known events = list_any (λ event. names_unknown_own terms known event.kind) events

-- the same of the events of a batch, where there is one
abbrev pub second_names_unknown_own : TermsValue → List Batch → Option Batch → Bool
second_names_unknown_own terms known None = false
second_names_unknown_own terms known (Some b) = name_unknown_own terms known b.events

-- whether a message has such a copied signal, and the cell does not ask for what it lost
abbrev pub has_unknown_own : TermsValue → List Batch → Message → Bool
has_unknown_own terms known sent = not terms.recall && (name_unknown_own terms known sent.batch.events || second_names_unknown_own terms known sent.second)

-- nothing but this batch stands under its key
abbrev pub StandsAlone : List Batch → Batch → Type 0
StandsAlone arrived b = (other : Batch) → batch_at b.key arrived ≡ Some other → other ≡ b

-- another batch stands under the key of this one
pub record IsRivalOf (arrived : List Batch) (b : Batch) : Type 0 where
  pub other : Batch
  pub at : batch_at b.key arrived ≡ Some other
  pub differs : other ≡ b → ⊥

-- the key of a second batch is taken: another one stands under it, or one does without the first
abbrev pub IsTaken : List Batch → Batch → Batch → Type 0
IsTaken arrived b second = IsRivalOf arrived second ⊎ ((has_key (Some second.key) arrived ≡ true) × (has_key (Some b.key) arrived ≡ false))

-- it is free for the second one: nothing but that stands under it, and that does not without the first
pub record IsFreeFor (arrived : List Batch) (b second : Batch) : Type 0 where
  pub alone : StandsAlone arrived second
  pub with_first : has_key (Some b.key) arrived ≡ false → batch_at second.key arrived ≡ None

-- a message has arrived: its batch has, and nothing but what it carries stands under the key of that
pub record IsKnown (arrived : List Batch) (sent : Message) : Type 0 where
  pub first : Has arrived sent.batch
  pub second : IfSome sent.second (StandsAlone arrived)

-- a message has a rival: something stands under the key of one of its batches, and it has not arrived itself
pub record HasRival (arrived : List Batch) (sent : Message) (key : BatchKey) : Type 0 where
  pub there : has_key (Some key) arrived ≡ true
  pub own : has_key (Some key) (both sent) ≡ true
  pub unknown : IsKnown arrived sent → ⊥

-- a message has no rival: where its batch has arrived it has arrived itself, and else neither of its batches has
pub record HasNoRival (arrived : List Batch) (sent : Message) : Type 0 where
  pub known : has_key (Some sent.batch.key) arrived ≡ true → IsKnown arrived sent
  pub new : has_key (Some sent.batch.key) arrived ≡ false → IsNewTo arrived sent

-- a message may be looked at on these terms, as far as the cell's own versions go
pub record IsForeign (terms : TermsValue) (known : List Batch) (sent : Message) : Type 0 where
  pub version : is_unknown_own terms known sent.batch ≡ false
  pub origins : has_unknown_own terms known sent ≡ false
