-- What a well-made message is.
use Rattle.std.proofs.Common.{◌≡◌, ◌≤◌, ◌^◌, nat_le, List, [], ◌∷◌, IfSome, All, ap}
use Rattle.std.specs.List.{AllByRecursion}
use Rattle.std.proofs.lemmas.Bool.{and_parts, leb-true}
use Rattle.std.proofs.lemmas.List.Elements.{All-nil, All-cons}
use Rattle.ndc_domain.specs.Clusters.{ClusterList, writer_of}
use Rattle.ndc_event.specs.declared.batch.Batch.{Batch}
use Rattle.ndc_event.specs.declared.batch.Event.{Event}
use Rattle.ndc_event.specs.declared.key.BatchKey.{BatchKey}
use Rattle.ndc_model_cells.specs.declared.message.Message.{Message}
use Rattle.ndc_model_cells.specs.Cells.{both}
use Rattle.ndc_model_cells.specs.Messages.{HasSmallIds, IsCarriedBy, IsMessage}
use Rattle.ndc_model_sets.proofs.SoundLemmas.{faultless-back}
use Rattle.ndc_text.specs.Ranges.{EventsFit, InRange}
use Rattle.ndc_admission.specs.Faults.{IsWellMade}
use Rattle.ndc_admission.proofs.PairLemmas.{both-all, all-second, if-weaker}

pub made_message : (sent : Message) (clusters : ClusterList) → IsWellMade clusters sent → IsMessage sent
made_message sent clusters made = record { back = faultless-back sent.batch made.faultless.0; second = made.second }

small-events : (events : List Event) → EventsFit events → All (λ event. event.id ≤ 10 ^ 12) events
small-events [] fit = All-nil (λ event. event.id ≤ 10 ^ 12)
small-events (e ∷ es) fit = All-cons (λ event. event.id ≤ 10 ^ 12) e es (leb-true e.id (10 ^ 12) (and_parts (nat_le 1 e.id) (nat_le e.id (10 ^ 12)) fit.0.0).1) (small-events es fit.1)

small : (b : Batch) → InRange b → HasSmallIds b
small b range = small-events b.events range.events

pub made_small : (sent : Message) (clusters : ClusterList) → IsWellMade clusters sent → AllByRecursion HasSmallIds (both sent)
made_small sent clusters made = both-all HasSmallIds sent (small sent.batch made.range.0) (if-weaker InRange HasSmallIds sent.second small (all-second InRange sent made.range))

pub made_writer : (sent : Message) (clusters : ClusterList) → IsWellMade clusters sent
    → IfSome sent.second (λ b. writer_of clusters b.key.version ≡ writer_of clusters sent.batch.key.version)
made_writer sent clusters made =
    if-weaker (IsCarriedBy sent.batch) (λ b. writer_of clusters b.key.version ≡ writer_of clusters sent.batch.key.version) sent.second
    (λ b carried. ap (λ (key : BatchKey). writer_of clusters key.version) carried.key) made.second
