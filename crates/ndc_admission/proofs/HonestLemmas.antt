-- A message of a sound set is well-made.
use Rattle.std.proofs.Common.{◌≡◌, ◌+◌, ◌≤◌, ◌^◌, true, ◌&&◌, ◌==◌, not, List, Option, Some, None, IsSome, is_some, refl, sym, subst}
use Rattle.std.specs.List.{AllByRecursion}
use Rattle.std.proofs.lemmas.Bool.{and_parts, eqb-true}
use Rattle.ndc_domain.specs.Clusters.{ClusterList, writer_of}
use Rattle.ndc_event.specs.Batch.{fault_of, is_carrier_fit}
use Rattle.ndc_event.specs.declared.batch.Batch.{Batch}
use Rattle.ndc_event.specs.declared.key.BatchKey.{BatchKey}
use Rattle.ndc_model_cells.specs.declared.message.Message.{Message}
use Rattle.ndc_model_cells.specs.Cells.{both}
use Rattle.ndc_model_cells.specs.Keeping.{HaveTasksUpTo, IsCarried, IsMessageOf}
use Rattle.ndc_model_cells.specs.Messages.{IsCarriedBy}
use Rattle.ndc_model_cells.specs.Places.{is_of}
use Rattle.ndc_model_cells.specs.Writing.{key_behind}
use Rattle.ndc_model_sets.specs.Sets.{Has}
use Rattle.ndc_model_sets.specs.Sound.{IsSound}
use Rattle.ndc_model_sets.proofs.FaultLemmas.{passes}
use Rattle.ndc_model_sets.proofs.KeyLemmas.{key-parts}
use Rattle.ndc_model_sets.proofs.SetLemmas.{found-all}
use Rattle.ndc_text.specs.Ranges.{InRange}
use Rattle.ndc_admission.specs.Faults.{IsWellMade}
use Rattle.ndc_admission.proofs.PairLemmas.{both-all, if-weaker}

none-if : (o : Option BatchKey) → not (is_some o) ≡ true → o ≡ None
none-if None e = refl
none-if (Some key) e = absurd (cc)

-- a batch without a fault that names another as its carrier is the one that this carries
carried-second : (b second : Batch) → fault_of second ≡ None → second.carrier ≡ Some b.key → IsCarriedBy b second
carried-second b second fault e =
    let fit = subst (λ (o : Option BatchKey). is_carrier_fit second.key second.parent o ≡ true) e (passes second fault).carrier in
    let all = and_parts (not (is_some second.parent)) ((b.key.version == second.key.version) && (b.key.task + 1 == second.key.task)) fit in
    let keys = and_parts (b.key.version == second.key.version) (b.key.task + 1 == second.key.task) all.1 in
    record {
      key = key-parts second.key (key_behind b.key) (sym (eqb-true b.key.version second.key.version keys.0)) (sym (eqb-true (b.key.task + 1) second.key.task keys.1));
      parent = none-if second.parent all.0;
      carrier = e;
    }

-- what holds of each batch of the set holds of both of a message of it
of-both : (all : List Batch) (sent : Message) (P : Batch → Type 0) → IsMessageOf all sent → ((b : Batch) → Has all b → P b) → AllByRecursion P (both sent)
of-both all sent P is each = both-all P sent (each sent.batch is.has) (if-weaker (IsCarried all sent.batch) P sent.second (λ b c. each b c.has) is.second)

pub honest_made : (all : List Batch) (sent : Message) (clusters : ClusterList) → IsSound all → AllByRecursion (λ b. is_of sent.batch.domain sent.batch.workflow b ≡ true) all
    → AllByRecursion InRange all → HaveTasksUpTo (10 ^ 11) all → IsMessageOf all sent → IsSome (writer_of clusters sent.batch.key.version) → IsWellMade clusters sent
honest_made all sent clusters sound own range tasks is writer = record {
  faultless = of-both all sent (λ b. fault_of b ≡ None) is sound.faultless;
  range = of-both all sent InRange is (λ b has. found-all InRange all b.key b range has);
  tasks = of-both all sent (λ b. b.key.task ≤ 10 ^ 11) is tasks;
  lone = is.lone;
  goes = is.goes;
  own = if-weaker (IsCarried all sent.batch) (λ b. is_of sent.batch.domain sent.batch.workflow b ≡ true) sent.second
      (λ b c. found-all (λ b. is_of sent.batch.domain sent.batch.workflow b ≡ true) all b.key b own c.has) is.second;
  second = if-weaker (IsCarried all sent.batch) (IsCarriedBy sent.batch) sent.second (λ b c. carried-second sent.batch b (sound.faultless b c.has) c.carrier) is.second;
  written = writer;
}
