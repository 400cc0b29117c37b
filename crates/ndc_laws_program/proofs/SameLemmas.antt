-- Settled clusters that share all domains are the same.
use Rattle.std.proofs.Common.{◌≡◌, ℕ, true, List, Option, Some, None, refl, sym, ◌∙◌, subst, ap}
use Rattle.ndc_script_types.specs.WellFormed.{IsCluster}
use Rattle.ndc_script_types.specs.declared.script.Header.{Header}
use Rattle.ndc_domain.specs.Records.{record_of}
use Rattle.ndc_domain.specs.declared.clusters.ClusterNo.{ClusterNo}
use Rattle.ndc_domain.specs.declared.record.DomainRecord.{DomainRecord}
use Rattle.ndc_event.specs.declared.batch.Batch.{Batch}
use Rattle.ndc_event.specs.declared.name.Name.{Name}
use Rattle.ndc_laws_program.specs.Shared.{SharesAll}
use Rattle.ndc_laws_program.specs.Summed.{AreTheSame}
use Rattle.ndc_laws_program.proofs.SummedLemmas.{told-same}
use Rattle.ndc_laws_reached.specs.Settled.{IsSettled}
use Rattle.ndc_model.specs.Facts.{IsReached}
use Rattle.ndc_model.specs.Queues.{names_cluster}
use Rattle.ndc_model.specs.Reading.{learned_at}
use Rattle.ndc_model.specs.World.{World, cluster_at}
use Rattle.ndc_model_sets.specs.Learned.{learned}
use Rattle.ndc_model_sets.specs.Sets.{Has}
use Rattle.ndc_world_queries.specs.Summaries.{totals_of}

-- a record of a domain names all clusters, or no cluster has one
settled-same : (header : Header) (w : World) → IsSettled header w → SharesAll header w → AreTheSame header w
settled-same header w settled shares = record {
  tables = settled.tables;
  learned = λ one two domain workflow known also.
      let same = same_learned one two domain workflow known also in
      record { there = λ x has. subst (λ (l : List Batch). Has l x) same has; back = λ x has. subst (λ (l : List Batch). Has l x) (sym same) has };
}
  where
    same_learned : (one two : ClusterNo) (domain workflow : Name) → IsCluster header one → IsCluster header two → learned_at header one domain workflow w ≡ learned_at header two domain workflow w
    same_learned one two domain workflow known also = by (record_of (cluster_at one w).table domain) refl
      where
        there : record_of (cluster_at two w).table domain ≡ record_of (cluster_at one w).table domain
        there = ap (λ (table : List DomainRecord). record_of table domain) (settled.tables two one also known)

        by : (o : Option DomainRecord) → record_of (cluster_at one w).table domain ≡ o → learned_at header one domain workflow w ≡ learned_at header two domain workflow w
        by None e =
            ap learned (settled.strangers one known domain workflow (ap (names_cluster one) e)) ∙ sym (ap learned (settled.strangers two also domain workflow (ap (names_cluster two) (there ∙ e))))
        by (Some record_there) e =
            let names = shares one domain record_there e in
            settled.members one known domain workflow (ap (names_cluster one) e ∙ names one.number known)
            ∙ sym (settled.members two also domain workflow (ap (names_cluster two) (there ∙ e) ∙ names two.number also))

pub clusters-same : (header : Header) (lines : ℕ) (w : World) → IsReached header lines w → IsSettled header w → SharesAll header w → (totals_of header w).same ≡ true
clusters-same header lines w is settled shares = told-same header lines w is (settled-same header w settled shares)
