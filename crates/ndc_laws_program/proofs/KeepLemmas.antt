-- Steps that keep each record naming all clusters.
use Rattle.std.proofs.Common.{◌≡◌, ℕ, ◌<◌, Bool, true, false, cond, List, Option, Some, None, Result, Ok, Err, refl, sym, ◌∙◌, subst, ap}
use Rattle.std.specs.Str.{bytes_eq}
use Rattle.ndc_script_types.specs.WellFormed.{IsCluster}
use Rattle.ndc_script_types.specs.declared.script.Header.{Header}
use Rattle.ndc_domain.specs.Clusters.{count_of}
use Rattle.ndc_domain.specs.Members.{has_member}
use Rattle.ndc_domain.specs.Merge.{merged, merged_option, merged_record}
use Rattle.ndc_domain.specs.Next.{next_of}
use Rattle.ndc_domain.specs.Records.{IsRecord, IsTable, failover_of, put_record, record_of, register_of}
use Rattle.ndc_domain.specs.declared.clusters.ClusterNo.{ClusterNo}
use Rattle.ndc_domain.specs.declared.record.DomainError.{DomainError}
use Rattle.ndc_domain.specs.declared.record.DomainRecord.{DomainRecord}
use Rattle.ndc_domain.specs.declared.record.FailoverError.{FailoverError}
use Rattle.ndc_domain.proofs.BothTables.{record_of-merged}
use Rattle.ndc_domain.proofs.CallLaws.{failover_finds, record_of-put, register_tells}
use Rattle.ndc_domain.proofs.Tables.{found_has}
use Rattle.ndc_domain.proofs.Unions.{union_has_ours}
use Rattle.ndc_event.specs.declared.name.Name.{Name}
use Rattle.ndc_laws_program.specs.Shared.{NamesAll, SharesAll}
use Rattle.ndc_laws.proofs.StayLemmas.{AreTables, TablesStay}
use Rattle.ndc_model.specs.Tables.{domains_step, failover_words, register_words, table_step}
use Rattle.ndc_model.specs.World.{Cluster, World, cluster_at, new_cluster, with_table}
use Rattle.ndc_model.proofs.WorldLemmas.{set-cases}

-- a table whose records name all clusters
abbrev pub TableShares : Header → List DomainRecord → Type 0
TableShares header table = (domain : Name) (one : DomainRecord) → record_of table domain ≡ Some one → NamesAll header one

-- where tables stay, so do their records
pub stay-shares : (header : Header) (w v : World) → TablesStay w v → SharesAll header w → SharesAll header v
stay-shares header w v stay shares cluster domain one found = shares cluster domain one (subst (λ (table : List DomainRecord). record_of table domain ≡ Some one) (stay cluster) found)

-- another table takes the place of a cluster's
pub put-shares : (header : Header) (cluster : ClusterNo) (table : List DomainRecord) (w : World) → TableShares header table → SharesAll header w → SharesAll header (with_table cluster table w)
unfolding with_table
put-shares header cluster table w all shares one =
    set-cases (λ (c : Cluster). TableShares header c.table) w.clusters cluster.number one.number _ (new_cluster 0) (λ at. all) (shares one)

-- a record is put into a table
record-shares : (header : Header) (new : DomainRecord) (table : List DomainRecord) → NamesAll header new → TableShares header table → TableShares header (put_record new table)
record-shares header new table all shares domain one found = by (bytes_eq new.name domain) (sym (record_of-put new table domain) ∙ found)
  where
    by : (t : Bool) → cond t (Some new) (record_of table domain) ≡ Some one → NamesAll header one
    by true e = let same : new ≡ one = cc in subst (NamesAll header) same all
    by false e = shares domain one e

-- a table merges another
pub merged-shares : (header : Header) (ours theirs : List DomainRecord) → IsTable ours → IsTable theirs → TableShares header ours → TableShares header theirs → TableShares header (merged ours theirs)
merged-shares header ours theirs first second ours-share theirs-share domain one found =
    by (record_of ours domain) refl (record_of theirs domain) refl (sym (record_of-merged ours theirs domain first.ordered second.ordered) ∙ found)
  where
    by : (o : Option DomainRecord) → record_of ours domain ≡ o → (t : Option DomainRecord) → record_of theirs domain ≡ t → merged_option o t ≡ Some one → NamesAll header one
    by None at t there e = theirs-share domain one (there ∙ e)
    by (Some our) at None there e = ours-share domain one (at ∙ e)
    by (Some our) at (Some their) there e =
        let same : merged_record our their ≡ one = cc in
        let sound : IsRecord our = (found_has IsRecord ours domain our first.sound at).0 in
        subst (NamesAll header) same (λ number below. union_has_ours our.members their.members number sound.1 (ours-share domain our at number below))

module _ (header : Header) (w : World) (tables : AreTables header w) (shares : SharesAll header w) where
  abbrev table_of : ClusterNo → List DomainRecord
  table_of cluster = (cluster_at cluster w).table

  -- a cluster merges the table of another
  pub domains-share : (to from : ClusterNo) → IsCluster header to → IsCluster header from → SharesAll header (domains_step to from w).world
  domains-share to from known also =
      put-shares header to (merged (table_of to) (table_of from)) w (merged-shares header (table_of to) (table_of from) (tables to known) (tables from also) (shares to) (shares from)) shares

  -- a domain fails over
  pub failover-shares : (at target : ClusterNo) (domain : Name) → SharesAll header (table_step failover_words at w (failover_of header.clusters domain target (table_of at))).world
  failover-shares at target domain = by (failover_of header.clusters domain target (table_of at)) refl
    where
      by : (r : Result (ℕ × List DomainRecord) FailoverError) → failover_of header.clusters domain target (table_of at) ≡ r → SharesAll header (table_step failover_words at w r).world
      by (Err error) e = shares
      by (Ok answer) e =
          let told = failover_finds header.clusters target (table_of at) (record_of (table_of at) domain) answer e in
          put-shares header at answer.1 w
          (subst (TableShares header) (sym told.3) (record-shares header (record (told.0) { version = answer.0 }) (table_of at) (shares at domain told.0 told.1) (shares at)))
          shares

  -- a domain is registered with all clusters
  pub register-shares : (at target : ClusterNo) (domain : Name) (days : ℕ) (members : List ℕ) → ((number : ℕ) → number < count_of header.clusters → has_member members number ≡ true)
      → SharesAll header (table_step register_words at w (register_of header.clusters at domain target days members (table_of at))).world
  register-shares at target domain days members all = by (register_of header.clusters at domain target days members (table_of at)) refl
    where
      by : (r : Result (ℕ × List DomainRecord) DomainError) → register_of header.clusters at domain target days members (table_of at) ≡ r → SharesAll header (table_step register_words at w r).world
      by (Err error) e = shares
      by (Ok answer) e =
          let told = register_tells header.clusters at domain target days members (table_of at) answer e in
          put-shares header at answer.1 w
          (subst (TableShares header) (ap (λ (pair : ℕ × List DomainRecord). pair.1) told.2)
          (record-shares header (record { name = domain; version = next_of header.clusters 0 target; config = 0; days = days; members = members }) (table_of at) all (shares at)))
          shares
