-- Tables that may take the place of a cluster's table.
use Rattle.std.specs.Prelude.{◌≡◌, ℕ, ◌≤◌, true, List, Some}
use Rattle.std.specs.List.{AllByRecursion}
use Rattle.ndc_script_types.specs.WellFormed.{IsCluster}
use Rattle.ndc_script_types.specs.declared.script.Header.{Header}
use Rattle.ndc_domain.specs.Laws.{DaysAgree}
use Rattle.ndc_domain.specs.Members.{has_member}
use Rattle.ndc_domain.specs.Records.{IsTable, record_of}
use Rattle.ndc_domain.specs.declared.clusters.ClusterNo.{ClusterNo}
use Rattle.ndc_domain.specs.declared.record.DomainRecord.{DomainRecord}
use Rattle.ndc_event.specs.declared.name.Name.{Name}
use Rattle.ndc_model.specs.Fair.{AreMembersKnown, EachRecord, IsConfigKnown, IsRecordInRange, primary}
use Rattle.ndc_model.specs.World.{World, cluster_at, with_table}

-- a record that has no lower version than an old one, and each of its members
pub record Grew (old new : DomainRecord) : Type 0 where
  pub version : old.version ≤ new.version
  pub members : (number : ℕ) → has_member old.members number ≡ true → has_member new.members number ≡ true

-- each record of a table has grown in another one
abbrev pub TableGrows : List DomainRecord → List DomainRecord → Type 0
TableGrows before after = (domain : Name) (old : DomainRecord) → record_of before domain ≡ Some old → (new : DomainRecord) × (record_of after domain ≡ Some new) × Grew old new

-- a table that may take the place of a cluster's: it has grown, its records are in range and have members that
-- the header knows, the first cluster has each record's config version or a later one, and it agrees with the others
-- on days
pub record IsTableFit (header : Header) (lines : ℕ) (w : World) (cluster : ClusterNo) (table : List DomainRecord) : Type 0 where
  pub is_table : IsTable table
  pub grows : TableGrows (cluster_at cluster w).table table
  pub ranges : AllByRecursion (IsRecordInRange header lines) table
  pub members : AllByRecursion (AreMembersKnown header) table
  pub known : EachRecord header (with_table cluster table w) (IsConfigKnown (cluster_at primary (with_table cluster table w)).table)
  pub days : (other : ClusterNo) → IsCluster header other → DaysAgree table (cluster_at other w).table
