-- What the laws of domain tables speak of.
use Rattle.std.specs.Prelude.{◌≡◌, ℕ, ◌≤◌, IsTrue, IsSomeAnd, List, Some}
use Rattle.std.specs.List.{AllByRecursion}
use Rattle.ndc_domain.specs.declared.record.DomainRecord.{DomainRecord}
use Rattle.ndc_domain.specs.Clusters.{ClusterList, writer_of}
use Rattle.ndc_domain.specs.Members.{has_member}
use Rattle.ndc_domain.specs.Records.{record_of}

-- the new record has no lower version, no lower config version and each member of the old one
pub record Keeps (old new : DomainRecord) : Type 0 where
  pub name : new.name ≡ old.name
  pub version : old.version ≤ new.version
  pub config : old.config ≤ new.config
  pub members : (number : ℕ) → IsTrue (has_member old.members number) → IsTrue (has_member new.members number)

-- records of one domain in both tables that have equal config versions have equal days
abbrev pub DaysAgree : List DomainRecord → List DomainRecord → Type 0
DaysAgree records others =
    (name : List ℕ) (ours theirs : DomainRecord) →
    record_of records name ≡ Some ours → record_of others name ≡ Some theirs → ours.config ≡ theirs.config → ours.days ≡ theirs.days

-- the record's version has a writer, which is one of its members
abbrev pub NamesActive : ClusterList → DomainRecord → Type 0
NamesActive clusters one = IsSomeAnd (writer_of clusters one.version) (λ active. IsTrue (has_member one.members active.number))

-- each record does
abbrev pub EachNamesActive : ClusterList → List DomainRecord → Type 0
EachNamesActive clusters records = AllByRecursion (NamesActive clusters) records
