-- Merging: what a table takes from another one.
use Rattle.std.specs.Prelude.{ℕ, Bool, true, ◌||◌, not, nat_lt, max, List, [], ◌∷◌, count_by, Option, Some, None, if◌then◌else◌}
use Rattle.std.specs.Str.{bytes_eq}
use Rattle.std.specs.Ordering.{match_ordering}
use Rattle.ndc_domain.specs.declared.record.DomainRecord.{DomainRecord}
use Rattle.ndc_domain.specs.Members.{union_of}
use Rattle.ndc_domain.specs.Records.{names_cmp, record_of}

-- the record of both: the greater versions, the days of the greater config version, the members of both
abbrev pub merged_record : DomainRecord → DomainRecord → DomainRecord
merged_record ours theirs = record {
  name = ours.name;
  version = max ours.version theirs.version;
  config = max ours.config theirs.config;
  days = if nat_lt ours.config theirs.config then theirs.days else ours.days;
  members = union_of ours.members theirs.members;
}

-- the records of both in order of name, with the first one of ours before those of theirs
abbrev pub merged_behind : DomainRecord → (List DomainRecord → List DomainRecord) → List DomainRecord → List DomainRecord
merged_behind first rest [] = first ∷ rest []
merged_behind first rest (other ∷ others) =
    match_ordering (names_cmp first.name other.name)
    (first ∷ rest (other ∷ others))
    (merged_record first other ∷ rest others)
    (other ∷ merged_behind first rest others)

-- the records of both in order of name; of two records of one name their merged record
abbrev pub merged : List DomainRecord → List DomainRecord → List DomainRecord
merged [] others = others
merged (first ∷ records) others = merged_behind first (merged records) others

-- theirs has a greater version, a greater config version or a member that ours has not
abbrev pub brings : DomainRecord → DomainRecord → Bool
brings ours theirs =
    nat_lt ours.version theirs.version
    || (nat_lt ours.config theirs.config || not (bytes_eq (union_of ours.members theirs.members) ours.members))

-- there is no record of ours, or theirs brings something to it
abbrev pub is_news : Option DomainRecord → DomainRecord → Bool
is_news None theirs = true
is_news (Some ours) theirs = brings ours theirs

-- how many of their records are added to ours or change one
abbrev pub merge_count : List DomainRecord → List DomainRecord → ℕ
merge_count records others = count_by (λ other. is_news (record_of records other.name) other) others

-- what stands under a name in both: theirs, ours, or their merged record
abbrev pub merged_option : Option DomainRecord → Option DomainRecord → Option DomainRecord
merged_option None theirs = theirs
merged_option (Some ours) None = Some ours
merged_option (Some ours) (Some theirs) = Some (merged_record ours theirs)
