-- Domain records: lists of records in order of name, and what each call makes of them.
use Rattle.std.specs.Prelude.{◌≡◌, ℕ, ◌+◌, ◌^◌, ◌≤◌, Bool, ◌&&◌, ◌==◌, not, nat_le, nat_lt, is_some, List, [], ◌∷◌, find, map, option_to_list, Option, Some, None, Result, Ok, Err, if◌then◌else◌}
use Rattle.std.specs.Str.{bytes_eq}
use Rattle.std.specs.declared.cmp.Ordering.{Ordering}
use Rattle.std.specs.declared.cmp.Ordering.TheVariants.{Less}
use Rattle.std.specs.Ordering.{nat_cmp, match_ordering}
use Rattle.std.specs.Cmp.Lexicographic.{slice_cmp}
use Rattle.std.specs.List.{AllByRecursion}
use Rattle.ndc_event.specs.Outcome.{◌>>=◌}
use Rattle.ndc_domain.specs.declared.clusters.ClusterNo.{ClusterNo}
use Rattle.ndc_domain.specs.declared.record.DomainRecord.{DomainRecord}
use Rattle.ndc_domain.specs.declared.record.DomainError.{DomainError}
use Rattle.ndc_domain.specs.declared.record.DomainError.TheVariants as register
use Rattle.ndc_domain.specs.declared.record.RetainError.{RetainError}
use Rattle.ndc_domain.specs.declared.record.RetainError.TheVariants as retain
use Rattle.ndc_domain.specs.declared.record.FailoverError.{FailoverError}
use Rattle.ndc_domain.specs.declared.record.FailoverError.TheVariants as failover
use Rattle.ndc_domain.specs.declared.record.JoinError.{JoinError}
use Rattle.ndc_domain.specs.declared.record.JoinError.TheVariants as join
use Rattle.ndc_domain.specs.Clusters.{ClusterList, count_of}
use Rattle.ndc_domain.specs.Members.{AreMembers, has_member, with_member}
use Rattle.ndc_domain.specs.Next.{next_of}

-- how names are ordered
abbrev pub names_cmp : List ℕ → List ℕ → Ordering
names_cmp = slice_cmp nat_cmp

-- each of the records comes later than the name
abbrev pub AllLater : List ℕ → List DomainRecord → Type 0
AllLater name records = AllByRecursion (λ later. names_cmp name later.name ≡ Less) records

-- the records stand in order of name, each name once
abbrev pub Rise : List DomainRecord → Type 0
Rise [] = Unit {0}
Rise (first ∷ records) = AllLater first.name records × Rise records

-- a record as it should be: its version is one that a version may be, its members are in order
abbrev pub IsRecord : DomainRecord → Type 0
IsRecord one = (one.version ≤ 10 ^ 13) × AreMembers one.members

-- the records of a table
pub record IsTable (records : List DomainRecord) : Type 0 where
  pub ordered : Rise records
  pub sound : AllByRecursion IsRecord records

-- the record of this name
abbrev pub record_of : List DomainRecord → List ℕ → Option DomainRecord
record_of records name = find (λ one. bytes_eq one.name name) records

-- the records with the new one at its place, instead of the one of its name where there is one
abbrev pub put_record : DomainRecord → List DomainRecord → List DomainRecord
put_record new [] = new ∷ []
put_record new (first ∷ records) =
    match_ordering (names_cmp new.name first.name) (new ∷ first ∷ records) (new ∷ records) (first ∷ put_record new records)

-- registering: the version that is answered and the records then, or the refusal
abbrev pub register_of : ClusterList → ClusterNo → List ℕ → ClusterNo → ℕ → List ℕ → List DomainRecord → Result (ℕ × List DomainRecord) DomainError
register_of clusters at name target days members records =
    if not (at.number == 0) then Err register.NotPrimary
    else if is_some (record_of records name) then Err register.DomainExists
    else if nat_le (count_of clusters) target.number then Err register.UnknownTarget
    else if not (has_member members target.number) then Err register.NotMember
    else Ok (next_of clusters 0 target, put_record (record { name = name; version = next_of clusters 0 target; config = 0; days = days; members = members }) records)

-- a record with other days and the next config version
abbrev pub retained : ℕ → DomainRecord → DomainRecord
retained days old = record old { config = old.config + 1; days = days }

-- retaining in the record that was found
abbrev pub retain_found : ℕ → List DomainRecord → Option DomainRecord → Result (ℕ × List DomainRecord) RetainError
retain_found days records None = Err retain.UnknownDomain
retain_found days records (Some old) = Ok (old.config + 1, put_record (retained days old) records)

-- retaining: the config version that is answered and the records then, or the refusal
abbrev pub retain_of : ClusterNo → List ℕ → ℕ → List DomainRecord → Result (ℕ × List DomainRecord) RetainError
retain_of at name days records =
    if not (at.number == 0) then Err retain.NotPrimary
    else retain_found days records (record_of records name)

-- the version that a failover to the target gives the record
abbrev pub failover_version_of : ClusterList → ClusterNo → DomainRecord → Result ℕ FailoverError
failover_version_of clusters target old =
    if nat_le (count_of clusters) target.number then Err failover.UnknownTarget
    else if nat_lt (10 ^ 13) (next_of clusters old.version target) then Err failover.VersionLimit
    else if not (has_member old.members target.number) then Err failover.NotMember
    else Ok (next_of clusters old.version target)

-- failing over the record that was found
abbrev pub failover_found : ClusterList → ClusterNo → List DomainRecord → Option DomainRecord → Result (ℕ × List DomainRecord) FailoverError
failover_found clusters target records None = Err failover.UnknownDomain
failover_found clusters target records (Some old) = do
  version ← failover_version_of clusters target old
  Ok (version, put_record (record old { version = version }) records)

-- failing over: the version that is answered and the records then, or the refusal
abbrev pub failover_of : ClusterList → List ℕ → ClusterNo → List DomainRecord → Result (ℕ × List DomainRecord) FailoverError
failover_of clusters name target records = failover_found clusters target records (record_of records name)

-- joining in the record that was found
abbrev pub join_found : ClusterNo → List DomainRecord → Option DomainRecord → Result (List DomainRecord) JoinError
join_found member records None = Err join.UnknownDomain
join_found member records (Some old) =
    if has_member old.members member.number then Err join.MemberExists
    else Ok (put_record (record old { members = with_member old.members member.number }) records)

-- joining: the records then, or the refusal
abbrev pub join_of : ClusterNo → List ℕ → ClusterNo → List DomainRecord → Result (List DomainRecord) JoinError
join_of at name member records =
    if not (at.number == 0) then Err join.NotPrimary
    else join_found member records (record_of records name)

-- the names of the records
abbrev pub names_of : List DomainRecord → List (List ℕ)
names_of records = map (λ one. one.name) records

-- the record of this name alone
abbrev pub only_of : List DomainRecord → List ℕ → List DomainRecord
only_of records name = option_to_list (record_of records name)

-- two records are one
abbrev pub record_eq : DomainRecord → DomainRecord → Bool
record_eq one two =
    bytes_eq one.name two.name && ((one.version == two.version) && ((one.config == two.config) && ((one.days == two.days) && bytes_eq one.members two.members)))
