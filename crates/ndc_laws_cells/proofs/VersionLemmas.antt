-- With which version a cell may write.
use Rattle.std.proofs.Common.{◌≡◌, ◌≤◌, not, nat_lt, ℕ, Bool, true, false, List, Option, Some, None, Result, Ok, Err, refl, sym, ◌∙◌, subst, ap, arith, if◌then◌else◌}
use Rattle.std.proofs.lemmas.Bool.{eqb-true}
use Rattle.std.proofs.lemmas.Bool.Decides.{nat_tests}
use Rattle.ndc_model_cells.specs.Cells.{Cell, learned_of}
use Rattle.ndc_model_cells.specs.Writing.{Entry, Desk, as_command_error, greatest_version, is_writer, may_write, may_write_by, same_cluster}
use Rattle.ndc_command.specs.declared.refusal.CommandError.{CommandError}
use Rattle.ndc_command.specs.declared.refusal.Refusal.{Refusal}
use Rattle.ndc_command.specs.declared.refusal.Refusal.TheVariants as refusal
use Rattle.ndc_domain.specs.Clusters.{writer_of}
use Rattle.ndc_domain.specs.Records.{record_of}
use Rattle.ndc_domain.specs.declared.clusters.ClusterNo.{ClusterNo}
use Rattle.ndc_domain.specs.declared.record.DomainRecord.{DomainRecord}
use Rattle.ndc_event.specs.Outcome.{◌>>=◌}
use Rattle.ndc_event.specs.declared.batch.Batch.{Batch}
use Rattle.ndc_event.specs.declared.name.Name.{Name}

-- clusters of one number are one
pub one-cluster : (one two : ClusterNo) → same_cluster one two ≡ true → one ≡ two
one-cluster one two e = let same : one.number ≡ two.number = eqb-true one.number two.number e in λ i. record { number = same i }

-- the version is that of the cluster's record of the domain, and its own
pub record IsWriter (home : Desk) (domain : Name) (version : ℕ) : Type 0 where
  pub found : DomainRecord
  pub has : record_of home.table domain ≡ Some found
  pub version_is : found.version ≡ version
  pub writer : writer_of home.clusters version ≡ Some home.me

-- with what a cluster may write: it is the writer, and no greater version is learned
pub record WritesWith (home : Desk) (domain : Name) (batches : List Batch) (version : ℕ) : Type 0 where
  pub by_record : IsWriter home domain version
  pub most : greatest_version batches ≤ version

-- the answer by whether the writer is this cluster, and whether a greater version is learned
abbrev tested : Bool → Bool → ℕ → ℕ → Result ℕ Refusal
tested mine late version greatest = if not mine then Err (refusal.NotActive version) else if late then Err (refusal.Behind greatest) else Ok version

pub may-parts : (home : Desk) (domain workflow : Name) (cell : Cell) (version : ℕ) → may_write home domain workflow cell ≡ Ok version → WritesWith home domain (learned_of domain workflow cell) version
unfolding may_write
may-parts home domain workflow cell version e = by (record_of home.table domain) refl e
  where
    batches : List Batch
    batches = learned_of domain workflow cell

    writer-is : (o : Option ClusterNo) → is_writer home.me o ≡ true → o ≡ Some home.me
    writer-is None w = absurd (cc)
    writer-is (Some writer) w = ap (λ (c : ClusterNo). Some c) (one-cluster writer home.me w)

    tests : (one : DomainRecord) → record_of home.table domain ≡ Some one → (mine : Bool) → is_writer home.me (writer_of home.clusters one.version) ≡ mine → (late : Bool) → nat_lt one.version (greatest_version batches) ≡ late
        → tested mine late one.version (greatest_version batches) ≡ Ok version → WritesWith home domain batches version
    tests one at true mine true l h = absurd (cc)
    tests one at true mine false l h =
        let same : one.version ≡ version = cc in
        let most : greatest_version batches ≤ one.version = grind (arith, nat_tests) in
        record { by_record = record { found = one; has = at; version_is = same; writer = ap (writer_of home.clusters) (sym same) ∙ writer-is (writer_of home.clusters one.version) mine }; most = subst (λ v. greatest_version batches ≤ v) same most }
    tests one at false mine late l h = absurd (cc)

    by : (o : Option DomainRecord) → record_of home.table domain ≡ o → may_write_by home o batches ≡ Ok version → WritesWith home domain batches version
    by None at h = absurd (cc)
    by (Some one) at h = tests one at (is_writer home.me (writer_of home.clusters one.version)) refl (nat_lt one.version (greatest_version batches)) refl h

-- what a cluster writes where it may: the version, and what is written with it
pub record MayHave (home : Desk) (domain workflow : Name) (cell : Cell) (next : ℕ → Result (List Entry) CommandError) (entries : List Entry) : Type 0 where
  pub version : ℕ
  pub with : WritesWith home domain (learned_of domain workflow cell) version
  pub wrote : next version ≡ Ok entries

pub may-have : (home : Desk) (domain workflow : Name) (cell : Cell) (next : ℕ → Result (List Entry) CommandError) (entries : List Entry) → (as_command_error (may_write home domain workflow cell) >>= next) ≡ Ok entries
    → MayHave home domain workflow cell next entries
may-have home domain workflow cell next entries e = by (may_write home domain workflow cell) refl e
  where
    by : (r : Result ℕ Refusal) → may_write home domain workflow cell ≡ r → (as_command_error r >>= next) ≡ Ok entries → MayHave home domain workflow cell next entries
    by (Ok version) at h = record { version = version; with = may-parts home domain workflow cell version at; wrote = h }
    by (Err why) at h = absurd (cc)
