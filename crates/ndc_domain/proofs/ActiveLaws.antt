-- Records keep naming their active cluster, and tables stay tables, under every call.
use Rattle.std.proofs.Common.{◌≡◌, ℕ, ◌<◌, ◌≤◌, ◌^◌, max, Bool, true, false, ◌||◌, List, Option, Some, None, Ok, IsTrue, IsSomeAnd, refl, ◌∙◌, ap, subst, arith, inl, inr}
use Rattle.std.specs.Prelude.{◌==◌}
use Rattle.std.proofs.lemmas.Bool.{cases_lt}
use Rattle.ndc_domain.specs.declared.clusters.ClusterNo.{ClusterNo}
use Rattle.ndc_domain.specs.declared.record.DomainRecord.{DomainRecord}
use Rattle.ndc_domain.specs.Clusters.{ClusterList, AreClusters, count_of, initial_of, writer_of}
use Rattle.ndc_domain.specs.Next.{next_of}
use Rattle.ndc_domain.specs.Members.{has_member, AreMembers, with_member, union_of}
use Rattle.ndc_domain.specs.Flags.{has-where, where_AreMembers}
use Rattle.ndc_domain.specs.Records.{IsRecord, IsTable, record_of, put_record, register_of, retained, retain_of, failover_of, join_of}
use Rattle.ndc_domain.specs.Merge.{merged_record, merged}
use Rattle.ndc_domain.specs.Laws.{NamesActive, EachNamesActive}
use Rattle.ndc_domain.proofs.Writers.{rest_of_writer}
use Rattle.ndc_domain.proofs.Least.{next_is}
use Rattle.ndc_domain.proofs.Tables.{All-put, IsTable-put, found_has}
use Rattle.ndc_domain.proofs.BothTables.{All-merged}
use Rattle.ndc_domain.proofs.Unions.{has-union}
use Rattle.ndc_domain.proofs.CallLaws.{register_tells, one_test, retain_finds, failover_finds, failover_version_tells, join_finds}

module _ (clusters : ClusterList) (sound : AreClusters clusters) where
  -- a record with no fewer members below 8 names the same active cluster
  more_members : (version : ℕ) (fewer more : List ℕ) → ((k : ℕ) → k < 8 → has_member fewer k ≡ true → has_member more k ≡ true) →
      IsSomeAnd (writer_of clusters version) (λ active. IsTrue (has_member fewer active.number)) →
      IsSomeAnd (writer_of clusters version) (λ active. IsTrue (has_member more active.number))
  more_members version fewer more grows = by_writer (writer_of clusters version) refl
    where
      by_writer : (found : Option ClusterNo) → writer_of clusters version ≡ found →
          IsSomeAnd found (λ active. IsTrue (has_member fewer active.number)) → IsSomeAnd found (λ active. IsTrue (has_member more active.number))
      by_writer None e h = h
      by_writer (Some active) e h =
          let count : count_of clusters ≤ 8 = sound.count_most in
          let within : active.number < count_of clusters = (rest_of_writer clusters version active e).0 in
          grows active.number (omega arith) h

  -- a record whose version is the target's, a member, names its active cluster
  names_target : (one : DomainRecord) (target : ClusterNo) → writer_of clusters one.version ≡ Some target → has_member one.members target.number ≡ true → NamesActive clusters one
  names_target one target writer member = rw writer member

  -- of two records that name theirs the merged one names its
  merged_names : (one two : DomainRecord) → NamesActive clusters one → NamesActive clusters two → NamesActive clusters (merged_record one two)
  merged_names one two p q =
      elim (cases_lt one.version two.version) as (λ _. NamesActive clusters (merged_record one two)) [
        | inl l ↦
            let e : max one.version two.version ≡ two.version = omega arith in
            rw e (more_members two.version two.members (union_of one.members two.members)
            (λ k below has. has-union one.members two.members k below ∙ ap (λ (t : Bool). has_member one.members k || t) has ∙ or_true (has_member one.members k)) q)
        | inr g ↦
            let e : max one.version two.version ≡ one.version = omega arith in
            rw e (more_members one.version one.members (union_of one.members two.members)
            (λ k below has. has-union one.members two.members k below ∙ ap (λ (t : Bool). t || has_member two.members k) has) p)
      ]
    where
      or_true : (a : Bool) → (a || true) ≡ true
      or_true true = refl
      or_true false = refl

  pub merge_names : (records others : List DomainRecord) → EachNamesActive clusters records → EachNamesActive clusters others → EachNamesActive clusters (merged records others)
  merge_names records others ours theirs = All-merged (NamesActive clusters) merged_names records others ours theirs

  pub register_names : (at : ClusterNo) (name : List ℕ) (target : ClusterNo) (days : ℕ) (members : List ℕ) (records : List DomainRecord) (answer : ℕ × List DomainRecord) →
      EachNamesActive clusters records → register_of clusters at name target days members records ≡ Ok answer → EachNamesActive clusters answer.1
  register_names at name target days members records answer all h =
      let new : DomainRecord = record { name = name; version = next_of clusters 0 target; config = 0; days = days; members = members } in
      let told : (target.number < count_of clusters) × (has_member members target.number ≡ true) × ((next_of clusters 0 target, put_record new records) ≡ answer) =
      register_tells clusters at name target days members records answer h in
      let writer : writer_of clusters (next_of clusters 0 target) ≡ Some target = (next_is clusters 0 target sound told.0).1 in
      subst (λ (a : ℕ × List DomainRecord). EachNamesActive clusters a.1) told.2
      (All-put (NamesActive clusters) new records (names_target new target writer told.1) all)

  pub retain_names : (at : ClusterNo) (name : List ℕ) (days : ℕ) (records : List DomainRecord) (answer : ℕ × List DomainRecord) →
      EachNamesActive clusters records → retain_of at name days records ≡ Ok answer → EachNamesActive clusters answer.1
  retain_names at name days records answer all h =
      let told = retain_finds days records (record_of records name) answer ((one_test _ _ _ _ h).1) in
      let names : NamesActive clusters told.0 = (found_has (NamesActive clusters) records name told.0 all told.1).0 in
      subst (λ (a : ℕ × List DomainRecord). EachNamesActive clusters a.1) told.2
      (All-put (NamesActive clusters) (retained days told.0) records names all)

  pub failover_names : (name : List ℕ) (target : ClusterNo) (records : List DomainRecord) (answer : ℕ × List DomainRecord) →
      EachNamesActive clusters records → failover_of clusters name target records ≡ Ok answer → EachNamesActive clusters answer.1
  failover_names name target records answer all h =
      let told = failover_finds clusters target records (record_of records name) answer h in
      let new : DomainRecord = record (told.0) { version = answer.0 } in
      let facts = failover_version_tells clusters target told.0 answer.0 told.2 in
      let writer : writer_of clusters answer.0 ≡ Some target =
      subst (λ (v : ℕ). writer_of clusters v ≡ Some target) facts.1 ((next_is clusters told.0.version target sound facts.0).1) in
      rw told.3 (All-put (NamesActive clusters) new records (names_target new target writer facts.3) all)

  pub join_names : (at : ClusterNo) (name : List ℕ) (member : ClusterNo) (records after : List DomainRecord) →
      EachNamesActive clusters records → join_of at name member records ≡ Ok after → EachNamesActive clusters after
  join_names at name member records after all h =
      let told = join_finds member records (record_of records name) after ((one_test _ _ _ _ h).1) in
      let old : DomainRecord = told.0 in
      let new : DomainRecord = record old { members = with_member old.members member.number } in
      let names : NamesActive clusters old = (found_has (NamesActive clusters) records name old all told.1).0 in
      let grown : NamesActive clusters new =
      more_members old.version old.members (with_member old.members member.number)
      (λ k below has. has-where (λ n. has_member old.members n || (member.number == n)) k below ∙ ap (λ (t : Bool). t || (member.number == k)) has) names in
      subst (EachNamesActive clusters) told.2 (All-put (NamesActive clusters) new records grown all)

  pub register_table : (at : ClusterNo) (name : List ℕ) (target : ClusterNo) (days : ℕ) (members : List ℕ) (records : List DomainRecord) (answer : ℕ × List DomainRecord) →
      AreMembers members → IsTable records → register_of clusters at name target days members records ≡ Ok answer → IsTable answer.1
  register_table at name target days members records answer ascending table h =
      let new : DomainRecord = record { name = name; version = next_of clusters 0 target; config = 0; days = days; members = members } in
      let told : (target.number < count_of clusters) × (has_member members target.number ≡ true) × ((next_of clusters 0 target, put_record new records) ≡ answer) =
      register_tells clusters at name target days members records answer h in
      let most : next_of clusters 0 target ≤ 10 ^ 13 = first_most target told.0 in
      subst (λ (a : ℕ × List DomainRecord). IsTable a.1) told.2 (IsTable-put new records table (most, ascending))
    where
      first_most : (target : ClusterNo) → target.number < count_of clusters → next_of clusters 0 target ≤ 10 ^ 13
      first_most target l =
          let below : initial_of clusters target < clusters.increment = sound.initials_below target.number l in
          let most : clusters.increment ≤ 10 ^ 12 = sound.increment_most in
          grind arith

  pub failover_table : (name : List ℕ) (target : ClusterNo) (records : List DomainRecord) (answer : ℕ × List DomainRecord) →
      IsTable records → failover_of clusters name target records ≡ Ok answer → IsTable answer.1
  failover_table name target records answer table h =
      let told = failover_finds clusters target records (record_of records name) answer h in
      let facts = failover_version_tells clusters target told.0 answer.0 told.2 in
      let old : IsRecord told.0 = (found_has IsRecord records name told.0 table.sound told.1).0 in
      rw told.3 (IsTable-put (record (told.0) { version = answer.0 }) records table (facts.2, old.1))

pub retain_table : (at : ClusterNo) (name : List ℕ) (days : ℕ) (records : List DomainRecord) (answer : ℕ × List DomainRecord) →
    IsTable records → retain_of at name days records ≡ Ok answer → IsTable answer.1
retain_table at name days records answer table h =
    let told = retain_finds days records (record_of records name) answer ((one_test _ _ _ _ h).1) in
    let old : IsRecord told.0 = (found_has IsRecord records name told.0 table.sound told.1).0 in
    subst (λ (a : ℕ × List DomainRecord). IsTable a.1) told.2 (IsTable-put (retained days told.0) records table old)

pub join_table : (at : ClusterNo) (name : List ℕ) (member : ClusterNo) (records after : List DomainRecord) →
    IsTable records → join_of at name member records ≡ Ok after → IsTable after
join_table at name member records after table h =
    let told = join_finds member records (record_of records name) after ((one_test _ _ _ _ h).1) in
    let old : IsRecord told.0 = (found_has IsRecord records name told.0 table.sound told.1).0 in
    subst IsTable told.2 (IsTable-put (record (told.0) { members = with_member told.0.members member.number }) records table (old.0, where_AreMembers _))
