-- Domain records that are changed where they stand: the world is the one with the changed table.
use Rattle.std.proofs.Common.{◌≡◌, ◌≢◌, ◌<◌, ◌==◌, ℕ, zero, suc, [], ◌∷◌, Bool, true, false, List, Option, Some, None, Result, Ok, Err, not, map, set, get_or, length, refl, ap, sym, subst, ◌∙◌, cond}
use Rattle.std.specs.Prelude.{is_some}
use Rattle.std.proofs.lemmas.List.{get_or-set_other, get_or-set_same}
use Rattle.ndc_domain.proofs.CallLaws.{failover_finds, join_finds, one_test, register_tells, retain_finds}
use Rattle.ndc_domain.proofs.Tables.{found_has}
use Rattle.ndc_domain.specs.Clusters.{ClusterList, writer_of}
use Rattle.ndc_domain.specs.Members.{has_member, with_member}
use Rattle.ndc_domain.specs.Merge.{merged}
use Rattle.ndc_domain.specs.Outcome.{Answers}
use Rattle.ndc_domain.specs.Records.{IsRecord, IsTable, failover_of, join_found, join_of, put_record, record_of, register_of, retain_of}
use Rattle.ndc_domain.specs.declared.clusters.ClusterNo.{ClusterNo}
use Rattle.ndc_domain.specs.declared.record.DomainRecord.{DomainRecord}
use Rattle.ndc_domain.specs.declared.record.FailoverError.{FailoverError}
use Rattle.ndc_domain.specs.declared.record.JoinError.{JoinError}
use Rattle.ndc_event.specs.Outcome.{Gives}
use Rattle.ndc_event.specs.declared.name.Name.{Name}
use Rattle.ndc_graceful.specs.Begin.{begin_of, begun_by, begun_from, handover_of}
use Rattle.ndc_graceful.specs.declared.handover.Handover.{Handover}
use Rattle.ndc_model_cells.specs.Writing.{is_writer}
use Rattle.ndc_model.specs.World.{Cluster, Link, World, cluster_at, with_late, with_table}
use Rattle.ndc_world_replication.proofs.LateLemmas.{joined_links, quiet_links}
use Rattle.ndc_world_replication.proofs.LinkLemmas.{stands}
use Rattle.ndc_world_replication.proofs.WorkLemmas.{table_change}
use Rattle.ndc_world_replication.specs.Replications.{StandsAt, world_of}
use Rattle.ndc_world_replication.specs.Publishers.{PublisherValue, with_publisher_table}
use Rattle.ndc_world_replication.specs.Tables.{table_changed, table_left, with_late_domain}

-- an item that takes a place twice
set-twice : {X : Type 0} (xs : List X) (i : ℕ) (a b : X) → set (set xs i a) i b ≡ set xs i b
set-twice [] i a b = refl
set-twice (x ∷ xs) zero a b = refl
set-twice (x ∷ xs) (suc i) a b = ap (λ (ys : List _). x ∷ ys) (set-twice xs i a b)

-- a record is put that names nobody whom the one of its name did not name
pub record Quiet (before after : List DomainRecord) : Type 0 where
  pub new : DomainRecord
  pub put : after ≡ put_record new before
  pub stays : (reader : ClusterNo) (old : DomainRecord) → record_of before new.name ≡ Some old → has_member new.members reader.number ≡ true → has_member old.members reader.number ≡ true

-- what an answer after two tests tells of the second
second_test : {X E : Type 0} (a b : Bool) (e1 e2 : E) (r : Result X E) (y : X) → cond a (Err e1) (cond b (Err e2) r) ≡ Ok y → b ≡ false
second_test true b e1 e2 r y h = absurd (cc)
second_test false true e1 e2 r y h = absurd (cc)
second_test false false e1 e2 r y h = refl

-- registering puts a record where there was none
pub register_quiet : (clusters : ClusterList) (at : ClusterNo) (name : Name) (target : ClusterNo) (days : ℕ) (members : List ℕ) (before : List DomainRecord) (version : ℕ) (after : List DomainRecord)
    → register_of clusters at name target days members before ≡ Ok (version, after) → Quiet before after
register_quiet clusters at name target days members before version after ok =
    let told = register_tells clusters at name target days members before (version, after) ok in
    let none : is_some (record_of before name) ≡ false = second_test _ _ _ _ _ _ ok in
    record {
      new = _;
      put = sym (ap (λ (answer : ℕ × List DomainRecord). answer.1) told.2);
      stays = λ reader old there has. let clash : false ≡ true = sym none ∙ ap is_some there in absurd (cc);
    }

-- a record that is found is changed, and its members are not
edit-quiet : (before after : List DomainRecord) (name : Name) (one new : DomainRecord) → IsTable before → record_of before name ≡ Some one → after ≡ put_record new before → new.name ≡ one.name → new.members ≡ one.members
    → Quiet before after
edit-quiet before after name one new table found put names members =
    let named : one.name ≡ name = (found_has IsRecord before name one table.sound found).1 in
    record {
      new = new;
      put = put;
      stays = λ reader old there has.
          let same : Some one ≡ Some old = sym found ∙ ap (record_of before) (sym (names ∙ named)) ∙ there in
          let is : one ≡ old = cc in
          subst (λ (r : DomainRecord). has_member r.members reader.number ≡ true) is (subst (λ (ms : List ℕ). has_member ms reader.number ≡ true) members has);
    }

pub retain_quiet : (at : ClusterNo) (name : Name) (days : ℕ) (before : List DomainRecord) (config : ℕ) (after : List DomainRecord) → IsTable before → retain_of at name days before ≡ Ok (config, after) → Quiet before after
retain_quiet at name days before config after table ok =
    let told = retain_finds days before (record_of before name) (config, after) (one_test _ _ _ _ ok).1 in
    edit-quiet before after name told.0 _ table told.1 (sym (ap (λ (answer : ℕ × List DomainRecord). answer.1) told.2)) refl refl

pub failover_quiet : (clusters : ClusterList) (name : Name) (target : ClusterNo) (before : List DomainRecord) (version : ℕ) (after : List DomainRecord) → IsTable before → failover_of clusters name target before ≡ Ok (version, after) → Quiet before after
failover_quiet clusters name target before version after table ok =
    let told = failover_finds clusters target before (record_of before name) (version, after) ok in
    edit-quiet before after name told.0 _ table told.1 told.3 refl refl

pub begin_quiet : (clusters : ClusterList) (at : ClusterNo) (name : Name) (target : ClusterNo) (places : List ℕ) (before : List DomainRecord) (begun : Handover) (after : List DomainRecord) → IsTable before
    → begin_of clusters at name target places before ≡ Ok (begun, after) → Quiet before after
unfolding begin_of
begin_quiet clusters at name target places before begun after table ok = by (record_of before name) ok
  where
    failed-over : (old : ℕ) (r : Result (ℕ × List DomainRecord) FailoverError) → failover_of clusters name target before ≡ r → begun_by at name target places old r ≡ Ok (begun, after) → Quiet before after
    failed-over old (Err error) e h = absurd (cc)
    failed-over old (Ok answer) e h =
        let both : (handover_of name at target old answer.0 places, answer.1) ≡ (begun, after) = cc in
        let same : answer.1 ≡ after = ap (λ (pair : Handover × List DomainRecord). pair.1) both in
        failover_quiet clusters name target before answer.0 after table (e ∙ ap (λ (records : List DomainRecord). Ok (answer.0, records)) same)

    by : (found : Option DomainRecord) → begun_from clusters at name target places before found ≡ Ok (begun, after) → Quiet before after
    by None h = absurd (cc)
    by (Some one) h = failed-over one.version (failover_of clusters name target before) refl (one_test (not (is_writer at (writer_of clusters one.version))) _ _ _ h).1

module _ (publishers : List PublisherValue) (links : List Link) (handovers : List Handover) (cluster : ClusterNo) (publisher : PublisherValue)
    (below : cluster.number < length publishers) (at : publisher ≡ get_or publishers cluster.number publisher) where
  abbrev w : World
  w = world_of publishers links handovers

  -- nobody notes anything
  quiet-change : (after : List DomainRecord) → IsTable publisher.cluster.table → Quiet publisher.cluster.table after → world_of (set publishers cluster.number (with_publisher_table after publisher)) links handovers ≡ with_table cluster after w
  quiet-change after table quiet =
      ap (λ (ls : List Link). world_of (set publishers cluster.number (with_publisher_table after publisher)) ls handovers)
      (quiet_links cluster publisher.cluster.table quiet.new table.ordered quiet.stays links ∙ ap (λ (records : List DomainRecord). map (with_late cluster publisher.cluster.table records) links) (sym quiet.put))
      ∙ table_change publishers links handovers cluster publisher below at after

  -- the world after an answer, by the cluster whose records are changed
  behind : (old new : World) (after : PublisherValue) → w ≡ old → after ≡ with_publisher_table after.cluster.table publisher → new ≡ world_of (set publishers cluster.number after) links handovers
      → IsTable publisher.cluster.table → Quiet publisher.cluster.table after.cluster.table → new ≡ with_table cluster after.cluster.table old
  behind old new after same rest is table quiet =
      is ∙ ap (λ (s : PublisherValue). world_of (set publishers cluster.number s) links handovers) rest ∙ quiet-change after.cluster.table table quiet ∙ ap (with_table cluster after.cluster.table) same

  pub own-table : (old : World) → w ≡ old → publisher.cluster.table ≡ (cluster_at cluster old).table
  own-table old same =
      let own : StandsAt w cluster publisher = stands publishers links handovers cluster publisher below at in
      sym (ap (λ (v : World). (cluster_at cluster v).table) (sym same) ∙ ap (λ (c : Cluster). c.table) own.cluster_is)

  -- a call that answers, or is refused, or lacks memory
  pub gives_at : {X E : Type 0} (memory : E) (result : Result X E) (of : List DomainRecord → Result (X × List DomainRecord) E) (old new : World) (after : PublisherValue) → w ≡ old
      → after ≡ with_publisher_table after.cluster.table publisher → new ≡ world_of (set publishers cluster.number after) links handovers → IsTable publisher.cluster.table
      → Gives memory (λ (x : X). (x, after.cluster.table)) result (of publisher.cluster.table) → ((x : X) → of publisher.cluster.table ≡ Ok (x, after.cluster.table) → Quiet publisher.cluster.table after.cluster.table)
      → Gives memory (λ (x : X). (x, new)) result (table_changed cluster old (of (cluster_at cluster old).table))
  gives_at memory (Ok x) of old new after same rest is table gives quiet =
      ap (λ (records : List DomainRecord). table_changed cluster old (of records)) (sym (own-table old same)) ∙ ap (table_changed cluster old) gives
      ∙ ap (λ (v : World). Ok (x, v)) (sym (behind old new after same rest is table (quiet x gives)))
  gives_at memory (Err e) of old new after same rest is table gives quiet =
      λ other. ap (λ (records : List DomainRecord). table_changed cluster old (of records)) (sym (own-table old same)) ∙ ap (table_changed cluster old) (gives other)

  -- a call that wants no memory
  pub answers_at : {X E : Type 0} (result : Result X E) (of : List DomainRecord → Result (X × List DomainRecord) E) (old new : World) (after : PublisherValue) → w ≡ old
      → after ≡ with_publisher_table after.cluster.table publisher → new ≡ world_of (set publishers cluster.number after) links handovers → IsTable publisher.cluster.table
      → Answers (λ (x : X). (x, after.cluster.table)) result (of publisher.cluster.table) → ((x : X) → of publisher.cluster.table ≡ Ok (x, after.cluster.table) → Quiet publisher.cluster.table after.cluster.table)
      → Answers (λ (x : X). (x, new)) result (table_changed cluster old (of (cluster_at cluster old).table))
  answers_at (Ok x) of old new after same rest is table gives quiet =
      ap (λ (records : List DomainRecord). table_changed cluster old (of records)) (sym (own-table old same)) ∙ ap (table_changed cluster old) gives
      ∙ ap (λ (v : World). Ok (x, v)) (sym (behind old new after same rest is table (quiet x gives)))
  answers_at (Err e) of old new after same rest is table gives quiet =
      ap (λ (records : List DomainRecord). table_changed cluster old (of records)) (sym (own-table old same)) ∙ ap (table_changed cluster old) gives

  -- a member joins, and notes that it comes late
  pub joined_at : (domain : Name) (member : ClusterNo) (old new : World) (after : PublisherValue) (after_links : List Link) → w ≡ old → member.number < 8
      → after ≡ with_publisher_table after.cluster.table publisher → new ≡ world_of (set publishers cluster.number after) after_links handovers → IsTable publisher.cluster.table
      → after_links ≡ map (with_late_domain member cluster domain) links → join_of cluster domain member publisher.cluster.table ≡ Ok after.cluster.table
      → table_left cluster old (join_of cluster domain member (cluster_at cluster old).table) ≡ Ok new
  joined_at domain member old new after after_links same below8 rest is table noted ok =
      let told = join_finds member publisher.cluster.table (record_of publisher.cluster.table domain) after.cluster.table (one_test _ _ _ _ ok).1 in
      let one : DomainRecord = told.0 in
      let has = found_has IsRecord publisher.cluster.table domain one table.sound told.1 in
      let named : one.name ≡ domain = has.1 in
      let own : has_member one.members member.number ≡ false = not-member told.0 told.1 in
      let put : after.cluster.table ≡ put_record (record one { members = with_member one.members member.number }) publisher.cluster.table = sym told.2 in
      let late : after_links ≡ map (with_late cluster publisher.cluster.table after.cluster.table) links =
      noted ∙ ap (λ (n : Name). map (with_late_domain member cluster n) links) (sym named)
      ∙ joined_links cluster member publisher.cluster.table one has.0.1 below8 own table.ordered (ap (record_of publisher.cluster.table) named ∙ told.1) links
      ∙ ap (λ (records : List DomainRecord). map (with_late cluster publisher.cluster.table records) links) (sym put) in
      ap (λ (records : List DomainRecord). table_left cluster old (join_of cluster domain member records)) (sym (own-table old same)) ∙ ap (table_left cluster old) ok
      ∙ ap Ok
      (sym (is ∙ ap (λ (s : PublisherValue). world_of (set publishers cluster.number s) after_links handovers) rest
      ∙ ap (λ (ls : List Link). world_of (set publishers cluster.number (with_publisher_table after.cluster.table publisher)) ls handovers) late
      ∙ table_change publishers links handovers cluster publisher below at after.cluster.table ∙ ap (with_table cluster after.cluster.table) same))
    where
      not-member : (one : DomainRecord) → record_of publisher.cluster.table domain ≡ Some one → has_member one.members member.number ≡ false
      not-member one found =
          (one_test _ _ _ after.cluster.table (ap (join_found member publisher.cluster.table) (sym found) ∙ (one_test (not (cluster.number == 0)) _ _ _ ok).1)).0

  -- a refused one
  pub not_joined_at : (domain : Name) (member : ClusterNo) (old : World) (error : JoinError) → w ≡ old → join_of cluster domain member publisher.cluster.table ≡ Err error
      → table_left cluster old (join_of cluster domain member (cluster_at cluster old).table) ≡ Err error
  not_joined_at domain member old error same refused =
      ap (λ (records : List DomainRecord). table_left cluster old (join_of cluster domain member records)) (sym (own-table old same)) ∙ ap (table_left cluster old) refused

  -- another table is merged, while the cluster's own was taken out
  pub merged_at : (old : World) (none ours theirs known after : List DomainRecord) (out back put_back : PublisherValue) (after_links : List Link) → w ≡ old
      → out ≡ with_publisher_table none publisher → ours ≡ publisher.cluster.table → theirs ≡ known → after ≡ merged ours theirs → after_links ≡ map (with_late cluster ours (merged ours theirs)) links
      → back ≡ get_or (set publishers cluster.number out) cluster.number back → put_back ≡ with_publisher_table after back
      → world_of (set (set publishers cluster.number out) cluster.number put_back) after_links handovers ≡ with_table cluster (merged (cluster_at cluster old).table known) old
  merged_at old none ours theirs known after out back put_back after_links same taken own their is noted found put =
      let at_out : back ≡ out = found ∙ get_or-set_same publishers cluster.number out back below in
      let in_is : put_back ≡ with_publisher_table after publisher = put ∙ ap (with_publisher_table after) (at_out ∙ taken) in
      let all : after ≡ merged publisher.cluster.table known = is ∙ ap (λ (records : List DomainRecord). merged records theirs) own ∙ ap (merged publisher.cluster.table) their in
      let late : after_links ≡ map (with_late cluster publisher.cluster.table after) links =
      noted ∙ ap (λ (records : List DomainRecord). map (with_late cluster ours records) links) (sym is) ∙ ap (λ (records : List DomainRecord). map (with_late cluster records after) links) own in
      ap (λ (ss : List PublisherValue). world_of ss after_links handovers) (set-twice publishers cluster.number out put_back ∙ ap (set publishers cluster.number) in_is)
      ∙ ap (λ (ls : List Link). world_of (set publishers cluster.number (with_publisher_table after publisher)) ls handovers) late
      ∙ table_change publishers links handovers cluster publisher below at after ∙ ap (with_table cluster after) same
      ∙ ap (λ (records : List DomainRecord). with_table cluster records old) (all ∙ ap (λ (records : List DomainRecord). merged records known) (own-table old same))

  -- the table of another cluster, while the cluster's own was taken out
  pub other_table : (other : ClusterNo) (old : World) (out there : PublisherValue) → w ≡ old → cluster.number ≢ other.number → other.number < length publishers
      → there ≡ get_or (set publishers cluster.number out) other.number there → there.cluster.table ≡ (cluster_at other old).table
  other_table other old out there same apart within found =
      let in_place : there ≡ get_or publishers other.number there = found ∙ get_or-set_other publishers cluster.number other.number out there (λ e. apart (sym e)) in
      let own : StandsAt w other there = stands publishers links handovers other there within in_place in
      sym (ap (λ (v : World). (cluster_at other v).table) (sym same) ∙ ap (λ (c : Cluster). c.table) own.cluster_is)
