-- Lines on domains put records that fit.
use Rattle.std.proofs.Common.{◌≡◌, ℕ, ◌+◌, ◌<◌, ◌≤◌, ◌^◌, Bool, true, false, ◌||◌, List, Option, Some, Result, Ok, Err, inl, inr, refl, sym, ◌∙◌, subst, ap, arith, true≢false}
use Rattle.std.specs.Prelude.{◌==◌, is_some}
use Rattle.std.proofs.lemmas.Bool.{eqb-true}
use Rattle.ndc_script_types.specs.WellFormed.{IsCluster, IsWellFormedRegister}
use Rattle.ndc_script_types.specs.declared.script.Header.{Header}
use Rattle.ndc_domain.specs.Clusters.{AreClusters, count_of, initial_of, writer_of}
use Rattle.ndc_domain.specs.Flags.{has-where, where_AreMembers}
use Rattle.ndc_domain.specs.Members.{has_member, with_member}
use Rattle.ndc_domain.specs.Next.{next_of}
use Rattle.ndc_domain.specs.Records.{IsRecord, failover_of, join_of, put_record, record_of, register_of, retain_of, retained}
use Rattle.ndc_domain.specs.declared.clusters.ClusterNo.{ClusterNo}
use Rattle.ndc_domain.specs.declared.record.DomainRecord.{DomainRecord}
use Rattle.ndc_domain.specs.declared.record.DomainError.{DomainError}
use Rattle.ndc_domain.specs.declared.record.FailoverError.{FailoverError}
use Rattle.ndc_domain.specs.declared.record.JoinError.{JoinError}
use Rattle.ndc_domain.specs.declared.record.RetainError.{RetainError}
use Rattle.ndc_domain.proofs.CallLaws.{failover_finds, failover_version_tells, join_finds, not_false, one_test, register_tells, retain_finds}
use Rattle.ndc_domain.proofs.Least.{next_is}
use Rattle.ndc_domain.proofs.Tables.{found_has}
use Rattle.ndc_domain.proofs.Unions.{member_below}
use Rattle.ndc_event.specs.declared.name.Name.{Name}
use Rattle.ndc_laws_reached.specs.Tables.{Grew}
use Rattle.ndc_laws_reached.proofs.MergeLemmas.{all-where, member-has, names-more}
use Rattle.ndc_laws_reached.proofs.PutLemmas.{IsRecordFit, lines_pass, put-fits}
use Rattle.ndc_laws_reached.proofs.TableLemmas.{table_put}
use Rattle.ndc_model.proofs.ListLemmas.{all-listed}
use Rattle.ndc_model.specs.Facts.{IsReached}
use Rattle.ndc_model.specs.Fair.{AreMembersKnown, IsConfigKnown, IsRecordInRange, primary}
use Rattle.ndc_model.specs.Tables.{failover_words, join_step, register_words, retain_words, table_step}
use Rattle.ndc_model.specs.World.{World, cluster_at, with_table}

-- a record that fits may be put into a cluster's table
pub put_kept : (header : Header) (lines : ℕ) (w : World) (cluster : ClusterNo) (new : DomainRecord) → IsReached header lines w → IsCluster header cluster → IsRecordFit header lines w cluster new
    → IsReached header lines (with_table cluster (put_record new (cluster_at cluster w).table) w)
put_kept header lines w cluster new is known fit = table_put header lines cluster (put_record new (cluster_at cluster w).table) w is known (put-fits header lines w is cluster known new fit)

-- what is known of a record that is found
record IsFound (header : Header) (lines : ℕ) (w : World) (cluster : ClusterNo) (old : DomainRecord) : Type 0 where
  pub has : record_of (cluster_at cluster w).table old.name ≡ Some old
  pub sound : IsRecord old
  pub range : IsRecordInRange header lines old
  pub members : AreMembersKnown header old
  pub known : IsConfigKnown (cluster_at primary w).table old

found : (header : Header) (lines : ℕ) (w : World) (cluster : ClusterNo) (name : Name) (old : DomainRecord) → IsReached header lines w → IsCluster header cluster → record_of (cluster_at cluster w).table name ≡ Some old
    → IsFound header lines w cluster old × (old.name ≡ name)
found header lines w cluster name old is there e =
    let s = found_has IsRecord (cluster_at cluster w).table name old (is.fair.records.tables cluster there).sound e in (
      record {
        has = ap (record_of (cluster_at cluster w).table) s.1 ∙ e;
        sound = s.0;
        range = (found_has (IsRecordInRange header lines) (cluster_at cluster w).table name old (is.fair.records.ranges cluster there) e).0;
        members = (found_has (AreMembersKnown header) (cluster_at cluster w).table name old (is.fair.members.members cluster there) e).0;
        known = (found_has (IsConfigKnown (cluster_at primary w).table) (cluster_at cluster w).table name old (is.fair.records.known cluster there) e).0;
      },
      s.1,
    )

module _ (header : Header) (lines : ℕ) (w : World) (is : IsReached header lines w) (cluster : ClusterNo) (at_known : IsCluster header cluster) (old : DomainRecord) (f : IsFound header lines w cluster old) where
  -- the record of that name is the one found
  same-old : (other : DomainRecord) → record_of (cluster_at cluster w).table old.name ≡ Some other → old ≡ other
  same-old other e = let same : Some old ≡ Some other = sym f.has ∙ e in cc

  -- a failover
  failover-fits : (target : ClusterNo) (version : ℕ) → old.version ≤ version → version ≤ 10 ^ 13 → writer_of header.clusters version ≡ Some target → has_member old.members target.number ≡ true
      → IsRecordFit header lines w cluster (record old { version = version })
  failover-fits target version later most writer member = record {
    sound = (most, f.sound.1);
    grows = λ other e. subst (λ (r : DomainRecord). Grew r (record old { version = version }) × (r.config ≤ old.config)) (same-old other e) (record { version = later; members = λ n h. h }, omega arith);
    range = record { writer = ap (λ o. is_some o) writer; config_most = f.range.config_most };
    members = record { active = rw writer member; known = f.members.known };
    known = inr (record { found = f.known.found; has = f.known.has; most = f.known.most });
    days = λ other there one e same. is.fair.records.days cluster other at_known there old.name old one f.has e same;
  }

  -- a member more
  join-fits : (member : ClusterNo) → IsCluster header member → IsRecordFit header lines w cluster (record old { members = with_member old.members member.number })
  join-fits member member_known = record {
    sound = (f.sound.0, where_AreMembers _);
    grows = λ other e. subst (λ (r : DomainRecord). Grew r (record old { members = with_member old.members member.number }) × (r.config ≤ old.config)) (same-old other e) (record { version = omega arith; members = more }, omega arith);
    range = record { writer = f.range.writer; config_most = f.range.config_most };
    members = record {
      active = names-more header.clusters old.version old.version old.members (with_member old.members member.number) refl more f.members.active;
      known = all-where (λ number. number < count_of header.clusters) (λ n. has_member old.members n || (member.number == n)) (λ n h. by n (has_member old.members n) refl h);
    };
    known = inr (record { found = f.known.found; has = f.known.has; most = f.known.most });
    days = λ other there one e same. is.fair.records.days cluster other at_known there old.name old one f.has e same;
  }
    where
      more : (number : ℕ) → has_member old.members number ≡ true → has_member (with_member old.members member.number) number ≡ true
      more number h = has-where (λ n. has_member old.members n || (member.number == n)) number (member_below old.members number f.sound.1 h) ∙ ap (λ (t : Bool). t || (member.number == number)) h

      by : (n : ℕ) (t : Bool) → has_member old.members n ≡ t → (t || (member.number == n)) ≡ true → n < count_of header.clusters
      by n true e h = member-has (λ number. number < count_of header.clusters) old.members n f.members.known e
      by n false e h = subst (λ (k : ℕ). k < count_of header.clusters) (eqb-true member.number n h) member_known

  -- other days, at the first cluster
  retain-fits : (days : ℕ) → cluster.number ≡ 0 → old.config + 1 ≤ lines → IsRecordFit header lines w cluster (retained days old)
  retain-fits days at most = record {
    sound = f.sound;
    grows = λ other e. subst (λ (r : DomainRecord). Grew r (retained days old) × (r.config ≤ old.config + 1)) (same-old other e) (record { version = omega arith; members = λ n h. h }, omega arith);
    range = record { writer = f.range.writer; config_most = most };
    members = record { active = f.members.active; known = f.members.known };
    known = inl at;
    days = λ other there one e same. absurd (late other there one e same);
  }
    where
      late : (other : ClusterNo) → IsCluster header other → (one : DomainRecord) → record_of (cluster_at other w).table old.name ≡ Some one → old.config + 1 ≡ one.config → ⊥
      late other there one e same =
          let k = found_has (IsConfigKnown (cluster_at primary w).table) (cluster_at other w).table old.name one (is.fair.records.known other there) e in
          let mine : record_of (cluster_at primary w).table old.name ≡ Some old = ap (λ (n : ℕ). record_of (cluster_at (record { number = n }) w).table old.name) (sym at) ∙ f.has in
          let same_record : Some k.0.found ≡ Some old = sym k.0.has ∙ ap (record_of (cluster_at primary w).table) k.1 ∙ mine in
          let is_old : k.0.found ≡ old = cc in
          let at_most : one.config ≤ old.config = subst (λ (r : DomainRecord). one.config ≤ r.config) is_old k.0.most in
          omega (arith, at_most, same)

-- a cluster may fail a domain over
pub failover_kept : (header : Header) (lines : ℕ) (at target : ClusterNo) (domain : Name) (w : World) → AreClusters header.clusters → IsCluster header at → IsReached header lines w
    → IsReached header lines (table_step failover_words at w (failover_of header.clusters domain target (cluster_at at w).table)).world
failover_kept header lines at target domain w lawful there is = by (failover_of header.clusters domain target (cluster_at at w).table) refl
  where
    by : (r : Result (ℕ × List DomainRecord) FailoverError) → failover_of header.clusters domain target (cluster_at at w).table ≡ r → IsReached header lines (table_step failover_words at w r).world
    by (Err error) e = is
    by (Ok answer) e =
        let told = failover_finds header.clusters target (cluster_at at w).table (record_of (cluster_at at w).table domain) answer e in
        let facts = failover_version_tells header.clusters target told.0 answer.0 told.2 in
        let next = next_is header.clusters told.0.version target lawful facts.0 in
        let f = found header lines w at domain told.0 is there told.1 in
        let later : told.0.version ≤ answer.0 = subst (λ (v : ℕ). told.0.version ≤ v) facts.1 next.0 in
        let writer : writer_of header.clusters answer.0 ≡ Some target = subst (λ (v : ℕ). writer_of header.clusters v ≡ Some target) facts.1 next.1 in
        subst (λ (t : List DomainRecord). IsReached header lines (with_table at t w)) (sym told.3)
        (put_kept header lines w at (record (told.0) { version = answer.0 }) is there (failover-fits header lines w is at there told.0 f.0 target answer.0 later facts.2 writer facts.3))

-- a domain may get a member more
pub join_kept : (header : Header) (lines : ℕ) (at member : ClusterNo) (domain : Name) (w : World) → IsCluster header at → IsCluster header member → IsReached header lines w
    → IsReached header lines (join_step at w (join_of at domain member (cluster_at at w).table)).world
join_kept header lines at member domain w there member_known is = by (join_of at domain member (cluster_at at w).table) refl
  where
    by : (r : Result (List DomainRecord) JoinError) → join_of at domain member (cluster_at at w).table ≡ r → IsReached header lines (join_step at w r).world
    by (Err error) e = is
    by (Ok after) e =
        let told = join_finds member (cluster_at at w).table (record_of (cluster_at at w).table domain) after ((one_test _ _ _ _ e).1) in
        let f = found header lines w at domain told.0 is there told.1 in
        subst (λ (t : List DomainRecord). IsReached header lines (with_table at t w)) told.2
        (put_kept header lines w at (record (told.0) { members = with_member told.0.members member.number }) is there (join-fits header lines w is at there told.0 f.0 member member_known))

-- a domain may get other days
pub retain_kept : (header : Header) (lines : ℕ) (at : ClusterNo) (domain : Name) (days : ℕ) (w : World) → IsCluster header at → lines < 100000 → IsReached header lines w
    → IsReached header (lines + 1) (table_step retain_words at w (retain_of at domain days (cluster_at at w).table)).world
retain_kept header lines at domain days w there below is = by (retain_of at domain days (cluster_at at w).table) refl
  where
    after : IsReached header (lines + 1) w
    after = lines_pass header lines (lines + 1) w (omega arith) (omega (arith, below)) is

    by : (r : Result (ℕ × List DomainRecord) RetainError) → retain_of at domain days (cluster_at at w).table ≡ r → IsReached header (lines + 1) (table_step retain_words at w r).world
    by (Err error) e = after
    by (Ok answer) e =
        let test = one_test _ _ _ _ e in
        let first : at.number ≡ 0 = eqb-true at.number 0 (not_false (at.number == 0) test.0) in
        let told = retain_finds days (cluster_at at w).table (record_of (cluster_at at w).table domain) answer test.1 in
        let f = found header lines w at domain told.0 is there told.1 in
        let g = found header (lines + 1) w at domain told.0 after there told.1 in
        subst (λ (a : ℕ × List DomainRecord). IsReached header (lines + 1) (with_table at a.1 w)) told.2
        (put_kept header (lines + 1) w at (retained days told.0) after there (retain-fits header (lines + 1) w after at there told.0 g.0 days first (omega (arith, f.0.range.config_most))))

-- a domain that the first cluster has not may be registered there
pub register_kept : (header : Header) (lines : ℕ) (at target : ClusterNo) (domain : Name) (days : ℕ) (members : List ℕ) (w : World) → AreClusters header.clusters → IsWellFormedRegister header at target domain days members
    → IsReached header lines w → IsReached header lines (table_step register_words at w (register_of header.clusters at domain target days members (cluster_at at w).table)).world
register_kept header lines at target domain days members w lawful shaped is = by (register_of header.clusters at domain target days members table) refl
  where
    table : List DomainRecord
    table = (cluster_at at w).table

    new : DomainRecord
    new = record { name = domain; version = next_of header.clusters 0 target; config = 0; days = days; members = members }

    none : is_some (record_of table domain) ≡ false → (one : DomainRecord) → record_of table domain ≡ Some one → ⊥
    none test one e = true≢false (sym (ap (λ (o : Option DomainRecord). is_some o) e) ∙ test)

    nowhere : at.number ≡ 0 → is_some (record_of table domain) ≡ false → (other : ClusterNo) → IsCluster header other → (one : DomainRecord) → record_of (cluster_at other w).table domain ≡ Some one → ⊥
    nowhere first test other there one e =
        let k = found_has (IsConfigKnown (cluster_at primary w).table) (cluster_at other w).table domain one (is.fair.records.known other there) e in
        none test k.0.found (ap (λ (n : ℕ). record_of (cluster_at (record { number = n }) w).table domain) first ∙ ap (record_of (cluster_at primary w).table) (sym k.1) ∙ k.0.has)

    fits : at.number ≡ 0 → is_some (record_of table domain) ≡ false → target.number < count_of header.clusters → has_member members target.number ≡ true → IsRecordFit header lines w at new
    fits first test below member =
        let writer : writer_of header.clusters new.version ≡ Some target = (next_is header.clusters 0 target lawful below).1 in
        let initial : initial_of header.clusters target < header.clusters.increment = lawful.initials_below target.number below in
        let increment : header.clusters.increment ≤ 10 ^ 12 = lawful.increment_most in
        let most : next_of header.clusters 0 target ≤ 10 ^ 13 = grind arith in
        record {
          sound = (most, shaped.ascending);
          grows = λ old e. absurd (none test old e);
          range = record { writer = ap (λ (o : Option ClusterNo). is_some o) writer; config_most = omega arith };
          members = record { active = rw writer member; known = all-listed (λ number. number < count_of header.clusters) members shaped.members_below };
          known = inl first;
          days = λ other there one e same. absurd (nowhere first test other there one e);
        }

    by : (r : Result (ℕ × List DomainRecord) DomainError) → register_of header.clusters at domain target days members table ≡ r → IsReached header lines (table_step register_words at w r).world
    by (Err error) e = is
    by (Ok answer) e =
        let one = one_test _ _ _ _ e in
        let two = one_test _ _ _ _ one.1 in
        let told = register_tells header.clusters at domain target days members table answer e in
        subst (λ (a : ℕ × List DomainRecord). IsReached header lines (with_table at a.1 w)) told.2
        (put_kept header lines w at new is shaped.at_below (fits (eqb-true at.number 0 (not_false (at.number == 0) one.0)) two.0 told.0 told.1))
