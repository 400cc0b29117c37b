-- Two tables merged are a table that fits.
use Rattle.std.proofs.Common.{◌≡◌, ℕ, ◌<◌, ◌≤◌, max, Bool, true, false, cond, if◌then◌else◌, ◌||◌, List, [], ◌∷◌, slice_index_or, Option, Some, None, IsSomeAnd, IsTrue, inl, inr, refl, sym, ◌∙◌, subst, ap, arith, true≢false}
use Rattle.std.specs.Prelude.{◌==◌, is_some, nat_lt, option_to_list}
use Rattle.std.specs.List.{AllByRecursion, filter}
use Rattle.std.specs.Str.{bytes_eq}
use Rattle.std.proofs.lemmas.Slice.Eq.{bytes_eq-Decides}
use Rattle.std.proofs.lemmas.Bool.{cases_lt, eqb-true, le-ltb, lt-ltb}
use Rattle.ndc_script_types.specs.WellFormed.{IsCluster}
use Rattle.ndc_script_types.specs.declared.script.Header.{Header}
use Rattle.ndc_domain.specs.Clusters.{ClusterList, count_of, writer_of}
use Rattle.ndc_domain.specs.Laws.{DaysAgree, Keeps, NamesActive}
use Rattle.ndc_domain.specs.Flags.{where_AreMembers}
use Rattle.ndc_domain.specs.Members.{AreMembers, has_member, numbers, numbers_where, union_of}
use Rattle.ndc_domain.specs.Merge.{merged, merged_behind, merged_option, merged_record}
use Rattle.ndc_domain.specs.Records.{IsRecord, IsTable, only_of, record_of}
use Rattle.ndc_domain.specs.declared.clusters.ClusterNo.{ClusterNo}
use Rattle.ndc_domain.specs.declared.record.DomainRecord.{DomainRecord}
use Rattle.ndc_domain.proofs.BothTables.{All-merged, IsTable-merged, merge_cases, record_of-merged}
use Rattle.ndc_domain.proofs.MergeLaws.{merge_keeps_ours}
use Rattle.ndc_domain.proofs.Order.{names_equal}
use Rattle.ndc_domain.proofs.Tables.{found_has}
use Rattle.ndc_domain.proofs.Unions.{union_has_ours, union_has_theirs}
use Rattle.ndc_event.specs.declared.name.Name.{Name}
use Rattle.ndc_laws_reached.specs.Tables.{IsTableFit}
use Rattle.ndc_laws_reached.proofs.TableLemmas.{table_put}
use Rattle.ndc_model.specs.Facts.{IsReached}
use Rattle.ndc_model.specs.Fair.{AreMembersKnown, IsConfigKnown, IsRecordInRange, primary}
use Rattle.ndc_model.specs.Tables.{domains_step}
use Rattle.ndc_model.specs.World.{Cluster, World, cluster_at, new_cluster, with_table}
use Rattle.ndc_model.proofs.ListLemmas.{all-weaker, filter-passes, some-and}
use Rattle.ndc_model.proofs.WorldLemmas.{set-cases}

-- what holds of each record of both tables, and of the record made of two of one name, holds of the merged table
module _ (P : DomainRecord → Type 0) (join : (one two : DomainRecord) → one.name ≡ two.name → P one → P two → P (merged_record one two)) where
  named-behind : (first : DomainRecord) (rest : List DomainRecord → List DomainRecord) → P first → ((others : List DomainRecord) → AllByRecursion P others → AllByRecursion P (rest others))
      → (others : List DomainRecord) → AllByRecursion P others → AllByRecursion P (merged_behind first rest others)
  named-behind first rest p further [] all = (p, further [] tt)
  named-behind first rest p further (other ∷ others) all =
      merge_cases (AllByRecursion P) first rest other others
      (λ e. (p, further (other ∷ others) all))
      (λ e. (join first other (names_equal first.name other.name e) p all.0, further others all.1))
      (λ e. (all.0, named-behind first rest p further others all.1))

  named-merged : (records others : List DomainRecord) → AllByRecursion P records → AllByRecursion P others → AllByRecursion P (merged records others)
  named-merged [] others ours theirs = theirs
  named-merged (first ∷ records) others ours theirs = named-behind first (merged records) ours.0 (λ os all. named-merged records os ours.1 all) others theirs

-- what follows from two facts on each
all-both : {X : Type 0} (P Q R : X → Type 0) → ((x : X) → P x → Q x → R x) → (xs : List X) → AllByRecursion P xs → AllByRecursion Q xs → AllByRecursion R xs
all-both P Q R both [] p q = tt
all-both P Q R both (x ∷ xs) p q = (both x p.0 q.0, all-both P Q R both xs p.1 q.1)

-- what passes a test has what all have that pass it
pub all-where : (P : ℕ → Type 0) (test : ℕ → Bool) → ((n : ℕ) → test n ≡ true → P n) → AllByRecursion P (numbers_where test)
unfolding numbers_where
all-where P test passes = all-weaker (λ n. test n ≡ true) P passes (filter test numbers) (filter-passes test numbers)

-- a number among members has what they all have
pub member-has : (P : ℕ → Type 0) (members : List ℕ) (n : ℕ) → AllByRecursion P members → has_member members n ≡ true → P n
member-has P [] n all h = absurd (true≢false (sym h))
member-has P (member ∷ members) n all h = by (member == n) refl h (member-has P members n all.1)
  where
    by : (t : Bool) → (member == n) ≡ t → (t || has_member members n) ≡ true → (has_member members n ≡ true → P n) → P n
    by true e h rest = subst P (eqb-true member n e) all.0
    by false e h rest = rest h

union-has : (P : ℕ → Type 0) (ours theirs : List ℕ) → AllByRecursion P ours → AllByRecursion P theirs → AllByRecursion P (union_of ours theirs)
union-has P ours theirs p q = all-where P (λ n. has_member ours n || has_member theirs n) (λ n h. by n (has_member ours n) refl h)
  where
    by : (n : ℕ) (t : Bool) → has_member ours n ≡ t → (t || has_member theirs n) ≡ true → P n
    by n true e h = member-has P ours n p e
    by n false e h = member-has P theirs n q h

-- members in order, that the header knows
abbrev AreWell : Header → DomainRecord → Type 0
AreWell header one = AreMembers one.members × AreMembersKnown header one

-- where a version's writer is one of some members, it is one of more
pub names-more : (clusters : ClusterList) (version more_version : ℕ) (members more : List ℕ) → more_version ≡ version → ((k : ℕ) → has_member members k ≡ true → has_member more k ≡ true)
    → IsSomeAnd (writer_of clusters version) (λ active. IsTrue (has_member members active.number)) → IsSomeAnd (writer_of clusters more_version) (λ active. IsTrue (has_member more active.number))
names-more clusters version more_version members more e grows h =
    let k = some-and (λ active. IsTrue (has_member members active.number)) (writer_of clusters version) h in
    subst (λ (o : Option ClusterNo). IsSomeAnd o (λ active. IsTrue (has_member more active.number))) (sym (ap (writer_of clusters) e ∙ k.1)) (grows k.0.number k.2)

-- two records with such members make one
well-merged : (header : Header) (one two : DomainRecord) → AreWell header one → AreWell header two → AreWell header (merged_record one two)
well-merged header one two p q = (
  where_AreMembers (λ k. has_member one.members k || has_member two.members k),
  record {
    active = elim (cases_lt one.version two.version) as (λ _. NamesActive header.clusters (merged_record one two)) [
      | inl l ↦ names-more header.clusters two.version (max one.version two.version) two.members (union_of one.members two.members) (omega (arith, l)) (λ k h. union_has_theirs one.members two.members k q.0 h) q.1.active
      | inr g ↦ names-more header.clusters one.version (max one.version two.version) one.members (union_of one.members two.members) (omega (arith, g)) (λ k h. union_has_ours one.members two.members k p.0 h) p.1.active
    ];
    known = union-has (λ number. number < count_of header.clusters) one.members two.members p.1.known q.1.known;
  },
)

-- records in range make one in range
range-merged : (header : Header) (lines : ℕ) (one two : DomainRecord) → IsRecordInRange header lines one → IsRecordInRange header lines two → IsRecordInRange header lines (merged_record one two)
range-merged header lines one two p q = record {
  writer = elim (cases_lt one.version two.version) as (λ _. is_some (writer_of header.clusters (max one.version two.version)) ≡ true) [
    | inl l ↦ let e : max one.version two.version ≡ two.version = omega (arith, l) in ap (λ (n : ℕ). is_some (writer_of header.clusters n)) e ∙ q.writer
    | inr g ↦ let e : max one.version two.version ≡ one.version = omega (arith, g) in ap (λ (n : ℕ). is_some (writer_of header.clusters n)) e ∙ p.writer
  ];
  config_most = omega (arith, p.config_most, q.config_most);
}

-- the config versions of two records that a table knows, in one
config-merged : (table : List DomainRecord) (one two : DomainRecord) → one.name ≡ two.name → IsConfigKnown table one → IsConfigKnown table two → IsConfigKnown table (merged_record one two)
config-merged table one two same p q =
    let e : Some p.found ≡ Some q.found = sym p.has ∙ ap (record_of table) same ∙ q.has in
    let f : p.found ≡ q.found = cc in
    let second : two.config ≤ p.found.config = subst (λ (r : DomainRecord). two.config ≤ r.config) (sym f) q.most in
    record { found = p.found; has = p.has; most = omega (arith, p.most, second) }

-- the days of two records are those of a third, where each one's are
days-merged : (one two other : DomainRecord) → (one.config ≡ other.config → one.days ≡ other.days) → (two.config ≡ other.config → two.days ≡ other.days)
    → max one.config two.config ≡ other.config → (if nat_lt one.config two.config then two.days else one.days) ≡ other.days
days-merged one two other p q e =
    elim (cases_lt one.config two.config) as (λ _. (if nat_lt one.config two.config then two.days else one.days) ≡ other.days) [
      | inl l ↦ ap (λ (t : Bool). if t then two.days else one.days) (lt-ltb one.config two.config l) ∙ q (omega (arith, l, e))
      | inr g ↦ ap (λ (t : Bool). if t then two.days else one.days) (le-ltb one.config two.config g) ∙ p (omega (arith, g, e))
    ]

-- two tables whose days agree with a third agree with it when merged
agree-merged : (ours theirs third : List DomainRecord) → IsTable ours → IsTable theirs → DaysAgree ours third → DaysAgree theirs third → DaysAgree (merged ours theirs) third
agree-merged ours theirs third table others p q name one other found there = by (record_of ours name) (record_of theirs name) refl refl (sym (record_of-merged ours theirs name table.ordered others.ordered) ∙ found)
  where
    by : (a b : Option DomainRecord) → record_of ours name ≡ a → record_of theirs name ≡ b → merged_option a b ≡ Some one → one.config ≡ other.config → one.days ≡ other.days
    by None b e f m = q name one other (f ∙ m) there
    by (Some a) None e f m = p name one other (e ∙ m) there
    by (Some a) (Some b) e f m =
        let same : merged_record a b ≡ one = cc in
        subst (λ (r : DomainRecord). r.config ≡ other.config → r.days ≡ other.days) same
        (days-merged a b other (p name a other e there) (q name b other f there))

-- a table that a cluster may merge
pub record IsOffered (header : Header) (lines : ℕ) (w : World) (table : List DomainRecord) : Type 0 where
  pub is_table : IsTable table
  pub ranges : AllByRecursion (IsRecordInRange header lines) table
  pub members : AllByRecursion (AreMembersKnown header) table
  pub known : AllByRecursion (IsConfigKnown (cluster_at primary w).table) table
  pub days : (other : ClusterNo) → IsCluster header other → DaysAgree table (cluster_at other w).table

-- such is the table of each cluster
pub table-offered : (header : Header) (lines : ℕ) (w : World) (from : ClusterNo) → IsReached header lines w → IsCluster header from → IsOffered header lines w (cluster_at from w).table
table-offered header lines w from is there = record {
  is_table = is.fair.records.tables from there;
  ranges = is.fair.records.ranges from there;
  members = is.fair.members.members from there;
  known = is.fair.records.known from there;
  days = λ other known. is.fair.records.days from other there known;
}

-- and so is one record of it alone
pub only-offered : (header : Header) (lines : ℕ) (w : World) (table : List DomainRecord) (domain : Name) → IsOffered header lines w table → IsOffered header lines w (only_of table domain)
only-offered header lines w table domain offered = by (record_of table domain) refl
  where
    by : (o : Option DomainRecord) → record_of table domain ≡ o → IsOffered header lines w (option_to_list o)
    by None e = record { is_table = record { ordered = tt; sound = tt }; ranges = tt; members = tt; known = tt; days = λ other there name ours theirs found other_found. absurd (cc) }
    by (Some one) e =
        let s = found_has IsRecord table domain one offered.is_table.sound e in
        record {
          is_table = record { ordered = (tt, tt); sound = (s.0, tt) };
          ranges = ((found_has (IsRecordInRange header lines) table domain one offered.ranges e).0, tt);
          members = ((found_has (AreMembersKnown header) table domain one offered.members e).0, tt);
          known = ((found_has (IsConfigKnown (cluster_at primary w).table) table domain one offered.known e).0, tt);
          days = λ other there name ours theirs found other_found. agree other there s.1 name ours theirs other_found (bytes_eq one.name name) refl found;
        }
      where
        agree : (other : ClusterNo) → IsCluster header other → one.name ≡ domain → (name : List ℕ) (ours theirs : DomainRecord) → record_of (cluster_at other w).table name ≡ Some theirs → (t : Bool) → bytes_eq one.name name ≡ t
            → cond t (Some one) None ≡ Some ours → ours.config ≡ theirs.config → ours.days ≡ theirs.days
        agree other there named name ours theirs other_found true at found =
            let same : one ≡ ours = cc in
            let alike : one.name ≡ name = (bytes_eq-Decides one.name name).0 at in
            subst (λ (r : DomainRecord). r.config ≡ theirs.config → r.days ≡ theirs.days) same
            (offered.days other there name one theirs (ap (record_of table) (sym alike ∙ named) ∙ e) other_found)
        agree other there named name ours theirs other_found false at found = absurd (cc)

module _ (header : Header) (lines : ℕ) (w : World) (is : IsReached header lines w) (to : ClusterNo) (to_known : IsCluster header to) (theirs : List DomainRecord) (offered : IsOffered header lines w theirs) where
  abbrev ours : List DomainRecord
  ours = (cluster_at to w).table

  abbrev first : List DomainRecord
  first = (cluster_at primary w).table

  ours-table : IsTable ours
  ours-table = is.fair.records.tables to to_known

  abbrev theirs-table : IsTable theirs
  theirs-table = offered.is_table

  members-merged : AllByRecursion (AreMembersKnown header) (merged ours theirs)
  members-merged =
      all-weaker (AreWell header) (AreMembersKnown header) (λ one h. h.1) (merged ours theirs)
      (All-merged (AreWell header) (well-merged header) ours theirs
      (all-both IsRecord (AreMembersKnown header) (AreWell header) (λ one a b. (a.1, b)) ours ours-table.sound (is.fair.members.members to to_known))
      (all-both IsRecord (AreMembersKnown header) (AreWell header) (λ one a b. (a.1, b)) theirs theirs-table.sound offered.members))

  -- what the first cluster knows it still knows
  known-after : (one : DomainRecord) → IsConfigKnown first one → IsConfigKnown (cluster_at primary (with_table to (merged ours theirs) w)).table one
  unfolding with_table
  known-after one known =
      set-cases (λ (c : Cluster). IsConfigKnown c.table one) w.clusters to.number primary.number _ (new_cluster 0)
      (λ at. let mine : record_of ours one.name ≡ Some known.found = ap (λ (n : ℕ). record_of (slice_index_or w.clusters n (new_cluster 0)).table one.name) (sym at) ∙ known.has in
      let k = some-and (Keeps known.found) (record_of (merged ours theirs) one.name) (merge_keeps_ours ours theirs one.name known.found ours-table theirs-table mine) in
      record { found = k.0; has = k.1; most = omega (arith, known.most, k.2.config) })
      known

  known-merged : (other : ClusterNo) → IsCluster header other → AllByRecursion (IsConfigKnown (cluster_at primary (with_table to (merged ours theirs) w)).table) (cluster_at other (with_table to (merged ours theirs) w)).table
  unfolding with_table
  known-merged other there =
      set-cases (λ (c : Cluster). AllByRecursion (IsConfigKnown (cluster_at primary (with_table to (merged ours theirs) w)).table) c.table) w.clusters to.number other.number _ (new_cluster 0)
      (λ at. all-weaker (IsConfigKnown first) (IsConfigKnown (cluster_at primary (with_table to (merged ours theirs) w)).table) known-after (merged ours theirs)
      (named-merged (IsConfigKnown first) (config-merged first) ours theirs (is.fair.records.known to to_known) offered.known))
      (all-weaker (IsConfigKnown first) (IsConfigKnown (cluster_at primary (with_table to (merged ours theirs) w)).table) known-after (cluster_at other w).table (is.fair.records.known other there))

  pub merged-fits : IsTableFit header lines w to (merged ours theirs)
  merged-fits = record {
    is_table = IsTable-merged ours theirs ours-table theirs-table;
    grows = λ domain old e. let k = some-and (Keeps old) (record_of (merged ours theirs) domain) (merge_keeps_ours ours theirs domain old ours-table theirs-table e) in
        (k.0, k.1, record { version = k.2.version; members = k.2.members });
    ranges = All-merged (IsRecordInRange header lines) (range-merged header lines) ours theirs (is.fair.records.ranges to to_known) offered.ranges;
    members = members-merged;
    known = known-merged;
    days = λ other there. agree-merged ours theirs (cluster_at other w).table ours-table theirs-table (is.fair.records.days to other to_known there) (offered.days other there);
  }

-- a cluster may merge such a table
pub merged_kept : (header : Header) (lines : ℕ) (to : ClusterNo) (theirs : List DomainRecord) (w : World) → IsCluster header to → IsOffered header lines w theirs → IsReached header lines w
    → IsReached header lines (with_table to (merged (cluster_at to w).table theirs) w)
merged_kept header lines to theirs w to_known offered is = table_put header lines to (merged (cluster_at to w).table theirs) w is to_known (merged-fits header lines w is to to_known theirs offered)

-- one cluster may merge the table of another
pub domains_kept : (header : Header) (lines : ℕ) (to from : ClusterNo) (w : World) → IsCluster header to → IsCluster header from → IsReached header lines w
    → IsReached header lines (domains_step to from w).world
domains_kept header lines to from w to_known from_known is = merged_kept header lines to (cluster_at from w).table w to_known (table-offered header lines w from is from_known) is
