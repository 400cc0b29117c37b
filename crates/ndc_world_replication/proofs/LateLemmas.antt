-- Who comes to be a member late where one record is put into a table, and where a table is merged.
use Rattle.std.proofs.Common.{◌≡◌, ℕ, ◌<◌, Bool, true, false, [], ◌∷◌, List, ◌++◌, Option, Some, None, not, ◌&&◌, ◌||◌, ◌==◌, map, refl, ap, sym, subst, ◌∙◌, if◌then◌else◌, eq-eqb, ne_eqb, inl, inr, arith}
use Rattle.std.specs.Prelude.{Result, Ok, Err, OnOk}
use Rattle.std.specs.List.{AllByRecursion}
use Rattle.std.specs.Str.{bytes_eq}
use Rattle.std.proofs.lemmas.Bool.{cases_lt, eqb-true}
use Rattle.std.proofs.lemmas.List.{append-nil}
use Rattle.std.proofs.lemmas.Slice.Eq.{bytes_eq-Decides}
use Rattle.ndc_domain.proofs.BothTables.{later_absent, record_of-merged}
use Rattle.ndc_domain.proofs.CallLaws.{record_of-put}
use Rattle.ndc_domain.proofs.Tables.{found_has}
use Rattle.ndc_domain.proofs.Unions.{has-union}
use Rattle.ndc_domain.specs.Flags.{has-where, has-where_past}
use Rattle.ndc_domain.specs.Members.{AreMembers, has_member, union_of, with_member}
use Rattle.ndc_domain.specs.Merge.{merged, merged_option}
use Rattle.ndc_domain.specs.Records.{AllLater, IsRecord, IsTable, Rise, put_record, record_of}
use Rattle.ndc_domain.specs.declared.clusters.ClusterNo.{ClusterNo}
use Rattle.ndc_domain.specs.declared.record.DomainRecord.{DomainRecord}
use Rattle.ndc_event.specs.declared.name.Name.{Name}
use Rattle.ndc_model_cells.specs.Writing.{same_cluster}
use Rattle.ndc_model.specs.Queues.{names_cluster}
use Rattle.ndc_model.specs.World.{Link, newly_naming, with_late}
use Rattle.ndc_world_replication.proofs.TableLemmas.{found_each}
use Rattle.ndc_world_replication.specs.Tables.{with_late_domain}

-- whether a record comes to name a reader
abbrev comes : ClusterNo → List DomainRecord → DomainRecord → Bool
comes reader after one = not (names_cluster reader (Some one)) && names_cluster reader (record_of after one.name)

-- no record comes to name the reader
none-comes : (reader : ClusterNo) (before after : List DomainRecord) → AllByRecursion (λ one. comes reader after one ≡ false) before → newly_naming reader before after ≡ []
none-comes reader [] after all = refl
none-comes reader (one ∷ before) after all =
    ap (λ (t : Bool). if t then one.name ∷ newly_naming reader before after else newly_naming reader before after) all.0 ∙ none-comes reader before after all.1

-- the readers that come to be named are the same by another table, where each record names the same in both
same-come : (reader : ClusterNo) (before one two : List DomainRecord) → AllByRecursion (λ r. comes reader one r ≡ comes reader two r) before → newly_naming reader before one ≡ newly_naming reader before two
same-come reader [] one two all = refl
same-come reader (r ∷ before) one two all =
    ap (λ (t : Bool). if t then r.name ∷ newly_naming reader before one else newly_naming reader before one) all.0
    ∙ ap (λ (names : List Name). if comes reader two r then r.name ∷ names else names) (same-come reader before one two all.1)

-- a test that was true before does not come true
not-new : (t u : Bool) → (u ≡ true → t ≡ true) → (not t && u) ≡ false
not-new true u so = refl
not-new false true so = sym (so refl)
not-new false false so = refl

module _ (reader : ClusterNo) (before : List DomainRecord) (new : DomainRecord) where
  abbrev Stays : Type 0
  Stays = (old : DomainRecord) → record_of before new.name ≡ Some old → has_member new.members reader.number ≡ true → has_member old.members reader.number ≡ true

  -- a record that is found before the new one is put does not come to name the reader
  quiet-one : Stays → (one : DomainRecord) → record_of before one.name ≡ Some one → comes reader (put_record new before) one ≡ false
  quiet-one stays one found = by (bytes_eq new.name one.name) refl
    where
      by : (t : Bool) → bytes_eq new.name one.name ≡ t → comes reader (put_record new before) one ≡ false
      by true same =
          let name : new.name ≡ one.name = (bytes_eq-Decides new.name one.name).0 same in
          let there : record_of (put_record new before) one.name ≡ Some new =
          record_of-put new before one.name ∙ ap (λ (t : Bool). if t then Some new else record_of before one.name) same in
          ap (λ (o : Option DomainRecord). not (names_cluster reader (Some one)) && names_cluster reader o) there
          ∙ not-new (has_member one.members reader.number) (has_member new.members reader.number) (stays one (ap (record_of before) name ∙ found))
      by false apart =
          let there : record_of (put_record new before) one.name ≡ Some one =
          record_of-put new before one.name ∙ ap (λ (t : Bool). if t then Some new else record_of before one.name) apart ∙ found in
          ap (λ (o : Option DomainRecord). not (names_cluster reader (Some one)) && names_cluster reader o) there
          ∙ not-new (has_member one.members reader.number) (has_member one.members reader.number) (λ e. e)

  quiet-each : Stays → (list : List DomainRecord) → AllByRecursion (λ (one : DomainRecord). record_of before one.name ≡ Some one) list → AllByRecursion (λ one. comes reader (put_record new before) one ≡ false) list
  quiet-each stays [] all = tt
  quiet-each stays (one ∷ list) all = (quiet-one stays one all.0, quiet-each stays list all.1)

  -- nobody comes to be named where the new record names no more than the old one
  quiet-put : Rise before → Stays → newly_naming reader before (put_record new before) ≡ []
  quiet-put rise stays = none-comes reader before (put_record new before) (quiet-each stays before (found_each before rise))

-- so no link changes
pub quiet_links : (source : ClusterNo) (before : List DomainRecord) (new : DomainRecord) → Rise before
    → ((reader : ClusterNo) (old : DomainRecord) → record_of before new.name ≡ Some old → has_member new.members reader.number ≡ true → has_member old.members reader.number ≡ true)
    → (links : List Link) → links ≡ map (with_late source before (put_record new before)) links
quiet_links source before new rise stays [] = refl
quiet_links source before new rise stays (link ∷ links) =
    ap (λ (l : Link). l ∷ links) (by (same_cluster link.source source) refl)
    ∙ ap (λ (ls : List Link). with_late source before (put_record new before) link ∷ ls) (quiet_links source before new rise stays links)
  where
    by : (t : Bool) → same_cluster link.source source ≡ t → link ≡ with_late source before (put_record new before) link
    by true own =
        rw own (sym (ap (λ (names : List Name). record link { late = link.late ++ names }) (quiet-put link.reader before new rise (stays link.reader)) ∙ ap (λ (names : List Name). record link { late = names }) (append-nil link.late)))
    by false other = rw other refl

-- a member more is the only one that comes to be named

-- whether a number is a member where one is added
has-with : (members : List ℕ) (added k : ℕ) → AreMembers members → added < 8 → has_member (with_member members added) k ≡ (has_member members k || (added == k))
has-with members added k are below = elim (cases_lt k 8) as (λ _. has_member (with_member members added) k ≡ (has_member members k || (added == k))) [
  | inl l ↦ has-where (λ n. has_member members n || (added == n)) k l
  | inr past ↦
      let none : has_member members k ≡ false = ap (λ (ms : List ℕ). has_member ms k) are ∙ has-where_past (has_member members) k past in
      has-where_past (λ n. has_member members n || (added == n)) k past
      ∙ sym (ap (λ (t : Bool). t || (added == k)) none ∙ ne_eqb added k (λ same. absurd (omega (arith, below, past, same))))
]

module _ (reader : ClusterNo) (before : List DomainRecord) (old : DomainRecord) (are : AreMembers old.members) (below : reader.number < 8)
    (own : has_member old.members reader.number ≡ false) where
  abbrev joined : DomainRecord
  joined = record old { members = with_member old.members reader.number }

  abbrev after : List DomainRecord
  after = put_record joined before

  -- the record of another name does not come to name the reader
  other-one : (one : DomainRecord) → record_of before one.name ≡ Some one → bytes_eq old.name one.name ≡ false → comes reader after one ≡ false
  other-one one found apart =
      let there : record_of after one.name ≡ Some one =
      record_of-put joined before one.name ∙ ap (λ (t : Bool). if t then Some joined else record_of before one.name) apart ∙ found in
      ap (λ (o : Option DomainRecord). not (names_cluster reader (Some one)) && names_cluster reader o) there
      ∙ not-new (has_member one.members reader.number) (has_member one.members reader.number) (λ e. e)

  -- the record itself does
  this-one : comes reader after old ≡ true
  this-one =
      let there : record_of after old.name ≡ Some joined =
      record_of-put joined before old.name ∙ ap (λ (t : Bool). if t then Some joined else record_of before old.name) ((bytes_eq-Decides old.name old.name).1 refl) in
      let has : has_member (with_member old.members reader.number) reader.number ≡ true =
      has-with old.members reader.number reader.number are below ∙ ap (λ (t : Bool). t || (reader.number == reader.number)) own ∙ eq-eqb reader.number reader.number refl in
      ap (λ (o : Option DomainRecord). not (has_member old.members reader.number) && names_cluster reader o) there
      ∙ ap (λ (t : Bool). not t && has_member (with_member old.members reader.number) reader.number) own ∙ has

  -- records of other names, all of them
  none-there : (part : List DomainRecord) → AllByRecursion (λ (one : DomainRecord). record_of before one.name ≡ Some one) part → record_of part old.name ≡ None → newly_naming reader part after ≡ []
  none-there [] all none = refl
  none-there (one ∷ part) all none = by (bytes_eq one.name old.name) refl (none-there part all.1)
    where
      by : (t : Bool) → bytes_eq one.name old.name ≡ t → (record_of part old.name ≡ None → newly_naming reader part after ≡ []) → newly_naming reader (one ∷ part) after ≡ []
      by true same rest = let clash : Some one ≡ None = sym (ap (λ (t : Bool). if t then Some one else record_of part old.name) same) ∙ none in absurd (cc)
      by false apart rest =
          ap (λ (t : Bool). if t then one.name ∷ newly_naming reader part after else newly_naming reader part after)
          (other-one one all.0 (flip (bytes_eq old.name one.name) refl))
          ∙ rest (sym (ap (λ (t : Bool). if t then Some one else record_of part old.name) apart) ∙ none)
        where
          flip : (t : Bool) → bytes_eq old.name one.name ≡ t → bytes_eq old.name one.name ≡ false
          flip true same = let clash : false ≡ true = sym apart ∙ (bytes_eq-Decides one.name old.name).1 (sym ((bytes_eq-Decides old.name one.name).0 same)) in absurd (cc)
          flip false e = e

  -- the record among others
  one-there : (part : List DomainRecord) → Rise part → AllByRecursion (λ (one : DomainRecord). record_of before one.name ≡ Some one) part → record_of part old.name ≡ Some old → newly_naming reader part after ≡ old.name ∷ []
  one-there [] rise all found = absurd (cc)
  one-there (one ∷ part) rise all found = by (bytes_eq one.name old.name) refl (one-there part rise.1 all.1)
    where
      by : (t : Bool) → bytes_eq one.name old.name ≡ t → (record_of part old.name ≡ Some old → newly_naming reader part after ≡ old.name ∷ []) → newly_naming reader (one ∷ part) after ≡ old.name ∷ []
      by true same more =
          let head : Some one ≡ Some old = sym (ap (λ (t : Bool). if t then Some one else record_of part old.name) same) ∙ found in
          let is : one ≡ old = cc in
          let rest : record_of part old.name ≡ None = later_absent part old.name (subst (λ (r : DomainRecord). AllLater r.name part) is rise.0) in
          ap (λ (r : DomainRecord). if comes reader after r then r.name ∷ newly_naming reader part after else newly_naming reader part after) is
          ∙ ap (λ (t : Bool). if t then old.name ∷ newly_naming reader part after else newly_naming reader part after) this-one
          ∙ ap (λ (names : List Name). old.name ∷ names) (none-there part all.1 rest)
      by false apart more =
          ap (λ (t : Bool). if t then one.name ∷ newly_naming reader part after else newly_naming reader part after)
          (other-one one all.0 (flip (bytes_eq old.name one.name) refl))
          ∙ more (sym (ap (λ (t : Bool). if t then Some one else record_of part old.name) apart) ∙ found)
        where
          flip : (t : Bool) → bytes_eq old.name one.name ≡ t → bytes_eq old.name one.name ≡ false
          flip true same = let clash : false ≡ true = sym apart ∙ (bytes_eq-Decides one.name old.name).1 (sym ((bytes_eq-Decides old.name one.name).0 same)) in absurd (cc)
          flip false e = e

  one-comes : Rise before → record_of before old.name ≡ Some old → newly_naming reader before after ≡ old.name ∷ []
  one-comes rise found = one-there before rise (found_each before rise) found

-- where a member joins, it alone comes late, over the links of the source
module _ (source member : ClusterNo) (before : List DomainRecord) (old : DomainRecord) (are : AreMembers old.members) (below : member.number < 8)
    (own : has_member old.members member.number ≡ false) (rise : Rise before) (found : record_of before old.name ≡ Some old) where
  abbrev after-join : List DomainRecord
  after-join = put_record (record old { members = with_member old.members member.number }) before

  -- another reader does not come to be named
  others-stay : (reader : ClusterNo) → (reader.number == member.number) ≡ false → newly_naming reader before after-join ≡ []
  others-stay reader apart =
      quiet-put reader before (record old { members = with_member old.members member.number }) rise
      (λ other there has.
      let same : Some old ≡ Some other = sym found ∙ there in
      let is : old ≡ other = cc in
      subst (λ (r : DomainRecord). has_member r.members reader.number ≡ true) is
      (only (has_member old.members reader.number) (sym (has-with old.members member.number reader.number are below) ∙ has)))
    where
      turned : (member.number == reader.number) ≡ false
      turned = ne_eqb member.number reader.number (λ same. let clash : false ≡ true = sym apart ∙ eq-eqb reader.number member.number (sym same) in absurd (cc))

      only : (t : Bool) → (t || (member.number == reader.number)) ≡ true → t ≡ true
      only true e = refl
      only false e = let clash : false ≡ true = sym turned ∙ e in absurd (cc)

  late-joined : (link : Link) → with_late_domain member source old.name link ≡ with_late source before after-join link
  late-joined link = by (link.reader.number == member.number) (link.source.number == source.number) refl refl
    where
      by : (t u : Bool) → (link.reader.number == member.number) ≡ t → (link.source.number == source.number) ≡ u → with_late_domain member source old.name link ≡ with_late source before after-join link
      by t false e f =
          ap (λ (b : Bool). if (link.reader.number == member.number) && b then record link { late = link.late ++ old.name ∷ [] } else link) f
          ∙ ap (λ (b : Bool). if b then record link { late = link.late ++ old.name ∷ [] } else link) (and-false (link.reader.number == member.number))
          ∙ sym (ap (λ (b : Bool). if b then record link { late = link.late ++ newly_naming link.reader before after-join } else link) f)
        where
          and-false : (b : Bool) → (b && false) ≡ false
          and-false true = refl
          and-false false = refl
      by true true e f =
          let reader : link.reader ≡ member = same_number link.reader member e in
          ap (λ (b : Bool). if b then record link { late = link.late ++ old.name ∷ [] } else link) (ap (λ (b : Bool). b && (link.source.number == source.number)) e ∙ f)
          ∙ ap (λ (names : List Name). record link { late = link.late ++ names }) (sym (ap (λ (r : ClusterNo). newly_naming r before after-join) reader ∙ one-comes member before old are below own rise found))
          ∙ sym (ap (λ (b : Bool). if b then record link { late = link.late ++ newly_naming link.reader before after-join } else link) f)
        where
          same_number : (a b : ClusterNo) → (a.number == b.number) ≡ true → a ≡ b
          same_number a b same = ap (λ (n : ℕ). record { number = n }) (eqb-true a.number b.number same)
      by false true e f =
          ap (λ (b : Bool). if b && (link.source.number == source.number) then record link { late = link.late ++ old.name ∷ [] } else link) e
          ∙ sym (append-late (others-stay link.reader e))
          ∙ sym (ap (λ (b : Bool). if b then record link { late = link.late ++ newly_naming link.reader before after-join } else link) f)
        where
          append-late : newly_naming link.reader before after-join ≡ [] → record link { late = link.late ++ newly_naming link.reader before after-join } ≡ link
          append-late none = ap (λ (names : List Name). record link { late = link.late ++ names }) none ∙ ap (λ (names : List Name). record link { late = names }) (append-nil link.late)

  pub joined_links : (links : List Link) → map (with_late_domain member source old.name) links ≡ map (with_late source before after-join) links
  joined_links [] = refl
  joined_links (link ∷ links) =
      ap (λ (l : Link). l ∷ map (with_late_domain member source old.name) links) (late-joined link) ∙ ap (λ (ls : List Link). with_late source before after-join link ∷ ls) (joined_links links)

-- who comes to be named by a merged table is who is named by the other one

-- a number is a member of a union where it is one of either
has-either : (ours theirs : List ℕ) (k : ℕ) → AreMembers ours → AreMembers theirs → has_member (union_of ours theirs) k ≡ (has_member ours k || has_member theirs k)
has-either ours theirs k own other = elim (cases_lt k 8) as (λ _. has_member (union_of ours theirs) k ≡ (has_member ours k || has_member theirs k)) [
  | inl l ↦ has-union ours theirs k l
  | inr past ↦
      let no_own : has_member ours k ≡ false = ap (λ (ms : List ℕ). has_member ms k) own ∙ has-where_past (has_member ours) k past in
      let no_other : has_member theirs k ≡ false = ap (λ (ms : List ℕ). has_member ms k) other ∙ has-where_past (has_member theirs) k past in
      has-where_past (λ n. has_member ours n || has_member theirs n) k past
      ∙ sym (ap (λ (t : Bool). t || has_member theirs k) no_own ∙ no_other)
]

nothing-new : (t : Bool) → (not t && false) ≡ (not t && t)
nothing-new true = refl
nothing-new false = refl

either-new : (t u : Bool) → (not t && u) ≡ (not t && (t || u))
either-new true u = refl
either-new false u = refl

module _ (reader : ClusterNo) (ours theirs : List DomainRecord) (own : IsTable ours) (other : IsTable theirs) where
  -- a record of ours comes to name the reader by theirs as by the merged record
  named-alike : (one : DomainRecord) → AreMembers one.members → (found : Option DomainRecord) → record_of theirs one.name ≡ found
      → (not (names_cluster reader (Some one)) && names_cluster reader found) ≡ (not (names_cluster reader (Some one)) && names_cluster reader (merged_option (Some one) found))
  named-alike one are None at = nothing-new (has_member one.members reader.number)
  named-alike one are (Some two) at =
      let two_are : AreMembers two.members = (found_has IsRecord theirs one.name two other.sound at).0.1 in
      either-new (has_member one.members reader.number) (has_member two.members reader.number)
      ∙ ap (λ (t : Bool). not (has_member one.members reader.number) && t) (sym (has-either one.members two.members reader.number are two_are))

  merged-one : (one : DomainRecord) → IsRecord one → record_of ours one.name ≡ Some one → comes reader theirs one ≡ comes reader (merged ours theirs) one
  merged-one one is found =
      let both : record_of (merged ours theirs) one.name ≡ merged_option (Some one) (record_of theirs one.name) =
      record_of-merged ours theirs one.name own.ordered other.ordered ∙ ap (λ (o : Option DomainRecord). merged_option o (record_of theirs one.name)) found in
      named-alike one is.1 (record_of theirs one.name) refl ∙ ap (λ (o : Option DomainRecord). not (names_cluster reader (Some one)) && names_cluster reader o) (sym both)

  merged-each : (list : List DomainRecord) → AllByRecursion IsRecord list → AllByRecursion (λ (one : DomainRecord). record_of ours one.name ≡ Some one) list
      → AllByRecursion (λ one. comes reader theirs one ≡ comes reader (merged ours theirs) one) list
  merged-each [] sound all = tt
  merged-each (one ∷ list) sound all = (merged-one one sound.0 all.0, merged-each list sound.1 all.1)

  merged-come : newly_naming reader ours theirs ≡ newly_naming reader ours (merged ours theirs)
  merged-come = same-come reader ours theirs (merged ours theirs) (merged-each ours own.sound (found_each ours own.ordered))

-- so the links are those of a source that has merged the table
pub merged_links : (source : ClusterNo) (ours theirs : List DomainRecord) → IsTable ours → IsTable theirs → (links : List Link)
    → map (with_late source ours theirs) links ≡ map (with_late source ours (merged ours theirs)) links
merged_links source ours theirs own other [] = refl
merged_links source ours theirs own other (link ∷ links) =
    ap (λ (names : List Name). (if same_cluster link.source source then record link { late = link.late ++ names } else link) ∷ map (with_late source ours theirs) links) (merged-come link.reader ours theirs own other)
    ∙ ap (λ (ls : List Link). with_late source ours (merged ours theirs) link ∷ ls) (merged_links source ours theirs own other links)

-- what holds anyway holds at success
pub always-ok : {A E P : Type 0} (r : Result A E) → P → OnOk r P
always-ok (Ok x) p = p
always-ok (Err e) p = tt
