-- A record that was read at its place, and a new one written there; and equal records.
use Rattle.std.proofs.Common.{◌≡◌, ℕ, ◌<◌, ◌+◌, true, false, ◌&&◌, List, length, get_or, set, Some, Ok, refl, sym, ◌∙◌, ap, subst}
use Rattle.std.specs.Prelude.{◌==◌}
use Rattle.std.specs.Str.{bytes_eq}
use Rattle.std.proofs.lemmas.Bool.{eqb-true, eq-eqb, and_parts}
use Rattle.std.proofs.lemmas.List.{get_or_default}
use Rattle.std.proofs.lemmas.Option.{slice_get_read}
use Rattle.std.proofs.lemmas.Slice.Eq.{bytes_eq-Decides}
use Rattle.ndc_domain.specs.declared.clusters.ClusterNo.{ClusterNo}
use Rattle.ndc_domain.specs.declared.record.DomainRecord.{DomainRecord}
use Rattle.ndc_domain.specs.Clusters.{ClusterList}
use Rattle.ndc_domain.specs.Records.{IsRecord, IsTable, record_of, put_record, retained, retain_of, failover_version_of, failover_of, join_of, record_eq}
use Rattle.ndc_domain.specs.Members.{has_member, with_member}
use Rattle.ndc_domain.specs.Places.{IsAt}
use Rattle.ndc_domain.proofs.Tables.{IsTable-put, found_has}

module _ (records : List DomainRecord) (table : IsTable records) (name : List ℕ) (place : ℕ) (at : IsAt records name place) (one : DomainRecord) (is : one ≡ get_or records place one) where
  -- the record read is the one that is found
  pub read_found : record_of records name ≡ Some one
  read_found = at.found ∙ slice_get_read records (length records) place one refl at.in_range is

  -- it has the name, and is sound
  pub read_sound : IsRecord one × (one.name ≡ name)
  read_sound = found_has IsRecord records name one table.sound read_found

  -- a new one of the name is put by writing it there
  pub put_is_written : (new : DomainRecord) → new.name ≡ one.name → put_record new records ≡ set records place new
  put_is_written new e = at.put new (e ∙ read_sound.1)

  -- and the table stays one
  pub written_table : (new : DomainRecord) → new.name ≡ one.name → IsRecord new → IsTable (set records place new)
  written_table new e sound = subst IsTable (put_is_written new e) (IsTable-put new records table sound)

-- a failover of the record that is found
pub failover_done : (clusters : ClusterList) (name : List ℕ) (target : ClusterNo) (records : List DomainRecord) (one : DomainRecord) (version : ℕ) →
    record_of records name ≡ Some one → failover_version_of clusters target one ≡ Ok version →
    failover_of clusters name target records ≡ Ok (version, put_record (record one { version = version }) records)
failover_done clusters name target records one version found gives = rw (found, gives) refl

-- a retaining in the record that is found
pub retain_done : (at : ClusterNo) (name : List ℕ) (days : ℕ) (records : List DomainRecord) (one : DomainRecord) →
    at.number ≡ 0 → record_of records name ≡ Some one →
    retain_of at name days records ≡ Ok (one.config + 1, put_record (retained days one) records)
retain_done at name days records one primary found =
    let t : (at.number == 0) ≡ true = eq-eqb _ _ primary in rw (t, found) refl

-- a joining in the record that is found
pub join_done : (at : ClusterNo) (name : List ℕ) (member : ClusterNo) (records : List DomainRecord) (one : DomainRecord) →
    at.number ≡ 0 → record_of records name ≡ Some one → has_member one.members member.number ≡ false →
    join_of at name member records ≡ Ok (put_record (record one { members = with_member one.members member.number }) records)
join_done at name member records one primary found new =
    let t : (at.number == 0) ≡ true = eq-eqb _ _ primary in rw (t, found, new) refl

-- records of equal fields
pub same_fields : (a b : DomainRecord) → a.name ≡ b.name → a.version ≡ b.version → a.config ≡ b.config → a.days ≡ b.days → a.members ≡ b.members → a ≡ b
same_fields a b n v c d m =
    ap (λ (x : List ℕ). record a { name = x }) n
    ∙ ap (λ (x : ℕ). record a { name = b.name; version = x }) v
    ∙ ap (λ (x : ℕ). record a { name = b.name; version = b.version; config = x }) c
    ∙ ap (λ (x : ℕ). record a { name = b.name; version = b.version; config = b.config; days = x }) d
    ∙ ap (λ (x : List ℕ). record a { name = b.name; version = b.version; config = b.config; days = b.days; members = x }) m

-- records that pass the test are one
pub record_eq_true : (a b : DomainRecord) → record_eq a b ≡ true → a ≡ b
record_eq_true a b h =
    let n : (bytes_eq a.name b.name ≡ true) × (((a.version == b.version) && ((a.config == b.config) && ((a.days == b.days) && bytes_eq a.members b.members))) ≡ true) = and_parts _ _ h in
    let v : ((a.version == b.version) ≡ true) × (((a.config == b.config) && ((a.days == b.days) && bytes_eq a.members b.members)) ≡ true) = and_parts _ _ n.1 in
    let c : ((a.config == b.config) ≡ true) × (((a.days == b.days) && bytes_eq a.members b.members) ≡ true) = and_parts _ _ v.1 in
    let d : ((a.days == b.days) ≡ true) × (bytes_eq a.members b.members ≡ true) = and_parts _ _ c.1 in
    same_fields a b ((bytes_eq-Decides _ _).0 n.0) (eqb-true _ _ v.0) (eqb-true _ _ c.0) (eqb-true _ _ d.0) ((bytes_eq-Decides _ _).0 d.1)

-- one place more is the same
pub same_read : (xs ys : List DomainRecord) (i : ℕ) (d x y : DomainRecord) → i < length xs → i < length ys →
    x ≡ get_or xs i x → y ≡ get_or ys i y → x ≡ y → get_or xs i d ≡ get_or ys i d
same_read xs ys i d x y l m ex ey e = get_or_default xs i d x l ∙ sym ex ∙ e ∙ ey ∙ get_or_default ys i y d m
