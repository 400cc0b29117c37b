-- Members of several records together, and merged records.
use Rattle.std.proofs.Common.{◌≡◌, ℕ, ◌<◌, ◌≤◌, max, Bool, true, false, cond, ◌||◌, not, List, refl, sym, ◌∙◌, ap, arith, inl, inr}
use Rattle.std.specs.Prelude.{nat_lt}
use Rattle.std.specs.Str.{bytes_eq}
use Rattle.std.proofs.lemmas.Bool.{ltb-false, lt-ltb, le-ltb, cases_lt, cases_eq}
use Rattle.std.proofs.lemmas.Bool.Decides.{nat_tests}
use Rattle.std.proofs.lemmas.Slice.Eq.{bytes_eq-Decides}
use Rattle.ndc_domain.specs.declared.record.DomainRecord.{DomainRecord}
use Rattle.ndc_domain.specs.Members.{numbers_where, has_member, AreMembers, union_of}
use Rattle.ndc_domain.specs.Flags.{where_same, has-where, has-where_past}
use Rattle.ndc_domain.specs.Records.{IsRecord}
use Rattle.ndc_domain.specs.Merge.{merged_record, brings}
use Rattle.ndc_domain.specs.Laws.{Keeps}
use Rattle.ndc_domain.proofs.Edits.{same_fields}
use Rattle.ndc_domain.proofs.CallLaws.{not_false}

or_comm : (a b : Bool) → (a || b) ≡ (b || a)
or_comm true true = refl
or_comm true false = refl
or_comm false true = refl
or_comm false false = refl

or_assoc : (a b c : Bool) → ((a || b) || c) ≡ (a || (b || c))
or_assoc true b c = refl
or_assoc false b c = refl

or_same : (a : Bool) → (a || a) ≡ a
or_same true = refl
or_same false = refl

or_left : (a b : Bool) → a ≡ true → (a || b) ≡ true
or_left true b h = refl
or_left false b h = absurd (cc)

or_right : (a b : Bool) → b ≡ true → (a || b) ≡ true
or_right true b h = refl
or_right false b h = h

neither : (a b : Bool) → (a || b) ≡ false → (a ≡ false) × (b ≡ false)
neither true b h = absurd (cc)
neither false b h = (refl, h)

-- a union has what one of both has
pub has-union : (ours theirs : List ℕ) (k : ℕ) → k < 8 → has_member (union_of ours theirs) k ≡ (has_member ours k || has_member theirs k)
has-union ours theirs k l = has-where (λ n. has_member ours n || has_member theirs n) k l

pub union-comm : (a b : List ℕ) → union_of a b ≡ union_of b a
union-comm a b = where_same (λ k. has_member a k || has_member b k) (λ k. has_member b k || has_member a k) (λ k l. or_comm (has_member a k) (has_member b k))

pub union-assoc : (a b c : List ℕ) → union_of (union_of a b) c ≡ union_of a (union_of b c)
union-assoc a b c =
    where_same (λ k. has_member (union_of a b) k || has_member c k) (λ k. has_member a k || has_member (union_of b c) k)
    (λ k l. ap (λ (t : Bool). t || has_member c k) (has-union a b k l) ∙ or_assoc (has_member a k) (has_member b k) (has_member c k)
    ∙ ap (λ (t : Bool). has_member a k || t) (sym (has-union b c k l)))

pub union-same : (a : List ℕ) → AreMembers a → union_of a a ≡ a
union-same a members =
    where_same (λ k. has_member a k || has_member a k) (has_member a) (λ k l. or_same (has_member a k)) ∙ sym members

-- a member of ascending members is below 8
pub member_below : (a : List ℕ) (k : ℕ) → AreMembers a → has_member a k ≡ true → k < 8
member_below a k members has =
    elim (cases_lt k 8) as (λ _. k < 8) [
      | inl l ↦ l
      | inr past ↦
          let none : has_member (numbers_where (has_member a)) k ≡ false = has-where_past (has_member a) k past in
          let same : has_member a k ≡ false = ap (λ (ms : List ℕ). has_member ms k) members ∙ none in
          absurd (cc)
    ]

-- each of both is in the union
pub union_has_ours : (a b : List ℕ) (k : ℕ) → AreMembers a → has_member a k ≡ true → has_member (union_of a b) k ≡ true
union_has_ours a b k members has = has-union a b k (member_below a k members has) ∙ or_left (has_member a k) (has_member b k) has

pub union_has_theirs : (a b : List ℕ) (k : ℕ) → AreMembers b → has_member b k ≡ true → has_member (union_of a b) k ≡ true
union_has_theirs a b k members has = has-union a b k (member_below b k members has) ∙ or_right (has_member a k) (has_member b k) has

-- merging a record with itself changes nothing
pub merged_same : (one : DomainRecord) → IsRecord one → merged_record one one ≡ one
merged_same one sound =
    let stays : nat_lt one.config one.config ≡ false = le-ltb one.config one.config (omega arith) in
    same_fields (merged_record one one) one refl (omega arith) (omega arith)
    (ap (λ (t : Bool). cond t one.days one.days) stays) (union-same one.members sound.1)

-- the days of the greater config version
days-comm : (ours theirs : DomainRecord) → (ours.config ≡ theirs.config → ours.days ≡ theirs.days) →
    cond (nat_lt ours.config theirs.config) theirs.days ours.days ≡ cond (nat_lt theirs.config ours.config) ours.days theirs.days
days-comm ours theirs agree =
    elim (cases_lt ours.config theirs.config) as (λ _. cond (nat_lt ours.config theirs.config) theirs.days ours.days ≡ cond (nat_lt theirs.config ours.config) ours.days theirs.days) [
      | inl l ↦
          let less : nat_lt ours.config theirs.config ≡ true = lt-ltb ours.config theirs.config l in
          let not_back : nat_lt theirs.config ours.config ≡ false = le-ltb theirs.config ours.config (omega arith) in
          rw (less, not_back) refl
      | inr g ↦
          let not_less : nat_lt ours.config theirs.config ≡ false = le-ltb ours.config theirs.config g in
          elim (cases_eq ours.config theirs.config) as (λ _. cond (nat_lt ours.config theirs.config) theirs.days ours.days ≡ cond (nat_lt theirs.config ours.config) ours.days theirs.days) [
            | inl e ↦
                let not_back : nat_lt theirs.config ours.config ≡ false = le-ltb theirs.config ours.config (omega arith) in
                rw (not_less, not_back) (agree e)
            | inr ne ↦
                let back : nat_lt theirs.config ours.config ≡ true = lt-ltb theirs.config ours.config (omega arith) in
                rw (not_less, back) refl
          ]
    ]

-- two records of one name merge alike in both orders, where equal config versions have equal days
pub merged-comm : (ours theirs : DomainRecord) → ours.name ≡ theirs.name → (ours.config ≡ theirs.config → ours.days ≡ theirs.days) →
    merged_record ours theirs ≡ merged_record theirs ours
merged-comm ours theirs name agree =
    same_fields (merged_record ours theirs) (merged_record theirs ours) name (omega arith) (omega arith)
    (days-comm ours theirs agree) (union-comm ours.members theirs.members)

-- the days of three
days-assoc : (a b c p q r : ℕ) →
    cond (nat_lt (max a b) c) r (cond (nat_lt a b) q p) ≡ cond (nat_lt a (max b c)) (cond (nat_lt b c) r q) p
days-assoc a b c p q r = grind (arith, nat_tests)

-- three records merge alike however they are joined
pub merged-assoc : (one two three : DomainRecord) → merged_record (merged_record one two) three ≡ merged_record one (merged_record two three)
merged-assoc one two three =
    same_fields (merged_record (merged_record one two) three) (merged_record one (merged_record two three)) refl (omega arith) (omega arith)
    (days-assoc one.config two.config three.config one.days two.days three.days) (union-assoc one.members two.members three.members)

-- a merged record keeps what both have
pub merged_keeps_ours : (ours theirs : DomainRecord) → IsRecord ours → Keeps ours (merged_record ours theirs)
merged_keeps_ours ours theirs sound = record {
  name = refl;
  version = omega arith;
  config = omega arith;
  members = λ k has. union_has_ours ours.members theirs.members k sound.1 has;
}

pub merged_keeps_theirs : (ours theirs : DomainRecord) → ours.name ≡ theirs.name → IsRecord theirs → Keeps theirs (merged_record ours theirs)
merged_keeps_theirs ours theirs name sound = record {
  name = name;
  version = omega arith;
  config = omega arith;
  members = λ k has. union_has_theirs ours.members theirs.members k sound.1 has;
}

-- a record that brings nothing leaves ours as it was
pub brings_nothing : (ours theirs : DomainRecord) → brings ours theirs ≡ false → merged_record ours theirs ≡ ours
brings_nothing ours theirs h =
    let parts : (nat_lt ours.version theirs.version ≡ false) × ((nat_lt ours.config theirs.config || not (bytes_eq (union_of ours.members theirs.members) ours.members)) ≡ false) = neither _ _ h in
    let more : (nat_lt ours.config theirs.config ≡ false) × (not (bytes_eq (union_of ours.members theirs.members) ours.members) ≡ false) = neither _ _ parts.1 in
    let version : theirs.version ≤ ours.version = ltb-false ours.version theirs.version parts.0 in
    let config : theirs.config ≤ ours.config = ltb-false ours.config theirs.config more.0 in
    same_fields (merged_record ours theirs) ours refl (omega arith) (omega arith)
    (ap (λ (t : Bool). cond t theirs.days ours.days) more.0) ((bytes_eq-Decides _ _).0 (not_false _ more.1))

-- and one that leaves it as it was brings nothing
pub brings_where_changed : (ours theirs : DomainRecord) → merged_record ours theirs ≡ ours → brings ours theirs ≡ false
brings_where_changed ours theirs same =
    let version : max ours.version theirs.version ≡ ours.version = ap (λ (one : DomainRecord). one.version) same in
    let config : max ours.config theirs.config ≡ ours.config = ap (λ (one : DomainRecord). one.config) same in
    let members : union_of ours.members theirs.members ≡ ours.members = ap (λ (one : DomainRecord). one.members) same in
    let v : nat_lt ours.version theirs.version ≡ false = le-ltb ours.version theirs.version (omega arith) in
    let c : nat_lt ours.config theirs.config ≡ false = le-ltb ours.config theirs.config (omega arith) in
    let m : bytes_eq (union_of ours.members theirs.members) ours.members ≡ true = (bytes_eq-Decides _ _).1 members in
    rw (v, c, m) refl
