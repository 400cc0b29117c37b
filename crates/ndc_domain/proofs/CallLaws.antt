-- What the calls that change one record keep.
use Rattle.std.proofs.Common.{◌≡◌, ℕ, ◌+◌, ◌<◌, ◌≤◌, ◌^◌, Bool, true, false, cond, not, List, [], ◌∷◌, Option, Some, None, Result, Ok, Err, refl, sym, ◌∙◌, ap, subst}
use Rattle.std.specs.Prelude.{◌==◌, nat_le, nat_lt, is_some}
use Rattle.std.specs.Str.{bytes_eq}
use Rattle.std.specs.declared.cmp.Ordering.TheVariants.{Equal, Greater}
use Rattle.std.proofs.lemmas.Bool.{ltb-false, leb-false}
use Rattle.std.proofs.lemmas.Slice.Eq.{bytes_eq-Decides}
use Rattle.ndc_event.specs.Outcome.{◌>>=◌}
use Rattle.ndc_domain.specs.declared.clusters.ClusterNo.{ClusterNo}
use Rattle.ndc_domain.specs.declared.record.DomainRecord.{DomainRecord}
use Rattle.ndc_domain.specs.declared.record.DomainError.TheVariants as register
use Rattle.ndc_domain.specs.declared.record.FailoverError.{FailoverError}
use Rattle.ndc_domain.specs.Clusters.{ClusterList, AreClusters, count_of, writer_of}
use Rattle.ndc_domain.specs.Next.{next_of}
use Rattle.ndc_domain.specs.Members.{has_member, with_member}
use Rattle.ndc_domain.specs.Records.{names_cmp, record_of, put_record, register_of, retained, retain_found, failover_version_of, failover_found, failover_of, join_found}
use Rattle.ndc_domain.proofs.Least.{next_is}
use Rattle.ndc_domain.proofs.Order.{eq_by_cmp, names_equal}
use Rattle.ndc_domain.proofs.Tables.{put_cases}

-- putting a record over the first one of its name
put_same : (new first : DomainRecord) (records : List DomainRecord) (name : List ℕ) → names_cmp new.name first.name ≡ Equal → (t : Bool) → bytes_eq new.name name ≡ t →
    record_of (new ∷ records) name ≡ cond (bytes_eq new.name name) (Some new) (record_of (first ∷ records) name)
put_same new first records name e true t = rw t refl
put_same new first records name e false t =
    let s : bytes_eq first.name name ≡ false = ap (λ (n : List ℕ). bytes_eq n name) (sym (names_equal new.name first.name e)) ∙ t in
    rw (t, s) refl

-- putting a record after the first one
put_later : (new first : DomainRecord) (records : List DomainRecord) (name : List ℕ) → names_cmp new.name first.name ≡ Greater →
    record_of (put_record new records) name ≡ cond (bytes_eq new.name name) (Some new) (record_of records name) →
    (t s : Bool) → bytes_eq first.name name ≡ t → bytes_eq new.name name ≡ s →
    record_of (first ∷ put_record new records) name ≡ cond (bytes_eq new.name name) (Some new) (record_of (first ∷ records) name)
put_later new first records name e further true true t s =
    let same : new.name ≡ first.name = (bytes_eq-Decides new.name name).0 s ∙ sym ((bytes_eq-Decides first.name name).0 t) in
    let apart : bytes_eq new.name first.name ≡ false = eq_by_cmp new.name first.name Greater e in
    let alike : bytes_eq new.name first.name ≡ true = (bytes_eq-Decides new.name first.name).1 same in
    absurd (cc)
put_later new first records name e further true false t s = rw (t, s) refl
put_later new first records name e further false b t s = rw t further

-- putting a record changes what stands under its name, and nothing else
pub record_of-put : (new : DomainRecord) (records : List DomainRecord) (name : List ℕ) →
    record_of (put_record new records) name ≡ cond (bytes_eq new.name name) (Some new) (record_of records name)
record_of-put new [] name = refl
record_of-put new (first ∷ records) name =
    put_cases (λ rs. record_of rs name ≡ cond (bytes_eq new.name name) (Some new) (record_of (first ∷ records) name)) new first records
    (λ e. refl)
    (λ e. put_same new first records name e (bytes_eq new.name name) refl)
    (λ e. put_later new first records name e (record_of-put new records name) (bytes_eq first.name name) (bytes_eq new.name name) refl refl)

-- what an answer after four tests, after three and after one tells
pub four_tests : {X E : Type 0} (a b c d : Bool) (e1 e2 e3 e4 : E) (x y : X) →
    cond a (Err e1) (cond b (Err e2) (cond c (Err e3) (cond d (Err e4) (Ok x)))) ≡ Ok y → (c ≡ false) × (d ≡ false) × (x ≡ y)
four_tests true b c d e1 e2 e3 e4 x y h = absurd (cc)
four_tests false true c d e1 e2 e3 e4 x y h = absurd (cc)
four_tests false false true d e1 e2 e3 e4 x y h = absurd (cc)
four_tests false false false true e1 e2 e3 e4 x y h = absurd (cc)
four_tests false false false false e1 e2 e3 e4 x y h = (refl, refl, cc)

pub three_tests : {X E : Type 0} (a b c : Bool) (e1 e2 e3 : E) (x y : X) →
    cond a (Err e1) (cond b (Err e2) (cond c (Err e3) (Ok x))) ≡ Ok y → (a ≡ false) × (b ≡ false) × (c ≡ false) × (x ≡ y)
three_tests true b c e1 e2 e3 x y h = absurd (cc)
three_tests false true c e1 e2 e3 x y h = absurd (cc)
three_tests false false true e1 e2 e3 x y h = absurd (cc)
three_tests false false false e1 e2 e3 x y h = (refl, refl, refl, cc)

pub one_test : {X E : Type 0} (a : Bool) (e1 : E) (r : Result X E) (y : X) → cond a (Err e1) r ≡ Ok y → (a ≡ false) × (r ≡ Ok y)
one_test true e1 r y h = absurd (cc)
one_test false e1 r y h = (refl, h)

pub not_false : (a : Bool) → not a ≡ false → a ≡ true
not_false true h = refl
not_false false h = absurd (cc)

-- the record that a call with an answer found
pub retain_finds : (days : ℕ) (records : List DomainRecord) (found : Option DomainRecord) (answer : ℕ × List DomainRecord) →
    retain_found days records found ≡ Ok answer → (old : DomainRecord) × (found ≡ Some old) × ((old.config + 1, put_record (retained days old) records) ≡ answer)
retain_finds days records None answer h = absurd (cc)
retain_finds days records (Some old) answer h = (old, refl, cc)

bind_tells : (r : Result ℕ FailoverError) (f : ℕ → List DomainRecord) (answer : ℕ × List DomainRecord) →
    (r >>= (λ version. Ok (version, f version))) ≡ Ok answer → (r ≡ Ok answer.0) × (answer.1 ≡ f answer.0)
bind_tells (Ok version) f answer h =
    let e : (version, f version) ≡ answer = cc in
    (ap (λ (a : ℕ × List DomainRecord). Ok a.0) e, sym (ap (λ (a : ℕ × List DomainRecord). a.1) e) ∙ ap (λ (a : ℕ × List DomainRecord). f a.0) e)
bind_tells (Err e) f answer h = absurd (cc)

pub failover_finds : (clusters : ClusterList) (target : ClusterNo) (records : List DomainRecord) (found : Option DomainRecord) (answer : ℕ × List DomainRecord) →
    failover_found clusters target records found ≡ Ok answer →
    (old : DomainRecord) × (found ≡ Some old) × (failover_version_of clusters target old ≡ Ok answer.0) × (answer.1 ≡ put_record (record old { version = answer.0 }) records)
failover_finds clusters target records None answer h = absurd (cc)
failover_finds clusters target records (Some old) answer h =
    let told : (failover_version_of clusters target old ≡ Ok answer.0) × (answer.1 ≡ put_record (record old { version = answer.0 }) records) =
    bind_tells (failover_version_of clusters target old) (λ version. put_record (record old { version = version }) records) answer h in
    (old, refl, told.0, told.1)

pub join_finds : (member : ClusterNo) (records : List DomainRecord) (found : Option DomainRecord) (after : List DomainRecord) →
    join_found member records found ≡ Ok after →
    (old : DomainRecord) × (found ≡ Some old) × (put_record (record old { members = with_member old.members member.number }) records ≡ after)
join_finds member records None after h = absurd (cc)
join_finds member records (Some old) after h =
    let told : (has_member old.members member.number ≡ false) × (Ok (put_record (record old { members = with_member old.members member.number }) records) ≡ Ok after) =
    one_test (has_member old.members member.number) _ _ _ h in
    (old, refl, cc (told.1))

-- what a version that a failover gives is
pub failover_version_tells : (clusters : ClusterList) (target : ClusterNo) (old : DomainRecord) (version : ℕ) →
    failover_version_of clusters target old ≡ Ok version →
    (target.number < count_of clusters) × (next_of clusters old.version target ≡ version) × (version ≤ 10 ^ 13) × (has_member old.members target.number ≡ true)
failover_version_tells clusters target old version h =
    let told : (nat_le (count_of clusters) target.number ≡ false) × (nat_lt (10 ^ 13) (next_of clusters old.version target) ≡ false) × (not (has_member old.members target.number) ≡ false) × (next_of clusters old.version target ≡ version) =
    three_tests _ _ _ _ _ _ _ _ h in
    let most : next_of clusters old.version target ≤ 10 ^ 13 = ltb-false _ _ told.1 in
    (leb-false _ _ told.0, told.3, subst (λ (v : ℕ). v ≤ 10 ^ 13) told.3 most, not_false _ told.2)

-- a failover lowers no version and gives one of the target
pub failover_raises : (clusters : ClusterList) (name : List ℕ) (target : ClusterNo) (records : List DomainRecord) (old : DomainRecord) (answer : ℕ × List DomainRecord) →
    AreClusters clusters → record_of records name ≡ Some old → failover_of clusters name target records ≡ Ok answer →
    (old.version ≤ answer.0) × (writer_of clusters answer.0 ≡ Some target) × (answer.1 ≡ put_record (record old { version = answer.0 }) records)
failover_raises clusters name target records old answer sound found h =
    let told : (one : DomainRecord) × (record_of records name ≡ Some one) × (failover_version_of clusters target one ≡ Ok answer.0) × (answer.1 ≡ put_record (record one { version = answer.0 }) records) =
    failover_finds clusters target records (record_of records name) answer h in
    let e : Some told.0 ≡ Some old = sym told.1 ∙ found in
    let same : told.0 ≡ old = cc in
    let gives : failover_version_of clusters target old ≡ Ok answer.0 = subst (λ (one : DomainRecord). failover_version_of clusters target one ≡ Ok answer.0) same told.2 in
    let after : answer.1 ≡ put_record (record old { version = answer.0 }) records = subst (λ (one : DomainRecord). answer.1 ≡ put_record (record one { version = answer.0 }) records) same told.3 in
    let facts : (target.number < count_of clusters) × (next_of clusters old.version target ≡ answer.0) × (answer.0 ≤ 10 ^ 13) × (has_member old.members target.number ≡ true) = failover_version_tells clusters target old answer.0 gives in
    let least = next_is clusters old.version target sound facts.0 in
    (subst (λ (v : ℕ). old.version ≤ v) facts.1 least.0, subst (λ (v : ℕ). writer_of clusters v ≡ Some target) facts.1 least.1, after)

-- what a registering with an answer tells
pub register_tells : (clusters : ClusterList) (at : ClusterNo) (name : List ℕ) (target : ClusterNo) (days : ℕ) (members : List ℕ) (records : List DomainRecord) (answer : ℕ × List DomainRecord) →
    register_of clusters at name target days members records ≡ Ok answer →
    (target.number < count_of clusters) × (has_member members target.number ≡ true)
    × ((next_of clusters 0 target, put_record (record { name = name; version = next_of clusters 0 target; config = 0; days = days; members = members }) records) ≡ answer)
register_tells clusters at name target days members records answer h =
    let told : (nat_le (count_of clusters) target.number ≡ false) × (not (has_member members target.number) ≡ false)
    × ((next_of clusters 0 target, put_record (record { name = name; version = next_of clusters 0 target; config = 0; days = days; members = members }) records) ≡ answer) =
    four_tests (not (at.number == 0)) (is_some (record_of records name)) (nat_le (count_of clusters) target.number) (not (has_member members target.number))
    register.NotPrimary register.DomainExists register.UnknownTarget register.NotMember _ answer h in
    (leb-false _ _ told.0, not_false _ told.1, told.2)
