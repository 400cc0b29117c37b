-- The laws of merging.
use Rattle.std.proofs.Common.{◌≡◌, ℕ, Bool, true, false, cond, List, [], ◌∷◌, Option, Some, None, IsSomeAnd, refl, sym, ◌∙◌, ap, subst, arith}
use Rattle.std.specs.Str.{bytes_eq}
use Rattle.std.specs.declared.cmp.Ordering.{Ordering}
use Rattle.std.specs.declared.cmp.Ordering.TheVariants.{Less, Equal, Greater}
use Rattle.std.proofs.lemmas.Slice.Eq.{bytes_eq-Decides}
use Rattle.ndc_domain.specs.declared.record.DomainRecord.{DomainRecord}
use Rattle.ndc_domain.specs.Records.{names_cmp, AllLater, Rise, IsRecord, IsTable, record_of}
use Rattle.ndc_domain.specs.Merge.{merged, merged_option}
use Rattle.ndc_domain.specs.Laws.{Keeps, DaysAgree}
use Rattle.ndc_domain.proofs.Order.{names_equal, greater_flip}
use Rattle.ndc_domain.proofs.Tables.{later_trans, found_has}
use Rattle.ndc_domain.proofs.BothTables.{later_absent, record_of-merged, Rise-merged}
use Rattle.ndc_domain.proofs.Unions.{merged_same, merged-comm, merged-assoc, merged_keeps_ours, merged_keeps_theirs}

-- the first record is found by its name
found_first : (first : DomainRecord) (records : List DomainRecord) → record_of (first ∷ records) first.name ≡ Some first
found_first first records =
    let self : bytes_eq first.name first.name ≡ true = (bytes_eq-Decides first.name first.name).1 refl in rw self refl

-- a name before the first record's is not found
absent_before : (name : List ℕ) (first : DomainRecord) (records : List DomainRecord) → names_cmp name first.name ≡ Less → Rise (first ∷ records) →
    record_of (first ∷ records) name ≡ None
absent_before name first records l rise = later_absent (first ∷ records) name (l, later_trans name first.name records l rise.0)

-- what is found after two first records of one name
tails_alike : (one two : DomainRecord) (xs ys : List DomainRecord) → Rise (one ∷ xs) → Rise (two ∷ ys) → one ≡ two →
    ((name : List ℕ) → record_of (one ∷ xs) name ≡ record_of (two ∷ ys) name) → (name : List ℕ) → record_of xs name ≡ record_of ys name
tails_alike one two xs ys rise rise' same found name = by_test (bytes_eq one.name name) refl
  where
    by_test : (t : Bool) → bytes_eq one.name name ≡ t → record_of xs name ≡ record_of ys name
    by_test true e =
        let here : one.name ≡ name = (bytes_eq-Decides one.name name).0 e in
        let there : two.name ≡ name = ap (λ (r : DomainRecord). r.name) (sym same) ∙ here in
        later_absent xs name (subst (λ (n : List ℕ). AllLater n xs) here rise.0)
        ∙ sym (later_absent ys name (subst (λ (n : List ℕ). AllLater n ys) there rise'.0))
    by_test false e =
        let other : bytes_eq two.name name ≡ false = ap (λ (r : DomainRecord). bytes_eq r.name name) (sym same) ∙ e in
        sym (ap (λ (b : Bool). cond b (Some one) (record_of xs name)) e) ∙ found name ∙ ap (λ (b : Bool). cond b (Some two) (record_of ys name)) other

-- records in order under whose names the same stands are the same
pub same_by_finding : (xs ys : List DomainRecord) → Rise xs → Rise ys → ((name : List ℕ) → record_of xs name ≡ record_of ys name) → xs ≡ ys
same_by_finding [] [] rise rise' found = refl
same_by_finding [] (two ∷ ys) rise rise' found = let e : None ≡ Some two = found two.name ∙ found_first two ys in absurd (cc)
same_by_finding (one ∷ xs) [] rise rise' found = let e : Some one ≡ None = sym (found_first one xs) ∙ found one.name in absurd (cc)
same_by_finding (one ∷ xs) (two ∷ ys) rise rise' found =
    by_order one xs two ys rise rise' found (λ tails. same_by_finding xs ys rise.1 rise'.1 tails) (names_cmp one.name two.name) refl
  where
    by_order : (one : DomainRecord) (xs : List DomainRecord) (two : DomainRecord) (ys : List DomainRecord) → Rise (one ∷ xs) → Rise (two ∷ ys) →
        ((name : List ℕ) → record_of (one ∷ xs) name ≡ record_of (two ∷ ys) name) →
        (((name : List ℕ) → record_of xs name ≡ record_of ys name) → xs ≡ ys) →
        (o : Ordering) → names_cmp one.name two.name ≡ o → one ∷ xs ≡ two ∷ ys
    by_order one xs two ys rise rise' found further Less e =
        let absurd_find : Some one ≡ None = sym (found_first one xs) ∙ found one.name ∙ absent_before one.name two ys e rise' in absurd (cc)
    by_order one xs two ys rise rise' found further Equal e =
        let there : Some one ≡ Some two =
        sym (found_first one xs) ∙ found one.name
        ∙ ap (λ (n : List ℕ). record_of (two ∷ ys) n) (names_equal one.name two.name e) ∙ found_first two ys in
        let same : one ≡ two = cc in
        let rest : xs ≡ ys = further (tails_alike one two xs ys rise rise' same found) in
        ap (λ (r : DomainRecord). r ∷ xs) same ∙ ap (λ (rs : List DomainRecord). two ∷ rs) rest
    by_order one xs two ys rise rise' found further Greater e =
        let absurd_find : None ≡ Some two = sym (absent_before two.name one xs (greater_flip one.name two.name e) rise) ∙ found two.name ∙ found_first two ys in absurd (cc)

-- merging a table with itself changes nothing
pub merge_idempotent : (records : List DomainRecord) → IsTable records → merged records records ≡ records
merge_idempotent records table =
    same_by_finding (merged records records) records (Rise-merged records records table.ordered table.ordered) table.ordered
    (λ name. record_of-merged records records name table.ordered table.ordered ∙ same name (record_of records name) refl)
  where
    same : (name : List ℕ) (found : Option DomainRecord) → record_of records name ≡ found → merged_option found found ≡ found
    same name None e = refl
    same name (Some one) e = ap Some (merged_same one ((found_has IsRecord records name one table.sound e).0))

-- two tables merge alike in both orders
pub merge_commutes : (records others : List DomainRecord) → IsTable records → IsTable others → DaysAgree records others → merged records others ≡ merged others records
merge_commutes records others table table' agree =
    same_by_finding (merged records others) (merged others records)
    (Rise-merged records others table.ordered table'.ordered) (Rise-merged others records table'.ordered table.ordered)
    (λ name. record_of-merged records others name table.ordered table'.ordered
    ∙ comm name (record_of records name) refl (record_of others name) refl
    ∙ sym (record_of-merged others records name table'.ordered table.ordered))
  where
    comm : (name : List ℕ) (ours : Option DomainRecord) → record_of records name ≡ ours → (theirs : Option DomainRecord) → record_of others name ≡ theirs →
        merged_option ours theirs ≡ merged_option theirs ours
    comm name None e None f = refl
    comm name None e (Some theirs) f = refl
    comm name (Some ours) e None f = refl
    comm name (Some ours) e (Some theirs) f =
        let one : ours.name ≡ name = (found_has IsRecord records name ours table.sound e).1 in
        let two : theirs.name ≡ name = (found_has IsRecord others name theirs table'.sound f).1 in
        ap Some (merged-comm ours theirs (one ∙ sym two) (agree name ours theirs e f))

-- three tables merge alike however they are joined
pub merge_associates : (one two three : List DomainRecord) → IsTable one → IsTable two → IsTable three → merged (merged one two) three ≡ merged one (merged two three)
merge_associates one two three t1 t2 t3 =
    same_by_finding (merged (merged one two) three) (merged one (merged two three))
    (Rise-merged (merged one two) three r12 t3.ordered) (Rise-merged one (merged two three) t1.ordered r23)
    (λ name.
    record_of-merged (merged one two) three name r12 t3.ordered
    ∙ ap (λ (o : Option DomainRecord). merged_option o (record_of three name)) (record_of-merged one two name t1.ordered t2.ordered)
    ∙ assoc (record_of one name) (record_of two name) (record_of three name)
    ∙ ap (λ (o : Option DomainRecord). merged_option (record_of one name) o) (sym (record_of-merged two three name t2.ordered t3.ordered))
    ∙ sym (record_of-merged one (merged two three) name t1.ordered r23))
  where
    r12 : Rise (merged one two)
    r12 = Rise-merged one two t1.ordered t2.ordered

    r23 : Rise (merged two three)
    r23 = Rise-merged two three t2.ordered t3.ordered

    assoc : (a b c : Option DomainRecord) → merged_option (merged_option a b) c ≡ merged_option a (merged_option b c)
    assoc None b c = refl
    assoc (Some a) None c = refl
    assoc (Some a) (Some b) None = refl
    assoc (Some a) (Some b) (Some c) = ap Some (merged-assoc a b c)

-- a record that is its own loses nothing
keeps_itself : (one : DomainRecord) → Keeps one one
keeps_itself one = record { name = refl; version = omega arith; config = omega arith; members = λ k has. has }

-- what ours have is kept
pub merge_keeps_ours : (records others : List DomainRecord) (name : List ℕ) (old : DomainRecord) → IsTable records → IsTable others →
    record_of records name ≡ Some old → IsSomeAnd (record_of (merged records others) name) (Keeps old)
merge_keeps_ours records others name old table table' e =
    subst (λ (o : Option DomainRecord). IsSomeAnd o (Keeps old)) (sym (record_of-merged records others name table.ordered table'.ordered))
    (subst (λ (o : Option DomainRecord). IsSomeAnd (merged_option o (record_of others name)) (Keeps old)) (sym e) (kept (record_of others name)))
  where
    kept : (theirs : Option DomainRecord) → IsSomeAnd (merged_option (Some old) theirs) (Keeps old)
    kept None = keeps_itself old
    kept (Some theirs) = merged_keeps_ours old theirs ((found_has IsRecord records name old table.sound e).0)

-- and so is what theirs have
pub merge_keeps_theirs : (records others : List DomainRecord) (name : List ℕ) (old : DomainRecord) → IsTable records → IsTable others →
    record_of others name ≡ Some old → IsSomeAnd (record_of (merged records others) name) (Keeps old)
merge_keeps_theirs records others name old table table' f =
    subst (λ (o : Option DomainRecord). IsSomeAnd o (Keeps old)) (sym (record_of-merged records others name table.ordered table'.ordered))
    (subst (λ (o : Option DomainRecord). IsSomeAnd (merged_option (record_of records name) o) (Keeps old)) (sym f) (kept (record_of records name) refl))
  where
    theirs : IsRecord old × (old.name ≡ name)
    theirs = found_has IsRecord others name old table'.sound f

    kept : (ours : Option DomainRecord) → record_of records name ≡ ours → IsSomeAnd (merged_option ours (Some old)) (Keeps old)
    kept None e = keeps_itself old
    kept (Some ours) e =
        merged_keeps_theirs ours old ((found_has IsRecord records name ours table.sound e).1 ∙ sym theirs.1) theirs.0
