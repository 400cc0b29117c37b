-- Workflows that are listed by domain: what stands under a domain, and what is listed after a change of one.
use Rattle.std.proofs.Common.{◌≡◌, Bool, true, false, not, ◌&&◌, ◌||◌, ◌==◌, List, [], ◌∷◌, ◌++◌, length, Option, Some, None, Result, Ok, Err, OnOk, OnErr, cond, refl, sym, ◌∙◌, subst, ap, true≢false}
use Rattle.std.specs.Prelude.{IfSome, if◌then◌else◌}
use Rattle.std.specs.List.{AllByRecursion, list_any}
use Rattle.std.specs.List.Sorted.{IsStrictlySortedBy}
use Rattle.std.specs.Map.{keys_of}
use Rattle.std.specs.Ordering.{is_eq}
use Rattle.std.specs.Str.{bytes_eq}
use Rattle.std.proofs.Math.Dec.{eqb-suc-zero}
use Rattle.std.proofs.lemmas.Bool.{eqb-true}
use Rattle.std.proofs.lemmas.List.{nil_from_length}
use Rattle.std.proofs.lemmas.List.Folds.{list_any-append}
use Rattle.std.proofs.lemmas.Map.Text.{is_eq-slice_cmp}
use Rattle.std.proofs.lemmas.Slice.Eq.{bytes_eq-Decides}
use Rattle.ndc_domain.specs.Records.{names_cmp}
use Rattle.ndc_event.specs.declared.name.Name.{Name}
use Rattle.ndc_shard_workflows.specs.ByDomain.{AreByDomain, AreOf, AreThoseOf, all_listed}
use Rattle.ndc_shard_workflows.specs.Due.{is_listed, is_named, names_order}
use Rattle.ndc_shard_workflows.specs.Named.{under}
use Rattle.ndc_shard_workflows.proofs.NameLemmas.{hold-first, hold-rest, name-itself, names-turn, none-later, under-first, under-rest}

abbrev pub Names : Type 0
Names = List (Name × Name)

abbrev pub ByName : Type 0
ByName = List (Name × List (Name × Name))

-- the workflows of a domain, where it has some
abbrev pub listed_in : Option Names → Names
listed_in None = []
listed_in (Some list) = list

or-nothing : (t : Bool) → (t || false) ≡ t
or-nothing true = refl
or-nothing false = refl

-- what is listed of a workflow stands under its domain
pub listed-under : (d w : Name) (entries : ByName) → AreByDomain entries → is_listed d w (all_listed entries) ≡ is_listed d w (listed_in (under d entries))
listed-under d w [] hold = refl
listed-under d w (entry ∷ entries) hold =
    list_any-append (is_named d w) entry.1 (all_listed entries)
    ∙ ap (λ t. is_listed d w entry.1 || t) (listed-under d w entries (hold-rest AreOf entry entries hold)) ∙ by (bytes_eq entry.0 d) refl
  where
    by : (t : Bool) → bytes_eq entry.0 d ≡ t → (is_listed d w entry.1 || is_listed d w (listed_in (under d entries))) ≡ is_listed d w (listed_in (under d (entry ∷ entries)))
    by true e =
        ap (λ (o : Option Names). is_listed d w entry.1 || is_listed d w (listed_in o)) (none-later AreOf entry entries hold d e)
        ∙ or-nothing (is_listed d w entry.1) ∙ sym (ap (λ (o : Option Names). is_listed d w (listed_in o)) (under-first d entry entries e))
    by false e =
        ap (λ t. t || is_listed d w (listed_in (under d entries))) ((hold-first AreOf entry entries hold).own d w (names-turn entry.0 d e))
        ∙ sym (ap (λ (o : Option Names). is_listed d w (listed_in o)) (under-rest d entry entries e))

-- nothing stands under a domain that is none of these
none-under : (d : Name) (entries : ByName) → list_any (bytes_eq d) (keys_of entries) ≡ false → under d entries ≡ None
none-under d [] e = refl
none-under d (entry ∷ entries) e = by (bytes_eq d entry.0) refl e (λ g. none-under d entries g)
  where
    by : (t : Bool) → bytes_eq d entry.0 ≡ t → (t || list_any (bytes_eq d) (keys_of entries)) ≡ false → (list_any (bytes_eq d) (keys_of entries) ≡ false → under d entries ≡ None)
        → under d (entry ∷ entries) ≡ None
    by true f g rest = absurd (true≢false g)
    by false f g rest = under-rest d entry entries (names-turn d entry.0 f) ∙ rest g

pub none-listed-there : (d w : Name) (entries : ByName) → AreByDomain entries → list_any (bytes_eq d) (keys_of entries) ≡ false → is_listed d w (all_listed entries) ≡ false
none-listed-there d w entries hold e = listed-under d w entries hold ∙ ap (λ (o : Option Names). is_listed d w (listed_in o)) (none-under d entries e)

-- where no workflow is listed there is no domain
pub none-there : (entries : ByName) → AreByDomain entries → (length (all_listed entries) == 0) ≡ (length entries == 0)
none-there [] hold = refl
none-there (entry ∷ entries) hold = by entry.1 (hold-first AreOf entry entries hold).some
  where
    by : (list : Names) → (length list == 0) ≡ false → (length (list ++ all_listed entries) == 0) ≡ (length (entry ∷ entries) == 0)
    by [] some = absurd (true≢false some)
    by (names ∷ list) some = eqb-suc-zero (length (list ++ all_listed entries)) ∙ sym (eqb-suc-zero (length entries))

-- one that is listed is there
pub some-there : (d w : Name) (list : Names) → is_listed d w list ≡ true → (length list == 0) ≡ false
some-there d w [] e = absurd (true≢false (sym e))
some-there d w (names ∷ list) e = eqb-suc-zero (length list)

-- workflows of which none is of another domain are all of this one
pub all-own : (domain : Name) (list : Names) → ((d w : Name) → bytes_eq d domain ≡ false → is_listed d w list ≡ false) → AllByRecursion (λ names. names.0 ≡ domain) list
all-own domain [] own = tt
all-own domain (names ∷ list) own = (by (bytes_eq names.0 domain) refl, all-own domain list (λ d w e. rest d w (is_named d w names) (own d w e)))
  where
    itself : is_named names.0 names.1 names ≡ true
    itself = ap (λ t. t && bytes_eq names.1 names.1) (name-itself names.0) ∙ name-itself names.1

    by : (t : Bool) → bytes_eq names.0 domain ≡ t → names.0 ≡ domain
    by true e = (bytes_eq-Decides names.0 domain).0 e
    by false e = absurd (true≢false (sym (ap (λ t. t || is_listed names.0 names.1 list) itself) ∙ own names.0 names.1 e))

    rest : (d w : Name) (t : Bool) → (t || is_listed d w list) ≡ false → is_listed d w list ≡ false
    rest d w true e = absurd (true≢false e)
    rest d w false e = e

-- a change of what is listed, which is none where nothing is asked of a workflow
module _ (change : Bool → Bool → Bool) (none : (t : Bool) → change false t ≡ t) (domain workflow : Name) where
  -- what is listed of a domain changed so, and so it is of this domain still
  pub still-own : (before after : Names) → ((d w : Name) → is_listed d w after ≡ change (is_named d w (domain, workflow)) (is_listed d w before))
      → ((d w : Name) → bytes_eq d domain ≡ false → is_listed d w before ≡ false) → (d w : Name) → bytes_eq d domain ≡ false → is_listed d w after ≡ false
  still-own before after changed own d w e =
      changed d w ∙ ap (λ t. change (t && bytes_eq workflow w) (is_listed d w before)) (names-turn d domain e) ∙ none (is_listed d w before) ∙ own d w e

  -- what stands under the domain changed so, and nothing under another: so did all that is listed
  pub listed-changed : (o : Option Names) (before after : ByName) → AreByDomain before → AreByDomain after
      → ((q : Name) → under q after ≡ (if bytes_eq domain q then o else under q before))
      → ((d w : Name) → is_listed d w (listed_in o) ≡ change (is_named d w (domain, workflow)) (is_listed d w (listed_in (under domain before))))
      → (d w : Name) → is_listed d w (all_listed after) ≡ change (is_named d w (domain, workflow)) (is_listed d w (all_listed before))
  listed-changed o before after old new found changed d w =
      listed-under d w after new ∙ ap (λ (p : Option Names). is_listed d w (listed_in p)) (found d) ∙ by (bytes_eq domain d) refl
      ∙ ap (change (is_named d w (domain, workflow))) (sym (listed-under d w before old))
    where
      by : (t : Bool) → bytes_eq domain d ≡ t
          → is_listed d w (listed_in (if t then o else under d before)) ≡ change (is_named d w (domain, workflow)) (is_listed d w (listed_in (under d before)))
      by true e = changed d w ∙ ap (λ (q : Name). change (is_named d w (domain, workflow)) (is_listed d w (listed_in (under q before)))) ((bytes_eq-Decides domain d).0 e)
      by false e = sym (ap (λ t. change (t && bytes_eq workflow w) (is_listed d w (listed_in (under d before)))) e ∙ none (is_listed d w (listed_in (under d before))))

-- the domains that are left, and the one that changed, have some workflows of them
pub changed-holds : (domain : Name) (o : Option Names) (before after : ByName) → IfSome o (AreOf domain) → ((q : Name) → under q after ≡ (if bytes_eq domain q then o else under q before))
    → IsStrictlySortedBy names_cmp (keys_of after) → AreByDomain before → AreByDomain after
changed-holds domain o before after new found ordered hold = record { ordered = ordered; each = λ q list f. by q list o new (bytes_eq domain q) refl (sym (found q) ∙ f) }
  where
    by : (q : Name) (list : Names) (p : Option Names) → IfSome p (AreOf domain) → (t : Bool) → bytes_eq domain q ≡ t → (if t then p else under q before) ≡ Some list → AreOf q list
    by q list None new true e f = absurd (cc)
    by q list (Some x) new true e f = let same : x ≡ list = cc in subst (λ (k : Name). AreOf k list) ((bytes_eq-Decides domain q).0 e) (subst (AreOf domain) same new)
    by q list p new false e f = hold.each q list f

-- a domain was taken out after a change of it
pub found-without : (domain : Name) (o : Option Names) (before between after : ByName) → ((q : Name) → under q between ≡ (if bytes_eq domain q then o else under q before))
    → ((q : Name) → under q after ≡ cond (is_eq (names_cmp domain q)) None (under q between)) → (q : Name) → under q after ≡ (if bytes_eq domain q then None else under q before)
found-without domain o before between after changed taken q =
    taken q ∙ ap (λ t. cond t None (under q between)) (is_eq-slice_cmp domain q) ∙ ap (cond (bytes_eq domain q) None) (changed q) ∙ by (bytes_eq domain q)
  where
    by : (t : Bool) → cond t None (if t then o else under q before) ≡ (if t then None else under q before)
    by true = refl
    by false = refl

-- a workflow was put to those of a domain
more-own : (domain workflow : Name) (before after : Names) → ((d w : Name) → is_listed d w after ≡ (is_named d w (domain, workflow) || is_listed d w before))
    → ((d w : Name) → bytes_eq d domain ≡ false → is_listed d w before ≡ false) → AreOf domain after
more-own domain workflow before after put own = record {
  some = some-there domain workflow after (put domain workflow ∙ ap (λ t. t || is_listed domain workflow before) itself);
  own = still-own (λ s t. s || t) (λ t. refl) domain workflow before after put own;
}
  where
    itself : is_named domain workflow (domain, workflow) ≡ true
    itself = ap (λ t. t && bytes_eq workflow workflow) (name-itself domain) ∙ name-itself workflow

-- or it was not
pub put-own : {A E : Type 0} (r : Result A E) (domain workflow : Name) (before after : Names) → OnOk r ((d w : Name) → is_listed d w after ≡ (is_named d w (domain, workflow) || is_listed d w before))
    → OnErr r (after ≡ before) → AreOf domain before → AreOf domain after
put-own (Ok x) domain workflow before after put err of = more-own domain workflow before after put of.own
put-own (Err e) domain workflow before after put err of = subst (AreOf domain) (sym err) of

-- it is the first one of the domain
pub first-own : (domain workflow : Name) (before after : Names) → before ≡ [] → ((d w : Name) → is_listed d w after ≡ (is_named d w (domain, workflow) || is_listed d w before)) → AreOf domain after
first-own domain workflow before after none put = more-own domain workflow before after put (λ d w e. ap (is_listed d w) none)

-- no workflow is in order
pub sorted-none : IsStrictlySortedBy names_order []
unfolding IsStrictlySortedBy
sorted-none = tt

-- what stands under a domain are the workflows of it that are listed
pub those-of : (domain : Name) (o : Option Names) (entries : ByName) → AreByDomain entries → o ≡ under domain entries → IfSome o (λ list. IsStrictlySortedBy names_order list)
    → AreThoseOf domain (listed_in o) (all_listed entries)
those-of domain None entries hold e ordered = record {
  ordered = sorted-none;
  own = tt;
  listed = λ w. sym (listed-under domain w entries hold ∙ ap (λ (p : Option Names). is_listed domain w (listed_in p)) (sym e));
}
those-of domain (Some list) entries hold e ordered = record {
  ordered = ordered;
  own = all-own domain list (hold.each domain list (sym e)).own;
  listed = λ w. sym (listed-under domain w entries hold ∙ ap (λ (p : Option Names). is_listed domain w (listed_in p)) (sym e));
}

-- a workflow was taken from those of a domain, of which some are left
pub take-own : (domain workflow : Name) (before after : Names) (empty : Bool) → ((d w : Name) → is_listed d w after ≡ (not (is_named d w (domain, workflow)) && is_listed d w before))
    → empty ≡ (length after == 0) → empty ≡ false → AreOf domain before → AreOf domain after
take-own domain workflow before after empty taken is some of = record {
  some = sym is ∙ some;
  own = still-own (λ s t. not s && t) (λ t. refl) domain workflow before after taken of.own;
}

-- none is left
pub take-last : (domain workflow : Name) (o : Option Names) (before after : Names) (empty : Bool) → Some before ≡ o
    → ((d w : Name) → is_listed d w after ≡ (not (is_named d w (domain, workflow)) && is_listed d w before)) → empty ≡ (length after == 0) → empty ≡ true
    → (d w : Name) → false ≡ (not (is_named d w (domain, workflow)) && is_listed d w (listed_in o))
take-last domain workflow o before after empty there taken is none d w =
    sym (ap (is_listed d w) (nil_from_length after (eqb-true (length after) 0 (sym is ∙ none)))) ∙ taken d w
    ∙ ap (λ (p : Option Names). not (is_named d w (domain, workflow)) && is_listed d w (listed_in p)) there

-- a workflow of a domain of which none is listed is not listed
pub take-none : (domain workflow : Name) (entries : ByName) → AreByDomain entries → None ≡ under domain entries
    → (d w : Name) → is_listed d w (all_listed entries) ≡ (not (is_named d w (domain, workflow)) && is_listed d w (all_listed entries))
take-none domain workflow entries hold none =
    listed-changed (λ s t. not s && t) (λ t. refl) domain workflow None entries entries hold hold (λ q. by q (bytes_eq domain q) refl)
    (λ d w. nothing (not (is_named d w (domain, workflow))) ∙ ap (λ (o : Option Names). not (is_named d w (domain, workflow)) && is_listed d w (listed_in o)) none)
  where
    by : (q : Name) (t : Bool) → bytes_eq domain q ≡ t → under q entries ≡ (if t then None else under q entries)
    by q true e = subst (λ (k : Name). under k entries ≡ None) ((bytes_eq-Decides domain q).0 e) (sym none)
    by q false e = refl

    nothing : (t : Bool) → false ≡ (t && false)
    nothing true = refl
    nothing false = refl
