-- The workflows to which reapplication writes, domain by domain.
use Rattle.std.proofs.Common.{◌≡◌, Bool, true, false, ◌||◌, List, [], ◌∷◌, ◌++◌, refl, sym, ◌∙◌, subst, ap, true≢false}
use Rattle.std.specs.List.{AllByRecursion, list_any}
use Rattle.std.specs.List.Sorted.{IsStrictlySortedBy}
use Rattle.std.specs.Ordering.{ordering_then}
use Rattle.std.specs.Str.{bytes_eq}
use Rattle.std.specs.declared.cmp.Ordering.TheVariants.{Less}
use Rattle.std.proofs.lemmas.List.Folds.{list_any-append}
use Rattle.std.proofs.lemmas.Map.Keys.{sorted_head, sorted_tail}
use Rattle.std.proofs.lemmas.Slice.Eq.{bytes_eq-Decides}
use Rattle.ndc_domain.specs.Records.{names_cmp}
use Rattle.ndc_event.specs.declared.name.Name.{Name}
use Rattle.ndc_model_cells.specs.Cells.{Cell}
use Rattle.ndc_model_cells.specs.Writing.{Desk, reapplication_of}
use Rattle.ndc_shard_workflows.specs.Due.{AreDueDomains, AreDueIn, is_listed, names_order}
use Rattle.ndc_shard_workflows.specs.Reapplied.{AreReapplied}
use Rattle.ndc_shard_workflows.proofs.AmongLemmas.{idle}
use Rattle.ndc_shard_workflows.proofs.ByDomainLemmas.{sorted-none}
use Rattle.ndc_shard.specs.Again.{AreReappliedOf}

abbrev Names : Type 0
Names = List (Name × Name)

join : {X : Type 0} (P : X → Type 0) (front rest : List X) → AllByRecursion P front → AllByRecursion P rest → AllByRecursion P (front ++ rest)
join P [] rest one two = two
join P (x ∷ front) rest one two = (one.0, join P front rest one.1 two)

-- what none of two lists has, neither has
or-first : (s t : Bool) → (s || t) ≡ false → s ≡ false
or-first true t e = e
or-first false t e = refl

or-second : (s t : Bool) → (s || t) ≡ false → t ≡ false
or-second true t e = absurd (true≢false e)
or-second false t e = e

or-last : (s t : Bool) → t ≡ true → (s || t) ≡ true
or-last true t e = refl
or-last false t e = e

-- what comes before all of some names comes before each
less-in : (d q : Name) (names : List Name) → AllByRecursion (λ y. names_cmp d y ≡ Less) names → list_any (bytes_eq q) names ≡ true → names_cmp d q ≡ Less
less-in d q [] all e = absurd (true≢false (sym e))
less-in d q (name ∷ names) all e = by (bytes_eq q name) refl e (λ g. less-in d q names all.1 g)
  where
    by : (t : Bool) → bytes_eq q name ≡ t → (t || list_any (bytes_eq q) names) ≡ true → (list_any (bytes_eq q) names ≡ true → names_cmp d q ≡ Less) → names_cmp d q ≡ Less
    by true f g rest = subst (λ (k : Name). names_cmp d k ≡ Less) (sym ((bytes_eq-Decides q name).0 f)) all.0
    by false f g rest = rest g

later-than : (d : Name) (names : List Name) → AllByRecursion (λ y. names_cmp d y ≡ Less) names → (list : Names) → AllByRecursion (λ n. list_any (bytes_eq n.0) names ≡ true) list
    → AllByRecursion (λ n. names_cmp d n.0 ≡ Less) list
later-than d names all [] own = tt
later-than d names all (n ∷ list) own = (less-in d n.0 names all own.0, later-than d names all list own.1)

-- workflows of one domain, and those of later ones after them, are in order
later-all : (d : Name) (one : Name × Name) → one.0 ≡ d → (list : Names) → AllByRecursion (λ n. names_cmp d n.0 ≡ Less) list → AllByRecursion (λ k. names_order one k ≡ Less) list
later-all d one e [] later = tt
later-all d one e (k ∷ list) later =
    (ap (λ o. ordering_then o (names_cmp one.1 k.1)) (subst (λ (q : Name). names_cmp q k.0 ≡ Less) (sym e) later.0), later-all d one e list later.1)

sorted-join : (d : Name) (front rest : Names) → AllByRecursion (λ n. n.0 ≡ d) front → AllByRecursion (λ n. names_cmp d n.0 ≡ Less) rest → IsStrictlySortedBy names_order front
    → IsStrictlySortedBy names_order rest → IsStrictlySortedBy names_order (front ++ rest)
unfolding IsStrictlySortedBy
sorted-join d [] rest own later first second = second
sorted-join d (one ∷ front) rest own later first second = (
  join (λ k. names_order one k ≡ Less) front rest (sorted_head names_order one front first) (later-all d one own.0 rest later),
  sorted-join d front rest own.1 later (sorted_tail names_order one front first) second,
)

-- names that are among some are among more
own-more : (d : Name) (names : List Name) (list : Names) → AllByRecursion (λ n. list_any (bytes_eq n.0) names ≡ true) list → AllByRecursion (λ n. list_any (bytes_eq n.0) (d ∷ names) ≡ true) list
own-more d names [] own = tt
own-more d names (n ∷ list) own = (or-last (bytes_eq n.0 d) (list_any (bytes_eq n.0) names) own.0, own-more d names list own.1)

own-first : (d : Name) (names : List Name) (list : Names) → AllByRecursion (λ n. n.0 ≡ d) list → AllByRecursion (λ n. list_any (bytes_eq n.0) (d ∷ names) ≡ true) list
own-first d names [] own = tt
own-first d names (n ∷ list) own = (ap (λ t. t || list_any (bytes_eq n.0) names) ((bytes_eq-Decides n.0 d).1 own.0), own-first d names list own.1)

module _ (home : Desk) (cell : Cell) where
  -- of no domain there is none
  pub none-of : AreReappliedOf home [] [] cell
  none-of = record { ordered = sorted-none; own = tt; each = λ d w e none. absurd (true≢false (sym e)) }

  module _ (domain : Name) (domains : List Name) (rest : Names) (are : AreReappliedOf home domains rest cell) where
    -- by whether a domain is the first
    split : (list : Names) → ((w : Name) → is_listed domain w list ≡ false → reapplication_of home domain w cell ≡ []) → ((d w : Name) → is_listed d w list ≡ false → is_listed d w rest ≡ false)
        → (d w : Name) → list_any (bytes_eq d) (domain ∷ domains) ≡ true → is_listed d w list ≡ false → reapplication_of home d w cell ≡ []
    split list own more d w e none = by (bytes_eq d domain) refl e
      where
        by : (t : Bool) → bytes_eq d domain ≡ t → (t || list_any (bytes_eq d) domains) ≡ true → reapplication_of home d w cell ≡ []
        by true f g =
            let same = (bytes_eq-Decides d domain).0 f in
            subst (λ (k : Name). reapplication_of home k w cell ≡ []) (sym same) (own w (subst (λ (k : Name). is_listed k w list ≡ false) same none))
        by false f g = are.each d w g (more d w none)

    -- a domain to which nothing is written is passed by
    pub passed : ((w : Name) → reapplication_of home domain w cell ≡ []) → AreReappliedOf home (domain ∷ domains) rest cell
    passed nothing = record { ordered = are.ordered; own = own-more domain domains rest are.own; each = split rest (λ w none. nothing w) (λ d w none. none) }

    -- the workflows of another one in which reapplication may be due come before
    pub added : (front : Names) → IsStrictlySortedBy names_cmp (domain ∷ domains) → AreDueIn domain front cell → AreReappliedOf home (domain ∷ domains) (front ++ rest) cell
    added front ordered due = record {
      ordered = sorted-join domain front rest due.own (later-than domain domains (sorted_head names_cmp domain domains ordered) rest are.own) due.ordered are.ordered;
      own = join (λ n. list_any (bytes_eq n.0) (domain ∷ domains) ≡ true) front rest (own-first domain domains front due.own) (own-more domain domains rest are.own);
      each = split (front ++ rest)
          (λ w none. idle home (domain, w) cell (due.each w (or-first (is_listed domain w front) (is_listed domain w rest) (sym (list_any-append _ front rest) ∙ none))))
          (λ d w none. or-second (is_listed d w front) (is_listed d w rest) (sym (list_any-append _ front rest) ∙ none));
    }

  -- those of all domains that have any in which reapplication may be due
  pub of-domains : (domains : List Name) (list : Names) → AreDueDomains domains cell → AreReappliedOf home domains list cell → AreReapplied home list cell
  of-domains domains list due are = record { ordered = are.ordered; each = λ d w none. by d w none (list_any (bytes_eq d) domains) refl }
    where
      by : (d w : Name) → is_listed d w list ≡ false → (t : Bool) → list_any (bytes_eq d) domains ≡ t → reapplication_of home d w cell ≡ []
      by d w none true e = are.each d w e none
      by d w none false e = idle home (d, w) cell (due.each d w e)
