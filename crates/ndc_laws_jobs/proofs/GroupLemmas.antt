-- Batches in order, workflow by workflow.
use Rattle.std.proofs.Common.{◌≡◌, Bool, true, false, not, cond, List, [], ◌∷◌, ◌++◌, Option, ◌⊎◌, inl, inr, refl, sym, ◌∙◌, subst, ap, true≢false}
use Rattle.std.specs.List.{AllByRecursion, filter, filter_map, flat_map}
use Rattle.std.specs.Str.{bytes_eq}
use Rattle.std.proofs.lemmas.Bool.{and_from, and_parts}
use Rattle.std.proofs.lemmas.List.Elements.{filter_map-append}
use Rattle.std.proofs.lemmas.Slice.Eq.{bytes_eq-Decides}
use Rattle.std.specs.declared.cmp.Ordering.TheVariants.{Less}
use Rattle.ndc_model_cells.specs.Jobs.{workflows_of}
use Rattle.ndc_model_cells.specs.Places.{AreInOrder, is_of, place_lt, place_of}
use Rattle.ndc_model_cells.proofs.PlaceLemmas.{PlaceIsBefore, WorkflowIsBefore, place-from, place-parts, place-trans}
use Rattle.ndc_laws_cells.proofs.FoundLemmas.{place-irrefl}
use Rattle.ndc_laws_reached.proofs.OwnLemmas.{workflows-among}
use Rattle.ndc_domain.specs.Records.{names_cmp}
use Rattle.ndc_event.specs.declared.batch.Batch.{Batch}
use Rattle.ndc_event.specs.declared.name.Name.{Name}
use Rattle.ndc_model_sets.proofs.Lists.{Among, all-among, all-from, among-filter, filter-among, filter-cases}

-- the workflow of the first comes before that of the second
abbrev pub IsEarlier : Batch → Batch → Type 0
IsEarlier one two = (names_cmp one.domain two.domain ≡ Less) ⊎ ((one.domain ≡ two.domain) × (names_cmp one.workflow two.workflow ≡ Less))

names-of : (one two : Batch) → is_of one.domain one.workflow two ≡ true → (two.domain ≡ one.domain) × (two.workflow ≡ one.workflow)
names-of one two own =
    let p = and_parts (bytes_eq two.domain one.domain) (bytes_eq two.workflow one.workflow) own in
    ((bytes_eq-Decides two.domain one.domain).0 p.0, (bytes_eq-Decides two.workflow one.workflow).0 p.1)

of-names : (one two : Batch) → two.domain ≡ one.domain → two.workflow ≡ one.workflow → is_of one.domain one.workflow two ≡ true
of-names one two d u =
    and_from (bytes_eq two.domain one.domain) (bytes_eq two.workflow one.workflow) ((bytes_eq-Decides two.domain one.domain).1 d) ((bytes_eq-Decides two.workflow one.workflow).1 u)

-- one that comes after is of the same workflow, or of a later one
earlier-or : (one two : Batch) → place_lt (place_of one) (place_of two) ≡ true → (is_of one.domain one.workflow two ≡ true) ⊎ IsEarlier one two
earlier-or one two l = by (place-parts (place_of one) (place_of two) l)
  where
    workflow : one.domain ≡ two.domain → WorkflowIsBefore (place_of one) (place_of two) → (is_of one.domain one.workflow two ≡ true) ⊎ IsEarlier one two
    workflow d (inl less) = inr (inr (d, less))
    workflow d (inr (u, k)) = inl (of-names one two (sym d) (sym u))

    by : PlaceIsBefore (place_of one) (place_of two) → (is_of one.domain one.workflow two ≡ true) ⊎ IsEarlier one two
    by (inl less) = inr (inl less)
    by (inr (d, u)) = workflow d u

-- batches of the same workflows
earlier-same : (one other two : Batch) → is_of one.domain one.workflow other ≡ true → IsEarlier one two → IsEarlier other two
earlier-same one other two own early = by early
  where
    n : (other.domain ≡ one.domain) × (other.workflow ≡ one.workflow)
    n = names-of one other own

    by : IsEarlier one two → IsEarlier other two
    by (inl less) = inl (subst (λ (d : Name). names_cmp d two.domain ≡ Less) (sym n.0) less)
    by (inr (d, less)) = inr (n.0 ∙ d, subst (λ (u : Name). names_cmp u two.workflow ≡ Less) (sym n.1) less)

-- an earlier workflow is another one, and comes before
earlier-place : (one two : Batch) → IsEarlier one two → place_lt (place_of one) (place_of two) ≡ true
earlier-place one two (inl less) = place-from (place_of one) (place_of two) (inl less)
earlier-place one two (inr (d, less)) = place-from (place_of one) (place_of two) (inr (d, inl less))

-- an earlier workflow is not that of what comes after
not-before : (one two other : Batch) → IsEarlier one two → place_lt (place_of two) (place_of other) ≡ true → is_of one.domain one.workflow other ≡ true → ⊥
not-before one two other early l own =
    place-irrefl (place_of other) (place-trans (place_of other) (place_of two) (place_of other) (earlier-place other two (earlier-same one other two own early)) l)

earlier-apart : (one two : Batch) → IsEarlier one two → is_of one.domain one.workflow two ≡ true → ⊥
earlier-apart one two early own = place-irrefl (place_of two) (earlier-place two two (earlier-same one two two own early))

-- the workflows rise
abbrev pub WorkflowsRise : List Batch → Type 0
WorkflowsRise [] = Unit {0}
WorkflowsRise (h ∷ heads) = AllByRecursion (IsEarlier h) heads × WorkflowsRise heads

all-left : (P : Batch → Type 0) (p : Batch → Bool) (bs : List Batch) → AllByRecursion P bs → AllByRecursion P (filter p bs)
all-left P p [] all = tt
all-left P p (b ∷ bs) all = filter-cases (AllByRecursion P) p b bs (λ _. (all.0, all-left P p bs all.1)) (λ _. all-left P p bs all.1)

rise-left : (p : Batch → Bool) (bs : List Batch) → WorkflowsRise bs → WorkflowsRise (filter p bs)
rise-left p [] rise = tt
rise-left p (b ∷ bs) rise = filter-cases WorkflowsRise p b bs (λ _. (all-left (IsEarlier b) p bs rise.0, rise-left p bs rise.1)) (λ _. rise-left p bs rise.1)

pub order-left : (p : Batch → Bool) (bs : List Batch) → AreInOrder bs → AreInOrder (filter p bs)
order-left p [] order = tt
order-left p (b ∷ bs) order =
    filter-cases AreInOrder p b bs (λ _. (all-left (λ other. place_lt (place_of b) (place_of other) ≡ true) p bs order.0, order-left p bs order.1)) (λ _. order-left p bs order.1)

not-true : (t : Bool) → not t ≡ true → t ≡ true → ⊥
not-true true h e = true≢false (sym h)
not-true false h e = true≢false (sym e)

-- the workflows of batches in order rise
heads-rise : (bs : List Batch) → AreInOrder bs → WorkflowsRise (workflows_of bs)
heads-rise [] order = tt
heads-rise (b ∷ bs) order =
    (all-from (IsEarlier b) (filter (λ other. not (is_of b.domain b.workflow other)) (workflows_of bs)) each, rise-left (λ other. not (is_of b.domain b.workflow other)) (workflows_of bs) (heads-rise bs order.1))
  where
    each : (x : Batch) → Among x (filter (λ other. not (is_of b.domain b.workflow other)) (workflows_of bs)) → IsEarlier b x
    each x among =
        let f = filter-among (λ other. not (is_of b.domain b.workflow other)) (workflows_of bs) x among in
        by f.0 (earlier-or b x (all-among (λ other. place_lt (place_of b) (place_of other) ≡ true) bs x order.0 (workflows-among bs x f.1)))
      where
        by : not (is_of b.domain b.workflow x) ≡ true → (is_of b.domain b.workflow x ≡ true) ⊎ IsEarlier b x → IsEarlier b x
        by other (inl own) = absurd (not-true (is_of b.domain b.workflow x) other own)
        by other (inr early) = early

-- each batch is of one of their workflows
abbrev pub IsOfSome : List Batch → Batch → Type 0
IsOfSome heads x = (h : Batch) × Among h heads × (is_of h.domain h.workflow x ≡ true)

listed : (bs : List Batch) (x : Batch) → Among x bs → IsOfSome (workflows_of bs) x
listed [] x none = absurd none
listed (b ∷ bs) x (inl same) = (b, inl refl, subst (λ (y : Batch). is_of b.domain b.workflow y ≡ true) (sym same) (of-names b b refl refl))
listed (b ∷ bs) x (inr among) = by (listed bs x among)
  where
    by : IsOfSome (workflows_of bs) x → IsOfSome (workflows_of (b ∷ bs)) x
    by found = test (is_of b.domain b.workflow found.0) refl
      where
        n : (x.domain ≡ found.0.domain) × (x.workflow ≡ found.0.workflow)
        n = names-of found.0 x found.2

        test : (t : Bool) → is_of b.domain b.workflow found.0 ≡ t → IsOfSome (workflows_of (b ∷ bs)) x
        test true e = let m = names-of b found.0 e in (b, inl refl, of-names b x (n.0 ∙ m.0) (n.1 ∙ m.1))
        test false e = (found.0, inr (among-filter (λ other. not (is_of b.domain b.workflow other)) (workflows_of bs) found.0 (ap not e) found.1), found.2)

-- filters
filter-twice : (p q : Batch → Bool) (bs : List Batch) → ((x : Batch) → p x ≡ true → q x ≡ true) → filter p (filter q bs) ≡ filter p bs
filter-twice p q [] more = refl
filter-twice p q (b ∷ bs) more = by (p b) (q b) refl refl (filter-twice p q bs more)
  where
    by : (s t : Bool) → p b ≡ s → q b ≡ t → filter p (filter q bs) ≡ filter p bs → filter p (cond t (b ∷ filter q bs) (filter q bs)) ≡ cond s (b ∷ filter p bs) (filter p bs)
    by true true e f rest = ap (λ u. cond u (b ∷ filter p (filter q bs)) (filter p (filter q bs))) e ∙ ap (λ l. b ∷ l) rest
    by false true e f rest = ap (λ u. cond u (b ∷ filter p (filter q bs)) (filter p (filter q bs))) e ∙ rest
    by true false e f rest = absurd (true≢false (sym (more b e) ∙ f))
    by false false e f rest = rest

filter-all : (p : Batch → Bool) (bs : List Batch) → ((x : Batch) → Among x bs → p x ≡ true) → filter p bs ≡ bs
filter-all p [] passes = refl
filter-all p (b ∷ bs) passes = ap (λ t. cond t (b ∷ filter p bs) (filter p bs)) (passes b (inl refl)) ∙ ap (λ l. b ∷ l) (filter-all p bs (λ x among. passes x (inr among)))

filter-none : (p : Batch → Bool) (bs : List Batch) → ((x : Batch) → Among x bs → p x ≡ false) → filter p bs ≡ []
filter-none p [] fails = refl
filter-none p (b ∷ bs) fails = ap (λ t. cond t (b ∷ filter p bs) (filter p bs)) (fails b (inl refl)) ∙ filter-none p bs (λ x among. fails x (inr among))

-- those of the first workflow come first
parted : (h : Batch) (bs : List Batch) → AreInOrder bs → ((x : Batch) → Among x bs → (is_of h.domain h.workflow x ≡ true) ⊎ IsEarlier h x)
    → filter (is_of h.domain h.workflow) bs ++ filter (λ other. not (is_of h.domain h.workflow other)) bs ≡ bs
parted h [] order each = refl
parted h (b ∷ bs) order each = by (is_of h.domain h.workflow b) refl (each b (inl refl)) (parted h bs order.1 (λ x among. each x (inr among)))
  where
    false-of : (t : Bool) → (t ≡ true → ⊥) → t ≡ false
    false-of true never = absurd (never refl)
    false-of false never = refl

    by : (t : Bool) → is_of h.domain h.workflow b ≡ t → (is_of h.domain h.workflow b ≡ true) ⊎ IsEarlier h b
        → filter (is_of h.domain h.workflow) bs ++ filter (λ other. not (is_of h.domain h.workflow other)) bs ≡ bs
        → cond t (b ∷ filter (is_of h.domain h.workflow) bs) (filter (is_of h.domain h.workflow) bs)
        ++ cond (not t) (b ∷ filter (λ other. not (is_of h.domain h.workflow other)) bs) (filter (λ other. not (is_of h.domain h.workflow other)) bs) ≡ b ∷ bs
    by true e which rest = ap (λ l. b ∷ l) rest
    by false e (inl own) rest = absurd (true≢false (sym own ∙ e))
    by false e (inr early) rest =
        let none : (x : Batch) → Among x bs → is_of h.domain h.workflow x ≡ false =
        (λ x among. false-of (is_of h.domain h.workflow x) (λ own. not-before h b x early (all-among (λ other. place_lt (place_of b) (place_of other) ≡ true) bs x order.0 among) own)) in
        ap (λ l. l ++ b ∷ filter (λ other. not (is_of h.domain h.workflow other)) bs) (filter-none (is_of h.domain h.workflow) bs none)
        ∙ ap (λ l. b ∷ l) (filter-all (λ other. not (is_of h.domain h.workflow other)) bs (λ x among. ap not (none x among)))

-- batches in order are those of each workflow, one workflow after the other
by-heads : (heads bs : List Batch) → WorkflowsRise heads → AreInOrder bs → ((x : Batch) → Among x bs → IsOfSome heads x) → flat_map (λ h. filter (is_of h.domain h.workflow) bs) heads ≡ bs
by-heads [] [] rise order each = refl
by-heads [] (b ∷ bs) rise order each = absurd ((each b (inl refl)).1)
by-heads (h ∷ heads) bs rise order each =
    ap (λ l. filter (is_of h.domain h.workflow) bs ++ l) (fewer heads rise.0 ∙ by-heads heads rest rise.1 (order-left others bs order) still) ∙ parted h bs order which
  where
    others : Batch → Bool
    others other = not (is_of h.domain h.workflow other)

    rest : List Batch
    rest = filter (λ other. not (is_of h.domain h.workflow other)) bs

    fewer : (ones : List Batch) → AllByRecursion (IsEarlier h) ones → flat_map (λ one. filter (is_of one.domain one.workflow) bs) ones
        ≡ flat_map (λ one. filter (is_of one.domain one.workflow) (filter (λ other. not (is_of h.domain h.workflow other)) bs)) ones
    fewer [] all = refl
    fewer (one ∷ ones) all =
        ap (λ l. l ++ flat_map (λ c. filter (is_of c.domain c.workflow) bs) ones) (sym (filter-twice (is_of one.domain one.workflow) (λ other. not (is_of h.domain h.workflow other)) bs apart))
        ∙ ap (λ l. filter (is_of one.domain one.workflow) (filter (λ other. not (is_of h.domain h.workflow other)) bs) ++ l) (fewer ones all.1)
      where
        apart : (x : Batch) → is_of one.domain one.workflow x ≡ true → not (is_of h.domain h.workflow x) ≡ true
        apart x own = test (is_of h.domain h.workflow x) refl
          where
            test : (t : Bool) → is_of h.domain h.workflow x ≡ t → not (is_of h.domain h.workflow x) ≡ true
            test false e = ap not e
            test true e =
                let n = names-of one x own in
                let m = names-of h x e in
                absurd (earlier-apart h one all.0 (of-names h one (sym n.0 ∙ m.0) (sym n.1 ∙ m.1)))

    which : (x : Batch) → Among x bs → (is_of h.domain h.workflow x ≡ true) ⊎ IsEarlier h x
    which x among = by (each x among)
      where
        by : IsOfSome (h ∷ heads) x → (is_of h.domain h.workflow x ≡ true) ⊎ IsEarlier h x
        by found = at found.1
          where
            at : (found.0 ≡ h) ⊎ Among found.0 heads → (is_of h.domain h.workflow x ≡ true) ⊎ IsEarlier h x
            at (inl same) = inl (subst (λ (c : Batch). is_of c.domain c.workflow x ≡ true) same found.2)
            at (inr there) = inr (later (all-among (IsEarlier h) heads found.0 rise.0 there))
              where
                n : (x.domain ≡ found.0.domain) × (x.workflow ≡ found.0.workflow)
                n = names-of found.0 x found.2

                later : IsEarlier h found.0 → IsEarlier h x
                later (inl less) = inl (subst (λ (d : Name). names_cmp h.domain d ≡ Less) (sym n.0) less)
                later (inr (d, less)) = inr (d ∙ sym n.0, subst (λ (u : Name). names_cmp h.workflow u ≡ Less) (sym n.1) less)

    still : (x : Batch) → Among x (filter (λ other. not (is_of h.domain h.workflow other)) bs) → IsOfSome heads x
    still x among =
        let f = filter-among (λ other. not (is_of h.domain h.workflow other)) bs x among in
        by f.0 (each x f.1)
      where
        by : not (is_of h.domain h.workflow x) ≡ true → IsOfSome (h ∷ heads) x → IsOfSome heads x
        by other found = at found.1
          where
            at : (found.0 ≡ h) ⊎ Among found.0 heads → IsOfSome heads x
            at (inl same) = absurd (not-true (is_of h.domain h.workflow x) other (subst (λ (c : Batch). is_of c.domain c.workflow x ≡ true) same found.2))
            at (inr there) = (found.0, there, found.2)

-- what is given of each workflow's batches
map-parts : {X Y : Type 0} (f : Batch → Option Y) (part : X → List Batch) (xs : List X) → flat_map (λ x. filter_map f (part x)) xs ≡ filter_map f (flat_map part xs)
map-parts f part [] = refl
map-parts f part (x ∷ xs) = ap (λ l. filter_map f (part x) ++ l) (map-parts f part xs) ∙ sym (filter_map-append f (part x) (flat_map part xs))

-- batches in order, each of a workflow of some others in order
pub by-workflow : {Y : Type 0} (f : Batch → Option Y) (bs of : List Batch) → AreInOrder bs → AreInOrder of → ((x : Batch) → Among x bs → (p : Batch) × Among p of × (is_of p.domain p.workflow x ≡ true))
    → flat_map (λ h. filter_map f (filter (is_of h.domain h.workflow) bs)) (workflows_of of) ≡ filter_map f bs
by-workflow f bs of order other each =
    map-parts f (λ h. filter (is_of h.domain h.workflow) bs) (workflows_of of) ∙ ap (filter_map f) (by-heads (workflows_of of) bs (heads-rise of other) order some)
  where
    some : (x : Batch) → Among x bs → IsOfSome (workflows_of of) x
    some x among = by (each x among)
      where
        by : ((p : Batch) × Among p of × (is_of p.domain p.workflow x ≡ true)) → IsOfSome (workflows_of of) x
        by found = from (listed of found.0 found.1)
          where
            from : IsOfSome (workflows_of of) found.0 → IsOfSome (workflows_of of) x
            from l =
                let n = names-of found.0 x found.2 in
                let m = names-of l.0 found.0 l.2 in
                (l.0, l.1, of-names l.0 x (n.0 ∙ m.0) (n.1 ∙ m.1))
