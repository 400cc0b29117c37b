-- Strays: each is an original signal, so they are no more than these; and what is written for them may be added.
use Rattle.std.proofs.Common.{◌≡◌, ◌≤◌, ◌||◌, Bool, true, false, List, [], ◌∷◌, ◌++◌, length, map, ◌⊎◌, inl, inr, Option, Some, None, refl, sym, ◌∙◌, subst, ap, arith}
use Rattle.std.specs.List.{filter, list_any}
use Rattle.std.specs.Prelude.{if◌then◌else◌}
use Rattle.std.specs.Cmp.{IsEquivalence}
use Rattle.std.proofs.lemmas.List.{length-append, length-map}
use Rattle.std.proofs.lemmas.List.Sums.{length-filter}
use Rattle.std.proofs.lemmas.Map.Made.{IsDistinct-from_AllPairs, length-le_from_is_member}
use Rattle.ndc_event.specs.declared.batch.Batch.{Batch}
use Rattle.ndc_event.specs.declared.batch.Event.{Event}
use Rattle.ndc_event.specs.declared.key.Origin.{Origin}
use Rattle.ndc_event.specs.declared.key.RunId.{RunId}
use Rattle.ndc_event.specs.declared.kind.EventKind.TheVariants.{WorkflowExecutionSignaled}
use Rattle.ndc_event.specs.declared.name.Name.{Name}
use Rattle.ndc_index.specs.Texts.{is_original}
use Rattle.ndc_laws_cells.proofs.Lists.{among-is, is-among}
use Rattle.ndc_laws_cells.specs.Entries.{originals_in}
use Rattle.ndc_reapply.specs.Strays.{origin_lt, origins_of, strays_of, with_stray}
use Rattle.ndc_reapply.specs.declared.stray.Stray.{Stray}
use Rattle.ndc_reapply.proofs.LawProofs.{strays_apart}
use Rattle.ndc_reapply.proofs.OrderLemmas.{same_origin-is, same_origin-self}
use Rattle.ndc_model_sets.specs.Current.{settled, strays}
use Rattle.ndc_model_sets.specs.Origins.{signals, signals_in}
use Rattle.ndc_model_sets.specs.Sets.{Has}
use Rattle.ndc_model_sets.specs.Sound.{CopiesNamed, HasOriginal, NamesOriginal}
use Rattle.ndc_model_sets.proofs.ForkLemmas.{among-cases, among-left, among-right}
use Rattle.ndc_model_sets.proofs.Lists.{Among, all-among, among-filter, among-map, list_any-one, map-among}
use Rattle.ndc_state.specs.Origins.{is_among, origin_of, same_origin}
use Rattle.ndc_laws_cells.proofs.CountLemmas.{originals-cons}
use Rattle.ndc_laws_cells.proofs.FreshLemmas.{signal-from}

-- a stray is one of the signals
with-stray-among : (new s : Stray) (list : List Stray) → Among s (with_stray new list) → (s ≡ new) ⊎ Among s list
with-stray-among new s [] (inl e) = inl e
with-stray-among new s [] (inr h) = absurd h
with-stray-among new s (x ∷ xs) h = by (origin_lt new.origin x.origin) (origin_lt x.origin new.origin) h (with-stray-among new s xs)
  where
    first : (s ≡ new) ⊎ Among s (x ∷ xs) → (s ≡ new) ⊎ Among s (x ∷ xs)
    first c = c

    later : (s ≡ new) ⊎ Among s xs → (s ≡ new) ⊎ Among s (x ∷ xs)
    later (inl e) = inl e
    later (inr k) = inr (inr k)

    by : (less more : Bool) → Among s (if less then new ∷ x ∷ xs else if more then x ∷ with_stray new xs else new ∷ xs) → (Among s (with_stray new xs) → (s ≡ new) ⊎ Among s xs)
        → (s ≡ new) ⊎ Among s (x ∷ xs)
    by true more k rest = first k
    by false true (inl e) rest = inr (inl e)
    by false true (inr k) rest = later (rest k)
    by false false k rest = later k

stray-among : (signals : List Stray) (settled : List Origin) (s : Stray) → Among s (strays_of signals settled) → Among s signals
stray-among [] settled s h = absurd h
stray-among (x ∷ xs) settled s h = by (is_among x.origin settled) h (stray-among xs settled s)
  where
    put : (s ≡ x) ⊎ Among s (strays_of xs settled) → (Among s (strays_of xs settled) → Among s xs) → Among s (x ∷ xs)
    put (inl e) rest = inl e
    put (inr k) rest = inr (rest k)

    by : (known : Bool) → Among s (if known then strays_of xs settled else with_stray x (strays_of xs settled)) → (Among s (strays_of xs settled) → Among s xs) → Among s (x ∷ xs)
    by true k rest = inr (rest k)
    by false k rest = put (with-stray-among x s (strays_of xs settled) k) rest

-- a signal of batches is one of a batch
pub signal-batch : (bs : List Batch) (s : Stray) → Among s (signals bs) → (b : Batch) × Among b bs × Among s (signals_in b.run b.events)
signal-batch [] s h = absurd h
signal-batch (b ∷ bs) s h = by (among-cases s (signals_in b.run b.events) (signals bs) h) (signal-batch bs s)
  where
    by : Among s (signals_in b.run b.events) ⊎ Among s (signals bs) → (Among s (signals bs) → (x : Batch) × Among x bs × Among s (signals_in x.run x.events))
        → (x : Batch) × Among x (b ∷ bs) × Among s (signals_in x.run x.events)
    by (inl k) rest = (b, inl refl, k)
    by (inr k) rest = let r = rest k in (r.0, inr r.1, r.2)

-- the origin of a signal names an original one
pub origin-named : (all : List Batch) → CopiesNamed all → (b : Batch) (e : Event) (name input : Name) (from : Option Origin) → Has all b → Among e b.events
    → e.kind ≡ WorkflowExecutionSignaled name input from → HasOriginal all (origin_of b.run e.id e.version from) name input
origin-named all named b e name input None has h kind =
    record { batch = b; has = has; event = e; among = among-is b.events e h; named = record { run_is = refl; event_is = refl; version_is = refl }; kind = kind }
origin-named all named b e name input (Some origin) has h kind = all-among (λ (x : Event). NamesOriginal all x.kind) b.events e (named b has) h name input origin kind

pub stray-original : (all part : List Batch) → CopiesNamed all → ((b : Batch) → Among b part → Has all b) → (s : Stray) → Among s (strays part) → HasOriginal all s.origin s.name s.input
stray-original all part named within s h =
    let at = signal-batch part s (stray-among (signals part) (settled part) s h) in
    let c = signal-from at.0.run at.0.events s at.2 in
    subst (λ o. HasOriginal all o s.name s.input) (sym c.origin) (origin-named all named at.0 c.event s.name s.input c.from (within at.0 at.1) c.among c.kind)

-- the origins of original signals
abbrev origin_at : RunId → Event → Origin
origin_at run e = record { run = run; event = e.id; version = e.version }

abbrev originals_of : List Batch → List Origin
originals_of [] = []
originals_of (b ∷ bs) = map (origin_at b.run) (filter (λ e. is_original e.kind) b.events) ++ originals_of bs

originals-length : (bs : List Batch) → length (originals_of bs) ≡ originals_in bs
originals-length [] = refl
originals-length (b ∷ bs) =
    let whole = length-append (map (origin_at b.run) (filter (λ (e : Event). is_original e.kind) b.events)) (originals_of bs) in
    let mapped = length-map (filter (λ (e : Event). is_original e.kind) b.events) (origin_at b.run) in
    let front = length-filter (λ (e : Event). is_original e.kind) b.events in
    let rest = originals-length bs in
    let sum = originals-cons b bs in
    omega (arith, whole, mapped, front, rest, sum)

original-among : (bs : List Batch) (b : Batch) (e : Event) → Among b bs → Among e b.events → is_original e.kind ≡ true → Among (origin_at b.run e) (originals_of bs)
original-among [] b e h k is = absurd h
original-among (x ∷ xs) b e (inl same) k is =
    among-left (origin_at b.run e) (map (origin_at x.run) (filter (λ (e : Event). is_original e.kind) x.events)) (originals_of xs)
    (subst (λ (y : Batch). Among (origin_at b.run e) (map (origin_at y.run) (filter (λ (e : Event). is_original e.kind) y.events))) same
    (among-map (origin_at b.run) (filter (λ (e : Event). is_original e.kind) b.events) e (among-filter (λ (e : Event). is_original e.kind) b.events e is k)))
original-among (x ∷ xs) b e (inr h) k is =
    among-right (origin_at b.run e) (map (origin_at x.run) (filter (λ (e : Event). is_original e.kind) x.events)) (originals_of xs) (original-among xs b e h k is)

-- origins compare as they are
origins-equivalent : IsEquivalence same_origin
origins-equivalent = record {
  refl = same_origin-self;
  symm = λ one two. turned one two (same_origin one two) refl (same_origin two one) refl;
  congr = λ one two three e. ap (λ o. same_origin o three) (same_origin-is one two e);
}
  where
    turned : (one two : Origin) (a : Bool) → same_origin one two ≡ a → (b : Bool) → same_origin two one ≡ b → a ≡ b
    turned one two true e true f = refl
    turned one two false e false f = refl
    turned one two true e false f = let same = same_origin-is one two e in sym (sym f ∙ ap (λ o. same_origin two o) same ∙ same_origin-self two)
    turned one two false e true f = let same = same_origin-is two one f in sym e ∙ ap (λ o. same_origin one o) same ∙ same_origin-self one

-- there are no more strays than original signals
pub strays-few : (all part : List Batch) → CopiesNamed all → ((b : Batch) → Among b part → Has all b) → ((b : Batch) → Has all b → Among b all) → length (strays part) ≤ originals_in all
strays-few all part named within among =
    let few = length-le_from_is_member origins-equivalent (origins_of (strays part)) (originals_of all)
    (IsDistinct-from_AllPairs (λ one two. ((λ e. same_origin-is one two e), (λ e. ap (same_origin one) (sym e) ∙ same_origin-self one))) (origins_of (strays part)) (strays_apart (signals part) (settled part))) member in
    let one = length-map (strays part) (λ (s : Stray). s.origin) in
    let two = originals-length all in
    omega (arith, few, one, two)
  where
    here : (s : Stray) → HasOriginal all s.origin s.name s.input → Among s.origin (originals_of all)
    here s o =
        let at = original-among all o.batch o.event (among o.batch o.has) (is-among o.batch.events o.event o.among) (ap is_original o.kind) in
        subst (λ x. Among x (originals_of all)) (λ i. record { run = sym o.named.run_is i; event = sym o.named.event_is i; version = sym o.named.version_is i }) at

    found : (q : Origin) (os : List Origin) → list_any (same_origin q) os ≡ true → (o : Origin) × Among o os × (same_origin q o ≡ true)
    found q [] e = absurd (cc)
    found q (o ∷ os) e = by (same_origin q o) refl e (found q os)
      where
        by : (t : Bool) → same_origin q o ≡ t → t || list_any (same_origin q) os ≡ true → (list_any (same_origin q) os ≡ true → (x : Origin) × Among x os × (same_origin q x ≡ true))
            → (x : Origin) × Among x (o ∷ os) × (same_origin q x ≡ true)
        by true f h rest = (o, inl refl, f)
        by false f h rest = let r = rest h in (r.0, inr r.1, r.2)

    member : (q : Origin) → list_any (same_origin q) (origins_of (strays part)) ≡ true → list_any (same_origin q) (originals_of all) ≡ true
    member q e =
        let f = found q (origins_of (strays part)) e in
        let m = map-among (λ (s : Stray). s.origin) (strays part) f.0 f.1 in
        let at = here m.0 (stray-original all part named within m.0 m.1) in
        list_any-one (same_origin q) (originals_of all) m.0.origin at (ap (same_origin q) (sym m.2) ∙ f.2)
