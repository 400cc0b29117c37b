-- What is served lies between the ends of the gap.
use Rattle.std.proofs.Common.{◌≡◌, ℕ, ◌+◌, ◌<◌, ◌≤◌, Bool, true, false, cond, List, [], ◌∷◌, ◌++◌, Option, Some, None, nat_lt, ◌&&◌, ◌==◌, if◌then◌else◌, refl, sym, ap, subst, ◌∙◌, arith, true≢false}
use Rattle.std.specs.List.{AllByRecursion, list_all}
use Rattle.std.proofs.lemmas.Bool.{eqb-true, le-ltb, lt-ltb, ltb-true}
use Rattle.std.proofs.lemmas.List.Elements.{filter-append}
use Rattle.ndc_event.specs.Batch.{follow_from}
use Rattle.ndc_event.specs.declared.batch.Batch.{Batch}
use Rattle.ndc_event.specs.declared.batch.Event.{Event}
use Rattle.ndc_event.specs.declared.key.BatchKey.{BatchKey}
use Rattle.ndc_resend.specs.Gaps.{end_behind, is_between, served}
use Rattle.ndc_history.specs.Common.{item_or_zero}
use Rattle.ndc_resend.specs.declared.serving.Gap.{Gap}
use Rattle.ndc_resend.specs.Serving.{answered, with_carriers}
use Rattle.ndc_model_sets.specs.Paths.{IsPath, first, below, first_id, last_from, last_id, last_item_of, path_to}
use Rattle.ndc_model_sets.specs.Sets.{Has, batch_at}
use Rattle.ndc_model_sets.specs.Sound.{IsSound}
use Rattle.ndc_state.specs.Replay.{history_of}
use Rattle.ndc_model_sets.proofs.FaultLemmas.{passes}
use Rattle.ndc_model_sets.proofs.PathIds.{ends, ends-last, follow-front, follow-rest, history-append, path-events}
use Rattle.ndc_model_sets.proofs.NoPaths.{no-path}
use Rattle.ndc_model_sets.proofs.PathLemmas.{path_is}
use Rattle.ndc_model_sets.proofs.SetLemmas.{found-key}

-- a batch has an event
pub record HasEvents (b : Batch) : Type 0 where
  pub event : Event
  pub events : List Event
  pub are : b.events ≡ event ∷ events

-- what follows two tests that hold together
both-parts : (one two : Bool) → (one && two) ≡ true → (one ≡ true) × (two ≡ true)
both-parts true two h = (refl, h)
both-parts false two h = absurd (cc)

-- where events end that follow an id
ends-least : (n : ℕ) (events : List Event) → follow_from n events ≡ true → n ≤ ends n events
ends-least n [] h = omega arith
ends-least n (e ∷ es) h =
    let p = both-parts (e.id == n + 1) (follow_from e.id es) h in
    let next : e.id ≡ n + 1 = eqb-true e.id (n + 1) p.0 in
    let more = ends-least e.id es p.1 in
    omega (arith, next, more)

-- events that end after others
ends-append : (n : ℕ) (front rest : List Event) → ends n (front ++ rest) ≡ ends (ends n front) rest
ends-append n [] rest = refl
ends-append n (e ∷ es) rest = ends-append e.id es rest

-- what is known of a batch whose events follow an id
record Follows (n : ℕ) (b : Batch) : Type 0 where
  pub first : first_id b.events ≡ n + 1
  pub last : last_id b.events ≡ ends n b.events
  pub least : first_id b.events ≤ last_id b.events

follows : (n : ℕ) (b : Batch) → HasEvents b → follow_from n b.events ≡ true → Follows n b
follows n b has h = by b.events has.are h
  where
    by : (events : List Event) → events ≡ has.event ∷ has.events → follow_from n events ≡ true
        → Follows n (record b { events = events })
    by [] e h = absurd (cc)
    by (x ∷ xs) e h =
        let p = both-parts (x.id == n + 1) (follow_from x.id xs) h in
        let least = ends-least x.id xs p.1 in
        let end : ends n (x ∷ xs) ≡ (last_from x xs).id = ends-last n x xs in
        record { first = eqb-true x.id (n + 1) p.0; last = sym end; least = omega (arith, least, end) }

-- the events of the first batch and of the rest
pub record Parts (n : ℕ) (b : Batch) (rest : List Batch) : Type 0 where
  pub here : follow_from n b.events ≡ true
  pub there : follow_from (ends n b.events) (history_of rest) ≡ true

parts : (n : ℕ) (b : Batch) (rest : List Batch) → follow_from n (history_of (b ∷ rest)) ≡ true → Parts n b rest
parts n b rest h = record { here = follow-front n b.events (history_of rest) h; there = follow-rest n b.events (history_of rest) h }

-- nothing is served of what comes before the gap
none-before : (gap : Gap) (n : ℕ) (front : List Batch) → AllByRecursion HasEvents front → follow_from n (history_of front) ≡ true
    → ends n (history_of front) ≤ gap.after.id → served gap front ≡ []
none-before gap n [] has h most = refl
none-before gap n (c ∷ front) has h most =
    let p = parts n c front h in
    let f = follows n c has.0 p.here in
    let further = ends-least (ends n c.events) (history_of front) p.there in
    let whole : ends n (c.events ++ history_of front) ≡ ends (ends n c.events) (history_of front) = ends-append n c.events (history_of front) in
    let below_it : first_id c.events ≤ gap.after.id = omega (arith, f.least, f.last, further, whole, most) in
    let rest : ends (ends n c.events) (history_of front) ≤ gap.after.id = omega (arith, whole, most) in
    rw (le-ltb gap.after.id (first_id c.events) below_it) (none-before gap (ends n c.events) front has.1 p.there rest)

-- the batch after others begins after the id that they follow
begins-behind : (n : ℕ) (middle : List Batch) (b : Batch) → AllByRecursion HasEvents (middle ++ b ∷ []) → follow_from n (history_of (middle ++ b ∷ [])) ≡ true
    → n < first_id b.events
begins-behind n [] b has h =
    let p = parts n b [] h in
    let f = follows n b has.0 p.here in
    omega (arith, f.first)
begins-behind n (c ∷ middle) b has h =
    let p = parts n c (middle ++ b ∷ []) h in
    let more = begins-behind (ends n c.events) middle b has.1 p.there in
    let least = ends-least n c.events p.here in
    omega (arith, more, least)

-- all is served that comes between, and not the batch after the gap
all-between : (gap : Gap) (n : ℕ) (middle : List Batch) (b : Batch) → AllByRecursion HasEvents (middle ++ b ∷ []) → follow_from n (history_of (middle ++ b ∷ [])) ≡ true
    → gap.after.id ≤ n → gap.before.id ≡ first_id b.events → served gap (middle ++ b ∷ []) ≡ middle
all-between gap n [] b has h most end =
    let p = parts n b [] h in
    let f = follows n b has.0 p.here in
    let later : gap.before.id ≤ last_id b.events = omega (arith, f.least, end) in
    out (nat_lt gap.after.id (first_id b.events)) (le-ltb (last_id b.events) gap.before.id later)
  where
    out : (t : Bool) → nat_lt (last_id b.events) gap.before.id ≡ false → cond (t && nat_lt (last_id b.events) gap.before.id) (b ∷ []) [] ≡ []
    out true e = rw e refl
    out false e = refl
all-between gap n (c ∷ middle) b has h most end =
    let p = parts n c (middle ++ b ∷ []) h in
    let f = follows n c has.0 p.here in
    let least = ends-least n c.events p.here in
    let behind = begins-behind (ends n c.events) middle b has.1 p.there in
    let after_it : gap.after.id < first_id c.events = omega (arith, f.first, most) in
    let before_it : last_id c.events < gap.before.id = omega (arith, f.last, behind, end) in
    let still : gap.after.id ≤ ends n c.events = omega (arith, most, least) in
    rw (lt-ltb gap.after.id (first_id c.events) after_it, lt-ltb (last_id c.events) gap.before.id before_it)
    (ap (λ rest. c ∷ rest) (all-between gap (ends n c.events) middle b has.1 p.there still end))

-- batches that follow an id begin after it, and so after each that is not greater
all-later : (id n : ℕ) (bs : List Batch) → AllByRecursion HasEvents bs → follow_from n (history_of bs) ≡ true → id ≤ n → list_all (λ c. nat_lt id (first_id c.events)) bs ≡ true
all-later id n [] has h most = refl
all-later id n (b ∷ bs) has h most =
    let p = parts n b bs h in
    let f = follows n b has.0 p.here in
    let least = ends-least n b.events p.here in
    let behind : id < first_id b.events = omega (arith, f.first, most) in
    let still : id ≤ ends n b.events = omega (arith, most, least) in
    rw (lt-ltb id (first_id b.events) behind) (all-later id (ends n b.events) bs has.1 p.there still)

-- what lies in a gap begins after its first end, and so does all that follows
end-same : (gap : Gap) (n : ℕ) (path : List Batch) → AllByRecursion HasEvents path → follow_from n (history_of path) ≡ true → served gap (end_behind gap.after.id path) ≡ served gap path
end-same gap n [] has h = refl
end-same gap n (c ∷ cs) has h =
    let p = parts n c cs h in
    by (list_all (λ x. nat_lt gap.after.id (first_id x.events)) (c ∷ cs)) refl (end-same gap (ends n c.events) cs has.1 p.there)
  where
    before-it : list_all (λ x. nat_lt gap.after.id (first_id x.events)) (c ∷ cs) ≡ false → (t : Bool) → nat_lt gap.after.id (first_id c.events) ≡ t → nat_lt gap.after.id (first_id c.events) ≡ false
    before-it e false f = f
    before-it e true f =
        let p = parts n c cs h in
        let first = (follows n c has.0 p.here).first in
        let below : gap.after.id < first_id c.events = ltb-true gap.after.id (first_id c.events) f in
        let most : gap.after.id ≤ n = omega (arith, below, first) in
        absurd (true≢false (sym (all-later gap.after.id n (c ∷ cs) has h most) ∙ e))

    by : (t : Bool) → list_all (λ x. nat_lt gap.after.id (first_id x.events)) (c ∷ cs) ≡ t → served gap (end_behind gap.after.id cs) ≡ served gap cs
        → served gap (if t then c ∷ cs else end_behind gap.after.id cs) ≡ served gap (c ∷ cs)
    by true e rest = refl
    by false e rest =
        rest
        ∙ sym (ap (λ t. cond (t && nat_lt (last_id c.events) gap.before.id) (c ∷ served gap cs) (served gap cs)) (before-it e (nat_lt gap.after.id (first_id c.events)) refl))

-- where the gap begins
after-id : (events : List Event) → (item_or_zero (last_item_of events)).id ≡ ends 0 events
after-id [] = refl
after-id (e ∷ es) = sym (ends-last 0 e es)

-- what holds of two lists holds of both after each other
all-append : (P : Batch → Type 0) (xs ys : List Batch) → AllByRecursion P xs → AllByRecursion P ys → AllByRecursion P (xs ++ ys)
all-append P [] ys p q = q
all-append P (x ∷ xs) ys p q = (p.0, all-append P xs ys p.1 q)

-- what holds of a list holds of its two parts
all-front : (P : Batch → Type 0) (xs ys : List Batch) → AllByRecursion P (xs ++ ys) → AllByRecursion P xs
all-front P [] ys p = tt
all-front P (x ∷ xs) ys p = (p.0, all-front P xs ys p.1)

all-rest : (P : Batch → Type 0) (xs ys : List Batch) → AllByRecursion P (xs ++ ys) → AllByRecursion P ys
all-rest P [] ys p = p
all-rest P (x ∷ xs) ys p = all-rest P xs ys p.1

-- a batch of a sound set has events
events-of : (batches : List Batch) (b : Batch) → IsSound batches → Has batches b → HasEvents b
events-of batches b sound has = let p = passes b (sound.faultless b has) in record { event = p.event; events = p.events; are = p.are }

-- each batch of a path has events
path-has_events : (batches : List Batch) (b : Batch) (path : List Batch) → IsSound batches → IsPath batches b path → AllByRecursion HasEvents path
path-has_events batches _ _ sound (first b has none) = (events-of batches b sound has, tt)
path-has_events batches _ _ sound (below b before key path has parent at more) =
    all-append HasEvents path (b ∷ []) (path-has_events batches before path sound more) (events-of batches b sound has, tt)

-- what is served is what lies between what is learned and the batch
pub served_is_between : (batches : List Batch) (b : Batch) (front middle : List Batch) → IsSound batches → Has batches b
    → path_to b.key batches ≡ front ++ (middle ++ b ∷ [])
    → served (record { after = item_or_zero (last_item_of (history_of front)); before = record { id = first_id b.events; version = b.key.version } }) (path_to b.key batches) ≡ middle
served_is_between batches b front middle sound has path =
    let gap : Gap = record { after = item_or_zero (last_item_of (history_of front)); before = record { id = first_id b.events; version = b.key.version } } in
    let is : IsPath batches b (front ++ (middle ++ b ∷ [])) = subst (IsPath batches b) path (path_is batches b sound.set sound.closed has) in
    let events = path-has_events batches b (front ++ (middle ++ b ∷ [])) sound is in
    let follow = subst (λ all. follow_from 0 all ≡ true) (history-append front (middle ++ b ∷ []))
    (path-events batches b (front ++ (middle ++ b ∷ [])) sound.faultless sound.parents is).follow in
    let start = after-id (history_of front) in
    let none : served gap front ≡ [] = none-before gap 0 front (all-front HasEvents front (middle ++ b ∷ []) events)
    (follow-front 0 (history_of front) (history_of (middle ++ b ∷ [])) follow) (omega (arith, start)) in
    let all : served gap (middle ++ b ∷ []) ≡ middle = all-between gap (ends 0 (history_of front)) middle b (all-rest HasEvents front (middle ++ b ∷ []) events)
    (follow-rest 0 (history_of front) (history_of (middle ++ b ∷ [])) follow) (omega (arith, start)) refl in
    ap (served gap) path ∙ filter-append (is_between gap) front (middle ++ b ∷ []) ∙ (λ i. none i ++ all i)

-- of a path it is enough to look at its end that begins after the gap's first end
pub end_is_enough : (batches : List Batch) (b : Batch) (gap : Gap) → IsSound batches → Has batches b → served gap (end_behind gap.after.id (path_to b.key batches)) ≡ served gap (path_to b.key batches)
end_is_enough batches b gap sound has =
    let is : IsPath batches b (path_to b.key batches) = path_is batches b sound.set sound.closed has in
    end-same gap 0 (path_to b.key batches) (path-has_events batches b (path_to b.key batches) sound is) (path-events batches b (path_to b.key batches) sound.faultless sound.parents is).follow

-- so what is answered is what is served of the whole path, with the carriers above it
pub answered_of_the_path : (all : List Batch) (gap : Gap) (key : BatchKey) → IsSound all → answered all gap key ≡ with_carriers all (served gap (path_to key all))
answered_of_the_path all gap key sound = by (batch_at key all) refl
  where
    by : (o : Option Batch) → batch_at key all ≡ o → answered all gap key ≡ with_carriers all (served gap (path_to key all))
    by None none = ap (λ path. with_carriers all (served gap (end_behind gap.after.id path))) (no-path all key none) ∙ ap (λ path. with_carriers all (served gap path)) (sym (no-path all key none))
    by (Some b) some =
        let same = found-key all key b some in
        subst (λ k. answered all gap k ≡ with_carriers all (served gap (path_to k all))) same
        (ap (with_carriers all) (end_is_enough all b gap sound (subst (λ k. batch_at k all ≡ Some b) (sym same) some)))
