-- In a tree ids rise along the batches of a version, so an event is found by its version and id.
use Rattle.std.proofs.Common.{◌≡◌, ℕ, zero, suc, ◌+◌, ◌<◌, ◌≤◌, Bool, true, false, ◌==◌, List, [], ◌∷◌, ◌⊎◌, inl, inr, Some, None, refl, sym, ◌∙◌, subst, ap, arith, if◌then◌else◌}
use Rattle.std.specs.Prelude.{find}
use Rattle.std.specs.Option.{option_or}
use Rattle.std.proofs.lemmas.Bool.{and_parts, eqb-true, cases_lt}
use Rattle.ndc_event.specs.Batch.{follow_from, fault_of}
use Rattle.ndc_event.specs.Key.{key_lt}
use Rattle.ndc_event.specs.Sorted.{InOrder}
use Rattle.ndc_event.specs.declared.batch.Batch.{Batch}
use Rattle.ndc_event.specs.declared.batch.Event.{Event}
use Rattle.ndc_event.specs.declared.key.RunId.{RunId}
use Rattle.ndc_state.specs.Replay.{history_of}
use Rattle.ndc_model_sets.specs.Paths.{first_id, last_id}
use Rattle.ndc_model_sets.specs.Sets.{Rise, Has}
use Rattle.ndc_model_sets.proofs.BranchLemmas.{among-has, same-batch}
use Rattle.ndc_model_sets.proofs.FaultLemmas.{passes}
use Rattle.ndc_model_sets.proofs.KeyLemmas.{IsBefore, before-parts, key-parts}
use Rattle.ndc_model_sets.proofs.Lists.{Among, all-among, all-from, each-list_all, find-among}
use Rattle.ndc_model_sets.proofs.ForkLemmas.{among-cases}
use Rattle.ndc_model_sets.proofs.PathIds.{ends-last}
use Rattle.ndc_model_sets.proofs.SetLemmas.{found-key, found-has}
use Rattle.ndc_tree.specs.Events.{is_event, event_at, event_of, IdsGoOn, AreVersionsInIdOrder}
use Rattle.ndc_tree.specs.Tree.{IsNextOfVersion, IsTree}
use Rattle.ndc_tree.proofs.IdLemmas.{consecutive, find-join, follows-up, hit, none-above, other-version, own-version, skip}
use Rattle.ndc_tree.proofs.PathLemmas.{parent-there, parent-less}

-- the first id of a batch is at most its last
pub first-last : (b : Batch) → fault_of b ≡ None → first_id b.events ≤ last_id b.events
first-last b ok =
    let p = passes b ok in
    subst (λ (l : List Event). first_id l ≤ last_id l) (sym p.are)
    (subst (λ n. p.event.id ≤ n) (ends-last 0 p.event p.events) (follows-up p.event.id p.events p.consecutive))

module _ (run : RunId) (batches : List Batch) (tree : IsTree run batches) where
  -- of two batches of one version, the one with the greater task has the greater ids
  rise-within : (most : ℕ) (one two : Batch) → two.key.task < most → Has batches one → Has batches two → one.key.version ≡ two.key.version → one.key.task < two.key.task
      → last_id one.events < first_id two.events
  rise-within zero one two l has other version less = absurd (omega (arith, l))
  rise-within (suc most) one two l has other version less =
      let n : IsNextOfVersion one two = tree.follow one two has other version less in
      let p = parent-there run batches tree two n.parent other n.named in
      let own : p.0.key ≡ n.parent = found-key batches n.parent p.0 p.1 in
      let up = parent-less run batches tree two p.0 n.parent other n.named p.1 in
      let ids = (tree.parents two p.0 n.parent other n.named p.1).ids in
      by n p.0 (found-has batches n.parent p.0 p.1) own up ids (cases_lt one.key.task n.parent.task) (λ v t m. rise-within most one p.0 m has (found-has batches n.parent p.0 p.1) v t)
    where
      by : (n : IsNextOfVersion one two) (p : Batch) → Has batches p → p.key ≡ n.parent → p.key.task < two.key.task → last_id p.events + 1 ≡ first_id two.events
          → (one.key.task < n.parent.task) ⊎ (n.parent.task ≤ one.key.task)
          → (one.key.version ≡ p.key.version → one.key.task < p.key.task → p.key.task < most → last_id one.events < first_id p.events) → last_id one.events < first_id two.events
      by n p hp own up ids cases rest = above cases
        where
          versions : one.key.version ≡ p.key.version
          versions = version ∙ sym n.version ∙ sym (ap (λ k. k.version) own)

          tasks : p.key.task ≡ n.parent.task
          tasks = ap (λ k. k.task) own

          above : (one.key.task < n.parent.task) ⊎ (n.parent.task ≤ one.key.task) → last_id one.events < first_id two.events
          above (inl m) = omega (arith, rest versions (omega (arith, m, tasks)) (omega (arith, up, l)), first-last p (tree.faultless p hp), ids)
          above (inr m) =
              let same : one ≡ p = same-batch batches one p has hp (key-parts one.key p.key versions (omega (arith, m, tasks, n.next))) in
              omega (arith, ap (λ (b : Batch). last_id b.events) same, ids)

  go-on : (one two : Batch) → Among one batches → Among two batches → key_lt one.key two.key ≡ true → one.key.version ≡ two.key.version → IdsGoOn one two
  go-on one two h k less version =
      let there = among-has batches two tree.set.ordered k in
      record {
        behind = rise-within (suc two.key.task) one two (omega arith) (among-has batches one tree.set.ordered h) there version (task (before-parts one.key two.key less));
        rise = first-last two (tree.faultless two there);
      }
    where
      task : IsBefore one.key two.key → one.key.task < two.key.task
      task (inl l) = absurd (omega (arith, l, version))
      task (inr m) = m.1

  -- a tree's batches are in the order of their ids, version by version
  pub ids-rise : AreVersionsInIdOrder batches
  ids-rise = (order batches tree.set.ordered (λ b h. h), all-from (λ b. fault_of b ≡ None) batches (λ b h. tree.faultless b (among-has batches b tree.set.ordered h)))
    where
      order : (l : List Batch) → Rise l → ((b : Batch) → Among b l → Among b batches) → InOrder (λ one two. one.key.version ≡ two.key.version → IdsGoOn one two) l
      order [] rise within = tt
      order (b ∷ l) rise within = (
        all-from (λ x. b.key.version ≡ x.key.version → IdsGoOn b x) l
            (λ x h. go-on b x (within b (inl refl)) (within x (inr h)) (all-among (λ y. key_lt b.key y.key ≡ true) l x rise.0 h)),
        order l rise.1 (λ x h. within x (inr h)),
      )

-- an event of a batch is found among consecutive ones
own-event : (n : ℕ) (es : List Event) (e : Event) → follow_from n es ≡ true → Among e es → (n < e.id) × (event_of e.id es ≡ Some e)
own-event n [] e f h = absurd h
own-event n (x ∷ es) e f (inl same) =
    let p = and_parts (x.id == n + 1) (follow_from x.id es) f in
    let own = eqb-true x.id (n + 1) p.0 in
    let one = ap (λ (y : Event). y.id) same in
    (omega (arith, own, one), hit e.id x es (sym one) ∙ ap (λ y. Some y) (sym same))
own-event n (x ∷ es) e f (inr h) =
    let p = and_parts (x.id == n + 1) (follow_from x.id es) f in
    let own = eqb-true x.id (n + 1) p.0 in
    let r = own-event x.id es e p.1 h in
    (omega (arith, own, r.0), skip e.id x es (inl r.0) ∙ r.1)

-- an event of a batch without a fault
module _ (b : Batch) (ok : fault_of b ≡ None) (e : Event) (h : Among e b.events) where
  pub event-version : e.version ≡ b.key.version
  event-version = eqb-true e.version b.key.version (each-list_all (λ event. event.version == b.key.version) b.events e (passes b ok).versions h)

  event-own : (first_id b.events ≤ e.id) × (event_of e.id b.events ≡ Some e)
  event-own =
      let p = passes b ok in
      subst (λ (l : List Event). (first_id l ≤ e.id) × (event_of e.id l ≡ Some e)) (sym p.are) (by p.event p.events p.consecutive (subst (Among e) p.are h))
    where
      by : (x : Event) (es : List Event) → follow_from x.id es ≡ true → Among e (x ∷ es) → (x.id ≤ e.id) × (event_of e.id (x ∷ es) ≡ Some e)
      by x es f (inl same) = let one = ap (λ (y : Event). y.id) same in (omega (arith, one), hit e.id x es (sym one) ∙ ap (λ y. Some y) (sym same))
      by x es f (inr k) = let r = own-event x.id es e f k in (omega (arith, r.0), skip e.id x es (inl r.0) ∙ r.1)

-- an event of one of the batches is the one that is found by its version and id
pub found : (batches : List Batch) (b : Batch) (e : Event) → AreVersionsInIdOrder batches → Among b batches → Among e b.events → event_at e.version e.id batches ≡ Some e
found [] b e ids h k = absurd h
found (x ∷ batches) b e ids (inl same) k =
    let at : Among e x.events = subst (λ (y : Batch). Among e y.events) same k in
    find-join (is_event e.version e.id) x.events (history_of batches)
    ∙ ap (λ o. option_or o (event_at e.version e.id batches))
    (own-version e.version e.id x.key.version x.events (passes x ids.1.0).versions (sym (event-version x ids.1.0 e at)) ∙ (event-own x ids.1.0 e at).1)
found (x ∷ batches) b e ids (inr h) k =
    find-join (is_event e.version e.id) x.events (history_of batches)
    ∙ ap (λ o. option_or o (event_at e.version e.id batches)) (none (cases_lt x.key.version e.version) (cases_lt e.version x.key.version))
    ∙ found batches b e (ids.0.1, ids.1.1) h k
  where
    ok : fault_of b ≡ None
    ok = all-among (λ y. fault_of y ≡ None) batches b ids.1.1 h

    none : (x.key.version < e.version) ⊎ (e.version ≤ x.key.version) → (e.version < x.key.version) ⊎ (x.key.version ≤ e.version) → find (is_event e.version e.id) x.events ≡ None
    none (inl l) _ = other-version e.version e.id x.key.version x.events (passes x ids.1.0).versions (inl l)
    none (inr l) (inl m) = other-version e.version e.id x.key.version x.events (passes x ids.1.0).versions (inr m)
    none (inr l) (inr m) =
        let version : x.key.version ≡ e.version = omega (arith, l, m) in
        let goes : IdsGoOn x b = all-among (λ y. x.key.version ≡ y.key.version → IdsGoOn x y) batches b ids.0.0 h (version ∙ event-version b ok e k) in
        own-version e.version e.id x.key.version x.events (passes x ids.1.0).versions version
        ∙ none-above e.id x.events (consecutive x ids.1.0) (omega (arith, goes.behind, (event-own b ok e k).0))

-- and what is found is an event of one of them, of the version and the id
among-history : (batches : List Batch) (e : Event) → Among e (history_of batches) → (b : Batch) × Among b batches × Among e b.events
among-history [] e h = absurd h
among-history (b ∷ batches) e h = by (among-cases e b.events (history_of batches) h) (among-history batches e)
  where
    by : Among e b.events ⊎ Among e (history_of batches) → (Among e (history_of batches) → (x : Batch) × Among x batches × Among e x.events) → (x : Batch) × Among x (b ∷ batches) × Among e x.events
    by (inl k) rest = (b, inl refl, k)
    by (inr k) rest = let r = rest k in (r.0, inr r.1, r.2)

-- what is found passes the test
pub find-passes : {X : Type 0} (p : X → Bool) (xs : List X) (x : X) → find p xs ≡ Some x → p x ≡ true
find-passes p [] x h = absurd (cc)
find-passes p (y ∷ ys) x h = by (p y) refl h (find-passes p ys x)
  where
    by : (t : Bool) → p y ≡ t → (if t then Some y else find p ys) ≡ Some x → (find p ys ≡ Some x → p x ≡ true) → p x ≡ true
    by true e g rest = let same : y ≡ x = cc in subst (λ z. p z ≡ true) same e
    by false e g rest = rest g

-- an event that is found by version and id
pub record IsFound (batches : List Batch) (version id : ℕ) (e : Event) : Type 0 where
  pub batch : Batch
  pub there : Among batch batches
  pub among : Among e batch.events
  pub version_is : e.version ≡ version
  pub id_is : e.id ≡ id

pub event-found : (batches : List Batch) (version id : ℕ) (e : Event) → event_at version id batches ≡ Some e → IsFound batches version id e
event-found batches version id e at =
    let h = among-history batches e (find-among (is_event version id) (history_of batches) e at) in
    let p = and_parts (e.version == version) (e.id == id) (find-passes (is_event version id) (history_of batches) e at) in
    record { batch = h.0; there = h.1; among = h.2; version_is = eqb-true e.version version p.0; id_is = eqb-true e.id id p.1 }
