-- The version history of a path in a tree: after that of the path to the parent of the version's first batch comes one item.
use Rattle.std.proofs.Common.{◌≡◌, ℕ, zero, suc, ◌+◌, ◌<◌, ◌≤◌, Bool, true, false, not, ◌==◌, nat_lt, List, [], ◌∷◌, ◌++◌, ◌⊎◌, inl, inr, Option, Some, None, refl, sym, ◌∙◌, subst, ap, true≢false, arith, cond}
use Rattle.std.specs.Prelude.{IfSome}
use Rattle.std.specs.List.{AllByRecursion}
use Rattle.std.proofs.lemmas.List.{append_assoc}
use Rattle.std.proofs.lemmas.List.Folds.{list_all-append}
use Rattle.std.proofs.lemmas.Bool.{and_parts, and_from, eqb-true, ne_eqb, ltb-false, cases_lt}
use Rattle.ndc_event.specs.Key.{key_lt}
use Rattle.ndc_event.specs.Batch.{are_of_version, is_parent_fit}
use Rattle.ndc_event.specs.declared.batch.Batch.{Batch}
use Rattle.ndc_event.specs.declared.batch.Event.{Event}
use Rattle.ndc_event.specs.declared.key.BatchKey.{BatchKey}
use Rattle.ndc_event.specs.declared.key.RunId.{RunId}
use Rattle.ndc_history.specs.declared.item.Item.{Item}
use Rattle.ndc_state.specs.Replay.{history_of}
use Rattle.ndc_model_sets.specs.Sets.{Rise, batch_at, Has}
use Rattle.ndc_model_sets.specs.Paths.{Walk, path_from, path_to, events_to, last_id, item_of, before_items, versions_of}
use Rattle.ndc_model_sets.proofs.KeyLemmas.{IsBefore, before-parts, before-from, key-parts}
use Rattle.ndc_model_sets.proofs.SetLemmas.{found-key, found-has}
use Rattle.ndc_model_sets.proofs.Lists.{Among, all-among}
use Rattle.ndc_model_sets.proofs.PathLemmas.{path-parent, path-below, path-first, none-wanted}
use Rattle.ndc_model_sets.proofs.PathIds.{history-push, Climbs, tops, last-append, AreEventsTo, path-events}
use Rattle.ndc_model_sets.proofs.FaultLemmas.{Passes, passes}
use Rattle.ndc_model_sets.proofs.BranchLemmas.{has-among, among-has, same-batch}
use Rattle.ndc_model_sets.specs.Last.{first_from}
use Rattle.ndc_tree.specs.Inserting.{end_of}
use Rattle.ndc_model_sets.specs.Reading.{named, parent_of, elder_of, path_of, items_of}
use Rattle.ndc_tree.specs.Tree.{IsNextOfVersion, IsTree}
use Rattle.ndc_tree.proofs.PathLemmas.{parent-there, parent-less, path_is}

-- events of one version have one item
versions-one : (version : ℕ) (e : Event) (es : List Event) → are_of_version version (e ∷ es) ≡ true → versions_of (e ∷ es) ≡ record { id = last_id (e ∷ es); version = version } ∷ []
versions-one version e [] a =
    let v : e.version ≡ version = eqb-true e.version version (and_parts (e.version == version) true a).0 in
    ap (λ (n : ℕ). record { id = e.id; version = n } ∷ []) v
versions-one version e (f ∷ fs) a =
    let p = and_parts (e.version == version) (are_of_version version (f ∷ fs)) a in
    ap (before_items (item_of e)) (versions-one version f fs p.1)
    ∙ ap (λ t. cond t (record { id = last_id (f ∷ fs); version = version } ∷ []) (item_of e ∷ record { id = last_id (f ∷ fs); version = version } ∷ [])) p.0

-- an item of another version stays before what comes last
before-push : (i x : Item) (items : List Item) → (i.version == x.version) ≡ false → before_items i (items ++ x ∷ []) ≡ before_items i items ++ x ∷ []
before-push i x [] other = rw other refl
before-push i x (n ∷ items) other = by (i.version == n.version) refl
  where
    by : (t : Bool) → (i.version == n.version) ≡ t → before_items i (n ∷ items ++ x ∷ []) ≡ before_items i (n ∷ items) ++ x ∷ []
    by true e = rw e refl
    by false e = rw e refl

-- events of other versions, and after them those of one
versions-append : (x : Item) (es fs : List Event) → versions_of fs ≡ x ∷ [] → AllByRecursion (λ e. (e.version == x.version) ≡ false) es → versions_of (es ++ fs) ≡ versions_of es ++ x ∷ []
versions-append x [] fs h all = h
versions-append x (e ∷ es) fs h all = ap (before_items (item_of e)) (versions-append x es fs h all.1) ∙ before-push (item_of e) x (versions_of es) all.0

climb-top : (low : ℕ) (es : List Event) → Climbs low es → low ≤ tops low es
climb-top low [] c = omega arith
climb-top low (e ∷ es) c = omega (arith, c.0, climb-top e.version es c.1)

-- events that climb to less than a version are not of it
climb-other : (low version : ℕ) (es : List Event) → Climbs low es → tops low es < version → AllByRecursion (λ e. (e.version == version) ≡ false) es
climb-other low version [] c l = tt
climb-other low version (e ∷ es) c l = (ne_eqb e.version version (λ s. omega (arith, climb-top e.version es c.1, l, s)), climb-other e.version version es c.1 l)

-- the first of the batches from a key on
pub first-some : (batches : List Batch) (start : BatchKey) (x : Batch) → Among x batches → key_lt x.key start ≡ false → (f : Batch) × (first_from start batches ≡ Some f)
first-some [] start x among e = absurd among
first-some (b ∷ batches) start x among e = by (key_lt b.key start) refl among (λ k. first-some batches start x k e)
  where
    by : (t : Bool) → key_lt b.key start ≡ t → (x ≡ b) ⊎ Among x batches → (Among x batches → (f : Batch) × (first_from start batches ≡ Some f))
        → (f : Batch) × (cond (not t) (Some b) (first_from start batches) ≡ Some f)
    by false g k rest = (b, refl)
    by true g (inl same) rest = absurd (true≢false (sym g ∙ sym (ap (λ (z : Batch). key_lt z.key start) same) ∙ e))
    by true g (inr k) rest = rest k

pub first-among : (batches : List Batch) (start : BatchKey) (f : Batch) → first_from start batches ≡ Some f → Among f batches × (key_lt f.key start ≡ false)
first-among [] start f h = absurd (cc)
first-among (b ∷ batches) start f h = by (key_lt b.key start) refl h (λ g. first-among batches start f g)
  where
    by : (t : Bool) → key_lt b.key start ≡ t → cond (not t) (Some b) (first_from start batches) ≡ Some f
        → (first_from start batches ≡ Some f → Among f batches × (key_lt f.key start ≡ false)) → Among f (b ∷ batches) × (key_lt f.key start ≡ false)
    by false g k rest = let same : b ≡ f = cc in (inl (sym same), subst (λ (z : Batch). key_lt z.key start ≡ false) same g)
    by true g k rest = let r = rest k in (inr r.0, r.1)

-- each other one that does not come before the key comes after the first
pub first-least : (batches : List Batch) (start : BatchKey) (f x : Batch) → Rise batches → first_from start batches ≡ Some f → Among x batches → key_lt x.key start ≡ false
    → (x ≡ f) ⊎ (key_lt f.key x.key ≡ true)
first-least [] start f x rise h among e = absurd among
first-least (b ∷ batches) start f x rise h among e = by (key_lt b.key start) refl h among (λ g k. first-least batches start f x rise.1 g k e)
  where
    by : (t : Bool) → key_lt b.key start ≡ t → cond (not t) (Some b) (first_from start batches) ≡ Some f → (x ≡ b) ⊎ Among x batches
        → (first_from start batches ≡ Some f → Among x batches → (x ≡ f) ⊎ (key_lt f.key x.key ≡ true)) → (x ≡ f) ⊎ (key_lt f.key x.key ≡ true)
    by false g k (inl same) rest = let own : b ≡ f = cc in inl (same ∙ own)
    by false g k (inr m) rest = let own : b ≡ f = cc in
        inr (subst (λ (z : Batch). key_lt z.key x.key ≡ true) own (all-among (λ (z : Batch). key_lt b.key z.key ≡ true) batches x rise.0 m))
    by true g k (inl same) rest = absurd (true≢false (sym g ∙ sym (ap (λ (z : Batch). key_lt z.key start) same) ∙ e))
    by true g k (inr m) rest = rest k m

-- the least key of a version
abbrev pub start_of : ℕ → BatchKey
start_of version = record { version = version; task = 0 }

from-start : (key : BatchKey) (version : ℕ) → key.version ≡ version → key_lt key (start_of version) ≡ false
from-start key version e = by (key_lt key (start_of version)) refl
  where
    no : IsBefore key (start_of version) → ⊥
    no (inl l) = absurd (omega (arith, l, e))
    no (inr m) = absurd (omega (arith, m.1))

    by : (t : Bool) → key_lt key (start_of version) ≡ t → key_lt key (start_of version) ≡ false
    by true g = absurd (no (before-parts key (start_of version) g))
    by false g = g

not-below-start : (key : BatchKey) (version : ℕ) → key_lt key (start_of version) ≡ false → version ≤ key.version
not-below-start key version e = by (cases_lt key.version version)
  where
    by : (key.version < version) ⊎ (version ≤ key.version) → version ≤ key.version
    by (inl l) = absurd (true≢false (sym (before-from key (start_of version) (inl l)) ∙ e))
    by (inr l) = l

-- the events of a path: those of the path to the parent of a batch on it, and then some of the version
record InVersion (batches : List Batch) (f b : Batch) : Type 0 where
  event : Event
  events : List Event
  whole : events_to b.key batches ≡ history_of (path_from f.parent batches) ++ event ∷ events
  version : are_of_version b.key.version (event ∷ events) ≡ true
  last : last_id (event ∷ events) ≡ last_id b.events

module _ (run : RunId) (batches : List Batch) (tree : IsTree run batches) where
  -- the first batch of a version there
  begins : (b : Batch) → Has batches b → InVersion batches b b
  begins b has = by (passes b (tree.faultless b has))
    where
      by : Passes b → InVersion batches b b
      by p = record {
        event = p.event;
        events = p.events;
        whole = ap history_of (path-parent batches b tree.set has) ∙ history-push (path_from b.parent batches) b ∙ ap (λ l. history_of (path_from b.parent batches) ++ l) p.are;
        version = subst (λ (l : List Event). are_of_version b.key.version l ≡ true) p.are p.versions;
        last = sym (ap last_id p.are);
      }

  -- one batch more of the version
  goes-on : (f b before : Batch) (key : BatchKey) → Has batches b → b.parent ≡ Some key → before.key ≡ key → key.version ≡ b.key.version → InVersion batches f before → InVersion batches f b
  goes-on f b before key has e own v r = by (passes b (tree.faultless b has))
    where
      by : Passes b → InVersion batches f b
      by p = record {
        event = r.event;
        events = r.events ++ p.event ∷ p.events;
        whole = ap history_of (path-below batches b key tree.set has e) ∙ history-push (path_to key batches) b
            ∙ ap (λ l. l ++ b.events) (ap (λ (k : BatchKey). events_to k batches) (sym own) ∙ r.whole)
            ∙ append_assoc (history_of (path_from f.parent batches)) (r.event ∷ r.events) b.events
            ∙ ap (λ (l : List Event). history_of (path_from f.parent batches) ++ ((r.event ∷ r.events) ++ l)) p.are;
        version = list_all-append (λ (x : Event). x.version == b.key.version) (r.event ∷ r.events) (p.event ∷ p.events)
            ∙ and_from (are_of_version b.key.version (r.event ∷ r.events)) (are_of_version b.key.version (p.event ∷ p.events))
            (subst (λ (n : ℕ). are_of_version n (r.event ∷ r.events) ≡ true) (ap (λ (k : BatchKey). k.version) own ∙ v) r.version)
            (subst (λ (l : List Event). are_of_version b.key.version l ≡ true) p.are p.versions);
        last = ap id_of_last (last-append (r.event ∷ r.events) p.event p.events) ∙ sym (ap last_id p.are);
      }
        where
          id_of_last : Option Event → ℕ
          id_of_last None = 0
          id_of_last (Some x) = x.id

  version-within : (most : ℕ) (f b : Batch) → b.key.task < most → Has batches f → Has batches b → f.key.version ≡ b.key.version → f.key.task ≤ b.key.task → InVersion batches f b
  version-within zero f b l has other v le = absurd (omega (arith, l))
  version-within (suc most) f b l has other v le = by (cases_lt f.key.task b.key.task) (λ x h g k m. version-within most f x h has g k m)
    where
      by : (f.key.task < b.key.task) ⊎ (b.key.task ≤ f.key.task)
          → ((x : Batch) → x.key.task < most → Has batches x → f.key.version ≡ x.key.version → f.key.task ≤ x.key.task → InVersion batches f x) → InVersion batches f b
      by (inr ge) rest =
          let same : f ≡ b = same-batch batches f b has other (key-parts f.key b.key v (omega (arith, le, ge))) in
          subst (InVersion batches f) same (begins f has)
      by (inl less) rest =
          let n : IsNextOfVersion f b = tree.follow f b has other v less in
          let p = parent-there run batches tree b n.parent other n.named in
          let own : p.0.key ≡ n.parent = found-key batches n.parent p.0 p.1 in
          let tasks : p.0.key.task ≡ n.parent.task = ap (λ (k : BatchKey). k.task) own in
          goes-on f b p.0 n.parent other n.named own n.version
          (rest p.0 (omega (arith, parent-less run batches tree b p.0 n.parent other n.named p.1, l)) (found-has batches n.parent p.0 p.1)
          (v ∙ sym n.version ∙ sym (ap (λ (k : BatchKey). k.version) own)) (omega (arith, n.next, tasks)))

  module _ (f b : Batch) (has : Has batches b) (at : first_from (start_of b.key.version) batches ≡ Some f) where
    pub first-has : Has batches f
    first-has = among-has batches f tree.set.ordered (first-among batches (start_of b.key.version) f at).0

    behind : (x : Batch) → Has batches x → x.key.version ≡ b.key.version → (x ≡ f) ⊎ (key_lt f.key x.key ≡ true)
    behind x h v = first-least batches (start_of b.key.version) f x tree.set.ordered at (has-among batches x h) (from-start x.key b.key.version v)

    order : (f.key.version ≡ b.key.version) × (f.key.task ≤ b.key.task)
    order = by (behind b has refl)
      where
        low : b.key.version ≤ f.key.version
        low = not-below-start f.key b.key.version (first-among batches (start_of b.key.version) f at).1

        parts : IsBefore f.key b.key → (f.key.version ≡ b.key.version) × (f.key.task ≤ b.key.task)
        parts (inl l) = absurd (omega (arith, l, low))
        parts (inr m) = (m.0, omega (arith, m.1))

        by : (b ≡ f) ⊎ (key_lt f.key b.key ≡ true) → (f.key.version ≡ b.key.version) × (f.key.task ≤ b.key.task)
        by (inl same) = (sym (ap (λ (x : Batch). x.key.version) same), omega (arith, ap (λ (x : Batch). x.key.task) same))
        by (inr l) = parts (before-parts f.key b.key l)

    -- the first batch of a version hangs below a smaller one
    parent-version : (before : Batch) (key : BatchKey) → f.parent ≡ Some key → batch_at key batches ≡ Some before → before.key.version < b.key.version
    parent-version before key e there = by (cases_lt before.key.version b.key.version)
      where
        up_to : (t : Bool) → nat_lt f.key.version key.version ≡ t → not t ≡ true → key.version ≤ f.key.version
        up_to true g h = absurd (cc)
        up_to false g h = ltb-false f.key.version key.version g

        own : before.key ≡ key
        own = found-key batches key before there

        fit : key.version ≤ f.key.version
        fit = up_to (nat_lt f.key.version key.version) refl
            (and_parts (not (nat_lt f.key.version key.version)) (nat_lt key.task f.key.task)
            (subst (λ (o : Option BatchKey). is_parent_fit f.key o ≡ true) e (passes f (tree.faultless f first-has)).parent)).0

        none : (before ≡ f) ⊎ (key_lt f.key before.key ≡ true) → ⊥
        none (inl same) = absurd (omega (arith, parent-less run batches tree f before key first-has e there, ap (λ (x : Batch). x.key.task) same))
        none (inr l) = parts (before-parts f.key before.key l)
          where
            parts : IsBefore f.key before.key → ⊥
            parts (inl v) = absurd (omega (arith, v, fit, ap (λ (k : BatchKey). k.version) own))
            parts (inr m) = absurd (omega (arith, m.1, parent-less run batches tree f before key first-has e there))

        by : (before.key.version < b.key.version) ⊎ (b.key.version ≤ before.key.version) → before.key.version < b.key.version
        by (inl l) = l
        by (inr l) =
            let v : before.key.version ≡ b.key.version = omega (arith, l, fit, order.0, ap (λ (k : BatchKey). k.version) own) in
            absurd (none (behind before (found-has batches key before there) v))

    -- the version history of the path: one item after that of the path to the parent of the version's first batch
    pub history-step : versions_of (events_to b.key batches) ≡ versions_of (history_of (path_from f.parent batches)) ++ end_of (Some b) ∷ []
    history-step = by (version-within (suc b.key.task) f b (omega arith) first-has has order.0 order.1)
      where
        others : (o : Option BatchKey) → f.parent ≡ o → AllByRecursion (λ e. (e.version == b.key.version) ≡ false) (history_of (path_from o batches))
        others None e = subst (λ (l : List Batch). AllByRecursion (λ e. (e.version == b.key.version) ≡ false) (history_of l)) (sym (ap (λ w. w.path) (none-wanted batches))) tt
        others (Some key) e =
            let p = parent-there run batches tree f key first-has e in
            let own : p.0.key ≡ key = found-key batches key p.0 p.1 in
            let a : AreEventsTo p.0 (events_to p.0.key batches) = path-events batches p.0 (path_to p.0.key batches) tree.faultless tree.parents (path_is run batches tree p.0 (found-has batches key p.0 p.1)) in
            subst (λ (k : BatchKey). AllByRecursion (λ e. (e.version == b.key.version) ≡ false) (events_to k batches)) own
            (climb-other 0 b.key.version (events_to p.0.key batches) a.climb (omega (arith, a.top, parent-version p.0 key e p.1)))

        by : InVersion batches f b → versions_of (events_to b.key batches) ≡ versions_of (history_of (path_from f.parent batches)) ++ end_of (Some b) ∷ []
        by r =
            ap versions_of r.whole
            ∙ versions-append (record { id = last_id (r.event ∷ r.events); version = b.key.version }) (history_of (path_from f.parent batches)) (r.event ∷ r.events)
            (versions-one b.key.version r.event r.events r.version) (others f.parent refl)
            ∙ ap (λ (n : ℕ). versions_of (history_of (path_from f.parent batches)) ++ record { id = n; version = b.key.version } ∷ []) r.last

-- the batch, where there is one, is one of the batches
abbrev pub IsOf : List Batch → Option Batch → Type 0
IsOf batches o = IfSome o (Has batches)

-- a measure that a walk upwards makes smaller
abbrev pub rank : Option Batch → ℕ
rank None = 0
rank (Some b) = b.key.task + 1

named-has : (batches : List Batch) (o : Option BatchKey) → IsOf batches (named o batches)
named-has batches None = tt
named-has batches (Some key) = by (batch_at key batches) refl
  where
    by : (x : Option Batch) → batch_at key batches ≡ x → IsOf batches x
    by None e = tt
    by (Some b) e = found-has batches key b e

module _ (run : RunId) (batches : List Batch) (tree : IsTree run batches) (b : Batch) (has : Has batches b) where
  begun : (f : Batch) × (first_from (start_of b.key.version) batches ≡ Some f)
  begun = first-some batches (start_of b.key.version) b (has-among batches b has) (from-start b.key b.key.version refl)

  -- the version history of a path: one item after that of the path to the last batch of a smaller version
  pub elder-step : items_of (Some b) batches ≡ items_of (elder_of b batches) batches ++ end_of (Some b) ∷ []
  elder-step = history-step run batches tree begun.0 b has begun.1 ∙ ap (λ (l : List Item). l ++ end_of (Some b) ∷ []) (by begun.0.parent refl)
    where
      elder-is : (o : Option BatchKey) → begun.0.parent ≡ o → elder_of b batches ≡ named o batches
      elder-is o e = ap (λ (f : Option Batch). named (parent_of f) batches) begun.1 ∙ ap (λ k. named k batches) e

      by : (o : Option BatchKey) → begun.0.parent ≡ o → versions_of (history_of (path_from begun.0.parent batches)) ≡ items_of (elder_of b batches) batches
      by None e =
          ap (λ k. versions_of (history_of (path_from k batches))) e ∙ ap (λ (w : Walk). versions_of (history_of w.path)) (none-wanted batches)
          ∙ sym (ap (λ (x : Option Batch). items_of x batches) (elder-is None e))
      by (Some key) e =
          let p = parent-there run batches tree begun.0 key (first-has run batches tree begun.0 b has begun.1) e in
          ap (λ k. versions_of (history_of (path_from k batches))) e ∙ ap (λ k. versions_of (events_to k batches)) (sym (found-key batches key p.0 p.1))
          ∙ sym (ap (λ (x : Option Batch). items_of x batches) (elder-is (Some key) e ∙ p.1))

  pub elder-has : IsOf batches (elder_of b batches)
  elder-has = named-has batches (parent_of (first_from (start_of b.key.version) batches))

  pub elder-less : rank (elder_of b batches) < rank (Some b)
  elder-less = by begun.0.parent refl
    where
      elder-is : (o : Option BatchKey) → begun.0.parent ≡ o → elder_of b batches ≡ named o batches
      elder-is o e = ap (λ (f : Option Batch). named (parent_of f) batches) begun.1 ∙ ap (λ k. named k batches) e

      by : (o : Option BatchKey) → begun.0.parent ≡ o → rank (elder_of b batches) < rank (Some b)
      by None e = subst (λ (x : Option Batch). rank x < rank (Some b)) (sym (elder-is None e)) (omega arith)
      by (Some key) e =
          let f = first-has run batches tree begun.0 b has begun.1 in
          let p = parent-there run batches tree begun.0 key f e in
          subst (λ (x : Option Batch). rank x < rank (Some b)) (sym (elder-is (Some key) e ∙ p.1))
          (omega (arith, parent-less run batches tree begun.0 p.0 key f e p.1, (order run batches tree begun.0 b has begun.1).1))

  -- the path: the batch after the path to its parent
  pub parent-step : path_of (Some b) batches ≡ path_of (named b.parent batches) batches ++ b ∷ []
  parent-step = by b.parent refl
    where
      by : (o : Option BatchKey) → b.parent ≡ o → path_of (Some b) batches ≡ path_of (named o batches) batches ++ b ∷ []
      by None e = path-first batches b tree.set has e
      by (Some key) e =
          let p = parent-there run batches tree b key has e in
          path-below batches b key tree.set has e
          ∙ ap (λ (l : List Batch). l ++ b ∷ []) (ap (λ k. path_to k batches) (sym (found-key batches key p.0 p.1)) ∙ sym (ap (λ (x : Option Batch). path_of x batches) p.1))

  pub parent-has : IsOf batches (named b.parent batches)
  parent-has = named-has batches b.parent

  pub parent-rank : rank (named b.parent batches) < rank (Some b)
  parent-rank = by b.parent refl
    where
      by : (o : Option BatchKey) → b.parent ≡ o → rank (named o batches) < rank (Some b)
      by None e = omega arith
      by (Some key) e =
          let p = parent-there run batches tree b key has e in
          subst (λ (x : Option Batch). rank x < rank (Some b)) (sym p.1) (omega (arith, parent-less run batches tree b p.0 key has e p.1))
