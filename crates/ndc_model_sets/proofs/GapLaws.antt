-- The best common item of the learned branches is the last event of the last learned ancestor.
use Rattle.std.proofs.Common.{◌≡◌, ℕ, ◌+◌, ◌<◌, true, not, ◌&&◌, ◌==◌, List, [], ◌∷◌, ◌++◌, inl, inr, Some, None, refl, sym, ◌∙◌, subst, ap, arith}
use Rattle.std.specs.List.{AllByRecursion}
use Rattle.std.proofs.lemmas.List.{append-nil}
use Rattle.ndc_event.specs.Key.{key_lt}
use Rattle.std.proofs.lemmas.Bool.{and_parts, eqb-true}
use Rattle.ndc_event.specs.declared.batch.Batch.{Batch}
use Rattle.ndc_event.specs.declared.batch.Event.{Event}
use Rattle.ndc_event.specs.Batch.{follow_from}
use Rattle.ndc_history.specs.declared.item.Item.{Item}
use Rattle.ndc_history.specs.Common.{common_of, best_from}
use Rattle.ndc_state.specs.Replay.{history_of}
use Rattle.ndc_model_sets.specs.Sets.{IsSet, Rise, batch_at, Has}
use Rattle.ndc_model_sets.specs.Learned.{IsClosed, IsPart}
use Rattle.ndc_model_sets.specs.Paths.{IsPath, path_to, events_to, versions_of, last_event, last_from, item_of, last_item_of, best_item}
use Rattle.ndc_model_sets.specs.Branches.{same_run, has_child, tips, branches, histories}
use Rattle.ndc_model_sets.specs.Sound.{ParentsFit, IsSound}
use Rattle.ndc_model_sets.proofs.SetLemmas.{found-key, found-has, has-found}
use Rattle.ndc_model_sets.proofs.Lists.{Among, among-map, map-among, filter-among}
use Rattle.ndc_model_sets.proofs.PathLemmas.{path_is, part-path}
use Rattle.ndc_model_sets.proofs.BranchLemmas.{among-has, run-same}
use Rattle.ndc_model_sets.proofs.FaultLemmas.{Passes, passes}
use Rattle.ndc_model_sets.proofs.PathIds.{path-events, history-append, ends, ends-last, follow-rest, follow-front, last-append}
use Rattle.ndc_model_sets.proofs.ForkLemmas.{path-run, path-rises, not-twice, fork, among-left, among-right}
use Rattle.ndc_model_sets.proofs.CommonPaths.{on-both, common-batches}
use Rattle.ndc_model_sets.proofs.GapLemmas.{IsAtMost, best-is, best-none, branch-above}

-- what is good in one cut of a list, and bad after another, stands before it
cut-before : {X : Type 0} (Good Bad : X → Type 0) → ((x : X) → Good x → Bad x → ⊥) → (cut more front rest : List X) → cut ++ more ≡ front ++ rest
    → ((x : X) → Among x cut → Good x) → ((x : X) → Among x rest → Bad x) → (between : List X) × (front ≡ cut ++ between)
cut-before Good Bad clash [] more front rest e good bad = (front, refl)
cut-before Good Bad clash (c ∷ cut) more [] rest e good bad =
    absurd (clash c (good c (inl refl)) (bad c (subst (λ l. Among c l) e (inl refl))))
cut-before Good Bad clash (c ∷ cut) more (f ∷ front) rest e good bad =
    let head : c ≡ f = cc in
    let tails : cut ++ more ≡ front ++ rest = cc in
    let t = cut-before Good Bad clash cut more front rest tails (λ x h. good x (inr h)) bad in
    (t.0, ap (λ x. x ∷ front) (sym head) ∙ ap (λ l. c ∷ l) t.1)

-- what ends a list ends what stands after a prefix of it
last-behind : (a : Batch) (before shared : List Batch) (d : Batch) (between : List Batch) → before ++ a ∷ [] ≡ shared ++ d ∷ between → Among a (d ∷ between)
last-behind a before [] d between e = subst (λ (l : List Batch). Among a l) e (among-right a before (a ∷ []) (inl refl))
last-behind a [] (s ∷ shared) d between e = absurd (some shared (cc))
  where
    some : (shared : List Batch) → [] ≡ shared ++ d ∷ between → ⊥
    some [] e = absurd (cc)
    some (x ∷ xs) e = absurd (cc)
last-behind a (x ∷ before) (s ∷ shared) d between e = let tails : before ++ a ∷ [] ≡ shared ++ d ∷ between = cc in last-behind a before shared d between tails

-- the last of events after others has a greater id than the last of these
last-greater : (first : Event) (firsts : List Event) (e : Event) (es : List Event) → follow_from 0 ((first ∷ firsts) ++ e ∷ es) ≡ true → (last_from first firsts).id < (last_from e es).id
last-greater first firsts e es f =
    let rest : follow_from (ends 0 (first ∷ firsts)) (e ∷ es) ≡ true = follow-rest 0 (first ∷ firsts) (e ∷ es) f in
    let from : follow_from (last_from first firsts).id (e ∷ es) ≡ true = subst (λ (n : ℕ). follow_from n (e ∷ es) ≡ true) (ends-last 0 first firsts) rest in
    up (last_from first firsts).id e es from
  where
    up : (n : ℕ) (e : Event) (es : List Event) → follow_from n (e ∷ es) ≡ true → n < (last_from e es).id
    up n e [] f = omega (arith, eqb-true e.id (n + 1) (and_parts (e.id == n + 1) true f).0)
    up n e (g ∷ gs) f =
        let p = and_parts (e.id == n + 1) (follow_from e.id (g ∷ gs)) f in
        omega (arith, eqb-true e.id (n + 1) p.0, up e.id g gs p.1)

module _ (batches part : List Batch) (b : Batch) (front rest : List Batch) (sound : IsSound batches) (set : IsSet part) (closed : IsClosed part) (within : IsPart part batches)
    (has : Has batches b) (path : path_to b.key batches ≡ front ++ rest) (learned : (c : Batch) → Has front c → Has part c) (missing : (c : Batch) → Has rest c → batch_at c.key part ≡ None) where
  to_b : IsPath batches b (front ++ rest)
  to_b = subst (IsPath batches b) path (path_is batches b sound.set sound.closed has)

  rise : Rise (front ++ rest)
  rise = (path-rises batches b (front ++ rest) sound.set to_b).0

  rise-front : (front rest : List Batch) → Rise (front ++ rest) → Rise front
  rise-front [] rest r = tt
  rise-front (x ∷ xs) rest r = (front-all (λ y. key_lt x.key y.key ≡ true) xs rest r.0, rise-front xs rest r.1)
    where
      front-all : (P : Batch → Type 0) (xs ys : List Batch) → AllByRecursion P (xs ++ ys) → AllByRecursion P xs
      front-all P [] ys all = tt
      front-all P (z ∷ zs) ys all = (all.0, front-all P zs ys all.1)

  rise-rest : (front rest : List Batch) → Rise (front ++ rest) → Rise rest
  rise-rest [] rest r = r
  rise-rest (x ∷ xs) rest r = rise-rest xs rest r.1

  parents : ParentsFit part
  parents = λ c before key h e at. sound.parents c before key (within c h) e
      (has-found batches key before (found-key part key before at) (within before (found-has part key before at)))

  -- what a branch that is learned has in common with the path is a prefix of the learned prefix
  pub record Shares (t : Batch) : Type 0 where
    pub shared : List Batch
    pub between : List Batch
    pub front_is : front ≡ shared ++ between
    pub item_is : common_of (versions_of (events_to t.key part)) (versions_of (history_of (front ++ rest))) ≡ last_item_of (history_of shared)
    pub both : (c : Batch) → Among c (path_to t.key part) → Among c (front ++ rest) → Among c shared

  shares : (t : Batch) → Has part t → t.run ≡ b.run → Shares t
  shares t has_t runs =
      let same : path_to t.key part ≡ path_to t.key batches = part-path part batches t set closed sound.set sound.closed within has_t in
      let to_t : IsPath batches t (path_to t.key part) = subst (IsPath batches t) (sym same) (path_is batches t sound.set sound.closed (within t has_t)) in
      let f = fork batches (path_to t.key part) (front ++ rest) (λ c h. (path-run batches t c (path_to t.key part) sound.parents to_t h).0) (λ c h. (path-run batches b c (front ++ rest) sound.parents to_b h).0) in
      let cut = cut-before (λ (c : Batch). Has part c) (λ (c : Batch). batch_at c.key part ≡ None) (λ c good bad. absurd (cc)) f.front f.other front rest (sym f.two_is)
      (λ c h. (path-run part t c (path_to t.key part) parents (path_is part t set closed has_t) (subst (λ (l : List Batch). Among c l) (sym f.one_is) (among-left c f.front f.rest h))).0)
      (λ c h. missing c (among-has rest c (rise-rest front rest rise) h)) in
      record {
        shared = f.front;
        between = cut.0;
        front_is = cut.1;
        item_is = common-batches batches sound t b (path_to t.key part) (front ++ rest) to_t to_b runs f.front f.rest f.other f.one_is f.two_is f.apart;
        both = on-both batches sound t b (path_to t.key part) (front ++ rest) to_t to_b runs f.front f.rest f.other f.one_is f.two_is f.apart;
      }

  follow : follow_from 0 (history_of front) ≡ true
  follow = follow-front 0 (history_of front) (history_of rest)
      (subst (λ (l : List Event). follow_from 0 l ≡ true) (history-append front rest) (path-events batches b (front ++ rest) sound.faultless sound.parents to_b).follow)

  on-path : (c : Batch) → Among c (front ++ rest) → Has batches c
  on-path c h = (path-run batches b c (front ++ rest) sound.parents to_b h).0

  -- the item of a prefix of the learned prefix is at most that of the whole
  at-most-front : (m : Event) (ms : List Event) → history_of front ≡ m ∷ ms → (shared between : List Batch) → front ≡ shared ++ between → IsAtMost (item_of (last_from m ms)) (last_item_of (history_of shared))
  at-most-front m ms e shared [] is =
      inr (item_of (last_from m ms), ap last_item_of (ap history_of (sym (append-nil shared)) ∙ ap history_of (sym is) ∙ e), inl refl)
  at-most-front m ms e shared (d ∷ between) is = by (history_of shared) refl (passes d (sound.faultless d (on-path d (among-left d front rest (subst (λ (l : List Batch). Among d l) (sym is) (among-right d shared (d ∷ between) (inl refl)))))))
    where
      by : (events : List Event) → history_of shared ≡ events → Passes d → IsAtMost (item_of (last_from m ms)) (last_item_of (history_of shared))
      by [] at p = inl (ap last_item_of at)
      by (x ∷ xs) at p =
          let whole : history_of front ≡ (x ∷ xs) ++ (p.event ∷ (p.events ++ history_of between)) =
          ap history_of is ∙ history-append shared (d ∷ between) ∙ ap (λ l. l ++ (d.events ++ history_of between)) at ∙ ap (λ l. (x ∷ xs) ++ (l ++ history_of between)) p.are in
          let l : (last_from x xs).id < (last_from p.event (p.events ++ history_of between)).id =
          last-greater x xs p.event (p.events ++ history_of between) (subst (λ (l : List Event). follow_from 0 l ≡ true) whole follow) in
          let ends : Some (last_from m ms) ≡ Some (last_from p.event (p.events ++ history_of between)) =
          sym (ap last_event e) ∙ ap last_event whole ∙ last-append (x ∷ xs) p.event (p.events ++ history_of between) in
          let same : last_from m ms ≡ last_from p.event (p.events ++ history_of between) = cc in
          inr (item_of (last_from x xs), ap last_item_of at, inr (subst (λ (y : Event). (last_from x xs).id < y.id) (sym same) l))

  -- a history of the learned branches is that of a tip
  of-tip : (h : List Item) → Among h (histories b.run part) → (t : Batch) × Has part t × (t.run ≡ b.run) × Among t (tips b.run part) × (h ≡ versions_of (events_to t.key part))
  of-tip h there =
      let one = map-among (λ branch. versions_of (history_of branch)) (branches b.run part) h there in
      let two = map-among (λ tip. path_to tip.key part) (tips b.run part) one.0 one.1 in
      let k = filter-among (λ x. same_run x.run b.run && not (has_child x part)) part two.0 two.1 in (
        two.0,
        among-has part two.0 set.ordered k.1,
        run-same two.0.run b.run (and_parts (same_run two.0.run b.run) (not (has_child two.0 part)) k.0).0,
        two.1,
        one.2 ∙ ap (λ branch. versions_of (history_of branch)) two.2,
      )

  remote : versions_of (events_to b.key batches) ≡ versions_of (history_of (front ++ rest))
  remote = ap (λ l. versions_of (history_of l)) path

  -- what a learned history has in common with the path
  shared-item : (h : List Item) → Among h (histories b.run part) → (shared between : List Batch) × (front ≡ shared ++ between) × (common_of h (versions_of (events_to b.key batches)) ≡ last_item_of (history_of shared))
  shared-item h there =
      let t = of-tip h there in
      let s = shares t.0 t.1 t.2 in
      (s.shared, s.between, s.front_is, ap (λ l. common_of l (versions_of (events_to b.key batches))) t.4 ∙ ap (common_of (versions_of (events_to t.0.key part))) remote ∙ s.item_is)

  -- the last batch of a list that is not empty
  last-batch : (c : Batch) (cs : List Batch) → (a : Batch) × (before : List Batch) × (c ∷ cs ≡ before ++ a ∷ [])
  last-batch c [] = (c, [], refl)
  last-batch c (d ∷ ds) = let t = last-batch d ds in (t.0, c ∷ t.1, ap (λ l. c ∷ l) t.2)

  -- a learned branch goes through the last batch of the learned prefix
  through : (a : Batch) (before : List Batch) → front ≡ before ++ a ∷ [] → (h : List Item) × Among h (histories b.run part) × (common_of h (versions_of (events_to b.key batches)) ≡ last_item_of (history_of front))
  through a before is =
      let on : Among a front = subst (λ (l : List Batch). Among a l) (sym is) (among-right a before (a ∷ []) (inl refl)) in
      let has_a : Has part a = learned a (among-has front a (rise-front front rest rise) on) in
      let run : a.run ≡ b.run = (path-run batches b a (front ++ rest) sound.parents to_b (among-left a front rest on)).1 in
      let t = branch-above part set closed parents a has_a in
      let mine : Among t.0 (tips b.run part) = subst (λ r. Among t.0 (tips r part)) run t.1 in
      let k = filter-among (λ x. same_run x.run b.run && not (has_child x part)) part t.0 mine in
      let has_t : Has part t.0 = among-has part t.0 set.ordered k.1 in
      let runs : t.0.run ≡ b.run = run-same t.0.run b.run (and_parts (same_run t.0.run b.run) (not (has_child t.0 part)) k.0).0 in
      let s = shares t.0 has_t runs in
      let shared : Among a s.shared = s.both a t.2 (among-left a front rest on) in
      let whole : front ≡ s.shared = ends a before is s.shared s.between s.front_is shared in (
        versions_of (events_to t.0.key part),
        among-map (λ branch. versions_of (history_of branch)) (branches b.run part) (path_to t.0.key part) (among-map (λ tip. path_to tip.key part) (tips b.run part) t.0 mine),
        ap (common_of (versions_of (events_to t.0.key part))) remote ∙ s.item_is ∙ ap (λ l. last_item_of (history_of l)) (sym whole),
      )
    where
      ends : (a : Batch) (before : List Batch) → front ≡ before ++ a ∷ [] → (shared between : List Batch) → front ≡ shared ++ between → Among a shared → front ≡ shared
      ends a before is shared [] e h = e ∙ append-nil shared
      ends a before is shared (d ∷ between) e h =
          absurd (not-twice shared (d ∷ between) a (subst Rise e (rise-front front rest rise)) h (last-behind a before shared d between (sym is ∙ e)))

  pub gap-is : best_item (best_from 0 (histories b.run part) (versions_of (events_to b.key batches))) ≡ last_item_of (history_of front)
  gap-is = by front refl
    where
      nothing : (shared between : List Batch) → [] ≡ shared ++ between → shared ≡ []
      nothing [] between e = refl
      nothing (x ∷ shared) between e = absurd (cc)

      some : (c : Batch) (cs : List Batch) → front ≡ c ∷ cs → Passes c → best_item (best_from 0 (histories b.run part) (versions_of (events_to b.key batches))) ≡ last_item_of (history_of front)
      some c cs is p =
          let events : history_of front ≡ p.event ∷ p.events ++ history_of cs = ap history_of is ∙ ap (λ l. l ++ history_of cs) p.are in
          let l = last-batch c cs in
          let t = through l.0 l.1 (is ∙ l.2) in
          best-is (item_of (last_from p.event (p.events ++ history_of cs))) 0 (histories b.run part) (versions_of (events_to b.key batches)) t.0
          (λ h there. let s = shared-item h there in
          subst (IsAtMost (item_of (last_from p.event (p.events ++ history_of cs)))) (sym s.3) (at-most-front p.event (p.events ++ history_of cs) events s.0 s.1 s.2))
          t.1 (t.2 ∙ ap last_item_of events)
          ∙ sym (ap last_item_of events)

      by : (l : List Batch) → front ≡ l → best_item (best_from 0 (histories b.run part) (versions_of (events_to b.key batches))) ≡ last_item_of (history_of front)
      by [] is =
          best-none 0 (histories b.run part) (versions_of (events_to b.key batches))
          (λ h there. let s = shared-item h there in s.3 ∙ ap (λ l. last_item_of (history_of l)) (nothing s.0 s.1 (sym is ∙ s.2)))
          ∙ ap (λ l. last_item_of (history_of l)) (sym is)
      by (c ∷ cs) is = some c cs is (passes c (sound.faultless c (on-path c (among-left c front rest (subst (λ (l : List Batch). Among c l) (sym is) (inl refl))))))

pub gap_names_the_last_learned : (batches part : List Batch) (b : Batch) (front rest : List Batch) → IsSound batches → IsSet part → IsClosed part → IsPart part batches → Has batches b
    → path_to b.key batches ≡ front ++ rest → IsPart front part → ((c : Batch) → Has rest c → batch_at c.key part ≡ None)
    → best_item (best_from 0 (histories b.run part) (versions_of (events_to b.key batches))) ≡ last_item_of (history_of front)
gap_names_the_last_learned batches part b front rest sound set closed within has path learned missing = gap-is batches part b front rest sound set closed within has path learned missing
