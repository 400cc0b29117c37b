-- What is kept of the states of a run.
use Rattle.std.proofs.Common.{◌≡◌, ℕ, ◌+◌, Bool, true, false, List, [], ◌∷◌, ◌++◌, length, cond, ◌⊎◌, inl, inr, Option, Some, None, Ok, if◌then◌else◌, refl, sym, ◌∙◌, subst, ap, true≢false}
use Rattle.indexmap.specs.IndexMap.{insert_entry}
use Rattle.ndc_event.specs.Key.{key_eq}
use Rattle.ndc_event.specs.declared.batch.Batch.{Batch}
use Rattle.ndc_event.specs.declared.key.BatchKey.{BatchKey}
use Rattle.ndc_event.specs.declared.key.RunId.{RunId}
use Rattle.ndc_rebuild.specs.Kept.{Kept, bare, kept_at, reaches, with_kept, without_kept, FitsPath}
use Rattle.ndc_state.specs.Replay.{history_of, replay, replay_of}
use Rattle.ndc_state.specs.Value.{StateValue}
use Rattle.ndc_model_sets.specs.Current.{state_to}
use Rattle.ndc_model_sets.specs.Paths.{IsPath, first, below, path_to, events_to}
use Rattle.ndc_model_sets.specs.Sets.{batch_at, Has, arrived}
use Rattle.ndc_model_sets.proofs.ArrivalLemmas.{was_or_new}
use Rattle.ndc_model_sets.proofs.KeyLemmas.{key_eq-self, same-keys}
use Rattle.ndc_model_sets.proofs.PathLemmas.{one-path, path-has}
use Rattle.ndc_model_sets.proofs.SetLemmas.{found-key, found-has, has-found}
use Rattle.ndc_tree.specs.Tree.{Joins}
use Rattle.ndc_tree.proofs.PathLemmas.{path_is}
use Rattle.ndc_run.specs.Run.{IsRun, IsKept, to_keep, state_before}
use Rattle.ndc_run.proofs.StateLemmas.{path-state, path-next, new-there, old-there, old-path, old-state}

-- keys in either order
pub key_eq-flip : (a b : BatchKey) → key_eq a b ≡ false → key_eq b a ≡ false
key_eq-flip a b e = by (key_eq b a) refl
  where
    by : (t : Bool) → key_eq b a ≡ t → key_eq b a ≡ false
    by true f = absurd (true≢false (sym (subst (λ (k : BatchKey). key_eq k b ≡ true) (same-keys b a f) (key_eq-self b)) ∙ e))
    by false f = f

-- what is put under a key is kept for it
put-kept : (key : BatchKey) (s : StateValue) (states : List (BatchKey × StateValue)) → kept_at key states ≡ None → kept_at key (insert_entry key_eq states key s) ≡ Some s
put-kept key s [] none = rw (key_eq-self key) refl
put-kept key s (e ∷ states) none = by (key_eq key e.0) refl none (put-kept key s states)
  where
    by : (t : Bool) → key_eq key e.0 ≡ t → cond t (Some e.1) (kept_at key states) ≡ None → (kept_at key states ≡ None → kept_at key (insert_entry key_eq states key s) ≡ Some s)
        → kept_at key (insert_entry key_eq (e ∷ states) key s) ≡ Some s
    by true f n rest = absurd (cc)
    by false f n rest = rw (f, f) (rest n)

-- and what is kept for others stays
other-kept : (key other : BatchKey) (s : StateValue) (states : List (BatchKey × StateValue)) → key_eq other key ≡ false → kept_at other (insert_entry key_eq states key s) ≡ kept_at other states
other-kept key other s [] apart = rw apart refl
other-kept key other s (e ∷ states) apart = by (key_eq key e.0) refl (other-kept key other s states apart)
  where
    by : (t : Bool) → key_eq key e.0 ≡ t → kept_at other (insert_entry key_eq states key s) ≡ kept_at other states
        → kept_at other (insert_entry key_eq (e ∷ states) key s) ≡ kept_at other (e ∷ states)
    by true f rest = let g : key_eq other e.0 ≡ false = subst (λ (k : BatchKey). key_eq other k ≡ false) (same-keys key e.0 f) apart in rw (f, g) refl
    by false f rest = rw f (ap (λ o. cond (key_eq other e.0) (Some e.1) o) rest)

-- what is put and taken again leaves all as it was
put-taken : (key : BatchKey) (s : StateValue) (states : List (BatchKey × StateValue)) → kept_at key states ≡ None → without_kept key (insert_entry key_eq states key s) ≡ states
put-taken key s [] none = rw (key_eq-self key) refl
put-taken key s (e ∷ states) none = by (key_eq key e.0) refl none (put-taken key s states)
  where
    by : (t : Bool) → key_eq key e.0 ≡ t → cond t (Some e.1) (kept_at key states) ≡ None → (kept_at key states ≡ None → without_kept key (insert_entry key_eq states key s) ≡ states)
        → without_kept key (insert_entry key_eq (e ∷ states) key s) ≡ e ∷ states
    by true f n rest = absurd (cc)
    by false f n rest = rw (f, f) (ap (λ l. e ∷ l) (rest n))

none-taken : (key : BatchKey) (states : List (BatchKey × StateValue)) → kept_at key states ≡ None → without_kept key states ≡ states
none-taken key [] none = refl
none-taken key (e ∷ states) none = by (key_eq key e.0) refl none (none-taken key states)
  where
    by : (t : Bool) → key_eq key e.0 ≡ t → cond t (Some e.1) (kept_at key states) ≡ None → (kept_at key states ≡ None → without_kept key states ≡ states) → without_kept key (e ∷ states) ≡ e ∷ states
    by true f n rest = absurd (cc)
    by false f n rest = rw f (ap (λ l. e ∷ l) (rest n))

-- what is kept for a key and forgotten again leaves all as it was
pub forgotten : (key : BatchKey) (events : ℕ) (s : StateValue) (states : List (BatchKey × StateValue)) → kept_at key states ≡ None → without_kept key (with_kept key events s states) ≡ states
forgotten key events s states none = by (reaches events s.next)
  where
    by : (t : Bool) → without_kept key (if t then insert_entry key_eq states key (bare s) else states) ≡ states
    by true = put-taken key (bare s) states none
    by false = none-taken key states none

-- what is kept at the key and at others, once it is kept
kept-own : (key : BatchKey) (events : ℕ) (s : StateValue) (states : List (BatchKey × StateValue)) → kept_at key states ≡ None
    → kept_at key (with_kept key events s states) ≡ (if reaches events s.next then Some (bare s) else None)
kept-own key events s states none = by (reaches events s.next)
  where
    by : (t : Bool) → kept_at key (if t then insert_entry key_eq states key (bare s) else states) ≡ (if t then Some (bare s) else None)
    by true = put-kept key (bare s) states none
    by false = none

kept-others : (key other : BatchKey) (events : ℕ) (s : StateValue) (states : List (BatchKey × StateValue)) → key_eq other key ≡ false → kept_at other (with_kept key events s states) ≡ kept_at other states
kept-others key other events s states apart = by (reaches events s.next)
  where
    by : (t : Bool) → kept_at other (if t then insert_entry key_eq states key (bare s) else states) ≡ kept_at other states
    by true = other-kept key other (bare s) states apart
    by false = refl

module _ (run : RunId) (batches : List Batch) (new : Batch) (r : IsRun run batches) (j : Joins run batches new) (k : Kept) (kept : IsKept run batches k) where
  pub none-kept : kept_at new.key k.states ≡ None
  none-kept = kept.none new.key j.fresh

  -- what is kept fits the run that the batch has joined
  pub kept-grown : (s : StateValue) → replay (state_before run new.parent batches) new.events ≡ Ok s → IsRun run (arrived new batches)
      → state_to run new.key (arrived new batches) ≡ s → (after : Kept) → after.run ≡ k.run → after.states ≡ with_kept new.key (length new.events) s k.states → IsKept run (arrived new batches) after
  kept-grown s h grown state after run_is states = record {
    run_is = run_is ∙ kept.run_is;
    at = λ b has. ap (kept_at b.key) states ∙ at b (was_or_new new batches b r.tree.set.ordered has);
    none = λ key e. ap (kept_at key) states ∙ none key e;
  }
    where
      own : kept_at new.key (with_kept new.key (length new.events) s k.states) ≡ to_keep run (arrived new batches) new
      own =
          kept-own new.key (length new.events) s k.states none-kept
          ∙ ap (λ (t : StateValue). if reaches (length new.events) t.next then Some (bare t) else None) (sym state)
          ∙ ap (λ n. if reaches (length new.events) n then Some (bare (state_to run new.key (arrived new batches))) else None) (path-next run (arrived new batches) new grown (new-there run batches new r j))

      apart : (b : Batch) → Has batches b → key_eq b.key new.key ≡ false
      apart b has = by (key_eq b.key new.key) refl
        where
          by : (t : Bool) → key_eq b.key new.key ≡ t → key_eq b.key new.key ≡ false
          by true e = let found : batch_at new.key batches ≡ Some b = has-found batches new.key b (same-keys b.key new.key e) has in
              let none : batch_at new.key batches ≡ None = j.fresh in absurd (cc)
          by false e = e

      at : (b : Batch) → (b ≡ new) ⊎ Has batches b → kept_at b.key (with_kept new.key (length new.events) s k.states) ≡ to_keep run (arrived new batches) b
      at b (inl same) = subst (λ (x : Batch). kept_at x.key (with_kept new.key (length new.events) s k.states) ≡ to_keep run (arrived new batches) x) (sym same) own
      at b (inr has) =
          kept-others new.key b.key (length new.events) s k.states (apart b has) ∙ kept.at b has
          ∙ ap (λ (l : List Batch). if reaches (length b.events) (length (history_of l) + 1) then Some (bare (state_to run b.key batches)) else None) (sym (old-path run batches new r j b has))
          ∙ ap (λ (t : StateValue). if reaches (length b.events) (length (events_to b.key (arrived new batches)) + 1) then Some (bare t) else None) (sym (old-state run batches new r j b has))

      none : (key : BatchKey) → batch_at key (arrived new batches) ≡ None → kept_at key (with_kept new.key (length new.events) s k.states) ≡ None
      none key e = by (key_eq key new.key) refl (batch_at key batches) refl
        where
          by : (t : Bool) → key_eq key new.key ≡ t → (o : Option Batch) → batch_at key batches ≡ o → kept_at key (with_kept new.key (length new.events) s k.states) ≡ None
          by true f o g =
              let found : batch_at key (arrived new batches) ≡ Some new = has-found (arrived new batches) key new (sym (same-keys key new.key f)) (new-there run batches new r j) in absurd (cc)
          by false f None g = kept-others new.key key (length new.events) s k.states f ∙ kept.none key g
          by false f (Some b) g =
              let found : batch_at key (arrived new batches) ≡ Some b = has-found (arrived new batches) key b (found-key batches key b g) (old-there run batches new r j b (found-has batches key b g)) in absurd (cc)

-- a list that ends with an item, cut before one of its items
cut-last : {X : Type 0} (up front back : List X) (b x : X) → up ++ b ∷ [] ≡ front ++ x ∷ back → ((x ≡ b) × (front ≡ up)) ⊎ ((rest : List X) × (up ≡ front ++ x ∷ rest))
cut-last [] [] back b x e = inl (cc, refl)
cut-last [] (f ∷ []) back b x e = absurd (cc)
cut-last [] (f ∷ g ∷ front) back b x e = absurd (cc)
cut-last (u ∷ up) [] back b x e = let same : u ≡ x = cc in inr (up, ap (λ y. y ∷ up) same)
cut-last {X = X} (u ∷ up) (f ∷ front) back b x e =
    let same : u ≡ f = cc in
    let rest : up ++ b ∷ [] ≡ front ++ x ∷ back = cc in
    by same (cut-last up front back b x rest)
  where
    by : u ≡ f → ((x ≡ b) × (front ≡ up)) ⊎ ((rest : List X) × (up ≡ front ++ x ∷ rest)) → ((x ≡ b) × (f ∷ front ≡ u ∷ up)) ⊎ ((rest : List X) × (u ∷ up ≡ f ∷ front ++ x ∷ rest))
    by same (inl c) = inl (c.0, (let t : front ≡ up = c.1 in cc))
    by same (inr c) = inr (c.0, (let t : up ≡ front ++ x ∷ c.0 = c.1 in cc))

-- a path up to one of its batches is the path to it
pub path-front : (batches : List Batch) (b : Batch) (path front back : List Batch) (x : Batch) → IsPath batches b path → path ≡ front ++ x ∷ back → IsPath batches x (front ++ x ∷ [])
path-front batches b path [] back x (first _ has e) at = let same : b ≡ x = cc in subst (λ (y : Batch). IsPath batches y (y ∷ [])) same (first b has e)
path-front batches b path (f ∷ []) back x (first _ has e) at = absurd (cc)
path-front batches b path (f ∷ g ∷ front) back x (first _ has e) at = absurd (cc)
path-front batches b path front back x (below _ before key up has e there r) at =
    by (cut-last up front back b x at) (λ rest h. path-front batches before up front rest x r h)
  where
    by : ((x ≡ b) × (front ≡ up)) ⊎ ((rest : List Batch) × (up ≡ front ++ x ∷ rest)) → ((rest : List Batch) → up ≡ front ++ x ∷ rest → IsPath batches x (front ++ x ∷ [])) → IsPath batches x (front ++ x ∷ [])
    by (inl c) rest = subst (λ (l : List Batch). IsPath batches x (l ++ x ∷ [])) (sym c.1) (subst (λ (y : Batch). IsPath batches y (up ++ y ∷ [])) (sym c.0) (below b before key up has e there r))
    by (inr c) rest = rest c.0 c.1

-- what is kept fits each path of the run
pub kept-fits : (run : RunId) (batches : List Batch) (k : Kept) (b : Batch) → IsRun run batches → IsKept run batches k → Has batches b → FitsPath k (path_to b.key batches)
kept-fits run batches k b r kept has front back x s e at =
    let p : IsPath batches x (front ++ x ∷ []) = path-front batches b (path_to b.key batches) front back x (path_is run batches r.tree b has) e in
    let h : Has batches x = path-has batches x (front ++ x ∷ []) p in
    let own : front ++ x ∷ [] ≡ path_to x.key batches = one-path batches x (front ++ x ∷ []) (path_to x.key batches) p (path_is run batches r.tree x h) in (
      state_to run x.key batches,
      ap (λ (l : List Batch). replay_of k.run (history_of l)) own ∙ ap (λ (i : RunId). replay_of i (events_to x.key batches)) kept.run_is ∙ path-state run batches x r h,
      value (reaches (length x.events) (length (events_to x.key batches) + 1)) (sym (kept.at x h) ∙ at),
    )
  where
    value : (t : Bool) → (if t then Some (bare (state_to run x.key batches)) else None) ≡ Some s → s ≡ bare (state_to run x.key batches)
    value true g = cc
    value false g = absurd (cc)
