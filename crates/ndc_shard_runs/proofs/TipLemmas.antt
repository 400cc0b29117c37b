-- What is read of the last batch.
use Rattle.std.proofs.Common.{◌≡◌, Bor, Bool, true, false, not, ◌&&◌, List, [], ◌∷◌, Option, Some, None, if◌then◌else◌, refl, sym, ◌∙◌, subst, ap}
use Rattle.std.specs.Prelude.{is_none, is_some}
use Rattle.std.specs.List.{AllByRecursion}
use Rattle.std.specs.Option.{option_map, option_copied}
use Rattle.ndc_event.specs.Key.{key_lt}
use Rattle.ndc_event.specs.declared.batch.Batch.{Batch}
use Rattle.ndc_event.specs.declared.key.BatchKey.{BatchKey}
use Rattle.ndc_event.specs.declared.key.RunId.{RunId}
use Rattle.ndc_model_cells.specs.Writing.{greatest_version, state_under}
use Rattle.ndc_model_sets.specs.Branches.{same_run, workflow_tip}
use Rattle.ndc_model_sets.specs.Current.{current_state, state_to}
use Rattle.ndc_model_sets.specs.Sets.{batch_at}
use Rattle.ndc_model_sets.specs.Sound.{IsSound}
use Rattle.ndc_model_sets.proofs.SetLemmas.{has-found}
use Rattle.ndc_model_sets.specs.Last.{is_nil, last_batch}
use Rattle.ndc_shard_runs.specs.Kept.{is_idle, is_open}
use Rattle.ndc_tree.proofs.LastLemmas.{none-last}
use Rattle.ndc_tree.specs.Tree.{TreeValue}
use Rattle.ndc_shard_runs.specs.RunMap.{part_of, run_in, run_at, batches_of}
use Rattle.ndc_shard_runs.proofs.ReadLemmas.{tip-is-last, last-has, last-state, version-of-last, no-version, at-part}

-- where nothing is made of what there is, there is nothing
pub none-map : {X Y : Type 0} (f : X → Y) (o : Option X) → None ≡ option_map f o → o ≡ None
none-map f None e = refl
none-map f (Some x) e = absurd (cc)

pub some-map : {X Y : Type 0} (f : X → Y) (o : Option X) (y : Y) → Some y ≡ option_map f o → (x : X) × (o ≡ Some x) × (f x ≡ y)
some-map f None y e = absurd (cc)
some-map f (Some x) y e = (x, refl, by f x y e)
  where
    by : {X Y : Type 0} (f : X → Y) (x : X) (y : Y) → Some y ≡ Some (f x) → f x ≡ y
    by f x y e = cc

module _ (batches : List Batch) (sound : IsSound batches) where
  pub tip-none : None ≡ option_map (λ b. b.key) (last_batch batches) → None ≡ workflow_tip batches
  tip-none e = sym (tip-is-last batches sound ∙ none-map (λ b. b.key) (last_batch batches) e)

  pub version-none : None ≡ option_map (λ b. b.key) (last_batch batches) → 0 ≡ greatest_version batches
  version-none e = sym (no-version batches (none-map (λ b. b.key) (last_batch batches) e))

  pub state-none : None ≡ option_map (λ b. b.key) (last_batch batches) → None ≡ state_under (workflow_tip batches) batches
  state-none e = ap (λ o. state_under o batches) (tip-none e)

  module _ (key : BatchKey) (e : Some key ≡ option_map (λ b. b.key) (last_batch batches)) where
    last-of : (m : Batch) × (last_batch batches ≡ Some m) × (m.key ≡ key)
    last-of = some-map (λ b. b.key) (last_batch batches) key e

    at-last : batch_at key batches ≡ Some last-of.0
    at-last = has-found batches key last-of.0 last-of.2 (last-has batches sound last-of.0 last-of.1)

    pub tip-some : batch_at key batches ≡ workflow_tip batches
    tip-some = at-last ∙ sym (tip-is-last batches sound ∙ last-of.1)

    pub version-some : key.version ≡ greatest_version batches
    version-some = ap (λ (k : BatchKey). k.version) (sym last-of.2) ∙ sym (version-of-last batches last-of.0 sound.set.ordered last-of.1)

    pub state-there : None ≡ option_map (λ b. run_in batches b.run) (batch_at key batches) → ⊥
    state-there h = let none : batch_at key batches ≡ None = none-map (λ b. run_in batches b.run) (batch_at key batches) h in let some : batch_at key batches ≡ Some last-of.0 = at-last in cc

    pub state-some : (r : TreeValue) → Some r ≡ option_map (λ b. run_in batches b.run) (batch_at key batches) → Some (current_state r.run r.batches) ≡ state_under (workflow_tip batches) batches
    state-some r h =
        let m = last-of.0 in
        let one : r ≡ run_in batches m.run = same (h ∙ ap (option_map (λ b. run_in batches b.run)) at-last) in
        ap (λ (v : TreeValue). Some (current_state v.run v.batches)) one ∙ ap Some (last-state batches sound m last-of.1)
        ∙ ap (λ o. state_under o batches) (sym (tip-is-last batches sound ∙ last-of.1))
      where
        same : {X : Type 0} {x y : X} → Some x ≡ Some y → x ≡ y
        same e = cc

module _ (batches : List Batch) (sound : IsSound batches) (key : BatchKey) where
  -- a batch of a key is in its run
  pub got : (r : TreeValue) → Some r ≡ option_map (λ b. run_in batches b.run) (batch_at key batches) → batch_at key r.batches ≡ batch_at key batches
  got r e =
      let p = some-map (λ b. run_in batches b.run) (batch_at key batches) r e in
      ap (λ (v : TreeValue). batch_at key v.batches) (sym p.2) ∙ at-part batches sound key p.0 p.1 ∙ sym p.1

-- whether all keys come before this one, and the current run is not open
pub idle-at : (batches : List Batch) → IsSound batches → (last key : BatchKey) → Some last ≡ option_map (λ b. b.key) (last_batch batches) → key_lt last key ≡ true
    → not (is_open (state_under (workflow_tip batches) batches)) ≡ is_idle (last_batch batches) key batches
idle-at batches sound last key e l =
    let m = some-map (λ b. b.key) (last_batch batches) last e in
    let before : key_lt m.0.key key ≡ true = subst (λ (k : BatchKey). key_lt k key ≡ true) (sym m.2) l in
    ap (λ o. not (is_open (state_under o batches))) (tip-is-last batches sound ∙ m.1)
    ∙ sym (ap (λ o. is_idle o key batches) m.1 ∙ ap (λ t. t && not (state_to m.0.run m.0.key batches).running) before)

-- a run is not there exactly where it has no batch
pub none-run : (run : RunId) (runs : List TreeValue) (batches : List Batch) → AllByRecursion (λ r. is_nil r.batches ≡ false) runs → batches_of (run_at run runs) ≡ part_of run batches
    → is_none (run_at run runs) ≡ is_nil (part_of run batches)
none-run run runs batches full e = by (run_at run runs) refl ∙ ap is_nil e
  where
    some-full : (runs : List TreeValue) (r : TreeValue) → AllByRecursion (λ x. is_nil x.batches ≡ false) runs → run_at run runs ≡ Some r → is_nil r.batches ≡ false
    some-full [] r all h = absurd (cc)
    some-full (x ∷ xs) r all h = one (same_run x.run run) h (some-full xs r all.1)
      where
        one : (t : Bool) → (if t then Some x else run_at run xs) ≡ Some r → (run_at run xs ≡ Some r → is_nil r.batches ≡ false) → is_nil r.batches ≡ false
        one true g rest = let same : x ≡ r = cc in subst (λ (v : TreeValue). is_nil v.batches ≡ false) same all.0
        one false g rest = rest g

    by : (o : Option TreeValue) → run_at run runs ≡ o → is_none (run_at run runs) ≡ is_nil (batches_of (run_at run runs))
    by None h = ap is_none h ∙ sym (ap (λ o. is_nil (batches_of o)) h)
    by (Some r) h = ap is_none h ∙ sym (ap (λ o. is_nil (batches_of o)) h ∙ some-full runs r full h)

-- what there is not is not there once it is read
pub none-read : {X : Type 0} (o : Option (Bor X)) (t : Bool) → is_some o ≡ not t → t ≡ is_none (option_copied o)
none-read None true e = refl
none-read None false e = absurd (cc)
none-read (Some x) true e = absurd (cc)
none-read (Some x) false e = refl

-- what there is is there once it is read
pub some-read : {X : Type 0} (o : Option (Bor X)) → is_some o ≡ is_some (option_copied o)
some-read None = refl
some-read (Some x) = refl

pub some-of : {X Y : Type 0} (f : X → Y) (o : Option X) → is_some (option_map f o) ≡ is_some o
some-of f None = refl
some-of f (Some x) = refl

-- there is a last batch exactly where there is one
pub nil-last : (batches : List Batch) (key : Option BatchKey) (t : Bool) → is_some key ≡ not t → key ≡ option_map (λ b. b.key) (last_batch batches) → t ≡ is_nil batches
nil-last batches key t e h = by (last_batch batches) refl t (ap is_some (sym h) ∙ e)
  where
    by : (o : Option Batch) → last_batch batches ≡ o → (t : Bool) → is_some (option_map (λ (b : Batch). b.key) (last_batch batches)) ≡ not t → t ≡ is_nil batches
    by None at true g = sym (ap is_nil (none-last batches at))
    by None at false g = let none : is_some (option_map (λ (b : Batch). b.key) (last_batch batches)) ≡ false = ap (λ o. is_some (option_map (λ (b : Batch). b.key) o)) at in absurd (cc)
    by (Some m) at true g = let some : is_some (option_map (λ (b : Batch). b.key) (last_batch batches)) ≡ true = ap (λ o. is_some (option_map (λ (b : Batch). b.key) o)) at in absurd (cc)
    by (Some m) at false g = sym (full batches at)
      where
        full : (l : List Batch) → last_batch l ≡ Some m → is_nil l ≡ false
        full [] h = absurd (cc)
        full (b ∷ l) h = refl
