-- How many events there are after the last that is kept on a path.
use Rattle.std.proofs.Common.{◌≡◌, ℕ, ◌+◌, ◌-◌, ◌*◌, ◌/◌, ◌≤◌, Bool, true, false, not, ◌==◌, List, [], ◌∷◌, ◌++◌, length, Option, Some, None, if◌then◌else◌, refl, sym, ◌∙◌, subst, ap, arith}
use Rattle.std.proofs.lemmas.List.{append-nil, length-append}
use Rattle.std.proofs.lemmas.Bool.{eqb-true}
use Rattle.ndc_event.specs.declared.batch.Batch.{Batch}
use Rattle.ndc_event.specs.declared.batch.Event.{Event}
use Rattle.ndc_event.specs.declared.key.BatchKey.{BatchKey}
use Rattle.ndc_event.specs.declared.key.RunId.{RunId}
use Rattle.ndc_rebuild.specs.Kept.{Kept, bare, kept_at, reaches, behind_kept, or_earlier, last_kept, batches_behind, events_behind}
use Rattle.ndc_state.specs.Replay.{history_of}
use Rattle.ndc_state.specs.Value.{StateValue}
use Rattle.ndc_model_sets.specs.Current.{state_to}
use Rattle.ndc_model_sets.specs.Paths.{IsPath, first, below, path_to, events_to}
use Rattle.ndc_model_sets.specs.Sets.{Has}
use Rattle.ndc_model_sets.proofs.PathIds.{history-push}
use Rattle.ndc_model_sets.proofs.PathLemmas.{one-path}
use Rattle.ndc_tree.proofs.PathLemmas.{path_is}
use Rattle.ndc_run.specs.Run.{IsRun, IsKept}

-- what was found, with a batch more after it
abbrev pushed : Batch → Option (StateValue × List Batch) → Option (StateValue × List Batch)
pushed b None = None
pushed b (Some found) = Some (found.0, found.1 ++ b ∷ [])

pushed-or : (b : Batch) (up : List Batch) (o : Option (StateValue × List Batch)) (k : Option StateValue)
    → or_earlier (pushed b o) (behind_kept (up ++ b ∷ []) k) ≡ pushed b (or_earlier o (behind_kept up k))
pushed-or b up None None = refl
pushed-or b up None (Some s) = refl
pushed-or b up (Some f) k = refl

-- a batch more that is not kept
last-pushed : (states : List (BatchKey × StateValue)) (up : List Batch) (b : Batch) → kept_at b.key states ≡ None → last_kept states (up ++ b ∷ []) ≡ pushed b (last_kept states up)
last-pushed states [] b none = ap (λ k. or_earlier None (behind_kept [] k)) none
last-pushed states (x ∷ up) b none =
    ap (λ o. or_earlier o (behind_kept (up ++ b ∷ []) (kept_at x.key states))) (last-pushed states up b none) ∙ pushed-or b up (last_kept states up) (kept_at x.key states)

behind-pushed : (b : Batch) (up : List Batch) (o : Option (StateValue × List Batch)) → batches_behind (up ++ b ∷ []) (pushed b o) ≡ batches_behind up o ++ b ∷ []
behind-pushed b up None = refl
behind-pushed b up (Some f) = refl

behind-none : (states : List (BatchKey × StateValue)) (up : List Batch) (b : Batch) → kept_at b.key states ≡ None → events_behind states (up ++ b ∷ []) ≡ events_behind states up ++ b.events
behind-none states up b none =
    ap (λ o. history_of (batches_behind (up ++ b ∷ []) o)) (last-pushed states up b none)
    ∙ ap history_of (behind-pushed b up (last_kept states up)) ∙ history-push (batches_behind up (last_kept states up)) b

-- a batch more that is kept
last-some : (states : List (BatchKey × StateValue)) (up : List Batch) (b : Batch) (s : StateValue) → kept_at b.key states ≡ Some s → last_kept states (up ++ b ∷ []) ≡ Some (s, [])
last-some states [] b s some = ap (λ k. or_earlier None (behind_kept [] k)) some
last-some states (x ∷ up) b s some = ap (λ o. or_earlier o (behind_kept (up ++ b ∷ []) (kept_at x.key states))) (last-some states up b s some)

behind-some : (states : List (BatchKey × StateValue)) (up : List Batch) (b : Batch) (s : StateValue) → kept_at b.key states ≡ Some s → events_behind states (up ++ b ∷ []) ≡ []
behind-some states up b s some = ap (λ o. history_of (batches_behind (up ++ b ∷ []) o)) (last-some states up b s some)

-- what is after the last that is kept does not reach down to the last multiple of 512
abbrev pub IsNear : ℕ → ℕ → Type 0
IsNear behind all = behind + 512 * (all / 512) ≤ all

near-none : (all : ℕ) → IsNear 0 all
near-none all = omega arith

near-more : (behind front more all : ℕ) → all ≡ front + more → all / 512 ≡ (all - more) / 512 → IsNear behind front → IsNear (behind + more) all
near-more behind front more all e q n =
    let back : all - more ≡ front = omega (arith, e) in
    let same : all / 512 ≡ front / 512 = q ∙ ap (λ x. x / 512) back in
    subst (λ x. behind + more + 512 * x ≤ all) (sym same) (omega (arith, e, n))

near-first : (n all : ℕ) → all ≡ n → all / 512 ≡ (all - n) / 512 → IsNear n all
near-first n all e q =
    let back : all - n ≡ 0 = omega (arith, e) in
    let same : all / 512 ≡ 0 = q ∙ ap (λ x. x / 512) back in
    subst (λ x. n + 512 * x ≤ all) (sym same) (omega (arith, e))

pub near-most : (behind all : ℕ) → IsNear behind all → behind ≤ 511
near-most behind all n = omega arith

not-not : (t : Bool) → not t ≡ false → t ≡ true
not-not true e = refl
not-not false e = absurd (cc)

-- where a batch is not kept, it takes the number of events to no multiple
not-reached : (n all : ℕ) → reaches n (all + 1) ≡ false → all / 512 ≡ (all - n) / 512
not-reached n all e =
    let one : all + 1 - 1 ≡ all = omega arith in
    let f : ((all + 1 - 1) / 512 == (all + 1 - 1 - n) / 512) ≡ true = not-not ((all + 1 - 1) / 512 == (all + 1 - 1 - n) / 512) e in
    subst (λ x. x / 512 ≡ (x - n) / 512) one (eqb-true ((all + 1 - 1) / 512) ((all + 1 - 1 - n) / 512) f)

module _ (run : RunId) (batches : List Batch) (k : Kept) (r : IsRun run batches) (kept : IsKept run batches k) where
  near : (b : Batch) (path : List Batch) → IsPath batches b path → IsNear (length (events_behind k.states path)) (length (history_of path))
  near b path (first _ has e) = by (reaches (length b.events) (length (events_to b.key batches) + 1)) refl (kept.at b has)
    where
      own : path_to b.key batches ≡ b ∷ []
      own = one-path batches b (path_to b.key batches) (b ∷ []) (path_is run batches r.tree b has) (first b has e)

      all : length (history_of (b ∷ [])) ≡ length b.events
      all = ap (λ (l : List Event). length l) (append-nil b.events)

      by : (t : Bool) → reaches (length b.events) (length (events_to b.key batches) + 1) ≡ t → kept_at b.key k.states ≡ (if t then Some (bare (state_to run b.key batches)) else None)
          → IsNear (length (events_behind k.states (b ∷ []))) (length (history_of (b ∷ [])))
      by true f g = subst (λ (l : List Event). IsNear (length l) (length (history_of (b ∷ [])))) (sym (behind-some k.states [] b (bare (state_to run b.key batches)) g)) (near-none (length (history_of (b ∷ []))))
      by false f g =
          let q = not-reached (length b.events) (length (history_of (b ∷ []))) (subst (λ (l : List Batch). reaches (length b.events) (length (history_of l) + 1) ≡ false) own f) in
          subst (λ (l : List Event). IsNear (length l) (length (history_of (b ∷ [])))) (sym (behind-none k.states [] b g))
          (near-first (length b.events) (length (history_of (b ∷ []))) all q)
  near b path (below _ before key up has e at p) = by (reaches (length b.events) (length (events_to b.key batches) + 1)) refl (kept.at b has) (near before up p)
    where
      whole : path_to b.key batches ≡ up ++ b ∷ []
      whole = one-path batches b (path_to b.key batches) (up ++ b ∷ []) (path_is run batches r.tree b has) (below b before key up has e at p)

      all : length (history_of (up ++ b ∷ [])) ≡ length (history_of up) + length b.events
      all = ap (λ (l : List Event). length l) (history-push up b) ∙ length-append (history_of up) b.events

      by : (t : Bool) → reaches (length b.events) (length (events_to b.key batches) + 1) ≡ t → kept_at b.key k.states ≡ (if t then Some (bare (state_to run b.key batches)) else None)
          → IsNear (length (events_behind k.states up)) (length (history_of up)) → IsNear (length (events_behind k.states (up ++ b ∷ []))) (length (history_of (up ++ b ∷ [])))
      by true f g n = subst (λ (l : List Event). IsNear (length l) (length (history_of (up ++ b ∷ [])))) (sym (behind-some k.states up b (bare (state_to run b.key batches)) g)) (near-none (length (history_of (up ++ b ∷ []))))
      by false f g n =
          let q = not-reached (length b.events) (length (history_of (up ++ b ∷ []))) (subst (λ (l : List Batch). reaches (length b.events) (length (history_of l) + 1) ≡ false) whole f) in
          subst (λ (x : ℕ). IsNear x (length (history_of (up ++ b ∷ [])))) (sym (ap (λ (l : List Event). length l) (behind-none k.states up b g) ∙ length-append (events_behind k.states up) b.events))
          (near-more (length (events_behind k.states up)) (length (history_of up)) (length b.events) (length (history_of (up ++ b ∷ []))) all q n)

  -- at most 511 events are after the last that is kept
  pub few-behind : (b : Batch) → Has batches b → length (events_behind k.states (path_to b.key batches)) ≤ 511
  few-behind b has = near-most (length (events_behind k.states (path_to b.key batches))) (length (history_of (path_to b.key batches))) (near b (path_to b.key batches) (path_is run batches r.tree b has))
