-- What waits is what is a stray.
use Rattle.std.proofs.Common.{◌≡◌, ℕ, Bool, true, false, not, ◌&&◌, ◌||◌, List, [], ◌∷◌, ◌++◌, inl, inr, map, Option, Some, None, is_some, is_none, refl, sym, ap, subst, ◌∙◌, if◌then◌else◌}
use Rattle.std.specs.List.{list_any, cons_option, AllByRecursion}
use Rattle.std.specs.Map.{lookup}
use Rattle.std.proofs.lemmas.List.Folds.{list_any-append}
use Rattle.indexmap.specs.IndexMap.{insert_entry}
use Rattle.ndc_event.specs.Key.{key_eq, key_lt}
use Rattle.ndc_event.specs.declared.batch.Batch.{Batch}
use Rattle.ndc_event.specs.declared.batch.Event.{Event}
use Rattle.ndc_event.specs.declared.key.BatchKey.{BatchKey}
use Rattle.ndc_event.specs.declared.key.Origin.{Origin}
use Rattle.ndc_event.specs.declared.key.RunId.{RunId}
use Rattle.ndc_event.specs.declared.kind.EventKind.{EventKind}
use Rattle.ndc_event.specs.declared.kind.EventKind.TheVariants.{WorkflowExecutionSignaled}
use Rattle.ndc_model_sets.specs.Branches.{current_tip, leads, runs, tips}
use Rattle.ndc_model_sets.specs.Current.{is_zombie, origins_at, run_status, settled, settled_by, settled_by_runs, strays}
use Rattle.ndc_model_sets.specs.Origins.{origins_in, signal_of, signals, signals_in}
use Rattle.ndc_model_sets.specs.Paths.{Walk, is_wanted, path_to, walk_down, walk_over}
use Rattle.ndc_model_sets.specs.Sets.{ComeAfter, PointsBack, Rise}
use Rattle.ndc_model_sets.specs.Sound.{IsSound}
use Rattle.ndc_model_sets.specs.View.{branch_view, run_view, view_of}
use Rattle.ndc_model_sets.proofs.CurrentLaws.{current-has}
use Rattle.ndc_model_sets.proofs.ForkLemmas.{path-run}
use Rattle.ndc_model_sets.proofs.KeyLemmas.{before-irrefl, before-trans, key_eq-self, same-keys}
use Rattle.ndc_model_sets.proofs.Lists.{Among, find-among}
use Rattle.ndc_model_sets.proofs.PathLemmas.{from, parent-back, path_is}
use Rattle.ndc_reapply.specs.declared.stray.Stray.{Stray}
use Rattle.ndc_reapply.specs.Strays.{origins_of}
use Rattle.ndc_reapply.proofs.LawProofs.{unsettled_origins}
use Rattle.ndc_reapply.proofs.OrderLemmas.{same_origin-is}
use Rattle.ndc_state.specs.Origins.{is_among, origin_of, same_origin}
use Rattle.ndc_state.specs.Replay.{history_of}
use Rattle.ndc_dump.specs.Marks.{current_key}
use Rattle.ndc_dump_causes.specs.Keys.{is_listed}
use Rattle.ndc_explain.specs.declared.settlers.Settler.{Settler}
use Rattle.ndc_explain.specs.Explanation.{findings, waits}
use Rattle.ndc_explain.specs.Signals.{Settlers, with_events, with_kind, with_listed}
use Rattle.ndc_explain.specs.Standing.{with_optional, with_parent, with_parents, with_tip, with_tips}
use Rattle.ndc_explain.proofs.LawProofs.{same_origins}
use Rattle.ndc_dump_causes.proofs.KnownLemmas.{or-false}
use Rattle.ndc_explain.specs.Standing.{standing}
use Rattle.ndc_explain.proofs.StandingLaws.{none-not-some, of_key, of_run, or-group, or-swap, standing-any, tip_key}

-- ---- origins

module _ (o : Origin) where
  -- whether it is the origin of this signal, where there is one
  abbrev is_of : Option Stray → Bool
  is_of None = false
  is_of (Some signal) = same_origin o signal.origin

  among-cons : (x : Option Stray) (list : List Stray) → is_among o (origins_of (cons_option x list)) ≡ (is_of x || is_among o (origins_of list))
  among-cons None list = refl
  among-cons (Some signal) list = refl

  among-append : (run : RunId) (one two : List Event) → is_among o (origins_in run (one ++ two)) ≡ (is_among o (origins_in run one) || is_among o (origins_in run two))
  among-append run [] two = refl
  among-append run (e ∷ one) two =
      let x = signal_of run e.id e.version e.kind in
      among-cons x (signals_in run (one ++ two)) ∙ ap (λ (t : Bool). is_of x || t) (among-append run one two)
      ∙ sym (or-group (is_of x) (is_among o (origins_in run one)) (is_among o (origins_in run two)))
      ∙ ap (λ (t : Bool). t || is_among o (origins_in run two)) (sym (among-cons x (signals_in run one)))

  -- whether a batch has a signal of this origin
  abbrev has_origin : Batch → Bool
  has_origin b = is_among o (origins_in b.run b.events)

  -- a path of one run has a signal of the origin exactly where one of its batches has
  path-origins : (run : RunId) (path : List Batch) → ((c : Batch) → Among c path → c.run ≡ run) → list_any has_origin path ≡ is_among o (origins_in run (history_of path))
  path-origins run [] same = refl
  path-origins run (c ∷ path) same =
      ap (λ (t : Bool). t || list_any has_origin path) (ap (λ (r : RunId). is_among o (origins_in r c.events)) (same c (inl refl)))
      ∙ ap (λ (t : Bool). is_among o (origins_in run c.events) || t) (path-origins run path (λ x on. same x (inr on)))
      ∙ sym (among-append run c.events (history_of path))

  -- ---- what settles

  abbrev is_settled : Settlers → Bool
  is_settled known = is_some (lookup (same_origin o) known)

  settled-put : (known : Settlers) (origin : Origin) (by_this : Settler) → is_settled (insert_entry same_origin known origin by_this) ≡ (is_settled known || same_origin o origin)
  settled-put [] origin by_this = by (same_origin o origin)
    where
      by : (t : Bool) → is_some (if t then Some by_this else None) ≡ (false || t)
      by true = refl
      by false = refl
  settled-put (e ∷ known) origin by_this = by (same_origin origin e.0) refl (settled-put known origin by_this)
    where
      own : (t : Bool) → same_origin o e.0 ≡ t → same_origin origin e.0 ≡ true → is_some (if t then Some by_this else lookup (same_origin o) known) ≡ (is_some (if t then Some e.1 else lookup (same_origin o) known) || same_origin o origin)
      own true f g = refl
      own false f g =
          let apart : same_origin o origin ≡ false = subst (λ (x : Origin). same_origin o x ≡ false) (sym (same_origin-is origin e.0 g)) f in
          sym (ap (λ (t : Bool). is_settled known || t) apart ∙ or-false (is_settled known))

      other : (t : Bool) → is_settled (insert_entry same_origin known origin by_this) ≡ (is_settled known || same_origin o origin)
          → is_some (if t then Some e.1 else lookup (same_origin o) (insert_entry same_origin known origin by_this)) ≡ (is_some (if t then Some e.1 else lookup (same_origin o) known) || same_origin o origin)
      other true rest = refl
      other false rest = rest

      by : (t : Bool) → same_origin origin e.0 ≡ t → is_settled (insert_entry same_origin known origin by_this) ≡ (is_settled known || same_origin o origin)
          → is_settled (if t then (e.0, by_this) ∷ known else e ∷ insert_entry same_origin known origin by_this) ≡ (is_settled (e ∷ known) || same_origin o origin)
      by true g rest = own (same_origin o e.0) refl g
      by false g rest = other (same_origin o e.0) rest

  settled-kind : (b : Batch) (id version : ℕ) (kind : EventKind) (known : Settlers) → is_settled (with_kind b id version kind known) ≡ (is_settled known || is_of (signal_of b.run id version kind))
  settled-kind b id version (WorkflowExecutionSignaled name input come) known = settled-put known (origin_of b.run id version come) (record { key = b.key; is_copy = is_some come })
  settled-kind b id version _ known = sym (or-false (is_settled known))

  settled-events : (b : Batch) (events : List Event) (known : Settlers) → is_settled (with_events b events known) ≡ (is_settled known || is_among o (origins_in b.run events))
  settled-events b [] known = sym (or-false (is_settled known))
  settled-events b (e ∷ events) known =
      let x = signal_of b.run e.id e.version e.kind in
      settled-events b events (with_kind b e.id e.version e.kind known)
      ∙ ap (λ (t : Bool). t || is_among o (origins_in b.run events)) (settled-kind b e.id e.version e.kind known)
      ∙ or-group (is_settled known) (is_of x) (is_among o (origins_in b.run events))
      ∙ ap (λ (t : Bool). is_settled known || t) (sym (among-cons x (signals_in b.run events)))

  settled-listed : (keys : List BatchKey) (batches : List Batch) (known : Settlers)
      → is_settled (with_listed keys batches known) ≡ (is_settled known || list_any (λ b. is_listed b.key keys && has_origin b) batches)
  settled-listed keys [] known = sym (or-false (is_settled known))
  settled-listed keys (b ∷ batches) known =
      settled-listed keys batches (if is_listed b.key keys then with_events b b.events known else known)
      ∙ ap (λ (t : Bool). t || list_any (λ c. is_listed c.key keys && has_origin c) batches) (by (is_listed b.key keys))
      ∙ or-group (is_settled known) (is_listed b.key keys && has_origin b) (list_any (λ c. is_listed c.key keys && has_origin c) batches)
    where
      by : (t : Bool) → is_settled (if t then with_events b b.events known else known) ≡ (is_settled known || (t && has_origin b))
      by true = settled-events b b.events known
      by false = sym (or-false (is_settled known))

  -- ---- the current branches

  module _ (batches : List Batch) (sound : IsSound batches) where
    -- whether the path to this batch has a signal of the origin
    abbrev on_path : BatchKey → Bool
    on_path key = list_any has_origin (path_to key batches)

    -- the path to the current tip of a run has the origin exactly where the run's current branch has
    tip-origins : (run : RunId) (x : Option Batch) → current_tip run batches ≡ x → of_key on_path (tip_key x) ≡ is_among o (origins_at run x batches)
    tip-origins run None e = refl
    tip-origins run (Some tip) e =
        let has = current-has batches run tip sound.set e in
        path-origins run (path_to tip.key batches)
        (λ c on. (path-run batches tip c (path_to tip.key batches) sound.parents (path_is batches tip sound.set sound.closed has.0) on).1 ∙ has.1)

    -- a run settles what is on the path to its current tip, where it is not a zombie
    run-settles : (run : RunId) → of_run batches on_path run ≡ is_among o (settled_by run batches)
    run-settles run = by (is_zombie (run_status run batches))
      where
        by : (t : Bool) → (not t && of_key on_path (tip_key (current_tip run batches))) ≡ is_among o (if t then [] else origins_at run (current_tip run batches) batches)
        by true = refl
        by false = tip-origins run (current_tip run batches) refl

    runs-settle : (list : List RunId) → list_any (of_run batches on_path) list ≡ is_among o (settled_by_runs list batches)
    runs-settle [] = refl
    runs-settle (run ∷ list) =
        ap (λ (t : Bool). of_run batches on_path run || t) (runs-settle list)
        ∙ ap (λ (t : Bool). t || is_among o (settled_by_runs list batches)) (run-settles run)
        ∙ sym (list_any-append (same_origin o) (settled_by run batches) (settled_by_runs list batches))

    -- what is settled in the explanation is what is settled in the set
    settled-same : is_settled (findings (view_of batches)).settlers ≡ is_among o (settled batches)
    settled-same =
        settled-listed (standing (view_of batches)) batches []
        ∙ standing-any batches has_origin sound.set.ordered sound.set.back
        ∙ runs-settle (runs batches)

    -- a signal waits exactly where it is a stray
    pub waits_where_stray : waits (findings (view_of batches)) o ≡ is_among o (origins_of (strays batches))
    waits_where_stray =
        ap (λ (t : Bool). t && is_none (lookup (same_origin o) (findings (view_of batches)).settlers)) (same_origins (signals batches) o)
        ∙ ap (λ (t : Bool). is_among o (origins_of (signals batches)) && t) (none-not-some (lookup (same_origin o) (findings (view_of batches)).settlers) ∙ ap not settled-same)
        ∙ sym (unsettled_origins o (signals batches) (settled batches))
