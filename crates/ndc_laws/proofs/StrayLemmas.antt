-- After a batch below the current tip that copies all strays there is none.
use Rattle.std.proofs.Common.{◌≡◌, Bool, true, false, ◌&&◌, ◌||◌, not, is_some, List, [], ◌∷◌, ◌++◌, ◌⊎◌, inl, inr, Option, Some, None, refl, sym, ◌∙◌, subst, ap, true≢false, if◌then◌else◌}
use Rattle.std.specs.List.{cons_option, filter}
use Rattle.std.specs.Prelude.{is_none}
use Rattle.std.proofs.lemmas.Bool.{or_left, or_right}
use Rattle.std.proofs.lemmas.List.{append-nil, append_assoc, map-append}
use Rattle.std.proofs.lemmas.List.Folds.{list_any-append}
use Rattle.ndc_event.specs.Key.{key_lt}
use Rattle.ndc_event.specs.declared.batch.Batch.{Batch}
use Rattle.ndc_event.specs.declared.batch.Event.{Event}
use Rattle.ndc_event.specs.declared.key.Origin.{Origin}
use Rattle.ndc_event.specs.declared.key.RunId.{RunId}
use Rattle.ndc_laws_cells.proofs.StrayLemmas.{signal-batch}
use Rattle.ndc_model.proofs.ListLemmas.{any-one}
use Rattle.ndc_reapply.specs.Strays.{origins_of, strays_of}
use Rattle.ndc_reapply.specs.declared.stray.Stray.{Stray}
use Rattle.ndc_reapply.proofs.LawProofs.{unsettled_origins}
use Rattle.ndc_reapply.proofs.OrderLemmas.{same_origin-is, same_origin-self}
use Rattle.ndc_model_sets.specs.Branches.{current_tip, current_tips, greatest_key, is_current_run, is_run_of, runs, same_run, workflow_tip}
use Rattle.ndc_model_sets.specs.Current.{current_state, is_zombie, origins_at, replayed_or_new, settled, settled_by, settled_by_runs, state_at, status_of, strays}
use Rattle.ndc_model_sets.specs.Learned.{IsPart, has_key}
use Rattle.ndc_model_sets.specs.Origins.{origins_in, signal_of, signals, signals_in}
use Rattle.ndc_model_sets.specs.Paths.{events_to, path_to}
use Rattle.ndc_model_sets.specs.Sets.{Has, arrived, batch_at, earlier_of}
use Rattle.ndc_model_sets.specs.Sound.{IsSound}
use Rattle.ndc_model_sets.proofs.ArrivalLemmas.{is_there, stays, was_or_new}
use Rattle.ndc_model_sets.proofs.BranchLemmas.{IsUpTo, among-has, greatest-among, greatest-of, greatest-top, has-among, run-same, same-batch, same-run}
use Rattle.ndc_model_sets.proofs.CurrentLaws.{current-has, workflow_is_greatest}
use Rattle.ndc_model_sets.proofs.CurrentLemmas.{IsGreatestOf, current-greatest, of_run, run-greatest}
use Rattle.ndc_model_sets.proofs.ForkLemmas.{among-left, among-right}
use Rattle.ndc_model_sets.proofs.Lists.{Among, among-filter, among-map, filter-among, filter_map-among, list_any-one, map-among}
use Rattle.ndc_model_sets.proofs.WritePaths.{path_behind_parent, paths_stay}
use Rattle.ndc_state.specs.Origins.{is_among, same_origin}
use Rattle.ndc_state.specs.Replay.{history_of, replay_of}

-- where all signals are settled there is no stray
pub none-stray : (list : List Stray) (known : List Origin) → ((s : Stray) → Among s list → is_among s.origin known ≡ true) → strays_of list known ≡ []
none-stray [] known each = refl
none-stray (s ∷ list) known each = rw (each s (inl refl)) (none-stray list known (λ x h. each x (inr h)))

-- an origin that is one of them is among them
listed : (o : Origin) (list : List Origin) → Among o list → is_among o list ≡ true
listed o list h = list_any-one (same_origin o) list o h (same_origin-self o)

-- and is among them and more
listed-front : (o : Origin) (xs ys : List Origin) → is_among o xs ≡ true → is_among o (xs ++ ys) ≡ true
listed-front o xs ys h = list_any-append (same_origin o) xs ys ∙ or_left (is_among o xs) (is_among o ys) h

listed-back : (o : Origin) (xs ys : List Origin) → is_among o ys ≡ true → is_among o (xs ++ ys) ≡ true
listed-back o xs ys h = list_any-append (same_origin o) xs ys ∙ or_right (is_among o xs) (is_among o ys) h

-- signals of events in two parts
signals-parts : (run : RunId) (xs ys : List Event) → signals_in run (xs ++ ys) ≡ signals_in run xs ++ signals_in run ys
signals-parts run [] ys = refl
signals-parts run (e ∷ xs) ys = ap (cons_option (signal_of run e.id e.version e.kind)) (signals-parts run xs ys) ∙ first (signal_of run e.id e.version e.kind)
  where
    first : (o : Option Stray) → cons_option o (signals_in run xs ++ signals_in run ys) ≡ cons_option o (signals_in run xs) ++ signals_in run ys
    first None = refl
    first (Some s) = refl

origins-parts : (run : RunId) (xs ys : List Event) → origins_in run (xs ++ ys) ≡ origins_in run xs ++ origins_in run ys
origins-parts run xs ys = ap origins_of (signals-parts run xs ys) ∙ map-append (λ (s : Stray). s.origin) (signals_in run xs) (signals_in run ys)

-- the history of a path and a batch
history-last : (path : List Batch) (b : Batch) → history_of (path ++ b ∷ []) ≡ history_of path ++ b.events
history-last [] b = append-nil b.events
history-last (c ∷ path) b = ap (λ l. c.events ++ l) (history-last path b) ∙ sym (append_assoc c.events (history_of path) b.events)

-- and that of a batch is one of the batches
of-signal : (bs : List Batch) (b : Batch) (s : Stray) → Among b bs → Among s (signals_in b.run b.events) → Among s (signals bs)
of-signal [] b s h k = absurd h
of-signal (c ∷ bs) b s (inl same) k = among-left s (signals_in c.run c.events) (signals bs) (subst (λ (x : Batch). Among s (signals_in x.run x.events)) same k)
of-signal (c ∷ bs) b s (inr h) k = among-right s (signals_in c.run c.events) (signals bs) (of-signal bs b s h k)

-- what a run settles is settled
in-runs : (o : Origin) (batches : List Batch) (list : List RunId) (run : RunId) → Among run list → is_among o (settled_by run batches) ≡ true → is_among o (settled_by_runs list batches) ≡ true
in-runs o batches [] run h k = absurd h
in-runs o batches (r ∷ list) run (inl same) k = listed-front o (settled_by r batches) (settled_by_runs list batches) (subst (λ x. is_among o (settled_by x batches) ≡ true) same k)
in-runs o batches (r ∷ list) run (inr h) k = listed-back o (settled_by r batches) (settled_by_runs list batches) (in-runs o batches list run h k)

-- and what is settled some run settles
from-runs : (o : Origin) (batches : List Batch) (list : List RunId) → is_among o (settled_by_runs list batches) ≡ true → (run : RunId) × Among run list × (is_among o (settled_by run batches) ≡ true)
from-runs o batches [] h = absurd (true≢false (sym h))
from-runs o batches (r ∷ list) h = by (is_among o (settled_by r batches)) refl (sym (list_any-append (same_origin o) (settled_by r batches) (settled_by_runs list batches)) ∙ h) (from-runs o batches list)
  where
    by : (t : Bool) → is_among o (settled_by r batches) ≡ t → (is_among o (settled_by r batches) || is_among o (settled_by_runs list batches)) ≡ true
        → (is_among o (settled_by_runs list batches) ≡ true → (run : RunId) × Among run list × (is_among o (settled_by run batches) ≡ true))
        → (run : RunId) × Among run (r ∷ list) × (is_among o (settled_by run batches) ≡ true)
    by true e k rest = (r, inl refl, e)
    by false e k rest = let f = rest (sym (ap (λ t. t || is_among o (settled_by_runs list batches)) e) ∙ k) in (f.0, inr f.1, f.2)

-- a batch with the greatest key, below the current tip, in which each stray is copied
module _ (old : List Batch) (new tip : Batch) (sound : IsSound old) (later : IsSound (arrived new old)) (fresh : batch_at new.key old ≡ None) (is_tip : workflow_tip old ≡ Some tip)
    (parent : new.parent ≡ Some tip.key) (run : new.run ≡ tip.run) (above : (b : Batch) → Has old b → key_lt b.key new.key ≡ true)
    (copied : (s : Stray) → Among s (strays old) → Among s.origin (origins_in new.run new.events)) where
  abbrev all : List Batch
  all = arrived new old

  here : Has all new
  here = is_there new old sound.set.ordered fresh

  kept : IsPart old all
  kept = stays new old sound.set.ordered

  either : (b : Batch) → Has all b → (b ≡ new) ⊎ Has old b
  either b has = was_or_new new old b sound.set.ordered has

  tip-has : Has old tip
  tip-has = among-has old tip sound.set.ordered (greatest-among old tip (sym (workflow_is_greatest old sound.set sound.closed sound.parents sound.chains) ∙ is_tip))

  reached : has_key (earlier_of new.parent new.carrier) old ≡ true
  reached = ap (λ o. has_key (earlier_of o new.carrier) old) parent ∙ ap is_some tip-has

  -- the new batch is the tip
  top : (x : Batch) → Has all x → (x ≡ new) ⊎ (key_lt x.key new.key ≡ true)
  top x has = by (either x has)
    where
      by : (x ≡ new) ⊎ Has old x → (x ≡ new) ⊎ (key_lt x.key new.key ≡ true)
      by (inl e) = inl e
      by (inr h) = inr (above x h)

  new-tip : workflow_tip all ≡ Some new
  new-tip =
      workflow_is_greatest all later.set later.closed later.parents later.chains
      ∙ greatest-of all new (has-among all new here) (λ x among. top x (among-has all x later.set.ordered among))

  new-greatest : IsGreatestOf new.run all new
  new-greatest = record { has = here; mine = refl; top = λ x has same. top x has }

  new-current : current_tip new.run all ≡ Some new
  new-current = current-greatest all later.set later.closed later.parents later.chains new.run new new-greatest

  -- the current run settles what stands on the path to the new batch
  own-settled : settled_by new.run all ≡ origins_in new.run (events_to new.key all)
  own-settled =
      ap (λ c. if is_zombie (status_of (current_state new.run all).running c) then [] else origins_at new.run (current_tip new.run all) all) (ap (is_run_of new.run) new-tip ∙ same-run new.run new.run refl)
      ∙ by (current_state new.run all).running ∙ ap (λ o. origins_at new.run o all) new-current
    where
      by : (running : Bool) → (if is_zombie (status_of running true) then [] else origins_at new.run (current_tip new.run all) all) ≡ origins_at new.run (current_tip new.run all) all
      by true = refl
      by false = refl

  on-path : origins_in new.run (events_to new.key all) ≡ origins_in new.run (events_to tip.key old) ++ origins_in new.run new.events
  on-path =
      ap (λ path. origins_in new.run (history_of path)) (path_behind_parent old new tip sound fresh (later.faultless new here) reached tip-has parent)
      ∙ ap (origins_in new.run) (history-last (path_to tip.key old) new) ∙ origins-parts new.run (events_to tip.key old) new.events

  -- it is one of the runs
  run-listed : Among new.run (runs all)
  run-listed =
      let m = filter_map-among (λ r. current_tip r all) (runs all) new (greatest-among (current_tips all) new new-tip) in
      subst (λ r. Among r (runs all)) (sym (current-has all m.0 new later.set m.2).1) m.1

  on-own : (o : Origin) → is_among o (origins_in new.run (events_to tip.key old) ++ origins_in new.run new.events) ≡ true → is_among o (settled all) ≡ true
  on-own o h = in-runs o all (runs all) new.run run-listed (ap (is_among o) (own-settled ∙ on-path) ∙ h)

  -- what the run settled it settles still
  own-still : (o : Origin) → is_among o (settled_by new.run old) ≡ true → is_among o (settled all) ≡ true
  own-still o h = on-own o (listed-front o (origins_in new.run (events_to tip.key old)) (origins_in new.run new.events) (by (is_zombie (status_of (current_state new.run old).running (is_current_run new.run old))) h))
    where
      tip-greatest : IsGreatestOf new.run old tip
      tip-greatest = record { has = tip-has; mine = sym run; top = λ x has same. up x has }
        where
          up : (x : Batch) → Has old x → (x ≡ tip) ⊎ (key_lt x.key tip.key ≡ true)
          up x has = by (greatest-top old tip x (sym (workflow_is_greatest old sound.set sound.closed sound.parents sound.chains) ∙ is_tip) (has-among old x has))
            where
              by : IsUpTo tip.key x.key → (x ≡ tip) ⊎ (key_lt x.key tip.key ≡ true)
              by (inl same) = inl (same-batch old x tip has tip-has same)
              by (inr less) = inr less

      at-tip : origins_at new.run (current_tip new.run old) old ≡ origins_in new.run (events_to tip.key old)
      at-tip = ap (λ o. origins_at new.run o old) (current-greatest old sound.set sound.closed sound.parents sound.chains new.run tip tip-greatest)

      by : (zombie : Bool) → is_among o (if zombie then [] else origins_at new.run (current_tip new.run old) old) ≡ true → is_among o (origins_in new.run (events_to tip.key old)) ≡ true
      by true h = absurd (true≢false (sym h))
      by false h = ap (is_among o) (sym at-tip) ∙ h

  -- another run settles what it settled
  other-settled : (b : Batch) → Has old b → same_run new.run b.run ≡ false → settled_by b.run all ≡ settled_by b.run old
  other-settled b has other =
      ap (λ o. settles o all (is_current_run b.run all)) tip-all
      ∙ ap (λ path. settled-on (history_of path) (is_current_run b.run all)) (paths_stay old new g.0 sound fresh (later.faultless new here) reached g.2.has)
      ∙ ap (settled-on (events_to g.0.key old)) current
      ∙ sym (ap (λ o. settles o old (is_current_run b.run old)) tip-old)
    where
      g : (m : Batch) × (greatest_key (of_run b.run old) ≡ Some m) × IsGreatestOf b.run old m
      g = run-greatest old b sound.set has

      settles : Option Batch → List Batch → Bool → List Origin
      settles o batches current = if is_zombie (status_of (state_at b.run o batches).running current) then [] else origins_at b.run o batches

      settled-on : List Event → Bool → List Origin
      settled-on events current = if is_zombie (status_of (replayed_or_new b.run (replay_of b.run events)).running current) then [] else origins_in b.run events

      apart : new.run ≡ b.run → ⊥
      apart same = true≢false (sym (same-run new.run b.run same) ∙ other)

      greatest-all : IsGreatestOf b.run all g.0
      greatest-all = record { has = kept g.0 g.2.has; mine = g.2.mine; top = λ x has own. by x own (either x has) }
        where
          by : (x : Batch) → x.run ≡ b.run → (x ≡ new) ⊎ Has old x → (x ≡ g.0) ⊎ (key_lt x.key g.0.key ≡ true)
          by x own (inl e) = absurd (apart (sym (ap (λ (y : Batch). y.run) e) ∙ own))
          by x own (inr h) = g.2.top x h own

      tip-old : current_tip b.run old ≡ Some g.0
      tip-old = current-greatest old sound.set sound.closed sound.parents sound.chains b.run g.0 g.2

      tip-all : current_tip b.run all ≡ Some g.0
      tip-all = current-greatest all later.set later.closed later.parents later.chains b.run g.0 greatest-all

      current : is_current_run b.run all ≡ is_current_run b.run old
      current = ap (is_run_of b.run) new-tip ∙ ap (λ r. same_run r b.run) run ∙ sym (ap (is_run_of b.run) is_tip)

  -- what was settled is settled
  still-settled : (o : Origin) → is_among o (settled old) ≡ true → is_among o (settled all) ≡ true
  still-settled o h = by (from-runs o old (runs old) h)
    where
      by : (r : RunId) × Among r (runs old) × (is_among o (settled_by r old) ≡ true) → is_among o (settled all) ≡ true
      by (r, among, mine) = by-run (same_run new.run r) refl
        where
          m : (b : Batch) × Among b (filter (λ b. is_none b.parent) old) × (r ≡ b.run)
          m = map-among (λ (b : Batch). b.run) (filter (λ b. is_none b.parent) old) r among

          p : (is_none m.0.parent ≡ true) × Among m.0 old
          p = filter-among (λ (b : Batch). is_none b.parent) old m.0 m.1

          has : Has old m.0
          has = among-has old m.0 sound.set.ordered p.1

          run-there : Among m.0.run (runs all)
          run-there =
              among-map (λ (b : Batch). b.run) (filter (λ b. is_none b.parent) all) m.0
              (among-filter (λ (b : Batch). is_none b.parent) all m.0 p.0 (has-among all m.0 (kept m.0 has)))

          by-run : (t : Bool) → same_run new.run r ≡ t → is_among o (settled all) ≡ true
          by-run true same = own-still o (subst (λ x. is_among o (settled_by x old) ≡ true) (sym (run-same new.run r same)) mine)
          by-run false other =
              in-runs o all (runs all) m.0.run run-there
              (ap (is_among o) (other-settled m.0 has (ap (same_run new.run) (sym m.2) ∙ other)) ∙ subst (λ x. is_among o (settled_by x old) ≡ true) m.2 mine)

  -- each signal is settled
  signal-settled : (s : Stray) → Among s (signals all) → is_among s.origin (settled all) ≡ true
  signal-settled s h = by (either at.0 (among-has all at.0 later.set.ordered at.1))
    where
      at : (b : Batch) × Among b all × Among s (signals_in b.run b.events)
      at = signal-batch all s h

      copy : (known : Bool) → is_among s.origin (settled old) ≡ known → Among s (signals old) → is_among s.origin (settled all) ≡ true
      copy true e among = still-settled s.origin e
      copy false e among = from (any-one (same_origin s.origin) (origins_of (strays old)) is_stray)
        where
          is_stray : is_among s.origin (origins_of (strays old)) ≡ true
          is_stray =
              unsettled_origins s.origin (signals old) (settled old)
              ∙ ap (λ t. is_among s.origin (origins_of (signals old)) && not t) e
              ∙ ap (λ t. t && true) (listed s.origin (origins_of (signals old)) (among-map (λ (x : Stray). x.origin) (signals old) s among))

          from : (x : Origin) × Among x (origins_of (strays old)) × (same_origin s.origin x ≡ true) → is_among s.origin (settled all) ≡ true
          from (x, there, same) =
              let m = map-among (λ (y : Stray). y.origin) (strays old) x there in
              on-own s.origin (listed-back s.origin (origins_in new.run (events_to tip.key old)) (origins_in new.run new.events)
              (listed s.origin (origins_in new.run new.events) (subst (λ o. Among o (origins_in new.run new.events)) (sym (same_origin-is s.origin x same ∙ m.2)) (copied m.0 m.1))))

      by : (at.0 ≡ new) ⊎ Has old at.0 → is_among s.origin (settled all) ≡ true
      by (inl e) =
          on-own s.origin (listed-back s.origin (origins_in new.run (events_to tip.key old)) (origins_in new.run new.events)
          (listed s.origin (origins_in new.run new.events) (among-map (λ (x : Stray). x.origin) (signals_in new.run new.events) s (subst (λ (b : Batch). Among s (signals_in b.run b.events)) e at.2))))
      by (inr has) = copy (is_among s.origin (settled old)) refl (of-signal old at.0 s (has-among old at.0 has) at.2)

  pub no-stray : strays all ≡ []
  no-stray = none-stray (signals all) (settled all) signal-settled
