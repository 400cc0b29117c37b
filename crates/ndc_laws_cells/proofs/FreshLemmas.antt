-- No event that is still to come is named: what a writer adds has new origins.
use Rattle.std.proofs.Common.{◌≡◌, ◌<◌, ◌≤◌, ◌+◌, ◌==◌, ℕ, true, List, [], ◌∷◌, length, ◌⊎◌, inl, inr, Option, Some, None, refl, sym, ◌∙◌, subst, ap, arith}
use Rattle.std.specs.List.{AllByRecursion, cons_option}
use Rattle.std.proofs.lemmas.Bool.{and_parts, eqb-true}
use Rattle.std.proofs.lemmas.List.Elements.{All-from_recursion}
use Rattle.ndc_event.specs.Batch.{follow_from}
use Rattle.ndc_event.specs.declared.batch.Batch.{Batch}
use Rattle.ndc_event.specs.declared.batch.Event.{Event}
use Rattle.ndc_event.specs.declared.key.Origin.{Origin}
use Rattle.ndc_event.specs.declared.key.RunId.{RunId}
use Rattle.ndc_event.specs.declared.kind.EventKind.{EventKind}
use Rattle.ndc_event.specs.declared.kind.EventKind.TheVariants.{WorkflowExecutionSignaled}
use Rattle.ndc_command.specs.Laws.{IsFresh}
use Rattle.ndc_laws_cells.proofs.Lists.{is-among}
use Rattle.ndc_reapply.specs.declared.stray.Stray.{Stray}
use Rattle.ndc_model_sets.specs.Branches.{workflow_tip}
use Rattle.ndc_model_sets.specs.Current.{state_to}
use Rattle.ndc_model_sets.specs.Origins.{origins_in, signal_of, signals_in}
use Rattle.ndc_model_sets.specs.Paths.{events_to, path_to}
use Rattle.ndc_model_sets.specs.Sets.{Has}
use Rattle.ndc_model_sets.specs.Sound.{NamesOriginal}
use Rattle.ndc_model_sets.proofs.BranchLemmas.{IsUpTo, greatest-top, has-among, same-batch}
use Rattle.ndc_model_sets.proofs.ForkLemmas.{among-cases, path-run}
use Rattle.ndc_model_sets.proofs.KeyLemmas.{IsBefore, before-parts}
use Rattle.ndc_model_sets.proofs.Lists.{Among, all-among, all-from, map-among}
use Rattle.ndc_model_sets.proofs.PathLemmas.{path_is}
use Rattle.ndc_model_sets.proofs.ViewLaws.{origins_of_the_path}
use Rattle.ndc_state.specs.Origins.{origin_of}
use Rattle.ndc_state.specs.Replay.{history_of}
use Rattle.ndc_state.specs.Value.{StateValue}
use Rattle.ndc_laws_cells.specs.Adding.{MayAdd}
use Rattle.ndc_laws_cells.proofs.MayLemmas.{next-counts, part-sound, state-run, tip-events, tip-greatest, tip-part}
use Rattle.ndc_laws_cells.proofs.NamedLemmas.{chained, event-version, history-among, path-last}

-- an event of a history is one of a batch
pub among-history : (path : List Batch) (e : Event) → Among e (history_of path) → (b : Batch) × Among b path × Among e b.events
among-history [] e h = absurd h
among-history (b ∷ path) e h = by (among-cases e b.events (history_of path) h) (among-history path e)
  where
    by : Among e b.events ⊎ Among e (history_of path) → (Among e (history_of path) → (x : Batch) × Among x path × Among e x.events) → (x : Batch) × Among x (b ∷ path) × Among e x.events
    by (inl k) rest = (b, inl refl, k)
    by (inr k) rest = let r = rest k in (r.0, inr r.1, r.2)

-- the ids of events that follow are at most how many there are
pub follow-most : (id : ℕ) (events : List Event) (e : Event) → follow_from id events ≡ true → Among e events → e.id ≤ id + length events
follow-most id [] e f h = absurd h
follow-most id (x ∷ xs) e f (inl same) =
    let p = and_parts (x.id == id + 1) (follow_from x.id xs) f in
    let n = eqb-true x.id (id + 1) p.0 in
    let m : e.id ≡ x.id = ap (λ (y : Event). y.id) same in
    omega (arith, n, m)
follow-most id (x ∷ xs) e f (inr h) =
    let p = and_parts (x.id == id + 1) (follow_from x.id xs) f in
    let n = eqb-true x.id (id + 1) p.0 in
    let rest = follow-most x.id xs e p.1 h in
    omega (arith, n, rest)

-- a signal that one of these events of a run is
pub record IsSignalOf (run : RunId) (events : List Event) (s : Stray) : Type 0 where
  pub event : Event
  pub among : Among event events
  pub from : Option Origin
  pub kind : event.kind ≡ WorkflowExecutionSignaled s.name s.input from
  pub origin : s.origin ≡ origin_of run event.id event.version from

-- the signal that an event of this kind is, or another one
record IsOwn (run : RunId) (id version : ℕ) (kind : EventKind) (s : Stray) : Type 0 where
  from : Option Origin
  kind_is : kind ≡ WorkflowExecutionSignaled s.name s.input from
  origin_is : s.origin ≡ origin_of run id version from

signal-cases : (run : RunId) (id version : ℕ) (kind : EventKind) (rest : List Stray) (s : Stray) → Among s (cons_option (signal_of run id version kind) rest)
    → IsOwn run id version kind s ⊎ Among s rest
signal-cases run id version (WorkflowExecutionSignaled name input from) rest s (inl same) =
    inl (record { from = from; kind_is = λ i. WorkflowExecutionSignaled (sym (ap (λ (x : Stray). x.name) same) i) (sym (ap (λ (x : Stray). x.input) same) i) from; origin_is = ap (λ (x : Stray). x.origin) same })
signal-cases run id version (WorkflowExecutionSignaled name input from) rest s (inr h) = inr h
signal-cases run id version _ rest s h = inr h

-- where signals come from
pub signal-from : (run : RunId) (events : List Event) (s : Stray) → Among s (signals_in run events) → IsSignalOf run events s
signal-from run [] s h = absurd h
signal-from run (e ∷ es) s h = by (signal-cases run e.id e.version e.kind (signals_in run es) s h) (signal-from run es s)
  where
    by : IsOwn run e.id e.version e.kind s ⊎ Among s (signals_in run es) → (Among s (signals_in run es) → IsSignalOf run es s) → IsSignalOf run (e ∷ es) s
    by (inl o) rest = record { event = e; among = inl refl; from = o.from; kind = o.kind_is; origin = o.origin_is }
    by (inr k) rest = let c = rest k in record { event = c.event; among = inr c.among; from = c.from; kind = c.kind; origin = c.origin }

module _ (all part : List Batch) (version : ℕ) (may : MayAdd all part version) (tip : Batch) (is_tip : workflow_tip part ≡ Some tip) where
  abbrev state : StateValue
  state = state_to tip.run tip.key part

  abbrev path : List Batch
  path = path_to tip.key part

  -- an event of the tip's path comes before the next one
  comes-before : (e : Event) → Among e (events_to tip.key part) → e.id < state.next
  comes-before e h =
      let m = follow-most 0 (events_to tip.key part) e (tip-events all part version may tip is_tip).follow h in
      let c = next-counts all part version may tip is_tip in
      omega (arith, m, c)

  -- a batch of the tip's run and of the version is on its path
  on-path : (b : Batch) → Has all b → b.run ≡ tip.run → b.key.version ≡ version → Among b path
  on-path b has run of_version = by (greatest-top part tip b (tip-greatest all part version may tip is_tip) (has-among part b mine))
    where
      mine : Has part b
      mine = may.own b has of_version

      tip-in : Has part tip
      tip-in = tip-part all part version may tip is_tip

      least : tip.key.version ≤ version
      least = may.top tip tip-in

      less : IsBefore b.key tip.key → Among b path
      less (inl l) = absurd (omega (arith, l, least, of_version))
      less (inr l) = has-among path b ((part-sound all part version may).chains b tip mine tip-in run l.0 l.1)

      by : IsUpTo tip.key b.key → Among b path
      by (inl same) = subst (λ (x : Batch). Among x path) (sym (same-batch part b tip mine tip-in same)) (path-last part tip path (path_is part tip may.part_set may.part_closed tip-in))
      by (inr l) = less (before-parts b.key tip.key l)

  -- an origin of the tip's path is of no event that is still to come
  not-to-come : (signal : Stray) → IsSignalOf tip.run (events_to tip.key part) signal
      → ¬ ((signal.origin.run ≡ state.run) × (signal.origin.version ≡ version) × (state.next ≤ signal.origin.event))
  not-to-come signal c (run, of_version, later) = by c.from refl
    where
      by : (from : Option Origin) → c.from ≡ from → ⊥
      by None e =
          let n : signal.origin.event ≡ c.event.id = ap (λ (o : Origin). o.event) (c.origin ∙ ap (origin_of tip.run c.event.id c.event.version) e) in
          let l = comes-before c.event c.among in
          omega (arith, n, l, later)
      by (Some o) e =
          let at = among-history path c.event c.among in
          let there = path-run part tip at.0 path (part-sound all part version may).parents (path_is part tip may.part_set may.part_closed (tip-part all part version may tip is_tip)) at.1 in
          let names : NamesOriginal all c.event.kind = all-among (λ (x : Event). NamesOriginal all x.kind) at.0.events c.event (may.named at.0 (may.within at.0 there.0)) at.2 in
          let same : signal.origin ≡ o = c.origin ∙ ap (origin_of tip.run c.event.id c.event.version) e in
          let original = names signal.name signal.input o (c.kind ∙ ap (WorkflowExecutionSignaled signal.name signal.input) e) in
          let in_run : original.batch.run ≡ tip.run = sym original.named.run_is ∙ sym (ap (λ (x : Origin). x.run) same) ∙ run ∙ state-run all part version may tip is_tip in
          let among : Among original.event original.batch.events = is-among original.batch.events original.event original.among in
          let v : original.batch.key.version ≡ version =
          sym (event-version all (chained all may.sound) original.batch original.event original.has among) ∙ sym original.named.version_is ∙ sym (ap (λ (x : Origin). x.version) same) ∙ of_version in
          let l = comes-before original.event (history-among path original.batch original.event (on-path original.batch original.has in_run v) among) in
          let n : signal.origin.event ≡ original.event.id = ap (λ (x : Origin). x.event) same ∙ original.named.event_is in
          omega (arith, n, l, later)

  abbrev IsPast : Origin → Type 0
  IsPast origin = ¬ ((origin.run ≡ state.run) × (origin.version ≡ version) × (state.next ≤ origin.event))

  pub state-fresh : IsFresh state version
  state-fresh =
      All-from_recursion IsPast state.origins (subst (AllByRecursion IsPast) (sym (origins_of_the_path part tip (part-sound all part version may) (tip-part all part version may tip is_tip)))
      (all-from IsPast (origins_in tip.run (events_to tip.key part)) past))
    where
      past : (origin : Origin) → Among origin (origins_in tip.run (events_to tip.key part)) → IsPast origin
      past origin h =
          let m = map-among (λ (s : Stray). s.origin) (signals_in tip.run (events_to tip.key part)) origin h in
          subst IsPast (sym m.2) (not-to-come m.0 (signal-from tip.run (events_to tip.key part) m.0 m.1))
