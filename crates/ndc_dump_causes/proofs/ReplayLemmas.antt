-- Replay on a state that lacks origins, and states that are kept.
use Rattle.std.proofs.Common.{◌≡◌, ℕ, zero, suc, ◌+◌, Bool, true, false, not, ◌&&◌, ◌||◌, ◌==◌, is_ok, is_some, List, [], ◌∷◌, ◌++◌, take, IfOk, IfSome, ◌⊎◌, inl, inr, Option, Some, None, Result, Ok, Err, if◌then◌else◌, refl, sym, ap, ◌∙◌, subst}
use Rattle.std.specs.List.{AllByRecursion}
use Rattle.ndc_event.specs.Outcome.{◌>>=◌}
use Rattle.ndc_event.specs.declared.batch.Batch.{Batch}
use Rattle.ndc_event.specs.declared.batch.Event.{Event}
use Rattle.ndc_event.specs.declared.key.BatchKey.{BatchKey}
use Rattle.ndc_event.specs.declared.key.Origin.{Origin}
use Rattle.ndc_event.specs.declared.key.RunId.{RunId}
use Rattle.ndc_event.specs.declared.kind.EventKind.{EventKind}
use Rattle.ndc_event.specs.declared.kind.EventKind.TheVariants.{WorkflowExecutionSignaled}
use Rattle.ndc_model_sets.specs.Origins.{origins_in, signals_in}
use Rattle.ndc_model_sets.specs.Paths.{events_to, path_from}
use Rattle.ndc_model_sets.specs.Sets.{Has}
use Rattle.ndc_model_sets.specs.Sound.{ParentsFit}
use Rattle.ndc_model_sets.proofs.PathIds.{history-push}
use Rattle.ndc_model_sets.proofs.PathLemmas.{none-wanted, path-parent}
use Rattle.ndc_state.specs.Origins.{is_among}
use Rattle.ndc_state.specs.Replay.{collected_by, history_of, replay, replay_of}
use Rattle.ndc_state.specs.Table.{after, applied_under, is_start, is_start_fit, needs, row, row_at, rule_of}
use Rattle.ndc_state.specs.Value.{StateValue, new_state}
use Rattle.ndc_state.specs.declared.rule.Rule.{Rule}
use Rattle.ndc_state.specs.declared.rule.Rule.TheVariants.{Next, Start, Running, Decision, Origin as OriginRule}
use Rattle.ndc_state.specs.declared.rule.StateError.{StateError}
use Rattle.ndc_state.proofs.LawProofs.{origins_collected}
use Rattle.ndc_state.proofs.ReplayLemmas.{replay-cons, run-replay}
use Rattle.ndc_state.proofs.RowLemmas.{IsAllowed-rule_of, origins-row, run-row}
use Rattle.ndc_rebuild.proofs.PathLemmas.{replay-applied}
use Rattle.ndc_dump_causes.specs.Causes.{comes_again, has_origin_twice, is_forbidden}
use Rattle.ndc_dump_causes.specs.Given.{AreRead}
use Rattle.ndc_dump_causes.specs.Replaying.{IsStateAt, IsStateOf, replays_to}
use Rattle.ndc_dump_causes.specs.Trails.{kind_again}
use Rattle.ndc_dump_causes.proofs.ComesAgain.{AreAmong, again-append, again-front, again-kind, again-less, listed-own, or-parts}
use Rattle.ndc_dump_causes.proofs.OnPaths.{origins-append}

-- ---- one event

alone-bare : (s : StateValue) (os : List Origin) (id v : ℕ) (kind : EventKind) → (row (record s { origins = os }) id v kind).alone ≡ (row s id v kind).alone
unfolding row
alone-bare s os id v (WorkflowExecutionSignaled _ _ from) = refl
alone-bare s os id v _ = refl

own-bare : (s : StateValue) (os : List Origin) (id v : ℕ) (kind : EventKind) → kind_again s.run id v kind s.origins ≡ false → (row (record s { origins = os }) id v kind).own ≡ None → (row s id v kind).own ≡ None
unfolding row
own-bare s os id v (WorkflowExecutionSignaled _ _ from) once h = ap (λ t. needs (not t) OriginRule) once
own-bare s os id v _ once h = h

effect-bare : (s : StateValue) (os : List Origin) (id v : ℕ) (kind : EventKind)
    → (row (record s { origins = os }) id v kind).effect ≡ record ((row s id v kind).effect) { origins = (row (record s { origins = os }) id v kind).effect.origins }
unfolding row
effect-bare s os id v (WorkflowExecutionSignaled _ _ from) = refl
effect-bare s os id v _ = refl

-- the tests of an event in their order
abbrev tests : Bool → Bool → Bool → Bool → Option Rule → Option Rule
tests a b c d own = if not a then Some Next else if not b then Some Start else if not c then Some Running else if d then Some Decision else own

own-last : (a b c d : Bool) (one two : Option Rule) → (one ≡ None → two ≡ None) → tests a b c d one ≡ None → tests a b c d two ≡ None
own-last false b c d one two f h = absurd (cc)
own-last true false c d one two f h = absurd (cc)
own-last true true false d one two f h = absurd (cc)
own-last true true true true one two f h = absurd (cc)
own-last true true true false one two f h = f h

-- what nothing forbids where origins are left out is not forbidden where its origin is new
free : (s : StateValue) (os : List Origin) (e : Event) → kind_again s.run e.id e.version e.kind s.origins ≡ false → rule_of (record s { origins = os }) e ≡ None → rule_of s e ≡ None
free s os e once h =
    own-last (e.id == s.next) (is_start_fit e) (is_start e.kind || s.running) ((row_at s e).alone && is_some s.decision) (row_at (record s { origins = os }) e).own (row_at s e).own
    (own-bare s os e.id e.version e.kind once)
    (ap (λ t. tests (e.id == s.next) (is_start_fit e) (is_start e.kind || s.running) (t && is_some s.decision) (row_at (record s { origins = os }) e).own) (sym (alone-bare s os e.id e.version e.kind)) ∙ h)

after-bare : (s : StateValue) (os : List Origin) (e : Event) → after (record s { origins = os }) e ≡ record (after s e) { origins = (after (record s { origins = os }) e).origins }
after-bare s os e = ap (λ (x : StateValue). record x { next = e.id + 1; version = e.version }) (effect-bare s os e.id e.version e.kind)

-- ---- events

ok-same : (x y : StateValue) (r : Result StateValue StateError) → r ≡ Ok x → r ≡ Ok y → x ≡ y
ok-same x y r e f = cc

-- events that replay where origins are left out replay where theirs are new, and leave the same but for origins
pub bare-replay : (es : List Event) (s : StateValue) (os : List Origin) (u : StateValue) → comes_again s.origins (origins_in s.run es) ≡ false → replay (record s { origins = os }) es ≡ Ok u
    → (v : StateValue) × (qs : List Origin) × (replay s es ≡ Ok v) × (u ≡ record v { origins = qs })
bare-replay [] s os u once h = (s, os, refl, ok-same u (record s { origins = os }) (replay (record s { origins = os }) []) h refl)
bare-replay (e ∷ es) s os u once h =
    let p = replay-cons (record s { origins = os }) u e es h in
    let parts = or-parts (kind_again s.run e.id e.version e.kind s.origins) (comes_again (collected_by s.run e.id e.version e.kind s.origins) (origins_in s.run es))
    (sym (again-kind s.run e.id e.version e.kind s.origins (signals_in s.run es)) ∙ once) in
    let ok : rule_of s e ≡ None = free s os e parts.0 p.0 in
    let r = bare-replay es (after s e) (after (record s { origins = os }) e).origins u
    (ap (λ l. comes_again l (origins_in (after s e).run es)) (origins-row s e.id e.version e.kind (IsAllowed-rule_of s e ok).own)
    ∙ ap (λ run. comes_again (collected_by s.run e.id e.version e.kind s.origins) (origins_in run es)) (run-row s e.id e.version e.kind) ∙ parts.1)
    (subst (λ n. replay n es ≡ Ok u) (after-bare s os e) p.1) in
    (r.0, r.1, ap (λ rule. applied_under rule s e >>= (λ next. replay next es)) ok ∙ r.2, r.3)

-- ---- one batch

path-events : (batches : List Batch) (b : Batch) → AreRead batches → Has batches b → events_to b.key batches ≡ history_of (path_from b.parent batches) ++ b.events
path-events batches b read has = ap history_of (path-parent batches b read.set has) ∙ history-push (path_from b.parent batches) b

-- a batch that replays after its parent, where origins are left out and none stands twice on its path, replays
pub state-next : (batches : List Batch) (b : Batch) (s u : StateValue) → AreRead batches → Has batches b → has_origin_twice batches b ≡ false
    → IsStateOf s b.run (history_of (path_from b.parent batches)) → replay s b.events ≡ Ok u → IsStateOf u b.run (events_to b.key batches)
state-next batches b s u read has once state h =
    record { whole = r.0; origins = r.1; replays = ap (replay_of b.run) (path-events batches b read has) ∙ sym (replay-applied (new_state b.run) state.whole before b.events state.replays) ∙ r.2; same = r.3 }
  where
    before : List Event
    before = history_of (path_from b.parent batches)

    own : List Origin
    own = origins_in b.run b.events

    whole : comes_again [] (origins_in b.run before ++ own) ≡ false
    whole = sym (ap (comes_again []) (ap (origins_in b.run) (path-events batches b read has) ∙ origins-append b.run before b.events)) ∙ once

    known : AreAmong state.whole.origins (origins_in b.run before)
    known o k = by (listed-own b.run before [] o (sym (ap (is_among o) (origins_collected b.run before state.whole state.replays)) ∙ k))
      where
        by : (is_among o [] ≡ true) ⊎ (is_among o (origins_in b.run before) ≡ true) → is_among o (origins_in b.run before) ≡ true
        by (inl k) = absurd (cc)
        by (inr k) = k

    new : comes_again state.whole.origins (origins_in state.whole.run b.events) ≡ false
    new = ap (λ run. comes_again state.whole.origins (origins_in run b.events)) (run-replay (new_state b.run) state.whole before state.replays)
        ∙ again-less state.whole.origins (origins_in b.run before) own known
        (sym (again-append [] (origins_in b.run before) own (again-front [] (origins_in b.run before) own whole)) ∙ whole)

    r : (v : StateValue) × (qs : List Origin) × (replay state.whole b.events ≡ Ok v) × (u ≡ record v { origins = qs })
    r = bare-replay b.events state.whole state.origins u new (sym (ap (λ x. replay x b.events) state.same) ∙ h)

-- what has a state replays
pub state-replays : (batches : List Batch) (b : Batch) (s : StateValue) → IsStateOf s b.run (events_to b.key batches) → replays_to batches b ≡ true
state-replays batches b s state = ap is_ok state.replays

-- what replays is not forbidden
pub replays-free : (batches : List Batch) (b : Batch) → replays_to batches b ≡ true → is_forbidden batches b ≡ false
replays-free batches b h = ap (λ t. not t && is_ok (replay_of b.run (history_of (path_from b.parent batches)))) h

-- the state of no event, before the first batch of a run
pub state-none : (batches : List Batch) (run : RunId) → IsStateOf (new_state run) run (history_of (path_from None batches))
state-none batches run = record { whole = new_state run; origins = []; replays = ap (λ w. replay_of run (history_of w.path)) (none-wanted batches); same = refl }

-- a state without its origins is the same but for them
pub state-copied : (s : StateValue) (run : RunId) (events : List Event) (copy : StateValue) → copy ≡ record s { origins = [] } → IsStateOf s run events → IsStateOf copy run events
state-copied s run events copy e state =
    record { whole = state.whole; origins = []; replays = state.replays; same = e ∙ ap (λ (x : StateValue). record x { origins = [] }) state.same }

-- the state after a parent is that before the batch
pub state-below : (batches : List Batch) (b : Batch) (key : BatchKey) (s : StateValue) → ParentsFit batches → Has batches b → b.parent ≡ Some key → IsStateAt batches key s
    → IsStateOf s b.run (history_of (path_from b.parent batches))
state-below batches b key s fit has e at =
    subst (λ o. IsStateOf s b.run (history_of (path_from o batches))) (sym e) (subst (λ run. IsStateOf s run (events_to key batches)) (fit b at.batch key has e at.at).run at.state)

-- the same of the state that was answered, where one was
pub states-below : {E : Type 0} (batches : List Batch) (b : Batch) (key : BatchKey) (r : Result (Option StateValue) E) → ParentsFit batches → Has batches b → b.parent ≡ Some key
    → IfOk r (λ o. IfSome o (λ s. IsStateAt batches key s)) → IfOk r (λ o. IfSome o (λ s. IsStateOf s b.run (history_of (path_from b.parent batches))))
states-below batches b key (Ok None) fit has e h = tt
states-below batches b key (Ok (Some s)) fit has e h = state-below batches b key s fit has e h
states-below batches b key (Err error) fit has e h = tt

-- a copy without origins is the state after the same batch
pub copied-at : (batches : List Batch) (key : BatchKey) (s copy : StateValue) → copy ≡ record s { origins = [] } → IsStateAt batches key s → IsStateAt batches key copy
copied-at batches key s copy e at = record { batch = at.batch; at = at.at; state = state-copied s at.batch.run (events_to key batches) copy e at.state }

-- ---- lists

pub all-take : {X : Type 0} (P : X → Type 0) (n : ℕ) (xs : List X) → AllByRecursion P xs → AllByRecursion P (take n xs)
all-take P zero xs h = tt
all-take P (suc n) [] h = tt
all-take P (suc n) (x ∷ xs) h = (h.0, all-take P n xs h.1)

pub all-push : {X : Type 0} (P : X → Type 0) (xs : List X) (x : X) → AllByRecursion P xs → P x → AllByRecursion P (xs ++ x ∷ [])
all-push P [] x h p = (p, tt)
all-push P (y ∷ xs) x h p = (h.0, all-push P xs x h.1 p)

pub all-front : {X : Type 0} (P : X → Type 0) (xs : List X) (x : X) → AllByRecursion P (xs ++ x ∷ []) → AllByRecursion P xs × P x
all-front P [] x h = (tt, h.0)
all-front P (y ∷ xs) x h = let r = all-front P xs x h.1 in ((h.0, r.0), r.1)
