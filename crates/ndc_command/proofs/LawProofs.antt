-- The laws of planning.
use Rattle.std.proofs.Common.{◌≡◌, ◌≤◌, ℕ, ◌+◌, ◌-◌, ◌<◌, Bool, true, false, ◌&&◌, ◌==◌, not, nat_lt, List, [], ◌∷◌, ◌++◌, length, Option, None, Some, Result, Ok, Err, codes, if◌then◌else◌, All, refl, ap, sym, subst, ◌∙◌, arith}
use Rattle.std.proofs.lemmas.Bool.{eqb-true, and_parts}
use Rattle.std.proofs.lemmas.Bool.Decides.{nat_tests}
use Rattle.std.proofs.lemmas.List.Folds.{list_any_none}
use Rattle.ndc_event.specs.declared.key.Origin.{Origin}
use Rattle.ndc_event.specs.declared.key.RunId.{RunId}
use Rattle.ndc_event.specs.declared.kind.EventKind.{EventKind}
use Rattle.ndc_event.specs.declared.kind.EventKind.TheVariants as kind
use Rattle.ndc_event.specs.declared.name.Name.{Name}
use Rattle.ndc_event.specs.Outcome.{◌>>=◌}
use Rattle.ndc_state.specs.declared.rule.Rule.TheVariants as rule
use Rattle.ndc_state.specs.Origins.{is_among, same_origin, origin_of}
use Rattle.ndc_state.specs.Pendings.{is_started}
use Rattle.ndc_state.specs.Table.{row, needs}
use Rattle.ndc_state.specs.Value.{StateValue, new_state}
use Rattle.ndc_state.specs.Written.{replay_kinds, failover_close, is_failover_close_due}
use Rattle.ndc_command.specs.declared.command.Command.{Command}
use Rattle.ndc_command.specs.declared.command.Command.TheVariants.{Start}
use Rattle.ndc_command.specs.declared.refusal.CommandError.{CommandError}
use Rattle.ndc_command.specs.declared.refusal.Refusal.TheVariants.{Closed, AlreadyRunning, HistoryFull}
use Rattle.ndc_command.specs.Actions.{after_kind, after_kinds, behind}
use Rattle.ndc_command.specs.Laws.{IsFresh, begins_run, last_id}
use Rattle.ndc_command.specs.Plan.{plan_of, plan_below, start_of, within, written, judged_at, beginning, has_open_run}
use Rattle.ndc_command.specs.Stage.{refuse}
use Rattle.ndc_command.proofs.AllowedLemmas.{AreAllowed, AreAllowed-append, replay_allowed, rule-none, scheduling}
use Rattle.ndc_command.proofs.JoinLemmas.{allowed_then, not_refused}
use Rattle.ndc_command.proofs.TipLemmas.{judged-like}
use Rattle.ndc_command.proofs.WrittenLemmas.{IsReady, behind-Ok, written-allowed}

-- kinds that are within the limit are all there are
within-Ok : (limit last : ℕ) (xs kinds : List EventKind) → within limit last xs ≡ Ok kinds → (xs ≡ kinds) × (last + length kinds ≤ limit)
unfolding within
within-Ok limit last xs kinds w =
    let p = allowed_then (refuse (nat_lt limit (last + length xs)) HistoryFull) (Ok xs) kinds w in
    let same : xs ≡ kinds = cc in
    let fits : nat_lt limit (last + length xs) ≡ false = not_refused (nat_lt limit (last + length xs)) HistoryFull p.0 in
    let few : last + length xs ≤ limit = grind (arith, nat_tests) in
    (same, subst (λ ks. last + length ks ≤ limit) same few)

-- what is known of what is planned below a tip
record IsPlanned (s : StateValue) (command : Command) (version limit : ℕ) (next_run : RunId) (kinds : List EventKind) : Type 0 where
  running : s.running ≡ true
  own : List EventKind
  from : written version next_run (judged_at s version) command ≡ Ok own
  whole : failover_close s version ++ own ≡ kinds
  few : (s.next - 1) + length kinds ≤ limit

planned : (s : StateValue) (command : Command) (version limit : ℕ) (next_run : RunId) (kinds : List EventKind) → plan_below s command version limit next_run ≡ Ok kinds
    → IsPlanned s command version limit next_run kinds
unfolding plan_below
planned s command version limit next_run kinds h =
    let first = allowed_then (refuse (not s.running) Closed) _ kinds h in
    by (behind (failover_close s version) (written version next_run (judged_at s version) command)) refl (opened s.running (not_refused (not s.running) Closed first.0)) first.1
  where
    opened : (b : Bool) → not b ≡ false → b ≡ true
    opened true h = refl
    opened false h = absurd (cc)

    by : (r : Result (List EventKind) CommandError) → behind (failover_close s version) (written version next_run (judged_at s version) command) ≡ r → s.running ≡ true
        → (r >>= λ all. within limit (s.next - 1) all) ≡ Ok kinds → IsPlanned s command version limit next_run kinds
    by (Ok all) e running w =
        let fit = within-Ok limit (s.next - 1) all kinds w in
        let rest = behind-Ok (failover_close s version) all _ e in
        record { running = running; own = rest.0; from = rest.1.0; whole = rest.1.1 ∙ fit.0; few = fit.1 }
    by (Err error) e running w = absurd (cc)

-- an origin that is still to come is not listed
unlisted : (s t : StateValue) (version : ℕ) → IsFresh s version → t.run ≡ s.run → s.next ≤ t.next → t.origins ≡ s.origins → is_among (origin_of t.run t.next version None) t.origins ≡ false
unlisted s t version fresh run later same = list_any_none (same_origin new) t.origins (subst (All (λ o. same_origin new o ≡ false)) (sym same) (λ k d lt. other _ (fresh k d lt)))
  where
    new : Origin
    new = record { run = t.run; event = t.next; version = version }

    other : (o : Origin) → ¬ ((o.run ≡ s.run) × (o.version ≡ version) × (s.next ≤ o.event)) → same_origin new o ≡ false
    other o h = by (same_origin new o) refl
      where
        by : (b : Bool) → same_origin new o ≡ b → b ≡ false
        by false e = refl
        by true e =
            let p = and_parts ((t.run.value == o.run.value) && (t.next == o.event)) (version == o.version) e in
            let q = and_parts (t.run.value == o.run.value) (t.next == o.event) p.0 in
            let value : t.run.value ≡ o.run.value = eqb-true t.run.value o.run.value q.0 in
            let is_run : t.run ≡ o.run = ap (λ v. record { value = v }) value in
            let event : t.next ≡ o.event = eqb-true t.next o.event q.1 in
            absurd (h (sym is_run ∙ run, sym (eqb-true version o.version p.1), omega (arith, later, event)))

-- the failover close may be written where it is due
close-allowed : (s : StateValue) (version : ℕ) → 1 < s.next → s.running ≡ true → AreAllowed version s (failover_close s version)
unfolding row
close-allowed s version later running = by (is_failover_close_due s version) refl
  where
    close : List EventKind
    close = kind.DecisionTaskFailed (codes "failoverClose") ∷ kind.DecisionTaskScheduled ∷ []

    by : (due : Bool) → is_failover_close_due s version ≡ due → AreAllowed version s (if due then close else [])
    by true e = (
      rule-none version s (kind.DecisionTaskFailed (codes "failoverClose")) refl later running refl
          (ap (λ b. needs b rule.Task) (and_parts (nat_lt s.version version) (is_started s.decision) e).1),
      scheduling version (after_kind version s (kind.DecisionTaskFailed (codes "failoverClose"))) (omega arith) running refl,
    )
    by false e = tt

below_replays : (s : StateValue) (command : Command) (version limit : ℕ) (next_run : RunId) (kinds : List EventKind) → 1 < s.next → IsFresh s version → begins_run command ≡ false
    → plan_below s command version limit next_run ≡ Ok kinds → replay_kinds s version kinds ≡ Ok (after_kinds version s kinds)
unfolding judged_at
below_replays s command version limit next_run kinds later fresh other h =
    let p = planned s command version limit next_run kinds h in
    let t : StateValue = judged_at s version in
    let like = judged-like s version in
    let ready : IsReady version t = record { later = omega (arith, like.next); running = like.running ∙ p.running; unlisted = unlisted s t version fresh like.run like.next like.origins } in
    replay_allowed version s kinds
    (subst (AreAllowed version s) p.whole
    (AreAllowed-append version s (failover_close s version) p.own (close-allowed s version later p.running) (written-allowed version t ready next_run command p.own other p.from)))

-- what is planned below a tip replays there
pub replays : (s : StateValue) (command : Command) (version limit : ℕ) (next_run : RunId) (kinds : List EventKind) → 1 < s.next → IsFresh s version → begins_run command ≡ false
    → plan_of (Some s) command version limit next_run ≡ Ok kinds → replay_kinds s version kinds ≡ Ok (after_kinds version s kinds)
unfolding plan_of
replays s (Start _) version limit next_run kinds later fresh other h = absurd (cc)
replays s command version limit next_run kinds later fresh other h = below_replays s command version limit next_run kinds later fresh other h

started : (state : Option StateValue) (workflow_type : Name) (limit : ℕ) (kinds : List EventKind) → start_of state workflow_type limit ≡ Ok kinds → (beginning workflow_type ≡ kinds) × (0 + length kinds ≤ limit)
unfolding start_of
started state workflow_type limit kinds h = within-Ok limit 0 (beginning workflow_type) kinds (allowed_then (refuse (has_open_run state) AlreadyRunning) _ kinds h).1

-- what is planned for a start replays on the state of no event
pub start_replays : (state : Option StateValue) (workflow_type : Name) (version limit : ℕ) (next_run run : RunId) (kinds : List EventKind)
    → plan_of state (Start workflow_type) version limit next_run ≡ Ok kinds → replay_kinds (new_state run) version kinds ≡ Ok (after_kinds version (new_state run) kinds)
unfolding plan_of row
start_replays state workflow_type version limit next_run run kinds h =
    subst (λ ks. replay_kinds (new_state run) version ks ≡ Ok (after_kinds version (new_state run) ks)) (started state workflow_type limit kinds h).0 refl

-- what is planned keeps within the limit
pub fits : (state : Option StateValue) (command : Command) (version limit : ℕ) (next_run : RunId) (kinds : List EventKind) → plan_of state command version limit next_run ≡ Ok kinds
    → last_id state command + length kinds ≤ limit
unfolding plan_of
fits state (Start workflow_type) version limit next_run kinds h = (started state workflow_type limit kinds h).1
fits None _ version limit next_run kinds h = absurd (cc)
fits (Some s) command version limit next_run kinds h = (planned s command version limit next_run kinds h).few
