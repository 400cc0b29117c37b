-- Kinds that may be written in turn, and their replay.
use Rattle.std.proofs.Common.{◌≡◌, ℕ, ◌+◌, ◌<◌, Bool, true, false, ◌&&◌, ◌||◌, ◌==◌, not, is_some, List, [], ◌∷◌, ◌++◌, Option, None, Some, Ok, if◌then◌else◌, refl, ap, ◌∙◌, arith}
use Rattle.std.proofs.lemmas.Bool.{eq-eqb, ne_eqb}
use Rattle.ndc_event.specs.declared.batch.Event.{Event}
use Rattle.ndc_event.specs.declared.kind.EventKind.{EventKind}
use Rattle.ndc_event.specs.declared.kind.EventKind.TheVariants.{DecisionTaskScheduled}
use Rattle.ndc_event.specs.Outcome.{◌>>=◌}
use Rattle.ndc_state.specs.declared.rule.Rule.{Rule}
use Rattle.ndc_state.specs.declared.rule.Rule.TheVariants.{Next, Start, Running, Decision}
use Rattle.ndc_state.specs.Replay.{replay}
use Rattle.ndc_state.specs.Table.{row, rule_of, is_start, applied_under}
use Rattle.ndc_state.specs.Value.{StateValue}
use Rattle.ndc_state.specs.Written.{events_from, replay_kinds}
use Rattle.ndc_command.specs.Actions.{after_kind, after_kinds}
use Rattle.ndc_command.specs.Plan.{woken}

-- the event of this kind that comes next
abbrev pub next_event : ℕ → StateValue → EventKind → Event
next_event version s kind = record { id = s.next; version = version; kind = kind }

-- no rule forbids these kinds in turn
abbrev pub AreAllowed : ℕ → StateValue → List EventKind → Type 0
AreAllowed version s [] = Unit {0}
AreAllowed version s (kind ∷ kinds) = (rule_of s (next_event version s kind) ≡ None) × AreAllowed version (after_kind version s kind) kinds

pub AreAllowed-append : (version : ℕ) (s : StateValue) (front rest : List EventKind) → AreAllowed version s front → AreAllowed version (after_kinds version s front) rest → AreAllowed version s (front ++ rest)
AreAllowed-append version s [] rest h r = r
AreAllowed-append version s (kind ∷ front) rest h r = (h.0, AreAllowed-append version (after_kind version s kind) front rest h.1 r)

-- kinds that are allowed replay
pub replay_allowed : (version : ℕ) (s : StateValue) (kinds : List EventKind) → AreAllowed version s kinds → replay_kinds s version kinds ≡ Ok (after_kinds version s kinds)
replay_allowed version s [] h = refl
replay_allowed version s (kind ∷ kinds) h =
    ap (λ rule. applied_under rule s (next_event version s kind) >>= (λ next. replay next (events_from (s.next + 1) version kinds))) h.0
    ∙ replay_allowed version (after_kind version s kind) kinds h.1

in_turn : (a b c d : Bool) (own : Option Rule) → a ≡ true → b ≡ true → c ≡ true → d ≡ false → own ≡ None
    → (if not a then Some Next else if not b then Some Start else if not c then Some Running else if d then Some Decision else own) ≡ None
in_turn a b c d own ha hb hc hd ho = rw (ha, hb, hc, hd) ho

-- an event below the tip of an open run is allowed where its row allows it
pub rule-none : (version : ℕ) (s : StateValue) (kind : EventKind) → is_start kind ≡ false → 1 < s.next → s.running ≡ true
    → ((row s s.next version kind).alone && is_some s.decision) ≡ false → (row s s.next version kind).own ≡ None → rule_of s (next_event version s kind) ≡ None
rule-none version s kind other later running alone own =
    let not_first : (s.next == 1) ≡ false = ne_eqb s.next 1 (λ e. absurd (omega arith)) in
    in_turn (s.next == s.next) (if is_start kind then s.next == 1 else not (s.next == 1)) (is_start kind || s.running) ((row s s.next version kind).alone && is_some s.decision) (row s s.next version kind).own
    (eq-eqb s.next s.next refl)
    (ap (λ b. if b then s.next == 1 else not (s.next == 1)) other ∙ ap not not_first)
    (ap (λ b. b || s.running) other ∙ running)
    alone own

-- a decision is scheduled below the tip of an open run that has none pending
pub scheduling : (version : ℕ) (s : StateValue) → 1 < s.next → s.running ≡ true → is_some s.decision ≡ false → AreAllowed version s (DecisionTaskScheduled ∷ [])
unfolding row
scheduling version s later running none = (rule-none version s DecisionTaskScheduled refl later running none refl, tt)

-- an event that leaves the run open, and what wakes after it
pub woken-allowed : (version : ℕ) (s : StateValue) (kind : EventKind) → rule_of s (next_event version s kind) ≡ None → 1 < s.next → (after_kind version s kind).running ≡ true
    → AreAllowed version s (woken version s kind)
woken-allowed version s kind here later running = (here, by (is_some (after_kind version s kind).decision) refl)
  where
    next : StateValue
    next = after_kind version s kind

    by : (b : Bool) → is_some next.decision ≡ b → AreAllowed version next (if b then [] else DecisionTaskScheduled ∷ [])
    by true e = tt
    by false e = scheduling version next (omega arith) running e
