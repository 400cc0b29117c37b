-- How many kinds a reset has.
use Rattle.std.proofs.Common.{◌≡◌, ℕ, suc, ◌+◌, Bool, true, false, not, ◌||◌, ◌&&◌, nat_lt, List, [], ◌∷◌, length, refl, ap, arith, length-append, if◌then◌else◌}
use Rattle.std.specs.Prelude.{count_by, codes}
use Rattle.std.proofs.lemmas.List.Recursion.{is_count_by}
use Rattle.ndc_event.specs.declared.batch.Event.{Event}
use Rattle.ndc_event.specs.declared.key.RunId.{RunId}
use Rattle.ndc_event.specs.declared.kind.EventKind.TheVariants.{DecisionTaskScheduled, DecisionTaskFailed}
use Rattle.ndc_reset.specs.Reset.{is_signal, is_kept, repeated_kinds, events_before, signals_onward, reset_kinds}

-- the events before the point and the signals from it on are those kept
length-kept : (point : ℕ) (history : List Event) → length (events_before point history) + length (signals_onward point history) ≡ count_by (is_kept point) history
length-kept point history = is_count_by (λ h. length (events_before point h) + length (signals_onward point h)) (is_kept point) refl step history
  where
    step : (event : Event) (h : List Event) → length (events_before point (event ∷ h)) + length (signals_onward point (event ∷ h))
        ≡ (if is_kept point event then 1 + (length (events_before point h) + length (signals_onward point h)) else length (events_before point h) + length (signals_onward point h))
    step event h = by (nat_lt event.id point) (is_signal event.kind)
      where
        by : (b d : Bool) → length (if b then event ∷ events_before point h else events_before point h)
            + length (if not b && d then event ∷ signals_onward point h else signals_onward point h)
            ≡ (if b || d then 1 + (length (events_before point h) + length (signals_onward point h)) else length (events_before point h) + length (signals_onward point h))
        by true d = omega arith
        by false true = omega arith
        by false false = refl

-- each event has one kind
length-repeated_kinds : (run : RunId) (events : List Event) → length (repeated_kinds run events) ≡ length events
length-repeated_kinds run [] = refl
length-repeated_kinds run (event ∷ events) = ap suc (length-repeated_kinds run events)

pub count_is_length : (run : RunId) (point : ℕ) (history : List Event) → length (reset_kinds run point history) ≡ count_by (is_kept point) history + 2
unfolding reset_kinds
count_is_length run point history =
    omega (
      arith,
      length-append (repeated_kinds run (events_before point history)) (DecisionTaskFailed (codes "reset") ∷ DecisionTaskScheduled ∷ repeated_kinds run (signals_onward point history)),
      length-repeated_kinds run (events_before point history),
      length-repeated_kinds run (signals_onward point history),
      length-kept point history,
    )
