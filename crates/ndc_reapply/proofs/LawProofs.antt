-- What strays are and what applying them leaves, as the public laws say it.
use Rattle.std.proofs.Common.{◌≡◌, ℕ, not, ◌&&◌, IsTrue, List, None, if◌then◌else◌, IsOkAnd, Result, subst, sym}
use Rattle.ndc_event.specs.declared.key.Origin.{Origin}
use Rattle.ndc_state.specs.declared.rule.StateError.{StateError}
use Rattle.ndc_state.specs.Laws.{AreApart}
use Rattle.ndc_state.specs.Origins.{is_among}
use Rattle.ndc_state.specs.Value.{StateValue}
use Rattle.ndc_state.specs.Written.{replay_kinds}
use Rattle.ndc_reapply.specs.declared.stray.Stray.{Stray}
use Rattle.ndc_reapply.specs.Laws.{rises, signal_at, are_unlisted, AreAmong, IsOpen, IsReapplied}
use Rattle.ndc_reapply.specs.Reapplied.{reapplied}
use Rattle.ndc_reapply.specs.Strays.{origins_of, strays_of}
use Rattle.ndc_reapply.proofs.CopyLemmas.{replay_kinds-reapplied}
use Rattle.ndc_reapply.proofs.MeaningLemmas.{rises-strays_of, AreApart-rises, signal_at-strays_of, is_among-strays_of, are_unlisted-strays_of, strays_of-determined}

pub strays_rise : (signals : List Stray) (settled : List Origin) → IsTrue (rises (origins_of (strays_of signals settled)))
strays_rise = rises-strays_of

pub strays_apart : (signals : List Stray) (settled : List Origin) → AreApart (origins_of (strays_of signals settled))
strays_apart signals settled = AreApart-rises (origins_of (strays_of signals settled)) (rises-strays_of signals settled)

pub first_unsettled : (origin : Origin) (signals : List Stray) (settled : List Origin)
    → signal_at origin (strays_of signals settled) ≡ (if is_among origin settled then None else signal_at origin signals)
first_unsettled = signal_at-strays_of

pub unsettled_origins : (origin : Origin) (signals : List Stray) (settled : List Origin)
    → is_among origin (origins_of (strays_of signals settled)) ≡ (is_among origin (origins_of signals) && not (is_among origin settled))
unsettled_origins = is_among-strays_of

pub told_by_first : (one two : List Stray) (settled others : List Origin) → ((origin : Origin) → signal_at origin one ≡ signal_at origin two)
    → ((origin : Origin) → is_among origin settled ≡ is_among origin others) → strays_of one settled ≡ strays_of two others
told_by_first = strays_of-determined

pub copies_replay : (s : StateValue) (version : ℕ) (list : List Stray) → IsOpen s → AreApart (origins_of list) → IsTrue (are_unlisted (origins_of list) s.origins)
    → IsOkAnd (replay_kinds s version (reapplied s version list)) (IsReapplied s version list)
copies_replay s version list opened apart new =
    let found = replay_kinds-reapplied s version list opened apart new in
    subst (λ (r : Result StateValue StateError). IsOkAnd r (IsReapplied s version list)) (sym found.1) found.2

pub strays_replay : (s : StateValue) (version : ℕ) (signals : List Stray) (settled : List Origin) → IsOpen s → AreAmong s.origins settled
    → IsOkAnd (replay_kinds s version (reapplied s version (strays_of signals settled))) (IsReapplied s version (strays_of signals settled))
strays_replay s version signals settled opened among =
    copies_replay s version (strays_of signals settled) opened (strays_apart signals settled) (are_unlisted-strays_of signals settled s.origins among)
