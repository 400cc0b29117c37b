-- Copies written below an open state, and the whole of what is written where signals are applied again.
use Rattle.std.proofs.Common.{◌≡◌, ℕ, ◌+◌, Bool, true, false, not, is_some, List, [], ◌∷◌, ◌++◌, length, map, Option, None, Some, Ok, refl, ap, sym, ◌∙◌, arith, append_assoc, nat_lt, codes}
use Rattle.std.proofs.lemmas.Bool.{and_parts}
use Rattle.ndc_event.specs.declared.key.Origin.{Origin}
use Rattle.ndc_event.specs.declared.kind.EventKind.{EventKind}
use Rattle.ndc_event.specs.declared.kind.EventKind.TheVariants.{DecisionTaskScheduled, DecisionTaskFailed}
use Rattle.ndc_reapply.specs.declared.stray.Stray.{Stray}
use Rattle.ndc_reapply.specs.Laws.{IsOpen, IsReapplied, are_unlisted}
use Rattle.ndc_reapply.specs.Reapplied.{copy_of, reapplied}
use Rattle.ndc_reapply.specs.Strays.{origins_of}
use Rattle.ndc_reapply.proofs.ApartLemmas.{AreApart-head, AreApart-tail, are_unlisted-more, not-true}
use Rattle.ndc_reapply.proofs.WrittenLemmas.{next-replay_kinds, replay_kinds-copy, replay_kinds-scheduled, replay_kinds-failed, with_signal, with_decision, with_failure}
use Rattle.ndc_state.specs.declared.pendings.Pending.{Pending}
use Rattle.ndc_state.specs.Laws.{AreApart}
use Rattle.ndc_state.specs.Origins.{is_among}
use Rattle.ndc_state.specs.Pendings.{is_started}
use Rattle.ndc_state.specs.Value.{StateValue}
use Rattle.ndc_state.specs.Written.{replay_kinds, is_failover_close_due}

-- a state after copies of these signals
abbrev pub with_copies : StateValue → ℕ → List Stray → StateValue
with_copies s v [] = s
with_copies s v (stray ∷ list) = with_copies (with_signal s v stray.origin) v list

-- copies list their origins, and leave the rest
pub record IsCopied (s : StateValue) (list : List Stray) (after : StateValue) : Type 0 where
  pub later : s.next + length list ≡ after.next
  pub origins : after.origins ≡ s.origins ++ origins_of list
  pub rest : after ≡ record s { next = after.next; version = after.version; origins = after.origins }

pub IsCopied-with_copies : (s : StateValue) (v : ℕ) (list : List Stray) → IsCopied s list (with_copies s v list)
IsCopied-with_copies s v [] = record { later = omega arith; origins = sym (append-none s.origins); rest = refl }
  where
    append-none : (os : List Origin) → os ++ [] ≡ os
    append-none [] = refl
    append-none (o ∷ os) = ap (λ l. o ∷ l) (append-none os)
IsCopied-with_copies s v (stray ∷ list) =
    let tail = IsCopied-with_copies (with_signal s v stray.origin) v list in
    record {
      later = omega (arith, tail.later);
      origins = tail.origins ∙ append_assoc s.origins (stray.origin ∷ []) (origins_of list);
      rest = tail.rest;
    }

-- copies whose origins are new, each once
pub replay_kinds-copies : (s : StateValue) (v : ℕ) (list : List Stray) (kinds : List EventKind) → IsOpen s → AreApart (origins_of list) → are_unlisted (origins_of list) s.origins ≡ true
    → replay_kinds s v (map copy_of list ++ kinds) ≡ replay_kinds (with_copies s v list) v kinds
replay_kinds-copies s v [] kinds opened apart new = refl
replay_kinds-copies s v (stray ∷ list) kinds opened apart new =
    let head = and_parts (not (is_among stray.origin s.origins)) (are_unlisted (origins_of list) s.origins) new in
    replay_kinds-copy s v stray.name stray.input stray.origin (map copy_of list ++ kinds) opened (not-true (is_among stray.origin s.origins) head.0)
    ∙ replay_kinds-copies (with_signal s v stray.origin) v list kinds (omega arith, opened.1) (AreApart-tail stray.origin (origins_of list) apart)
    (are_unlisted-more (origins_of list) s.origins stray.origin head.1 (AreApart-head stray.origin (origins_of list) apart))

-- what is started is pending
started-pending : (decision : Option Pending) → is_started decision ≡ true → is_some decision ≡ true
started-pending None h = absurd (cc)
started-pending (Some pending) h = refl

-- what is written where the failover close is due
reapplied-due : (s : StateValue) (v : ℕ) (list : List Stray) → is_failover_close_due s v ≡ true → is_some s.decision ≡ true
    → reapplied s v list ≡ DecisionTaskFailed (codes "failoverClose") ∷ DecisionTaskScheduled ∷ (map copy_of list ++ [])
unfolding reapplied
reapplied-due s v list e p = rw (e, p) refl

-- the kinds replay, and leave their origins, a decision, and the rest as it was
pub replay_kinds-reapplied : (s : StateValue) (v : ℕ) (list : List Stray) → IsOpen s → AreApart (origins_of list) → are_unlisted (origins_of list) s.origins ≡ true
    → (after : StateValue) × (replay_kinds s v (reapplied s v list) ≡ Ok after) × IsReapplied s v list after
unfolding reapplied
replay_kinds-reapplied s v list opened apart new = by (is_failover_close_due s v) refl
  where
    Answer : Type 0
    Answer = (after : StateValue) × (replay_kinds s v (reapplied s v list) ≡ Ok after) × IsReapplied s v list after

    -- the state whose decision is scheduled again
    again : StateValue
    again = with_decision (with_failure s v) v

    closed : is_failover_close_due s v ≡ true → Answer
    closed e =
        let due = and_parts (nat_lt s.version v) (is_started s.decision) e in
        let t : StateValue = with_copies again v list in
        let copied = IsCopied-with_copies again v list in
        let kept : t.decision ≡ again.decision = ap (λ n. n.decision) copied.rest in
        let r : replay_kinds s v (reapplied s v list) ≡ Ok t =
        ap (replay_kinds s v) (reapplied-due s v list e (started-pending s.decision due.1))
        ∙ (replay_kinds-failed s v (codes "failoverClose") (map copy_of list ++ []) opened due.1 ∙ replay_kinds-copies again v list [] (omega arith, opened.1) apart new) in (
          t,
          r,
          record {
            origins = copied.origins;
            pending = ap is_some kept;
            next = next-replay_kinds s t v (reapplied s v list) r;
            rest = copied.rest ∙ ap (λ d. record s { next = t.next; version = t.version; decision = d; origins = t.origins }) (sym kept);
          },
        )

    unclosed : is_failover_close_due s v ≡ false → (pending : Bool) → is_some s.decision ≡ pending → Answer
    unclosed e true p =
        let t : StateValue = with_copies s v list in
        let copied = IsCopied-with_copies s v list in
        let kept : t.decision ≡ s.decision = ap (λ n. n.decision) copied.rest in
        let r : replay_kinds s v (reapplied s v list) ≡ Ok t = rw (e, p) (replay_kinds-copies s v list [] opened apart new) in (
          t,
          r,
          record {
            origins = copied.origins;
            pending = ap is_some kept ∙ p;
            next = next-replay_kinds s t v (reapplied s v list) r;
            rest = copied.rest ∙ ap (λ d. record s { next = t.next; version = t.version; decision = d; origins = t.origins }) (sym kept);
          },
        )
    unclosed e false p =
        let t : StateValue = with_copies s v list in
        let copied = IsCopied-with_copies s v list in
        let kept : t.decision ≡ s.decision = ap (λ n. n.decision) copied.rest in
        let woken : StateValue = with_decision t v in
        let r : replay_kinds s v (reapplied s v list) ≡ Ok woken =
        rw (e, p)
        (replay_kinds-copies s v list (DecisionTaskScheduled ∷ []) opened apart new
        ∙ replay_kinds-scheduled t v [] (omega (arith, opened.0, copied.later), ap (λ n. n.running) copied.rest ∙ opened.1) (ap is_some kept ∙ p)) in (
          woken,
          r,
          record {
            origins = copied.origins;
            pending = refl;
            next = next-replay_kinds s woken v (reapplied s v list) r;
            rest = ap (λ n. with_decision n v) copied.rest;
          },
        )

    by : (due : Bool) → is_failover_close_due s v ≡ due → Answer
    by true e = closed e
    by false e = unclosed e (is_some s.decision) refl
