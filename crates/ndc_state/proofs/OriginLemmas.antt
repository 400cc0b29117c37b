-- Origins, each once.
use Rattle.std.proofs.Common.{◌≡◌, ◌≢◌, ℕ, ◌<◌, Bool, true, false, ◌&&◌, ◌==◌, List, [], ◌∷◌, ◌++◌, length, get_or, if◌then◌else◌, refl, ap, sym, ◌∙◌, true≢false, arith}
use Rattle.std.proofs.lemmas.Bool.{eq-eqb, and_from}
use Rattle.std.proofs.lemmas.List.Folds.{list_any_at}
use Rattle.std.proofs.lemmas.List.Quantifiers.{all_pairs_push}
use Rattle.ndc_event.specs.declared.batch.Event.{Event}
use Rattle.ndc_event.specs.declared.key.Origin.{Origin}
use Rattle.ndc_event.specs.declared.key.RunId.{RunId}
use Rattle.ndc_event.specs.declared.kind.EventKind.{EventKind}
use Rattle.ndc_event.specs.declared.kind.EventKind.TheVariants.{WorkflowExecutionSignaled}
use Rattle.ndc_state.specs.Laws.{AreApart}
use Rattle.ndc_state.specs.Origins.{same_origin, is_among, with_origin, origin_of}
use Rattle.ndc_state.specs.Replay.{collected, collected_by}

same_origin-self : (o : Origin) → same_origin o o ≡ true
same_origin-self o =
    and_from ((o.run.value == o.run.value) && (o.event == o.event)) (o.version == o.version)
    (and_from (o.run.value == o.run.value) (o.event == o.event) (eq-eqb o.run.value o.run.value refl) (eq-eqb o.event o.event refl))
    (eq-eqb o.version o.version refl)

-- an origin that is not listed is none of those listed
other_origin : (o : Origin) (origins : List Origin) → is_among o origins ≡ false → (k : ℕ) (d : Origin) → k < length origins → get_or origins k d ≢ o
other_origin o origins h k d lt e =
    true≢false (sym (list_any_at (same_origin o) origins k d lt (ap (same_origin o) e ∙ same_origin-self o)) ∙ h)

AreApart-with_origin : (o : Origin) (origins : List Origin) → AreApart origins → AreApart (with_origin o origins)
AreApart-with_origin o origins apart = by (is_among o origins) refl
  where
    by : (b : Bool) → is_among o origins ≡ b → AreApart (if b then origins else origins ++ o ∷ [])
    by true e = apart
    by false e = all_pairs_push (λ one two. one ≢ two) origins o apart (other_origin o origins e)

AreApart-by : (run : RunId) (id version : ℕ) (kind : EventKind) (origins : List Origin) → AreApart origins → AreApart (collected_by run id version kind origins)
AreApart-by run id version (WorkflowExecutionSignaled _ _ from) origins apart = AreApart-with_origin (origin_of run id version from) origins apart
AreApart-by run id version _ origins apart = apart

-- origins that are collected stay apart
pub AreApart-collected : (run : RunId) (origins : List Origin) (events : List Event) → AreApart origins → AreApart (collected run origins events)
AreApart-collected run origins [] apart = apart
AreApart-collected run origins (event ∷ events) apart =
    AreApart-collected run (collected_by run event.id event.version event.kind origins) events (AreApart-by run event.id event.version event.kind origins apart)

pub AreApart-none : AreApart []
AreApart-none i j d lt within = absurd (omega arith)
