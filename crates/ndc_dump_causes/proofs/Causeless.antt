-- A sound set has none of the causes.
use Rattle.std.proofs.Common.{◌≡◌, ℕ, suc, ◌<◌, Bool, true, false, not, ◌&&◌, ◌||◌, ◌==◌, ◌+◌, nat_lt, if◌then◌else◌, List, [], ◌∷◌, ◌++◌, length, get_or, inl, inr, Option, Some, None, Ok, is_ok, refl, sym, ap, ◌∙◌, subst, arith, append_assoc}
use Rattle.std.specs.Prelude.{is_some}
use Rattle.std.specs.List.{AllByRecursion, list_any}
use Rattle.std.specs.Str.{bytes_eq}
use Rattle.std.proofs.lemmas.Bool.{and_from, and_parts, eq-eqb, eqb-true, ltb-true}
use Rattle.std.proofs.lemmas.List.{get_or_append_left, length-append}
use Rattle.std.proofs.Math.Seq.{get_or-append_seam}
use Rattle.std.proofs.lemmas.Slice.Eq.{bytes_eq-Decides}
use Rattle.ndc_event.specs.Batch.{is_carrier_fit}
use Rattle.ndc_event.specs.declared.batch.Batch.{Batch}
use Rattle.ndc_event.specs.declared.batch.Event.{Event}
use Rattle.ndc_event.specs.declared.key.BatchKey.{BatchKey}
use Rattle.ndc_event.specs.declared.key.Origin.{Origin}
use Rattle.ndc_event.specs.declared.key.RunId.{RunId}
use Rattle.ndc_event.specs.declared.kind.EventKind.{EventKind}
use Rattle.ndc_event.specs.declared.kind.EventKind.TheVariants.{WorkflowExecutionSignaled}
use Rattle.ndc_event.specs.declared.name.Name.{Name}
use Rattle.ndc_model_sets.specs.Branches.{same_run}
use Rattle.ndc_model_sets.specs.Learned.{has_key}
use Rattle.ndc_model_sets.specs.Origins.{origins_in}
use Rattle.ndc_model_sets.specs.Paths.{events_to, first_id, last_event, last_id, path_from, path_to}
use Rattle.ndc_model_sets.specs.Sets.{batch_at, earlier, earlier_of, Has}
use Rattle.ndc_model_sets.specs.Sound.{ContinuesAs, IsCopyFit, IsSound, Names}
use Rattle.ndc_model_sets.proofs.BranchLemmas.{among-has, run-same, same-run}
use Rattle.ndc_model_sets.proofs.FaultLemmas.{passes}
use Rattle.ndc_model_sets.proofs.Lists.{Among, all-among, list_any-none}
use Rattle.ndc_state.specs.Laws.{AreApart}
use Rattle.ndc_state.specs.Origins.{is_among, same_origin, with_origin}
use Rattle.ndc_state.specs.Replay.{history_of, replay_of}
use Rattle.ndc_model_sets.specs.Reading.{named}
use Rattle.ndc_dump_causes.specs.Causes.{closes_for, comes_again, comes_before, continues, has_origin_twice, has_unfit_carrier, has_unfit_copy, is_continued_by, is_forbidden, is_ill_formed, is_original, is_split, is_unfit_carried, is_unfit_copy, is_unfit_parent, lacks_parent, names, sound_or}
use Rattle.ndc_dump_causes.specs.declared.error.KeyCause.TheVariants as cause
use Rattle.ndc_dump_causes.proofs.KnownLemmas.{same-origins}
use Rattle.ndc_dump_causes.proofs.NoCause.{not-holds}

-- a test that holds has no failure
holds-not : (t : Bool) → t ≡ true → not t ≡ false
holds-not t e = ap not e

-- what fails whenever the first test passes is false
under : (s t : Bool) → (s ≡ true → t ≡ false) → (s && t) ≡ false
under true t h = h refl
under false t h = refl

-- ---- origins

-- where one of them stands
place-of : {X : Type 0} (x : X) (xs : List X) → Among x xs → (k : ℕ) × (k < length xs) × (get_or xs k x ≡ x)
place-of x [] among = absurd among
place-of x (y ∷ ys) (inl same) = (0, omega arith, sym same)
place-of x (y ∷ ys) (inr rest) = let at = place-of x ys rest in (suc at.0, omega (arith, at.1), at.2)

-- what comes after a list without a second time is none of it
apart-first : (front : List Origin) (o : Origin) (rest : List Origin) → AreApart (front ++ o ∷ rest) → Among o front → ⊥
apart-first front o rest apart among =
    let at = place-of o front among in
    let within : length front < length (front ++ o ∷ rest) = rw (length-append front (o ∷ rest)) (omega arith) in
    apart at.0 (length front) o at.1 within (get_or_append_left front (o ∷ rest) o at.0 at.1 ∙ at.2 ∙ sym (get_or-append_seam front o rest o))

-- where all origins differ none comes again
none-again : (seen origins : List Origin) → AreApart (seen ++ origins) → comes_again seen origins ≡ false
none-again seen [] apart = refl
none-again seen (o ∷ os) apart =
    ap (λ t. t || comes_again (with_origin o seen) os) fresh ∙ ap (λ l. comes_again l os) (ap (λ t. if t then seen else seen ++ o ∷ []) fresh)
    ∙ none-again (seen ++ o ∷ []) os (subst AreApart (sym (append_assoc seen (o ∷ []) os)) apart)
  where
    differs : (x : Origin) → Among x seen → (t : Bool) → same_origin o x ≡ t → same_origin o x ≡ false
    differs x among true e = absurd (apart-first seen o os apart (subst (λ (z : Origin). Among z seen) (sym (same-origins o x e)) among))
    differs x among false e = e

    fresh : is_among o seen ≡ false
    fresh = list_any-none (same_origin o) seen (λ x among. differs x among (same_origin o x) refl)

-- ---- copies and carriers

names-event : (origin : Origin) (run : RunId) (event : Event) → names origin run event ≡ true → Names origin run event
names-event origin run event h =
    let p = and_parts (same_run origin.run run) ((origin.event == event.id) && (origin.version == event.version)) h in
    let q = and_parts (origin.event == event.id) (origin.version == event.version) p.1 in
    record { run_is = run-same origin.run run p.0; event_is = eqb-true origin.event event.id q.0; version_is = eqb-true origin.version event.version q.1 }

original : (name input : Name) (kind : EventKind) → kind ≡ WorkflowExecutionSignaled name input None → is_original name input kind ≡ true
original name input kind e =
    ap (is_original name input) e ∙ and_from (bytes_eq name name) (bytes_eq input input) ((bytes_eq-Decides name name).1 refl) ((bytes_eq-Decides input input).1 refl)

closes : (run : RunId) (events : List Event) → ContinuesAs run events → is_continued_by run (last_event events) ≡ true
closes run events c = ap (is_continued_by run) c.last ∙ ap (continues run) c.kind ∙ same-run run run refl

no-parent : (b : Batch) (key : BatchKey) (p : Option BatchKey) → is_carrier_fit b.key p (Some key) ≡ true → p ≡ None
no-parent b key None e = refl
no-parent b key (Some parent) e = absurd (cc)

module _ (batches : List Batch) (s : IsSound batches) where
  -- ---- the parent

  has-parent : (b : Batch) → Has batches b → lacks_parent batches b ≡ false
  has-parent b has = by b.parent refl
    where
      by : (p : Option BatchKey) → b.parent ≡ p → not (has_key b.parent batches) ≡ false
      by None e = holds-not _ (ap (λ o. has_key o batches) e)
      by (Some key) e = holds-not _ (ap (λ o. has_key o batches) (e ∙ sym (ap (λ p. earlier_of p b.carrier) e)) ∙ s.closed b has)

  is-formed : (b : Batch) → Has batches b → is_ill_formed batches b ≡ false
  is-formed b has = by b.parent refl
    where
      at : (key : BatchKey) (o : Option Batch) → b.parent ≡ Some key → batch_at key batches ≡ o → is_unfit_parent b o ≡ false
      at key None e f = refl
      at key (Some before) e f =
          let fit = s.parents b before key has e f in
          holds-not _ (and_from (same_run before.run b.run) (last_id before.events + 1 == first_id b.events) (same-run before.run b.run fit.run) (eq-eqb (last_id before.events + 1) (first_id b.events) fit.ids))

      by : (p : Option BatchKey) → b.parent ≡ p → is_unfit_parent b (named b.parent batches) ≡ false
      by None e = ap (λ o. is_unfit_parent b (named o batches)) e
      by (Some key) e = ap (λ o. is_unfit_parent b (named o batches)) e ∙ at key (batch_at key batches) e refl

  -- ---- the path

  is-chained : (b : Batch) → Has batches b → is_split batches b ≡ false
  is-chained b has =
      list_any-none (λ other. comes_before other b && not (has_key (Some other.key) (path_to b.key batches))) batches (λ other among.
      under (comes_before other b) _ (λ before. holds-not _ (there other (among-has batches other s.set.ordered among) before)))
    where
      there : (other : Batch) → Has batches other → comes_before other b ≡ true → has_key (Some other.key) (path_to b.key batches) ≡ true
      there other own before =
          let p = and_parts (same_run other.run b.run) ((other.key.version == b.key.version) && nat_lt other.key.task b.key.task) before in
          let q = and_parts (other.key.version == b.key.version) (nat_lt other.key.task b.key.task) p.1 in
          ap is_some (s.chains other b own has (run-same other.run b.run p.0) (eqb-true other.key.version b.key.version q.0) (ltb-true other.key.task b.key.task q.1))

  no-origin-twice : (b : Batch) → Has batches b → has_origin_twice batches b ≡ false
  no-origin-twice b has = none-again [] (origins_in b.run (events_to b.key batches)) (s.origins b has)

  none-forbidden : (b : Batch) → Has batches b → is_forbidden batches b ≡ false
  none-forbidden b has = by (is_ok (replay_of b.run (events_to b.key batches))) (s.replays b has)
    where
      by : (t : Bool) → t ≡ true → (not t && is_ok (replay_of b.run (history_of (path_from b.parent batches)))) ≡ false
      by true e = refl
      by false e = absurd (cc)

  -- ---- copied signals

  fits-copy : (b : Batch) → Has batches b → (copy : Event) → Among copy b.events → (kind : EventKind) → copy.kind ≡ kind → is_unfit_copy batches kind ≡ false
  fits-copy b has copy in_b (WorkflowExecutionSignaled name input (Some origin)) e =
      list_any-none (λ other. list_any (λ event. names origin other.run event && not (is_original name input event.kind)) other.events) batches (λ other among.
      list_any-none (λ event. names origin other.run event && not (is_original name input event.kind)) other.events (λ event in_other.
      under (names origin other.run event) _ (λ named.
      holds-not _ (original name input event.kind (fit other (among-has batches other s.set.ordered among) event in_other (names-event origin other.run event named))))))
    where
      fit : (other : Batch) → Has batches other → (event : Event) → Among event other.events → Names origin other.run event → event.kind ≡ WorkflowExecutionSignaled name input None
      fit other own event in_other named =
          all-among (IsCopyFit copy other.run) other.events event (all-among (λ c. AllByRecursion (IsCopyFit c other.run) other.events) b.events copy (s.copies b other has own) in_b) in_other name input origin e named
  fits-copy b has copy in_b (WorkflowExecutionSignaled name input None) e = refl
  fits-copy b has copy in_b _ e = refl

  no-unfit-copy : (b : Batch) → Has batches b → has_unfit_copy batches b ≡ false
  no-unfit-copy b has = list_any-none (λ event. is_unfit_copy batches event.kind) b.events (λ copy in_b. fits-copy b has copy in_b copy.kind refl)

  -- ---- the carrier

  is-carried : (b : Batch) → Has batches b → is_unfit_carried batches b ≡ false
  is-carried b has = by b.carrier refl
    where
      at : (key : BatchKey) (o : Option Batch) → b.carrier ≡ Some key → batch_at key batches ≡ o → not (closes_for b.run o) ≡ false
      at key None e f =
          let alone : b.parent ≡ None = no-parent b key b.parent (ap (is_carrier_fit b.key b.parent) (sym e) ∙ (passes b (s.faultless b has)).carrier) in
          let first : earlier b ≡ Some key = ap (λ p. earlier_of p b.carrier) alone ∙ e in
          let gone : has_key (earlier b) batches ≡ false = ap (λ o. has_key o batches) first ∙ ap is_some f in
          let there : has_key (earlier b) batches ≡ true = s.closed b has in absurd (cc)
      at key (Some carrier) e f = holds-not _ (closes b.run carrier.events (s.carriers b carrier key has e f))

      by : (c : Option BatchKey) → b.carrier ≡ c → has_unfit_carrier batches b b.carrier ≡ false
      by None e = ap (has_unfit_carrier batches b) e
      by (Some key) e = ap (has_unfit_carrier batches b) e ∙ at key (batch_at key batches) e refl

  -- ---- the first cause

  pub is-causeless : sound_or batches ≡ Ok tt
  unfolding sound_or
  is-causeless =
      let rise = s.set.ordered in
      rw (
        not-holds cause.MissingParent (lacks_parent batches) batches rise has-parent,
        not-holds cause.NotWellFormed (is_ill_formed batches) batches rise is-formed,
        not-holds cause.SplitVersion (is_split batches) batches rise is-chained,
        not-holds cause.OriginTwice (has_origin_twice batches) batches rise no-origin-twice,
        not-holds cause.OriginUnfit (has_unfit_copy batches) batches rise no-unfit-copy,
        not-holds cause.BadReplay (is_forbidden batches) batches rise none-forbidden,
      )
      (not-holds cause.CarrierUnfit (is_unfit_carried batches) batches rise is-carried)
