-- What one write adds to a workflow.
use Rattle.std.proofs.Common.{◌≡◌, true, List, [], ◌∷◌, ◌++◌, ◌⊎◌, inl, inr, Option, Some, None, IsOk, refl, sym, ◌∙◌, subst, ap}
use Rattle.std.specs.Prelude.{Ok, Result, is_ok, is_some}
use Rattle.std.specs.List.{AllByRecursion}
use Rattle.ndc_event.specs.declared.batch.Batch.{Batch}
use Rattle.ndc_event.specs.declared.batch.Event.{Event}
use Rattle.ndc_event.specs.declared.key.BatchKey.{BatchKey}
use Rattle.ndc_event.specs.declared.key.RunId.{RunId}
use Rattle.ndc_event.specs.declared.kind.EventKind.{EventKind}
use Rattle.ndc_state.specs.Laws.{AreApart}
use Rattle.ndc_state.specs.Replay.{replay_of}
use Rattle.ndc_state.specs.Value.{StateValue, new_state}
use Rattle.ndc_state.proofs.LawProofs.{origins_apart}
use Rattle.ndc_model_sets.proofs.ViewLaws.{replay-signals}
use Rattle.ndc_model_sets.specs.Learned.{IsPart, has_key}
use Rattle.ndc_model_sets.specs.Origins.{origins_in}
use Rattle.ndc_model_sets.specs.Paths.{events_to}
use Rattle.ndc_model_sets.specs.Sets.{Has, arrived, batch_at, earlier, earlier_of}
use Rattle.ndc_model_sets.specs.Sound.{CopiesNamed, IsCopyFit, IsSound, NamesOriginal}
use Rattle.ndc_model_sets.specs.Writing.{Begins, CopiesFitWith, GoesBelow}
use Rattle.ndc_model_sets.proofs.BranchLemmas.{among-has, greatest-among}
use Rattle.ndc_model_sets.proofs.Lists.{all-among, all-from}
use Rattle.ndc_model_sets.proofs.SoundLemmas.{all-faultless, new-closed, new-set, old-there, which}
use Rattle.ndc_model_sets.proofs.WriteLaws.{begin-sound, below-carriers, below-chains, below-origins, below-parents, below-replays}
use Rattle.ndc_laws_cells.specs.Adding.{Added, IsChained}
use Rattle.ndc_laws_cells.proofs.NamedLemmas.{chained, copies_fit, copy-fits}

-- events that replay have origins that differ
pub replayed-apart : (run : RunId) (events : List Event) (t : StateValue) → replay_of run events ≡ Ok t → AreApart (origins_in run events)
replayed-apart run events t e = subst AreApart (replay-signals (new_state run) t events e) (origins_apart run events t e)

-- what names originals in some batches names them in more
pub more-originals : (batches others : List Batch) → IsPart batches others → (kind : EventKind) → NamesOriginal batches kind → NamesOriginal others kind
more-originals batches others part kind names name input origin e =
    let o = names name input origin e in
    record { batch = o.batch; has = part o.batch o.has; event = o.event; among = o.among; named = o.named; kind = o.kind }

-- the copies of these events name originals
abbrev pub EventsName : List Batch → List Event → Type 0
EventsName batches events = AllByRecursion (λ (event : Event). NamesOriginal batches event.kind) events

pub all-more : (batches others : List Batch) → IsPart batches others → (events : List Event) → EventsName batches events → EventsName others events
all-more batches others part [] all = tt
all-more batches others part (e ∷ es) all = (more-originals batches others part e.kind all.0, all-more batches others part es all.1)

-- what replays is Ok
pub is-ok : {A E : Type 0} (r : Result A E) (x : A) → r ≡ Ok x → IsOk r
is-ok r x e = ap is_ok e

-- where the batch's copies name originals, all do
all-named : (all : List Batch) (new : Batch) → IsSound all → batch_at new.key all ≡ None → CopiesNamed all → IsPart all (arrived new all)
    → ((b : Batch) → Has (arrived new all) b → (b ≡ new) ⊎ Has all b) → EventsName all new.events → CopiesNamed (arrived new all)
all-named all new sound fresh named part which names b has = by (which b has)
  where
    by : (b ≡ new) ⊎ Has all b → EventsName (arrived new all) b.events
    by (inl same) = all-more all (arrived new all) part b.events (subst (λ (x : Batch). EventsName all x.events) (sym same) names)
    by (inr old) = all-more all (arrived new all) part b.events (named b old)

-- a batch that goes below a tip is added
module _ (all part : List Batch) (tip new : Batch) (t : StateValue) (sound : IsSound all) (named : CopiesNamed all) (w : GoesBelow all part tip new)
    (names : EventsName all new.events) (replays : replay_of new.run (events_to tip.key all ++ new.events) ≡ Ok t) where
  tip-there : Has all tip
  tip-there = w.within tip (among-has part tip w.part_set.ordered (greatest-among part tip w.greatest))

  below-reached : has_key (earlier new) all ≡ true
  below-reached = ap (λ o. has_key (earlier_of o new.carrier) all) w.parent ∙ ap is_some tip-there

  below-named : CopiesNamed (arrived new all)
  below-named = all-named all new sound w.fresh named (old-there all new sound w.fresh w.faultless below-reached) (which all new sound w.fresh w.faultless below-reached) names

  below-chained : IsChained (arrived new all)
  below-chained = record {
    set = new-set all new sound w.fresh w.faultless below-reached;
    closed = new-closed all new sound w.fresh w.faultless below-reached;
    faultless = all-faultless all new sound w.fresh w.faultless below-reached;
    parents = below-parents all part tip new sound w;
    chains = below-chains all part tip new sound w;
  }

  pub add-below : Added all new
  add-below = record {
    fresh = w.fresh;
    sound = record {
      set = below-chained.set;
      closed = below-chained.closed;
      faultless = below-chained.faultless;
      parents = below-chained.parents;
      chains = below-chained.chains;
      origins = below-origins all part tip new sound w (replayed-apart new.run (events_to tip.key all ++ new.events) t replays);
      copies = copies_fit (arrived new all) below-chained below-named;
      replays = below-replays all part tip new sound w (is-ok _ t replays);
      carriers = below-carriers all part tip new sound w;
    };
    named = below-named;
  }

-- a batch that begins a run is added
module _ (all : List Batch) (new : Batch) (t : StateValue) (sound : IsSound all) (named : CopiesNamed all) (w : Begins all new)
    (names : EventsName all new.events) (replays : replay_of new.run new.events ≡ Ok t) where
  none-before : has_key (earlier new) all ≡ true
  none-before = ap (λ p. has_key (earlier_of p new.carrier) all) w.parent ∙ by new.carrier refl
    where
      by : (o : Option BatchKey) → new.carrier ≡ o → has_key o all ≡ true
      by None e = refl
      by (Some key) e = ap is_some (w.carrier key e).1

  -- no copy that names an original names an event of the new run
  not-mine : (copy event : Event) → NamesOriginal all copy.kind → IsCopyFit copy new.run event
  not-mine copy event original name input origin kind names =
      let o = original name input origin kind in
      absurd (w.alone o.batch o.has (sym o.named.run_is ∙ names.run_is))

  fits-with : CopiesFitWith all new
  fits-with = record {
    own = all-from _ new.events (λ copy h. all-from _ new.events (λ event k. not-mine copy event (all-among (λ (e : Event). NamesOriginal all e.kind) new.events copy names h)));
    others = λ b has. record {
      mine = all-from _ new.events (λ copy h. all-from _ b.events (λ event k. copy-fits all (chained all sound) copy b event (all-among (λ (e : Event). NamesOriginal all e.kind) new.events copy names h) has k));
      theirs = all-from _ b.events (λ copy h. all-from _ new.events (λ event k. not-mine copy event (all-among (λ (e : Event). NamesOriginal all e.kind) b.events copy (named b has) h)));
    };
  }

  pub add-first : Added all new
  add-first = record {
    fresh = w.fresh;
    sound = begin-sound all new sound w (replayed-apart new.run new.events t replays) fits-with (is-ok _ t replays);
    named = all-named all new sound w.fresh named (old-there all new sound w.fresh w.faultless none-before) (which all new sound w.fresh w.faultless none-before) names;
  }
