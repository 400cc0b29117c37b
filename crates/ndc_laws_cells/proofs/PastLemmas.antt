-- An event of a run has one content and one past.
use Rattle.std.proofs.Common.{◌≡◌, ◌<◌, take, List, [], ◌∷◌, ◌++◌, ◌⊎◌, inl, inr, sym, ◌∙◌, subst, ap, arith}
use Rattle.std.proofs.lemmas.List.{take-append-le}
use Rattle.ndc_event.specs.declared.batch.Batch.{Batch}
use Rattle.ndc_event.specs.declared.batch.Event.{Event}
use Rattle.ndc_laws_cells.proofs.Lists.{is-among}
use Rattle.ndc_model_sets.specs.Paths.{events_to, path_to}
use Rattle.ndc_model_sets.specs.Sets.{Has}
use Rattle.ndc_model_sets.proofs.BranchLemmas.{has-among, same-batch}
use Rattle.ndc_model_sets.proofs.ForkLemmas.{comes-to, path-run}
use Rattle.ndc_model_sets.proofs.KeyLemmas.{key-parts}
use Rattle.ndc_model_sets.proofs.Lists.{Among}
use Rattle.ndc_model_sets.proofs.PathIds.{history-append}
use Rattle.ndc_model_sets.proofs.PathLaws.{events-to}
use Rattle.ndc_model_sets.proofs.PathLemmas.{one-path, path_is}
use Rattle.ndc_state.specs.Replay.{history_of}
use Rattle.ndc_laws_cells.specs.Adding.{IsChained}
use Rattle.ndc_laws_cells.specs.Past.{AreOne, EventsAreOne}
use Rattle.ndc_laws_cells.proofs.FreshLemmas.{among-history, follow-most}
use Rattle.ndc_laws_cells.proofs.NamedLemmas.{either-way, event-version, history-among, named-once, path-last}

module _ (all : List Batch) (c : IsChained all) where
  -- the events up to a batch are those up to one on its path, and more
  goes-on : (x z : Batch) → Has all x → Has all z → Among z (path_to x.key all) → (more : List Event) × (events_to x.key all ≡ events_to z.key all ++ more)
  goes-on x z has there h =
      let t = comes-to all x z (path_to x.key all) (path_is all x c.set c.closed has) h in
      let one = one-path all z (t.front ++ z ∷ []) (path_to z.key all) t.path_is (path_is all z c.set c.closed there) in
      (history_of t.rest, ap history_of t.whole ∙ history-append (t.front ++ z ∷ []) t.rest ∙ ap (λ l. history_of l ++ history_of t.rest) one)

  -- up to an event of a batch they are the same
  up-to-event : (x z : Batch) (e : Event) → Has all x → Has all z → Among z (path_to x.key all) → Among e z.events → take e.id (events_to x.key all) ≡ take e.id (events_to z.key all)
  up-to-event x z e has there h k =
      let g = goes-on x z has there h in
      let m = follow-most 0 (events_to z.key all) e (events-to all z c.set c.closed c.faultless c.parents there).follow
      (history-among (path_to z.key all) z e (path-last all z (path_to z.key all) (path_is all z c.set c.closed there)) k) in
      ap (take e.id) g.1 ∙ take-append-le e.id (events_to z.key all) g.0 (omega (arith, m))

  -- two batches that hold one event
  one-past : (one two : Batch) (e : Event) → Has all one → Has all two → one.run ≡ two.run → Among e one.events → Among e two.events → take e.id (events_to one.key all) ≡ take e.id (events_to two.key all)
  one-past one two e has other run h k = by (either-way one.key.task two.key.task)
    where
      versions : one.key.version ≡ two.key.version
      versions = sym (event-version all c one e has h) ∙ event-version all c two e other k

      by : (one.key.task < two.key.task) ⊎ ((one.key.task ≡ two.key.task) ⊎ (two.key.task < one.key.task)) → take e.id (events_to one.key all) ≡ take e.id (events_to two.key all)
      by (inl l) = sym (up-to-event two one e other has (has-among (path_to two.key all) one (c.chains one two has other run versions l)) h)
      by (inr (inl t)) = ap (λ (b : Batch). take e.id (events_to b.key all)) (same-batch all one two has other (key-parts one.key two.key versions t))
      by (inr (inr l)) = up-to-event one two e has other (has-among (path_to one.key all) two (c.chains two one other has (sym run) (sym versions) l)) k

  are-one : (a b : Batch) (e f : Event) → Has all a → Has all b → a.run ≡ b.run → Among e (events_to a.key all) → Among f (events_to b.key all) → e.id ≡ f.id → e.version ≡ f.version
      → AreOne (events_to a.key all) (events_to b.key all) e f
  are-one a b e f has other run h k id version =
      let one = among-history (path_to a.key all) e h in
      let two = among-history (path_to b.key all) f k in
      let p = path-run all a one.0 (path_to a.key all) c.parents (path_is all a c.set c.closed has) one.1 in
      let q = path-run all b two.0 (path_to b.key all) c.parents (path_is all b c.set c.closed other) two.1 in
      let runs : one.0.run ≡ two.0.run = p.1 ∙ run ∙ sym q.1 in
      let same : e ≡ f = named-once all c one.0 two.0 e f p.0 q.0 runs one.2 two.2 id version in
      record {
        same = same;
        past = up-to-event a one.0 e has p.0 one.1 one.2
            ∙ one-past one.0 two.0 e p.0 q.0 runs one.2 (subst (λ (x : Event). Among x two.0.events) (sym same) two.2)
            ∙ ap (λ (x : Event). take x.id (events_to two.0.key all)) same
            ∙ sym (up-to-event b two.0 f other q.0 two.1 two.2);
      }

pub events_are_one : (batches : List Batch) → IsChained batches → EventsAreOne batches
events_are_one batches c a b one two has other run h k id version =
    are-one batches c a b one two has other run (is-among (events_to a.key batches) one h) (is-among (events_to b.key batches) two k) id version
