-- An event is named once, so copies that name originals fit.
use Rattle.std.proofs.Common.{◌≡◌, ◌<◌, ℕ, Bool, true, false, List, [], ◌∷◌, ◌⊎◌, inl, inr, None, refl, sym, ◌∙◌, subst, ap, arith}
use Rattle.std.specs.Prelude.{◌==◌, ◌+◌, nat_lt}
use Rattle.std.specs.List.{AllByRecursion}
use Rattle.std.proofs.lemmas.Bool.Decides.{nat_tests}
use Rattle.std.proofs.lemmas.Bool.{and_parts, eqb-true}
use Rattle.ndc_event.specs.Batch.{follow_from}
use Rattle.ndc_event.specs.declared.batch.Batch.{Batch}
use Rattle.ndc_event.specs.declared.batch.Event.{Event}
use Rattle.ndc_event.specs.declared.kind.EventKind.TheVariants.{WorkflowExecutionSignaled}
use Rattle.ndc_state.specs.Replay.{history_of}
use Rattle.ndc_model_sets.specs.Sets.{Has}
use Rattle.ndc_model_sets.specs.Paths.{IsPath, first, below, events_to, path_to}
use Rattle.ndc_model_sets.specs.Sound.{CopiesFit, CopiesNamed, IsCopyFit, IsSound, NamesOriginal}
use Rattle.ndc_model_sets.proofs.BranchLemmas.{has-among, same-batch}
use Rattle.ndc_model_sets.proofs.FaultLemmas.{passes}
use Rattle.ndc_model_sets.proofs.ForkLemmas.{among-left, among-right}
use Rattle.ndc_model_sets.proofs.KeyLemmas.{key-parts}
use Rattle.ndc_model_sets.proofs.Lists.{Among, all-among, all-from, each-list_all}
use Rattle.ndc_model_sets.proofs.PathLaws.{events-to}
use Rattle.ndc_model_sets.proofs.PathLemmas.{path_is}
use Rattle.ndc_laws_cells.proofs.Lists.{is-among}
use Rattle.ndc_laws_cells.specs.Adding.{IsChained}

-- of two numbers one is less, or they are one
pub either-way : (m n : ℕ) → (m < n) ⊎ ((m ≡ n) ⊎ (n < m))
either-way m n = by (nat_lt m n) refl (nat_lt n m) refl
  where
    by : (one : Bool) → nat_lt m n ≡ one → (two : Bool) → nat_lt n m ≡ two → (m < n) ⊎ ((m ≡ n) ⊎ (n < m))
    by true e two f = inl (grind (arith, nat_tests))
    by false e true f = inr (inr (grind (arith, nat_tests)))
    by false e false f = inr (inl (grind (arith, nat_tests)))

-- events that follow come after
follow-behind : (id : ℕ) (es : List Event) (e : Event) → follow_from id es ≡ true → Among e es → id < e.id
follow-behind id [] e follows h = absurd h
follow-behind id (x ∷ es) e follows (inl same) =
    let p = and_parts (x.id == id + 1) (follow_from x.id es) follows in
    subst (λ (y : Event). id < y.id) (sym same) (let n = eqb-true x.id (id + 1) p.0 in omega (arith, n))
follow-behind id (x ∷ es) e follows (inr h) =
    let p = and_parts (x.id == id + 1) (follow_from x.id es) follows in
    let l = follow-behind x.id es e p.1 h in
    let n = eqb-true x.id (id + 1) p.0 in omega (arith, n, l)

-- events that follow each other differ by their ids
pub follow-unique : (id : ℕ) (es : List Event) (e f : Event) → follow_from id es ≡ true → Among e es → Among f es → e.id ≡ f.id → e ≡ f
follow-unique id [] e f follows h k same = absurd h
follow-unique id (x ∷ es) e f follows (inl a) (inl b) same = a ∙ sym b
follow-unique id (x ∷ es) e f follows (inl a) (inr k) same =
    let p = and_parts (x.id == id + 1) (follow_from x.id es) follows in
    let l = follow-behind x.id es f p.1 k in
    let n : e.id ≡ x.id = ap (λ (y : Event). y.id) a in
    absurd (omega (arith, l, n, same))
follow-unique id (x ∷ es) e f follows (inr h) (inl b) same =
    let p = and_parts (x.id == id + 1) (follow_from x.id es) follows in
    let l = follow-behind x.id es e p.1 h in
    let n : f.id ≡ x.id = ap (λ (y : Event). y.id) b in
    absurd (omega (arith, l, n, same))
follow-unique id (x ∷ es) e f follows (inr h) (inr k) same = follow-unique x.id es e f (and_parts (x.id == id + 1) (follow_from x.id es) follows).1 h k same

-- an event of a batch of a path is one of its history
pub history-among : (path : List Batch) (b : Batch) (e : Event) → Among b path → Among e b.events → Among e (history_of path)
history-among [] b e h k = absurd h
history-among (x ∷ path) b e (inl same) k = among-left e x.events (history_of path) (subst (λ (y : Batch). Among e y.events) same k)
history-among (x ∷ path) b e (inr h) k = among-right e x.events (history_of path) (history-among path b e h k)

-- a path ends with its batch
pub path-last : (batches : List Batch) (b : Batch) (path : List Batch) → IsPath batches b path → Among b path
path-last batches b path (first _ _ _) = inl refl
path-last batches b path (below _ before key up _ _ _ _) = among-right b up (b ∷ []) (inl refl)

pub chained : (batches : List Batch) → IsSound batches → IsChained batches
chained batches s = record { set = s.set; closed = s.closed; faultless = s.faultless; parents = s.parents; chains = s.chains }

module _ (batches : List Batch) (c : IsChained batches) where
  -- events have the version of their batch
  pub event-version : (b : Batch) (e : Event) → Has batches b → Among e b.events → e.version ≡ b.key.version
  event-version b e has h = eqb-true e.version b.key.version (each-list_all (λ event. event.version == b.key.version) b.events e (passes b (c.faultless b has)).versions h)

  -- the events of a path to a batch
  on-path : (b x : Batch) (e : Event) → Has batches b → Among x (path_to b.key batches) → Among e x.events → Among e (events_to b.key batches)
  on-path b x e has h k = history-among (path_to b.key batches) x e h k

  one-id : (b : Batch) (e f : Event) → Has batches b → Among e (events_to b.key batches) → Among f (events_to b.key batches) → e.id ≡ f.id → e ≡ f
  one-id b e f has h k same = follow-unique 0 (events_to b.key batches) e f (events-to batches b c.set c.closed c.faultless c.parents has).follow h k same

  itself : (b : Batch) → Has batches b → Among b (path_to b.key batches)
  itself b has = path-last batches b (path_to b.key batches) (path_is batches b c.set c.closed has)

  -- an event is named once by its run, id and version
  pub named-once : (one two : Batch) (e f : Event) → Has batches one → Has batches two → one.run ≡ two.run → Among e one.events → Among f two.events
      → e.id ≡ f.id → e.version ≡ f.version → e ≡ f
  named-once one two e f has other run h k same version = by (either-way one.key.task two.key.task)
    where
      versions : one.key.version ≡ two.key.version
      versions = sym (event-version one e has h) ∙ version ∙ event-version two f other k

      by : (one.key.task < two.key.task) ⊎ ((one.key.task ≡ two.key.task) ⊎ (two.key.task < one.key.task)) → e ≡ f
      by (inl l) =
          let on : Among one (path_to two.key batches) = has-among (path_to two.key batches) one (c.chains one two has other run versions l) in
          one-id two e f other (on-path two one e other on h) (on-path two two f other (itself two other) k) same
      by (inr (inl t)) =
          let one-batch : one ≡ two = same-batch batches one two has other (key-parts one.key two.key versions t) in
          one-id two e f other (on-path two two e other (itself two other) (subst (λ (x : Batch). Among e x.events) one-batch h)) (on-path two two f other (itself two other) k) same
      by (inr (inr l)) =
          let on : Among two (path_to one.key batches) = has-among (path_to one.key batches) two (c.chains two one other has (sym run) (sym versions) l) in
          one-id one e f has (on-path one one e has (itself one has) h) (on-path one two f has on k) same

  -- a copy that names an original is fit where it names an event of the set
  pub copy-fits : (copy : Event) (other : Batch) (event : Event) → NamesOriginal batches copy.kind → Has batches other → Among event other.events → IsCopyFit copy other.run event
  copy-fits copy other event original there h name input origin kind names =
      let o = original name input origin kind in
      let run : o.batch.run ≡ other.run = sym o.named.run_is ∙ names.run_is in
      let id : o.event.id ≡ event.id = sym o.named.event_is ∙ names.event_is in
      let version : o.event.version ≡ event.version = sym o.named.version_is ∙ names.version_is in
      let one : o.event ≡ event = named-once o.batch other o.event event o.has there run (is-among o.batch.events o.event o.among) h id version in
      subst (λ (e : Event). e.kind ≡ WorkflowExecutionSignaled name input None) one o.kind

pub copies_fit : (batches : List Batch) → IsChained batches → CopiesNamed batches → CopiesFit batches
copies_fit batches c named b other has there =
    all-from (λ copy. AllByRecursion (IsCopyFit copy other.run) other.events) b.events
    (λ copy h. all-from (IsCopyFit copy other.run) other.events
    (λ event k. copy-fits batches c copy other event (all-among (λ (e : Event). NamesOriginal batches e.kind) b.events copy (named b has) h) there k))
