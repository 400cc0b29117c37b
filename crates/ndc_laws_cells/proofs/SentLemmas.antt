-- What a cell sends of a workflow are messages of the set that is kept for it.
use Rattle.std.proofs.Common.{◌≡◌, Bool, true, false, cond, if◌then◌else◌, is_some, find, map, List, [], ◌∷◌, ◌⊎◌, inl, inr, Option, Some, None, refl, sym, ◌∙◌, subst, ap, true≢false}
use Rattle.std.proofs.lemmas.Bool.{and_from, and_parts}
use Rattle.ndc_event.specs.declared.batch.Batch.{Batch}
use Rattle.ndc_event.specs.declared.batch.Event.{Event}
use Rattle.ndc_event.specs.declared.key.BatchKey.{BatchKey}
use Rattle.ndc_event.specs.declared.key.RunId.{RunId}
use Rattle.ndc_event.specs.declared.kind.EventKind.{EventKind}
use Rattle.ndc_event.specs.declared.kind.EventKind.TheVariants.{WorkflowExecutionContinuedAsNew}
use Rattle.ndc_event.specs.declared.name.Name.{Name}
use Rattle.ndc_model_cells.specs.declared.message.Message.{Message}
use Rattle.ndc_model_cells.specs.declared.place.Place.{Place}
use Rattle.ndc_model_cells.specs.Arrival.{arrived_at, cell_with, has_arrived}
use Rattle.ndc_model_cells.specs.Cells.{Cell, IsCell, arrived_of, carries, learned_message, learned_of, message_at, message_found, message_of}
use Rattle.ndc_model_cells.specs.Laws.{arrived_second}
use Rattle.ndc_model_cells.specs.Places.{batch_there, is_of}
use Rattle.ndc_model_cells.specs.Writing.{goes_on_as, goes_on}
use Rattle.ndc_model_cells.proofs.PlaceLemmas.{set_of_workflow}
use Rattle.ndc_model_sets.specs.Learned.{IsPart}
use Rattle.ndc_model_sets.specs.Paths.{is_wanted, last_event, path_to, versions_of}
use Rattle.ndc_model_sets.specs.Sets.{Has, IsSet, arrived, batch_at}
use Rattle.ndc_model_sets.specs.Sound.{ContinuesAs}
use Rattle.ndc_model_sets.proofs.ArrivalLemmas.{arrival_keeps_sets, is_there, stays, was_or_new}
use Rattle.ndc_model_sets.proofs.BranchLemmas.{among-has, has-among}
use Rattle.ndc_model_sets.proofs.KeyLemmas.{key_eq-self}
use Rattle.ndc_model_sets.proofs.LearnedLemmas.{learned-reaches, learned_closed, reaches-has}
use Rattle.ndc_model_sets.proofs.Lists.{Among, among-filter, filter-among, find-among}
use Rattle.ndc_model_sets.proofs.PathLemmas.{part-path}
use Rattle.ndc_model_sets.proofs.SetLemmas.{found-has, found-key}
use Rattle.ndc_state.specs.Replay.{history_of}
use Rattle.ndc_model_cells.specs.Keeping.{IsCarried, IsKept, IsMessageOf, IsWhole}
use Rattle.ndc_laws_cells.proofs.FoundLemmas.{find-passes, there-among}
use Rattle.ndc_laws_cells.proofs.KeptLemmas.{arrived-then, as-written, if-some, joined-has, none-is, own-is, second-of}
use Rattle.ndc_laws_cells.proofs.NameLemmas.{names-of, wanted-some}
use Rattle.ndc_laws_cells.proofs.WriteLemmas.{goes-step}

-- where the last event is that by which a run goes on, the kinds say so
continues-on : (e : Event) (events : List Event) (run : RunId) (workflow_type : Name) (last : Event) → last_event (e ∷ events) ≡ Some last → last.kind ≡ WorkflowExecutionContinuedAsNew run workflow_type
    → goes_on_as (map (λ (event : Event). event.kind) (e ∷ events)) ≡ Some workflow_type
continues-on e [] run workflow_type last is kind =
    let same : e ≡ last = cc in
    subst (λ (k : EventKind). goes_on_as (k ∷ []) ≡ Some workflow_type) (sym (ap (λ (x : Event). x.kind) same ∙ kind)) refl
continues-on e (f ∷ events) run workflow_type last is kind =
    goes-step e.kind f.kind (map (λ (event : Event). event.kind) events) ∙ continues-on f events run workflow_type last is kind

pub continues-goes : (run : RunId) (b : Batch) → ContinuesAs run b.events → goes_on b ≡ true
continues-goes run b c = by b.events c.last
  where
    by : (events : List Event) → last_event events ≡ Some c.event → is_some (goes_on_as (map (λ (event : Event). event.kind) events)) ≡ true
    by [] e = absurd (cc)
    by (x ∷ xs) e = ap is_some (continues-on x xs run c.workflow_type c.event e c.kind)

-- an item that passes is found
some-found : {X : Type 0} (p : X → Bool) (xs : List X) (x : X) → Among x xs → p x ≡ true → is_some (find p xs) ≡ true
some-found p [] x none passes = absurd none
some-found p (y ∷ ys) x there passes = by (p y) refl there (some-found p ys x)
  where
    by : (t : Bool) → p y ≡ t → (x ≡ y) ⊎ Among x ys → (Among x ys → p x ≡ true → is_some (find p ys) ≡ true) → is_some (cond t (Some y) (find p ys)) ≡ true
    by true e h rest = refl
    by false e (inl same) rest = absurd (true≢false (sym passes ∙ ap p same ∙ e))
    by false e (inr later) rest = rest later passes

-- the message of a learned batch
module _ (all : List Batch) (cell : Cell) (is : IsCell cell) (b : Batch) (kept : IsKept all b.domain b.workflow cell) (whole : IsWhole b.domain b.workflow cell)
    (has : Has (learned_of b.domain b.workflow cell) b) where
  abbrev held : List Batch
  held = arrived_of b.domain b.workflow cell

  held-set : IsSet held
  held-set = set_of_workflow b.domain b.workflow cell is

  -- what is learned is a part of the set
  learned-within : IsPart (learned_of b.domain b.workflow cell) all
  learned-within x h = kept.within x (reaches-has held x (learned-reaches held x held-set h))

  carried-is : (s : Batch) → find (carries b) cell.arrived ≡ Some s → IsCarried all b s
  carried-is s e =
      let p = and_parts (is_of b.domain b.workflow s) (is_wanted s.carrier b) (find-passes (carries b) cell.arrived s e) in
      let arrived-here : Has held s = among-has held s held-set.ordered (among-filter (is_of b.domain b.workflow) cell.arrived s p.0 (find-among (carries b) cell.arrived s e)) in
      record { has = kept.within s arrived-here; carrier = wanted-some s.carrier b p.1 }

  goes-same : b.carrier ≡ None → is_some (find (carries b) cell.arrived) ≡ goes_on b
  goes-same lone = by (find (carries b) cell.arrived) refl (goes_on b) refl
    where
      by : (o : Option Batch) → find (carries b) cell.arrived ≡ o → (t : Bool) → goes_on b ≡ t → is_some o ≡ t
      by (Some s) e true on = refl
      by (Some s) e false on =
          let c = carried-is s e in
          absurd (true≢false (sym (continues-goes s.run b (kept.sound.carriers s b b.key c.has c.carrier (learned-within b has))) ∙ on))
      by None e false on = refl
      by None e true on =
          let r = whole b (reaches-has held b (learned-reaches held b held-set has)) lone on in
          let p = filter-among (is_of b.domain b.workflow) cell.arrived r.0 (has-among held r.0 r.1) in
          let wanted : is_wanted r.0.carrier b ≡ true = ap (λ (k : Option BatchKey). is_wanted k b) r.2 ∙ key_eq-self b.key in
          let carried : carries b r.0 ≡ true = and_from (is_of b.domain b.workflow r.0) (is_wanted r.0.carrier b) p.0 wanted in
          absurd (true≢false (sym (some-found (carries b) cell.arrived r.0 p.1 carried) ∙ ap is_some e))

  pub sent-is : (sent : Message) → learned_message cell b ≡ Some sent → IsMessageOf all sent × (sent.batch ≡ b)
  sent-is sent e =
      let o = own-is (learned_of b.domain b.workflow cell) cell.arrived b sent e in
      let closed = learned_closed held held-set in
      let same-path : path_to b.key (learned_of b.domain b.workflow cell) ≡ path_to b.key all =
      part-path (learned_of b.domain b.workflow cell) all b closed.0 closed.1 kept.sound.set kept.sound.closed learned-within has in
      let mine : IsMessageOf all (message_of (learned_of b.domain b.workflow cell) cell.arrived b) = record {
        has = learned-within b has;
        lone = none-is b.carrier o.0;
        history = ap (λ p. versions_of (history_of p)) same-path;
        goes = goes-same (none-is b.carrier o.0);
        second = if-some (IsCarried all b) (find (carries b) cell.arrived) carried-is;
      } in
      (subst (IsMessageOf all) o.1 mine, ap (λ (m : Message). m.batch) (sym o.1))

-- the message that a cell has at a place is of the set that is kept for its workflow
pub found-is-of : (all : List Batch) (domain workflow : Name) (key : BatchKey) (cell : Cell) → IsCell cell → IsKept all domain workflow cell → IsWhole domain workflow cell → (sent : Message)
    → message_at cell (record { domain = domain; workflow = workflow; key = key }) ≡ Some sent → IsMessageOf all sent × (is_of domain workflow sent.batch ≡ true)
found-is-of all domain workflow key cell is kept whole sent e = by (batch_there known place) refl e
  where
    place : Place
    place = record { domain = domain; workflow = workflow; key = key }

    known : List Batch
    known = learned_of domain workflow cell

    held : List Batch
    held = arrived_of domain workflow cell

    by : (o : Option Batch) → batch_there known place ≡ o → message_found cell o ≡ Some sent → IsMessageOf all sent × (is_of domain workflow sent.batch ≡ true)
    by None at f = absurd (cc)
    by (Some b) at f =
        let set = set_of_workflow domain workflow cell is in
        let has : Has known b = among-has known b (learned_closed held set).0.ordered (there-among known place b at) in
        let own : is_of domain workflow b ≡ true = (filter-among (is_of domain workflow) cell.arrived b (has-among held b (reaches-has held b (learned-reaches held b set has)))).0 in
        let n = names-of domain workflow b own in
        let kept-b : IsKept all b.domain b.workflow cell = subst (λ d. IsKept all d b.workflow cell) (sym n.0) (subst (λ u. IsKept all domain u cell) (sym n.1) kept) in
        let whole-b : IsWhole b.domain b.workflow cell = subst (λ d. IsWhole d b.workflow cell) (sym n.0) (subst (λ u. IsWhole domain u cell) (sym n.1) whole) in
        let has-b : Has (learned_of b.domain b.workflow cell) b = subst (λ d. Has (learned_of d b.workflow cell) b) (sym n.0) (subst (λ u. Has (learned_of domain u cell) b) (sym n.1) has) in
        let m = sent-is all cell is b kept-b whole-b has-b sent f in
        (m.0, subst (λ (x : Batch). is_of domain workflow x ≡ true) (sym m.1) own)

-- arrival keeps what has arrived whole
pub arrival-keeps-whole : (all : List Batch) (sent : Message) (cell : Cell) → IsCell cell → IsKept all sent.batch.domain sent.batch.workflow cell → IsMessageOf all sent → IsWhole sent.batch.domain sent.batch.workflow cell
    → IsWhole sent.batch.domain sent.batch.workflow (arrived_at sent cell)
unfolding arrived_at
arrival-keeps-whole all sent cell is kept message whole = by (has_arrived sent.batch cell) refl
  where
    held : List Batch
    held = arrived_of sent.batch.domain sent.batch.workflow cell

    set : IsSet held
    set = set_of_workflow sent.batch.domain sent.batch.workflow cell is

    next : List Batch
    next = arrived_second sent.second (arrived sent.batch held)

    first-set : IsSet (arrived sent.batch held)
    first-set = arrival_keeps_sets sent.batch held set (as-written all sent cell kept message).back

    still : IsPart held next
    still x has = two sent.second
      where
        two : (o : Option Batch) → Has (arrived_second o (arrived sent.batch held)) x
        two None = stays sent.batch held set.ordered x has
        two (Some s) = stays s (arrived sent.batch held) first-set.ordered x (stays sent.batch held set.ordered x has)

    second-there : (s : Batch) → sent.second ≡ Some s → Has next s
    second-there s e = subst (λ (o : Option Batch). Has (arrived_second o (arrived sent.batch held)) s) (sym e) (placed (batch_at s.key (arrived sent.batch held)) refl)
      where
        mine : Has all s
        mine = (second-of all sent cell kept message s e).has

        first-within : IsPart (arrived sent.batch held) all
        first-within x has = one (was_or_new sent.batch held x set.ordered has)
          where
            one : (x ≡ sent.batch) ⊎ Has held x → Has all x
            one (inl same) = subst (Has all) (sym same) message.has
            one (inr old) = kept.within x old

        placed : (o : Option Batch) → batch_at s.key (arrived sent.batch held) ≡ o → Has (arrived s (arrived sent.batch held)) s
        placed None at = is_there s (arrived sent.batch held) first-set.ordered at
        placed (Some x) at =
            let key : x.key ≡ s.key = found-key (arrived sent.batch held) s.key x at in
            let there : Has all x = first-within x (found-has (arrived sent.batch held) s.key x at) in
            let both_are : Some x ≡ Some s = sym there ∙ ap (λ (k : BatchKey). batch_at k all) key ∙ mine in
            let one : x ≡ s = cc in
            stays s (arrived sent.batch held) first-set.ordered s (subst (λ (y : Batch). Has (arrived sent.batch held) y) one (found-has (arrived sent.batch held) s.key x at))

    each : (b : Batch) → Has next b → b.carrier ≡ None → goes_on b ≡ true → (s : Batch) × Has next s × (s.carrier ≡ Some b.key)
    each b has lone on = which (joined-has sent.second sent.batch held b set.ordered first-set.ordered has)
      where
        own : sent.batch ≡ b → (o : Option Batch) → sent.second ≡ o → is_some o ≡ true → (s : Batch) × Has next s × (s.carrier ≡ Some b.key)
        own same None e none = absurd (true≢false (sym none))
        own same (Some s) e _ = (s, second-there s e, (second-of all sent cell kept message s e).carrier ∙ ap (λ (x : Batch). Some x.key) same)

        which : (b ≡ sent.batch) ⊎ ((sent.second ≡ Some b) ⊎ Has held b) → (s : Batch) × Has next s × (s.carrier ≡ Some b.key)
        which (inl same) = own (sym same) sent.second refl (message.goes ∙ ap goes_on (sym same) ∙ on)
        which (inr (inl e)) =
            let clash : None ≡ Some sent.batch.key = sym lone ∙ (second-of all sent cell kept message b e).carrier in
            absurd (cc)
        which (inr (inr old)) = let r = whole b old lone on in (r.0, still r.0 r.1, r.2)

    by : (t : Bool) → has_arrived sent.batch cell ≡ t → IsWhole sent.batch.domain sent.batch.workflow (arrived_at sent cell)
    by true e = subst (λ (t : Bool). IsWhole sent.batch.domain sent.batch.workflow (if t then cell else cell_with sent cell)) (sym e) whole
    by false e = subst (λ (l : List Batch). (b : Batch) → Has l b → b.carrier ≡ None → goes_on b ≡ true → (s : Batch) × Has l s × (s.carrier ≡ Some b.key)) (sym (arrived-then all sent cell kept message is e)) each
