-- A cell of which the caller keeps sound sets: what may arrive, and what arrival keeps.
use Rattle.std.proofs.Common.{◌≡◌, ◌≤◌, ◌+◌, ◌^◌, Bool, true, false, not, ◌&&◌, ◌==◌, is_some, List, [], ◌∷◌, length, ◌⊎◌, inl, inr, Option, Some, None, IfSome, option_to_list, refl, sym, ◌∙◌, subst, ap, arith, true≢false, All}
use Rattle.std.specs.Prelude.{if◌then◌else◌}
use Rattle.std.specs.List.{AllByRecursion, filter, flat_map}
use Rattle.std.proofs.lemmas.Bool.{and_parts, eqb-true}
use Rattle.std.proofs.lemmas.List.{length-append}
use Rattle.std.proofs.lemmas.List.Elements.{All-cons, All-nil}
use Rattle.ndc_event.specs.Batch.{is_carrier_fit}
use Rattle.ndc_event.specs.declared.batch.Batch.{Batch}
use Rattle.ndc_event.specs.declared.batch.Event.{Event}
use Rattle.ndc_event.specs.declared.key.BatchKey.{BatchKey}
use Rattle.ndc_event.specs.declared.name.Name.{Name}
use Rattle.ndc_model_cells.specs.declared.message.Message.{Message}
use Rattle.ndc_model_cells.specs.Allowed.{MayArrive}
use Rattle.ndc_model_cells.specs.Arrival.{arrived_at, cell_with, has_arrived, placed_second}
use Rattle.ndc_model_cells.specs.Cells.{Cell, IsCell, arrived_of, both, message_of, own_message}
use Rattle.ndc_model_cells.specs.Laws.{arrived_second}
use Rattle.ndc_model_cells.specs.Messages.{HasSmallIds, IsCarriedBy, IsMessage}
use Rattle.ndc_model_cells.specs.Places.{batch_there, is_of, place_of, placed}
use Rattle.ndc_model_cells.specs.Writing.{Desk, key_behind}
use Rattle.ndc_model_cells.proofs.CellLemmas.{others_arrived_by}
use Rattle.ndc_model_cells.proofs.PlaceLemmas.{arrival_keeps, arrival_only_adds, filter-own, placed-in-order, set_of_workflow}
use Rattle.ndc_model_cells.proofs.SoundLemmas.{learned_is_sound}
use Rattle.ndc_model_sets.specs.Learned.{IsPart, has_key}
use Rattle.ndc_model_sets.specs.Paths.{Walk, events_to, is_wanted, path_to, walk_down}
use Rattle.ndc_model_sets.specs.Sets.{Has, PointsBack, Rise, arrived, batch_at}
use Rattle.ndc_model_sets.specs.Sound.{IsSound}
use Rattle.ndc_model_sets.proofs.ArrivalLemmas.{arrival_keeps_sets, was_or_new}
use Rattle.ndc_model_sets.proofs.BranchLemmas.{has-among}
use Rattle.ndc_model_sets.proofs.FaultLemmas.{passes}
use Rattle.ndc_model_sets.proofs.Lists.{Among, all-among}
use Rattle.ndc_model_sets.proofs.PathLaws.{events-to}
use Rattle.ndc_model_sets.proofs.PathLemmas.{path_is}
use Rattle.ndc_model_sets.proofs.SetLemmas.{found-has, found-key}
use Rattle.ndc_model_sets.proofs.SoundLemmas.{faultless-back}
use Rattle.ndc_state.specs.Replay.{history_of}
use Rattle.ndc_model_cells.specs.Keeping.{HasRange, IsAuthor, IsCarried, IsKept, IsMessageOf}
use Rattle.ndc_laws_cells.proofs.FoundLemmas.{at-there}
use Rattle.ndc_laws_cells.proofs.FreshLemmas.{follow-most}
use Rattle.ndc_laws_cells.proofs.NameLemmas.{names-of, own-names}
use Rattle.ndc_laws_cells.proofs.NamedLemmas.{history-among, path-last}

-- what holds of the item that there is, where there is one
pub if-some : {X : Type 0} (P : X → Type 0) (o : Option X) → ((x : X) → o ≡ Some x → P x) → IfSome o P
if-some P None each = tt
if-some P (Some x) each = each x refl

pub some-if : {X : Type 0} (P : X → Type 0) (o : Option X) (x : X) → IfSome o P → o ≡ Some x → P x
some-if P o x holds e = subst (λ p. IfSome p P) e holds

-- what holds of both batches of a message
pub both-all : (P : Batch → Type 0) (sent : Message) → P sent.batch → ((s : Batch) → sent.second ≡ Some s → P s) → AllByRecursion P (both sent)
both-all P sent first second = (first, rest sent.second second)
  where
    rest : (o : Option Batch) → ((s : Batch) → o ≡ Some s → P s) → AllByRecursion P (option_to_list o)
    rest None each = tt
    rest (Some s) each = (each s refl, tt)

pub none-is : {X : Type 0} (o : Option X) → is_some o ≡ false → o ≡ None
none-is None e = refl
none-is (Some x) e = absurd (true≢false e)

-- a message of its own: of a batch that is not carried, as that batch has it
pub own-is : (own all : List Batch) (b : Batch) (sent : Message) → own_message own all b ≡ Some sent → (is_some b.carrier ≡ false) × (message_of own all b ≡ sent)
own-is own all b sent e = by (is_some b.carrier) refl e
  where
    by : (t : Bool) → is_some b.carrier ≡ t → (if t then None else Some (message_of own all b)) ≡ Some sent → (is_some b.carrier ≡ false) × (message_of own all b ≡ sent)
    by true at e = absurd (cc)
    by false at e = (at, let same : message_of own all b ≡ sent = cc in same)

-- the first batch of a run that goes on is the one after its carrier
pub carried-by : (b s : Batch) → s.carrier ≡ Some b.key → is_carrier_fit s.key s.parent s.carrier ≡ true → IsCarriedBy b s
carried-by b s e fit = record { key = key; parent = none-is s.parent (alone (is_some s.parent) p.0); carrier = e }
  where
    p : (not (is_some s.parent) ≡ true) × (((b.key.version == s.key.version) && (b.key.task + 1 == s.key.task)) ≡ true)
    p = and_parts (not (is_some s.parent)) ((b.key.version == s.key.version) && (b.key.task + 1 == s.key.task)) (subst (λ (o : Option BatchKey). is_carrier_fit s.key s.parent o ≡ true) e fit)

    q : ((b.key.version == s.key.version) ≡ true) × ((b.key.task + 1 == s.key.task) ≡ true)
    q = and_parts (b.key.version == s.key.version) (b.key.task + 1 == s.key.task) p.1

    version : b.key.version ≡ s.key.version
    version = eqb-true b.key.version s.key.version q.0

    task : b.key.task + 1 ≡ s.key.task
    task = eqb-true (b.key.task + 1) s.key.task q.1

    key : s.key ≡ key_behind b.key
    key = λ i. record { version = sym version i; task = sym task i }

    alone : (t : Bool) → not t ≡ true → t ≡ false
    alone true e = sym e
    alone false e = refl

-- a path has no more events than its batches
walk-within : (bs : List Batch) (w : Walk) → length (history_of (walk_down bs w).path) ≤ length (flat_map (λ (b : Batch). b.events) bs) + length (history_of w.path)
walk-within [] w = omega arith
walk-within (b ∷ bs) w = by (is_wanted (walk_down bs w).wanted b) (walk-within bs w)
  where
    rest : Walk
    rest = walk_down bs w

    whole : length (flat_map (λ (x : Batch). x.events) (b ∷ bs)) ≡ length b.events + length (flat_map (λ (x : Batch). x.events) bs)
    whole = length-append b.events (flat_map (λ (x : Batch). x.events) bs)

    by : (wanted : Bool) → length (history_of rest.path) ≤ length (flat_map (λ (x : Batch). x.events) bs) + length (history_of w.path)
        → length (history_of (if wanted then record { wanted = b.parent; path = b ∷ rest.path } else rest).path) ≤ length (flat_map (λ (x : Batch). x.events) (b ∷ bs)) + length (history_of w.path)
    by true few = let e = length-append b.events (history_of rest.path) in let f = whole in omega (arith, e, f, few)
    by false few = let f = whole in omega (arith, f, few)

pub events-within : (key : BatchKey) (bs : List Batch) → length (events_to key bs) ≤ length (flat_map (λ (b : Batch). b.events) bs)
events-within key bs = let m = walk-within bs (record { wanted = Some key; path = [] }) in omega (arith, m)

-- the ids of a batch of a sound set in range are small
few-ids : (all : List Batch) → IsSound all → HasRange all → (b : Batch) → Has all b → HasSmallIds b
few-ids all sound range b has = each b.events (λ e h. h)
  where
    most : (e : Event) → Among e b.events → e.id ≤ 10 ^ 12
    most e h =
        let m = follow-most 0 (events_to b.key all) e (events-to all b sound.set sound.closed sound.faultless sound.parents has).follow
        (history-among (path_to b.key all) b e (path-last all b (path_to b.key all) (path_is all b sound.set sound.closed has)) h) in
        let n = events-within b.key all in let r = range.events_most in omega (arith, m, n, r)

    each : (events : List Event) → ((e : Event) → Among e events → Among e b.events) → All (λ event. event.id ≤ 10 ^ 12) events
    each [] there = All-nil (λ (event : Event). event.id ≤ 10 ^ 12)
    each (x ∷ xs) there = All-cons (λ (event : Event). event.id ≤ 10 ^ 12) x xs (most x (there x (inl refl))) (each xs (λ e h. there e (inr h)))

-- no batch of a workflow has arrived without its carrier
abbrev pub HaveCarriers : List Batch → Type 0
HaveCarriers held = (b : Batch) (key : BatchKey) → Has held b → b.carrier ≡ Some key → has_key (Some key) held ≡ true

-- what stands in a set with two batches more
pub joined-has : (second : Option Batch) (b : Batch) (held : List Batch) (x : Batch) → Rise held → Rise (arrived b held) → Has (arrived_second second (arrived b held)) x → (x ≡ b) ⊎ ((second ≡ Some x) ⊎ Has held x)
joined-has None b held x order after has = by (was_or_new b held x order has)
  where
    by : (x ≡ b) ⊎ Has held x → (x ≡ b) ⊎ ((None ≡ Some x) ⊎ Has held x)
    by (inl same) = inl same
    by (inr old) = inr (inr old)
joined-has (Some s) b held x order after has = by (was_or_new s (arrived b held) x after has)
  where
    rest : (x ≡ b) ⊎ Has held x → (x ≡ b) ⊎ ((Some s ≡ Some x) ⊎ Has held x)
    rest (inl same) = inl same
    rest (inr old) = inr (inr old)

    by : (x ≡ s) ⊎ Has (arrived b held) x → (x ≡ b) ⊎ ((Some s ≡ Some x) ⊎ Has held x)
    by (inl same) = inr (inl (ap (λ (y : Batch). Some y) (sym same)))
    by (inr old) = rest (was_or_new b held x order old)

-- a message of a set arrives
module _ (all : List Batch) (sent : Message) (cell : Cell) (kept : IsKept all sent.batch.domain sent.batch.workflow cell) (message : IsMessageOf all sent) where
  abbrev domain : Name
  domain = sent.batch.domain

  abbrev workflow : Name
  workflow = sent.batch.workflow

  abbrev held : List Batch
  held = arrived_of domain workflow cell

  pub second-of : (s : Batch) → sent.second ≡ Some s → IsCarried all sent.batch s
  second-of s e = some-if (IsCarried all sent.batch) sent.second s message.second e

  second-own : (s : Batch) → sent.second ≡ Some s → is_of domain workflow s ≡ true
  second-own s e = all-among (λ (b : Batch). is_of domain workflow b ≡ true) all s kept.own (has-among all s (second-of s e).has)

  pub as-written : IsMessage sent
  as-written = record {
    back = faultless-back sent.batch (kept.sound.faultless sent.batch message.has);
    second = if-some (IsCarriedBy sent.batch) sent.second (λ s e. carried-by sent.batch s (second-of s e).carrier (passes s (kept.sound.faultless s (second-of s e).has)).carrier);
  }

  pub seconds-own : IfSome sent.second (λ s. is_of domain workflow s ≡ true)
  seconds-own = if-some (λ s. is_of domain workflow s ≡ true) sent.second second-own

  pub second-back : IfSome sent.second PointsBack
  second-back = if-some PointsBack sent.second (λ s e. faultless-back s (kept.sound.faultless s (second-of s e).has))

  module _ (is : IsCell cell) where
    -- what has arrived after it
    pub arrived-then : has_arrived sent.batch cell ≡ false → arrived_of domain workflow (arrived_at sent cell) ≡ arrived_second sent.second (arrived sent.batch held)
    unfolding arrived_at
    arrived-then fresh = by (has_arrived sent.batch cell) fresh
      where
        first : List Batch
        first = placed sent.batch cell.arrived

        own : filter (is_of domain workflow) first ≡ arrived sent.batch held
        own = filter-own domain workflow sent.batch (own-names sent.batch) cell.arrived is.ordered

        second : (o : Option Batch) → IfSome o (λ s. is_of domain workflow s ≡ true) → filter (is_of domain workflow) (placed_second o first) ≡ arrived_second o (arrived sent.batch held)
        second None mine = own
        second (Some s) mine = filter-own domain workflow s mine first (placed-in-order sent.batch cell.arrived is.ordered) ∙ ap (arrived s) own

        by : (t : Bool) → t ≡ false → arrived_of domain workflow (if t then cell else cell_with sent cell) ≡ arrived_second sent.second (arrived sent.batch held)
        by true e = absurd (true≢false e)
        by false e = second sent.second seconds-own

    -- it keeps the set
    pub still-within : IsPart (arrived_of domain workflow (arrived_at sent cell)) all
    unfolding arrived_at
    still-within = by (has_arrived sent.batch cell) refl
      where
        set : IsPart held all
        set = kept.within

        order : Rise held
        order = (set_of_workflow domain workflow cell is).ordered

        joined : IsPart (arrived_second sent.second (arrived sent.batch held)) all
        joined x has = one (joined-has sent.second sent.batch held x order (arrival_keeps_sets sent.batch held (set_of_workflow domain workflow cell is) as-written.back).ordered has)
          where
            one : (x ≡ sent.batch) ⊎ ((sent.second ≡ Some x) ⊎ Has held x) → Has all x
            one (inl same) = subst (Has all) (sym same) message.has
            one (inr (inl e)) = (second-of x e).has
            one (inr (inr old)) = kept.within x old

        by : (t : Bool) → has_arrived sent.batch cell ≡ t → IsPart (arrived_of domain workflow (arrived_at sent cell)) all
        by true e = subst (λ (t : Bool). IsPart (arrived_of domain workflow (if t then cell else cell_with sent cell)) all) (sym e) kept.within
        by false e = subst (λ l. IsPart l all) (sym (arrived-then e)) joined

    -- what has not arrived: no batch has its key
    none-of : (b : Batch) → is_of domain workflow b ≡ true → has_arrived b cell ≡ false → batch_at b.key held ≡ None
    none-of b own fresh =
        let n = names-of domain workflow b own in
        let place : place_of b ≡ record { domain = domain; workflow = workflow; key = b.key } = λ i. record { domain = n.0 i; workflow = n.1 i; key = b.key } in
        at-there domain workflow b.key cell.arrived ∙ ap (batch_there cell.arrived) (sym place) ∙ none-is (batch_there cell.arrived (place_of b)) fresh

    -- what it carries has not arrived before it, where no batch has arrived without its carrier
    module _ (carriers : HaveCarriers held) where
      second-new : has_arrived sent.batch cell ≡ false → (s : Batch) → sent.second ≡ Some s → batch_at s.key held ≡ None
      second-new fresh s e = by (batch_at s.key held) refl
        where
          by : (o : Option Batch) → batch_at s.key held ≡ o → o ≡ None
          by None at = refl
          by (Some x) at =
              let there : Has all x = kept.within x (found-has held s.key x at) in
              let key : x.key ≡ s.key = found-key held s.key x at in
              let same : Some x ≡ Some s = sym there ∙ ap (λ (k : BatchKey). batch_at k all) key ∙ (second-of s e).has in
              let one : x ≡ s = cc in
              let carried : x.carrier ≡ Some sent.batch.key = ap (λ (y : Batch). y.carrier) one ∙ (second-of s e).carrier in
              let came = carriers x sent.batch.key (found-has held s.key x at) carried in
              let never : has_key (Some sent.batch.key) held ≡ false = ap is_some (none-of sent.batch (own-names sent.batch) fresh) in
              absurd (true≢false (sym came ∙ never))

      pub may-arrive : HasRange all → MayArrive sent cell
      may-arrive range = record {
        message = as-written;
        lone = message.lone;
        own = seconds-own;
        new = λ fresh. both-all (λ b. batch_at b.key held ≡ None) sent (none-of sent.batch (own-names sent.batch) fresh) (second-new fresh);
        sound = learned_is_sound domain workflow (arrived_at sent cell) all (arrival_keeps sent cell is as-written.back second-back).ordered kept.sound still-within;
        ids = both-all HasSmallIds sent (few-ids all kept.sound range sent.batch message.has) (λ s e. few-ids all kept.sound range s (second-of s e).has);
      }

-- arrival keeps the sets of all workflows
pub arrival-keeps-sets : (all own : List Batch) (domain workflow : Name) (sent : Message) (cell : Cell) → IsCell cell → IsKept own sent.batch.domain sent.batch.workflow cell → IsMessageOf own sent
    → (is_of domain workflow sent.batch ≡ true → all ≡ own) → IsKept all domain workflow cell → IsKept all domain workflow (arrived_at sent cell)
arrival-keeps-sets all own domain workflow sent cell is mine message same kept = record { own = kept.own; sound = kept.sound; within = by (is_of domain workflow sent.batch) refl }
  where
    other-second : is_of domain workflow sent.batch ≡ false → (s : Batch) → sent.second ≡ Some s → (t : Bool) → is_of domain workflow s ≡ t → t ≡ false
    other-second never s e true same_of =
        let n = names-of sent.batch.domain sent.batch.workflow s (second-own own sent cell mine message s e) in
        let m = names-of domain workflow s same_of in
        let d : sent.batch.domain ≡ domain = sym n.0 ∙ m.0 in
        let u : sent.batch.workflow ≡ workflow = sym n.1 ∙ m.1 in
        let here : is_of domain workflow sent.batch ≡ true = subst (λ x. is_of x workflow sent.batch ≡ true) d (subst (λ y. is_of sent.batch.domain y sent.batch ≡ true) u (own-names sent.batch)) in
        absurd (true≢false (sym here ∙ never))
    other-second never s e false not_of = refl

    by : (t : Bool) → is_of domain workflow sent.batch ≡ t → IsPart (arrived_of domain workflow (arrived_at sent cell)) all
    by true same_of =
        let n = names-of domain workflow sent.batch same_of in
        subst (λ l. IsPart (arrived_of domain workflow (arrived_at sent cell)) l) (sym (same same_of))
        (subst (λ d. IsPart (arrived_of d workflow (arrived_at sent cell)) own) n.0 (subst (λ u. IsPart (arrived_of sent.batch.domain u (arrived_at sent cell)) own) n.1 (still-within own sent cell mine message is)))
    by false not_of =
        subst (λ l. IsPart l all) (sym (others_arrived_by domain workflow sent cell not_of (if-some (λ s. is_of domain workflow s ≡ false) sent.second (λ s e. other-second not_of s e (is_of domain workflow s) refl)))) kept.within

-- and what is learned stays learned, so that an author stays one
pub arrival-keeps-authors : (home : Desk) (all own : List Batch) (domain workflow : Name) (sent : Message) (cell : Cell) → IsCell cell → IsKept own sent.batch.domain sent.batch.workflow cell → IsMessageOf own sent
    → IsAuthor home all domain workflow cell → IsAuthor home all domain workflow (arrived_at sent cell)
arrival-keeps-authors home all own domain workflow sent cell is mine message author = record {
  named = author.named;
  own = λ b has writer. arrival_only_adds domain workflow sent cell is (as-written own sent cell mine message).back (second-back own sent cell mine message) b (author.own b has writer);
}
