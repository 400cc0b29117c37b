-- What a shard has written stays as it is where batches arrive, and where it writes one more.
use Rattle.std.proofs.Common.{◌≡◌, ◌<◌, ℕ, zero, suc, Bool, true, false, List, [], ◌∷◌, ◌++◌, Option, Some, None, length, slice_get, refl, sym, ◌∙◌, ap, subst, if◌then◌else◌, get_or, arith}
use Rattle.std.specs.Prelude.{IfSome, is_some, not, option_to_list, ◌&&◌}
use Rattle.std.specs.List.{AllByRecursion, cons_option, filter}
use Rattle.ndc_event.specs.Key.{key_eq}
use Rattle.ndc_event.specs.declared.batch.Batch.{Batch}
use Rattle.ndc_event.specs.declared.key.BatchKey.{BatchKey}
use Rattle.ndc_event.specs.declared.name.Name.{Name}
use Rattle.ndc_model_cells.proofs.CellLemmas.{others_arrived}
use Rattle.ndc_model_cells.proofs.PlaceLemmas.{all-placed, set_of_workflow, written_arrives}
use Rattle.ndc_model_cells.specs.Arrival.{arrived_at, cell_with, has_arrived, message_placed, placed_second}
use Rattle.ndc_model_cells.specs.Cells.{Cell, IsCell, arrived_of, carries, learned_of, message_at}
use Rattle.ndc_model_cells.specs.Allowed.{MayArrive}
use Rattle.ndc_model_cells.specs.Laws.{arrived_second}
use Rattle.ndc_model_cells.specs.Messages.{IsCarriedBy, IsMessage, IsNewTo, carrying}
use Rattle.ndc_model_cells.specs.Places.{is_at, is_of, place_lt, place_of, placed}
use Rattle.ndc_model_cells.specs.Workflow.{workflow_of}
use Rattle.ndc_model_cells.specs.Writing.{Entry, entry_message, with_batches, with_written}
use Rattle.ndc_model_cells.specs.declared.message.Message.{Message}
use Rattle.ndc_model_cells.specs.declared.place.Place.{Place}
use Rattle.ndc_model_sets.proofs.ArrivalLemmas.{arrival_keeps_sets, is_there, stays}
use Rattle.ndc_model_sets.proofs.KeyLemmas.{same-keys}
use Rattle.ndc_model_sets.proofs.LearnedLemmas.{learned-reaches, reaches-learned, reaches-more}
use Rattle.ndc_model_sets.proofs.SetLemmas.{found-key}
use Rattle.ndc_model_sets.specs.Learned.{IsPart, ReachesTop, has_key, learned}
use Rattle.ndc_model_sets.specs.Learned.ReachesTop.{top, up}
use Rattle.ndc_model_sets.specs.Paths.{is_wanted, path_to, versions_of}
use Rattle.ndc_model_sets.specs.Sets.{Has, IsSet, PointsBack, arrived, batch_at, earlier}
use Rattle.ndc_shard.proofs.StayLemmas.{key-stays, new-own}
use Rattle.ndc_shard.specs.Sent.{AreSent, HasCarrier, IsSent, is_lone, messages_at}
use Rattle.ndc_shard.specs.Shards.{having_written}
use Rattle.ndc_shard_waiting.proofs.KeptLemmas.{both-back}
use Rattle.ndc_shard_waiting.proofs.LearnLemmas.{with-set}
use Rattle.ndc_shard_waiting.proofs.OrderLemmas.{all-more}
use Rattle.ndc_shard_waiting.specs.Learning.{with_message}
use Rattle.ndc_shard_workflows.proofs.BehindLemmas.{second-other}
use Rattle.ndc_shard_workflows.proofs.CellLemmas.{own-names}
use Rattle.ndc_shard_workflows.proofs.OwnLemmas.{all-filtered}
use Rattle.ndc_shard_workflows.specs.Admitting.{IsLone}
use Rattle.ndc_shard_workflows.proofs.PlaceLemmas.{place-is}
use Rattle.ndc_shard_workflows.proofs.SameLemmas.{names-of}
use Rattle.ndc_shard_workflows.specs.Messages.{own_message_of}
use Rattle.ndc_shard_workflows.specs.Writing.{MayBeWritten}
use Rattle.ndc_state.specs.Replay.{history_of}

-- the message at a place, by what has arrived of its workflow
pub at-place : (cell : Cell) (place : Place) → own_message_of (arrived_of place.domain place.workflow cell) (batch_at place.key (learned_of place.domain place.workflow cell)) ≡ message_at cell place
at-place cell place = place-is cell place (workflow_of place.domain place.workflow cell) refl

-- a batch that no other one carries is one
pub lone-some : (o : Option Batch) → is_lone o ≡ true → is_some o ≡ true
lone-some None alone = alone
lone-some (Some b) alone = refl

-- what was there is there with a message more
pub part-more-of : (first : Batch) (second : Option Batch) (all : List Batch) → IsSet all → PointsBack first → IsPart all (arrived_second second (arrived first all))
part-more-of first None all set back = stays first all set.ordered
part-more-of first (Some s) all set back = λ b has. stays s (arrived first all) (arrival_keeps_sets first all set back).ordered b (stays first all set.ordered b has)

-- the batch of a message is there after it
pub first-there : (first : Batch) (second : Option Batch) (all : List Batch) → IsSet all → PointsBack first → batch_at first.key all ≡ None → Has (arrived_second second (arrived first all)) first
first-there first None all set back fresh = is_there first all set.ordered fresh
first-there first (Some s) all set back fresh = stays s (arrived first all) (arrival_keeps_sets first all set back).ordered first (is_there first all set.ordered fresh)

-- a batch and the one that it carries arrive in a cell, where neither was
module _ (old new : Cell) (sent : Message) (list : new.arrived ≡ placed_second sent.second (placed sent.batch old.arrived)) (is : IsCell old) (message : IsMessage sent) (lone : sent.batch.carrier ≡ None)
    (own : IfSome sent.second (λ s. is_of sent.batch.domain sent.batch.workflow s ≡ true)) (fresh : IsNewTo (arrived_of sent.batch.domain sent.batch.workflow old) sent) where
  abbrev entry : Entry
  entry = record { batch = sent.batch; second = sent.second }

  back : AllByRecursion PointsBack (sent.batch ∷ option_to_list sent.second)
  back = both-back sent message

  -- they arrive in their workflow
  here : (domain workflow : Name) → is_of domain workflow sent.batch ≡ true → arrived_of domain workflow new ≡ with_message sent (arrived_of domain workflow old)
  here domain workflow of =
      ap (filter (is_of domain workflow)) list ∙ written_arrives domain workflow entry old is message.back of (second-of sent.second own)
    where
      second-of : (o : Option Batch) → IfSome o (λ s. is_of sent.batch.domain sent.batch.workflow s ≡ true) → IfSome o (λ s. is_of domain workflow s ≡ true)
      second-of None e = tt
      second-of (Some s) e = subst (λ (n : Name). is_of domain n s ≡ true) (names-of domain workflow sent.batch of).1 (subst (λ (n : Name). is_of n sent.batch.workflow s ≡ true) (names-of domain workflow sent.batch of).0 e)

  -- and in no other one
  there : (domain workflow : Name) → is_of domain workflow sent.batch ≡ false → arrived_of domain workflow new ≡ arrived_of domain workflow old
  there domain workflow other =
      ap (filter (is_of domain workflow)) list ∙ others_arrived domain workflow entry old other (second-other domain workflow sent.batch sent.second other own)

  -- a message that was there is the same
  place-stays : (place : Place) → IsSent old place → message_at new place ≡ message_at old place
  place-stays place sent_is = by (is_of place.domain place.workflow sent.batch) refl
    where
      by : (t : Bool) → is_of place.domain place.workflow sent.batch ≡ t → message_at new place ≡ message_at old place
      by true of =
          let names = names-of place.domain place.workflow sent.batch of in
          let new_to : IsNewTo (arrived_of place.domain place.workflow old) sent =
          subst (λ (n : Name). IsNewTo (arrived_of place.domain n old) sent) names.1 (subst (λ (n : Name). IsNewTo (arrived_of n sent.batch.workflow old) sent) names.0 fresh) in
          sym (at-place new place) ∙ ap (λ (bs : List Batch). own_message_of bs (batch_at place.key (learned bs))) (here place.domain place.workflow of)
          ∙ key-stays (arrived_of place.domain place.workflow old) (set_of_workflow place.domain place.workflow old is) sent message lone new_to place.key (ap is_some (at-place old place) ∙ sent_is) ∙ at-place old place
      by false other =
          sym (at-place new place) ∙ ap (λ (bs : List Batch). own_message_of bs (batch_at place.key (learned bs))) (there place.domain place.workflow other) ∙ at-place old place

  pub messages-stay : (places : List Place) → AllByRecursion (IsSent old) places → messages_at places new ≡ messages_at places old
  messages-stay [] all = refl
  messages-stay (place ∷ places) all =
      ap (λ (o : Option Message). cons_option o (messages_at places new)) (place-stays place all.0) ∙ ap (λ (ms : List Message). cons_option (message_at old place) ms) (messages-stay places all.1)

  pub sent-stay : (places : List Place) → AllByRecursion (IsSent old) places → AllByRecursion (IsSent new) places
  sent-stay [] all = tt
  sent-stay (place ∷ places) all = (ap is_some (place-stays place all.0) ∙ all.0, sent-stay places all.1)

  -- what has arrived of a workflow has arrived still
  lone-there : (domain workflow : Name) (key : BatchKey) → is_lone (batch_at key (arrived_of domain workflow old)) ≡ true → is_lone (batch_at key (arrived_of domain workflow new)) ≡ true
  lone-there domain workflow key has = by (is_of domain workflow sent.batch) refl
    where
      more : (o : Option Batch) → batch_at key (arrived_of domain workflow old) ≡ o → is_lone o ≡ true → is_lone (batch_at key (with_message sent (arrived_of domain workflow old))) ≡ true
      more None at some = absurd (cc)
      more (Some b) at some =
          let named : b.key ≡ key = found-key (arrived_of domain workflow old) key b at in
          let has_b : Has (arrived_of domain workflow old) b = ap (λ (k : BatchKey). batch_at k (arrived_of domain workflow old)) named ∙ at in
          ap (λ (k : BatchKey). is_lone (batch_at k (with_message sent (arrived_of domain workflow old)))) (sym named) ∙ ap is_lone (part-more-of sent.batch sent.second (arrived_of domain workflow old) (set_of_workflow domain workflow old is) message.back b has_b) ∙ some

      by : (t : Bool) → is_of domain workflow sent.batch ≡ t → is_lone (batch_at key (arrived_of domain workflow new)) ≡ true
      by true of = ap (λ bs. is_lone (batch_at key bs)) (here domain workflow of) ∙ more (batch_at key (arrived_of domain workflow old)) refl has
      by false other = ap (λ bs. is_lone (batch_at key bs)) (there domain workflow other) ∙ has

  -- no batch has arrived without its carrier
  carrier-stays : (b : Batch) → HasCarrier old b → HasCarrier new b
  carrier-stays b has = by b.carrier has
    where
      by : (o : Option BatchKey) → IfSome o (λ key. is_lone (batch_at key (arrived_of b.domain b.workflow old)) ≡ true) → IfSome o (λ key. is_lone (batch_at key (arrived_of b.domain b.workflow new)) ≡ true)
      by None h = tt
      by (Some key) h = lone-there b.domain b.workflow key h

  first-carrier : HasCarrier new sent.batch
  first-carrier = subst (λ (o : Option BatchKey). IfSome o (λ key. is_lone (batch_at key (arrived_of sent.batch.domain sent.batch.workflow new)) ≡ true)) (sym lone) tt

  second-carrier : (s : Batch) → IsCarriedBy sent.batch s → is_of sent.batch.domain sent.batch.workflow s ≡ true → HasCarrier new s
  second-carrier s carried of =
      let names = names-of sent.batch.domain sent.batch.workflow s of in
      let all = arrived_of sent.batch.domain sent.batch.workflow old in
      let first : Has (with_message sent all) sent.batch = first-there sent.batch sent.second all (set_of_workflow sent.batch.domain sent.batch.workflow old is) message.back fresh.0 in
      let has : is_lone (batch_at sent.batch.key (arrived_of sent.batch.domain sent.batch.workflow new)) ≡ true =
      ap (λ bs. is_lone (batch_at sent.batch.key bs)) (here sent.batch.domain sent.batch.workflow (own-names sent.batch)) ∙ ap is_lone first ∙ ap (λ (o : Option BatchKey). not (is_some o)) lone in
      subst (λ (o : Option BatchKey). IfSome o (λ key. is_lone (batch_at key (arrived_of s.domain s.workflow new)) ≡ true)) (sym carried.carrier)
      (subst (λ (n : Name). is_lone (batch_at sent.batch.key (arrived_of n s.workflow new)) ≡ true) (sym names.0)
      (subst (λ (n : Name). is_lone (batch_at sent.batch.key (arrived_of sent.batch.domain n new)) ≡ true) (sym names.1) has))

  pub carriers-stay : AllByRecursion (HasCarrier old) old.arrived → AllByRecursion (HasCarrier new) new.arrived
  carriers-stay all = subst (AllByRecursion (HasCarrier new)) (sym list) (both sent.second message.second own)
    where
      first : AllByRecursion (HasCarrier new) (placed sent.batch old.arrived)
      first = all-placed (HasCarrier new) sent.batch old.arrived first-carrier (all-more (HasCarrier old) (HasCarrier new) carrier-stays old.arrived all)

      both : (o : Option Batch) → IfSome o (IsCarriedBy sent.batch) → IfSome o (λ s. is_of sent.batch.domain sent.batch.workflow s ≡ true) → AllByRecursion (HasCarrier new) (placed_second o (placed sent.batch old.arrived))
      both None carried of = first
      both (Some s) carried of = all-placed (HasCarrier new) s (placed sent.batch old.arrived) (second-carrier s carried of) first

  pub are-sent : (places : List Place) → AreSent places old → AllByRecursion IsLone new.waiting → AreSent places new
  are-sent places are waits = record { sent = sent-stay places are.sent; carried = carriers-stay are.carried; lone = waits }

  -- nothing that has arrived is carried by the batch that was not there
  none-carried-in : (bs : List Batch) → AllByRecursion (HasCarrier old) bs → AllByRecursion (λ (o : Batch). carries sent.batch o ≡ false) (filter (is_of sent.batch.domain sent.batch.workflow) bs)
  none-carried-in [] all = tt
  none-carried-in (o ∷ bs) all = by (is_of sent.batch.domain sent.batch.workflow o) refl (none-carried-in bs all.1)
    where
      not-by : is_of sent.batch.domain sent.batch.workflow o ≡ true → (c : Option BatchKey) → o.carrier ≡ c → IfSome c (λ key. is_lone (batch_at key (arrived_of o.domain o.workflow old)) ≡ true) → carries sent.batch o ≡ false
      not-by of None e has = ap (λ (x : Option BatchKey). (is_of sent.batch.domain sent.batch.workflow) o && is_wanted x sent.batch) e ∙ and-not ((is_of sent.batch.domain sent.batch.workflow) o)
        where
          and-not : (t : Bool) → (t && false) ≡ false
          and-not true = refl
          and-not false = refl
      not-by of (Some key) e has = ap (λ (x : Option BatchKey). (is_of sent.batch.domain sent.batch.workflow) o && is_wanted x sent.batch) e ∙ wanted (key_eq sent.batch.key key) refl
        where
          wanted : (t : Bool) → key_eq sent.batch.key key ≡ t → ((is_of sent.batch.domain sent.batch.workflow) o && key_eq sent.batch.key key) ≡ false
          wanted true same =
              let names = names-of sent.batch.domain sent.batch.workflow o of in
              let there_is : has_key (Some key) (arrived_of sent.batch.domain sent.batch.workflow old) ≡ true =
              subst (λ (n : Name). has_key (Some key) (arrived_of sent.batch.domain n old) ≡ true) names.1 (subst (λ (n : Name). has_key (Some key) (arrived_of n o.workflow old) ≡ true) names.0 (lone-some (batch_at key (arrived_of o.domain o.workflow old)) has)) in
              let clash : true ≡ false =
              sym there_is ∙ ap (λ (k : BatchKey). has_key (Some k) (arrived_of sent.batch.domain sent.batch.workflow old)) (sym (same-keys sent.batch.key key same)) ∙ ap is_some fresh.0 in
              absurd (cc)
          wanted false apart = ap (λ (t : Bool). (is_of sent.batch.domain sent.batch.workflow) o && t) apart ∙ and-not ((is_of sent.batch.domain sent.batch.workflow) o)
            where
              and-not : (t : Bool) → (t && false) ≡ false
              and-not true = refl
              and-not false = refl

      by : (t : Bool) → (is_of sent.batch.domain sent.batch.workflow) o ≡ t → AllByRecursion (λ (x : Batch). carries sent.batch x ≡ false) (filter (is_of sent.batch.domain sent.batch.workflow) bs) → AllByRecursion (λ (x : Batch). carries sent.batch x ≡ false) (filter (is_of sent.batch.domain sent.batch.workflow) (o ∷ bs))
      by true e rest = rw e (not-by e o.carrier refl all.0, rest)
      by false e rest = rw e rest

  -- the batch is learned where its earlier key is
  is-learned : has_key (earlier sent.batch) (learned_of sent.batch.domain sent.batch.workflow old) ≡ true → Has (learned (with_message sent (arrived_of sent.batch.domain sent.batch.workflow old))) sent.batch
  is-learned reached = reaches-learned (with_message sent (arrived_of sent.batch.domain sent.batch.workflow old)) sent.batch (with-set sent (arrived_of sent.batch.domain sent.batch.workflow old) (set_of_workflow sent.batch.domain sent.batch.workflow old is) back) (by (earlier sent.batch) refl reached)
    where
      has : Has (with_message sent (arrived_of sent.batch.domain sent.batch.workflow old)) sent.batch
      has = first-there sent.batch sent.second (arrived_of sent.batch.domain sent.batch.workflow old) (set_of_workflow sent.batch.domain sent.batch.workflow old is) message.back fresh.0

      more : IsPart (arrived_of sent.batch.domain sent.batch.workflow old) (with_message sent (arrived_of sent.batch.domain sent.batch.workflow old))
      more = part-more-of sent.batch sent.second (arrived_of sent.batch.domain sent.batch.workflow old) (set_of_workflow sent.batch.domain sent.batch.workflow old is) message.back

      from : (key : BatchKey) → earlier sent.batch ≡ Some key → (o : Option Batch) → batch_at key (learned (arrived_of sent.batch.domain sent.batch.workflow old)) ≡ o → is_some o ≡ true → ReachesTop (with_message sent (arrived_of sent.batch.domain sent.batch.workflow old)) sent.batch
      from key e None at some = absurd (cc)
      from key e (Some before) at some =
          let named : before.key ≡ key = found-key (learned (arrived_of sent.batch.domain sent.batch.workflow old)) key before at in
          let has_before : Has (learned (arrived_of sent.batch.domain sent.batch.workflow old)) before = ap (λ (k : BatchKey). batch_at k (learned (arrived_of sent.batch.domain sent.batch.workflow old))) named ∙ at in
          let reaches : ReachesTop (with_message sent (arrived_of sent.batch.domain sent.batch.workflow old)) before = reaches-more (arrived_of sent.batch.domain sent.batch.workflow old) (with_message sent (arrived_of sent.batch.domain sent.batch.workflow old)) before more (learned-reaches (arrived_of sent.batch.domain sent.batch.workflow old) before (set_of_workflow sent.batch.domain sent.batch.workflow old is) has_before) in
          let there_is : batch_at key (with_message sent (arrived_of sent.batch.domain sent.batch.workflow old)) ≡ Some before = ap (λ (k : BatchKey). batch_at k (with_message sent (arrived_of sent.batch.domain sent.batch.workflow old))) (sym named) ∙ reached-has reaches in
          up sent.batch before key has e there_is reaches
        where
          reached-has : ReachesTop (with_message sent (arrived_of sent.batch.domain sent.batch.workflow old)) before → Has (with_message sent (arrived_of sent.batch.domain sent.batch.workflow old)) before
          reached-has (top b h e) = h
          reached-has (up b x k h e f r) = h

      by : (o : Option BatchKey) → earlier sent.batch ≡ o → has_key o (learned (arrived_of sent.batch.domain sent.batch.workflow old)) ≡ true → ReachesTop (with_message sent (arrived_of sent.batch.domain sent.batch.workflow old)) sent.batch
      by None e h = top sent.batch has e
      by (Some key) e h = from key e (batch_at key (learned (arrived_of sent.batch.domain sent.batch.workflow old))) refl h

  -- the message of what is written is there
  pub written-there : has_key (earlier sent.batch) (learned_of sent.batch.domain sent.batch.workflow old) ≡ true → AllByRecursion (HasCarrier old) old.arrived
      → message_at new (place_of sent.batch) ≡ Some (entry_message entry new)
  written-there reached carried =
      let d = sent.batch.domain in
      let w = sent.batch.workflow in
      let all = arrived_of d w old in
      sym (at-place new (place_of sent.batch)) ∙ ap (λ (bs : List Batch). own_message_of bs (batch_at sent.batch.key (learned bs))) (here d w (own-names sent.batch))
      ∙ new-own all (set_of_workflow d w old is) sent message lone fresh (is-learned reached) own (none-carried-in old.arrived carried)
      ∙ ap (λ (bs : List Batch). Some (record { batch = sent.batch; history = versions_of (history_of (path_to sent.batch.key (learned bs))); second = sent.second })) (sym (here d w (own-names sent.batch)))

-- places of which each has a message: their count, and what stands at one of them
pub many-sent : (cell : Cell) (places : List Place) → AllByRecursion (IsSent cell) places → length places ≡ length (messages_at places cell)
many-sent cell [] all = refl
many-sent cell (place ∷ places) all = by (message_at cell place) all.0 (many-sent cell places all.1)
  where
    by : (o : Option Message) → is_some o ≡ true → length places ≡ length (messages_at places cell) → suc (length places) ≡ length (cons_option o (messages_at places cell))
    by None some rest = absurd (cc)
    by (Some sent) some rest = ap suc rest

pub sent-at : (cell : Cell) (places : List Place) → AllByRecursion (IsSent cell) places → (i : ℕ) (place : Place) → i < length places → place ≡ get_or places i place → slice_get (messages_at places cell) i ≡ message_at cell place
sent-at cell [] all i place below at = absurd (omega (arith, below))
sent-at cell (first ∷ places) all zero place below at = by (message_at cell first) refl all.0
  where
    by : (o : Option Message) → message_at cell first ≡ o → is_some o ≡ true → slice_get (cons_option o (messages_at places cell)) 0 ≡ message_at cell place
    by None e some = absurd (cc)
    by (Some sent) e some = sym e ∙ ap (message_at cell) (sym at)
sent-at cell (first ∷ places) all (suc i) place below at = by (message_at cell first) all.0 (sent-at cell places all.1 i place (omega (arith, below)) at)
  where
    by : (o : Option Message) → is_some o ≡ true → slice_get (messages_at places cell) i ≡ message_at cell place → slice_get (cons_option o (messages_at places cell)) (suc i) ≡ message_at cell place
    by None some rest = absurd (cc)
    by (Some sent) some rest = rest

pub sent-there : (cell : Cell) (places : List Place) → AllByRecursion (IsSent cell) places → (i : ℕ) (place : Place) → i < length places → place ≡ get_or places i place → message_at cell place ≡ None → ⊥
sent-there cell [] all i place below at none = absurd (omega (arith, below))
sent-there cell (first ∷ places) all zero place below at none =
    let clash : true ≡ false = sym (subst (IsSent cell) (sym at) all.0) ∙ ap is_some none in absurd (cc)
sent-there cell (first ∷ places) all (suc i) place below at none = sent-there cell places all.1 i place (omega (arith, below)) at none

-- nothing was written
pub none-sent : (cell : Cell) → cell.arrived ≡ [] → cell.waiting ≡ [] → AreSent [] cell
none-sent cell none waits = record { sent = tt; carried = subst (AllByRecursion (HasCarrier cell)) (sym none) tt; lone = subst (AllByRecursion IsLone) (sym waits) tt }

-- a message goes to the place of its batch
placed-lone : (new : Message) (messages : List Message) → IsLone new → AllByRecursion IsLone messages → AllByRecursion IsLone (message_placed new messages)
placed-lone new [] lone all = (lone, tt)
placed-lone new (sent ∷ messages) lone all = by (placed-lone new messages lone all.1) (place_lt (place_of new.batch) (place_of sent.batch)) (is_at (place_of new.batch) sent.batch)
  where
    by : AllByRecursion IsLone (message_placed new messages) → (t u : Bool) → AllByRecursion IsLone (if t then new ∷ sent ∷ messages else if u then sent ∷ messages else sent ∷ message_placed new messages)
    by rest true u = (lone, all)
    by rest false true = all
    by rest false false = (all.0, rest)

-- a message arrives, and may be known
module _ (sent : Message) (old : Cell) (places : List Place) (is : IsCell old) (may : MayArrive sent old) where
  pub arrived-sent : AreSent places old → AreSent places (arrived_at sent old)
  unfolding arrived_at
  arrived-sent are = by (has_arrived sent.batch old) refl
    where
      by : (t : Bool) → has_arrived sent.batch old ≡ t → AreSent places (if t then old else cell_with sent old)
      by true known = are
      by false new = are-sent old (cell_with sent old) sent refl is may.message may.lone may.own (may.new new) places are
          (all-filtered IsLone _ (message_placed sent old.waiting) (placed-lone sent old.waiting may.lone are.lone))

  pub arrived-messages : AreSent places old → messages_at places (arrived_at sent old) ≡ messages_at places old
  unfolding arrived_at
  arrived-messages are = by (has_arrived sent.batch old) refl
    where
      by : (t : Bool) → has_arrived sent.batch old ≡ t → messages_at places (if t then old else cell_with sent old) ≡ messages_at places old
      by true known = refl
      by false new = messages-stay old (cell_with sent old) sent refl is may.message may.lone may.own (may.new new) places are.sent

-- an entry is written whose batch none carries
module _ (entry : Entry) (old : Cell) (places : List Place) (is : IsCell old) (lone : entry.batch.carrier ≡ None)
    (may : MayBeWritten (carrying entry.batch entry.second) (workflow_of entry.batch.domain entry.batch.workflow old)) (are : AreSent places old) where
  abbrev sent : Message
  sent = carrying entry.batch entry.second

  there-now : message_at (with_batches entry old) (place_of entry.batch) ≡ Some (entry_message entry (with_batches entry old))
  there-now = written-there old (with_batches entry old) sent refl is may.message lone may.may.own may.may.fresh may.may.reached are.carried

  pub written-messages : messages_at (places ++ place_of entry.batch ∷ []) (with_batches entry old) ≡ messages_at places old ++ entry_message entry (with_batches entry old) ∷ []
  written-messages =
      joined places (place_of entry.batch) (entry_message entry (with_batches entry old)) there-now
      ∙ ap (λ (ms : List Message). ms ++ entry_message entry (with_batches entry old) ∷ []) (messages-stay old (with_batches entry old) sent refl is may.message lone may.may.own may.may.fresh places are.sent)
    where
      joined : (ps : List Place) (place : Place) (m : Message) → message_at (with_batches entry old) place ≡ Some m
          → messages_at (ps ++ place ∷ []) (with_batches entry old) ≡ messages_at ps (with_batches entry old) ++ m ∷ []
      joined [] place m e = ap (λ (o : Option Message). cons_option o []) e
      joined (p ∷ ps) place m e =
          ap (λ (ms : List Message). cons_option (message_at (with_batches entry old) p) ms) (joined ps place m e) ∙ behind (message_at (with_batches entry old) p)
        where
          behind : (o : Option Message) → cons_option o (messages_at ps (with_batches entry old) ++ m ∷ []) ≡ cons_option o (messages_at ps (with_batches entry old)) ++ m ∷ []
          behind None = refl
          behind (Some first) = refl

  pub written-sent : AreSent (places ++ place_of entry.batch ∷ []) (with_batches entry old)
  written-sent =
      let stay = are-sent old (with_batches entry old) sent refl is may.message lone may.may.own may.may.fresh places are are.lone in
      record { sent = more places stay.sent; carried = stay.carried; lone = stay.lone }
    where
      more : (ps : List Place) → AllByRecursion (IsSent (with_batches entry old)) ps → AllByRecursion (IsSent (with_batches entry old)) (ps ++ place_of entry.batch ∷ [])
      more [] all = (ap is_some there-now, tt)
      more (p ∷ ps) all = (all.0, more ps all.1)

-- the same of a shard, which is seen as its workflows with what they have written
module _ (entry : Entry) (old new : Cell) (places behind : List Place) (messages : List Message) (shard : Cell) (seen : having_written messages old ≡ shard) (is : IsCell old) (lone : entry.batch.carrier ≡ None)
    (may : MayBeWritten (carrying entry.batch entry.second) (workflow_of entry.batch.domain entry.batch.workflow shard)) (are : AreSent places old)
    (cell_is : new ≡ with_batches entry old) (places_are : behind ≡ places ++ place_of entry.batch ∷ []) where
  own-may : MayBeWritten (carrying entry.batch entry.second) (workflow_of entry.batch.domain entry.batch.workflow old)
  own-may = subst (λ (c : Cell). MayBeWritten (carrying entry.batch entry.second) (workflow_of entry.batch.domain entry.batch.workflow c)) (sym seen) may

  pub behind-write : AreSent behind new
  behind-write = subst (λ (ps : List Place). AreSent ps new) (sym places_are) (subst (AreSent (places ++ place_of entry.batch ∷ [])) (sym cell_is) (written-sent entry old places is lone own-may are))

module _ (entry : Entry) (old new : Cell) (places behind : List Place) (shard : Cell) (seen : having_written (messages_at places old) old ≡ shard) (is : IsCell old) (lone : entry.batch.carrier ≡ None)
    (may : MayBeWritten (carrying entry.batch entry.second) (workflow_of entry.batch.domain entry.batch.workflow shard)) (are : AreSent places old)
    (cell_is : new ≡ with_batches entry old) (places_are : behind ≡ places ++ place_of entry.batch ∷ []) where
  pub write-messages : having_written (messages_at behind new) new ≡ with_written entry shard
  write-messages =
      ap (λ (ps : List Place). having_written (messages_at ps new) new) places_are ∙ ap (λ (c : Cell). having_written (messages_at (places ++ place_of entry.batch ∷ []) c) c) cell_is
      ∙ ap (λ (ms : List Message). having_written ms (with_batches entry old))
      (written-messages entry old places is lone (own-may entry old new places behind (messages_at places old) shard seen is lone may are cell_is places_are) are)
      ∙ ap (with_written entry) seen
