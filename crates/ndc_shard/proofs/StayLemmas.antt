-- The own message of a learned batch stays where a message arrives that carries nothing of it.
use Rattle.std.proofs.Common.{◌≡◌, Bool, true, false, List, [], ◌∷◌, Option, Some, None, refl, sym, ◌∙◌, ap, if◌then◌else◌, find, arith}
use Rattle.std.specs.Prelude.{IfSome, is_some, option_to_list, ◌&&◌}
use Rattle.std.specs.List.{AllByRecursion}
use Rattle.std.specs.Option.{option_or}
use Rattle.ndc_event.specs.Key.{key_eq, key_lt}
use Rattle.ndc_event.specs.declared.batch.Batch.{Batch}
use Rattle.ndc_event.specs.declared.key.BatchKey.{BatchKey}
use Rattle.ndc_model_cells.specs.Cells.{both, carries, message_of, own_message}
use Rattle.ndc_model_cells.specs.Laws.{arrived_second}
use Rattle.ndc_model_cells.specs.Messages.{IsCarriedBy, IsMessage, IsNewTo}
use Rattle.ndc_model_cells.specs.Places.{is_of}
use Rattle.ndc_model_cells.specs.Writing.{key_behind}
use Rattle.ndc_model_cells.specs.declared.message.Message.{Message}
use Rattle.ndc_model_sets.proofs.ArrivalLemmas.{arrival_keeps_sets, only_adds}
use Rattle.ndc_model_sets.proofs.KeyLemmas.{key_eq-self, same-keys}
use Rattle.ndc_model_sets.proofs.LearnedLemmas.{learned-reaches, learned_closed, reaches-has}
use Rattle.ndc_model_sets.proofs.PathLemmas.{part-path}
use Rattle.ndc_model_sets.proofs.SetLemmas.{found-key}
use Rattle.ndc_model_sets.specs.Learned.{IsPart, learned}
use Rattle.ndc_model_sets.specs.Paths.{is_wanted, path_to, versions_of}
use Rattle.ndc_model_sets.specs.Sets.{Has, IsSet, PointsBack, arrived, batch_at}
use Rattle.ndc_shard_waiting.specs.Learning.{with_message}
use Rattle.ndc_shard_waiting.proofs.KeptLemmas.{both-back}
use Rattle.ndc_shard_waiting.proofs.LearnLemmas.{with-set}
use Rattle.ndc_shard_waiting.proofs.OrderLemmas.{arrived-at}
use Rattle.ndc_shard_workflows.specs.Messages.{own_message_of}
use Rattle.ndc_state.specs.Replay.{history_of}

-- what is found stays found where a batch arrives that is not it
find-arrived : (p : Batch → Bool) (new : Batch) (bs : List Batch) → p new ≡ false → find p (arrived new bs) ≡ find p bs
find-arrived p new [] never = ap (λ (t : Bool). if t then Some new else None) never
find-arrived p new (b ∷ bs) never = by (key_lt new.key b.key) (key_eq new.key b.key) refl refl (find-arrived p new bs never)
  where
    by : (t u : Bool) → key_lt new.key b.key ≡ t → key_eq new.key b.key ≡ u → find p (arrived new bs) ≡ find p bs → find p (arrived new (b ∷ bs)) ≡ find p (b ∷ bs)
    by true u e f rest = rw e (ap (λ (t : Bool). if t then Some new else find p (b ∷ bs)) never)
    by false true e f rest = rw (e, f) refl
    by false false e f rest = rw (e, f) (ap (λ (o : Option Batch). if p b then Some b else o) rest)

-- the batch is found where nothing was, and its key is new
find-new : (p : Batch → Bool) (new : Batch) (bs : List Batch) → p new ≡ true → find p bs ≡ None → batch_at new.key bs ≡ None → find p (arrived new bs) ≡ Some new
find-new p new [] holds none fresh = ap (λ (t : Bool). if t then Some new else None) holds
find-new p new (b ∷ bs) holds none fresh = by (key_lt new.key b.key) (key_eq new.key b.key) (p b) refl refl refl (find-new p new bs holds)
  where
    by : (t u v : Bool) → key_lt new.key b.key ≡ t → key_eq new.key b.key ≡ u → p b ≡ v → (find p bs ≡ None → batch_at new.key bs ≡ None → find p (arrived new bs) ≡ Some new) → find p (arrived new (b ∷ bs)) ≡ Some new
    by true u v e f g rest = rw e (ap (λ (t : Bool). if t then Some new else find p (b ∷ bs)) holds)
    by false true v e f g rest =
        let same : new.key ≡ b.key = same-keys new.key b.key f in
        let here : key_eq b.key new.key ≡ true = ap (key_eq b.key) same ∙ key_eq-self b.key in
        let clash : Some b ≡ None = sym (ap (λ (t : Bool). if t then Some b else batch_at new.key bs) here) ∙ fresh in
        absurd (cc)
    by false false true e f g rest = let clash : Some b ≡ None = sym (ap (λ (t : Bool). if t then Some b else find p bs) g) ∙ none in absurd (cc)
    by false false false e f g rest =
        rw (e, f) (ap (λ (t : Bool). if t then Some b else find p (arrived new bs)) g
        ∙ rest (sym (ap (λ (t : Bool). if t then Some b else find p bs) g) ∙ none) (tail (key_eq b.key new.key) refl))
      where
        tail : (t : Bool) → key_eq b.key new.key ≡ t → batch_at new.key bs ≡ None
        tail true h = let clash : Some b ≡ None = sym (ap (λ (t : Bool). if t then Some b else batch_at new.key bs) h) ∙ fresh in absurd (cc)
        tail false h = sym (ap (λ (t : Bool). if t then Some b else batch_at new.key bs) h) ∙ fresh

-- neither holds
and-no : (t : Bool) → (t && false) ≡ false
and-no true = refl
and-no false = refl

-- a batch that nothing carries is carried by none
not-carried : (b other : Batch) → other.carrier ≡ None → carries b other ≡ false
not-carried b other none = ap (λ (o : Option BatchKey). is_of b.domain b.workflow other && is_wanted o b) none ∙ and-no (is_of b.domain b.workflow other)

-- a learned batch has arrived
learned-has : (all : List Batch) → IsSet all → (b : Batch) → Has (learned all) b → Has all b
learned-has all set b has = reaches-has all b (learned-reaches all b set has)

-- what is carried by a batch that is there
module _ (all : List Batch) (set : IsSet all) (b : Batch) (has : Has all b) where
  -- nothing is carried by a batch but what names it
  second-not : (first second : Batch) → IsCarriedBy first second → batch_at first.key all ≡ None → carries b second ≡ false
  second-not first second carried fresh = by (key_eq b.key first.key) refl
    where
      named : carries b second ≡ (is_of b.domain b.workflow second && key_eq b.key first.key)
      named = ap (λ (o : Option BatchKey). is_of b.domain b.workflow second && is_wanted o b) carried.carrier

      by : (t : Bool) → key_eq b.key first.key ≡ t → carries b second ≡ false
      by true same =
          let key : b.key ≡ first.key = same-keys b.key first.key same in
          let clash : Some b ≡ None = sym has ∙ ap (λ (k : BatchKey). batch_at k all) key ∙ fresh in
          absurd (cc)
      by false apart = named ∙ ap (λ (t : Bool). is_of b.domain b.workflow second && t) apart ∙ and-no (is_of b.domain b.workflow second)

  -- what it carries stays, where a message arrives
  carried-stays : (first : Batch) (second : Option Batch) → IfSome second (IsCarriedBy first) → first.carrier ≡ None → batch_at first.key all ≡ None
      → find (carries b) (arrived_second second (arrived first all)) ≡ find (carries b) all
  carried-stays first None carried lone fresh = find-arrived (carries b) first all (not-carried b first lone)
  carried-stays first (Some s) carried lone fresh =
      find-arrived (carries b) s (arrived first all) (second-not first s carried fresh) ∙ find-arrived (carries b) first all (not-carried b first lone)

module _ (all : List Batch) (set : IsSet all) (new : Message) (message : IsMessage new) (lone : new.batch.carrier ≡ None) (fresh : IsNewTo all new) where
  back : AllByRecursion PointsBack (both new)
  back = both-back new message

  then-set : IsSet (with_message new all)
  then-set = with-set new all set back

  -- what is learned stays learned
  learned-stays : (o : Option Batch) → AllByRecursion PointsBack (option_to_list o) → IsPart (learned all) (learned (arrived_second o (arrived new.batch all)))
  learned-stays None second = only_adds all new.batch set message.back
  learned-stays (Some s) second = λ b has. only_adds (arrived new.batch all) s (arrival_keeps_sets new.batch all set message.back) second.0 b (only_adds all new.batch set message.back b has)

  learned-part : IsPart (learned all) (learned (with_message new all))
  learned-part = learned-stays new.second back.1

  -- the message of a learned batch that none carries
  own-stays : (b : Batch) → Has (learned all) b → own_message (learned (with_message new all)) (with_message new all) b ≡ own_message (learned all) all b
  own-stays b has =
      let before = learned_closed all set in
      let after = learned_closed (with_message new all) then-set in
      let path : path_to b.key (learned all) ≡ path_to b.key (learned (with_message new all)) =
      part-path (learned all) (learned (with_message new all)) b before.0 before.1 after.0 after.1 learned-part has in
      let second : find (carries b) (with_message new all) ≡ find (carries b) all = carried-stays all set b (learned-has all set b has) new.batch new.second message.second lone fresh.0 in
      let again : path_to b.key (learned (with_message new all)) ≡ path_to b.key (learned all) = sym path in
      λ i. if is_some b.carrier then None else Some (record { batch = b; history = versions_of (history_of (again i)); second = second i })

  -- the message of a key
  pub key-stays : (key : BatchKey) → is_some (own_message_of all (batch_at key (learned all))) ≡ true
      → own_message_of (with_message new all) (batch_at key (learned (with_message new all))) ≡ own_message_of all (batch_at key (learned all))
  key-stays key sent = by (batch_at key (learned all)) refl sent
    where
      by : (o : Option Batch) → batch_at key (learned all) ≡ o → is_some (own_message_of all o) ≡ true → own_message_of (with_message new all) (batch_at key (learned (with_message new all))) ≡ own_message_of all (batch_at key (learned all))
      by None at some = absurd (cc)
      by (Some b) at some =
          let named : b.key ≡ key = found-key (learned all) key b at in
          let has : Has (learned all) b = ap (λ (k : BatchKey). batch_at k (learned all)) named ∙ at in
          let there : batch_at key (learned (with_message new all)) ≡ Some b = ap (λ (k : BatchKey). batch_at k (learned (with_message new all))) (sym named) ∙ learned-part b has in
          ap (own_message_of (with_message new all)) there ∙ own-stays b has ∙ sym (ap (own_message_of all) at)

  -- what is carried by a batch that has come is what has come with it
  carried-new : (o : Option Batch) → IfSome o (IsCarriedBy new.batch) → IfSome o (λ s. is_of new.batch.domain new.batch.workflow s ≡ true) → AllByRecursion (λ (s : Batch). batch_at s.key all ≡ None) (option_to_list o)
      → find (carries new.batch) all ≡ None → find (carries new.batch) (arrived_second o (arrived new.batch all)) ≡ o
  carried-new None carried own apart none = find-arrived (carries new.batch) new.batch all (not-carried new.batch new.batch lone) ∙ none
  carried-new (Some s) carried own apart none =
      find-new (carries new.batch) s (arrived new.batch all) is-carried (find-arrived (carries new.batch) new.batch all (not-carried new.batch new.batch lone) ∙ none) fresh-second
    where
      is-carried : carries new.batch s ≡ true
      is-carried =
          ap (λ (t : Bool). t && is_wanted s.carrier new.batch) own
          ∙ ap (λ (k : Option BatchKey). is_wanted k new.batch) carried.carrier ∙ key_eq-self new.batch.key

      other : key_eq new.batch.key s.key ≡ false
      other = apart-keys (key_eq new.batch.key s.key) refl
        where
          apart-keys : (t : Bool) → key_eq new.batch.key s.key ≡ t → key_eq new.batch.key s.key ≡ false
          apart-keys true same =
              let key : new.batch.key ≡ key_behind new.batch.key = same-keys new.batch.key s.key same ∙ carried.key in
              absurd (omega (arith, ap (λ (k : BatchKey). k.task) key))
          apart-keys false e = e

      fresh-second : batch_at s.key (arrived new.batch all) ≡ None
      fresh-second =
          arrived-at new.batch all s.key set.ordered
          ∙ ap (λ (o : Option Batch). option_or o (batch_at s.key (new.batch ∷ []))) apart.0
          ∙ ap (λ (t : Bool). if t then Some new.batch else None) other

  none-carried : (list : List Batch) → AllByRecursion (λ (o : Batch). carries new.batch o ≡ false) list → find (carries new.batch) list ≡ None
  none-carried [] each = refl
  none-carried (o ∷ list) each = ap (λ (t : Bool). if t then Some o else find (carries new.batch) list) each.0 ∙ none-carried list each.1

  -- a batch that is written is learned, and carries what it is written with
  pub new-own : Has (learned (with_message new all)) new.batch → IfSome new.second (λ s. is_of new.batch.domain new.batch.workflow s ≡ true) → AllByRecursion (λ (o : Batch). carries new.batch o ≡ false) all
      → own_message_of (with_message new all) (batch_at new.batch.key (learned (with_message new all)))
      ≡ Some (record { batch = new.batch; history = versions_of (history_of (path_to new.batch.key (learned (with_message new all)))); second = new.second })
  new-own has own none =
      ap (own_message_of (with_message new all)) has
      ∙ ap (λ (t : Bool). if t then None else Some (message_of (learned (with_message new all)) (with_message new all) new.batch)) (ap is_some lone)
      ∙ ap (λ (o : Option Batch). Some (record { batch = new.batch; history = versions_of (history_of (path_to new.batch.key (learned (with_message new all)))); second = o }))
      (carried-new new.second message.second own fresh.1 (none-carried all none))
