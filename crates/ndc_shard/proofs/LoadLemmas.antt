-- A cell to which the messages of all that another one has learned of a domain are handed has learned the same.
use Rattle.std.proofs.Common.{◌≡◌, Bool, true, false, not, ◌&&◌, ◌||◌, is_some, find, List, [], ◌∷◌, Option, Some, None, IfSome, if◌then◌else◌, inl, inr, refl, sym, ◌∙◌, subst, ap, true≢false}
use Rattle.std.specs.List.{AllByRecursion, filter, list_any}
use Rattle.std.specs.Str.{bytes_eq}
use Rattle.std.proofs.lemmas.Bool.{and_from, and_parts}
use Rattle.std.proofs.lemmas.Slice.Eq.{bytes_eq-Decides}
use Rattle.ndc_event.specs.declared.batch.Batch.{Batch}
use Rattle.ndc_event.specs.declared.key.BatchKey.{BatchKey}
use Rattle.ndc_event.specs.declared.name.Name.{Name}
use Rattle.ndc_laws_cells.proofs.FoundLemmas.{find-passes}
use Rattle.ndc_laws_cells.proofs.KeptLemmas.{arrival-keeps-sets, arrived-then, carried-by, if-some, none-is, own-is}
use Rattle.ndc_laws_cells.proofs.Lists.{among-is, is-among}
use Rattle.ndc_laws_cells.proofs.NameLemmas.{names-of, own-names, wanted-some}
use Rattle.ndc_laws_cells.proofs.SentLemmas.{arrival-keeps-whole, continues-goes, sent-is}
use Rattle.ndc_model_cells.specs.declared.message.Message.{Message}
use Rattle.ndc_model_cells.specs.Arrival.{arrived_at, cell_with, has_arrived}
use Rattle.ndc_model_cells.specs.Cells.{Cell, IsCell, arrived_of, carries, empty_cell, is_learned_in, learned_message, learned_of, message_of}
use Rattle.ndc_model_cells.specs.Domains.{learned_of_domains}
use Rattle.ndc_model_cells.specs.Keeping.{IsCarried, IsKept, IsMessageOf, IsWhole}
use Rattle.ndc_model_cells.specs.Laws.{arrived_second}
use Rattle.ndc_model_cells.specs.Places.{batch_there, is_of, place_of}
use Rattle.ndc_model_cells.specs.Writing.{goes_on}
use Rattle.ndc_model_cells.proofs.CellLemmas.{others_arrived_by}
use Rattle.ndc_model_cells.proofs.PlaceLemmas.{arrival_keeps, set_of_workflow}
use Rattle.ndc_model_cells.proofs.SoundLemmas.{learned_is_sound}
use Rattle.ndc_laws_cells.proofs.FoundLemmas.{at-there}
use Rattle.ndc_model_sets.specs.Learned.{IsPart, ReachesTop, learned}
use Rattle.ndc_model_sets.specs.Learned.ReachesTop.{top, up}
use Rattle.ndc_model_sets.specs.Paths.{events_to, is_wanted, versions_of}
use Rattle.ndc_model_sets.specs.Sets.{Has, IsSet, PointsBack, arrived, batch_at, earlier, earlier_of}
use Rattle.ndc_model_sets.specs.Sound.{IsSound}
use Rattle.ndc_model_sets.proofs.ArrivalLemmas.{equal_sets}
use Rattle.ndc_model_sets.proofs.BranchLemmas.{among-has, has-among, same-batch}
use Rattle.ndc_model_sets.proofs.FaultLemmas.{passes}
use Rattle.ndc_model_sets.proofs.LearnedLemmas.{closed_whole, learned-reaches, learned_closed, reaches-has, reaches-learned}
use Rattle.ndc_model_sets.proofs.Lists.{Among, all-among, all-from, among-filter, among-filter_map, filter-among, filter_map-among, find-among}
use Rattle.ndc_model_sets.proofs.SetLemmas.{found-has, found-key}
use Rattle.ndc_shard.specs.Loading.{AreAllOf, IsSentBy, handed}
use Rattle.ndc_shard.specs.Orderly.{IsOrderly}
use Rattle.ndc_shard.specs.Sent.{HasCarrier, is_lone}
use Rattle.ndc_shard.proofs.SentLemmas.{first-there, part-more-of}

-- what a cell has learned of a workflow
module _ (domain workflow : Name) (cell : Cell) (is : IsCell cell) where
  abbrev held : List Batch
  held = arrived_of domain workflow cell

  abbrev known : List Batch
  known = learned_of domain workflow cell

  pub held-set : IsSet held
  held-set = set_of_workflow domain workflow cell is

  pub known-set : IsSet known
  known-set = (learned_closed held held-set).0

  pub known-held : IsPart known held
  known-held b has = reaches-has held b (learned-reaches held b held-set has)

  pub known-arrived : (b : Batch) → Has known b → (is_of domain workflow b ≡ true) × Among b cell.arrived
  known-arrived b has = filter-among (is_of domain workflow) cell.arrived b (has-among held b (known-held b has))

  -- what comes after something learned is learned
  pub known-on : (b before : Batch) → Has held b → earlier b ≡ Some before.key → Has known before → Has known b
  known-on b before has e before_has = reaches-learned held b held-set (up b before before.key has e (known-held before before_has) (learned-reaches held before held-set before_has))

  -- and what something learned comes after is learned
  pub known-before : (b before : Batch) → Has known b → earlier b ≡ Some before.key → Has held before → Has known before
  known-before b before has e before_has = by (learned-reaches held b held-set has)
    where
      by : ReachesTop held b → Has known before
      by (top _ there none) = absurd (cc)
      by (up _ other key there f at r) =
          let keys : before.key ≡ key = (let both : Some before.key ≡ Some key = sym e ∙ f in cc) in
          let one : other ≡ before = same-batch held other before (reaches-has held other r) before_has (found-key held key other at ∙ sym keys) in
          reaches-learned held before held-set (subst (ReachesTop held) one r)

-- a message of what a cell has learned
module _ (cell : Cell) (is : IsCell cell) (sent : Message) (from : IsSentBy cell sent) where
  abbrev b : Batch
  b = from.batch

  abbrev mine : List Batch
  mine = learned_of b.domain b.workflow cell

  made : (is_some b.carrier ≡ false) × (message_of mine cell.arrived b ≡ sent)
  made = own-is mine cell.arrived b sent from.is

  pub batch-is : sent.batch ≡ b
  batch-is = ap (λ (m : Message). m.batch) (sym made.1)

  second-is : sent.second ≡ find (carries b) cell.arrived
  second-is = ap (λ (m : Message). m.second) (sym made.1)

  pub sent-back : PointsBack sent.batch
  sent-back = subst PointsBack (sym batch-is) (all-among PointsBack cell.arrived b is.back (known-arrived b.domain b.workflow cell is b from.learned).1)

  second-among : (s : Batch) → sent.second ≡ Some s → Among s cell.arrived
  second-among s e = find-among (carries b) cell.arrived s (sym second-is ∙ e)

  second-carried : (s : Batch) → sent.second ≡ Some s → (is_of b.domain b.workflow s ≡ true) × (is_wanted s.carrier b ≡ true)
  second-carried s e = and_parts (is_of b.domain b.workflow s) (is_wanted s.carrier b) (find-passes (carries b) cell.arrived s (sym second-is ∙ e))

  pub seconds-back : IfSome sent.second PointsBack
  seconds-back = if-some PointsBack sent.second (λ s e. all-among PointsBack cell.arrived s is.back (second-among s e))

  -- what it carries is of no other workflow
  pub seconds-apart : (domain workflow : Name) → is_of domain workflow sent.batch ≡ false → IfSome sent.second (λ s. is_of domain workflow s ≡ false)
  seconds-apart domain workflow apart = if-some (λ s. is_of domain workflow s ≡ false) sent.second (λ s e. never s e (is_of domain workflow s) refl)
    where
      never : (s : Batch) → sent.second ≡ Some s → (t : Bool) → is_of domain workflow s ≡ t → t ≡ false
      never s e false other = refl
      never s e true own =
          let n = names-of domain workflow s own in
          let m = names-of b.domain b.workflow s (second-carried s e).0 in
          let here : is_of domain workflow b ≡ true = subst (λ d. is_of d workflow b ≡ true) (sym m.0 ∙ n.0) (subst (λ u. is_of b.domain u b ≡ true) (sym m.1 ∙ n.1) (own-names b)) in
          absurd (true≢false (sym here ∙ sym (ap (is_of domain workflow) batch-is) ∙ apart))

  -- it is one of what is learned, where a sound set is kept
  module _ (all : List Batch) (kept : IsKept all b.domain b.workflow cell) (whole : IsWhole b.domain b.workflow cell) where
    of-all : IsMessageOf all sent × (sent.batch ≡ b)
    of-all = sent-is all cell is b kept whole from.learned sent from.is

    fits : (s : Batch) → sent.second ≡ Some s → earlier s ≡ Some b.key
    fits s e =
        let c = wanted-some s.carrier b (second-carried s e).1 in
        let there : Has all s = kept.within s (among-has (arrived_of b.domain b.workflow cell) s (held-set b.domain b.workflow cell is).ordered (among-filter (is_of b.domain b.workflow) cell.arrived s (second-carried s e).0 (second-among s e))) in
        let fit = carried-by b s c (passes s (kept.sound.faultless s there)).carrier in
        ap (λ (p : Option BatchKey). earlier_of p s.carrier) fit.parent ∙ c

    second-known : (s : Batch) → sent.second ≡ Some s → IsCarried mine sent.batch s
    second-known s e = record {
      has = known-on b.domain b.workflow cell is s b (among-has (arrived_of b.domain b.workflow cell) s (held-set b.domain b.workflow cell is).ordered (among-filter (is_of b.domain b.workflow) cell.arrived s (second-carried s e).0 (second-among s e))) (fits s e) from.learned;
      carrier = wanted-some s.carrier b (second-carried s e).1 ∙ ap (λ (x : Batch). Some x.key) (sym batch-is);
    }

    of-known : IsMessageOf mine sent
    of-known = record {
      has = subst (Has mine) (sym batch-is) from.learned;
      lone = of-all.0.lone;
      history = ap (λ (m : Message). m.history) (sym made.1) ∙ ap (λ (x : Batch). versions_of (events_to x.key mine)) (sym batch-is);
      goes = of-all.0.goes;
      second = if-some (IsCarried mine sent.batch) sent.second second-known;
    }

-- a cell to which messages of another are handed
module _ (all : List Batch) (domain workflow : Name) (cell : Cell) (is : IsCell cell) (kept : IsKept all domain workflow cell) (whole : IsWhole domain workflow cell) where
  abbrev own-known : List Batch
  own-known = learned_of domain workflow cell

  abbrev there : Cell → List Batch
  there c = arrived_of domain workflow c

  known-sound : IsSound own-known
  known-sound = learned_is_sound domain workflow cell all is.ordered kept.sound kept.within

  known-own : AllByRecursion (λ b. is_of domain workflow b ≡ true) own-known
  known-own = all-from (λ b. is_of domain workflow b ≡ true) own-known (λ b h. (known-arrived domain workflow cell is b (among-has own-known b (known-set domain workflow cell is).ordered h)).0)

  of-this : (sent : Message) → IsSentBy cell sent → is_of domain workflow sent.batch ≡ true → IsMessageOf own-known sent
  of-this sent from own =
      let n = names-of domain workflow sent.batch own in
      let d : from.batch.domain ≡ domain = ap (λ (x : Batch). x.domain) (sym (batch-is cell is sent from)) ∙ n.0 in
      let u : from.batch.workflow ≡ workflow = ap (λ (x : Batch). x.workflow) (sym (batch-is cell is sent from)) ∙ n.1 in
      subst (λ x. IsMessageOf (learned_of x workflow cell) sent) d
      (subst (λ y. IsMessageOf (learned_of from.batch.domain y cell) sent) u
      (of-known cell is sent from all
      (subst (λ x. IsKept all x from.batch.workflow cell) (sym d) (subst (λ y. IsKept all domain y cell) (sym u) kept))
      (subst (λ x. IsWhole x from.batch.workflow cell) (sym d) (subst (λ y. IsWhole domain y cell) (sym u) whole))))

  -- the cell in between: its batches of the workflow are of what is learned, and whole
  record IsLoading (c : Cell) : Type 0 where
    in_order : IsCell c
    keeps : IsKept own-known domain workflow c
    closed : IsWhole domain workflow c

  loading-empty : IsLoading empty_cell
  loading-empty = record {
    in_order = record { ordered = tt; back = tt };
    keeps = record { own = known-own; sound = known-sound; within = λ b has. absurd (cc) };
    closed = λ b has lone on. absurd (cc);
  }

  module _ (c : Cell) (l : IsLoading c) (sent : Message) (from : IsSentBy cell sent) where
    next-cell : IsCell (arrived_at sent c)
    next-cell = arrival_keeps sent c l.in_order (sent-back cell is sent from) (seconds-back cell is sent from)

    same-others : is_of domain workflow sent.batch ≡ false → there (arrived_at sent c) ≡ there c
    same-others apart = others_arrived_by domain workflow sent c apart (seconds-apart cell is sent from domain workflow apart)

    module _ (own : is_of domain workflow sent.batch ≡ true) where
      d : sent.batch.domain ≡ domain
      d = (names-of domain workflow sent.batch own).0

      u : sent.batch.workflow ≡ workflow
      u = (names-of domain workflow sent.batch own).1

      -- what holds of the workflow holds of the message's, and the other way round
      of-sent : (P : Name → Name → Type 0) → P domain workflow → P sent.batch.domain sent.batch.workflow
      of-sent P p = subst (λ x. P x sent.batch.workflow) (sym d) (subst (λ y. P domain y) (sym u) p)

      of-workflow : (P : Name → Name → Type 0) → P sent.batch.domain sent.batch.workflow → P domain workflow
      of-workflow P p = subst (λ x. P x workflow) d (subst (λ y. P sent.batch.domain y) u p)

      message : IsMessageOf own-known sent
      message = of-this sent from own

      kept-there : IsKept own-known sent.batch.domain sent.batch.workflow c
      kept-there = of-sent (λ x y. IsKept own-known x y c) l.keeps

      then-there : has_arrived sent.batch c ≡ false → there (arrived_at sent c) ≡ arrived_second sent.second (arrived sent.batch (there c))
      then-there fresh = of-workflow (λ x y. arrived_of x y (arrived_at sent c) ≡ arrived_second sent.second (arrived sent.batch (arrived_of x y c))) (arrived-then own-known sent c kept-there message l.in_order fresh)

      known-then : has_arrived sent.batch c ≡ true → arrived_at sent c ≡ c
      unfolding arrived_at
      known-then came = ap (λ (t : Bool). if t then c else cell_with sent c) came

      -- the place of its batch
      at-key : batch_at sent.batch.key (there c) ≡ batch_there c.arrived (place_of sent.batch)
      at-key = of-workflow (λ x y. batch_at sent.batch.key (arrived_of x y c) ≡ batch_there c.arrived (place_of sent.batch)) (at-there sent.batch.domain sent.batch.workflow sent.batch.key c.arrived)

      stays-own : IsPart (there c) (there (arrived_at sent c))
      stays-own x has = by (has_arrived sent.batch c) refl
        where
          by : (t : Bool) → has_arrived sent.batch c ≡ t → Has (there (arrived_at sent c)) x
          by true came = subst (λ (k : Cell). Has (there k) x) (sym (known-then came)) has
          by false fresh = subst (λ bs. Has bs x) (sym (then-there fresh)) (part-more-of sent.batch sent.second (there c) (set_of_workflow domain workflow c l.in_order) (sent-back cell is sent from) x has)

      comes : Has (there (arrived_at sent c)) sent.batch
      comes = by (has_arrived sent.batch c) refl
        where
          by : (t : Bool) → has_arrived sent.batch c ≡ t → Has (there (arrived_at sent c)) sent.batch
          by true came = subst (λ (k : Cell). Has (there k) sent.batch) (sym (known-then came)) (one (batch_at sent.batch.key (there c)) refl (ap is_some at-key ∙ came))
            where
              one : (o : Option Batch) → batch_at sent.batch.key (there c) ≡ o → is_some o ≡ true → Has (there c) sent.batch
              one None e h = absurd (true≢false (sym h))
              one (Some x) e h =
                  let has = found-has (there c) sent.batch.key x e in
                  subst (Has (there c)) (same-batch own-known x sent.batch (l.keeps.within x has) message.has (found-key (there c) sent.batch.key x e)) has
          by false fresh =
              subst (λ bs. Has bs sent.batch) (sym (then-there fresh))
              (first-there sent.batch sent.second (there c) (set_of_workflow domain workflow c l.in_order) (sent-back cell is sent from) (at-key ∙ none-is (batch_there c.arrived (place_of sent.batch)) fresh))

      own-loading : IsLoading (arrived_at sent c)
      own-loading = record {
        in_order = next-cell;
        keeps = arrival-keeps-sets own-known own-known domain workflow sent c l.in_order kept-there message (λ _. refl) l.keeps;
        closed = of-workflow (λ x y. IsWhole x y (arrived_at sent c)) (arrival-keeps-whole own-known sent c l.in_order kept-there message (of-sent (λ x y. IsWhole x y c) l.closed));
      }

    other-loading : is_of domain workflow sent.batch ≡ false → IsLoading (arrived_at sent c)
    other-loading apart =
        let same = same-others apart in
        record {
          in_order = next-cell;
          keeps = record { own = l.keeps.own; sound = l.keeps.sound; within = subst (λ bs. IsPart bs own-known) (sym same) l.keeps.within };
          closed = subst (λ bs. (b : Batch) → Has bs b → b.carrier ≡ None → goes_on b ≡ true → (second : Batch) × Has bs second × (second.carrier ≡ Some b.key)) (sym same) l.closed;
        }

    loading : IsLoading (arrived_at sent c)
    loading = by (is_of domain workflow sent.batch) refl
      where
        by : (t : Bool) → is_of domain workflow sent.batch ≡ t → IsLoading (arrived_at sent c)
        by true own = own-loading own
        by false apart = other-loading apart

    stay : IsPart (there c) (there (arrived_at sent c))
    stay = by (is_of domain workflow sent.batch) refl
      where
        by : (t : Bool) → is_of domain workflow sent.batch ≡ t → IsPart (there c) (there (arrived_at sent c))
        by true own = stays-own own
        by false apart = λ x has. subst (λ bs. Has bs x) (sym (same-others apart)) has

  -- all come
  all-loading : (messages : List Message) → ((sent : Message) → Among sent messages → IsSentBy cell sent) → (c : Cell) → IsLoading c → IsLoading (handed messages c)
  all-loading [] from c l = l
  all-loading (sent ∷ messages) from c l = all-loading messages (λ m h. from m (inr h)) (arrived_at sent c) (loading c l sent (from sent (inl refl)))

  all-stay : (messages : List Message) → ((sent : Message) → Among sent messages → IsSentBy cell sent) → (c : Cell) → IsLoading c → IsPart (there c) (there (handed messages c))
  all-stay [] from c l x has = has
  all-stay (sent ∷ messages) from c l x has =
      let one = from sent (inl refl) in
      all-stay messages (λ m h. from m (inr h)) (arrived_at sent c) (loading c l sent one) x (stay c l sent one x has)

  all-come : (messages : List Message) → ((sent : Message) → Among sent messages → IsSentBy cell sent) → (c : Cell) → IsLoading c → (sent : Message) → Among sent messages → is_of domain workflow sent.batch ≡ true
      → Has (there (handed messages c)) sent.batch
  all-come [] from c l sent none own = absurd none
  all-come (m ∷ messages) from c l sent (inl same) own =
      let one = from m (inl refl) in
      let mine : is_of domain workflow m.batch ≡ true = subst (λ (x : Message). is_of domain workflow x.batch ≡ true) same own in
      all-stay messages (λ x h. from x (inr h)) (arrived_at m c) (loading c l m one) sent.batch
      (subst (λ (x : Message). Has (there (arrived_at m c)) x.batch) (sym same) (comes c l m one mine))
  all-come (m ∷ messages) from c l sent (inr later) own = all-come messages (λ x h. from x (inr h)) (arrived_at m c) (loading c l m (from m (inl refl))) sent later own

  -- after all messages of what the cell has learned of the domain
  module _ (carried : AllByRecursion (HasCarrier cell) cell.arrived) (messages : List Message) (from : (sent : Message) → Among sent messages → IsSentBy cell sent)
      (each : (b : Batch) → Has own-known b → (sent : Message) → learned_message cell b ≡ Some sent → Among sent messages) where
    abbrev loaded : Cell
    loaded = handed messages empty_cell

    loaded-is : IsLoading loaded
    loaded-is = all-loading messages from empty_cell loading-empty

    lone-there : (b : Batch) → Has own-known b → b.carrier ≡ None → Has (there loaded) b
    lone-there b has lone =
        let of = (known-arrived domain workflow cell is b has).0 in
        let told : learned_message cell b ≡ Some (message_of (learned_of b.domain b.workflow cell) cell.arrived b) = ap (λ (o : Option BatchKey). if is_some o then None else Some (message_of (learned_of b.domain b.workflow cell) cell.arrived b)) lone in
        all-come messages from empty_cell loading-empty (message_of (learned_of b.domain b.workflow cell) cell.arrived b) (each b has (message_of (learned_of b.domain b.workflow cell) cell.arrived b) told) of

    carried-there : (b x : Batch) → Has own-known b → b.carrier ≡ Some x.key → Has (arrived_of domain workflow cell) x → x.carrier ≡ None → Has (there loaded) b
    carried-there b x has e x_has lone =
        let fit = carried-by x b e (passes b (known-sound.faultless b has)).carrier in
        let x_known = known-before domain workflow cell is b x has (ap (λ (p : Option BatchKey). earlier_of p b.carrier) fit.parent ∙ e) x_has in
        let on = continues-goes b.run x (known-sound.carriers b x x.key has e x_known) in
        let r = loaded-is.closed x (lone-there x x_known lone) lone on in
        let r_known = loaded-is.keeps.within r.0 r.1 in
        let r_fit = carried-by x r.0 r.2 (passes r.0 (known-sound.faultless r.0 r_known)).carrier in
        subst (Has (there loaded)) (same-batch own-known r.0 b r_known has (r_fit.key ∙ sym fit.key)) r.1

    all-there : IsPart own-known (there loaded)
    all-there b has = by b.carrier refl
      where
        among : Among b cell.arrived
        among = (known-arrived domain workflow cell is b has).1

        here : (key : BatchKey) → b.carrier ≡ Some key → is_lone (batch_at key (arrived_of domain workflow cell)) ≡ true
        here key e =
            let n = names-of domain workflow b (known-arrived domain workflow cell is b has).0 in
            subst (λ d. is_lone (batch_at key (arrived_of d workflow cell)) ≡ true) n.0
            (subst (λ u. is_lone (batch_at key (arrived_of b.domain u cell)) ≡ true) n.1
            (subst (λ o. IfSome o (λ k. is_lone (batch_at k (arrived_of b.domain b.workflow cell)) ≡ true)) e (all-among (HasCarrier cell) cell.arrived b carried among)))

        which : (key : BatchKey) → b.carrier ≡ Some key → (o : Option Batch) → batch_at key (arrived_of domain workflow cell) ≡ o → is_lone o ≡ true → Has (there loaded) b
        which key e None at none = absurd (true≢false (sym none))
        which key e (Some x) at alone =
            carried-there b x has (e ∙ ap (λ (k : BatchKey). Some k) (sym (found-key (arrived_of domain workflow cell) key x at))) (found-has (arrived_of domain workflow cell) key x at) (none-is x.carrier (negated (is_some x.carrier) alone))
          where
            negated : (t : Bool) → not t ≡ true → t ≡ false
            negated true h = absurd (true≢false (sym h))
            negated false h = refl

        by : (o : Option BatchKey) → b.carrier ≡ o → Has (there loaded) b
        by None e = lone-there b has e
        by (Some key) e = which key e (batch_at key (arrived_of domain workflow cell)) refl (here key e)

    pub loaded-same : learned_of domain workflow loaded ≡ own-known
    loaded-same =
        ap learned (equal_sets (there loaded) own-known (set_of_workflow domain workflow loaded loaded-is.in_order) (known-set domain workflow cell is) loaded-is.keeps.within all-there)
        ∙ closed_whole own-known (known-set domain workflow cell is) (learned_closed (arrived_of domain workflow cell) (held-set domain workflow cell is)).1

-- what is given of domains is sent by the cell
pub given-sent : (cell : Cell) → IsCell cell → (domains : List Name) (sent : Message) → Among sent (learned_of_domains domains cell) → IsSentBy cell sent
given-sent cell is domains sent h =
    let m = filter_map-among (learned_message cell) (filter (λ b. is_learned_in cell b && list_any (λ domain. bytes_eq domain b.domain) domains) cell.arrived) sent h in
    let p = filter-among (λ b. is_learned_in cell b && list_any (λ domain. bytes_eq domain b.domain) domains) cell.arrived m.0 m.1 in
    let q = and_parts (is_learned_in cell m.0) (list_any (λ domain. bytes_eq domain m.0.domain) domains) p.0 in
    record { batch = m.0; learned = found m.0 p.1 (batch_at m.0.key (learned_of m.0.domain m.0.workflow cell)) refl q.0; is = m.2 }
  where
    found : (b : Batch) → Among b cell.arrived → (o : Option Batch) → batch_at b.key (learned_of b.domain b.workflow cell) ≡ o → is_some o ≡ true → Has (learned_of b.domain b.workflow cell) b
    found b there None at none = absurd (true≢false (sym none))
    found b there (Some x) at _ =
        let has = found-has (learned_of b.domain b.workflow cell) b.key x at in
        let mine : Has (arrived_of b.domain b.workflow cell) b =
        among-has (arrived_of b.domain b.workflow cell) b (held-set b.domain b.workflow cell is).ordered (among-filter (is_of b.domain b.workflow) cell.arrived b (own-names b) there) in
        subst (Has (learned_of b.domain b.workflow cell)) (same-batch (arrived_of b.domain b.workflow cell) x b (known-held b.domain b.workflow cell is x has) mine (found-key (learned_of b.domain b.workflow cell) b.key x at)) has

-- and each message of what is learned of a workflow is given of its domain
each-given : (domain workflow : Name) (cell : Cell) → IsCell cell → (b : Batch) → Has (learned_of domain workflow cell) b → (sent : Message) → learned_message cell b ≡ Some sent → Among sent (learned_of_domains (domain ∷ []) cell)
each-given domain workflow cell is b has sent e =
    let a = known-arrived domain workflow cell is b has in
    let n = names-of domain workflow b a.0 in
    let learned_here : is_learned_in cell b ≡ true = ap is_some (subst (λ d. Has (learned_of d b.workflow cell) b) (sym n.0) (subst (λ u. Has (learned_of domain u cell) b) (sym n.1) has)) in
    let named : bytes_eq domain b.domain ≡ true = (bytes_eq-Decides domain b.domain).1 (sym n.0) in
    among-filter_map (learned_message cell) (filter (λ x. is_learned_in cell x && list_any (λ d. bytes_eq d x.domain) (domain ∷ [])) cell.arrived) b sent e
    (among-filter (λ x. is_learned_in cell x && list_any (λ d. bytes_eq d x.domain) (domain ∷ [])) cell.arrived b
    (and_from (is_learned_in cell b) (list_any (λ d. bytes_eq d b.domain) (domain ∷ [])) learned_here (any-first (bytes_eq domain b.domain) named)) a.1)
  where
    any-first : (t : Bool) → t ≡ true → (t || false) ≡ true
    any-first true e = refl
    any-first false e = absurd (true≢false (sym e))

-- so a cell that is loaded from all that is given of a domain has learned the same of each of its workflows
pub loads : (all : List Batch) (domain workflow : Name) (cell : Cell) (messages : List Message) → IsOrderly cell → IsKept all domain workflow cell → IsWhole domain workflow cell → AreAllOf domain cell messages
    → learned_of domain workflow (handed messages empty_cell) ≡ learned_of domain workflow cell
loads all domain workflow cell messages is kept whole are =
    loaded-same all domain workflow cell is.cell_is kept whole is.carried messages
    (λ sent h. given-sent cell is.cell_is (domain ∷ []) sent (is-among (learned_of_domains (domain ∷ []) cell) sent (are.told sent (among-is messages sent h))))
    (λ b has sent e. is-among messages sent (are.all sent (among-is (learned_of_domains (domain ∷ []) cell) sent (each-given domain workflow cell is.cell_is b has sent e))))
