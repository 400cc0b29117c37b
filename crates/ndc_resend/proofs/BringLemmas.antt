-- What asking for put-off batches brings.
use Rattle.std.proofs.Common.{◌≡◌, ◌≢◌, Bool, true, false, not, List, [], ◌∷◌, ◌++◌, ◌⊎◌, inl, inr, Option, Some, None, cond, map, refl, sym, ◌∙◌, subst, ap, true≢false}
use Rattle.std.specs.Prelude.{IsSome, is_some, if◌then◌else◌, option_to_list, unwrap_or}
use Rattle.std.specs.List.{AllByRecursion, cons_option, filter, filter_map}
use Rattle.std.proofs.lemmas.Grind.{flat_map-append}
use Rattle.std.proofs.lemmas.List.{append_assoc}
use Rattle.std.proofs.lemmas.List.Elements.{filter_map-append}
use Rattle.ndc_event.specs.Batch.{is_carrier_fit}
use Rattle.ndc_event.specs.Key.{key_eq}
use Rattle.ndc_event.specs.declared.batch.Batch.{Batch}
use Rattle.ndc_event.specs.declared.key.BatchKey.{BatchKey}
use Rattle.ndc_history.specs.Common.{item_or_zero}
use Rattle.ndc_history.specs.declared.item.Item.{Item}
use Rattle.ndc_model_cells.specs.declared.message.Message.{Message}
use Rattle.ndc_model_cells.specs.Cells.{both}
use Rattle.ndc_model_cells.specs.Messages.{batches_of}
use Rattle.ndc_model_cells.specs.Workflow.{WorkflowValue}
use Rattle.ndc_model_sets.specs.Learned.{IsClosed, IsPart, WaitsFor, behind, has_key, itself, learned}
use Rattle.ndc_model_sets.specs.Paths.{IsPath, below, first, last_item_of, path_to}
use Rattle.ndc_model_sets.specs.Sets.{Has, Rise, batch_at, earlier_of}
use Rattle.ndc_model_sets.proofs.BranchLemmas.{Rise-filter, among-has, has-among}
use Rattle.ndc_model_sets.proofs.FaultLemmas.{passes}
use Rattle.ndc_model_sets.proofs.ForkLemmas.{among-cases}
use Rattle.ndc_model_sets.proofs.KeyLemmas.{same-keys}
use Rattle.ndc_model_sets.proofs.LearnedLemmas.{learned-reaches, learned_closed, reaches-has}
use Rattle.ndc_model_sets.proofs.Lists.{Among, all-among, all-from, among-filter, among-filter_map, filter-among, filter_map-among}
use Rattle.ndc_model_sets.proofs.PathLemmas.{path_is}
use Rattle.ndc_model_sets.proofs.SetLemmas.{found-has, found-key, has-found}
use Rattle.ndc_resend.specs.declared.asking.GapOf.{GapOf}
use Rattle.ndc_resend.specs.declared.serving.Gap.{Gap}
use Rattle.ndc_resend.specs.Asked.{IsPutOffIn}
use Rattle.ndc_resend.specs.Bringing.{IsBehindIn, asked_for, asked_from, brought_to}
use Rattle.ndc_resend.specs.Gaps.{first_item}
use Rattle.ndc_resend.specs.PutOff.{gap_in, off_in}
use Rattle.ndc_resend.specs.Serving.{answered}
use Rattle.ndc_resend.proofs.AncestorLemmas.{above-in, among-back, among-front, waits-trans}
use Rattle.ndc_resend.proofs.AskedLemmas.{among-is, answered_is_above, gap_begins, is-among, missing_is_answered, no-answer}
use Rattle.ndc_resend.proofs.ChainLemmas.{missing-earlier}
use Rattle.ndc_state.specs.Replay.{history_of}

-- a gap between two ends
abbrev between : Item → Item → Gap
between after before = record { after = after; before = before }

negated : (t : Bool) → not t ≡ true → t ≡ false
negated true e = sym e
negated false e = refl

-- what has no key has no batch
none-at : (key : BatchKey) (batches : List Batch) → has_key (Some key) batches ≡ false → batch_at key batches ≡ None
none-at key batches e = by (batch_at key batches) refl e
  where
    by : (o : Option Batch) → batch_at key batches ≡ o → is_some o ≡ false → batch_at key batches ≡ None
    by None f h = f
    by (Some b) f h = absurd (true≢false h)

-- a path begins with what is known of it, and goes on with what is not
record Splits (part path : List Batch) : Type 0 where
  front : List Batch
  rest : List Batch
  is : path ≡ front ++ rest
  known : AllByRecursion (Has part) front
  unknown : AllByRecursion (λ c. batch_at c.key part ≡ None) rest

module _ (all : List Batch) (author : Batch → List Batch) (own : Batch → Option Message) (answer : GapOf → List Message) (w : WorkflowValue) (is : IsBehindIn all author own answer w) where
  abbrev part : List Batch
  part = learned w.arrived

  part-closed : IsClosed part
  part-closed = (learned_closed w.arrived is.set).1

  known-arrived : (x : Batch) → Has part x → Has w.arrived x
  known-arrived x has = reaches-has w.arrived x (learned-reaches w.arrived x is.set has)

  known-within : IsPart part all
  known-within x has = is.within x (known-arrived x has)

  -- what is put off has arrived, and is not learned
  pub off-parts : (b : Batch) → Has (off_in w) b → (batch_at b.key part ≡ None) × Has w.arrived b
  off-parts b has =
      let p = filter-among (λ x. not (has_key (Some x.key) (learned w.arrived))) w.arrived b (has-among (off_in w) b has) in
      (none-at b.key part (negated (has_key (Some b.key) part) p.0), among-has w.arrived b is.set.ordered p.1)

  off-rise : Rise (off_in w)
  off-rise = Rise-filter (λ x. not (has_key (Some x.key) (learned w.arrived))) w.arrived is.set.ordered

  off-from : (b : Batch) → Has w.arrived b → batch_at b.key part ≡ None → Among b (off_in w)
  off-from b has none = among-filter (λ x. not (has_key (Some x.key) (learned w.arrived))) w.arrived b (ap (λ o. not (is_some o)) none) (has-among w.arrived b has)

  -- where one is learned, so are all above it
  learned-above : (x y : Batch) → Has part y → WaitsFor all x y → Has w.arrived x
  learned-above x y has waits = known-arrived x (above-in part all known-within part-closed x y has waits)

  -- on each path what is learned comes first
  on-path : (b : Batch) (path : List Batch) → IsPath all b path → (c : Batch) → Among c path → WaitsFor all c b
  on-path b path (first _ has none) c (inl same) = subst (λ (x : Batch). WaitsFor all x b) (sym same) itself
  on-path b path (first _ has none) c (inr h) = absurd h
  on-path b path (below _ before key front has e at rest) c among = by (among-cases c front (b ∷ []) among) (on-path before front rest c)
    where
      by : Among c front ⊎ Among c (b ∷ []) → (Among c front → WaitsFor all c before) → WaitsFor all c b
      by (inl h) above = behind b before key has (ap (λ (o : Option BatchKey). earlier_of o b.carrier) e) at (above h)
      by (inr (inl same)) above = subst (λ (x : Batch). WaitsFor all x b) (sym same) itself
      by (inr (inr h)) above = absurd h

  splits : (b : Batch) (path : List Batch) → IsPath all b path → Splits part path
  splits b path (first _ has none) = by (batch_at b.key part) refl
    where
      by : (o : Option Batch) → batch_at b.key part ≡ o → Splits part (b ∷ [])
      by None e = record { front = []; rest = b ∷ []; is = refl; known = tt; unknown = (e, tt) }
      by (Some y) e = record { front = b ∷ []; rest = []; is = refl; known = (same, tt); unknown = tt }
        where
          there : batch_at b.key all ≡ Some y
          there = has-found all b.key y (found-key part b.key y e) (known-within y (found-has part b.key y e))

          same : Has part b
          same = e ∙ sym there ∙ has
  splits b path (below _ before key front has e at rest) = by (batch_at b.key part) refl (splits before front rest)
    where
      whole : IsPath all b (front ++ b ∷ [])
      whole = below b before key front has e at rest

      by : (o : Option Batch) → batch_at b.key part ≡ o → Splits part front → Splits part (front ++ b ∷ [])
      by None f s = record {
        front = s.front;
        rest = s.rest ++ b ∷ [];
        is = ap (λ (l : List Batch). l ++ b ∷ []) s.is ∙ append_assoc s.front s.rest (b ∷ []);
        known = s.known;
        unknown = all-from (λ c. batch_at c.key part ≡ None) (s.rest ++ b ∷ []) (λ c among. which c (among-cases c s.rest (b ∷ []) among));
      }
        where
          which : (c : Batch) → Among c s.rest ⊎ Among c (b ∷ []) → batch_at c.key part ≡ None
          which c (inl h) = all-among (λ x. batch_at x.key part ≡ None) s.rest c s.unknown h
          which c (inr (inl same)) = ap (λ (x : Batch). batch_at x.key part) same ∙ f
          which c (inr (inr h)) = absurd h
      by (Some y) f s = record {
        front = front ++ b ∷ [];
        rest = [];
        is = sym (nothing (front ++ b ∷ []));
        known = all-from (Has part) (front ++ b ∷ []) (λ c among. above-in part all known-within part-closed c b same (on-path b (front ++ b ∷ []) whole c among));
        unknown = tt;
      }
        where
          nothing : (l : List Batch) → l ++ [] ≡ l
          nothing [] = refl
          nothing (x ∷ xs) = ap (λ m. x ∷ m) (nothing xs)

          there : batch_at b.key all ≡ Some y
          there = has-found all b.key y (found-key part b.key y f) (known-within y (found-has part b.key y f))

          same : Has part b
          same = f ∙ sym there ∙ has

  -- a batch that is put off is one as asking takes it
  record IsOff (b : Batch) : Type 0 where
    front : List Batch
    middle : List Batch
    off : IsPutOffIn all w b front middle

  off-is : (b : Batch) → Has (off_in w) b → IsOff b
  off-is b has = by s.rest s.is s.unknown
    where
      in_all : Has all b
      in_all = is.within b (off-parts b has).1

      path : IsPath all b (path_to b.key all)
      path = path_is all b is.sound.set is.sound.closed in_all

      s : Splits part (path_to b.key all)
      s = splits b (path_to b.key all) path

      last : (list : List Batch) → IsPath all b list → (front : List Batch) × (list ≡ front ++ b ∷ [])
      last list (first _ h none) = ([], refl)
      last list (below _ before key front h e at rest) = (front, refl)

      unlearned : Among b s.front → ⊥
      unlearned among =
          let known : batch_at b.key part ≡ Some b = all-among (Has part) s.front b s.known among in
          let none : batch_at b.key part ≡ None = (off-parts b has).0 in
          absurd (cc)

      -- what is not learned of the path ends with the batch
      ends : (xs ys front : List Batch) → xs ++ ys ≡ front ++ b ∷ [] → (Among b xs → ⊥) → (middle : List Batch) × (ys ≡ middle ++ b ∷ [])
      ends [] ys front e never = (front, e)
      ends (x ∷ xs) ys [] e never = absurd (never (inl (cc)))
      ends (x ∷ xs) ys (f ∷ front) e never = ends xs ys front (cc) (λ h. never (inr h))

      by : (rest : List Batch) → path_to b.key all ≡ s.front ++ rest → AllByRecursion (λ c. batch_at c.key part ≡ None) rest → IsOff b
      by rest e unknown =
          let l = last (path_to b.key all) path in
          let m = ends s.front rest l.0 (sym e ∙ l.1) unlearned in
          record {
            front = s.front;
            middle = m.0;
            off = record {
              sound = is.sound;
              set = is.set;
              within = known-within;
              has = in_all;
              history = is.history b has;
              path = e ∙ ap (λ (r : List Batch). s.front ++ r) m.1;
              known = s.known;
              unknown = subst (AllByRecursion (λ c. batch_at c.key part ≡ None)) m.1 unknown;
            };
          }

  -- the gap begins after what is learned of the path
  kept : (t : Batch → Bool) (front rest : List Batch) → AllByRecursion (λ c. t c ≡ true) front → AllByRecursion (λ c. t c ≡ false) rest → filter t (front ++ rest) ≡ front
  kept t [] [] all_known all_unknown = refl
  kept t [] (c ∷ rest) all_known all_unknown = ap (λ u. cond u (c ∷ filter t rest) (filter t rest)) all_unknown.0 ∙ kept t [] rest tt all_unknown.1
  kept t (c ∷ front) rest all_known all_unknown = ap (λ u. cond u (c ∷ filter t (front ++ rest)) (filter t (front ++ rest))) all_known.0 ∙ ap (λ l. c ∷ l) (kept t front rest all_known.1 all_unknown)

  begins : (b : Batch) → Has (off_in w) b
      → (gap_in w b).gap ≡ between (item_or_zero (last_item_of (history_of (filter (λ c. has_key (Some c.key) (learned w.arrived)) (path_to b.key all))))) (first_item b)
  begins b has =
      let o = off-is b has in
      gap_begins all w b o.front o.middle o.off
      ∙ ap (λ (l : List Batch). between (item_or_zero (last_item_of (history_of l))) (first_item b))
      (sym (ap (filter (λ c. has_key (Some c.key) (learned w.arrived))) o.off.path
      ∙ kept (λ c. has_key (Some c.key) (learned w.arrived)) o.front (o.middle ++ b ∷ [])
      (all-from (λ c. has_key (Some c.key) part ≡ true) o.front (λ c among. ap is_some (all-among (Has part) o.front c o.off.known among)))
      (all-from (λ c. has_key (Some c.key) part ≡ false) (o.middle ++ b ∷ []) (λ c among. ap is_some (all-among (λ x. batch_at x.key part ≡ None) (o.middle ++ b ∷ []) c o.off.unknown among)))))

  in-all : (x b : Batch) → Has all b → WaitsFor all x b → Has all x
  in-all x b has waits = above-in all all (λ _ h. h) is.sound.closed x b has waits

  off-in-all : (b : Batch) → Has (off_in w) b → Has all b
  off-in-all b has = is.within b (off-parts b has).1

  abbrev answer-for : Batch → List Batch
  answer-for b = answered (author b) (gap_in w b).gap b.key

  -- of some put-off batches each was asked for, or what it misses was brought; and what was brought was answered with all else for a put-off batch
  record IsBrought (done brought : List Batch) : Type 0 where
    each : (b : Batch) → Among b done → ((x : Batch) → Among x (answer-for b) → Among x brought) ⊎ (has_key (Some (gap_in w b).missing) (batches_of (filter_map own brought)) ≡ true)
    from : (x : Batch) → Among x brought → (b : Batch) × Has (off_in w) b × Among x (answer-for b) × ((y : Batch) → Among y (answer-for b) → Among y brought)

  -- what has a key has it with more
  has-more : (key : BatchKey) (xs ys : List Batch) → has_key (Some key) (batches_of (filter_map own xs)) ≡ true → has_key (Some key) (batches_of (filter_map own (xs ++ ys))) ≡ true
  has-more key xs ys h =
      ap (λ l. has_key (Some key) (batches_of l)) (filter_map-append own xs ys)
      ∙ ap (λ l. has_key (Some key) l) (flat_map-append both (filter_map own xs) (filter_map own ys))
      ∙ front (batches_of (filter_map own xs)) (batches_of (filter_map own ys)) h
    where
      front : (bs cs : List Batch) → has_key (Some key) bs ≡ true → has_key (Some key) (bs ++ cs) ≡ true
      front [] cs e = absurd (true≢false (sym e))
      front (b ∷ bs) cs e = by (key_eq b.key key) e (front bs cs)
        where
          by : (t : Bool) → is_some (if t then Some b else batch_at key bs) ≡ true → (has_key (Some key) bs ≡ true → has_key (Some key) (bs ++ cs) ≡ true)
              → is_some (if t then Some b else batch_at key (bs ++ cs)) ≡ true
          by true f rest = refl
          by false f rest = rest f

  -- one more is gone over
  brought-more : (done : List Batch) (b : Batch) (brought : List Batch) → Has (off_in w) b → IsBrought done brought → (t : Bool) → has_key (Some (gap_in w b).missing) (batches_of (filter_map own brought)) ≡ t
      → IsBrought (b ∷ done) (if t then brought else brought ++ answer-for b)
  brought-more done b brought off are true test = record { each = each; from = are.from }
    where
      each : (d : Batch) → Among d (b ∷ done) → ((x : Batch) → Among x (answer-for d) → Among x brought) ⊎ (has_key (Some (gap_in w d).missing) (batches_of (filter_map own brought)) ≡ true)
      each d (inl same) = inr (subst (λ (x : Batch). has_key (Some (gap_in w x).missing) (batches_of (filter_map own brought)) ≡ true) (sym same) test)
      each d (inr h) = are.each d h
  brought-more done b brought off are false test = record { each = each; from = from }
    where
      each : (d : Batch) → Among d (b ∷ done)
          → ((x : Batch) → Among x (answer-for d) → Among x (brought ++ answer-for b)) ⊎ (has_key (Some (gap_in w d).missing) (batches_of (filter_map own (brought ++ answer-for b))) ≡ true)
      each d (inl same) = inl (λ x among. among-back x brought (answer-for b) (subst (λ (y : Batch). Among x (answer-for y)) same among))
      each d (inr h) = by (are.each d h)
        where
          by : ((x : Batch) → Among x (answer-for d) → Among x brought) ⊎ (has_key (Some (gap_in w d).missing) (batches_of (filter_map own brought)) ≡ true)
              → ((x : Batch) → Among x (answer-for d) → Among x (brought ++ answer-for b)) ⊎ (has_key (Some (gap_in w d).missing) (batches_of (filter_map own (brought ++ answer-for b))) ≡ true)
          by (inl f) = inl (λ x among. among-front x brought (answer-for b) (f x among))
          by (inr k) = inr (has-more (gap_in w d).missing brought (answer-for b) k)

      from : (x : Batch) → Among x (brought ++ answer-for b) → (d : Batch) × Has (off_in w) d × Among x (answer-for d) × ((y : Batch) → Among y (answer-for d) → Among y (brought ++ answer-for b))
      from x among = by (among-cases x brought (answer-for b) among)
        where
          by : Among x brought ⊎ Among x (answer-for b) → (d : Batch) × Has (off_in w) d × Among x (answer-for d) × ((y : Batch) → Among y (answer-for d) → Among y (brought ++ answer-for b))
          by (inl h) = let r = are.from x h in (r.0, r.1, r.2, λ y there. among-front y brought (answer-for b) (r.3 y there))
          by (inr h) = (b, off, h, λ y there. among-back y brought (answer-for b) there)

  -- messages that were brought, as those of batches
  record AreBrought (done : List Batch) (messages : List Message) : Type 0 where
    batches : List Batch
    are : messages ≡ filter_map own batches
    brought : IsBrought done batches

  asked-all : (bs : List Batch) → ((b : Batch) → Among b bs → Has (off_in w) b) → AreBrought bs (asked_from answer [] (map (gap_in w) bs))
  asked-all [] put_off = record { batches = []; are = refl; brought = record { each = λ b h. absurd h; from = λ x h. absurd h } }
  asked-all (b ∷ bs) put_off = one (asked-all bs (λ x among. put_off x (inr among)))
    where
      one : AreBrought bs (asked_from answer [] (map (gap_in w) bs)) → AreBrought (b ∷ bs) (asked_for answer (asked_from answer [] (map (gap_in w) bs)) (gap_in w b))
      one so_far = at (has_key (Some (gap_in w b).missing) (batches_of (filter_map own so_far.batches))) refl
        where
          now : Bool → List Batch
          now t = if t then so_far.batches else so_far.batches ++ answered (author b) (gap_in w b).gap b.key

          sent : (t : Bool) → has_key (Some (gap_in w b).missing) (batches_of (filter_map own so_far.batches)) ≡ t → asked_for answer (asked_from answer [] (map (gap_in w) bs)) (gap_in w b) ≡ filter_map own (now t)
          sent t e =
              ap (λ l. asked_for answer l (gap_in w b)) so_far.are
              ∙ ap (λ u. if u then filter_map own so_far.batches else filter_map own so_far.batches ++ answer (gap_in w b)) e
              ∙ by t
            where
              by : (u : Bool) → (if u then filter_map own so_far.batches else filter_map own so_far.batches ++ answer (gap_in w b)) ≡ filter_map own (now u)
              by true = refl
              by false = ap (λ l. filter_map own so_far.batches ++ l) (is.answers b (put_off b (inl refl))) ∙ sym (filter_map-append own so_far.batches (answered (author b) (gap_in w b).gap b.key))

          at : (t : Bool) → has_key (Some (gap_in w b).missing) (batches_of (filter_map own so_far.batches)) ≡ t → AreBrought (b ∷ bs) (asked_for answer (asked_from answer [] (map (gap_in w) bs)) (gap_in w b))
          at t e = record { batches = now t; are = sent t e; brought = brought-more bs b so_far.batches (put_off b (inl refl)) so_far.brought t e }

  brought-is : AreBrought (off_in w) (brought_to answer w)
  brought-is = asked-all (off_in w) (λ b among. among-has (off_in w) b off-rise among)

  -- what is missing above a batch with a parent is answered
  is-answered : (b x : Batch) → Has (off_in w) b → IsSome b.parent → WaitsFor all x b → batch_at x.key w.arrived ≡ None → Among x (answer-for b)
  is-answered b x b_off parent waits missing =
      let o = off-is b b_off in
      is-among (answer-for b) x (missing_is_answered all (author b) w b x o.front o.middle o.off (is.learned b b_off) parent waits apart unlearned)
    where
      not-arrived : Has w.arrived x → ⊥
      not-arrived has = absurd (let both_are : None ≡ Some x = sym missing ∙ has in cc)

      apart : x ≢ b
      apart same = absurd (not-arrived (subst (Has w.arrived) (sym same) (off-parts b b_off).1))

      unlearned : batch_at x.key part ≡ None
      unlearned = of (batch_at x.key part) refl
        where
          of : (o : Option Batch) → batch_at x.key part ≡ o → batch_at x.key part ≡ None
          of None f = f
          of (Some y) f =
              let there : Has w.arrived y = known-arrived y (found-has part x.key y f) in
              let found : batch_at x.key w.arrived ≡ Some y = has-found w.arrived x.key y (found-key part x.key y f) there in
              absurd (let both_are : None ≡ Some y = sym missing ∙ found in cc)

  answered-above : (b x : Batch) → Has (off_in w) b → Among x (answer-for b) → WaitsFor all x b
  answered-above b x b_off among =
      let o = off-is b b_off in
      answered_is_above all (author b) w b x o.front o.middle o.off (is.learned b b_off) (among-is (answer-for b) x among)

  module _ (brought : List Batch) (are : IsBrought (off_in w) brought) where
    brought-in : (z : Batch) → Among z brought → Has all z
    brought-in z among = let r = are.from z among in in-all z r.0 (off-in-all r.0 r.1) (answered-above r.0 z r.1 r.2)

    -- what is missing above one that was brought was brought with it
    above-brought : (z x : Batch) → Among z brought → WaitsFor all x z → batch_at x.key w.arrived ≡ None → Among x brought
    above-brought z x among waits missing = with-parent r.0.parent refl
      where
        r : (b : Batch) × Has (off_in w) b × Among z (answer-for b) × ((y : Batch) → Among y (answer-for b) → Among y brought)
        r = are.from z among

        with-parent : (o : Option BatchKey) → r.0.parent ≡ o → Among x brought
        with-parent (Some key) e =
            r.3 x (is-answered r.0 x r.1 (subst (λ (o : Option BatchKey). IsSome o) (sym e) refl) (waits-trans all x z r.0 waits (answered-above r.0 z r.1 r.2)) missing)
        with-parent None e =
            let o = off-is r.0 r.1 in
            absurd (subst (Among z) (no-answer all w r.0 o.front o.middle o.off (author r.0) (is.learned r.0 r.1) e) r.2)

    -- where a message has the batch of the earlier key, what is missing above that was brought
    by-missing : (x before : Batch) (key : BatchKey) → batch_at key all ≡ Some before → WaitsFor all x before → batch_at x.key w.arrived ≡ None → x.carrier ≡ None
        → has_key (Some key) (batches_of (filter_map own brought)) ≡ true → Among x brought
    by-missing x before key at waits missing lone = found-in brought (λ z among. among)
      where
        by-batch : (z : Batch) → Among z brought → z.key ≡ key → Among x brought
        by-batch z among k =
            let found : batch_at key all ≡ Some z = has-found all key z k (brought-in z among) in
            let one : Some before ≡ Some z = sym at ∙ found in
            let same : before ≡ z = cc in
            above-brought z x among (subst (λ (y : Batch). WaitsFor all x y) same waits) missing

        by-second : (z second : Batch) → Among z brought → Has all second × (second.carrier ≡ Some z.key) → second.key ≡ key → Among x brought
        by-second z second among s k =
            let found : batch_at key all ≡ Some second = has-found all key second k s.0 in
            let one : Some before ≡ Some second = sym at ∙ found in
            let same : before ≡ second = cc in
            up second s (subst (λ (y : Batch). WaitsFor all x y) same waits)
          where
            up : (y : Batch) → Has all y × (y.carrier ≡ Some z.key) → WaitsFor all x y → Among x brought
            up y c itself = absurd (let both_are : None ≡ Some z.key = sym lone ∙ c.1 in cc)
            up y c (behind _ before_it up_key has f found above_it) =
                let top : y.parent ≡ None = no-parent y.parent (subst (λ (o : Option BatchKey). is_carrier_fit y.key y.parent o ≡ true) c.1 (passes y (is.sound.faultless y has)).carrier) in
                let wants : Some up_key ≡ Some z.key = sym f ∙ ap (λ (o : Option BatchKey). earlier_of o y.carrier) top ∙ c.1 in
                let keys : up_key ≡ z.key = cc in
                let one : Some before_it ≡ Some z = sym found ∙ has-found all up_key z (sym keys) (brought-in z among) in
                let same : before_it ≡ z = cc in
                above-brought z x among (subst (λ (u : Batch). WaitsFor all x u) same above_it) missing
              where
                no-parent : (o : Option BatchKey) → is_carrier_fit y.key o (Some z.key) ≡ true → o ≡ None
                no-parent None h = refl
                no-parent (Some parent) h = absurd (true≢false (sym h))

        found-in : (zs : List Batch) → ((z : Batch) → Among z zs → Among z brought) → has_key (Some key) (batches_of (filter_map own zs)) ≡ true → Among x brought
        found-in [] part_of h = absurd (true≢false (sym h))
        found-in (z ∷ zs) part_of h = by (own z) refl h (found-in zs (λ y among. part_of y (inr among)))
          where
            by : (o : Option Message) → own z ≡ o → has_key (Some key) (batches_of (cons_option o (filter_map own zs))) ≡ true → (has_key (Some key) (batches_of (filter_map own zs)) ≡ true → Among x brought) → Among x brought
            by None f g further = further g
            by (Some sent) f g further = first-of (key_eq sent.batch.key key) refl (sent.second) refl g
              where
                z_in : Has all z
                z_in = brought-in z (part_of z (inl refl))

                its_key : key_eq sent.batch.key key ≡ true → z.key ≡ key
                its_key t = ap (λ (y : Batch). y.key) (sym (is.sent.batch z sent z_in f)) ∙ same-keys sent.batch.key key t

                first-of : (t : Bool) → key_eq sent.batch.key key ≡ t → (o : Option Batch) → sent.second ≡ o
                    → is_some (if t then Some sent.batch else batch_at key (option_to_list o ++ batches_of (filter_map own zs))) ≡ true → Among x brought
                first-of true t o s i = by-batch z (part_of z (inl refl)) (its_key t)
                first-of false t None s i = further i
                first-of false t (Some second) s i = second-of (key_eq second.key key) refl i
                  where
                    second-of : (u : Bool) → key_eq second.key key ≡ u → is_some (if u then Some second else batch_at key (batches_of (filter_map own zs))) ≡ true → Among x brought
                    second-of true u j = by-second z second (part_of z (inl refl)) (is.sent.second z second sent z_in f s) (same-keys second.key key u)
                    second-of false u j = further j

    -- all that put-off batches miss was brought, but for what is carried
    complete : (x b : Batch) → Has (off_in w) b → WaitsFor all x b → batch_at x.key w.arrived ≡ None → x.carrier ≡ None → Among x brought
    complete x b b_off itself missing lone = absurd (let both_are : None ≡ Some b = sym missing ∙ (off-parts b b_off).1 in cc)
    complete x b b_off (behind _ before key has e at waits) missing lone = told (are.each b (has-among (off_in w) b b_off)) (λ put_off. complete x before put_off waits missing lone)
      where
        -- where the batch of the earlier key has arrived, it is put off too
        arrived-up : (Has (off_in w) before → Among x brought) → (y : Batch) → batch_at key w.arrived ≡ Some y → Among x brought
        arrived-up further y f =
            let y_in : Has w.arrived y = found-has w.arrived key y f in
            let found : batch_at key all ≡ Some y = has-found all key y (found-key w.arrived key y f) (is.within y y_in) in
            let one : Some y ≡ Some before = sym found ∙ at in
            let same : y ≡ before = cc in
            there (subst (Has w.arrived) same y_in) (batch_at before.key part) refl
          where
            there : Has w.arrived before → (o : Option Batch) → batch_at before.key part ≡ o → Among x brought
            there came None g = further (among-has (off_in w) before off-rise (off-from before came g))
            there came (Some y2) g =
                let found : batch_at before.key all ≡ Some y2 = has-found all before.key y2 (found-key part before.key y2 g) (known-within y2 (found-has part before.key y2 g)) in
                let here : batch_at before.key all ≡ Some before = is.within before came in
                let x_arrived : Has w.arrived x = learned-above x before (g ∙ sym found ∙ here) waits in
                absurd (let both_are : None ≡ Some x = sym missing ∙ x_arrived in cc)

        carried-up : (Has (off_in w) before → Among x brought) → b.parent ≡ None → (o : Option Batch) → batch_at key w.arrived ≡ o → is_some o ≡ true → Among x brought
        carried-up further p None f h = absurd (true≢false (sym h))
        carried-up further p (Some y) f h = arrived-up further y f

        asked-up : (Has (off_in w) before → Among x brought) → ((z : Batch) → Among z (answer-for b) → Among z brought) → (o : Option BatchKey) → b.parent ≡ o → Among x brought
        asked-up further closed (Some parent) p =
            closed x (is-answered b x b_off (subst (λ (o : Option BatchKey). IsSome o) (sym p) refl) (behind b before key has e at waits) missing)
        asked-up further closed None p =
            let carrier : b.carrier ≡ Some key = sym (ap (λ (q : Option BatchKey). earlier_of q b.carrier) p) ∙ e in
            carried-up further p (batch_at key w.arrived) refl (is.carried b key (off-parts b b_off).1 carrier)

        skipped-up : (Has (off_in w) before → Among x brought) → has_key (Some (gap_in w b).missing) (batches_of (filter_map own brought)) ≡ true → (o : Option Batch) → batch_at key w.arrived ≡ o → Among x brought
        skipped-up further test (Some y) f = arrived-up further y f
        skipped-up further test None f =
            by-missing x before key at waits missing lone
            (subst (λ (o : Option BatchKey). has_key (Some (unwrap_or o b.key)) (batches_of (filter_map own brought)) ≡ true) (missing-earlier w.arrived b key e f) test)

        told : ((z : Batch) → Among z (answer-for b) → Among z brought) ⊎ (has_key (Some (gap_in w b).missing) (batches_of (filter_map own brought)) ≡ true) → (Has (off_in w) before → Among x brought) → Among x brought
        told (inl closed) further = asked-up further closed b.parent refl
        told (inr test) further = skipped-up further test (batch_at key w.arrived) refl

pub all_brought : (all : List Batch) (author : Batch → List Batch) (own : Batch → Option Message) (answer : GapOf → List Message) (w : WorkflowValue) (b x : Batch) (sent : Message)
    → IsBehindIn all author own answer w → Has (off_in w) b → WaitsFor all x b → batch_at x.key w.arrived ≡ None → own x ≡ Some sent → Among sent (brought_to answer w)
all_brought all author own answer w b x sent is has waits missing e =
    let r = brought-is all author own answer w is in
    subst (Among sent) (sym r.are) (among-filter_map own r.batches x sent e (complete all author own answer w is r.batches r.brought x b has waits missing (lone x.carrier refl)))
  where
    x_in : Has all x
    x_in = in-all all author own answer w is x b (is.within b (off-parts all author own answer w is b has).1) waits

    lone : (o : Option BatchKey) → x.carrier ≡ o → x.carrier ≡ None
    lone None f = f
    lone (Some key) f = absurd (let both_are : None ≡ Some sent = sym (is.sent.carried x x_in (subst (λ (o : Option BatchKey). IsSome o) (sym f) refl)) ∙ e in cc)

pub only_brought : (all : List Batch) (author : Batch → List Batch) (own : Batch → Option Message) (answer : GapOf → List Message) (w : WorkflowValue) (sent : Message)
    → IsBehindIn all author own answer w → Among sent (brought_to answer w) → (b x : Batch) × Has (off_in w) b × WaitsFor all x b × (own x ≡ Some sent)
only_brought all author own answer w sent is among =
    let r = brought-is all author own answer w is in
    let m = filter_map-among own r.batches sent (subst (Among sent) r.are among) in
    let from = r.brought.from m.0 m.1 in
    (from.0, m.0, from.1, answered-above all author own answer w is from.0 m.0 from.1 from.2, m.2)

pub gap_is : (all : List Batch) (author : Batch → List Batch) (own : Batch → Option Message) (answer : GapOf → List Message) (w : WorkflowValue) (b : Batch)
    → IsBehindIn all author own answer w → Has (off_in w) b
    → (gap_in w b).gap ≡ between (item_or_zero (last_item_of (history_of (filter (λ c. has_key (Some c.key) (learned w.arrived)) (path_to b.key all))))) (first_item b)
gap_is all author own answer w b is has = begins all author own answer w is b has
