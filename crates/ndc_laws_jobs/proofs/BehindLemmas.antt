-- A reader's workflow, of which something is put off, beside all that was written of it.
use Rattle.std.proofs.Common.{◌≡◌, ℕ, ◌<◌, Bool, true, false, not, cond, List, [], ◌∷◌, Option, Some, None, inl, inr, refl, sym, ◌∙◌, subst, ap, true≢false}
use Rattle.std.specs.List.{cons_option, filter, filter_map}
use Rattle.std.specs.Prelude.{IsSome, find, is_some, if◌then◌else◌, option_to_list}
use Rattle.std.proofs.lemmas.Bool.{and_from, and_parts}
use Rattle.ndc_script_types.specs.WellFormed.{IsCluster}
use Rattle.ndc_script_types.specs.declared.script.Header.{Header}
use Rattle.ndc_model.specs.Again.{cell_by, served_by_author}
use Rattle.ndc_laws_jobs.proofs.AuthorLemmas.{HasAuthor, has-author}
use Rattle.ndc_model_cells.specs.declared.message.Message.{Message}
use Rattle.ndc_model_cells.specs.Arrival.{has_arrived}
use Rattle.ndc_model_cells.specs.Cells.{Cell, arrived_of, both, carries, is_learned_in, learned_message, learned_of, message_at, message_found, message_of, own_message, put_off_in}
use Rattle.ndc_model_cells.specs.Places.{batch_there, is_of, place_of}
use Rattle.ndc_model_cells.specs.Workflow.{WorkflowValue, workflow_of}
use Rattle.ndc_model_cells.proofs.PlaceLemmas.{set_of_workflow}
use Rattle.ndc_domain.specs.Clusters.{writer_of}
use Rattle.ndc_domain.specs.declared.clusters.ClusterNo.{ClusterNo}
use Rattle.ndc_event.specs.Batch.{is_carrier_fit}
use Rattle.ndc_event.specs.Key.{key_eq}
use Rattle.ndc_event.specs.declared.batch.Batch.{Batch}
use Rattle.ndc_event.specs.declared.key.BatchKey.{BatchKey}
use Rattle.ndc_event.specs.declared.name.Name.{Name}
use Rattle.ndc_laws_reached.proofs.ArrivalLemmas.{own-is}
use Rattle.ndc_laws_cells.proofs.FoundLemmas.{at-there, find-passes}
use Rattle.ndc_laws_reached.proofs.MessageLemmas.{learned-arrived, learned-true}
use Rattle.ndc_laws_reached.proofs.WrittenLemmas.{arrived-written, cell-is, names-of, sound-of}
use Rattle.ndc_model.specs.Facts.{IsReached}
use Rattle.ndc_model.specs.Moves.{all_written}
use Rattle.ndc_model.specs.World.{World, cell_at}
use Rattle.ndc_model.proofs.ListLemmas.{among-is}
use Rattle.ndc_model_sets.specs.Learned.{IsPart, has_key, learned}
use Rattle.ndc_model_sets.specs.Paths.{events_to, is_wanted, versions_of}
use Rattle.ndc_model_sets.specs.Sets.{Has, IsSet, Rise, batch_at, earlier, earlier_of}
use Rattle.ndc_model_sets.specs.Sound.{IsSound}
use Rattle.ndc_model_sets.proofs.BranchLemmas.{among-has, has-among, same-batch}
use Rattle.ndc_model_sets.proofs.CurrentLemmas.{key-wanted}
use Rattle.ndc_model_sets.proofs.FaultLemmas.{passes}
use Rattle.ndc_model_sets.proofs.KeyLemmas.{key_eq-self, same-keys}
use Rattle.ndc_model_sets.proofs.LearnedLemmas.{IsSet-learned, learned_closed}
use Rattle.ndc_model_sets.proofs.Lists.{Among, among-filter, among-filter_map, filter-among, filter_map-among, find-among, find-only}
use Rattle.ndc_model_sets.proofs.SetLemmas.{found-has, found-key}
use Rattle.ndc_resend.specs.Asked.{HasLearned}
use Rattle.ndc_resend.specs.Bringing.{AreSent, IsBehindIn}
use Rattle.ndc_resend.specs.PutOff.{gap_in, history_in, message_with, off_in, remote_of}
use Rattle.ndc_resend.specs.Serving.{answered}
use Rattle.ndc_resend.proofs.AncestorLemmas.{answered_in}

-- what is learned of a workflow, by place and by key
there-at : (domain workflow : Name) (key : BatchKey) (bs : List Batch) → ((x : Batch) → Among x bs → is_of domain workflow x ≡ true)
    → batch_there bs (record { domain = domain; workflow = workflow; key = key }) ≡ batch_at key bs
there-at domain workflow key bs own = sym (at-there domain workflow key bs) ∙ ap (batch_at key) (whole bs own)
  where
    whole : (cs : List Batch) → ((x : Batch) → Among x cs → is_of domain workflow x ≡ true) → filter (is_of domain workflow) cs ≡ cs
    whole [] each = refl
    whole (c ∷ cs) each = ap (λ t. cond t (c ∷ filter (is_of domain workflow) cs) (filter (is_of domain workflow) cs)) (each c (inl refl)) ∙ ap (λ l. c ∷ l) (whole cs (λ x among. each x (inr among)))

-- a wanted batch is found by its key
carrier-wanted : (o : Option BatchKey) (c : Batch) → o ≡ Some c.key → is_wanted o c ≡ true
carrier-wanted o c e = ap (λ w. is_wanted w c) e ∙ key_eq-self c.key

-- what a batch is made of gives the same where it passes
filter_map-same : {X Y : Type 0} (f g : X → Option Y) (xs : List X) → ((x : X) → Among x xs → f x ≡ g x) → filter_map f xs ≡ filter_map g xs
filter_map-same f g [] each = refl
filter_map-same f g (x ∷ xs) each = ap (λ o. cons_option o (filter_map f xs)) (each x (inl refl)) ∙ ap (cons_option (g x)) (filter_map-same f g xs (λ y among. each y (inr among)))

module _ (header : Header) (lines : ℕ) (w : World) (is : IsReached header lines w) (shard : ℕ) (below : shard < header.shards) where
  abbrev all : List Batch
  all = all_written header shard w

  abbrev message_in : Batch → Option Message
  message_in x = own_message (filter (is_of x.domain x.workflow) (all_written header shard w)) (all_written header shard w) x

  -- the message of a batch that a cell has learned is that of all that was written
  learned-is : (cell_cluster : ClusterNo) → IsCluster header cell_cluster → (x : Batch) → Has (learned_of x.domain x.workflow (cell_at cell_cluster shard w)) x
      → learned_message (cell_at cell_cluster shard w) x ≡ message_in x
  learned-is c known x has = by (is_some x.carrier) refl
    where
      by : (t : Bool) → is_some x.carrier ≡ t → learned_message (cell_at c shard w) x ≡ message_in x
      by true e = ap (λ u. cond u None (Some (message_of (learned_of x.domain x.workflow (cell_at c shard w)) (cell_at c shard w).arrived x))) e ∙ sym (ap (λ u. cond u None (Some (message_of (filter (is_of x.domain x.workflow) all) all x))) e)
      by false e =
          let made : learned_message (cell_at c shard w) x ≡ Some (message_of (learned_of x.domain x.workflow (cell_at c shard w)) (cell_at c shard w).arrived x) =
          ap (λ u. cond u None (Some (message_of (learned_of x.domain x.workflow (cell_at c shard w)) (cell_at c shard w).arrived x))) e in
          made ∙ sym ((learned-true header lines w is shard below c known x (message_of (learned_of x.domain x.workflow (cell_at c shard w)) (cell_at c shard w).arrived x) has made).1)

  -- the message at its place is so too
  sent-at : (c : ClusterNo) → IsCluster header c → (x : Batch) → Has (learned_of x.domain x.workflow (cell_at c shard w)) x → message_at (cell_at c shard w) (place_of x) ≡ message_in x
  sent-at c known x has =
      ap (message_found (cell_at c shard w))
      (there-at x.domain x.workflow x.key (learned_of x.domain x.workflow (cell_at c shard w))
      (λ y there. (learned-arrived header lines w is shard below c known x.domain x.workflow y (among-has (learned_of x.domain x.workflow (cell_at c shard w)) y learned-set there)).1) ∙ has)
      ∙ learned-is c known x has
    where
      learned-set : Rise (learned_of x.domain x.workflow (cell_at c shard w))
      learned-set = (IsSet-learned (arrived_of x.domain x.workflow (cell_at c shard w)) (set_of_workflow x.domain x.workflow (cell_at c shard w) (cell-is header lines w is shard below c known))).ordered

  module _ (reader : ClusterNo) (known : IsCluster header reader) where
    abbrev cell : Cell
    cell = cell_at reader shard w

    off-written : (p : Batch) → Among p (put_off_in cell) → Among p all
    off-written p among = arrived-written header lines w is shard below reader known p ((filter-among (λ b. not (is_learned_in cell b)) cell.arrived p among).1)

    -- of one workflow
    module _ (h : Batch) (listed : Among h (put_off_in cell)) where
      abbrev value : WorkflowValue
      value = workflow_of h.domain h.workflow (cell_at reader shard w)

      abbrev mine : List Batch
      mine = filter (is_of h.domain h.workflow) (all_written header shard w)

      abbrev held : List Batch
      held = arrived_of h.domain h.workflow (cell_at reader shard w)

      abbrev off : List Batch
      off = filter (is_of h.domain h.workflow) (put_off_in (cell_at reader shard w))

      pub mine-sound : IsSound mine
      mine-sound = sound-of header lines w is shard below h (off-written h listed)

      pub held-set : IsSet held
      held-set = set_of_workflow h.domain h.workflow cell (cell-is header lines w is shard below reader known)

      pub held-part : IsPart held mine
      held-part x has =
          let f = filter-among (is_of h.domain h.workflow) cell.arrived x (has-among held x has) in
          among-has mine x mine-sound.set.ordered (among-filter (is_of h.domain h.workflow) all x f.0 (arrived-written header lines w is shard below reader known x f.1))

      pub off-is : (y : Batch) → Has held y → has_key (Some y.key) (learned held) ≡ false → Among y off
      off-is y has e =
          let f = filter-among (is_of h.domain h.workflow) cell.arrived y (has-among held y has) in
          let n = names-of h.domain h.workflow y f.0 in
          let unlearned : is_learned_in cell y ≡ false =
          subst (λ (d : Name). has_key (Some y.key) (learned_of d y.workflow cell) ≡ false) (sym n.0) (subst (λ (u : Name). has_key (Some y.key) (learned_of h.domain u cell) ≡ false) (sym n.1) e) in
          among-filter (is_of h.domain h.workflow) (put_off_in cell) y f.0 (among-filter (λ b. not (is_learned_in cell b)) cell.arrived y (ap not unlearned) f.1)

      pub off-held : (y : Batch) → Among y off → Has held y × Among y (put_off_in cell) × (is_of h.domain h.workflow y ≡ true)
      off-held y among =
          let f = filter-among (is_of h.domain h.workflow) (put_off_in cell) y among in
          let a = filter-among (λ b. not (is_learned_in cell b)) cell.arrived y f.1 in
          (among-has held y held-set.ordered (among-filter (is_of h.domain h.workflow) cell.arrived y f.0 a.1), f.1, f.0)

      -- ways among the batches of one of the same workflow
      pub same-way : (p : Batch) → is_of h.domain h.workflow p ≡ true → filter (is_of p.domain p.workflow) all ≡ mine
      same-way p own =
          let n = names-of h.domain h.workflow p own in
          ap (λ (d : Name). filter (is_of d p.workflow) all) n.0 ∙ ap (λ (u : Name). filter (is_of h.domain u) all) n.1

      -- whether one of the workflow has arrived
      pub arrived-at : (x : Batch) → is_of h.domain h.workflow x ≡ true → has_arrived x cell ≡ is_some (batch_at x.key held)
      arrived-at x own =
          let n = names-of h.domain h.workflow x own in
          ap is_some (subst (λ (d : Name). batch_there cell.arrived (place_of x) ≡ batch_at x.key (arrived_of d h.workflow cell)) n.0
          (subst (λ (u : Name). batch_there cell.arrived (place_of x) ≡ batch_at x.key (arrived_of x.domain u cell)) n.1 (sym (at-there x.domain x.workflow x.key cell.arrived))))

      -- what is put off of the workflow
      pub off-there : (b : Batch) → Has (off_in value) b → Has held b × Among b (put_off_in cell) × (is_of h.domain h.workflow b ≡ true)
      off-there b has =
          let f = filter-among (λ x. not (has_key (Some x.key) (learned held))) held b (has-among (off_in value) b has) in
          off-held b (off-is b (among-has held b held-set.ordered f.1) (negated (has_key (Some b.key) (learned held)) f.0))
        where
          negated : (t : Bool) → not t ≡ true → t ≡ false
          negated true e = sym e
          negated false e = refl

      -- of the workflow's batches the one with the key of another is it
      one-of-key : (x y : Batch) → Has mine x → Has mine y → x.key ≡ y.key → x ≡ y
      one-of-key x y x_has y_has same = same-batch mine x y x_has y_has same

      -- a batch with a carrier has no parent
      no-parent : (b : Batch) (key : BatchKey) → Has mine b → b.carrier ≡ Some key → b.parent ≡ None
      no-parent b key has e = by b.parent (subst (λ (o : Option BatchKey). is_carrier_fit b.key b.parent o ≡ true) e (passes b (mine-sound.faultless b has)).carrier)
        where
          by : (o : Option BatchKey) → is_carrier_fit b.key o (Some key) ≡ true → o ≡ None
          by None h = refl
          by (Some parent) h = absurd (true≢false (sym h))

      in-mine : (x : Batch) → Among x all → is_of h.domain h.workflow x ≡ true → Has mine x
      in-mine x among own = among-has mine x mine-sound.set.ordered (among-filter (is_of h.domain h.workflow) all x own among)

      from-mine : (x : Batch) → Has mine x → Among x all × (is_of h.domain h.workflow x ≡ true)
      from-mine x has = let f = filter-among (is_of h.domain h.workflow) all x (has-among mine x has) in (f.1, f.0)

      -- what one carries is of its workflow
      carried-own : (b second : Batch) → Has mine b → Among second all → carries b second ≡ true → Has mine second × (second.carrier ≡ Some b.key)
      carried-own b second has among c =
          let p = and_parts (is_of b.domain b.workflow second) (is_wanted second.carrier b) c in
          let n = names-of h.domain h.workflow b (from-mine b has).1 in
          (in-mine second among (subst (λ (d : Name). is_of d h.workflow second ≡ true) n.0 (subst (λ (u : Name). is_of b.domain u second ≡ true) n.1 p.0)), key-wanted second.carrier b p.1)

      sent : AreSent mine (λ x. own_message (filter (is_of x.domain x.workflow) (all_written header shard w)) (all_written header shard w) x)
      sent = record {
        carried = λ b has some. ap (λ t. cond t None (Some (message_of (filter (is_of b.domain b.workflow) all) all b))) (has-some b.carrier some);
        lone = λ b has none. ap (λ t. is_some (cond t None (Some (message_of (filter (is_of b.domain b.workflow) all) all b)))) (ap is_some none);
        batch = λ b m has e. sym (ap (λ (n : Message). n.batch) (own-is (filter (is_of b.domain b.workflow) all) all b m e).1);
        second = λ b second m has e s. carrying b second has (ap (λ (n : Message). n.second) (own-is (filter (is_of b.domain b.workflow) all) all b m e).1 ∙ s);
      }
        where
          has-some : (o : Option BatchKey) → IsSome o → is_some o ≡ true
          has-some None some = absurd (true≢false (sym some))
          has-some (Some key) some = refl

          carrying : (b second : Batch) → Has mine b → find (carries b) all ≡ Some second → Has mine second × (second.carrier ≡ Some b.key)
          carrying b second has e = carried-own b second has (find-among (carries b) all second e) (find-passes (carries b) all second e)

      -- a carried batch has arrived with its carrier
      with-carrier : (b : Batch) (key : BatchKey) → Has held b → b.carrier ≡ Some key → has_key (Some key) held ≡ true
      with-carrier b key has e = by (batch_at key mine) refl (subst (λ (o : Option BatchKey). has_key o mine ≡ true) wants (mine-sound.closed b in_mine))
        where
          in_mine : Has mine b
          in_mine = held-part b has

          wants : earlier b ≡ Some key
          wants = ap (λ (o : Option BatchKey). earlier_of o b.carrier) (no-parent b key in_mine e) ∙ e

          by : (o : Option Batch) → batch_at key mine ≡ o → is_some o ≡ true → has_key (Some key) held ≡ true
          by None f g = absurd (true≢false (sym g))
          by (Some c) f g = subst (λ (k : BatchKey). has_key (Some k) held ≡ true) c_key (sym (arrived-at c c_from.1) ∙ come ∙ (arrived-at b (from-mine b in_mine).1 ∙ ap is_some has))
            where
              c_has : Has mine c
              c_has = found-has mine key c f

              c_key : c.key ≡ key
              c_key = found-key mine key c f

              c_from : Among c all × (is_of h.domain h.workflow c ≡ true)
              c_from = from-mine c c_has

              same-names : is_of c.domain c.workflow b ≡ true
              same-names =
                  let n = names-of h.domain h.workflow c c_from.1 in
                  subst (λ (d : Name). is_of d c.workflow b ≡ true) (sym n.0) (subst (λ (u : Name). is_of h.domain u b ≡ true) (sym n.1) (from-mine b in_mine).1)

              carried : carries c b ≡ true
              carried = and_from (is_of c.domain c.workflow b) (is_wanted b.carrier c) same-names (carrier-wanted b.carrier c (e ∙ ap Some (sym c_key)))

              come : has_arrived c cell ≡ has_arrived b cell
              come = (is.fair.arrivals reader shard known below).carried c b (among-is all c c_from.0) (among-is all b (from-mine b in_mine).0) carried

      abbrev sent-for : Batch → Message
      sent-for b = message_of (filter (is_of b.domain b.workflow) (all_written header shard w)) (all_written header shard w) b

      -- the message of a batch with a parent came with the version history of its path
      with-history : (b : Batch) → Has (off_in value) b → IsSome b.parent → remote_of b value.waiting ≡ versions_of (events_to b.key mine)
      with-history b off_has parent =
          ap (λ t. if t then history_in (message_with b.key value.waiting) else []) (has-some b.parent parent)
          ∙ ap history_in found ∙ ap (λ (bs : List Batch). versions_of (events_to b.key bs)) (same-way b o.2)
        where
          o : Has held b × Among b (put_off_in cell) × (is_of h.domain h.workflow b ≡ true)
          o = off-there b off_has

          in_mine : Has mine b
          in_mine = held-part b o.0

          has-some : (p : Option BatchKey) → IsSome p → is_some p ≡ true
          has-some None some = absurd (true≢false (sym some))
          has-some (Some key) some = refl

          lone : (p : Option BatchKey) → b.carrier ≡ p → is_some b.carrier ≡ false
          lone None e = ap is_some e
          lone (Some key) e = absurd (true≢false (sym parent ∙ ap is_some (no-parent b key in_mine e)))

          made : message_in b ≡ Some (sent-for b)
          made = ap (λ t. cond t None (Some (sent-for b))) (lone b.carrier refl)

          waits : value.waiting ≡ filter (λ m. is_of h.domain h.workflow m.batch) (filter_map message_in (put_off_in cell))
          waits = ap (filter (λ m. is_of h.domain h.workflow m.batch)) (is.fair.messages reader shard known below).waiting

          there : Among (sent-for b) value.waiting
          there =
              subst (Among (sent-for b)) (sym waits)
              (among-filter (λ m. is_of h.domain h.workflow m.batch) (filter_map message_in (put_off_in cell)) (sent-for b) o.2 (among-filter_map message_in (put_off_in cell) b (sent-for b) made o.1))

          own-key : has_key (Some b.key) (both (sent-for b)) ≡ true
          own-key = ap (λ t. is_some (cond t (Some b) (batch_at b.key (option_to_list (sent-for b).second)))) (key_eq-self b.key)

          -- no other message has it
          only : (m : Message) → Among m value.waiting → has_key (Some b.key) (both m) ≡ true → m ≡ (sent-for b)
          only m among test = by (key_eq m.batch.key b.key) refl m.second refl test
            where
              f : (is_of h.domain h.workflow m.batch ≡ true) × Among m (filter_map message_in (put_off_in cell))
              f = filter-among (λ n. is_of h.domain h.workflow n.batch) (filter_map message_in (put_off_in cell)) m (subst (Among m) waits among)

              g : (x : Batch) × Among x (put_off_in cell) × (message_in x ≡ Some m)
              g = filter_map-among message_in (put_off_in cell) m f.1

              x_is : m.batch ≡ g.0
              x_is = sym (ap (λ (n : Message). n.batch) (own-is (filter (is_of g.0.domain g.0.workflow) all) all g.0 m g.2).1)

              x_in : Has mine g.0
              x_in = in-mine g.0 (off-written g.0 g.1) (subst (λ (x : Batch). is_of h.domain h.workflow x ≡ true) x_is f.0)

              by : (t : Bool) → key_eq m.batch.key b.key ≡ t → (s : Option Batch) → m.second ≡ s → is_some (cond t (Some m.batch) (batch_at b.key (option_to_list s))) ≡ true → m ≡ (sent-for b)
              by true e s second passes_it =
                  let key : g.0.key ≡ b.key = ap (λ (x : Batch). x.key) (sym x_is) ∙ same-keys m.batch.key b.key e in
                  let same : g.0 ≡ b = one-of-key g.0 b x_in in_mine key in
                  let messages : Some m ≡ Some (sent-for b) = sym g.2 ∙ ap message_in same ∙ made in
                  cc
              by false e None second passes_it = absurd (true≢false (sym passes_it))
              by false e (Some s) second passes_it = of-second (key_eq s.key b.key) refl passes_it
                where
                  of-second : (t : Bool) → key_eq s.key b.key ≡ t → is_some (cond t (Some s) None) ≡ true → m ≡ (sent-for b)
                  of-second false k passes_second = absurd (true≢false (sym passes_second))
                  of-second true k passes_second =
                      let c = sent.second g.0 s m x_in g.2 second in
                      let same : s ≡ b = one-of-key s b c.0 in_mine (same-keys s.key b.key k) in
                      absurd (true≢false (sym parent ∙ ap is_some (no-parent b g.0.key in_mine (subst (λ (x : Batch). x.carrier ≡ Some g.0.key) same c.1))))

          found : message_with b.key value.waiting ≡ Some (sent-for b)
          found = find-only (λ m. has_key (Some b.key) (both m)) value.waiting (sent-for b) own-key there only

      abbrev author : Batch → List Batch
      author b = learned_of h.domain h.workflow (cell_by shard w (writer_of header.clusters b.key.version))

      abbrev its : ClusterNo → List Batch
      its c = learned_of h.domain h.workflow (cell_at c shard w)

      -- its author has learned it, and answers by its messages
      record Answers (b : Batch) : Type 0 where
        holds : HasLearned mine (author b) b
        told : served_by_author header shard w (gap_in value b) ≡ filter_map message_in (answered (author b) (gap_in value b).gap b.key)

      answers : (b : Batch) → Has (off_in value) b → Answers b
      answers b off_has = with-names b.domain b.workflow n.0 n.1 a.own.version a.own.learned
        where
          o : Has held b × Among b (put_off_in cell) × (is_of h.domain h.workflow b ≡ true)
          o = off-there b off_has

          n : (b.domain ≡ h.domain) × (b.workflow ≡ h.workflow)
          n = names-of h.domain h.workflow b o.2

          a : HasAuthor header lines w is shard below b
          a = has-author header lines w is shard below b (off-written b o.1)

          its-arrived : IsSet (arrived_of h.domain h.workflow (cell_at a.author shard w))
          its-arrived = set_of_workflow h.domain h.workflow (cell_at a.author shard w) (cell-is header lines w is shard below a.author a.known)

          its-own : (x : Batch) → Has (its a.author) x → Has mine x
          its-own x has =
              let l = learned-arrived header lines w is shard below a.author a.known h.domain h.workflow x has in
              in-mine x (arrived-written header lines w is shard below a.author a.known x l.0) l.1

          with-names : (d u : Name) → d ≡ h.domain → u ≡ h.workflow → writer_of header.clusters b.key.version ≡ Some a.author → Has (learned_of d u (cell_at a.author shard w)) b → Answers b
          with-names d u same_d same_u version has = record {
            holds = subst (λ (c : Option ClusterNo). HasLearned mine (learned_of h.domain h.workflow (cell_by shard w c)) b) (sym version) (record {
              set = (learned_closed (arrived_of h.domain h.workflow (cell_at a.author shard w)) its-arrived).0;
              closed = (learned_closed (arrived_of h.domain h.workflow (cell_at a.author shard w)) its-arrived).1;
              within = its-own;
              has = b_has;
            });
            told =
                (λ i. filter_map (λ x. message_at (cell_by shard w (version i)) (place_of x)) (answered (learned_of (n.0 i) (n.1 i) (cell_by shard w (version i))) (gap_in value b).gap b.key))
                ∙ filter_map-same (λ x. message_at (cell_at a.author shard w) (place_of x)) message_in (answered (its a.author) (gap_in value b).gap b.key) one
                ∙ ap (λ (c : Option ClusterNo). filter_map message_in (answered (learned_of h.domain h.workflow (cell_by shard w c)) (gap_in value b).gap b.key)) (sym version);
          }
            where
              b_has : Has (its a.author) b
              b_has = subst (λ (e : Name). Has (learned_of e h.workflow (cell_at a.author shard w)) b) same_d (subst (λ (e : Name). Has (learned_of d e (cell_at a.author shard w)) b) same_u has)

              one : (x : Batch) → Among x (answered (its a.author) (gap_in value b).gap b.key) → message_at (cell_at a.author shard w) (place_of x) ≡ message_in x
              one x among =
                  let x_has : Has (its a.author) x = among-has (its a.author) x (learned_closed (arrived_of h.domain h.workflow (cell_at a.author shard w)) its-arrived).0.ordered (answered_in (its a.author) (gap_in value b).gap b.key x among) in
                  let m = names-of h.domain h.workflow x (from-mine x (its-own x x_has)).1 in
                  sent-at a.author a.known x
                  (subst (λ (e : Name). Has (learned_of e x.workflow (cell_at a.author shard w)) x) (sym m.0) (subst (λ (e : Name). Has (learned_of h.domain e (cell_at a.author shard w)) x) (sym m.1) x_has))

      pub behind : IsBehindIn mine author (λ x. own_message (filter (is_of x.domain x.workflow) (all_written header shard w)) (all_written header shard w) x) (served_by_author header shard w) (workflow_of h.domain h.workflow (cell_at reader shard w))
      behind = record {
        sound = mine-sound;
        set = held-set;
        within = held-part;
        carried = with-carrier;
        history = with-history;
        learned = λ b has. (answers b has).holds;
        sent = sent;
        answers = λ b has. (answers b has).told;
      }
