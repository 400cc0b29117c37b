-- Messages that were brought, in key order, each once.
use Rattle.std.proofs.Common.{◌≡◌, Bool, true, false, cond, List, [], ◌∷◌, ◌++◌, ◌⊎◌, inl, inr, Option, Some, None, refl, sym, ◌∙◌, subst, ap, true≢false}
use Rattle.std.specs.Prelude.{if◌then◌else◌, is_some}
use Rattle.std.specs.List.{AllByRecursion, cons_option, filter_map}
use Rattle.ndc_event.specs.Key.{key_eq, key_lt}
use Rattle.ndc_event.specs.declared.batch.Batch.{Batch}
use Rattle.ndc_event.specs.declared.key.BatchKey.{BatchKey}
use Rattle.ndc_model_cells.specs.declared.message.Message.{Message}
use Rattle.ndc_model_cells.specs.Arrival.{has_arrived}
use Rattle.ndc_model_cells.specs.Cells.{Cell}
use Rattle.ndc_model_cells.specs.Workflow.{WorkflowValue}
use Rattle.ndc_model_sets.specs.Learned.{WaitsFor}
use Rattle.ndc_model_sets.specs.Sets.{Has, Rise, batch_at}
use Rattle.ndc_model_sets.proofs.KeyLemmas.{before-irrefl, before-total, before-trans, same-keys}
use Rattle.ndc_model_sets.proofs.Lists.{Among, all-among, all-from, among-filter_map, filter_map-among}
use Rattle.ndc_resend.specs.declared.asking.GapOf.{GapOf}
use Rattle.ndc_resend.specs.Bringing.{IsBehindIn, asked_for, asked_from, brought_to, new_of, put_new, with_brought}
use Rattle.ndc_resend.specs.PutOff.{off_in}
use Rattle.ndc_resend.proofs.AncestorLemmas.{above-in}
use Rattle.ndc_resend.proofs.BringLemmas.{all_brought, off-parts, only_brought}

-- all of the messages come after this key
abbrev AreAfter : BatchKey → List Message → Type 0
AreAfter key messages = AllByRecursion (λ m. key_lt key m.batch.key ≡ true) messages

-- the keys of their batches rise
abbrev MessagesRise : List Message → Type 0
MessagesRise [] = Unit {0}
MessagesRise (m ∷ messages) = AreAfter m.batch.key messages × MessagesRise messages

after-lower : (low high : BatchKey) (messages : List Message) → key_lt low high ≡ true → AreAfter high messages → AreAfter low messages
after-lower low high [] l all = tt
after-lower low high (m ∷ messages) l all = (before-trans low high m.batch.key l all.0, after-lower low high messages l all.1)

-- a message at its place, by cases
with-cases : (P : List Message → Type 0) (new other : Message) (messages : List Message) → (key_lt new.batch.key other.batch.key ≡ true → P (new ∷ other ∷ messages))
    → (key_eq new.batch.key other.batch.key ≡ true → P (new ∷ messages)) → (key_lt other.batch.key new.batch.key ≡ true → P (other ∷ with_brought new messages)) → P (with_brought new (other ∷ messages))
with-cases P new other messages first known later = by (key_lt new.batch.key other.batch.key) (key_eq new.batch.key other.batch.key) refl refl
  where
    by : (s t : Bool) → key_lt new.batch.key other.batch.key ≡ s → key_eq new.batch.key other.batch.key ≡ t
        → P (cond s (new ∷ other ∷ messages) (cond t (new ∷ messages) (other ∷ with_brought new messages)))
    by true t e f = first e
    by false true e f = known f
    by false false e f = later (before-total new.batch.key other.batch.key e f)

all-with : (P : Message → Type 0) (new : Message) (messages : List Message) → P new → AllByRecursion P messages → AllByRecursion P (with_brought new messages)
all-with P new [] p all = (p, tt)
all-with P new (other ∷ messages) p all = with-cases (AllByRecursion P) new other messages (λ _. (p, all)) (λ _. (p, all.1)) (λ _. (all.0, all-with P new messages p all.1))

rise-with : (new : Message) (messages : List Message) → MessagesRise messages → MessagesRise (with_brought new messages)
rise-with new [] rise = (tt, tt)
rise-with new (other ∷ messages) rise =
    with-cases MessagesRise new other messages (λ l. ((l, after-lower new.batch.key other.batch.key messages l rise.0), rise))
    (λ e. (subst (λ (k : BatchKey). AreAfter k messages) (sym (same-keys new.batch.key other.batch.key e)) rise.0, rise.1))
    (λ l. (all-with (λ m. key_lt other.batch.key m.batch.key ≡ true) new messages l rise.0, rise-with new messages rise.1))

-- what is among messages with one more
with-either : (new m : Message) (messages : List Message) → Among m (with_brought new messages) → (m ≡ new) ⊎ Among m messages
with-either new m [] (inl same) = inl same
with-either new m [] (inr none) = absurd none
with-either new m (other ∷ messages) among =
    with-cases (λ list. Among m list → (m ≡ new) ⊎ Among m (other ∷ messages)) new other messages (λ _ h. h) (λ _ h. over h) (λ _ h. by h (with-either new m messages)) among
  where
    over : (m ≡ new) ⊎ Among m messages → (m ≡ new) ⊎ Among m (other ∷ messages)
    over (inl same) = inl same
    over (inr h) = inr (inr h)

    by : (m ≡ other) ⊎ Among m (with_brought new messages) → (Among m (with_brought new messages) → (m ≡ new) ⊎ Among m messages) → (m ≡ new) ⊎ Among m (other ∷ messages)
    by (inl same) rest = inr (inl same)
    by (inr h) rest = over (rest h)

-- a message of this key is among them
abbrev HasKey : BatchKey → List Message → Type 0
HasKey key messages = (m : Message) × Among m messages × (m.batch.key ≡ key)

with-itself : (new : Message) (messages : List Message) → Among new (with_brought new messages)
with-itself new [] = inl refl
with-itself new (other ∷ messages) = with-cases (Among new) new other messages (λ _. inl refl) (λ _. inl refl) (λ _. inr (with-itself new messages))

with-others : (new m : Message) (messages : List Message) → Among m messages → Among m (with_brought new messages) ⊎ (m.batch.key ≡ new.batch.key)
with-others new m [] none = absurd none
with-others new m (other ∷ messages) (inl same) =
    with-cases (λ list. Among m list ⊎ (m.batch.key ≡ new.batch.key)) new other messages (λ _. inl (inr (inl same)))
    (λ e. inr (ap (λ (x : Message). x.batch.key) same ∙ sym (same-keys new.batch.key other.batch.key e))) (λ _. inl (inl same))
with-others new m (other ∷ messages) (inr among) =
    with-cases (λ list. Among m list ⊎ (m.batch.key ≡ new.batch.key)) new other messages (λ _. inl (inr (inr among))) (λ _. inl (inr among)) (λ _. further (with-others new m messages among))
  where
    further : Among m (with_brought new messages) ⊎ (m.batch.key ≡ new.batch.key) → Among m (other ∷ with_brought new messages) ⊎ (m.batch.key ≡ new.batch.key)
    further (inl h) = inl (inr h)
    further (inr e) = inr e

-- messages that rise are told by what is among them
same-rising : (one two : List Message) → MessagesRise one → MessagesRise two → ((m : Message) → Among m one → Among m two) → ((m : Message) → Among m two → Among m one) → one ≡ two
same-rising [] [] rise other there back = refl
same-rising [] (y ∷ ys) rise other there back = absurd (back y (inl refl))
same-rising (x ∷ xs) [] rise other there back = absurd (there x (inl refl))
same-rising (x ∷ xs) (y ∷ ys) rise other there back = by (there x (inl refl)) (back y (inl refl)) (same-rising xs ys rise.1 other.1)
  where
    later : (a : Message) (ls : List Message) (m : Message) → AreAfter a.batch.key ls → Among m ls → key_lt a.batch.key m.batch.key ≡ true
    later a ls m after among = all-among (λ n. key_lt a.batch.key n.batch.key ≡ true) ls m after among

    tail : (a b : Message) (ls ms : List Message) → a ≡ b → AreAfter a.batch.key ls → ((m : Message) → (m ≡ a) ⊎ Among m ls → (m ≡ b) ⊎ Among m ms) → (m : Message) → Among m ls → Among m ms
    tail a b ls ms same after goes m among = which (goes m (inr among))
      where
        which : (m ≡ b) ⊎ Among m ms → Among m ms
        which (inl at) = absurd (before-irrefl a.batch.key (subst (λ (n : Message). key_lt a.batch.key n.batch.key ≡ true) (at ∙ sym same) (later a ls m after among)))
        which (inr h) = h

    joined : x ≡ y → (((m : Message) → Among m xs → Among m ys) → ((m : Message) → Among m ys → Among m xs) → xs ≡ ys) → x ∷ xs ≡ y ∷ ys
    joined same rest = let more : xs ≡ ys = rest (tail x y xs ys same rise.0 there) (tail y x ys xs (sym same) other.0 back) in λ i. same i ∷ more i

    by : (x ≡ y) ⊎ Among x ys → (y ≡ x) ⊎ Among y xs → (((m : Message) → Among m xs → Among m ys) → ((m : Message) → Among m ys → Among m xs) → xs ≡ ys) → x ∷ xs ≡ y ∷ ys
    by (inl same) _ rest = joined same rest
    by (inr h) (inl same) rest = joined (sym same) rest
    by (inr h) (inr k) rest = absurd (before-irrefl x.batch.key (before-trans x.batch.key y.batch.key x.batch.key (later x xs y rise.0 k) (later y ys x other.0 h)))

module _ (cell : Cell) where
  put-rise : (ordered messages : List Message) → MessagesRise ordered → MessagesRise (put_new cell ordered messages)
  put-rise ordered [] rise = rise
  put-rise ordered (m ∷ messages) rise = put-rise (if has_arrived m.batch cell then ordered else with_brought m ordered) messages (by (has_arrived m.batch cell))
    where
      by : (t : Bool) → MessagesRise (if t then ordered else with_brought m ordered)
      by true = rise
      by false = rise-with m ordered rise

  -- what is put was there, or is new
  put-either : (ordered messages : List Message) (m : Message) → Among m (put_new cell ordered messages) → Among m ordered ⊎ (Among m messages × (has_arrived m.batch cell ≡ false))
  put-either ordered [] m among = inl among
  put-either ordered (new ∷ messages) m among = by (put-either (if has_arrived new.batch cell then ordered else with_brought new ordered) messages m among)
    where
      at-once : (t : Bool) → has_arrived new.batch cell ≡ t → Among m (if t then ordered else with_brought new ordered) → Among m ordered ⊎ (Among m (new ∷ messages) × (has_arrived m.batch cell ≡ false))
      at-once true e h = inl h
      at-once false e h = which (with-either new m ordered h)
        where
          which : (m ≡ new) ⊎ Among m ordered → Among m ordered ⊎ (Among m (new ∷ messages) × (has_arrived m.batch cell ≡ false))
          which (inl same) = inr (inl same, ap (λ (x : Message). has_arrived x.batch cell) same ∙ e)
          which (inr k) = inl k

      by : Among m (if has_arrived new.batch cell then ordered else with_brought new ordered) ⊎ (Among m messages × (has_arrived m.batch cell ≡ false))
          → Among m ordered ⊎ (Among m (new ∷ messages) × (has_arrived m.batch cell ≡ false))
      by (inl h) = at-once (has_arrived new.batch cell) refl h
      by (inr h) = inr (inr h.0, h.1)

  -- what was there stays, or gives way to one of its key
  put-key : (ordered messages : List Message) (key : BatchKey) → HasKey key ordered → HasKey key (put_new cell ordered messages)
  put-key ordered [] key has = has
  put-key ordered (new ∷ messages) key has = put-key (if has_arrived new.batch cell then ordered else with_brought new ordered) messages key (by (has_arrived new.batch cell))
    where
      by : (t : Bool) → HasKey key (if t then ordered else with_brought new ordered)
      by true = has
      by false = which (with-others new has.0 ordered has.1)
        where
          which : Among has.0 (with_brought new ordered) ⊎ (has.0.batch.key ≡ new.batch.key) → HasKey key (with_brought new ordered)
          which (inl h) = (has.0, h, has.2)
          which (inr e) = (new, with-itself new ordered, sym e ∙ has.2)

  -- each new one is put, or one of its key
  put-new : (ordered messages : List Message) (m : Message) → Among m messages → has_arrived m.batch cell ≡ false → HasKey m.batch.key (put_new cell ordered messages)
  put-new ordered [] m none new = absurd none
  put-new ordered (first ∷ messages) m (inl same) new =
      put-key (if has_arrived first.batch cell then ordered else with_brought first ordered) messages m.batch.key
      (subst (λ (t : Bool). HasKey m.batch.key (if t then ordered else with_brought first ordered)) (sym (ap (λ (x : Message). has_arrived x.batch cell) (sym same) ∙ new))
      (first, with-itself first ordered, ap (λ (x : Message). x.batch.key) (sym same)))
  put-new ordered (first ∷ messages) m (inr among) new = put-new (if has_arrived first.batch cell then ordered else with_brought first ordered) messages m among new

-- the messages of batches that rise
rise-own : (own : Batch → Option Message) (bs : List Batch) → Rise bs → ((b : Batch) (m : Message) → Among b bs → own b ≡ Some m → m.batch ≡ b) → MessagesRise (filter_map own bs)
rise-own own [] rise is = tt
rise-own own (b ∷ bs) rise is = by (own b) refl (rise-own own bs rise.1 (λ x m among e. is x m (inr among) e))
  where
    by : (o : Option Message) → own b ≡ o → MessagesRise (filter_map own bs) → MessagesRise (cons_option o (filter_map own bs))
    by None e rest = rest
    by (Some sent) e rest = (all-from (λ m. key_lt sent.batch.key m.batch.key ≡ true) (filter_map own bs) after, rest)
      where
        after : (m : Message) → Among m (filter_map own bs) → key_lt sent.batch.key m.batch.key ≡ true
        after m among =
            let f = filter_map-among own bs m among in
            let l : key_lt b.key f.0.key ≡ true = all-among (λ x. key_lt b.key x.key ≡ true) bs f.0 rise.0 f.1 in
            subst (λ (x : Batch). key_lt x.key m.batch.key ≡ true) (sym (is b sent (inl refl) e))
            (subst (λ (x : Batch). key_lt b.key x.key ≡ true) (sym (is f.0 m (inr f.1) f.2)) l)

-- what is brought and has not arrived is the messages of all that is missing above what is put off
pub brought_is_missing : (all : List Batch) (author : Batch → List Batch) (own : Batch → Option Message) (answer : GapOf → List Message) (w : WorkflowValue) (cell : Cell) (missing : List Batch)
    → IsBehindIn all author own answer w → Rise missing → ((x : Batch) → Has all x → has_arrived x cell ≡ is_some (batch_at x.key w.arrived))
    → ((x : Batch) → Among x missing → (b : Batch) × Has (off_in w) b × WaitsFor all x b × (batch_at x.key w.arrived ≡ None))
    → ((b x : Batch) → Has (off_in w) b → WaitsFor all x b → batch_at x.key w.arrived ≡ None → Among x missing)
    → new_of cell (brought_to answer w) ≡ filter_map own missing
brought_is_missing all author own answer w cell missing is rise told each back =
    same-rising (new_of cell (brought_to answer w)) (filter_map own missing) (put-rise cell [] (brought_to answer w) tt) (rise-own own missing rise (λ b m among e. is.sent.batch b m (within b among) e)) there here
  where
    put-off-in : (b : Batch) → Has (off_in w) b → Has all b
    put-off-in b has = is.within b (off-parts all author own answer w is b has).1

    within : (x : Batch) → Among x missing → Has all x
    within x among = let f = each x among in above-in all all (λ _ h. h) is.sound.closed x f.0 (put-off-in f.0 f.1) f.2

    no-one : (o : Option Batch) → is_some o ≡ false → o ≡ None
    no-one None e = refl
    no-one (Some b) e = absurd (true≢false e)

    there : (m : Message) → Among m (new_of cell (brought_to answer w)) → Among m (filter_map own missing)
    there m among = by (put-either cell [] (brought_to answer w) m among)
      where
        by : Among m [] ⊎ (Among m (brought_to answer w) × (has_arrived m.batch cell ≡ false)) → Among m (filter_map own missing)
        by (inl none) = absurd none
        by (inr h) =
            let r = only_brought all author own answer w m is h.0 in
            let x_in : Has all r.1 = above-in all all (λ _ g. g) is.sound.closed r.1 r.0 (put-off-in r.0 r.2) r.3 in
            let same : m.batch ≡ r.1 = is.sent.batch r.1 m x_in r.4 in
            let gone : batch_at r.1.key w.arrived ≡ None = no-one (batch_at r.1.key w.arrived) (sym (told r.1 x_in) ∙ ap (λ (x : Batch). has_arrived x cell) (sym same) ∙ h.1) in
            among-filter_map own missing r.1 m r.4 (back r.0 r.1 r.2 r.3 gone)

    here : (m : Message) → Among m (filter_map own missing) → Among m (new_of cell (brought_to answer w))
    here m among =
        let f = filter_map-among own missing m among in
        let e = each f.0 f.1 in
        let x_in : Has all f.0 = within f.0 f.1 in
        let same : m.batch ≡ f.0 = is.sent.batch f.0 m x_in f.2 in
        let new : has_arrived m.batch cell ≡ false = ap (λ (x : Batch). has_arrived x cell) same ∙ told f.0 x_in ∙ ap is_some e.3 in
        found m f.0 x_in f.2 same (put-new cell [] (brought_to answer w) m (all_brought all author own answer w e.0 f.0 m is e.1 e.2 e.3 f.2) new)
      where
        -- the one of its key is it
        found : (n : Message) (x : Batch) → Has all x → own x ≡ Some n → n.batch ≡ x → HasKey n.batch.key (new_of cell (brought_to answer w)) → Among n (new_of cell (brought_to answer w))
        found n x x_in e same h =
            let g = filter_map-among own missing h.0 (there h.0 h.1) in
            let y_in : Has all g.0 = within g.0 g.1 in
            let y_key : g.0.key ≡ x.key = ap (λ (b : Batch). b.key) (sym (is.sent.batch g.0 h.0 y_in g.2)) ∙ h.2 ∙ ap (λ (b : Batch). b.key) same in
            let one : Some g.0 ≡ Some x = sym (subst (λ (k : BatchKey). batch_at k all ≡ Some g.0) y_key y_in) ∙ x_in in
            let batches : g.0 ≡ x = cc in
            let messages : Some h.0 ≡ Some n = sym g.2 ∙ ap own batches ∙ e in
            let last : h.0 ≡ n = cc in
            subst (λ (z : Message). Among z (new_of cell (brought_to answer w))) last h.1

-- the last of the gaps is asked for first
pub asked_last : (answer : GapOf → List Message) (brought : List Message) (gaps left : List GapOf) (gap : GapOf) → gaps ≡ left ++ gap ∷ [] → asked_from answer brought gaps ≡ asked_from answer (asked_for answer brought gap) left
asked_last answer brought gaps left gap e = ap (asked_from answer brought) e ∙ by left
  where
    by : (ones : List GapOf) → asked_from answer brought (ones ++ gap ∷ []) ≡ asked_from answer (asked_for answer brought gap) ones
    by [] = refl
    by (one ∷ ones) = ap (λ l. asked_for answer l one) (by ones)
