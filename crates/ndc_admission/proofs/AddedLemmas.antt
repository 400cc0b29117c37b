-- The version history of a path is that of the path to the parent with the batch's item added.
use Rattle.std.proofs.Common.{◌≡◌, ℕ, suc, ◌+◌, ◌-◌, ◌<◌, ◌≤◌, Bool, true, false, not, ◌||◌, ◌==◌, nat_lt, List, [], ◌∷◌, ◌++◌, ◌⊎◌, inl, inr, Option, Some, None, Result, Ok, Err, is_some, length, slice_get, slice_set, refl, sym, ◌∙◌, subst, ap, arith, true≢false}
use Rattle.std.specs.Prelude.{if◌then◌else◌}
use Rattle.std.proofs.lemmas.Bool.{and_parts, and_from, eqb-true, eq-eqb, lt-ltb, ltb-false}
use Rattle.ndc_event.specs.Batch.{are_of_version, follow_from, is_parent_fit}
use Rattle.ndc_event.specs.declared.batch.Batch.{Batch}
use Rattle.ndc_event.specs.declared.batch.Event.{Event}
use Rattle.ndc_event.specs.declared.key.BatchKey.{BatchKey}
use Rattle.ndc_history.specs.History.{added, added_behind, last_item}
use Rattle.ndc_history.specs.declared.item.AddError.{AddError}
use Rattle.ndc_history.specs.declared.item.AddError.TheVariants.{NotAfter}
use Rattle.ndc_history.specs.declared.item.Item.{Item}
use Rattle.ndc_model_cells.specs.declared.message.Message.{Message}
use Rattle.ndc_model_sets.proofs.EventLemmas.{before-suc}
use Rattle.ndc_model_sets.proofs.FaultLemmas.{Passes, passes}
use Rattle.ndc_model_sets.proofs.HistoryLemmas.{same-or-not}
use Rattle.ndc_model_sets.proofs.PathIds.{ends, ends-last, history-push}
use Rattle.ndc_model_sets.proofs.PathLemmas.{part-path, path-below, path-first}
use Rattle.ndc_model_sets.proofs.SetLemmas.{found-has, found-key}
use Rattle.ndc_model_sets.specs.Learned.{IsClosed, IsPart, has_key}
use Rattle.ndc_model_sets.specs.Paths.{before_items, events_to, first_id, item_of, last_id, path_to, versions_of}
use Rattle.ndc_model_sets.specs.Reading.{items_of, named}
use Rattle.ndc_model_sets.specs.Sets.{Has, IsSet, batch_at, earlier, earlier_of}
use Rattle.ndc_model_sets.specs.Sound.{IsSound}
use Rattle.ndc_state.specs.Replay.{history_of}
use Rattle.ndc_admission.specs.History.{TellsPathIn, history_continues, is_given, item_of_batch, same_items, tells_path}
use Rattle.ndc_admission.proofs.EndLemmas.{is-self, path-ends}

-- ---- an item after a history

-- the history with an item after its last one, whose place it takes where the versions are one
abbrev with_last : List Item → Item → List Item
with_last [] x = x ∷ []
with_last (i ∷ []) x = before_items i (x ∷ [])
with_last (i ∷ j ∷ items) x = i ∷ with_last (j ∷ items) x

-- what adding gives where the item may follow: the last one replaced, or one more
abbrev joined : Bool → List Item → Item → List Item
joined same items x = if same then slice_set items (length items - 1) x else items ++ x ∷ []

same-flip : (a b : ℕ) → (a == b) ≡ (b == a)
same-flip a b = by (same-or-not a b)
  where
    by : (a ≡ b) ⊎ ((a == b) ≡ false) → (a == b) ≡ (b == a)
    by (inl e) = eq-eqb a b e ∙ sym (eq-eqb b a (sym e))
    by (inr f) = other (b == a) refl
      where
        other : (t : Bool) → (b == a) ≡ t → (a == b) ≡ (b == a)
        other true e = absurd (true≢false (sym (eq-eqb a b (sym (eqb-true b a e))) ∙ f))
        other false e = f ∙ sym e

joined-last : (items : List Item) (last x : Item) → last_item items ≡ Some last → joined (x.version == last.version) items x ≡ with_last items x
joined-last [] last x at = absurd (cc)
joined-last (i ∷ []) last x at =
    let same : i ≡ last = cc in
    ap (λ (l : Item). joined (x.version == l.version) (i ∷ []) x) (sym same)
    ∙ ap (λ t. if t then x ∷ [] else i ∷ x ∷ []) (same-flip x.version i.version)
joined-last (i ∷ j ∷ items) last x at =
    by (x.version == last.version) ∙ ap (λ l. i ∷ l) (joined-last (j ∷ items) last x (sym (ap (slice_get (j ∷ items)) (sym (before-suc (length items)))) ∙ ap (slice_get (i ∷ j ∷ items)) (sym (before-suc (suc (length items)))) ∙ at))
  where
    by : (t : Bool) → joined t (i ∷ j ∷ items) x ≡ i ∷ joined t (j ∷ items) x
    by true =
        ap (λ n. slice_set (i ∷ j ∷ items) n x) (before-suc (suc (length items)))
        ∙ ap (λ n. i ∷ slice_set (j ∷ items) n x) (sym (before-suc (length items)))
    by false = refl

-- an item that comes after the last is added
added-last : (items : List Item) (last x : Item) → last_item items ≡ Some last → last.id < x.id → last.version ≤ x.version → added items x ≡ Ok (with_last items x)
added-last items last x at id version =
    ap (λ o. added_behind o items x) at
    ∙ ap (λ t. if not t || nat_lt x.version last.version then Err NotAfter else if x.version == last.version then Ok (slice_set items (length items - 1) x) else Ok (items ++ x ∷ [])) (lt-ltb last.id x.id id)
    ∙ ap (λ t. if t then Err NotAfter else if x.version == last.version then Ok (slice_set items (length items - 1) x) else Ok (items ++ x ∷ [])) not-below
    ∙ by (x.version == last.version) ∙ ap (λ l. Ok l) (joined-last items last x at)
  where
    not-below : nat_lt x.version last.version ≡ false
    not-below = other (nat_lt x.version last.version) refl
      where
        other : (t : Bool) → nat_lt x.version last.version ≡ t → nat_lt x.version last.version ≡ false
        other true e = let l = Rattle.std.proofs.lemmas.Bool.ltb-true x.version last.version e in absurd (omega (arith, l, version))
        other false e = e

    given : Bool → Result (List Item) AddError
    given t = if t then Ok (slice_set items (length items - 1) x) else Ok (items ++ x ∷ [])

    by : (t : Bool) → given t ≡ Ok (joined t items x)
    by true = refl
    by false = refl

-- an item before it leaves what comes last
before-last : (i : Item) (items : List Item) (x : Item) → before_items i (with_last items x) ≡ with_last (before_items i items) x
before-last i [] x = refl
before-last i (j ∷ []) x = by (same-or-not j.version x.version)
  where
    by : (j.version ≡ x.version) ⊎ ((j.version == x.version) ≡ false) → before_items i (before_items j (x ∷ [])) ≡ with_last (before_items i (j ∷ [])) x
    by (inl e) =
        let t : (j.version == x.version) ≡ true = eq-eqb j.version x.version e in
        ap (λ t. before_items i (if t then x ∷ [] else j ∷ x ∷ [])) t
        ∙ ap (λ n. if i.version == n then x ∷ [] else i ∷ x ∷ []) (sym e)
        ∙ sym (own (i.version == j.version) t)
      where
        own : (s : Bool) → (j.version == x.version) ≡ true → with_last (if s then j ∷ [] else i ∷ j ∷ []) x ≡ (if s then x ∷ [] else i ∷ x ∷ [])
        own true t = ap (λ t. if t then x ∷ [] else j ∷ x ∷ []) t
        own false t = ap (λ t. i ∷ (if t then x ∷ [] else j ∷ x ∷ [])) t
    by (inr f) =
        ap (λ t. before_items i (if t then x ∷ [] else j ∷ x ∷ [])) f ∙ sym (own (i.version == j.version))
      where
        own : (s : Bool) → with_last (if s then j ∷ [] else i ∷ j ∷ []) x ≡ (if s then j ∷ x ∷ [] else i ∷ j ∷ x ∷ [])
        own true = ap (λ t. if t then x ∷ [] else j ∷ x ∷ []) f
        own false = ap (λ t. i ∷ (if t then x ∷ [] else j ∷ x ∷ [])) f
before-last i (j ∷ k ∷ items) x = by (i.version == j.version)
  where
    by : (s : Bool) → (if s then j ∷ with_last (k ∷ items) x else i ∷ j ∷ with_last (k ∷ items) x) ≡ with_last (if s then j ∷ k ∷ items else i ∷ j ∷ k ∷ items) x
    by true = refl
    by false = refl

-- ---- the history of events

-- events of one version have one item
one-item : (version : ℕ) (e : Event) (es : List Event) → are_of_version version (e ∷ es) ≡ true → versions_of (e ∷ es) ≡ record { id = last_id (e ∷ es); version = version } ∷ []
one-item version e [] a =
    let v : e.version ≡ version = eqb-true e.version version (and_parts (e.version == version) true a).0 in
    ap (λ (n : ℕ). record { id = e.id; version = n } ∷ []) v
one-item version e (f ∷ fs) a =
    let p = and_parts (e.version == version) (are_of_version version (f ∷ fs)) a in
    ap (before_items (item_of e)) (one-item version f fs p.1)
    ∙ ap (λ t. if t then record { id = last_id (f ∷ fs); version = version } ∷ [] else item_of e ∷ record { id = last_id (f ∷ fs); version = version } ∷ []) p.0

-- after other events, those of one item put it last
more-events : (x : Item) (events more : List Event) → versions_of more ≡ x ∷ [] → versions_of (events ++ more) ≡ with_last (versions_of events) x
more-events x [] more one = one
more-events x (e ∷ events) more one = ap (before_items (item_of e)) (more-events x events more one) ∙ before-last (item_of e) (versions_of events) x

-- ---- the history of a path

-- ids that follow rise
ends-from : (id : ℕ) (events : List Event) → follow_from id events ≡ true → id ≤ ends id events
ends-from id [] f = omega arith
ends-from id (e ∷ es) f =
    let p = and_parts (e.id == id + 1) (follow_from e.id es) f in
    let own : e.id ≡ id + 1 = eqb-true e.id (id + 1) p.0 in
    let rest = ends-from e.id es p.1 in
    omega (arith, own, rest)

same-self : (items : List Item) → same_items items items ≡ true
same-self [] = refl
same-self (i ∷ items) = and_from _ (same_items items items) (is-self i) (same-self items)

is-given : (r : Result (List Item) AddError) (items history : List Item) → r ≡ Ok items → history ≡ items → is_given r history ≡ true
is-given r items history e f = ap (λ r. is_given r history) e ∙ ap (same_items items) f ∙ same-self items

module _ (all known : List Batch) (sent : Message) (sound : IsSound all) (set : IsSet known) (closed : IsClosed known) (within : IsPart known all) (has : Has all sent.batch)
    (reached : has_key (earlier sent.batch) known ≡ true) (told : TellsPathIn all sent) where
  abbrev b : Batch
  b = sent.batch

  own : Passes b
  own = passes b (sound.faultless b has)

  versions : are_of_version b.key.version (own.event ∷ own.events) ≡ true
  versions = subst (λ (l : List Event). are_of_version b.key.version l ≡ true) own.are own.versions

  item-is : versions_of b.events ≡ item_of_batch b ∷ []
  item-is = ap versions_of own.are ∙ one-item b.key.version own.event own.events versions ∙ ap (λ (l : List Event). record { id = last_id l; version = b.key.version } ∷ []) (sym own.are)

  -- a batch without a parent
  first-told : b.parent ≡ None → tells_path known sent ≡ true
  first-told e =
      ap (λ o. history_continues (items_of (named o known) known) sent) e
      ∙ is-given (Ok (item_of_batch b ∷ [])) (item_of_batch b ∷ []) sent.history refl
      (told ∙ ap (λ (l : List Batch). versions_of (history_of l)) (path-first all b sound.set has e) ∙ ap versions_of (history-push [] b) ∙ item-is)

  -- a batch with a parent
  module _ (key : BatchKey) (e : b.parent ≡ Some key) (before : Batch) (at : batch_at key known ≡ Some before) where
    there : Has known before
    there = found-has known key before at

    key-is : before.key ≡ key
    key-is = found-key known key before at

    in-all : batch_at key all ≡ Some before
    in-all = subst (λ (k : BatchKey). batch_at k all ≡ Some before) key-is (within before there)

    before-path : events_to before.key known ≡ events_to before.key all
    before-path = ap history_of (part-path known all before set closed sound.set sound.closed within there)

    whole : events_to b.key all ≡ events_to before.key all ++ b.events
    whole = ap history_of (path-below all b key sound.set has e) ∙ history-push (path_to key all) b ∙ ap (λ (k : BatchKey). events_to k all ++ b.events) (sym key-is)

    id-after : last_id before.events < last_id b.events
    id-after =
        let fits = sound.parents b before key has e in-all in
        let start : last_id before.events + 1 ≡ own.event.id = fits.ids ∙ ap first_id own.are in
        let up = ends-from own.event.id own.events own.consecutive in
        let end : ends own.event.id own.events ≡ last_id b.events = ends-last own.event.id own.event own.events ∙ sym (ap last_id own.are) in
        omega (arith, start, up, end)

    version-after : before.key.version ≤ b.key.version
    version-after =
        subst (λ (k : BatchKey). k.version ≤ b.key.version) (sym key-is)
        (up_to (nat_lt b.key.version key.version) refl
        (and_parts (not (nat_lt b.key.version key.version)) _ (subst (λ (o : Option BatchKey). is_parent_fit b.key o ≡ true) e own.parent)).0)
      where
        up_to : (t : Bool) → nat_lt b.key.version key.version ≡ t → not t ≡ true → key.version ≤ b.key.version
        up_to true g h = absurd (cc)
        up_to false g h = ltb-false b.key.version key.version g

    below-told : tells_path known sent ≡ true
    below-told =
        ap (λ o. history_continues (items_of (named o known) known) sent) e
        ∙ ap (λ o. history_continues (items_of o known) sent) at
        ∙ ap (λ (l : List Event). history_continues (versions_of l) sent) before-path
        ∙ is-given (added (versions_of (events_to before.key all)) (item_of_batch b)) (with_last (versions_of (events_to before.key all)) (item_of_batch b)) sent.history
        (added-last (versions_of (events_to before.key all)) (item_of_batch before) (item_of_batch b) (path-ends all before sound (within before there)) id-after version-after)
        (told ∙ ap versions_of whole ∙ more-events (item_of_batch b) (events_to before.key all) b.events item-is)

  pub set_tells_path : tells_path known sent ≡ true
  set_tells_path = by b.parent refl
    where
      by : (o : Option BatchKey) → b.parent ≡ o → tells_path known sent ≡ true
      by None e = first-told e
      by (Some key) e = found (batch_at key known) refl (sym (ap (λ k. has_key k known) (ap (λ p. earlier_of p b.carrier) e)) ∙ reached)
        where
          found : (o : Option Batch) → batch_at key known ≡ o → has_key (Some key) known ≡ true → tells_path known sent ≡ true
          found None at some = absurd (true≢false (sym some ∙ ap is_some at))
          found (Some before) at some = below-told key e before at
