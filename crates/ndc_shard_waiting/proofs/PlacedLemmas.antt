-- A message goes to its place among those of a cell: in its workflow it goes to its place by key.
use Rattle.std.proofs.Common.{◌≡◌, Bool, true, false, List, [], ◌∷◌, inl, inr, cond, map, refl, sym, ◌∙◌, subst, ap}
use Rattle.std.specs.Prelude.{if◌then◌else◌}
use Rattle.std.specs.List.{AllByRecursion, filter}
use Rattle.std.specs.Str.{bytes_eq}
use Rattle.std.proofs.lemmas.Bool.{and_parts, and_from}
use Rattle.std.proofs.lemmas.Slice.Eq.{bytes_eq-Decides}
use Rattle.ndc_model_cells.specs.declared.message.Message.{Message}
use Rattle.ndc_model_cells.specs.Arrival.{message_placed}
use Rattle.std.specs.declared.cmp.Ordering.TheVariants.{Less, Equal}
use Rattle.ndc_model_cells.specs.Places.{place_lt, place_of, is_of, is_at, AreBehind, AreInOrder}
use Rattle.ndc_model_cells.proofs.PlaceLemmas.{place-parts, place-total, behind-trans, PlaceIsBefore}
use Rattle.ndc_domain.proofs.Order.{names_same}
use Rattle.ndc_domain.specs.Records.{names_cmp}
use Rattle.ndc_event.specs.Key.{key_lt, key_eq}
use Rattle.ndc_event.specs.declared.batch.Batch.{Batch}
use Rattle.ndc_event.specs.declared.name.Name.{Name}
use Rattle.ndc_event.specs.declared.key.BatchKey.{BatchKey}
use Rattle.ndc_model_sets.proofs.KeyLemmas.{same-keys, key_eq-self}
use Rattle.ndc_model_sets.proofs.Lists.{filter-cases}
use Rattle.ndc_shard_waiting.proofs.FreeLemmas.{not-itself}
use Rattle.ndc_shard_waiting.specs.Waiting.{put_off}
use Rattle.ndc_shard_waiting.proofs.OrderLemmas.{not-at}
use Rattle.ndc_shard_waiting.proofs.OffLemmas.{not-before}
use Rattle.ndc_shard_waiting.proofs.LinkLemmas.{turn}

-- in one workflow places compare by keys
key-order : (domain workflow : Name) (a b : Batch) → is_of domain workflow a ≡ true → is_of domain workflow b ≡ true → place_lt (place_of a) (place_of b) ≡ true → key_lt a.key b.key ≡ true
key-order domain workflow a b one two l = by (place-parts (place_of a) (place_of b) l)
  where
    d : a.domain ≡ b.domain
    d = (bytes_eq-Decides a.domain domain).0 (and_parts (bytes_eq a.domain domain) (bytes_eq a.workflow workflow) one).0
        ∙ sym ((bytes_eq-Decides b.domain domain).0 (and_parts (bytes_eq b.domain domain) (bytes_eq b.workflow workflow) two).0)

    w : a.workflow ≡ b.workflow
    w = (bytes_eq-Decides a.workflow workflow).0 (and_parts (bytes_eq a.domain domain) (bytes_eq a.workflow workflow) one).1
        ∙ sym ((bytes_eq-Decides b.workflow workflow).0 (and_parts (bytes_eq b.domain domain) (bytes_eq b.workflow workflow) two).1)

    differ : (x y : Name) → x ≡ y → names_cmp x y ≡ Less → ⊥
    differ x y e l =
        let same : names_cmp x y ≡ Equal = subst (λ (z : Name). names_cmp x z ≡ Equal) e (names_same x) in cc

    by : PlaceIsBefore (place_of a) (place_of b) → key_lt a.key b.key ≡ true
    by (inl less) = absurd (differ a.domain b.domain d less)
    by (inr (e, inl less)) = absurd (differ a.workflow b.workflow w less)
    by (inr (e, inr (f, k))) = k

-- where all have later keys the message goes first
put-first : (new : Message) (messages : List Message) → AllByRecursion (λ m. key_lt new.batch.key m.batch.key ≡ true) messages → put_off new messages ≡ new ∷ messages
put-first new [] all = refl
put-first new (m ∷ messages) all =
    ap (λ t. if t then new ∷ m ∷ messages else if key_eq new.batch.key m.batch.key then m ∷ messages else m ∷ put_off new messages) all.0

module _ (domain workflow : Name) (new : Message) (own : is_of domain workflow new.batch ≡ true) where
  -- of the messages in later places, those of the workflow have later keys
  later-keys : (messages : List Message) → AreBehind (place_of new.batch) (map (λ m. m.batch) messages)
      → AllByRecursion (λ m. key_lt new.batch.key m.batch.key ≡ true) (filter (λ m. is_of domain workflow m.batch) messages)
  later-keys [] behind = tt
  later-keys (m ∷ messages) behind =
      filter-cases (AllByRecursion (λ x. key_lt new.batch.key x.batch.key ≡ true)) (λ x. is_of domain workflow x.batch) m messages
      (λ e. (key-order domain workflow new.batch m.batch own e behind.0, later-keys messages behind.1)) (λ _. later-keys messages behind.1)

  -- what is at the message's place is of its workflow
  there-of : (m : Message) → is_at (place_of new.batch) m.batch ≡ true → (is_of domain workflow m.batch ≡ true) × (m.batch.key ≡ new.batch.key)
  there-of m h =
      let parts = and_parts (is_of new.batch.domain new.batch.workflow m.batch) (key_eq m.batch.key new.batch.key) h in
      let names = and_parts (bytes_eq m.batch.domain new.batch.domain) (bytes_eq m.batch.workflow new.batch.workflow) parts.0 in
      let mine = and_parts (bytes_eq new.batch.domain domain) (bytes_eq new.batch.workflow workflow) own in (
        and_from (bytes_eq m.batch.domain domain) (bytes_eq m.batch.workflow workflow)
            (subst (λ (n : Name). bytes_eq n domain ≡ true) (sym ((bytes_eq-Decides m.batch.domain new.batch.domain).0 names.0)) mine.0)
            (subst (λ (n : Name). bytes_eq n workflow ≡ true) (sym ((bytes_eq-Decides m.batch.workflow new.batch.workflow).0 names.1)) mine.1),
        same-keys m.batch.key new.batch.key parts.1,
      )

  -- among those of its workflow a message goes to its place by key
  pub placed_by_key : (messages : List Message) → AreInOrder (map (λ m. m.batch) messages)
      → filter (λ m. is_of domain workflow m.batch) (message_placed new messages) ≡ put_off new (filter (λ m. is_of domain workflow m.batch) messages)
  placed_by_key [] ordered = ap (λ t. cond t (new ∷ []) []) own
  placed_by_key (m ∷ messages) ordered =
      by (place_lt (place_of new.batch) (place_of m.batch)) refl (is_at (place_of new.batch) m.batch) refl (placed_by_key messages ordered.1)
    where
      first : place_lt (place_of new.batch) (place_of m.batch) ≡ true
          → filter (λ x. is_of domain workflow x.batch) (new ∷ m ∷ messages) ≡ put_off new (filter (λ x. is_of domain workflow x.batch) (m ∷ messages))
      first l =
          ap (λ t. cond t (new ∷ filter (λ x. is_of domain workflow x.batch) (m ∷ messages)) (filter (λ x. is_of domain workflow x.batch) (m ∷ messages))) own
          ∙ sym (put-first new (filter (λ x. is_of domain workflow x.batch) (m ∷ messages))
          (later-keys (m ∷ messages) (l, behind-trans (place_of new.batch) (place_of m.batch) (map (λ x. x.batch) messages) l ordered.0)))

      there : is_at (place_of new.batch) m.batch ≡ true
          → filter (λ x. is_of domain workflow x.batch) (m ∷ messages) ≡ put_off new (filter (λ x. is_of domain workflow x.batch) (m ∷ messages))
      there h =
          let at = there-of m h in
          let kept : filter (λ x. is_of domain workflow x.batch) (m ∷ messages) ≡ m ∷ filter (λ x. is_of domain workflow x.batch) messages =
          ap (λ t. cond t (m ∷ filter (λ x. is_of domain workflow x.batch) messages) (filter (λ x. is_of domain workflow x.batch) messages)) at.0 in
          let eq : key_eq new.batch.key m.batch.key ≡ true = subst (λ (k : BatchKey). key_eq new.batch.key k ≡ true) (sym at.1) (key_eq-self new.batch.key) in
          let less : key_lt new.batch.key m.batch.key ≡ false = subst (λ (k : BatchKey). key_lt new.batch.key k ≡ false) (sym at.1) (not-itself new.batch.key) in
          kept ∙ sym (ap (put_off new) kept ∙ ap (λ t. if t then new ∷ m ∷ filter (λ x. is_of domain workflow x.batch) messages
          else if key_eq new.batch.key m.batch.key then m ∷ filter (λ x. is_of domain workflow x.batch) messages else m ∷ put_off new (filter (λ x. is_of domain workflow x.batch) messages)) less
          ∙ ap (λ t. if t then m ∷ filter (λ x. is_of domain workflow x.batch) messages else m ∷ put_off new (filter (λ x. is_of domain workflow x.batch) messages)) eq)

      behind : place_lt (place_of m.batch) (place_of new.batch) ≡ true
          → filter (λ x. is_of domain workflow x.batch) (message_placed new messages) ≡ put_off new (filter (λ x. is_of domain workflow x.batch) messages)
          → (t : Bool) → is_of domain workflow m.batch ≡ t
          → cond t (m ∷ filter (λ x. is_of domain workflow x.batch) (message_placed new messages)) (filter (λ x. is_of domain workflow x.batch) (message_placed new messages))
          ≡ put_off new (cond t (m ∷ filter (λ x. is_of domain workflow x.batch) messages) (filter (λ x. is_of domain workflow x.batch) messages))
      behind l rest false e = rest
      behind l rest true e =
          let k : key_lt m.batch.key new.batch.key ≡ true = key-order domain workflow m.batch new.batch e own l in
          let less : key_lt new.batch.key m.batch.key ≡ false = not-before m.batch.key new.batch.key k in
          let eq : key_eq new.batch.key m.batch.key ≡ false = turn new.batch.key m.batch.key ∙ not-at new.batch.key m.batch k in
          ap (λ xs. m ∷ xs) rest
          ∙ sym (ap (λ t. if t then new ∷ m ∷ filter (λ x. is_of domain workflow x.batch) messages
          else if key_eq new.batch.key m.batch.key then m ∷ filter (λ x. is_of domain workflow x.batch) messages else m ∷ put_off new (filter (λ x. is_of domain workflow x.batch) messages)) less
          ∙ ap (λ t. if t then m ∷ filter (λ x. is_of domain workflow x.batch) messages else m ∷ put_off new (filter (λ x. is_of domain workflow x.batch) messages)) eq)

      by : (s : Bool) → place_lt (place_of new.batch) (place_of m.batch) ≡ s → (t : Bool) → is_at (place_of new.batch) m.batch ≡ t
          → filter (λ x. is_of domain workflow x.batch) (message_placed new messages) ≡ put_off new (filter (λ x. is_of domain workflow x.batch) messages)
          → filter (λ x. is_of domain workflow x.batch) (if s then new ∷ m ∷ messages else if t then m ∷ messages else m ∷ message_placed new messages)
          ≡ put_off new (filter (λ x. is_of domain workflow x.batch) (m ∷ messages))
      by true e t f rest = first e
      by false e true f rest = there f
      by false e false f rest = behind (place-total (place_of new.batch) m.batch e f) rest (is_of domain workflow m.batch) refl
