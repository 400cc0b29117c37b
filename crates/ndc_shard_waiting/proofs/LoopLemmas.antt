-- Freeing, message by message.
use Rattle.std.proofs.Common.{◌≡◌, Bool, true, false, ◌&&◌, ◌||◌, List, [], ◌∷◌, ◌++◌, Option, Some, None, IsSome, cond, refl, sym, ◌∙◌, subst, ap, true≢false}
use Rattle.std.specs.Prelude.{is_some, option_to_list, if◌then◌else◌}
use Rattle.std.specs.List.{AllByRecursion, list_any}
use Rattle.std.proofs.lemmas.Bool.{and_parts, and_from}
use Rattle.std.proofs.lemmas.List.{append-nil}
use Rattle.std.proofs.lemmas.List.Concat.{flat_map-append}
use Rattle.ndc_model_cells.specs.declared.message.Message.{Message}
use Rattle.ndc_model_cells.specs.Cells.{both}
use Rattle.ndc_event.specs.Key.{key_lt, key_eq}
use Rattle.ndc_event.specs.declared.batch.Batch.{Batch}
use Rattle.ndc_event.specs.declared.key.BatchKey.{BatchKey}
use Rattle.ndc_model_sets.specs.Learned.{has_key}
use Rattle.ndc_model_sets.specs.Sets.{earlier}
use Rattle.ndc_model_sets.proofs.KeyLemmas.{before-irrefl, before-trans, same-keys, key_eq-self}
use Rattle.ndc_model_sets.proofs.Lists.{Among, all-from, list_any-one}
use Rattle.ndc_model_sets.specs.Keys.{is_key_among}
use Rattle.ndc_model_cells.specs.Messages.{batches_of, waits_for}
use Rattle.ndc_shard_waiting.specs.Waiting.{CanWait, AreWaiting, freed_by, kept_by, freed, still_put_off}
use Rattle.ndc_shard_waiting.specs.Finding.{message_at, without_message}
use Rattle.ndc_shard_waiting.specs.Linking.{is_link_for, is_awaited, is_woken}
use Rattle.ndc_shard_waiting.proofs.OrderLemmas.{all-more, has-append}
use Rattle.ndc_shard_waiting.proofs.KeptLemmas.{has-neither}
use Rattle.ndc_shard_waiting.proofs.OffLemmas.{not-behind}
use Rattle.ndc_shard_waiting.proofs.PutLemmas.{both-after}
use Rattle.ndc_shard_waiting.proofs.LinkLemmas.{turn}
use Rattle.ndc_shard_waiting.proofs.ShelfLemmas.{KeysRise, keys-rise, message-key, message-all, any-at, any-without-same, any-without-other, woken-only, without-waiting}

-- tests that agree on each agree on all
any-same : (f g : Message → Bool) (messages : List Message) → AllByRecursion (λ m. f m ≡ g m) messages → list_any f messages ≡ list_any g messages
any-same f g [] all = refl
any-same f g (m ∷ messages) all = ap (λ t. t || list_any f messages) all.0 ∙ ap (λ t. g m || t) (any-same f g messages all.1)

any-or : (f g : Message → Bool) (messages : List Message) → list_any (λ m. f m || g m) messages ≡ (list_any f messages || list_any g messages)
any-or f g [] = refl
any-or f g (m ∷ messages) = ap (λ t. (f m || g m) || t) (any-or f g messages) ∙ mix (f m) (g m) (list_any f messages) (list_any g messages)
  where
    mix : (a b c d : Bool) → ((a || b) || (c || d)) ≡ ((a || c) || (b || d))
    mix true b c d = refl
    mix false true true d = refl
    mix false true false d = refl
    mix false false true d = refl
    mix false false false d = refl

and-or : (a b c : Bool) → (a && (b || c)) ≡ ((a && b) || (a && c))
and-or true b c = refl
and-or false b c = refl

-- a batch that waits, waits for one of two lists
waits-or : (o : Option BatchKey) (one two : List Batch) → IsSome o → has_key o (one ++ two) ≡ (has_key o one || has_key o two)
waits-or None one two some = absurd (true≢false (sym some))
waits-or (Some key) one two some = has-append key one two

pub woken-join : (one two : List Batch) (key : BatchKey) (messages : List Message) → AllByRecursion CanWait messages
    → is_woken (one ++ two) key messages ≡ (is_woken one key messages || is_woken two key messages)
woken-join one two key messages each =
    any-same (λ m. key_eq m.batch.key key && waits_for (one ++ two) m) (λ m. (key_eq m.batch.key key && waits_for one m) || (key_eq m.batch.key key && waits_for two m)) messages
    (all-more CanWait (λ m. (key_eq m.batch.key key && waits_for (one ++ two) m) ≡ ((key_eq m.batch.key key && waits_for one m) || (key_eq m.batch.key key && waits_for two m)))
    (λ m can. ap (λ t. key_eq m.batch.key key && t) (waits-or (earlier m.batch) one two can.waits) ∙ and-or (key_eq m.batch.key key) (waits_for one m) (waits_for two m)) messages each)
    ∙ any-or (λ m. key_eq m.batch.key key && waits_for one m) (λ m. key_eq m.batch.key key && waits_for two m) messages

-- what waits for one batch is awaited by its key
pub woken-one : (b : Batch) (key : BatchKey) (messages : List Message) → AllByRecursion CanWait messages → is_woken (b ∷ []) key messages ≡ is_awaited b.key key messages
woken-one b key messages each =
    any-same (λ m. key_eq m.batch.key key && waits_for (b ∷ []) m) (λ m. is_link_for b.key key (earlier m.batch) m.batch.key) messages
    (all-more CanWait (λ m. (key_eq m.batch.key key && waits_for (b ∷ []) m) ≡ is_link_for b.key key (earlier m.batch) m.batch.key) (λ m can. by m (earlier m.batch) can.waits) messages each)
  where
    some-if : (t : Bool) → is_some (cond t (Some b) None) ≡ t
    some-if true = refl
    some-if false = refl

    and-swap : (s t : Bool) → (s && t) ≡ (t && s)
    and-swap true true = refl
    and-swap true false = refl
    and-swap false true = refl
    and-swap false false = refl

    by : (m : Message) (o : Option BatchKey) → IsSome o → (key_eq m.batch.key key && has_key o (b ∷ [])) ≡ is_link_for b.key key o m.batch.key
    by m None some = absurd (true≢false (sym some))
    by m (Some k) some =
        ap (λ t. key_eq m.batch.key key && t) (some-if (key_eq b.key k) ∙ turn b.key k) ∙ and-swap (key_eq m.batch.key key) (key_eq k b.key)

-- what waits for a message's batches is awaited by their keys
pub woken-alone : (b : Batch) (o : Option Batch) (key : BatchKey) (messages : List Message) → o ≡ None → AllByRecursion CanWait messages
    → is_woken (b ∷ option_to_list o) key messages ≡ is_awaited b.key key messages
woken-alone b o key messages e each = ap (λ x. is_woken (b ∷ option_to_list x) key messages) e ∙ woken-one b key messages each

pub woken-two : (b second : Batch) (o : Option Batch) (key : BatchKey) (messages : List Message) → o ≡ Some second → AllByRecursion CanWait messages
    → is_woken (b ∷ option_to_list o) key messages ≡ (is_awaited b.key key messages || is_awaited second.key key messages)
woken-two b second o key messages e each =
    ap (λ x. is_woken (b ∷ option_to_list x) key messages) e ∙ woken-join (b ∷ []) (second ∷ []) key messages each
    ∙ ap (λ t. t || is_woken (second ∷ []) key messages) (woken-one b key messages each) ∙ ap (λ t. is_awaited b.key key messages || t) (woken-one second key messages each)

-- the first message that is freed is freed first
pub first-freed : (so_far : List Batch) (waiting : List Message) (key : BatchKey) (m : Message) → KeysRise waiting → AllByRecursion CanWait waiting → message_at key waiting ≡ Some m
    → waits_for so_far m ≡ true → AllByRecursion (λ x. key_lt x.batch.key key ≡ true → waits_for so_far x ≡ false) waiting
    → (freed_by so_far waiting ≡ m ∷ freed_by (so_far ++ both m) (without_message key waiting)) × (kept_by so_far waiting ≡ kept_by (so_far ++ both m) (without_message key waiting))
first-freed so_far [] key m rise each h w none = absurd (nothing h)
  where
    nothing : message_at key [] ≡ Some m → ⊥
    nothing h = cc
first-freed so_far (x ∷ xs) key m rise each h w none = by (key_eq x.batch.key key) refl h (λ g. first-freed so_far xs key m rise.1 each.1 g w none.1)
  where
    by : (t : Bool) → key_eq x.batch.key key ≡ t → cond t (Some x) (message_at key xs) ≡ Some m
        → (message_at key xs ≡ Some m → (freed_by so_far xs ≡ m ∷ freed_by (so_far ++ both m) (without_message key xs)) × (kept_by so_far xs ≡ kept_by (so_far ++ both m) (without_message key xs)))
        → (freed_by so_far (x ∷ xs) ≡ m ∷ freed_by (so_far ++ both m) (if t then xs else x ∷ without_message key xs))
        × (kept_by so_far (x ∷ xs) ≡ kept_by (so_far ++ both m) (if t then xs else x ∷ without_message key xs))
    by true e g rest =
        let same : x ≡ m = cc in
        let waits : waits_for so_far x ≡ true = subst (λ (y : Message). waits_for so_far y ≡ true) (sym same) w in (
          ap (λ t. if t then x ∷ freed_by (so_far ++ both x) xs else freed_by so_far xs) waits ∙ ap (λ (y : Message). y ∷ freed_by (so_far ++ both y) xs) same,
          ap (λ t. if t then kept_by (so_far ++ both x) xs else x ∷ kept_by so_far xs) waits ∙ ap (λ (y : Message). kept_by (so_far ++ both y) xs) same,
        )
    by false e g rest =
        let r = rest g in
        let before : key_lt x.batch.key m.batch.key ≡ true = message-all (λ y. key_lt x.batch.key y.batch.key ≡ true) xs key m rise.0 g in
        let low : key_lt x.batch.key key ≡ true = subst (λ (k : BatchKey). key_lt x.batch.key k ≡ true) (message-key xs key m g) before in
        let not_yet : waits_for so_far x ≡ false = none.0 low in
        let can : CanWait m = message-all CanWait xs key m each.1 g in
        let never : waits_for (so_far ++ both m) x ≡ false =
        has-neither (earlier x.batch) so_far (both m) not_yet (not-behind x.batch (both m) each.0.message.back each.0.waits (both-after x.batch.key m can.message before)) in (
          ap (λ t. if t then x ∷ freed_by (so_far ++ both x) xs else freed_by so_far xs) not_yet ∙ r.0
              ∙ ap (λ l. m ∷ l) (sym (ap (λ t. if t then x ∷ freed_by ((so_far ++ both m) ++ both x) (without_message key xs) else freed_by (so_far ++ both m) (without_message key xs)) never)),
          ap (λ t. if t then kept_by (so_far ++ both x) xs else x ∷ kept_by so_far xs) not_yet ∙ ap (λ l. x ∷ l) r.1
              ∙ sym (ap (λ t. if t then kept_by ((so_far ++ both m) ++ both x) (without_message key xs) else x ∷ kept_by (so_far ++ both m) (without_message key xs)) never),
        )

-- where none waits, none is freed and all are kept
pub none-freed : (so_far : List Batch) (waiting : List Message) → AllByRecursion (λ x. waits_for so_far x ≡ false) waiting → (freed_by so_far waiting ≡ []) × (kept_by so_far waiting ≡ waiting)
none-freed so_far [] all = (refl, refl)
none-freed so_far (x ∷ xs) all =
    let r = none-freed so_far xs all.1 in (
      ap (λ t. if t then x ∷ freed_by (so_far ++ both x) xs else freed_by so_far xs) all.0 ∙ r.0,
      ap (λ t. if t then kept_by (so_far ++ both x) xs else x ∷ kept_by so_far xs) all.0 ∙ ap (λ l. x ∷ l) r.1,
    )

-- a key that comes before all is none of them
not-among : (one : BatchKey) (keys : List BatchKey) → AllByRecursion (λ k. key_lt one k ≡ true) keys → is_key_among one keys ≡ false
not-among one [] all = refl
not-among one (k ∷ keys) all = ap (λ t. t || is_key_among one keys) (by (key_eq k one) refl) ∙ not-among one keys all.1
  where
    by : (t : Bool) → key_eq k one ≡ t → t ≡ false
    by true e = absurd (before-irrefl one (subst (λ (x : BatchKey). key_lt one x ≡ true) (same-keys k one e) all.0))
    by false e = refl

-- where no message has the key, none passes
pub any-none : (g : Message → Bool) (one : BatchKey) → ((m : Message) → g m ≡ true → m.batch.key ≡ one) → (messages : List Message) → message_at one messages ≡ None → list_any g messages ≡ false
any-none g one only [] = λ h. refl
any-none g one only (m ∷ messages) = by (key_eq m.batch.key one) refl (any-none g one only messages)
  where
    not-here : key_eq m.batch.key one ≡ false → (t : Bool) → g m ≡ t → t ≡ false
    not-here n true e = absurd (true≢false (sym (subst (λ (k : BatchKey). key_eq k one ≡ true) (sym (only m e)) (key_eq-self one)) ∙ n))
    not-here n false e = refl

    by : (t : Bool) → key_eq m.batch.key one ≡ t → (message_at one messages ≡ None → list_any g messages ≡ false) → cond t (Some m) (message_at one messages) ≡ None
        → (g m || list_any g messages) ≡ false
    by true e rest h = absurd (cc)
    by false e rest h = ap (λ t. t || list_any g messages) (not-here e (g m) refl) ∙ rest h

-- in the midst of freeing: what is out and what is freed of the rest is all that is freed; the keys to do are those of the messages of the rest that wait for what is out
pub record Frees (new : Message) (all : List Message) (todo : List BatchKey) (out rest : List Message) : Type 0 where
  pub gone : out ++ freed_by (batches_of out) rest ≡ freed new all
  pub kept : kept_by (batches_of out) rest ≡ still_put_off new all
  pub woken : (one : BatchKey) → is_key_among one todo ≡ is_woken (batches_of out) one rest

pub frees-start : (new : Message) (all : List Message) (todo : List BatchKey) → ((one : BatchKey) → is_key_among one todo ≡ (is_key_among one [] || is_woken (both new) one all))
    → Frees new all todo (new ∷ []) all
unfolding freed still_put_off
frees-start new all todo woken = record {
  gone = ap (λ l. new ∷ freed_by l all) (append-nil (both new));
  kept = ap (λ l. kept_by l all) (append-nil (both new));
  woken = λ one. woken one ∙ ap (λ l. is_woken l one all) (sym (append-nil (both new)));
}

module _ (new : Message) (all : List Message) (todo : List BatchKey) (out rest : List Message) (are : AreWaiting rest) (key : BatchKey) (later : List BatchKey)
    (is : todo ≡ key ∷ later) (least : AllByRecursion (λ other. key_lt key other ≡ true) later) (frees : Frees new all todo out rest) where
  rising : KeysRise rest
  rising = keys-rise rest are.set.ordered

  woken-now : (one : BatchKey) → (key_eq key one || is_key_among one later) ≡ is_woken (batches_of out) one rest
  woken-now one = sym (ap (is_key_among one) is) ∙ frees.woken one

  key-woken : is_woken (batches_of out) key rest ≡ true
  key-woken = sym (woken-now key) ∙ ap (λ t. t || is_key_among key later) (key_eq-self key)

  -- the key is that of a message
  pub key-there : IsSome (message_at key rest)
  key-there = by (message_at key rest) refl
    where
      by : (o : Option Message) → message_at key rest ≡ o → is_some o ≡ true
      by (Some m) e = refl
      by None e =
          absurd (true≢false (sym key-woken ∙ any-none (λ m. key_eq m.batch.key key && waits_for (batches_of out) m) key (woken-only (batches_of out) key) rest e))

  -- no message before it waits for what is out
  none-before : AllByRecursion (λ x. key_lt x.batch.key key ≡ true → waits_for (batches_of out) x ≡ false) rest
  none-before = all-from (λ x. key_lt x.batch.key key ≡ true → waits_for (batches_of out) x ≡ false) rest (λ x among l. by x among l (waits_for (batches_of out) x) refl)
    where
      lower : (x : Message) → key_lt x.batch.key key ≡ true → is_key_among x.batch.key (key ∷ later) ≡ false
      lower x l =
          not-among x.batch.key (key ∷ later) (l, all-more (λ other. key_lt key other ≡ true) (λ other. key_lt x.batch.key other ≡ true) (λ other g. before-trans x.batch.key key other l g) later least)

      by : (x : Message) → Among x rest → key_lt x.batch.key key ≡ true → (t : Bool) → waits_for (batches_of out) x ≡ t → t ≡ false
      by x among l false e = refl
      by x among l true e =
          let found : is_woken (batches_of out) x.batch.key rest ≡ true =
          list_any-one (λ m. key_eq m.batch.key x.batch.key && waits_for (batches_of out) m) rest x among (and_from (key_eq x.batch.key x.batch.key) (waits_for (batches_of out) x) (key_eq-self x.batch.key) e) in
          absurd (true≢false (sym found ∙ sym (woken-now x.batch.key) ∙ lower x l))

  pub frees-step : (m : Message) (now : List BatchKey) → message_at key rest ≡ Some m
      → ((one : BatchKey) → is_key_among one now ≡ (is_key_among one later || is_woken (both m) one (without_message key rest)))
      → Frees new all now (out ++ m ∷ []) (without_message key rest)
  frees-step m now found woken =
      let waits : waits_for (batches_of out) m ≡ true =
      (and_parts (key_eq m.batch.key key) (waits_for (batches_of out) m)
      (sym (any-at (λ x. key_eq x.batch.key key && waits_for (batches_of out) x) key (woken-only (batches_of out) key) rest m rising found) ∙ key-woken)).1 in
      let first = first-freed (batches_of out) rest key m rising are.each found waits none-before in
      record {
        gone = ap (λ l. (out ++ m ∷ []) ++ freed_by l (without_message key rest)) more ∙ shift out m (freed_by (batches_of out ++ both m) (without_message key rest))
            ∙ ap (λ l. out ++ l) (sym first.0) ∙ frees.gone;
        kept = ap (λ l. kept_by l (without_message key rest)) more ∙ sym first.1 ∙ frees.kept;
        woken = λ one. woken one ∙ ap (λ t. t || is_woken (both m) one (without_message key rest)) (by one (key_eq key one) refl (woken-now one))
            ∙ sym (woken-join (batches_of out) (both m) one (without_message key rest) (without-waiting key rest are).each)
            ∙ ap (λ l. is_woken l one (without_message key rest)) (sym more);
      }
    where
      more : batches_of (out ++ m ∷ []) ≡ batches_of out ++ both m
      more = flat_map-append both out (m ∷ []) ∙ ap (λ l. batches_of out ++ l) (append-nil (both m))

      shift : (xs : List Message) (x : Message) (ys : List Message) → (xs ++ x ∷ []) ++ ys ≡ xs ++ x ∷ ys
      shift [] x ys = refl
      shift (z ∷ xs) x ys = ap (λ l. z ∷ l) (shift xs x ys)

      by : (one : BatchKey) (t : Bool) → key_eq key one ≡ t → (key_eq key one || is_key_among one later) ≡ is_woken (batches_of out) one rest
          → is_key_among one later ≡ is_woken (batches_of out) one (without_message key rest)
      by one true e now_is =
          ap (λ k. is_key_among k later) (sym (same-keys key one e)) ∙ not-among key later least
          ∙ sym (any-without-same (λ x. key_eq x.batch.key key && waits_for (batches_of out) x) key (woken-only (batches_of out) key) rest rising)
          ∙ ap (λ k. is_woken (batches_of out) k (without_message key rest)) (same-keys key one e)
      by one false e now_is =
          sym (ap (λ t. t || is_key_among one later) e) ∙ now_is
          ∙ sym (any-without-other (λ x. key_eq x.batch.key one && waits_for (batches_of out) x) one (woken-only (batches_of out) one) key rest e)

-- where nothing is to do, all is freed
pub frees-end : (new : Message) (all : List Message) (todo : List BatchKey) (out rest : List Message) → todo ≡ [] → Frees new all todo out rest → (out ≡ freed new all) × (rest ≡ still_put_off new all)
frees-end new all todo out rest is frees =
    let none = none-freed (batches_of out) rest (all-from (λ x. waits_for (batches_of out) x ≡ false) rest (λ x among. by x among (waits_for (batches_of out) x) refl)) in
    (sym (append-nil out) ∙ ap (λ l. out ++ l) (sym none.0) ∙ frees.gone, sym none.1 ∙ frees.kept)
  where
    by : (x : Message) → Among x rest → (t : Bool) → waits_for (batches_of out) x ≡ t → t ≡ false
    by x among false e = refl
    by x among true e =
        let found : is_woken (batches_of out) x.batch.key rest ≡ true =
        list_any-one (λ m. key_eq m.batch.key x.batch.key && waits_for (batches_of out) m) rest x among (and_from (key_eq x.batch.key x.batch.key) (waits_for (batches_of out) x) (key_eq-self x.batch.key) e) in
        absurd (true≢false (sym found ∙ sym (frees.woken x.batch.key) ∙ ap (is_key_among x.batch.key) is))

pub or-join : (a b c : Bool) → ((a || b) || c) ≡ (a || (b || c))
or-join true b c = refl
or-join false b c = refl
