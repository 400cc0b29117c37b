-- What is freed is what is newly learned.
use Rattle.std.proofs.Common.{◌≡◌, Bool, true, false, not, List, [], ◌∷◌, ◌++◌, Option, Some, None, cond, refl, sym, ◌∙◌, subst, ap}
use Rattle.std.specs.Prelude.{is_some, option_to_list}
use Rattle.std.specs.Option.{option_or}
use Rattle.std.specs.List.{AllByRecursion, filter}
use Rattle.ndc_model_cells.specs.declared.message.Message.{Message}
use Rattle.ndc_model_cells.specs.Arrival.{newly_learned}
use Rattle.ndc_model_cells.specs.Cells.{both}
use Rattle.ndc_event.specs.Key.{key_lt, key_eq}
use Rattle.ndc_event.specs.declared.batch.Batch.{Batch}
use Rattle.ndc_event.specs.declared.key.BatchKey.{BatchKey}
use Rattle.ndc_model_sets.specs.Learned.{has_key, IsClosed}
use Rattle.ndc_model_sets.specs.Sets.{Rise, earlier, batch_at, PointsBack}
use Rattle.ndc_model_sets.proofs.KeyLemmas.{before-irrefl}
use Rattle.ndc_model_sets.proofs.SetLemmas.{at-append, at-first, at-cases, at-behind, found-key, found-all}
use Rattle.ndc_model_sets.proofs.BranchLemmas.{Rise-filter}
use Rattle.ndc_model_sets.proofs.Lists.{filter-cases, all-join}
use Rattle.ndc_model_cells.specs.Messages.{batches_of, IsMessage}
use Rattle.ndc_shard_waiting.specs.Waiting.{put_off, CanWait, freed_by, kept_by}
use Rattle.ndc_shard_waiting.specs.Learning.{with_message, with_messages, ArePutOff}
use Rattle.ndc_shard_waiting.proofs.OrderLemmas.{all-back, all-more, all-two, rise-join, same-found}
use Rattle.ndc_shard_waiting.proofs.FreedLemmas.{or-assoc, freed-cases, found-parts, all-freed, batches-freed, rise-freed}
use Rattle.ndc_shard_waiting.proofs.KeptLemmas.{both-all, both-back, carried-earlier, carried-after, IsApart, has-front, has-back, has-neither, freed-closed, kept-apart}
use Rattle.ndc_shard_waiting.proofs.OffLemmas.{kept-off, freed-after, not-before}
use Rattle.ndc_shard_waiting.proofs.PutLemmas.{apart-flip, or-swap, put-found, put-waiting, batches-put, both-rise, both-precede, put-cases}
use Rattle.ndc_shard_waiting.proofs.LearnLemmas.{with-set, with-found, all-set, all-found, has-found-or, set-all, found-all-of}

pub not-itself : (key : BatchKey) → key_lt key key ≡ false
not-itself key = by (key_lt key key) refl
  where
    by : (t : Bool) → key_lt key key ≡ t → t ≡ false
    by true e = absurd (before-irrefl key e)
    by false e = refl

-- what is found of those whose keys pass a test
pub filter-found : (p : BatchKey → Bool) (batches : List Batch) (key : BatchKey) → batch_at key (filter (λ b. p b.key) batches) ≡ cond (p key) (batch_at key batches) None
filter-found p [] key = by (p key)
  where
    by : (t : Bool) → batch_at key [] ≡ cond t (batch_at key []) None
    by true = refl
    by false = refl
filter-found p (b ∷ batches) key =
    filter-cases (λ l. batch_at key l ≡ cond (p key) (batch_at key (b ∷ batches)) None) (λ x. p x.key) b batches
    (λ e. at-cases (λ o. o ≡ cond (p key) (batch_at key (b ∷ batches)) None) b (filter (λ x. p x.key) batches) key
    (λ same. here e same) (λ n. filter-found p batches key ∙ further n))
    (λ e. at-cases (λ o. batch_at key (filter (λ x. p x.key) batches) ≡ cond (p key) o None) b batches key
    (λ same. filter-found p batches key ∙ dropped e same) (λ _. filter-found p batches key))
  where
    here : p b.key ≡ true → b.key ≡ key → Some b ≡ cond (p key) (batch_at key (b ∷ batches)) None
    here e same =
        let q : p key ≡ true = subst (λ (k : BatchKey). p k ≡ true) same e in
        let f : batch_at key (b ∷ batches) ≡ Some b = subst (λ (k : BatchKey). batch_at k (b ∷ batches) ≡ Some b) same (at-first b batches) in
        sym (ap (λ t. cond t (batch_at key (b ∷ batches)) None) q ∙ f)

    further : key_eq b.key key ≡ false → cond (p key) (batch_at key batches) None ≡ cond (p key) (batch_at key (b ∷ batches)) None
    further n = ap (λ (t : Bool). cond (p key) (cond t (Some b) (batch_at key batches)) None) (sym n)

    dropped : p b.key ≡ false → b.key ≡ key → cond (p key) (batch_at key batches) None ≡ cond (p key) (Some b) None
    dropped e same =
        let q : p key ≡ false = subst (λ (k : BatchKey). p k ≡ false) same e in
        ap (λ t. cond t (batch_at key batches) None) q ∙ sym (ap (λ t. cond t (Some b) None) q)

-- in key order each batch is found
pub all-there : (batches : List Batch) → Rise batches → AllByRecursion (λ b. batch_at b.key batches ≡ Some b) batches
all-there [] rise = tt
all-there (b ∷ batches) rise = (
  at-first b batches,
  all-more (λ (x : Batch). batch_at x.key batches ≡ Some x) (λ x. batch_at x.key (b ∷ batches) ≡ Some x)
      (λ x h. at-behind b batches x.key x rise.0 h) batches (all-there batches rise.1),
)

-- what holds of the batches holds of the messages' own ones
pub own-all : (P : Batch → Type 0) (messages : List Message) → AllByRecursion P (batches_of messages) → AllByRecursion (λ sent. P sent.batch) messages
own-all P [] all = tt
own-all P (sent ∷ messages) all = (all.0, own-all P messages (all-back P (both sent) (batches_of messages) all))

-- a filter that keeps the kept and drops the freed ones
filter-parts : (p : Message → Bool) (so_far : List Batch) (waiting : List Message) → AllByRecursion (λ m. p m ≡ false) (freed_by so_far waiting) → AllByRecursion (λ m. p m ≡ true) (kept_by so_far waiting)
    → filter p waiting ≡ kept_by so_far waiting
filter-parts p so_far [] = λ drops keeps. refl
filter-parts p so_far (sent ∷ waiting) =
    freed-cases (λ f k. AllByRecursion (λ m. p m ≡ false) f → AllByRecursion (λ m. p m ≡ true) k → filter p (sent ∷ waiting) ≡ k) so_far sent waiting
    (λ _ drops keeps. ap (λ t. cond t (sent ∷ filter p waiting) (filter p waiting)) drops.0 ∙ filter-parts p (so_far ++ both sent) waiting drops.1 keeps)
    (λ _ drops keeps. ap (λ t. cond t (sent ∷ filter p waiting) (filter p waiting)) keeps.0 ∙ ap (λ l. sent ∷ l) (filter-parts p so_far waiting drops keeps.1))

filter-put : (p : Message → Bool) (new : Message) (waiting : List Message) → p new ≡ false → filter p (put_off new waiting) ≡ filter p waiting
filter-put p new [] n = rw n refl
filter-put p new (sent ∷ waiting) n =
    put-cases (λ l. filter p l ≡ filter p (sent ∷ waiting)) new sent waiting
    (λ _. ap (λ t. cond t (new ∷ filter p (sent ∷ waiting)) (filter p (sent ∷ waiting))) n)
    (λ _. refl)
    (λ _. ap (λ l. cond (p sent) (sent ∷ l) l) (filter-put p new waiting n))

filter-all : (p : Message → Bool) (messages : List Message) → AllByRecursion (λ m. p m ≡ true) messages → filter p messages ≡ messages
filter-all p [] all = refl
filter-all p (sent ∷ messages) all = ap (λ t. cond t (sent ∷ filter p messages) (filter p messages)) all.0 ∙ ap (λ l. sent ∷ l) (filter-all p messages all.1)

module _ (known : List Batch) (waiting : List Message) (new : Message) (are : ArePutOff known waiting) (message : IsMessage new) (fresh : IsApart known (both new))
    (apart : IsApart (batches_of waiting) (both new)) (reached : has_key (earlier new.batch) known ≡ true) where
  abbrev news : List Batch
  news = both new ++ batches_of (freed_by (both new) waiting)

  abbrev later : List Batch
  later = with_messages (new ∷ freed_by (both new) waiting) known

  apart-new : IsApart (both new) (batches_of waiting)
  apart-new = apart-flip (batches_of waiting) (both new) apart

  pub back-news : AllByRecursion PointsBack news
  back-news = all-join PointsBack (both new) (batches_of (freed_by (both new) waiting)) (both-back new message) (batches-freed PointsBack (both new) waiting are.messages.set.back).0

  pub rise-news : Rise news
  rise-news =
      rise-join (both new) (batches_of (freed_by (both new) waiting)) (both-rise new message)
      (both-precede new (batches_of (freed_by (both new) waiting)) message
      (freed-after new.batch.key (both new) waiting are.messages.each
      (both-all (λ b. key_lt b.key new.batch.key ≡ false) new message (not-itself new.batch.key) (λ second by. not-before new.batch.key second.key (carried-after new.batch second by))))
      (batches-freed (λ b. batch_at b.key (both new) ≡ None) (both new) waiting apart-new).0)
      (rise-freed (both new) waiting are.messages.set.ordered).0

  found-after : (key : BatchKey) → batch_at key later ≡ option_or (batch_at key known) (batch_at key news)
  found-after key = all-found (new ∷ freed_by (both new) waiting) known key are.set back-news

  news-closed : AllByRecursion (λ b. has_key (earlier b) (known ++ news) ≡ true) news
  news-closed =
      all-join (λ b. has_key (earlier b) (known ++ news) ≡ true) (both new) (batches_of (freed_by (both new) waiting))
      (both-all (λ b. has_key (earlier b) (known ++ news) ≡ true) new message (has-front (earlier new.batch) known news reached)
      (λ second by. rw (carried-earlier new.batch second by)
      (has-back (Some new.batch.key) known news (has-front (Some new.batch.key) (both new) (batches_of (freed_by (both new) waiting)) (ap is_some (at-first new.batch (option_to_list new.second)))))))
      (all-more (λ b. has_key (earlier b) news ≡ true) (λ b. has_key (earlier b) (known ++ news) ≡ true) (λ b h. has-back (earlier b) known news h)
      (batches_of (freed_by (both new) waiting)) (freed-closed (both new) waiting are.messages.each))

  closed-after : IsClosed later
  closed-after b has = has-found-or (earlier b) known news later found-after ∙ by (batch_at b.key known) refl (sym (found-after b.key) ∙ has)
    where
      by : (o : Option Batch) → batch_at b.key known ≡ o → option_or o (batch_at b.key news) ≡ Some b → has_key (earlier b) (known ++ news) ≡ true
      by None e h = found-all (λ x. has_key (earlier x) (known ++ news) ≡ true) news b.key b news-closed h
      by (Some x) e h = has-front (earlier b) known news (are.closed b (e ∙ h))

  -- what is kept is put off beside what is learned then
  pub kept-put-off : ArePutOff later (kept_by (both new) waiting)
  kept-put-off = record {
    set = all-set (new ∷ freed_by (both new) waiting) known are.set back-news;
    closed = closed-after;
    messages = record {
      set = record { ordered = (rise-freed (both new) waiting are.messages.set.ordered).1; back = (batches-freed PointsBack (both new) waiting are.messages.set.back).1 };
      each = (all-freed CanWait (both new) waiting are.messages.each).1;
    };
    apart = all-two (λ (b : Batch). batch_at b.key known ≡ None) (λ b. batch_at b.key news ≡ None) (λ b. batch_at b.key later ≡ None)
        (λ b h g. found-after b.key ∙ ap (λ o. option_or o (batch_at b.key news)) h ∙ g) (batches_of (kept_by (both new) waiting))
        (batches-freed (λ b. batch_at b.key known ≡ None) (both new) waiting are.apart).1
        (kept-apart (both new) waiting are.messages.set.ordered apart-new);
    off = all-two (λ (b : Batch). has_key (earlier b) known ≡ false) (λ b. has_key (earlier b) news ≡ false) (λ b. has_key (earlier b) later ≡ false)
        (λ b h g. has-found-or (earlier b) known news later found-after ∙ has-neither (earlier b) known news h g) (batches_of (kept_by (both new) waiting))
        (batches-freed (λ b. has_key (earlier b) known ≡ false) (both new) waiting are.off).1
        (kept-off (both new) waiting are.messages.each are.messages.set.ordered apart-new);
  }

  -- all that has arrived is what is learned then and what is kept
  pub arrived-parts : with_message new (with_messages waiting known) ≡ with_messages (kept_by (both new) waiting) later
  arrived-parts =
      same-found (with_message new (with_messages waiting known)) (with_messages (kept_by (both new) waiting) later)
      (with-set new (with_messages waiting known) (set-all known waiting are) (both-back new message)).ordered
      (all-set (kept_by (both new) waiting) later kept-put-off.set kept-put-off.messages.set.back).ordered
      (λ key. with-found new (with_messages waiting known) key (set-all known waiting are) message.back
      ∙ ap (λ o. option_or o (batch_at key (both new))) (found-all-of known waiting are key)
      ∙ or-assoc (batch_at key known) (batch_at key (batches_of waiting)) (batch_at key (both new))
      ∙ ap (option_or (batch_at key known)) (or-swap (batches_of waiting) (both new) key apart
      ∙ ap (option_or (batch_at key (both new))) (found-parts (both new) waiting key are.messages.set.ordered)
      ∙ sym (or-assoc (batch_at key (both new)) (batch_at key (batches_of (freed_by (both new) waiting))) (batch_at key (batches_of (kept_by (both new) waiting))))
      ∙ ap (λ o. option_or o (batch_at key (batches_of (kept_by (both new) waiting)))) (sym (at-append (both new) (batches_of (freed_by (both new) waiting)) key)))
      ∙ sym (or-assoc (batch_at key known) (batch_at key news) (batch_at key (batches_of (kept_by (both new) waiting))))
      ∙ ap (λ o. option_or o (batch_at key (batches_of (kept_by (both new) waiting)))) (sym (found-after key))
      ∙ sym (all-found (kept_by (both new) waiting) later key kept-put-off.set kept-put-off.messages.set.back))

  apart-news : IsApart known news
  apart-news = all-join (λ b. batch_at b.key known ≡ None) (both new) (batches_of (freed_by (both new) waiting)) fresh (batches-freed (λ b. batch_at b.key known ≡ None) (both new) waiting are.apart).0

  -- what is learned then and was not before is what is freed
  pub news-are : newly_learned known later ≡ news
  news-are =
      same-found (newly_learned known later) news (Rise-filter (λ b. not (has_key (Some b.key) known)) later kept-put-off.set.ordered) rise-news
      (λ key. filter-found (λ k. not (has_key (Some k) known)) later key ∙ ap (λ o. cond (not (has_key (Some key) known)) o None) (found-after key) ∙ by key (batch_at key known) refl)
    where
      none : (key : BatchKey) (x : Batch) → batch_at key known ≡ Some x → (o : Option Batch) → batch_at key news ≡ o → None ≡ batch_at key news
      none key x e None g = sym g
      none key x e (Some y) g =
          let out : batch_at y.key known ≡ None = found-all (λ b. batch_at b.key known ≡ None) news key y apart-news g in
          let here : batch_at key known ≡ None = subst (λ (k : BatchKey). batch_at k known ≡ None) (found-key news key y g) out in absurd (cc)

      by : (key : BatchKey) (o : Option Batch) → batch_at key known ≡ o → cond (not (is_some (batch_at key known))) (option_or (batch_at key known) (batch_at key news)) None ≡ batch_at key news
      by key None e = ap (λ o. cond (not (is_some o)) (option_or o (batch_at key news)) None) e
      by key (Some x) e = ap (λ o. cond (not (is_some o)) (option_or o (batch_at key news)) None) e ∙ none key x e (batch_at key news) refl

  -- of the messages put off, and the new one, those wait on whose batch is not learned then
  pub kept-are : filter (λ sent. not (has_key (Some sent.batch.key) later)) (put_off new waiting) ≡ kept_by (both new) waiting
  kept-are =
      filter-put (λ sent. not (has_key (Some sent.batch.key) later)) new waiting (known-now new.batch (all-there news rise-news).0)
      ∙ filter-parts (λ sent. not (has_key (Some sent.batch.key) later)) (both new) waiting
      (own-all (λ b. not (has_key (Some b.key) later) ≡ false) (freed_by (both new) waiting)
      (all-more (λ (b : Batch). batch_at b.key news ≡ Some b) (λ b. not (has_key (Some b.key) later) ≡ false) known-now (batches_of (freed_by (both new) waiting))
      (all-back (λ (b : Batch). batch_at b.key news ≡ Some b) (both new) (batches_of (freed_by (both new) waiting)) (all-there news rise-news))))
      (own-all (λ b. not (has_key (Some b.key) later) ≡ true) (kept_by (both new) waiting)
      (all-more (λ (b : Batch). batch_at b.key later ≡ None) (λ b. not (has_key (Some b.key) later) ≡ true) (λ b h. ap (λ o. not (is_some o)) h) (batches_of (kept_by (both new) waiting)) kept-put-off.apart))
    where
      known-now : (b : Batch) → batch_at b.key news ≡ Some b → not (has_key (Some b.key) later) ≡ false
      known-now b h = ap (λ o. not (is_some o)) (found-after b.key ∙ ap (option_or (batch_at b.key known)) h) ∙ by (batch_at b.key known)
        where
          by : (o : Option Batch) → not (is_some (option_or o (Some b))) ≡ false
          by None = refl
          by (Some x) = refl

-- a message whose earlier key is not learned is put off with the others
module _ (known : List Batch) (waiting : List Message) (new : Message) (are : ArePutOff known waiting) (can : CanWait new) (fresh : IsApart known (both new))
    (apart : IsApart (batches_of waiting) (both new)) (off : has_key (earlier new.batch) known ≡ false) where
  pub more_put_off : ArePutOff known (put_off new waiting)
  more_put_off = record {
    set = are.set;
    closed = are.closed;
    messages = put-waiting new waiting are.messages can apart;
    apart = batches-put (λ b. batch_at b.key known ≡ None) new waiting fresh are.apart;
    off = batches-put (λ b. has_key (earlier b) known ≡ false) new waiting
        (both-all (λ b. has_key (earlier b) known ≡ false) new can.message off (λ second by. rw (carried-earlier new.batch second by) (ap is_some fresh.0)))
        are.off;
  }

  pub arrived_more : with_message new (with_messages waiting known) ≡ with_messages (put_off new waiting) known
  arrived_more =
      same-found (with_message new (with_messages waiting known)) (with_messages (put_off new waiting) known)
      (with-set new (with_messages waiting known) (set-all known waiting are) (both-back new can.message)).ordered
      (set-all known (put_off new waiting) more_put_off).ordered
      (λ key. with-found new (with_messages waiting known) key (set-all known waiting are) can.message.back
      ∙ ap (λ o. option_or o (batch_at key (both new))) (found-all-of known waiting are key)
      ∙ or-assoc (batch_at key known) (batch_at key (batches_of waiting)) (batch_at key (both new))
      ∙ ap (option_or (batch_at key known)) (sym (put-found new waiting key apart))
      ∙ sym (found-all-of known (put_off new waiting) more_put_off key))

-- none of the messages that are put off is learned
pub none_learned : (known : List Batch) (waiting : List Message) → ArePutOff known waiting → filter (λ sent. not (has_key (Some sent.batch.key) known)) waiting ≡ waiting
none_learned known waiting are =
    filter-all (λ sent. not (has_key (Some sent.batch.key) known)) waiting
    (own-all (λ b. not (has_key (Some b.key) known) ≡ true) waiting
    (all-more (λ (b : Batch). batch_at b.key known ≡ None) (λ b. not (has_key (Some b.key) known) ≡ true) (λ b h. ap (λ o. not (is_some o)) h) (batches_of waiting) are.apart))

pub filter-none : (p : Batch → Bool) (batches : List Batch) → AllByRecursion (λ b. p b ≡ false) batches → filter p batches ≡ []
filter-none p [] all = refl
filter-none p (b ∷ batches) all = ap (λ t. cond t (b ∷ filter p batches) (filter p batches)) all.0 ∙ filter-none p batches all.1
