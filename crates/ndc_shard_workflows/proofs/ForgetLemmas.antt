-- Messages that wait, but for one that is dropped.
use Rattle.std.proofs.Common.{◌≡◌, ◌++◌, ◌&&◌, ◌||◌, Bool, true, false, not, List, [], ◌∷◌, Option, Some, None, Result, Ok, Err, OnOk, OnErr, cond, refl, sym, ◌∙◌, subst, ap, true≢false, if◌then◌else◌, map}
use Rattle.std.specs.Prelude.{IfSome, is_some, option_to_list}
use Rattle.std.specs.List.{AllByRecursion, filter}
use Rattle.std.proofs.lemmas.Grind.{flat_map-append}
use Rattle.std.proofs.lemmas.List.{append-nil, append_assoc}
use Rattle.std.proofs.lemmas.List.Elements.{filter-append}
use Rattle.ndc_event.specs.Key.{key_eq, key_lt, run_of}
use Rattle.ndc_event.specs.declared.batch.Batch.{Batch}
use Rattle.ndc_event.specs.declared.key.BatchKey.{BatchKey}
use Rattle.ndc_event.specs.declared.name.Name.{Name}
use Rattle.ndc_model_cells.specs.Cells.{Cell, both, learned_of}
use Rattle.ndc_model_cells.specs.Messages.{HasSmallIds, IsNewTo, batches_of, message_with}
use Rattle.ndc_model_cells.specs.Places.{is_of}
use Rattle.ndc_model_cells.specs.Workflow.{WorkflowValue, workflow_of}
use Rattle.ndc_model_cells.specs.declared.message.Message.{Message}
use Rattle.ndc_model_sets.proofs.KeyLemmas.{before-irrefl, before-trans, key_eq-self, same-keys}
use Rattle.ndc_model_sets.specs.Learned.{has_key, learned}
use Rattle.ndc_model_sets.specs.Sets.{ComeAfter, PointsBack, Rise, batch_at, earlier}
use Rattle.ndc_model_sets.specs.Sound.{IsSound}
use Rattle.ndc_shard_runs.specs.Kept.{is_due}
use Rattle.ndc_shard_waiting.proofs.KeptLemmas.{precede-none}
use Rattle.ndc_shard_waiting.proofs.LearnLemmas.{learned_is}
use Rattle.ndc_shard_waiting.proofs.OrderLemmas.{Precede, all-back, all-front, all-more, has-append, not-at, rise-back, rise-front, rise-join, rise-precede}
use Rattle.ndc_shard_waiting.specs.Learning.{ArePutOff, with_messages}
use Rattle.ndc_shard_waiting.specs.Waiting.{AreWaiting, CanWait, put_off}
use Rattle.ndc_shard_workflows.proofs.AdmittedLemmas.{all-known, all-waiting, all-with}
use Rattle.ndc_shard_workflows.proofs.OwnLemmas.{all-filtered}
use Rattle.ndc_shard_workflows.proofs.PutOffLemmas.{beside-is}
use Rattle.ndc_shard_workflows.proofs.SameLemmas.{names-of}
use Rattle.ndc_shard_workflows.specs.Behind.{HoldBehind}
use Rattle.ndc_shard_workflows.specs.Due.{HoldDue, is_named, is_listed}
use Rattle.ndc_shard_workflows.specs.Forgetting.{AreKept, IsForgotten, but_for, is_put_off, kept_with, without}
use Rattle.ndc_shard_workflows.specs.Workflow.{IsWorkflow, beside}
use Rattle.ndc_shard_workflows.specs.Workflows.{IsOwn}

-- ---- the messages that are left

module _ (key : BatchKey) where
  abbrev Has : Message → Bool
  Has sent = has_key (Some key) (both sent)

  -- what holds of the batches of all
  pub all-but : (P : Batch → Type 0) (messages : List Message) → AllByRecursion P (batches_of messages) → AllByRecursion P (batches_of (but_for key messages))
  all-but P [] all = tt
  all-but P (sent ∷ messages) all = by (Has sent) (all-but P messages (all-back P (both sent) (batches_of messages) all))
    where
      own : (xs ys : List Batch) → AllByRecursion P xs → AllByRecursion P ys → AllByRecursion P (xs ++ ys)
      own [] ys a b = b
      own (x ∷ xs) ys a b = (a.0, own xs ys a.1 b)

      by : (t : Bool) → AllByRecursion P (batches_of (but_for key messages)) → AllByRecursion P (batches_of (cond (not t) (sent ∷ but_for key messages) (but_for key messages)))
      by true rest = rest
      by false rest = own (both sent) (batches_of (but_for key messages)) (all-front P (both sent) (batches_of messages) all) rest

  -- they are in order
  pub rise-but : (messages : List Message) → Rise (batches_of messages) → Rise (batches_of (but_for key messages))
  rise-but [] rise = tt
  rise-but (sent ∷ messages) rise = by (Has sent) (rise-but messages (rise-back (both sent) (batches_of messages) rise))
    where
      before : Precede (both sent) (batches_of (but_for key messages))
      before = all-more (λ (b : Batch). ComeAfter b.key (batches_of messages)) (λ b. ComeAfter b.key (batches_of (but_for key messages)))
          (λ b after. all-but (λ x. key_lt b.key x.key ≡ true) messages after) (both sent) (rise-precede (both sent) (batches_of messages) rise)

      by : (t : Bool) → Rise (batches_of (but_for key messages)) → Rise (batches_of (cond (not t) (sent ∷ but_for key messages) (but_for key messages)))
      by true rest = rest
      by false rest = rise-join (both sent) (batches_of (but_for key messages)) (rise-front (both sent) (batches_of messages) rise) before rest

  -- they are put off still
  pub put-off-but : (known : List Batch) (waiting : List Message) → ArePutOff known waiting → ArePutOff known (but_for key waiting)
  put-off-but known waiting are = record {
    set = are.set;
    closed = are.closed;
    messages = record {
      set = record { ordered = rise-but waiting are.messages.set.ordered; back = all-but PointsBack waiting are.messages.set.back };
      each = all-filtered CanWait (λ sent. not (Has sent)) waiting are.messages.each;
    };
    apart = all-but (λ b. batch_at b.key known ≡ None) waiting are.apart;
    off = all-but (λ b. has_key (earlier b) known ≡ false) waiting are.off;
  }

  -- none has the key
  pub but-none : (messages : List Message) → has_key (Some key) (batches_of messages) ≡ false → but_for key messages ≡ messages
  but-none [] e = refl
  but-none (sent ∷ messages) e =
      by (Has sent) (has_key (Some key) (batches_of messages)) refl (sym (has-append key (both sent) (batches_of messages)) ∙ e) (λ f. but-none messages f)
    where
      by : (t u : Bool) → has_key (Some key) (batches_of messages) ≡ u → (t || u) ≡ false → (has_key (Some key) (batches_of messages) ≡ false → but_for key messages ≡ messages)
          → cond (not t) (sent ∷ but_for key messages) (but_for key messages) ≡ sent ∷ messages
      by true u f h rest = absurd (true≢false h)
      by false true f h rest = absurd (true≢false h)
      by false false f h rest = ap (λ (l : List Message). sent ∷ l) (rest f)

  -- ---- a workflow

  pub without-learned : (w : WorkflowValue) → IsWorkflow w → learned (without key w).arrived ≡ learned w.arrived
  without-learned w is = learned_is (learned w.arrived) (but_for key w.waiting) (put-off-but (learned w.arrived) w.waiting is.apart)

  pub own-without : (domain workflow : Name) (w : WorkflowValue) → IsOwn domain workflow w → IsOwn domain workflow (without key w)
  own-without domain workflow w own = record {
    is = beside-is known (but_for key w.waiting) are;
    sound = subst IsSound (sym (without-learned w own.is)) own.sound;
    arrived = all-with Of (but_for key w.waiting) known (all-but Of w.waiting (all-waiting Of known w.waiting own.is.apart all)) (all-known Of known w.waiting own.is.apart all);
    waiting = all-filtered (λ sent. Of sent.batch) (λ sent. not (Has sent)) w.waiting own.waiting;
  }
    where
      Of : Batch → Type 0
      Of b = is_of domain workflow b ≡ true

      known : List Batch
      known = learned w.arrived

      are : ArePutOff known (but_for key w.waiting)
      are = put-off-but known w.waiting own.is.apart

      all : AllByRecursion (λ b. is_of domain workflow b ≡ true) (with_messages w.waiting (learned w.arrived))
      all = subst (λ (v : WorkflowValue). AllByRecursion (λ b. is_of domain workflow b ≡ true) v.arrived) own.is.parts own.arrived

  -- where nothing has the key the workflow is as it was
  pub without-none : (w : WorkflowValue) → IsWorkflow w → is_put_off key w ≡ false → without key w ≡ w
  without-none w is e = ap (λ (l : List Message). beside (learned w.arrived) l) (but-none w.waiting e) ∙ sym is.parts

-- ---- a cell

-- a batch of these names
abbrev pub named_batch : Name → Name → BatchKey → Batch
named_batch domain workflow key = record { domain = domain; workflow = workflow; run = run_of key; key = key; parent = None; carrier = None; events = [] }

module _ (domain workflow : Name) (key : BatchKey) (old new : Cell) (it : IsForgotten domain workflow key old new) (is : IsWorkflow (workflow_of domain workflow old)) where
  -- of each workflow, by whether it is that of the message
  by-name : (P : Name → Name → Type 0) (d w : Name) → P domain workflow → (is_named d w (domain, workflow) ≡ false → P d w) → P d w
  by-name P d w own other = by (is_named d w (domain, workflow)) refl
    where
      by : (t : Bool) → is_named d w (domain, workflow) ≡ t → P d w
      by true e =
          let names = names-of d w (named_batch domain workflow key) e in
          subst (λ (x : Name). P x w) names.0 (subst (λ (y : Name). P domain y) names.1 own)
      by false e = other e

  -- what is learned is as it was
  pub forgotten-learned : (d w : Name) → learned_of d w new ≡ learned_of d w old
  forgotten-learned d w =
      by-name (λ x y. learned_of x y new ≡ learned_of x y old) d w
      (ap (λ (v : WorkflowValue). learned v.arrived) it.own ∙ without-learned key (workflow_of domain workflow old) is)
      (λ e. ap (λ (v : WorkflowValue). learned v.arrived) (it.others d w e))

  pub hold-forgotten : (list : List (Name × Name)) → HoldDue list old → HoldDue list new
  hold-forgotten list hold d w e = ap is_due (forgotten-learned d w) ∙ hold d w e

  pub behind-forgotten : (list : List (Name × Name)) → HoldBehind list old → HoldBehind list new
  behind-forgotten list hold d w e =
      by-name (λ x y. is_listed x y list ≡ false → (workflow_of x y new).waiting ≡ []) d w
      (λ f. ap (λ (v : WorkflowValue). v.waiting) it.own ∙ ap (but_for key) (hold domain workflow f))
      (λ other f. ap (λ (v : WorkflowValue). v.waiting) (it.others d w other) ∙ hold d w f) e

-- ---- one message after the other

-- a message is found by the key of each of its batches
with-skip : (key : BatchKey) (front back : List Message) → AllByRecursion (λ b. batch_at key (b ∷ []) ≡ None) (batches_of front) → message_with key (front ++ back) ≡ message_with key back
with-skip key [] back all = refl
with-skip key (sent ∷ front) back all =
    ap (λ t. cond t (Some sent) (message_with key (front ++ back))) (none (both sent) (all-front (λ b. batch_at key (b ∷ []) ≡ None) (both sent) (batches_of front) all))
    ∙ with-skip key front back (all-back (λ b. batch_at key (b ∷ []) ≡ None) (both sent) (batches_of front) all)
  where
    none : (bs : List Batch) → AllByRecursion (λ b. batch_at key (b ∷ []) ≡ None) bs → has_key (Some key) bs ≡ false
    none [] each = refl
    none (b ∷ bs) each = by (key_eq b.key key) each.0 (none bs each.1)
      where
        by : (t : Bool) → cond t (Some b) None ≡ None → has_key (Some key) bs ≡ false → is_some (cond t (Some b) (batch_at key bs)) ≡ false
        by true e rest = absurd (cc)
        by false e rest = rest

module _ (key : BatchKey) (all : List Message) (are : AreWaiting all) where
  -- a message of the list, between a prefix and the others
  module _ (front back : List Message) (sent : Message) (split : all ≡ front ++ sent ∷ back) where
    joined : batches_of all ≡ batches_of front ++ (both sent ++ batches_of back)
    joined = ap batches_of split ∙ flat_map-append both front (sent ∷ back)

    rise : Rise (batches_of front ++ (both sent ++ batches_of back))
    rise = subst Rise joined are.set.ordered

    own-rise : Rise (both sent ++ batches_of back)
    own-rise = rise-back (batches_of front) (both sent ++ batches_of back) rise

    before : Precede (batches_of front) (both sent ++ batches_of back)
    before = rise-precede (batches_of front) (both sent ++ batches_of back) rise

    -- it is found by the key of each of its batches
    own-found : (b : Batch) → has_key (Some b.key) (both sent) ≡ true → AllByRecursion (λ (x : Batch). key_lt x.key b.key ≡ true) (batches_of front) → message_with b.key all ≡ Some sent
    own-found b has less =
        ap (message_with b.key) split
        ∙ with-skip b.key front (sent ∷ back) (all-more (λ (x : Batch). key_lt x.key b.key ≡ true) (λ x. batch_at b.key (x ∷ []) ≡ None)
        (λ x l. ap (λ t. cond t (Some x) None) (not-at b.key x l)) (batches_of front) less)
        ∙ ap (λ t. cond t (Some sent) (message_with b.key back)) has

    first-less : AllByRecursion (λ (x : Batch). key_lt x.key sent.batch.key ≡ true) (batches_of front)
    first-less = all-more (λ (x : Batch). ComeAfter x.key (both sent ++ batches_of back)) (λ x. key_lt x.key sent.batch.key ≡ true) (λ x after. after.0) (batches_of front) before

    first-has : has_key (Some sent.batch.key) (both sent) ≡ true
    first-has = ap (λ t. is_some (cond t (Some sent.batch) (batch_at sent.batch.key (option_to_list sent.second)))) (key_eq-self sent.batch.key)

    first-found : message_with sent.batch.key all ≡ Some sent
    first-found = own-found sent.batch first-has first-less

    -- what it carries is passed
    second-passed : IfSome sent.second (λ b. IfSome (message_with b.key all) (λ m. key_eq m.batch.key b.key ≡ false))
    second-passed = by sent.second refl own-rise before
      where
        by : (o : Option Batch) → sent.second ≡ o → Rise (sent.batch ∷ (option_to_list o ++ batches_of back)) → Precede (batches_of front) (sent.batch ∷ (option_to_list o ++ batches_of back))
            → IfSome o (λ b. IfSome (message_with b.key all) (λ m. key_eq m.batch.key b.key ≡ false))
        by None e r p = tt
        by (Some b) e r p =
            subst (λ (o : Option Message). IfSome o (λ m. key_eq m.batch.key b.key ≡ false))
            (sym (own-found b (has e) (all-more (λ (x : Batch). ComeAfter x.key (sent.batch ∷ b ∷ batches_of back)) (λ x. key_lt x.key b.key ≡ true) (λ x after. after.1.0) (batches_of front) p)))
            (not-at b.key sent.batch r.0.0)
          where
            has : sent.second ≡ Some b → has_key (Some b.key) (both sent) ≡ true
            has f =
                ap (λ (o : Option Batch). has_key (Some b.key) (sent.batch ∷ option_to_list o)) f
                ∙ ap (λ t. is_some (cond t (Some sent.batch) (batch_at b.key (b ∷ [])))) (not-at b.key sent.batch r.0.0)
                ∙ ap (λ t. is_some (cond t (Some b) None)) (key_eq-self b.key)

    -- it may be put after those that are kept of the prefix
    own-new : IsNewTo (batches_of (but_for key front)) sent
    own-new =
        all-front (λ b. batch_at b.key (batches_of (but_for key front)) ≡ None) (both sent) (batches_of back)
        (precede-none (batches_of (but_for key front)) (both sent ++ batches_of back) (all-but key (λ b. ComeAfter b.key (both sent ++ batches_of back)) front before))

    own-wait : CanWait sent
    own-wait = (all-back CanWait front (sent ∷ back) (subst (AllByRecursion CanWait) split are.each)).0

    -- and goes there
    last-put : (kept : List Message) → AllByRecursion (λ (b : Batch). key_lt b.key sent.batch.key ≡ true) (batches_of kept) → put_off sent kept ≡ kept ++ sent ∷ []
    last-put [] less = refl
    last-put (m ∷ kept) less =
        ap (λ t. if t then sent ∷ m ∷ kept else if key_eq sent.batch.key m.batch.key then m ∷ kept else m ∷ put_off sent kept) (not-before less.0)
        ∙ ap (λ t. if t then m ∷ kept else m ∷ put_off sent kept) (not-same less.0)
        ∙ ap (λ (l : List Message). m ∷ l) (last-put kept (all-back (λ (b : Batch). key_lt b.key sent.batch.key ≡ true) (both m) (batches_of kept) less))
      where
        not-before : key_lt m.batch.key sent.batch.key ≡ true → key_lt sent.batch.key m.batch.key ≡ false
        not-before l = by (key_lt sent.batch.key m.batch.key) refl
          where
            by : (t : Bool) → key_lt sent.batch.key m.batch.key ≡ t → t ≡ false
            by true e = absurd (before-irrefl m.batch.key (before-trans m.batch.key sent.batch.key m.batch.key l e))
            by false e = refl

        not-same : key_lt m.batch.key sent.batch.key ≡ true → key_eq sent.batch.key m.batch.key ≡ false
        not-same l = by (key_eq sent.batch.key m.batch.key) refl
          where
            by : (t : Bool) → key_eq sent.batch.key m.batch.key ≡ t → t ≡ false
            by true e = absurd (before-irrefl sent.batch.key (subst (λ (k : BatchKey). key_lt k sent.batch.key ≡ true) (sym (same-keys sent.batch.key m.batch.key e)) l))
            by false e = refl

    front-less : AllByRecursion (λ (b : Batch). key_lt b.key sent.batch.key ≡ true) (batches_of (but_for key front))
    front-less = all-but key (λ b. key_lt b.key sent.batch.key ≡ true) front first-less

    one-but : (t : Bool) → has_key (Some key) (both sent) ≡ t → but_for key (front ++ sent ∷ []) ≡ (if not t then but_for key front ++ sent ∷ [] else but_for key front)
    one-but t e = filter-append (λ m. not (has_key (Some key) (both m))) front (sent ∷ []) ∙ ap (λ u. but_for key front ++ cond (not u) (sent ∷ []) []) e ∙ by t
      where
        by : (u : Bool) → but_for key front ++ cond (not u) (sent ∷ []) [] ≡ (if not u then but_for key front ++ sent ∷ [] else but_for key front)
        by true = append-nil (but_for key front)
        by false = refl

    one-kept : kept_with key (message_with sent.batch.key all) sent.batch (but_for key front) ≡ but_for key (front ++ sent ∷ [])
    one-kept =
        ap (λ (o : Option Message). kept_with key o sent.batch (but_for key front)) first-found
        ∙ ap (λ t. if t && not (has_key (Some key) (both sent)) then put_off sent (but_for key front) else but_for key front) (key_eq-self sent.batch.key)
        ∙ by (has_key (Some key) (both sent)) refl
      where
        by : (t : Bool) → has_key (Some key) (both sent) ≡ t → (if not t then put_off sent (but_for key front) else but_for key front) ≡ but_for key (front ++ sent ∷ [])
        by true e = sym (one-but true e)
        by false e = last-put (but_for key front) front-less ∙ sym (one-but false e)

  -- the next batch is gone over
  module _ (left more : List Batch) (b : Batch) (kept : List Message) (next : left ≡ b ∷ more) (so : AreKept key all left kept) where
    -- what the last message carries is passed
    passed-by : (x : Batch) → x ≡ b → IfSome (message_with x.key all) (λ sent. key_eq sent.batch.key x.key ≡ false) → kept_with key (message_with b.key all) b kept ≡ kept
    passed-by x same passed = by (message_with b.key all) (subst (λ (y : Batch). IfSome (message_with y.key all) (λ sent. key_eq sent.batch.key y.key ≡ false)) same passed)
      where
        by : (o : Option Message) → IfSome o (λ sent. key_eq sent.batch.key b.key ≡ false) → kept_with key o b kept ≡ kept
        by None h = refl
        by (Some sent) h = ap (λ t. if t && not (has_key (Some key) (both sent)) then put_off sent kept else kept) h

    pub may-keep : IfSome (message_with b.key all) (λ sent. key_eq sent.batch.key b.key ≡ true → CanWait sent × IsNewTo (batches_of kept) sent)
    may-keep = by so.carried so.passed so.back so.all_are (sym so.left_are ∙ next)
      where
        second : (o : Option Message) → IfSome o (λ sent. key_eq sent.batch.key b.key ≡ false)
            → IfSome o (λ sent. key_eq sent.batch.key b.key ≡ true → CanWait sent × IsNewTo (batches_of kept) sent)
        second None h = tt
        second (Some sent) h = λ e. absurd (true≢false (sym e ∙ h))

        first : (back : List Message) → all ≡ so.front ++ back → batches_of back ≡ b ∷ more
            → IfSome (message_with b.key all) (λ sent. key_eq sent.batch.key b.key ≡ true → CanWait sent × IsNewTo (batches_of kept) sent)
        first [] split e = absurd (cc)
        first (sent ∷ back) split e =
            let same : sent.batch ≡ b = cc in
            subst (λ (o : Option Message). IfSome o (λ m. key_eq m.batch.key b.key ≡ true → CanWait m × IsNewTo (batches_of kept) m))
            (sym (ap (λ (x : Batch). message_with x.key all) (sym same) ∙ first-found so.front back sent split))
            (λ _. (own-wait so.front back sent split, subst (λ (l : List Message). IsNewTo (batches_of l) sent) (sym so.kept_are) (own-new so.front back sent split)))

        by : (o : Option Batch) → IfSome o (λ x. IfSome (message_with x.key all) (λ sent. key_eq sent.batch.key x.key ≡ false)) → (back : List Message) → all ≡ so.front ++ back
            → option_to_list o ++ batches_of back ≡ b ∷ more → IfSome (message_with b.key all) (λ sent. key_eq sent.batch.key b.key ≡ true → CanWait sent × IsNewTo (batches_of kept) sent)
        by (Some x) passed back split e =
            let same : x ≡ b = cc in
            second (message_with b.key all) (subst (λ (y : Batch). IfSome (message_with y.key all) (λ sent. key_eq sent.batch.key y.key ≡ false)) same passed)
        by None passed back split e = first back split e

    pub kept-next : (after : List Message) → after ≡ kept_with key (message_with b.key all) b kept → AreKept key all more after
    kept-next after is = by so.carried so.passed so.back so.all_are (sym so.left_are ∙ next)
      where
        first : (back : List Message) → all ≡ so.front ++ back → batches_of back ≡ b ∷ more → AreKept key all more after
        first [] split e = absurd (cc)
        first (sent ∷ back) split e =
            let same : sent.batch ≡ b = cc in
            let rest : option_to_list sent.second ++ batches_of back ≡ more = cc in
            record {
              front = so.front ++ sent ∷ [];
              carried = sent.second;
              back = back;
              all_are = split ∙ sym (append_assoc so.front (sent ∷ []) back);
              left_are = sym rest;
              passed = second-passed so.front back sent split;
              kept_are = is ∙ ap (λ (x : Batch). kept_with key (message_with x.key all) x kept) (sym same)
                  ∙ ap (kept_with key (message_with sent.batch.key all) sent.batch) so.kept_are ∙ one-kept so.front back sent split;
            }

        by : (o : Option Batch) → IfSome o (λ x. IfSome (message_with x.key all) (λ sent. key_eq sent.batch.key x.key ≡ false)) → (back : List Message) → all ≡ so.front ++ back
            → option_to_list o ++ batches_of back ≡ b ∷ more → AreKept key all more after
        by (Some x) passed back split e =
            let same : x ≡ b = cc in
            let rest : batches_of back ≡ more = cc in
            record {
              front = so.front;
              carried = None;
              back = back;
              all_are = split;
              left_are = sym rest;
              passed = tt;
              kept_are = is ∙ passed-by x same passed ∙ so.kept_are;
            }
        by None passed back split e = first back split e

-- at first nothing is gone over, and at the end all is
pub kept-first : (key : BatchKey) (all : List Message) (left : List Batch) → left ≡ batches_of all → AreKept key all left []
kept-first key all left e = record { front = []; carried = None; back = all; all_are = refl; left_are = e; passed = tt; kept_are = refl }

pub kept-last : (key : BatchKey) (all : List Message) (left : List Batch) (kept : List Message) → left ≡ [] → AreKept key all left kept → kept ≡ but_for key all
kept-last key all left kept e so = so.kept_are ∙ ap (but_for key) (by so.carried so.back so.all_are (sym so.left_are ∙ e))
  where
    by : (o : Option Batch) (back : List Message) → all ≡ so.front ++ back → option_to_list o ++ batches_of back ≡ [] → so.front ≡ all
    by (Some x) back split f = absurd (cc)
    by None [] split f = sym (append-nil so.front) ∙ sym split
    by None (sent ∷ back) split f = absurd (cc)

-- ---- what comes of the call

-- a message was dropped in a workflow, or for want of memory it is as it was
pub own-forgotten : {A E : Type 0} (r : Result A E) (domain workflow : Name) (key : BatchKey) (old new : WorkflowValue) → OnOk r (new ≡ without key old) → OnErr r (new ≡ old) → IsOwn domain workflow old
    → IsOwn domain workflow new
own-forgotten (Ok x) domain workflow key old new ok err own = subst (IsOwn domain workflow) (sym ok) (own-without key domain workflow old own)
own-forgotten (Err x) domain workflow key old new ok err own = subst (IsOwn domain workflow) (sym err) own

pub due-left : {A E : Type 0} (r : Result A E) (domain workflow : Name) (key : BatchKey) (old new : Cell) (list : List (Name × Name)) → OnOk r (IsForgotten domain workflow key old new)
    → OnErr r (new ≡ old) → IsWorkflow (workflow_of domain workflow old) → HoldDue list old → HoldDue list new
due-left (Ok x) domain workflow key old new list ok err is hold = hold-forgotten domain workflow key old new ok is list hold
due-left (Err x) domain workflow key old new list ok err is hold = subst (HoldDue list) (sym err) hold

pub behind-left : {A E : Type 0} (r : Result A E) (domain workflow : Name) (key : BatchKey) (old new : Cell) (list : List (Name × Name)) → OnOk r (IsForgotten domain workflow key old new)
    → OnErr r (new ≡ old) → IsWorkflow (workflow_of domain workflow old) → HoldBehind list old → HoldBehind list new
behind-left (Ok x) domain workflow key old new list ok err is hold = behind-forgotten domain workflow key old new ok is list hold
behind-left (Err x) domain workflow key old new list ok err is hold = subst (HoldBehind list) (sym err) hold

pub ok-then : {A E : Type 0} (r : Result A E) (P Q : Type 0) → (P → Q) → OnOk r P → OnOk r Q
ok-then (Ok x) P Q f p = f p
ok-then (Err x) P Q f p = tt

pub err-then : {A E : Type 0} (r : Result A E) (P Q : Type 0) → (P → Q) → OnErr r P → OnErr r Q
err-then (Ok x) P Q f p = tt
err-then (Err x) P Q f p = f p
