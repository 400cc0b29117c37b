-- Messages that waited for one that is learned are gone over.
use Rattle.std.proofs.Common.{◌≡◌, Bool, true, false, is_some, List, [], ◌∷◌, ◌++◌, Option, Some, None, IsSome, Result, Ok, Err, IsOk, refl, sym, ◌∙◌, subst, ap, true≢false}
use Rattle.std.specs.Prelude.{⊤, option_to_list, if◌then◌else◌}
use Rattle.std.specs.Option.{option_or}
use Rattle.std.specs.List.{AllByRecursion}
use Rattle.ndc_admission.specs.History.{tells_path}
use Rattle.ndc_event.specs.declared.batch.Batch.{Batch}
use Rattle.ndc_event.specs.declared.key.BatchKey.{BatchKey}
use Rattle.ndc_model_cells.specs.Cells.{both, missing_of}
use Rattle.ndc_model_cells.specs.Messages.{batches_of, HasSmallIds, IsMessage, IsNewTo}
use Rattle.ndc_model_cells.specs.Workflow.{WorkflowValue}
use Rattle.ndc_model_cells.specs.declared.message.Message.{Message}
use Rattle.ndc_model_sets.specs.Learned.{has_key, learned}
use Rattle.ndc_model_sets.specs.Sets.{Has, IsSet, PointsBack, batch_at, earlier}
use Rattle.ndc_model_sets.proofs.Lists.{all-join}
use Rattle.ndc_model_sets.proofs.SetLemmas.{after-trans, at-first, none-there}
use Rattle.ndc_shard_waiting.specs.Learning.{with_message, with_messages, ArePutOff}
use Rattle.ndc_shard_waiting.specs.Waiting.{CanWait, freed, freed_by, kept_by, missing_from, put_off, still_put_off}
use Rattle.ndc_shard_waiting.proofs.FreeLemmas.{more_put_off, rise-news}
use Rattle.ndc_shard_waiting.proofs.FreedLemmas.{all-freed, batches-freed}
use Rattle.ndc_shard_waiting.proofs.KeptLemmas.{IsApart, both-all, both-back, carried-earlier, front-none, has-back, has-front, has-neither, precede-none}
use Rattle.ndc_shard_waiting.proofs.LawLemmas.{others_put_off}
use Rattle.ndc_shard_waiting.proofs.LearnLemmas.{all-found, has-found-or, learned_is, with-found, with-set}
use Rattle.ndc_shard_waiting.proofs.MissingLemmas.{missing_is}
use Rattle.ndc_shard_waiting.proofs.OrderLemmas.{Precede, all-back, all-front, all-more, all-two, rise-back, rise-precede}
use Rattle.ndc_shard_waiting.proofs.PutLemmas.{apart-flip, batches-put, put-found}
use Rattle.ndc_run.specs.declared.answer.Learned.{Learned}
use Rattle.ndc_run.specs.Learning.{or_error}
use Rattle.ndc_shard_runs.specs.Fitting.{fit_of}
use Rattle.ndc_shard_runs.specs.declared.misfit.Misfit.{Misfit}
use Rattle.ndc_shard_runs.specs.declared.misfit.Misfit.TheVariants.{IllFormed}
use Rattle.ndc_shard_workflows.specs.Admitting.{IsEarly, IsPutOff, IsRefused, IsTried, Settling, fit_message, is_whole, settled, settled_one, settled_with, tried}
use Rattle.ndc_shard_workflows.specs.Settling.{CanSettle, IsLeft, IsSettled}
use Rattle.ndc_shard_workflows.specs.declared.admission.Admission.{Admission}
use Rattle.ndc_shard_workflows.specs.declared.admission.Admission.TheVariants as admission
use Rattle.ndc_shard_workflows.specs.declared.admission.NotAdmitted.{NotAdmitted}
use Rattle.ndc_shard_workflows.specs.declared.admission.NotAdmitted.TheVariants as refused
use Rattle.ndc_shard_workflows.specs.declared.admission.SetAside.{SetAside}
use Rattle.ndc_shard_workflows.specs.Workflow.{beside}
use Rattle.ndc_shard_workflows.proofs.LearnableLemmas.{message-closed}
use Rattle.ndc_shard_workflows.proofs.PutOffLemmas.{new-to-waiting, put-off-beside, put-off-with}

no-front : (o : Option BatchKey) (front back : List Batch) → has_key o (front ++ back) ≡ false → has_key o front ≡ false
no-front o front back h = by (has_key o front) refl
  where
    by : (t : Bool) → has_key o front ≡ t → has_key o front ≡ false
    by true e = absurd (true≢false (sym (has-front o front back e) ∙ h))
    by false e = e

no-back : (o : Option BatchKey) (front back : List Batch) → has_key o (front ++ back) ≡ false → has_key o back ≡ false
no-back o front back h = by (has_key o back) refl
  where
    by : (t : Bool) → has_key o back ≡ t → has_key o back ≡ false
    by true e = absurd (true≢false (sym (has-back o front back e) ∙ h))
    by false e = e

-- what holds of all batches holds of those of each message
by-message : (P : Batch → Type 0) (messages : List Message) → AllByRecursion P (batches_of messages) → AllByRecursion (λ sent. AllByRecursion P (both sent)) messages
by-message P [] all = tt
by-message P (sent ∷ messages) all = (all-front P (both sent) (batches_of messages) all, by-message P messages (all-back P (both sent) (batches_of messages) all))

or-none : (one two : Option Batch) → option_or one two ≡ None → (one ≡ None) × (two ≡ None)
or-none None two e = (refl, e)
or-none (Some x) two e = absurd (cc)

none-of : (one two : Option Batch) → one ≡ None → two ≡ None → option_or one two ≡ None
none-of one two e f = ap (λ o. option_or o two) e ∙ f

-- one message is gone over
module _ (known : List Batch) (waiting : List Message) (sent : Message) (rest : List Message) (can : CanSettle known waiting (sent ∷ rest)) where
  before : Precede (both sent) (batches_of rest)
  before = rise-precede (both sent) (batches_of rest) can.rise

  tail-quiet : AllByRecursion (λ b. has_key (earlier b) (batches_of rest) ≡ false) (batches_of waiting)
  tail-quiet =
      all-more (λ b. has_key (earlier b) (both sent ++ batches_of rest) ≡ false) (λ b. has_key (earlier b) (batches_of rest) ≡ false)
      (λ b h. no-back (earlier b) (both sent) (batches_of rest) h) (batches_of waiting) can.quiet

  own-new : IsNewTo (batches_of waiting) sent
  own-new = all-front (λ b. batch_at b.key (batches_of waiting) ≡ None) (both sent) (batches_of rest) can.keys

  own-small : AllByRecursion HasSmallIds (both sent)
  own-small = all-front HasSmallIds (both sent) (batches_of rest) can.left_small

  tail-keys : IsApart (batches_of waiting) (batches_of rest)
  tail-keys = all-back (λ b. batch_at b.key (batches_of waiting) ≡ None) (both sent) (batches_of rest) can.keys

  -- it is neither learned nor put back
  pub passed : CanSettle known waiting rest
  passed = record {
    apart = can.apart;
    small = can.small;
    left_small = all-back HasSmallIds (both sent) (batches_of rest) can.left_small;
    each = can.each.1;
    keys = tail-keys;
    quiet = tail-quiet;
    rise = rise-back (both sent) (batches_of rest) can.rise;
  }

  -- it waits on
  module _ (unknown : has_key (Some sent.batch.key) known ≡ false) (off : has_key (earlier sent.batch) known ≡ false) where
    own-quiet : AllByRecursion (λ b. has_key (earlier b) (batches_of rest) ≡ false) (both sent)
    own-quiet =
        both-all (λ b. has_key (earlier b) (batches_of rest) ≡ false) sent can.each.0.message (below (earlier sent.batch) refl (can.each.0.waits unknown).waits)
        (λ second by. rw (carried-earlier sent.batch second by) (ap is_some (front-none (both sent) (batches_of rest) before).0))
      where
        below : (o : Option BatchKey) → earlier sent.batch ≡ o → IsSome o → has_key (earlier sent.batch) (batches_of rest) ≡ false
        below None e some = absurd (cc)
        below (Some key) e some =
            ap (λ k. has_key k (batches_of rest)) e
            ∙ ap is_some (none-there (batches_of rest) key (after-trans key sent.batch.key (batches_of rest) (can.each.0.message.back key e) before.0))

    pub put-back : CanSettle known (put_off sent waiting) rest
    put-back = record {
      apart = more_put_off known waiting sent can.apart (can.each.0.waits unknown) (can.each.0.fresh unknown) own-new off;
      small = batches-put HasSmallIds sent waiting own-small can.small;
      left_small = passed.left_small;
      each = can.each.1;
      keys = all-two (λ (b : Batch). batch_at b.key (batches_of waiting) ≡ None) (λ b. batch_at b.key (both sent) ≡ None) (λ b. batch_at b.key (batches_of (put_off sent waiting)) ≡ None)
          (λ b e f. put-found sent waiting b.key own-new ∙ none-of (batch_at b.key (batches_of waiting)) (batch_at b.key (both sent)) e f)
          (batches_of rest) tail-keys (precede-none (both sent) (batches_of rest) before);
      quiet = batches-put (λ b. has_key (earlier b) (batches_of rest) ≡ false) sent waiting own-quiet tail-quiet;
      rise = passed.rise;
    }

  -- it is learned
  module _ (reached : has_key (earlier sent.batch) known ≡ true) where
    found : (key : BatchKey) → batch_at key (with_message sent known) ≡ option_or (batch_at key known) (batch_at key (both sent))
    found key = with-found sent known key can.apart.set can.each.0.message.back

    front-quiet : AllByRecursion (λ b. has_key (earlier b) (both sent) ≡ false) (batches_of waiting)
    front-quiet =
        all-more (λ b. has_key (earlier b) (both sent ++ batches_of rest) ≡ false) (λ b. has_key (earlier b) (both sent) ≡ false)
        (λ b h. no-front (earlier b) (both sent) (batches_of rest) h) (batches_of waiting) can.quiet

    still-unknown : (key : BatchKey) → has_key (Some key) (with_message sent known) ≡ false → has_key (Some key) known ≡ false
    still-unknown key h = by (batch_at key known) refl
      where
        by : (o : Option Batch) → batch_at key known ≡ o → has_key (Some key) known ≡ false
        by None e = ap is_some e
        by (Some x) e = absurd (true≢false (sym (ap is_some (found key ∙ ap (λ o. option_or o (batch_at key (both sent))) e)) ∙ h))

    new-to-both : AllByRecursion (λ m. AllByRecursion (λ b. batch_at b.key (both sent) ≡ None) (both m)) rest
    new-to-both = by-message (λ b. batch_at b.key (both sent) ≡ None) rest (precede-none (both sent) (batches_of rest) before)

    pub learned-next : CanSettle (with_message sent known) waiting rest
    learned-next = record {
      apart = record {
        set = with-set sent known can.apart.set (both-back sent can.each.0.message);
        closed = message-closed known sent can.apart.set can.apart.closed can.each.0.message reached;
        messages = can.apart.messages;
        apart = all-two (λ (b : Batch). batch_at b.key known ≡ None) (λ b. batch_at b.key (both sent) ≡ None) (λ b. batch_at b.key (with_message sent known) ≡ None)
            (λ b e f. found b.key ∙ none-of (batch_at b.key known) (batch_at b.key (both sent)) e f) (batches_of waiting) can.apart.apart (apart-flip (batches_of waiting) (both sent) own-new);
        off = all-two (λ (b : Batch). has_key (earlier b) known ≡ false) (λ b. has_key (earlier b) (both sent) ≡ false) (λ b. has_key (earlier b) (with_message sent known) ≡ false)
            (λ b e f. has-found-or (earlier b) known (both sent) (with_message sent known) found ∙ has-neither (earlier b) known (both sent) e f) (batches_of waiting) can.apart.off front-quiet;
      };
      small = can.small;
      left_small = passed.left_small;
      each = all-two (IsLeft known) (λ m. AllByRecursion (λ b. batch_at b.key (both sent) ≡ None) (both m)) (IsLeft (with_message sent known))
          (λ m left new. record {
            message = left.message;
            waits = λ u. left.waits (still-unknown m.batch.key u);
            fresh = λ u. all-two (λ (b : Batch). batch_at b.key known ≡ None) (λ b. batch_at b.key (both sent) ≡ None) (λ b. batch_at b.key (with_message sent known) ≡ None)
                (λ b e f. found b.key ∙ none-of (batch_at b.key known) (batch_at b.key (both sent)) e f) (both m) (left.fresh (still-unknown m.batch.key u)) new;
          }) rest can.each.1 new-to-both;
      keys = tail-keys;
      quiet = tail-quiet;
      rise = passed.rise;
    }

-- a message is there once it is learned
pub learned-there : (known : List Batch) (new : Message) → IsSet known → PointsBack new.batch → has_key (Some new.batch.key) (with_message new known) ≡ true
learned-there known new set back =
    has-found-or (Some new.batch.key) known (both new) (with_message new known) (λ key. with-found new known key set back)
    ∙ has-back (Some new.batch.key) known (both new) (ap is_some (at-first new.batch (option_to_list new.second)))

-- where a message is learned, what it frees can be gone over
module _ (known : List Batch) (waiting : List Message) (new : Message) (are : ArePutOff known waiting) (message : IsMessage new) (fresh : IsNewTo known new) (apart : IsNewTo (batches_of waiting) new)
    (reached : has_key (earlier new.batch) known ≡ true) (own : AllByRecursion HasSmallIds (both new)) (small : AllByRecursion HasSmallIds (batches_of waiting)) where
  abbrev ones : List Message
  ones = freed_by (both new) waiting

  first-set : IsSet (with_message new known)
  first-set = with-set new known are.set (both-back new message)

  ones-back : AllByRecursion PointsBack (batches_of ones)
  ones-back = (batches-freed PointsBack (both new) waiting are.messages.set.back).0

  later : ArePutOff (with_messages ones (with_message new known)) (kept_by (both new) waiting)
  unfolding freed still_put_off
  later = others_put_off known waiting new are message fresh apart reached

  in-later : (key : BatchKey) → batch_at key (with_messages ones (with_message new known)) ≡ option_or (batch_at key (with_message new known)) (batch_at key (batches_of ones))
  in-later key = all-found ones (with_message new known) key first-set ones-back

  first-found : (key : BatchKey) → batch_at key (with_message new known) ≡ option_or (batch_at key known) (batch_at key (both new))
  first-found key = with-found new known key are.set message.back

  -- what is not in all of it is neither in what is learned first nor in what is freed
  not-in : (o : Option BatchKey) → has_key o (with_messages ones (with_message new known)) ≡ false → (has_key o (with_message new known) ≡ false) × (has_key o (batches_of (new ∷ ones)) ≡ false)
  not-in None h = absurd (true≢false h)
  not-in (Some key) h =
      let none = absent (batch_at key (with_messages ones (with_message new known))) h in
      let p = or-none (batch_at key (with_message new known)) (batch_at key (batches_of ones)) (sym (in-later key) ∙ none) in
      let q = or-none (batch_at key known) (batch_at key (both new)) (sym (first-found key) ∙ p.0) in
      (ap is_some p.0, has-neither (Some key) (both new) (batches_of ones) (ap is_some q.1) (ap is_some p.1))
    where
      absent : (o : Option Batch) → is_some o ≡ false → o ≡ None
      absent None e = refl
      absent (Some x) e = absurd (true≢false e)

  freed-apart : IsApart (batches_of (new ∷ ones)) (batches_of (kept_by (both new) waiting))
  freed-apart =
      all-more (λ (b : Batch). batch_at b.key (with_messages ones (with_message new known)) ≡ None) (λ b. batch_at b.key (batches_of (new ∷ ones)) ≡ None)
      (λ b e. absent (batch_at b.key (batches_of (new ∷ ones))) (not-in (Some b.key) (ap is_some e)).1) (batches_of (kept_by (both new) waiting)) later.apart
    where
      absent : (o : Option Batch) → is_some o ≡ false → o ≡ None
      absent None e = refl
      absent (Some x) e = absurd (true≢false e)

  new-ones : AllByRecursion (λ m. IsNewTo known m × IsNewTo (both new) m) ones
  new-ones =
      both-parts ones (by-message (λ b. batch_at b.key known ≡ None) ones (batches-freed (λ b. batch_at b.key known ≡ None) (both new) waiting are.apart).0)
      (by-message (λ b. batch_at b.key (both new) ≡ None) ones (batches-freed (λ b. batch_at b.key (both new) ≡ None) (both new) waiting (apart-flip (batches_of waiting) (both new) apart)).0)
    where
      both-parts : (list : List Message) → AllByRecursion (IsNewTo known) list → AllByRecursion (IsNewTo (both new)) list → AllByRecursion (λ m. IsNewTo known m × IsNewTo (both new) m) list
      both-parts [] one two = tt
      both-parts (m ∷ list) one two = ((one.0, two.0), both-parts list one.1 two.1)

  pub can-begin : CanSettle (with_message new known) (still_put_off new waiting) (freed new waiting)
  unfolding freed still_put_off
  can-begin = record {
    apart = record {
      set = first-set;
      closed = message-closed known new are.set are.closed message reached;
      messages = later.messages;
      apart = all-more (λ (b : Batch). batch_at b.key (with_messages ones (with_message new known)) ≡ None) (λ b. batch_at b.key (with_message new known) ≡ None)
          (λ b e. (or-none (batch_at b.key (with_message new known)) (batch_at b.key (batches_of ones)) (sym (in-later b.key) ∙ e)).0) (batches_of (kept_by (both new) waiting)) later.apart;
      off = all-more (λ (b : Batch). has_key (earlier b) (with_messages ones (with_message new known)) ≡ false) (λ b. has_key (earlier b) (with_message new known) ≡ false)
          (λ b e. (not-in (earlier b) e).0) (batches_of (kept_by (both new) waiting)) later.off;
    };
    small = (batches-freed HasSmallIds (both new) waiting small).1;
    left_small = all-join HasSmallIds (both new) (batches_of ones) own (batches-freed HasSmallIds (both new) waiting small).0;
    each = (first-left, others-left);
    keys = apart-flip (batches_of (new ∷ ones)) (batches_of (kept_by (both new) waiting)) freed-apart;
    quiet = all-more (λ (b : Batch). has_key (earlier b) (with_messages ones (with_message new known)) ≡ false) (λ b. has_key (earlier b) (batches_of (new ∷ ones)) ≡ false)
        (λ b e. (not-in (earlier b) e).1) (batches_of (kept_by (both new) waiting)) later.off;
    rise = rise-news known waiting new are message fresh apart reached;
  }
    where
      there : has_key (Some new.batch.key) (with_message new known) ≡ true
      there = learned-there known new are.set message.back

      first-left : IsLeft (with_message new known) new
      first-left = record { message = message; waits = λ u. absurd (true≢false (sym there ∙ u)); fresh = λ u. absurd (true≢false (sym there ∙ u)) }

      others-left : AllByRecursion (IsLeft (with_message new known)) ones
      others-left =
          all-two CanWait (λ m. IsNewTo known m × IsNewTo (both new) m) (IsLeft (with_message new known))
          (λ m waits are_new. record {
            message = waits.message;
            waits = λ u. waits;
            fresh = λ u. all-two (λ (b : Batch). batch_at b.key known ≡ None) (λ b. batch_at b.key (both new) ≡ None) (λ b. batch_at b.key (with_message new known) ≡ None)
                (λ b e f. first-found b.key ∙ none-of (batch_at b.key known) (batch_at b.key (both new)) e f) (both m) are_new.0 are_new.1;
          }) ones (all-freed CanWait (both new) waiting are.messages.each).0 new-ones

-- one message is gone over, whatever becomes of it
module _ (known : List Batch) (waiting : List Message) (sent : Message) (rest : List Message) (can : CanSettle known waiting (sent ∷ rest)) (done : List Message) (aside : List SetAside) where
  abbrev now : Settling
  now = record { known = known; waiting = waiting; learned = done; aside = aside }

  pub settled-next : CanSettle (settled_one sent now).known (settled_one sent now).waiting rest
  settled-next = by (has_key (Some sent.batch.key) known) refl (has_key (earlier sent.batch) known) refl (fit_message known sent)
    where
      by : (t : Bool) → has_key (Some sent.batch.key) known ≡ t → (u : Bool) → has_key (earlier sent.batch) known ≡ u → (r : Result Learned NotAdmitted)
          → CanSettle (if t then record now { learned = done ++ sent ∷ [] } else if u then tried r sent now else record now { waiting = put_off sent waiting }).known
          (if t then record now { learned = done ++ sent ∷ [] } else if u then tried r sent now else record now { waiting = put_off sent waiting }).waiting rest
      by true e u f r = passed known waiting sent rest can
      by false e true f (Ok fits) = learned-next known waiting sent rest can f
      by false e true f (Err why) = passed known waiting sent rest can
      by false e false f r = put-back known waiting sent rest can e f

-- one message is gone over, where more are left
pub settled-step : (s t : Settling) (left rest : List Message) (sent : Message) (all : Settling) → left ≡ sent ∷ rest → CanSettle s.known s.waiting left → settled left s ≡ all → t ≡ settled_one sent s
    → CanSettle t.known t.waiting rest × (settled rest t ≡ all)
settled-step s t left rest sent all e can same is = (
  subst (λ (v : Settling). CanSettle v.known v.waiting rest) (sym is) (settled-next s.known s.waiting sent rest (subst (CanSettle s.known s.waiting) e can) s.learned s.aside),
  ap (settled rest) is ∙ ap (λ (l : List Message). settled l s) (sym e) ∙ same,
)

-- why a message does not fit: for its history, or as a misfit
abbrev IsUnfit : NotAdmitted → Type 0
IsUnfit refused.History = ⊤
IsUnfit (refused.Misfit why) = ⊤
IsUnfit _ = ⊥

unfit : (known : List Batch) (sent : Message) (why : NotAdmitted) → fit_message known sent ≡ Err why → IsUnfit why
unfit known sent why e = by (is_whole sent) (tells_path known sent) (fit_of known sent.batch sent.second) e
  where
    by : (w t : Bool) (r : Result Learned Misfit) → (if w then (if t then or_error refused.Misfit r else Err refused.History) else Err (refused.Misfit IllFormed)) ≡ Err why → IsUnfit why
    by false t r h = let same : refused.Misfit IllFormed ≡ why = cc in subst IsUnfit same tt
    by true false r h = let same : refused.History ≡ why = cc in subst IsUnfit same tt
    by true true (Ok x) h = absurd (cc)
    by true true (Err m) h = let same : refused.Misfit m ≡ why = cc in subst IsUnfit same tt

-- what comes of a message that has not arrived
module _ (known : List Batch) (waiting : List Message) (are : ArePutOff known waiting) (sent : Message) where
  as-learned : learned (with_messages waiting known) ≡ known
  as-learned = learned_is known waiting are

  pub is-refused : (is_whole sent ≡ true → has_key (earlier sent.batch) known ≡ true) → (why : NotAdmitted) → fit_message known sent ≡ Err why → IsRefused sent why (beside known waiting)
  is-refused reached why e = record {
    reached = λ whole. ap (has_key (earlier sent.batch)) as-learned ∙ reached whole;
    why_is = ap (λ (l : List Batch). fit_message l sent) as-learned ∙ e;
  }

  -- a message that does not fit is refused
  pub tried-refused : has_key (earlier sent.batch) known ≡ true → (why : NotAdmitted) → fit_message known sent ≡ Err why → (may_wait : Bool) (after : WorkflowValue) → after ≡ beside known waiting
      → IsTried may_wait sent (admission.Refused why) (beside known waiting) after
  tried-refused reached refused.History e may_wait after same = (is-refused (λ _. reached) refused.History e, same)
  tried-refused reached (refused.Misfit why) e may_wait after same = (is-refused (λ _. reached) (refused.Misfit why) e, same)
  tried-refused reached (refused.Fault why) e may_wait after same = absurd (unfit known sent (refused.Fault why) e)
  tried-refused reached refused.OwnVersion e may_wait after same = absurd (unfit known sent refused.OwnVersion e)
  tried-refused reached refused.OwnOrigin e may_wait after same = absurd (unfit known sent refused.OwnOrigin e)
  tried-refused reached (refused.Rival key waits) e may_wait after same = absurd (unfit known sent (refused.Rival key waits) e)
  tried-refused reached refused.Full e may_wait after same = absurd (unfit known sent refused.Full e)

  pub tried-refused-as : has_key (earlier sent.batch) known ≡ true → (why told : NotAdmitted) → why ≡ told → fit_message known sent ≡ Err why → (may_wait : Bool) (after : WorkflowValue) → after ≡ beside known waiting
      → IsTried may_wait sent (admission.Refused told) (beside known waiting) after
  tried-refused-as reached why told one e may_wait after same =
      subst (λ (cause : NotAdmitted). IsTried may_wait sent (admission.Refused cause) (beside known waiting) after) one (tried-refused reached why e may_wait after same)

  pub is-early : is_whole sent ≡ true → has_key (earlier sent.batch) known ≡ false → IsEarly sent (beside known waiting)
  is-early whole off = record { whole = whole; off = ap (has_key (earlier sent.batch)) as-learned ∙ off }

  pub is-learned : has_key (earlier sent.batch) known ≡ true → (x : Learned) → fit_message known sent ≡ Ok x → (told : Admission) (after first : List Batch) (rest : List Message) (may_wait : Bool) → first ≡ with_message sent known
      → IsSettled told (settled (freed sent waiting) (record { known = first; waiting = still_put_off sent waiting; learned = []; aside = [] })) after rest
      → IsTried may_wait sent told (beside known waiting) (beside after rest)
  is-learned reached x e told after first rest may_wait first_is end = subst (λ (t : Admission). IsTried may_wait sent t (beside known waiting) (beside after rest)) (sym end.told_is) (record {
    reached = ap (has_key (earlier sent.batch)) as-learned ∙ reached;
    fits = subst (λ (k : List Batch). IsOk (fit_message k sent)) (sym as-learned) (subst IsOk (sym e) refl);
    learned_are = end.batches_are ∙ ap (λ (s : Settling). batches_of s.learned) with_it;
    aside_are = end.aside_are ∙ ap (λ (s : Settling). s.aside) with_it;
    workflow_is = (λ i. beside (end.known_is i) (end.waiting_is i)) ∙ ap (λ (s : Settling). beside s.known s.waiting) with_it;
  })
    where
      with_it : settled (freed sent waiting) (record { known = first; waiting = still_put_off sent waiting; learned = []; aside = [] }) ≡ settled_with sent (learned (with_messages waiting known)) waiting
      with_it =
          ap (λ (k : List Batch). settled (freed sent waiting) (record { known = k; waiting = still_put_off sent waiting; learned = []; aside = [] })) first_is
          ∙ ap (λ (k : List Batch). settled_with sent k waiting) (sym as-learned)

  module _ (message : IsMessage sent) (fresh : IsNewTo (with_messages waiting known) sent) where
    pub is-put-off : is_whole sent ≡ true → has_key (earlier sent.batch) known ≡ false → (rest : List Message) (missing : BatchKey) → rest ≡ put_off sent waiting
        → Some missing ≡ missing_from (Some sent.batch.key) (batches_of (put_off sent waiting)) → IsPutOff sent missing (beside known waiting) (beside known rest)
    is-put-off whole off rest missing same told = record {
      early = is-early whole off;
      waits = ap (beside known) same ∙ put-off-with known waiting are sent message fresh off;
      missing_is = ap (λ (l : List Message). missing_of sent.batch (with_messages l known)) same
          ∙ missing_is known (put_off sent waiting) (put-off-beside known waiting are sent message fresh off) sent.batch there ∙ sym told;
    }
      where
        there : Has (batches_of (put_off sent waiting)) sent.batch
        there =
            put-found sent waiting sent.batch.key (new-to-waiting known waiting are sent fresh)
            ∙ ap (λ o. option_or o (batch_at sent.batch.key (both sent))) (new-to-waiting known waiting are sent fresh).0 ∙ at-first sent.batch (option_to_list sent.second)
