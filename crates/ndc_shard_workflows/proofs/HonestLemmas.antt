-- Messages that leave what is learned sound all fit.
use Rattle.std.proofs.Common.{◌≡◌, ◌<◌, ◌^◌, Bool, true, not, ◌&&◌, is_some, List, [], ◌∷◌, ◌++◌, Option, Some, None, IfSome, Result, Ok, Err, IsOk, refl, sym, ◌∙◌, subst, ap, arith, append_assoc}
use Rattle.std.specs.Prelude.{if◌then◌else◌}
use Rattle.std.specs.Option.{option_or}
use Rattle.std.specs.List.{AllByRecursion}
use Rattle.std.proofs.lemmas.Bool.{and_from}
use Rattle.std.proofs.lemmas.List.{append-nil}
use Rattle.ndc_admission.proofs.AddedLemmas.{set_tells_path}
use Rattle.ndc_admission.specs.History.{TellsPathIn, tells_path}
use Rattle.ndc_event.specs.Batch.{fault_of}
use Rattle.ndc_event.specs.declared.batch.Batch.{Batch}
use Rattle.ndc_event.specs.declared.key.BatchKey.{BatchKey}
use Rattle.ndc_model_cells.specs.Cells.{both}
use Rattle.ndc_model_cells.specs.Laws.{arrived_second}
use Rattle.ndc_model_cells.specs.Messages.{batches_of, HasSmallIds, IsCarriedBy, IsMessage, IsNewTo}
use Rattle.ndc_model_cells.specs.Writing.{greatest_task}
use Rattle.ndc_model_cells.specs.declared.message.Message.{Message}
use Rattle.ndc_model_sets.specs.Learned.{IsPart, has_key, learned}
use Rattle.ndc_model_sets.specs.Sets.{Has, IsSet, arrived, batch_at, earlier}
use Rattle.ndc_model_sets.specs.Sound.{IsSound}
use Rattle.ndc_model_sets.proofs.ArrivalLemmas.{arrival_keeps_sets, is_there, stays}
use Rattle.ndc_run.specs.Learning.{or_error}
use Rattle.ndc_run.specs.declared.answer.Learned.{Learned}
use Rattle.ndc_shard_runs.specs.Fitting.{GoesWithNew, fit_of}
use Rattle.ndc_shard_runs.specs.declared.misfit.Misfit.{Misfit}
use Rattle.ndc_shard_runs.specs.declared.misfit.Misfit.TheVariants.{IllFormed}
use Rattle.ndc_shard_runs.proofs.AdmitLemmas.{would-be-sound}
use Rattle.ndc_shard_runs.proofs.ArrivedLemmas.{greatest-arrived, none-after}
use Rattle.ndc_shard_waiting.specs.Learning.{with_message, with_messages, ArePutOff}
use Rattle.ndc_shard_waiting.specs.Waiting.{freed, freed_by, still_put_off}
use Rattle.ndc_shard_waiting.proofs.FreedLemmas.{all-freed, batches-freed}
use Rattle.ndc_shard_waiting.proofs.KeptLemmas.{carried-after}
use Rattle.ndc_shard_waiting.proofs.LearnLemmas.{with-found}
use Rattle.ndc_shard_waiting.proofs.OrderLemmas.{all-back, all-front, not-at}
use Rattle.ndc_shard_workflows.specs.Admitting.{HasSmallTask, IsLone, Settling, fit_message, is_faultless, is_second_faultless, is_whole, settled, settled_one, settled_with}
use Rattle.ndc_shard_workflows.specs.Learnable.{CanBeLearned}
use Rattle.ndc_shard_workflows.specs.declared.admission.NotAdmitted.{NotAdmitted}
use Rattle.ndc_shard_workflows.specs.declared.admission.NotAdmitted.TheVariants as refused
use Rattle.ndc_shard_workflows.proofs.FreedLemmas.{freed-can, learned-later}
use Rattle.ndc_shard_workflows.proofs.LearnableLemmas.{next-sound, others-can}
use Rattle.ndc_shard_workflows.proofs.SettleLemmas.{learned-there}

-- messages that are gone over, with none set aside
abbrev settling : List Batch → List Message → List Message → Settling
settling known waiting done = record { known = known; waiting = waiting; learned = done; aside = [] }

-- what a batch carries is not there with it, where it was not there before
not-there : (known : List Batch) (b second : Batch) → IsCarriedBy b second → batch_at second.key known ≡ None → batch_at second.key (arrived b known) ≡ None
not-there known b second carried none = none-after b known second.key (not-at second.key b (carried-after b second carried)) none

faultless-true : (b : Batch) → fault_of b ≡ None → is_faultless b ≡ true
faultless-true b e = ap (λ o. not (is_some o)) e

-- what is learned stays while messages are
comes-there : (known : List Batch) (messages : List Message) → CanBeLearned known messages → (b : Batch) → Has known b → Has (with_messages messages known) b
comes-there known [] can b has = has
comes-there known (sent ∷ messages) can b has =
    comes-there (with_message sent known) messages (others-can known sent messages can) b
    (with-found sent known b.key can.set can.each.0.back ∙ ap (λ o. option_or o (batch_at b.key (both sent))) has)

-- a message that can be learned, leaves what is learned sound, and has the version history of its path, fits
module _ (known : List Batch) (sent : Message) (messages : List Message) (can : CanBeLearned known (sent ∷ messages)) (sound : IsSound known) (lone : IsLone sent) (small : greatest_task known < 2 ^ 64)
    (tasks : AllByRecursion HasSmallTask (both sent)) (all : List Batch) (all_sound : IsSound all) (within : IsPart (with_messages (sent ∷ messages) known) all) (told : TellsPathIn all sent) where
  first-there : Has (arrived sent.batch known) sent.batch
  first-there = is_there sent.batch known can.set.ordered can.order.0.0.0

  first-set : IsSet (arrived sent.batch known)
  first-set = arrival_keeps_sets sent.batch known can.set can.each.0.back

  first-faultless : fault_of sent.batch ≡ None
  first-faultless = (next-sound known sent messages can).faultless sent.batch (stay sent.second)
    where
      stay : (o : Option Batch) → Has (arrived_second o (arrived sent.batch known)) sent.batch
      stay None = first-there
      stay (Some second) = stays second (arrived sent.batch known) first-set.ordered sent.batch first-there

  second-fits : (o : Option Batch) → sent.second ≡ o → (is_second_faultless o ≡ true) × IfSome o (GoesWithNew known sent.batch) × IfSome o (λ s. s.key.task < 2 ^ 64)
  second-fits None e = (refl, tt, tt)
  second-fits (Some second) e = (faultless-true second none, carries, small-task)
    where
      carried : IsCarriedBy sent.batch second
      carried = subst (λ (o : Option Batch). IfSome o (IsCarriedBy sent.batch)) e can.each.0.second

      new : AllByRecursion (λ (b : Batch). batch_at b.key known ≡ None) (both (record sent { second = Some second }))
      new = subst (λ (o : Option Batch). AllByRecursion (λ (b : Batch). batch_at b.key known ≡ None) (both (record sent { second = o }))) e can.order.0.0

      small-task : second.key.task < 2 ^ 64
      small-task = (subst (λ (o : Option Batch). AllByRecursion HasSmallTask (both (record sent { second = o }))) e tasks).1.0

      apart : batch_at second.key (arrived sent.batch known) ≡ None
      apart = not-there known sent.batch second carried new.1.0

      none : fault_of second ≡ None
      none = (next-sound known sent messages can).faultless second (subst (λ (o : Option Batch). Has (arrived_second o (arrived sent.batch known)) second) (sym e) (is_there second (arrived sent.batch known) first-set.ordered apart))

      carries : GoesWithNew known sent.batch second
      carries = record { goes = record { key = carried.key; parent = carried.parent; carrier = goes-so second.carrier carried.carrier }; faultless = none; fresh = new.1.0 }
        where
          goes-so : (c : Option BatchKey) → c ≡ Some sent.batch.key → IfSome c (λ key. key ≡ sent.batch.key)
          goes-so None is = absurd (cc)
          goes-so (Some key) is = cc

  whole : is_whole sent ≡ true
  whole =
      and_from (not (is_some sent.batch.carrier)) (is_faultless sent.batch && is_second_faultless sent.second) (ap (λ o. not (is_some o)) lone)
      (and_from (is_faultless sent.batch) (is_second_faultless sent.second) (faultless-true sent.batch first-faultless) (second-fits sent.second refl).0)

  told-so : tells_path known sent ≡ true
  told-so = set_tells_path all known sent all_sound can.set can.closed (λ b has. within b (ever b has)) (within sent.batch own-there) can.order.0.1 told
    where
      ever : (b : Batch) → Has known b → Has (with_messages (sent ∷ messages) known) b
      ever b has = comes-there known (sent ∷ messages) can b has

      own-there : Has (with_messages (sent ∷ messages) known) sent.batch
      own-there = comes-there (with_message sent known) messages (others-can known sent messages can) sent.batch (stay sent.second)
        where
          stay : (o : Option Batch) → Has (arrived_second o (arrived sent.batch known)) sent.batch
          stay None = first-there
          stay (Some second) = stays second (arrived sent.batch known) first-set.ordered sent.batch first-there

  pub message-fits : IsOk (fit_message known sent)
  message-fits =
      subst (λ (t : Bool). IsOk (if t then (if tells_path known sent then or_error refused.Misfit (fit_of known sent.batch sent.second) else Err refused.History) else Err (refused.Misfit IllFormed))) (sym whole)
      (subst (λ (t : Bool). IsOk (if t then or_error refused.Misfit (fit_of known sent.batch sent.second) else Err refused.History)) (sym told-so)
      (as-error (fit_of known sent.batch sent.second) fits-so))
    where
      as-error : (r : Result Learned Misfit) → IsOk r → IsOk (or_error refused.Misfit r)
      as-error (Ok x) ok = ok
      as-error (Err why) ok = absurd (cc)

      fits-so : IsOk (fit_of known sent.batch sent.second)
      fits-so =
          would-be-sound known sent.batch sent.second sound (record { fresh = can.order.0.0.0; faultless = first-faultless; reached = can.order.0.1 }) (second-fits sent.second refl).1 small tasks.0
          (second-fits sent.second refl).2 (next-sound known sent messages can)

  pub small-then : greatest_task (with_message sent known) < 2 ^ 64
  small-then = by sent.second refl
    where
      first : greatest_task (arrived sent.batch known) < 2 ^ 64
      first = let t = tasks.0 in subst (λ n. n < 2 ^ 64) (sym (greatest-arrived sent.batch known can.order.0.0.0)) (omega (arith, small, t))

      by : (o : Option Batch) → sent.second ≡ o → greatest_task (arrived_second o (arrived sent.batch known)) < 2 ^ 64
      by None e = first
      by (Some second) e =
          let new = (subst (λ (o : Option Batch). AllByRecursion (λ (b : Batch). batch_at b.key known ≡ None) (both (record sent { second = o }))) e can.order.0.0).1.0 in
          let t = (subst (λ (o : Option Batch). AllByRecursion HasSmallTask (both (record sent { second = o }))) e tasks).1.0 in
          let carried = subst (λ (o : Option Batch). IfSome o (IsCarriedBy sent.batch)) e can.each.0.second in
          let f = first in
          subst (λ n. n < 2 ^ 64) (sym (greatest-arrived second (arrived sent.batch known) (not-there known sent.batch second carried new))) (omega (arith, f, t))

-- so do all
pub all-fit : (messages : List Message) (known : List Batch) (waiting done : List Message) → CanBeLearned known messages → IsSound known → AllByRecursion IsLone messages → greatest_task known < 2 ^ 64 → AllByRecursion HasSmallTask (batches_of messages)
    → (all : List Batch) → IsSound all → IsPart (with_messages messages known) all → AllByRecursion (TellsPathIn all) messages
    → settled messages (record { known = known; waiting = waiting; learned = done; aside = [] }) ≡ record { known = with_messages messages known; waiting = waiting; learned = done ++ messages; aside = [] }
all-fit [] known waiting done can sound lone small tasks all all_sound within told = ap (λ (l : List Message). settling known waiting l) (sym (append-nil done))
all-fit (sent ∷ messages) known waiting done can sound lone small tasks all all_sound within told =
    ap (settled messages) (fits-now (fit_message known sent) refl (message-fits known sent messages can sound lone.0 small own all all_sound within told.0))
    ∙ all-fit messages (with_message sent known) waiting (done ++ sent ∷ []) (others-can known sent messages can) (next-sound known sent messages can) lone.1
    (small-then known sent messages can sound lone.0 small own all all_sound within told.0) (all-back HasSmallTask (both sent) (batches_of messages) tasks) all all_sound within told.1
    ∙ ap (λ (l : List Message). settling (with_messages messages (with_message sent known)) waiting l) (append_assoc done (sent ∷ []) messages)
  where
    own : AllByRecursion HasSmallTask (both sent)
    own = all-front HasSmallTask (both sent) (batches_of messages) tasks

    fits-now : (r : Result Learned NotAdmitted) → fit_message known sent ≡ r → IsOk r → settled_one sent (settling known waiting done) ≡ settling (with_message sent known) waiting (done ++ sent ∷ [])
    fits-now (Err why) e ok = absurd (cc)
    fits-now (Ok x) e ok = rw (ap is_some can.order.0.0.0, can.order.0.1, e) refl

-- a message of which the earlier key is learned, and with which what is learned then is sound, is admitted as it arrives
module _ (known : List Batch) (waiting : List Message) (are : ArePutOff known waiting) (new : Message) (message : IsMessage new) (fresh : IsNewTo (with_messages waiting known) new)
    (reached : has_key (earlier new.batch) known ≡ true) (own : AllByRecursion HasSmallIds (both new)) (ids : AllByRecursion HasSmallIds (batches_of waiting))
    (sound : IsSound known) (after : IsSound (learned (with_message new (with_messages waiting known)))) (lone : IsLone new) (lones : AllByRecursion IsLone waiting)
    (small : greatest_task known < 2 ^ 64) (task : AllByRecursion HasSmallTask (both new)) (tasks : AllByRecursion HasSmallTask (batches_of waiting))
    (all : List Batch) (all_sound : IsSound all) (within : IsPart (learned (with_message new (with_messages waiting known))) all) (told : TellsPathIn all new)
    (histories : AllByRecursion (TellsPathIn all) waiting) where
  abbrev ones : List Message
  ones = freed_by (both new) waiting

  can : CanBeLearned known (new ∷ ones)
  unfolding freed
  can = freed-can known waiting are new message fresh reached own ids after

  -- what is learned then is of the set
  then-within : IsPart (with_messages (new ∷ ones) known) all
  unfolding freed
  then-within = subst (λ (l : List Batch). IsPart l all) (learned-later known waiting are new message fresh reached) within

  pub new-fits : IsOk (fit_message known new)
  new-fits = message-fits known new ones can sound lone small task all all_sound then-within told

  pub all-settle : settled_with new known waiting ≡ record { known = with_messages (freed new waiting) known; waiting = still_put_off new waiting; learned = freed new waiting; aside = [] }
  unfolding freed
  all-settle =
      ap (settled ones) first
      ∙ all-fit ones (with_message new known) (still_put_off new waiting) (new ∷ []) (others-can known new ones can) (next-sound known new ones can) (all-freed IsLone (both new) waiting lones).0
      (small-then known new ones can sound lone small task all all_sound then-within told) (batches-freed HasSmallTask (both new) waiting tasks).0
      all all_sound then-within (all-freed (TellsPathIn all) (both new) waiting histories).0
    where
      first : settled_one new (settling (with_message new known) (still_put_off new waiting) []) ≡ settling (with_message new known) (still_put_off new waiting) (new ∷ [])
      first = rw (learned-there known new are.set message.back) refl
