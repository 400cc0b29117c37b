-- A message has no fault exactly where it is well-made.
use Rattle.std.proofs.Common.{◌≡◌, ◌≤◌, ◌^◌, Bool, true, false, ◌&&◌, not, nat_le, List, [], ◌∷◌, Option, Some, None, IfSome, is_some, is_none, refl, ap}
use Rattle.std.specs.Bool.{then_some}
use Rattle.std.specs.List.{AllByRecursion}
use Rattle.std.specs.Prelude.{option_map}
use Rattle.std.proofs.lemmas.Bool.{and_parts, and_from, leb-true, le-leb}
use Rattle.ndc_domain.specs.Clusters.{ClusterList, writer_of}
use Rattle.ndc_event.specs.Batch.{fault_of}
use Rattle.ndc_event.specs.declared.batch.Batch.{Batch}
use Rattle.ndc_event.specs.declared.batch.BatchFault.{BatchFault}
use Rattle.ndc_event.specs.declared.key.BatchKey.{BatchKey}
use Rattle.ndc_model_cells.specs.declared.message.Message.{Message}
use Rattle.ndc_model_cells.specs.Messages.{IsCarriedBy}
use Rattle.ndc_model_cells.specs.Places.{is_of}
use Rattle.ndc_model_cells.specs.Writing.{goes_on}
use Rattle.ndc_text.specs.Ranges.{InRange}
use Rattle.ndc_admission.specs.declared.fault.MessageFault.{MessageFault}
use Rattle.ndc_admission.specs.declared.fault.MessageFault.TheVariants.{Faulty, SecondFaulty, OutOfRange, SecondOutOfRange, Carried, LacksSecond, ExtraSecond, Foreign, NotCarried, NoWriter}
use Rattle.ndc_admission.specs.Faults.{first_of, second_fault, second_is, fits, is_carried_by, causes, first_fault, IsWellMade}
use Rattle.ndc_admission.specs.Numbers.{is_in_range}
use Rattle.ndc_admission.proofs.PairLemmas.{both-all, all-second, if-weaker, if-both, not-false, not-true, if-test, test-if, if-fault, fault-if, paired, pair-one, pair-two, carried-is, is-carried}
use Rattle.ndc_admission.proofs.RangeLemmas.{passes_in_range, in_range_passes}

-- where the first is none, all are
all-none : (list : List (Option MessageFault)) → first_of list ≡ None → AllByRecursion (λ o. o ≡ None) list
all-none [] e = tt
all-none (None ∷ later) e = (refl, all-none later e)
all-none (Some fault ∷ later) e = absurd (cc)

none-all : (list : List (Option MessageFault)) → AllByRecursion (λ o. o ≡ None) list → first_of list ≡ None
none-all [] h = refl
none-all (None ∷ later) h = none-all later h.1
none-all (Some fault ∷ later) h = let no : Some fault ≡ None = h.0 in absurd (cc)

-- a cause that does not hold
untrue : (t : Bool) (fault : MessageFault) → then_some t fault ≡ None → t ≡ false
untrue true fault e = absurd (cc)
untrue false fault e = refl

then-none : (t : Bool) (fault : MessageFault) → t ≡ false → then_some t fault ≡ None
then-none t fault e = ap (λ b. then_some b fault) e

unmapped : (f : BatchFault → MessageFault) (o : Option BatchFault) → option_map f o ≡ None → o ≡ None
unmapped f None e = refl
unmapped f (Some fault) e = absurd (cc)

some-not : {X : Type 0} → (o : Option X) → is_some o ≡ false → o ≡ None
some-not None e = refl
some-not (Some x) e = absurd (cc)

none-not : {X : Type 0} → (o : Option X) → is_none o ≡ false → is_some o ≡ true
none-not None e = absurd (cc)
none-not (Some x) e = refl

not-none : {X : Type 0} → (o : Option X) → is_some o ≡ true → is_none o ≡ false
not-none None e = absurd (cc)
not-none (Some x) e = refl

-- what fits is in range, with a small task
fit-parts : (b : Batch) → fits b ≡ true → (is_in_range b ≡ true) × (nat_le b.key.task (10 ^ 11) ≡ true)
fit-parts b e = and_parts (is_in_range b) (nat_le b.key.task (10 ^ 11)) e

fit-range : (b : Batch) → fits b ≡ true → InRange b
fit-range b e = passes_in_range b (fit-parts b e).0

fit-task : (b : Batch) → fits b ≡ true → b.key.task ≤ 10 ^ 11
fit-task b e = leb-true b.key.task (10 ^ 11) (fit-parts b e).1

fit-from : (b : Batch) → InRange b → b.key.task ≤ 10 ^ 11 → fits b ≡ true
fit-from b range task = and_from (is_in_range b) (nat_le b.key.task (10 ^ 11)) (in_range_passes b range) (le-leb b.key.task (10 ^ 11) task)

made-of : (sent : Message) (clusters : ClusterList) → AllByRecursion (λ o. o ≡ None) (causes sent clusters) → IsWellMade clusters sent
made-of sent clusters (one, (two, (three, (four, (five, (six, (seven, (eight, (nine, (ten, end)))))))))) =
    let own : fits sent.batch ≡ true = not-false (fits sent.batch) (untrue (not (fits sent.batch)) OutOfRange three) in
    let other : IfSome sent.second (λ b. fits b ≡ true) = if-test fits sent.second (untrue (second_is (λ b. not (fits b)) sent.second) SecondOutOfRange four) in
    record {
      faultless = both-all (λ b. fault_of b ≡ None) sent (unmapped Faulty (fault_of sent.batch) one) (if-fault sent.second (unmapped SecondFaulty (second_fault sent.second) two));
      range = both-all InRange sent (fit-range sent.batch own) (if-weaker (λ b. fits b ≡ true) InRange sent.second fit-range other);
      tasks = both-all (λ b. b.key.task ≤ 10 ^ 11) sent (fit-task sent.batch own) (if-weaker (λ b. fits b ≡ true) (λ b. b.key.task ≤ 10 ^ 11) sent.second fit-task other);
      lone = some-not sent.batch.carrier (untrue (is_some sent.batch.carrier) Carried five);
      goes = paired (goes_on sent.batch) sent.second (untrue (goes_on sent.batch && is_none sent.second) LacksSecond six) (untrue (not (goes_on sent.batch) && is_some sent.second) ExtraSecond seven);
      own = if-test (is_of sent.batch.domain sent.batch.workflow) sent.second (untrue (second_is (λ b. not (is_of sent.batch.domain sent.batch.workflow b)) sent.second) Foreign eight);
      second = if-weaker (λ b. is_carried_by sent.batch b ≡ true) (IsCarriedBy sent.batch) sent.second (carried-is sent.batch) (if-test (is_carried_by sent.batch) sent.second (untrue (second_is (λ b. not (is_carried_by sent.batch b)) sent.second) NotCarried nine));
      written = none-not (writer_of clusters sent.batch.key.version) (untrue (is_none (writer_of clusters sent.batch.key.version)) NoWriter ten);
    }

pub faultless_made : (sent : Message) (clusters : ClusterList) → first_fault sent clusters ≡ None → IsWellMade clusters sent
unfolding first_fault
faultless_made sent clusters e = made-of sent clusters (all-none (causes sent clusters) e)

of-made : (sent : Message) (clusters : ClusterList) → IsWellMade clusters sent → AllByRecursion (λ o. o ≡ None) (causes sent clusters)
of-made sent clusters made =
    let other : IfSome sent.second (λ b. fits b ≡ true) = if-weaker (λ b. InRange b × (b.key.task ≤ 10 ^ 11)) (λ b. fits b ≡ true) sent.second (λ b h. fit-from b h.0 h.1)
    (if-both InRange (λ b. b.key.task ≤ 10 ^ 11) sent.second (all-second InRange sent made.range) (all-second (λ b. b.key.task ≤ 10 ^ 11) sent made.tasks)) in (
      ap (option_map Faulty) made.faultless.0,
      (
        ap (option_map SecondFaulty) (fault-if sent.second (all-second (λ b. fault_of b ≡ None) sent made.faultless)),
        (
          then-none (not (fits sent.batch)) OutOfRange (not-true (fits sent.batch) (fit-from sent.batch made.range.0 made.tasks.0)),
          (
            then-none (second_is (λ b. not (fits b)) sent.second) SecondOutOfRange (test-if fits sent.second other),
            (
              then-none (is_some sent.batch.carrier) Carried (ap (λ (o : Option BatchKey). is_some o) made.lone),
              (
                then-none (goes_on sent.batch && is_none sent.second) LacksSecond (pair-one (goes_on sent.batch) sent.second made.goes),
                (
                  then-none (not (goes_on sent.batch) && is_some sent.second) ExtraSecond (pair-two (goes_on sent.batch) sent.second made.goes),
                  (
                    then-none (second_is (λ b. not (is_of sent.batch.domain sent.batch.workflow b)) sent.second) Foreign (test-if (is_of sent.batch.domain sent.batch.workflow) sent.second made.own),
                    (
                      then-none (second_is (λ b. not (is_carried_by sent.batch b)) sent.second) NotCarried (test-if (is_carried_by sent.batch) sent.second
                          (if-weaker (IsCarriedBy sent.batch) (λ b. is_carried_by sent.batch b ≡ true) sent.second (is-carried sent.batch) made.second)),
                      (
                        then-none (is_none (writer_of clusters sent.batch.key.version)) NoWriter (not-none (writer_of clusters sent.batch.key.version) made.written),
                        tt,
                      ),
                    ),
                  ),
                ),
              ),
            ),
          ),
        ),
      ),
    )

pub made_faultless : (sent : Message) (clusters : ClusterList) → IsWellMade clusters sent → first_fault sent clusters ≡ None
unfolding first_fault
made_faultless sent clusters made = none-all (causes sent clusters) (of-made sent clusters made)
