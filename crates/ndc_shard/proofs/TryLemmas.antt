-- What is written that nobody vouches for.
use Rattle.std.proofs.Common.{arith, ◌≡◌, ◌++◌, ◌&&◌, ◌^◌, Bool, true, false, true≢false, List, [], ◌∷◌, Option, Some, None, Result, Ok, Err, IfOk, IsOk, ◌≤◌, ℕ, refl, sym, ◌∙◌, subst, ap}
use Rattle.std.proofs.lemmas.List.{append-nil}
use Rattle.std.specs.Prelude.{IfSome, nat_le, option_to_list}
use Rattle.std.specs.List.{AllByRecursion, list_all}
use Rattle.std.proofs.lemmas.Bool.{and_from, and_parts, le-leb}
use Rattle.std.proofs.lemmas.Bool.Decides.{nat_tests}
use Rattle.std.proofs.lemmas.List.Elements.{All-from_recursion, recursion_from_All}
use Rattle.ndc_event.specs.declared.batch.Event.{Event}
use Rattle.ndc_event.specs.declared.batch.Batch.{Batch}
use Rattle.ndc_event.specs.declared.name.Name.{Name}
use Rattle.ndc_command.specs.declared.command.Command.{Command}
use Rattle.ndc_command.specs.declared.refusal.CommandError.{CommandError}
use Rattle.ndc_command.specs.declared.refusal.Refusal.{Refusal}
use Rattle.ndc_domain.specs.Records.{record_of}
use Rattle.ndc_event.specs.Outcome.{◌>>=◌}
use Rattle.ndc_model_cells.specs.Cells.{Cell, learned_of}
use Rattle.ndc_model_cells.specs.Jobs.{all_batches}
use Rattle.ndc_model_cells.specs.Messages.{HasSmallIds, IsCarriedBy, IsMessage, carrying}
use Rattle.ndc_model_cells.specs.Places.{is_of}
use Rattle.ndc_model_cells.specs.Workflow.{workflow_of}
use Rattle.ndc_model_cells.specs.Writing.{Desk, Entry, as_command_error, batches_in, command_entries, command_of, greatest_version, may_write, may_write_by, reset_at, reset_below}
use Rattle.ndc_model_cells.specs.declared.job.Written.{Written}
use Rattle.ndc_model_cells.specs.declared.message.Message.{Message}
use Rattle.ndc_shard.specs.Answers.{answer_of, keys_of}
use Rattle.ndc_model_sets.specs.Branches.{workflow_tip}
use Rattle.ndc_shard.specs.Shards.{AreOneOrTwo, GoAsTwo, IsFit, having_written}
use Rattle.ndc_shard.specs.Trying.{AreMade, AreNotWritten, HasSmallIdsIn, IsNotTaken, together}
use Rattle.ndc_shard.specs.declared.error.TryError.TheVariants as error
use Rattle.ndc_shard_entries.specs.Written.{AreWrittenTo, IsSecond, IsWrittenTo}
use Rattle.ndc_shard_entries.proofs.LawProofs.{command-behind, reset-behind, sent-message, writes_ahead}
use Rattle.ndc_shard_workflows.proofs.OneWriteLemmas.{message-together}
use Rattle.ndc_shard_workflows.proofs.SameLemmas.{of-names}
use Rattle.ndc_shard_workflows.specs.Refused.{IsNotWritten}
use Rattle.ndc_shard_workflows.specs.declared.admission.NotWritten.{NotWritten}
use Rattle.ndc_shard_workflows.specs.declared.admission.NotWritten.TheVariants as refused
use Rattle.ndc_shard_workflows.specs.Writing.{IsMadeTogether, MayBeWritten, MayBeWrittenTogether}

-- what may be written to the workflows of a shard may be written to the shard, which is seen as them with what it has written
pub tried-may : (entry : Entry) (old shard : Cell) (messages : List Message) → having_written messages old ≡ shard → IsMessage (carrying entry.batch entry.second)
    → MayBeWrittenTogether (carrying entry.batch entry.second) (workflow_of entry.batch.domain entry.batch.workflow old)
    → MayBeWritten (carrying entry.batch entry.second) (workflow_of entry.batch.domain entry.batch.workflow shard)
tried-may entry old shard messages seen message may =
    subst (λ (c : Cell). MayBeWritten (carrying entry.batch entry.second) (workflow_of entry.batch.domain entry.batch.workflow c)) seen (record { message = message; may = may })

-- an entry that comes after all that is learned is made as cells make them
module _ (known : List Batch) (domain workflow : Name) (entry : Entry) (written : IsWrittenTo known domain workflow entry) where
  pub entry-message : IsMessage (carrying entry.batch entry.second)
  entry-message = sent-message known domain workflow entry (carrying entry.batch entry.second) written refl refl

  pub entry-made : HasSmallIdsIn entry → IsMadeTogether (carrying entry.batch entry.second)
  entry-made small = record { together = message-together (carrying entry.batch entry.second) entry-message; own = by entry.second written.second; small = small }
    where
      by : (o : Option Batch) → IfSome o (IsSecond domain workflow entry.batch) → IfSome o (λ b. is_of entry.batch.domain entry.batch.workflow b ≡ true)
      by None none = tt
      by (Some b) second = of-names entry.batch.domain entry.batch.workflow b (second.of.domain_is ∙ sym written.of.domain_is) (second.of.workflow_is ∙ sym written.of.workflow_is)

-- what is planned comes after all that is learned
planned-written : (home : Desk) (domain workflow : Name) (cell : Cell) (written : Result (List Entry) CommandError) (entries_with : ℕ → Result (List Entry) CommandError)
    → written ≡ (as_command_error (may_write_by home (record_of home.table domain) (learned_of domain workflow cell)) >>= entries_with)
    → ((version : ℕ) → greatest_version (learned_of domain workflow cell) ≤ version → IfOk (entries_with version) (AreWrittenTo (learned_of domain workflow cell) domain workflow))
    → (entries : List Entry) → written ≡ Ok entries → AreWrittenTo (learned_of domain workflow cell) domain workflow entries
planned-written home domain workflow cell written entries_with is behind entries e =
    by (may_write_by home (record_of home.table domain) (learned_of domain workflow cell)) (writes_ahead home (record_of home.table domain) (learned_of domain workflow cell)) (sym is ∙ e)
  where
    by : (r : Result ℕ Refusal) → IfOk r (λ version. greatest_version (learned_of domain workflow cell) ≤ version) → (as_command_error r >>= entries_with) ≡ Ok entries → AreWrittenTo (learned_of domain workflow cell) domain workflow entries
    by (Err why) ahead f = absurd (cc)
    by (Ok version) ahead f = subst (λ r. IfOk r (AreWrittenTo (learned_of domain workflow cell) domain workflow)) f (behind version ahead)

pub command-planned : (home : Desk) (domain workflow : Name) (command : Command) (cell : Cell) (entries : List Entry) → IsFit domain workflow cell
    → command_of home domain workflow command cell ≡ Ok entries → AreWrittenTo (learned_of domain workflow cell) domain workflow entries
unfolding command_of may_write
command-planned home domain workflow command cell entries fit =
    planned-written home domain workflow cell (command_of home domain workflow command cell) (λ version. command_entries domain workflow command home.limit version (learned_of domain workflow cell)) refl
    (λ version ahead. command-behind (learned_of domain workflow cell) version domain workflow fit.sound ahead home.limit command) entries

pub reset-planned : (home : Desk) (domain workflow : Name) (event : ℕ) (cell : Cell) (entries : List Entry) → IsFit domain workflow cell
    → reset_at home domain workflow event cell ≡ Ok entries → AreWrittenTo (learned_of domain workflow cell) domain workflow entries
unfolding reset_at may_write
reset-planned home domain workflow event cell entries fit =
    planned-written home domain workflow cell (reset_at home domain workflow event cell)
    (λ version. reset_below domain workflow event home.limit version (workflow_tip (learned_of domain workflow cell)) (learned_of domain workflow cell)) refl
    (λ version ahead. reset-behind (learned_of domain workflow cell) version domain workflow fit.sound ahead event home.limit (workflow_tip (learned_of domain workflow cell)) refl) entries

-- one entry, or two, that come after all that is learned are made as cells make them
pub entries-made : (known : List Batch) (domain workflow : Name) (entries : List Entry) → AreWrittenTo known domain workflow entries → AreOneOrTwo entries → AllByRecursion HasSmallIdsIn entries
    → AreMade entries
entries-made known domain workflow [] written some small = some
entries-made known domain workflow (entry ∷ []) written some small =
    (entry-message known domain workflow entry written.0, entry-made known domain workflow entry written.0 small.0)
entries-made known domain workflow (first ∷ second ∷ []) written two small = (
  two,
  record { together = record { back = written.0.back; second = two.behind }; own = two.own; small = (small.0.0, (small.1.0.0, tt)) },
)
entries-made known domain workflow (first ∷ second ∷ third ∷ entries) written some small = some

-- why entries are not written, as why what was to be written is not
pub not-taken : (why : NotWritten) (domain workflow : Name) (written : Result (List Entry) CommandError) (cell : Cell) → AreNotWritten why written (workflow_of domain workflow cell)
    → IsNotTaken (error.NotWritten why) domain workflow written cell
not-taken (refused.Rival key waits) domain workflow written cell are = are
not-taken (refused.Awaited key) domain workflow written cell are = are
not-taken (refused.Misfit misfit) domain workflow written cell are = are
not-taken refused.Memory domain workflow written cell are = tt

-- the same of one entry
pub one-not-taken : (why : NotWritten) (domain workflow : Name) (written : Result (List Entry) CommandError) (cell : Cell) (entry : Entry) → IsWrittenTo (learned_of domain workflow cell) domain workflow entry
    → written ≡ Ok (entry ∷ []) → IsNotWritten why (carrying entry.batch entry.second) (workflow_of entry.batch.domain entry.batch.workflow cell) → IsNotTaken (error.NotWritten why) domain workflow written cell
one-not-taken why domain workflow written cell entry to e not =
    not-taken why domain workflow written cell (record {
      planned = subst IsOk (sym e) refl;
      entries = subst (λ r. IfOk r (λ list. IfSome (together list) (λ new. IsNotWritten why new (workflow_of domain workflow cell)))) (sym e)
          (subst (λ (d : Name). IsNotWritten why (carrying entry.batch entry.second) (workflow_of d workflow cell)) to.of.domain_is
          (subst (λ (n : Name). IsNotWritten why (carrying entry.batch entry.second) (workflow_of entry.batch.domain n cell)) to.of.workflow_is not));
    })

-- the same of one entry or two
pub all-not-taken : (why : NotWritten) (domain workflow : Name) (written : Result (List Entry) CommandError) (cell : Cell) (entries : List Entry)
    → AreWrittenTo (learned_of domain workflow cell) domain workflow entries → written ≡ Ok entries
    → IfSome (together entries) (λ new. IsNotWritten why new (workflow_of new.batch.domain new.batch.workflow cell)) → IsNotTaken (error.NotWritten why) domain workflow written cell
all-not-taken why domain workflow written cell entries to e not =
    not-taken why domain workflow written cell (record {
      planned = subst IsOk (sym e) refl;
      entries = subst (λ r. IfOk r (λ list. IfSome (together list) (λ new. IsNotWritten why new (workflow_of domain workflow cell)))) (sym e) (by entries to not);
    })
  where
    at : (new : Message) → new.batch.domain ≡ domain → new.batch.workflow ≡ workflow → IsNotWritten why new (workflow_of new.batch.domain new.batch.workflow cell)
        → IsNotWritten why new (workflow_of domain workflow cell)
    at new d n h =
        subst (λ (k : Name). IsNotWritten why new (workflow_of domain k cell)) n (subst (λ (k : Name). IsNotWritten why new (workflow_of k new.batch.workflow cell)) d h)

    by : (list : List Entry) → AreWrittenTo (learned_of domain workflow cell) domain workflow list
        → IfSome (together list) (λ new. IsNotWritten why new (workflow_of new.batch.domain new.batch.workflow cell))
        → IfSome (together list) (λ new. IsNotWritten why new (workflow_of domain workflow cell))
    by [] to h = tt
    by (entry ∷ []) to h = at (carrying entry.batch entry.second) to.0.of.domain_is to.0.of.workflow_is h
    by (first ∷ second ∷ list) to h = at (carrying first.batch (Some second.batch)) to.0.of.domain_is to.0.of.workflow_is h

-- the keys of what one entry writes
pub one-answer : (written : Result (List Entry) CommandError) (entry : Entry) (keys : Written) → written ≡ Ok (entry ∷ []) → keys_of (batches_in entry) ≡ Ok keys → answer_of written ≡ Ok keys
one-answer written entry keys e is = ap answer_of e ∙ ap keys_of (append-nil (batches_in entry)) ∙ is

-- the keys of what two entries write that carry none
pub two-keys : (first second : Entry) → GoAsTwo first second → keys_of (all_batches (first ∷ second ∷ [])) ≡ Ok (record { key = first.batch.key; second = Some second.batch.key })
two-keys first second two = ap (λ (o : Option Batch). keys_of (first.batch ∷ (option_to_list o ++ all_batches (second ∷ [])))) two.first_alone

-- ---- small ids

within : (a b : ℕ) → nat_le a b ≡ true → a ≤ b
within a b e = grind (arith, nat_tests)

small-all : (events : List Event) → list_all (λ event. nat_le event.id (10 ^ 12)) events ≡ true → AllByRecursion (λ (event : Event). event.id ≤ 10 ^ 12) events
small-all [] all = tt
small-all (event ∷ events) all =
    let p = and_parts (nat_le event.id (10 ^ 12)) (list_all (λ e. nat_le e.id (10 ^ 12)) events) all in
    (within event.id (10 ^ 12) p.0, small-all events p.1)

all-small : (events : List Event) → AllByRecursion (λ (event : Event). event.id ≤ 10 ^ 12) events → list_all (λ event. nat_le event.id (10 ^ 12)) events ≡ true
all-small [] all = refl
all-small (event ∷ events) all = and_from (nat_le event.id (10 ^ 12)) (list_all (λ e. nat_le e.id (10 ^ 12)) events) (le-leb event.id (10 ^ 12) all.0) (all-small events all.1)

ids-small : (b : Batch) → list_all (λ event. nat_le event.id (10 ^ 12)) b.events ≡ true → HasSmallIds b
ids-small b all = All-from_recursion (λ (event : Event). event.id ≤ 10 ^ 12) b.events (small-all b.events all)

small-ids : (b : Batch) → HasSmallIds b → list_all (λ event. nat_le event.id (10 ^ 12)) b.events ≡ true
small-ids b all = all-small b.events (recursion_from_All (λ (event : Event). event.id ≤ 10 ^ 12) b.events all)

-- the first is not small
pub first-large : (entry : Entry) (t : Bool) → t ≡ list_all (λ event. nat_le event.id (10 ^ 12)) entry.batch.events → t ≡ false → HasSmallIdsIn entry → ⊥
first-large entry t is h all = true≢false (sym (is ∙ small-ids entry.batch all.0) ∙ h)

module _ (entry : Entry) (t : Bool) (is : t ≡ list_all (λ event. nat_le event.id (10 ^ 12)) entry.batch.events) (first : t ≡ true) where
  pub alone-small : entry.second ≡ None → HasSmallIdsIn entry
  alone-small e = subst (λ (o : Option Batch). AllByRecursion HasSmallIds (entry.batch ∷ option_to_list o)) (sym e) (ids-small entry.batch (sym is ∙ first), tt)

  module _ (second : Batch) (e : entry.second ≡ Some second) (u : Bool) (more : u ≡ list_all (λ event. nat_le event.id (10 ^ 12)) second.events) where
    pub both-small : u ≡ true → HasSmallIdsIn entry
    both-small h = subst (λ (o : Option Batch). AllByRecursion HasSmallIds (entry.batch ∷ option_to_list o)) (sym e) (ids-small entry.batch (sym is ∙ first), (ids-small second (sym more ∙ h), tt))

    pub second-large : u ≡ false → HasSmallIdsIn entry → ⊥
    second-large h all =
        let list = subst (λ (o : Option Batch). AllByRecursion HasSmallIds (entry.batch ∷ option_to_list o)) e all in
        true≢false (sym (more ∙ small-ids second list.1.0) ∙ h)
