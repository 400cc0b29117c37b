-- A message of what was written may arrive at each cluster of a world that is as it should be.
use Rattle.std.proofs.Common.{◌≡◌, ℕ, ◌<◌, ◌≤◌, ◌^◌, ◌&&◌, Bool, true, false, if◌then◌else◌, nat_le, List, [], ◌∷◌, All, Option, Some, None, refl, sym, ◌∙◌, ap, arith}
use Rattle.std.specs.List.{AllByRecursion, filter}
use Rattle.std.specs.Prelude.{find}
use Rattle.std.proofs.lemmas.Bool.{and_parts}
use Rattle.std.proofs.lemmas.Bool.Decides.{nat_tests}
use Rattle.std.proofs.lemmas.List.Elements.{All-cons, All-nil}
use Rattle.ndc_script_types.specs.WellFormed.{IsCluster}
use Rattle.ndc_script_types.specs.declared.script.Header.{Header}
use Rattle.ndc_model_cells.specs.declared.message.Message.{Message}
use Rattle.ndc_model_cells.specs.Arrival.{arrived_at, cell_with, has_arrived, placed_second}
use Rattle.ndc_model_cells.specs.Cells.{Cell, arrived_of, carries, learned_of}
use Rattle.ndc_model_cells.specs.Places.{AreInOrder, batch_there, is_of, place_of, placed}
use Rattle.ndc_model_cells.proofs.PlaceLemmas.{all-placed, placed-in-order}
use Rattle.ndc_model_cells.proofs.SoundLemmas.{learned_is_sound}
use Rattle.ndc_domain.specs.declared.clusters.ClusterNo.{ClusterNo}
use Rattle.ndc_event.specs.declared.batch.Batch.{Batch}
use Rattle.ndc_event.specs.declared.batch.Event.{Event}
use Rattle.ndc_event.specs.declared.name.Name.{Name}
use Rattle.ndc_laws_reached.proofs.ArrivalLemmas.{none-is, own-is}
use Rattle.ndc_laws_cells.proofs.FoundLemmas.{at-there, find-passes, order-finds, there-among}
use Rattle.ndc_laws_reached.proofs.WrittenLemmas.{has-written, names-of, ordered, own-names, points-back, sound-of, wanted-some}
use Rattle.ndc_model.specs.Facts.{IsReached}
use Rattle.ndc_model.specs.Fair.{IsMessageTrue, written_of}
use Rattle.ndc_model.specs.Moves.{all_written}
use Rattle.ndc_model.specs.World.{World, cell_at}
use Rattle.ndc_laws_cells.proofs.Lists.{among-is}
use Rattle.ndc_model_sets.specs.Learned.{IsPart}
use Rattle.ndc_model_sets.specs.Paths.{is_wanted}
use Rattle.ndc_model_sets.specs.Sets.{batch_at}
use Rattle.ndc_model_sets.specs.Sound.{IsSound}
use Rattle.ndc_model_sets.proofs.BranchLemmas.{among-has, has-among}
use Rattle.ndc_model_sets.proofs.FaultLemmas.{passes}
use Rattle.ndc_model_sets.proofs.Lists.{Among, all-among, among-filter, filter-among, find-among}
use Rattle.ndc_text.specs.Ranges.{EventsFit, InRange}
use Rattle.ndc_model_cells.specs.Messages.{IsCarriedBy, IsMessage, IsNewTo, HasSmallIds}
use Rattle.ndc_model_cells.specs.Allowed.{MayArrive}
use Rattle.ndc_laws_cells.proofs.KeptLemmas.{both-all, carried-by, if-some}

-- ids of events that are in range are small
ids-fit : (n : ℕ) → (nat_le 1 n && nat_le n (10 ^ 12)) ≡ true → n ≤ 10 ^ 12
ids-fit n e = let p = (and_parts (nat_le 1 n) (nat_le n (10 ^ 12)) e).1 in grind (arith, p, nat_tests)

events-small : (events : List Event) → EventsFit events → All (λ event. event.id ≤ 10 ^ 12) events
events-small [] fit = All-nil (λ (event : Event). event.id ≤ 10 ^ 12)
events-small (event ∷ events) fit = All-cons (λ (event : Event). event.id ≤ 10 ^ 12) event events (ids-fit event.id fit.0.0) (events-small events fit.1)

pub range-small : (b : Batch) → InRange b → HasSmallIds b
range-small b range = events-small b.events range.events

-- what is learned in a cell is sound, where all that has arrived there was written, and what was written of the workflow is sound
pub found-sound : (all : List Batch) (domain workflow : Name) (cell : Cell) → IsSound (filter (is_of domain workflow) all) → AreInOrder cell.arrived
    → AllByRecursion (λ b. batch_there all (place_of b) ≡ Some b) cell.arrived → IsSound (learned_of domain workflow cell)
found-sound all domain workflow cell sound order written = learned_is_sound domain workflow cell (filter (is_of domain workflow) all) order sound within
  where
    within : IsPart (arrived_of domain workflow cell) (filter (is_of domain workflow) all)
    within b has =
        let p = filter-among (is_of domain workflow) cell.arrived b (has-among (arrived_of domain workflow cell) b has) in
        among-has (filter (is_of domain workflow) all) b sound.set.ordered
        (among-filter (is_of domain workflow) all b p.0 (there-among all (place_of b) b (all-among (λ x. batch_there all (place_of x) ≡ Some x) cell.arrived b written p.1)))

module _ (header : Header) (lines : ℕ) (w : World) (is : IsReached header lines w) (shard : ℕ) (below : shard < header.shards) (sent : Message) (true_is : IsMessageTrue header shard w sent) where
  abbrev all : List Batch
  all = all_written header shard w

  abbrev domain : Name
  domain = sent.batch.domain

  abbrev workflow : Name
  workflow = sent.batch.workflow

  -- its batches were written
  pub first-among : Among sent.batch (all_written header shard w)
  first-among = there-among all (place_of sent.batch) sent.batch true_is.0

  second-is : sent.second ≡ find (carries sent.batch) all
  second-is = sym (ap (λ (m : Message). m.second) (own-is (filter (is_of sent.batch.domain sent.batch.workflow) all) all sent.batch sent true_is.1).1)

  pub second-among : (s : Batch) → sent.second ≡ Some s → Among s (all_written header shard w) × (carries sent.batch s ≡ true)
  second-among s e = let f : find (carries sent.batch) all ≡ Some s = sym second-is ∙ e in (find-among (carries sent.batch) all s f, find-passes (carries sent.batch) all s f)

  pub second-parts : (s : Batch) → sent.second ≡ Some s → (is_of sent.batch.domain sent.batch.workflow s ≡ true) × (is_wanted s.carrier sent.batch ≡ true)
  second-parts s e = and_parts (is_of domain workflow s) (is_wanted s.carrier sent.batch) (second-among s e).1

  as-written : IsMessage sent
  as-written = record {
    back = points-back header lines w is shard below sent.batch first-among;
    second = if-some (IsCarriedBy sent.batch) sent.second (λ s e. carried-by sent.batch s (wanted-some s.carrier sent.batch (second-parts s e).1)
        (passes s ((is.fair.writing.sound s.domain s.workflow).faultless s (has-written header lines w is shard below s (second-among s e).0))).carrier);
  }

  -- the numbers of what was written are in range
  small : (b : Batch) → Among b all → HasSmallIds b
  small b there =
      range-small b (all-among InRange (written_of header b.domain b.workflow w) b (is.ranges b.domain b.workflow) (has-among (written_of header b.domain b.workflow w) b (has-written header lines w is shard below b there)))

  module _ (cluster : ClusterNo) (known : IsCluster header cluster) where
    abbrev cell : Cell
    cell = cell_at cluster shard w

    -- what has not arrived: no batch has its key
    none-of : (b : Batch) → is_of domain workflow b ≡ true → has_arrived b cell ≡ false → batch_at b.key (arrived_of domain workflow cell) ≡ None
    none-of b own fresh =
        let n = names-of domain workflow b own in
        let place : place_of b ≡ record { domain = domain; workflow = workflow; key = b.key } = λ i. record { domain = n.0 i; workflow = n.1 i; key = b.key } in
        at-there domain workflow b.key cell.arrived ∙ ap (batch_there cell.arrived) (sym place) ∙ none-is (batch_there cell.arrived (place_of b)) fresh

    as-new : has_arrived sent.batch cell ≡ false → IsNewTo (arrived_of domain workflow cell) sent
    as-new fresh = both-all (λ b. batch_at b.key (arrived_of domain workflow cell) ≡ None) sent (none-of sent.batch (own-names sent.batch) fresh)
        (λ s e. none-of s (second-parts s e).0
        (sym ((is.fair.arrivals cluster shard known below).carried sent.batch s (among-is all sent.batch first-among) (among-is all s (second-among s e).0) (second-among s e).1) ∙ fresh))

    abbrev first : List Batch
    first = placed sent.batch cell.arrived

    first-order : AreInOrder first
    first-order = placed-in-order sent.batch cell.arrived (is.fair.arrivals cluster shard known below).once

    first-written : AllByRecursion (λ b. batch_there all (place_of b) ≡ Some b) first
    first-written = all-placed (λ b. batch_there all (place_of b) ≡ Some b) sent.batch cell.arrived true_is.0 (is.fair.arrivals cluster shard known below).written

    second-order : (o : Option Batch) → AreInOrder (placed_second o first)
    second-order None = first-order
    second-order (Some s) = placed-in-order s first first-order

    second-written : (o : Option Batch) → ((s : Batch) → o ≡ Some s → Among s all) → AllByRecursion (λ b. batch_there all (place_of b) ≡ Some b) (placed_second o first)
    second-written None there = first-written
    second-written (Some s) there = all-placed (λ b. batch_there all (place_of b) ≡ Some b) s first (order-finds all s (ordered header lines w is shard below) (there s refl)) first-written

    as-sound : IsSound (learned_of domain workflow (arrived_at sent cell))
    unfolding arrived_at
    as-sound = by (has_arrived sent.batch cell)
      where
        sound : IsSound (filter (is_of domain workflow) all)
        sound = sound-of header lines w is shard below sent.batch first-among

        by : (t : Bool) → IsSound (learned_of domain workflow (if t then cell else cell_with sent cell))
        by true = found-sound all domain workflow cell sound (is.fair.arrivals cluster shard known below).once (is.fair.arrivals cluster shard known below).written
        by false = found-sound all domain workflow (cell_with sent cell) sound (second-order sent.second) (second-written sent.second (λ s e. (second-among s e).0))

    pub may-arrive : MayArrive sent (cell_at cluster shard w)
    may-arrive = record {
      message = as-written;
      lone = none-is sent.batch.carrier (own-is (filter (is_of sent.batch.domain sent.batch.workflow) all) all sent.batch sent true_is.1).0;
      own = if-some (λ s. is_of domain workflow s ≡ true) sent.second (λ s e. (second-parts s e).0);
      new = as-new;
      sound = as-sound;
      ids = both-all HasSmallIds sent (small sent.batch first-among) (λ s e. small s (second-among s e).0);
    }
