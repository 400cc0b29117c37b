-- A message that arrives lets its cell grow.
pub use Rattle.ndc_laws_cells.proofs.KeptLemmas.{none-is, own-is}
use Rattle.std.proofs.Common.{◌≡◌, ℕ, ◌<◌, Bool, true, false, not, cond, if◌then◌else◌, List, [], ◌∷◌, Option, Some, None, IfSome, refl, sym, ◌∙◌, subst, ap, true≢false}
use Rattle.std.specs.List.{AllByRecursion, IsAmong, filter, filter_map}
use Rattle.std.specs.Option.{option_or}
use Rattle.std.specs.Prelude.{find, is_some}
use Rattle.std.proofs.lemmas.Bool.{and_parts}
use Rattle.ndc_script_types.specs.WellFormed.{IsCluster}
use Rattle.ndc_script_types.specs.declared.script.Header.{Header}
use Rattle.ndc_model_cells.specs.declared.message.Message.{Message}
use Rattle.ndc_model_cells.specs.declared.place.Place.{Place}
use Rattle.ndc_model_cells.specs.Arrival.{arrived_at, cell_with, has_arrived, message_placed, placed_second}
use Rattle.ndc_model_cells.specs.Cells.{Cell, carries, is_learned_in, learned_of, message_of, own_message, put_off_in}
use Rattle.ndc_model_cells.specs.Places.{AreInOrder, batch_there, is_at, is_of, place_lt, place_of, placed}
use Rattle.ndc_model_cells.proofs.PlaceLemmas.{all-placed, both-add, placed-in-order}
use Rattle.ndc_domain.specs.declared.clusters.ClusterNo.{ClusterNo}
use Rattle.ndc_event.specs.declared.batch.Batch.{Batch}
use Rattle.ndc_event.specs.declared.key.BatchKey.{BatchKey}
use Rattle.ndc_event.specs.declared.name.Name.{Name}
use Rattle.ndc_model.specs.Facts.{IsReached}
use Rattle.ndc_model.specs.Fair.{IsMessageTrue, is_named}
use Rattle.ndc_model.specs.Moves.{all_written, messages_among}
use Rattle.ndc_model.specs.World.{World, cell_at}
use Rattle.ndc_model.proofs.ListLemmas.{all-filter}
use Rattle.ndc_laws_cells.proofs.Lists.{among-is, is-among}
use Rattle.ndc_model_sets.specs.Learned.{IsPart, has_key}
use Rattle.ndc_model_sets.specs.Paths.{is_wanted}
use Rattle.ndc_model_sets.specs.Sets.{PointsBack, batch_at}
use Rattle.ndc_model_sets.proofs.Lists.{Among, find-among, find-only}
use Rattle.ndc_model_sets.proofs.SetLemmas.{found-has, found-key, has-found}
use Rattle.ndc_laws_reached.proofs.CellLemmas.{IsGrown}
use Rattle.ndc_laws_cells.proofs.FoundLemmas.{at-place, find-passes, is_at-own, or-none, order-finds, placed-stays, placed-there, there-among}
use Rattle.ndc_laws_reached.proofs.WaitingLemmas.{IsFresh, filter-messages, message-there, placed-within, placed-without}
use Rattle.ndc_laws_reached.proofs.WrittenLemmas.{carried-alone, cell-is, names-of, one-carried, one-carrier, one-written, ordered, points-back, wanted-some}

-- what is learned with a key is learned in more
pub key-more : (one two : List Batch) (key : BatchKey) → IsPart one two → has_key (Some key) one ≡ true → has_key (Some key) two ≡ true
key-more one two key part h = by (batch_at key one) refl h
  where
    by : (o : Option Batch) → batch_at key one ≡ o → is_some o ≡ true → has_key (Some key) two ≡ true
    by None at h = absurd (true≢false (sym h))
    by (Some b) at h = ap is_some (has-found two key b (found-key one key b at) (part b (found-has one key b at)))

-- nothing at a place: none of the batches is its
none-there : (place : Place) (bs : List Batch) → is_some (batch_there bs place) ≡ false → IsFresh place bs
none-there place [] none = tt
none-there place (b ∷ bs) none = by (is_at place b) refl none (none-there place bs)
  where
    by : (t : Bool) → is_at place b ≡ t → is_some (cond t (Some b) (batch_there bs place)) ≡ false → (is_some (batch_there bs place) ≡ false → IsFresh place bs) → (is_at place b ≡ false) × IsFresh place bs
    by true at none rest = absurd (true≢false none)
    by false at none rest = (at, rest none)

fresh-filter : (place : Place) (q : Batch → Bool) (bs : List Batch) → IsFresh place bs → IsFresh place (filter q bs)
fresh-filter place q bs fresh = all-filter (λ b. is_at place b ≡ false) q bs fresh

order-filter : (q : Batch → Bool) (bs : List Batch) → AreInOrder bs → AreInOrder (filter q bs)
order-filter q [] order = tt
order-filter q (b ∷ bs) order = by (q b) (order-filter q bs order.1)
  where
    by : (t : Bool) → AreInOrder (filter q bs) → AreInOrder (cond t (b ∷ filter q bs) (filter q bs))
    by true rest = (all-filter (λ x. place_lt (place_of b) (place_of x) ≡ true) q bs order.0, rest)
    by false rest = rest

-- a message that is true
module _ (header : Header) (lines : ℕ) (w : World) (is : IsReached header lines w) (cluster : ClusterNo) (shard : ℕ) (known : IsCluster header cluster) (below : shard < header.shards)
    (sent : Message) (true_is : IsMessageTrue header shard w sent) (named : is_named header cluster w sent.batch.domain ≡ true) where
  abbrev all : List Batch
  all = all_written header shard w

  abbrev cell : Cell
  cell = cell_at cluster shard w

  abbrev message_for : Batch → Option Message
  message_for b = own_message (filter (is_of b.domain b.workflow) (all_written header shard w)) (all_written header shard w) b

  among : Among sent.batch all
  among = there-among all (place_of sent.batch) sent.batch true_is.0

  parts : (is_some sent.batch.carrier ≡ false) × (message_of (filter (is_of sent.batch.domain sent.batch.workflow) all) all sent.batch ≡ sent)
  parts = own-is (filter (is_of sent.batch.domain sent.batch.workflow) all) all sent.batch sent true_is.1

  second-is : sent.second ≡ find (carries sent.batch) all
  second-is = sym (ap (λ (m : Message). m.second) parts.1)

  second-among : (s : Batch) → sent.second ≡ Some s → Among s all × (carries sent.batch s ≡ true)
  second-among s e = let f : find (carries sent.batch) all ≡ Some s = sym second-is ∙ e in (find-among (carries sent.batch) all s f, find-passes (carries sent.batch) all s f)

  second-carried : (s : Batch) → sent.second ≡ Some s → s.carrier ≡ Some sent.batch.key
  second-carried s e = wanted-some s.carrier sent.batch (and_parts (is_of sent.batch.domain sent.batch.workflow s) (is_wanted s.carrier sent.batch) (second-among s e).1).1

  -- what holds of the batches of the message holds of all that have arrived then
  all-second : (P : Batch → Type 0) (o : Option Batch) (bs : List Batch) → ((s : Batch) → o ≡ Some s → P s) → AllByRecursion P bs → AllByRecursion P (placed_second o bs)
  all-second P None bs p holds = holds
  all-second P (Some s) bs p holds = all-placed P s bs (p s refl) holds

  all-new : (P : Batch → Type 0) → P sent.batch → ((s : Batch) → sent.second ≡ Some s → P s) → AllByRecursion P cell.arrived → AllByRecursion P (placed_second sent.second (placed sent.batch cell.arrived))
  all-new P p q holds = all-second P sent.second (placed sent.batch cell.arrived) q (all-placed P sent.batch cell.arrived p holds)

  second-back : (o : Option Batch) → ((s : Batch) → o ≡ Some s → PointsBack s) → IfSome o PointsBack
  second-back None back = tt
  second-back (Some s) back = back s refl

  more : (domain workflow : Name) → IsPart (learned_of domain workflow cell) (learned_of domain workflow (cell_with sent cell))
  more domain workflow =
      both-add sent.batch sent.second cell (cell-is header lines w is shard below cluster known) (points-back header lines w is shard below sent.batch among)
      (second-back sent.second (λ s e. points-back header lines w is shard below s (second-among s e).0)) domain workflow

  learned-still : (b : Batch) → is_learned_in cell b ≡ true → is_learned_in (cell_with sent cell) b ≡ true
  learned-still b h = key-more (learned_of b.domain b.workflow cell) (learned_of b.domain b.workflow (cell_with sent cell)) b.key (more b.domain b.workflow) h

  old-order : AreInOrder cell.arrived
  old-order = (is.fair.arrivals cluster shard known below).once

  first-order : AreInOrder (placed sent.batch cell.arrived)
  first-order = placed-in-order sent.batch cell.arrived old-order

  second-order : (o : Option Batch) → AreInOrder (placed_second o (placed sent.batch cell.arrived))
  second-order None = first-order
  second-order (Some s) = placed-in-order s (placed sent.batch cell.arrived) first-order

  -- what is found at a place where neither batch is
  pass-second : (place : Place) (o : Option Batch) → ((s : Batch) → o ≡ Some s → is_at place s ≡ false) → batch_there (placed_second o (placed sent.batch cell.arrived)) place ≡ batch_there (placed sent.batch cell.arrived) place
  pass-second place None apart = refl
  pass-second place (Some s) apart =
      placed-there s (placed sent.batch cell.arrived) place first-order
      ∙ ap (λ t. option_or (batch_there (placed sent.batch cell.arrived) place) (cond t (Some s) None)) (apart s refl) ∙ or-none (batch_there (placed sent.batch cell.arrived) place)

  not-at : (b x : Batch) → Among b all → Among x all → (b ≡ x → ⊥) → is_at (place_of b) x ≡ false
  not-at b x first other apart = by (is_at (place_of b) x) refl
    where
      by : (t : Bool) → is_at (place_of b) x ≡ t → t ≡ false
      by true at = absurd (apart (one-written header lines w is shard below b x first other (at-place (place_of b) x at)))
      by false at = refl

  arrived-same : (b : Batch) → Among b all → (b ≡ sent.batch → ⊥) → ((s : Batch) → sent.second ≡ Some s → b ≡ s → ⊥) → has_arrived b (cell_with sent cell) ≡ has_arrived b cell
  arrived-same b there first second = ap is_some (
      pass-second (place_of b) sent.second (λ s e. not-at b s there (second-among s e).0 (second s e))
      ∙ placed-there sent.batch cell.arrived (place_of b) old-order
      ∙ ap (λ t. option_or (batch_there cell.arrived (place_of b)) (cond t (Some sent.batch) None)) (not-at b sent.batch there among first) ∙ or-none (batch_there cell.arrived (place_of b)))

  some-or : (o : Option Batch) (b : Batch) → is_some (option_or o (Some b)) ≡ true
  some-or None b = refl
  some-or (Some x) b = refl

  here-after : (b : Batch) (bs : List Batch) → AreInOrder bs → is_some (batch_there (placed b bs) (place_of b)) ≡ true
  here-after b bs order =
      ap is_some (placed-there b bs (place_of b) order ∙ ap (λ t. option_or (batch_there bs (place_of b)) (cond t (Some b) None)) (is_at-own b)) ∙ some-or (batch_there bs (place_of b)) b

  stays-some : (b : Batch) (o : Option Batch) → is_some (batch_there (placed sent.batch cell.arrived) (place_of b)) ≡ true → is_some (batch_there (placed_second o (placed sent.batch cell.arrived)) (place_of b)) ≡ true
  stays-some b None h = h
  stays-some b (Some s) h = ap is_some (placed-there s (placed sent.batch cell.arrived) (place_of b) first-order) ∙ by (batch_there (placed sent.batch cell.arrived) (place_of b)) h
    where
      by : (o : Option Batch) → is_some o ≡ true → is_some (option_or o (batch_there (s ∷ []) (place_of b))) ≡ true
      by None h = absurd (true≢false (sym h))
      by (Some x) h = refl

  batch-there : has_arrived sent.batch (cell_with sent cell) ≡ true
  batch-there = stays-some sent.batch sent.second (here-after sent.batch cell.arrived old-order)

  second-there : (s : Batch) → sent.second ≡ Some s → has_arrived s (cell_with sent cell) ≡ true
  second-there s e =
      subst (λ (o : Option Batch). is_some (batch_there (placed_second o (placed sent.batch cell.arrived)) (place_of s)) ≡ true) (sym e) (here-after s (placed sent.batch cell.arrived) first-order)

  -- a batch has arrived where the one that it carries has
  carried : (b x : Batch) → IsAmong all b → IsAmong all x → carries b x ≡ true → has_arrived b (cell_with sent cell) ≡ has_arrived x (cell_with sent cell)
  carried b x one two c = by (is_at (place_of b) sent.batch) refl
    where
      first : Among b all
      first = is-among all b one

      other : Among x all
      other = is-among all x two

      carrier : x.carrier ≡ Some b.key
      carrier = wanted-some x.carrier b (and_parts (is_of b.domain b.workflow x) (is_wanted x.carrier b) c).1

      by : (t : Bool) → is_at (place_of b) sent.batch ≡ t → has_arrived b (cell_with sent cell) ≡ has_arrived x (cell_with sent cell)
      by true at =
          let same : b ≡ sent.batch = one-written header lines w is shard below b sent.batch first among (at-place (place_of b) sent.batch at) in
          let mine : carries sent.batch x ≡ true = subst (λ (y : Batch). carries y x ≡ true) same c in
          let found : find (carries sent.batch) all ≡ Some x =
          find-only (carries sent.batch) all x mine other (λ y there cy. one-carried header lines w is shard below sent.batch y x among there other cy mine) in
          subst (λ (y : Batch). has_arrived y (cell_with sent cell) ≡ true) (sym same) batch-there ∙ sym (second-there x (second-is ∙ found))
      by false at =
          let apart : (b ≡ sent.batch → ⊥) = λ same. true≢false (sym (subst (λ (y : Batch). is_at (place_of y) sent.batch ≡ true) (sym same) (is_at-own sent.batch)) ∙ at) in
          arrived-same b first apart
          (λ s e same. carried-alone header lines w is shard below b x first other (subst (λ (y : Batch). is_some y.carrier ≡ true) (sym same) (ap is_some (second-carried s e))) c)
          ∙ (is.fair.arrivals cluster shard known below).carried b x one two c
          ∙ sym (arrived-same x other
          (λ same. true≢false (sym (ap is_some carrier) ∙ subst (λ (y : Batch). is_some y.carrier ≡ false) (sym same) parts.0))
          (λ s e same. apart (one-carrier header lines w is shard below b sent.batch x first among c (subst (λ (y : Batch). carries sent.batch y ≡ true) (sym same) (second-among s e).1))))

  -- what waits then is the messages of what is put off then
  module _ (fresh : has_arrived sent.batch (cell_at cluster shard w) ≡ false) where
    abbrev put_off : Batch → Bool
    put_off b = not (is_learned_in (cell_with sent (cell_at cluster shard w)) b)

    abbrev was_put_off : Batch → Bool
    was_put_off b = not (is_learned_in (cell_at cluster shard w) b)

    weaker : (b : Batch) → put_off b ≡ true → was_put_off b ≡ true
    weaker b h = by (is_learned_in cell b) refl
      where
        by : (t : Bool) → is_learned_in cell b ≡ t → not t ≡ true
        by true e = absurd (true≢false (sym h ∙ ap not (learned-still b e)))
        by false e = refl

    of-batch : (b : Batch) (m : Message) → message_for b ≡ Some m → m.batch ≡ b
    of-batch b m e = sym (ap (λ (x : Message). x.batch) (own-is (filter (is_of b.domain b.workflow) all) all b m e).1)

    not-there : IsFresh (place_of sent.batch) cell.arrived
    not-there = none-there (place_of sent.batch) cell.arrived fresh

    without-second : (o : Option Batch) → ((s : Batch) → o ≡ Some s → message_for s ≡ None)
        → filter_map message_for (filter put_off (placed_second o (placed sent.batch cell.arrived))) ≡ filter_map message_for (filter put_off (placed sent.batch cell.arrived))
    without-second None none = refl
    without-second (Some s) none = placed-without message_for of-batch put_off s (placed sent.batch cell.arrived) (none s refl)

    second-none : (s : Batch) → sent.second ≡ Some s → message_for s ≡ None
    second-none s e = ap (λ t. if t then None else Some (message_of (filter (is_of s.domain s.workflow) all) all s)) (ap is_some (second-carried s e))

    waits : (cell_with sent cell).waiting ≡ messages_among all (put_off_in (cell_with sent cell))
    waits =
        ap (λ (l : List Message). filter (λ m. put_off m.batch) (message_placed sent l)) (is.fair.messages cluster shard known below).waiting
        ∙ ap (λ (l : List Message). filter (λ m. put_off m.batch) l)
        (message-there message_for of-batch sent sent.batch (filter was_put_off cell.arrived) true_is.1 (order-filter was_put_off cell.arrived old-order) (fresh-filter (place_of sent.batch) was_put_off cell.arrived not-there))
        ∙ filter-messages message_for of-batch put_off (placed sent.batch (filter was_put_off cell.arrived))
        ∙ ap (filter_map message_for) (placed-within put_off was_put_off sent.batch cell.arrived old-order not-there weaker)
        ∙ sym (without-second sent.second second-none)

    grown-new : IsGrown header w shard cluster cell (cell_with sent cell)
    grown-new = record {
      written = refl;
      learned = learned-still;
      own = more;
      fit = record {
        once = second-order sent.second;
        written = all-new (λ b. batch_there all (place_of b) ≡ Some b) true_is.0 (λ s e. order-finds all s (ordered header lines w is shard below) (second-among s e).0) (is.fair.arrivals cluster shard known below).written;
        carried = carried;
      };
      messages = record { written = (is.fair.messages cluster shard known below).written; waiting = waits };
      named = all-new (λ b. is_named header cluster w b.domain ≡ true) named
          (λ s e. subst (λ (d : Name). is_named header cluster w d ≡ true)
          (sym (names-of sent.batch.domain sent.batch.workflow s (and_parts (is_of sent.batch.domain sent.batch.workflow s) (is_wanted s.carrier sent.batch) (second-among s e).1).0).0) named)
          (is.fair.members.arrived cluster shard known below);
    }

  grown-known : IsGrown header w shard cluster cell cell
  grown-known = record {
    written = refl;
    learned = λ b h. h;
    own = λ domain workflow b h. h;
    fit = is.fair.arrivals cluster shard known below;
    messages = is.fair.messages cluster shard known below;
    named = is.fair.members.arrived cluster shard known below;
  }

  -- the cell after the arrival
  pub arrival-grown : IsGrown header w shard cluster (cell_at cluster shard w) (arrived_at sent (cell_at cluster shard w))
  unfolding arrived_at
  arrival-grown = by (has_arrived sent.batch cell) refl
    where
      by : (t : Bool) → has_arrived sent.batch cell ≡ t → IsGrown header w shard cluster cell (if t then cell else cell_with sent cell)
      by true e = grown-known
      by false e = grown-new e

  -- what had arrived has arrived still
  pub arrived-stays : (place : Place) (b : Batch) → batch_there (cell_at cluster shard w).arrived place ≡ Some b → batch_there (arrived_at sent (cell_at cluster shard w)).arrived place ≡ Some b
  unfolding arrived_at
  arrived-stays place b e = by (has_arrived sent.batch cell)
    where
      second : (o : Option Batch) → batch_there (placed sent.batch cell.arrived) place ≡ Some b → batch_there (placed_second o (placed sent.batch cell.arrived)) place ≡ Some b
      second None h = h
      second (Some s) h = placed-stays s (placed sent.batch cell.arrived) place b first-order h

      by : (t : Bool) → batch_there (if t then cell else cell_with sent cell).arrived place ≡ Some b
      by true = e
      by false = second sent.second (placed-stays sent.batch cell.arrived place b old-order e)

  -- the batches of the message have arrived
  pub arrived-itself : has_arrived sent.batch (arrived_at sent (cell_at cluster shard w)) ≡ true
  unfolding arrived_at
  arrived-itself = by (has_arrived sent.batch cell) refl
    where
      by : (t : Bool) → has_arrived sent.batch cell ≡ t → has_arrived sent.batch (if t then cell else cell_with sent cell) ≡ true
      by true e = e
      by false e = batch-there

  pub second-arrived : (s : Batch) → sent.second ≡ Some s → has_arrived s (arrived_at sent (cell_at cluster shard w)) ≡ true
  unfolding arrived_at
  second-arrived s e = by (has_arrived sent.batch cell) refl
    where
      by : (t : Bool) → has_arrived sent.batch cell ≡ t → has_arrived s (if t then cell else cell_with sent cell) ≡ true
      by true h =
          sym ((is.fair.arrivals cluster shard known below).carried sent.batch s (among-is all sent.batch among) (among-is all s (second-among s e).0) (second-among s e).1) ∙ h
      by false h = second-there s e
