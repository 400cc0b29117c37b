-- What a message is answered that arrives at a cell.
use Rattle.std.proofs.Common.{◌≡◌, ◌↔◌, Bool, true, false, not, is_some, List, Option, Some, None, refl, sym, ◌∙◌, subst, ap, true≢false, if◌then◌else◌}
use Rattle.std.specs.Prelude.{map, unwrap_or}
use Rattle.ndc_model_cells.specs.declared.job.Arrived.{Arrived}
use Rattle.ndc_model_cells.specs.declared.job.Arrived.TheVariants.{Known, Learned, PutOff}
use Rattle.ndc_model_cells.specs.declared.message.Message.{Message}
use Rattle.ndc_model_cells.specs.Arrival.{arrival_of, arrived_at, cell_with, has_arrived, learned_with, newly_learned, placed_second}
use Rattle.ndc_model_cells.specs.Cells.{Cell, IsCell, arrived_of, learned_of, missing_of}
use Rattle.ndc_model_cells.specs.Keeping.{IsKept, IsMessageOf}
use Rattle.ndc_model_cells.specs.Places.{batch_there, is_of, place_of, placed}
use Rattle.ndc_model_cells.proofs.PlaceLemmas.{arrival_keeps, placed-in-order, set_of_workflow}
use Rattle.ndc_event.specs.declared.batch.Batch.{Batch}
use Rattle.ndc_event.specs.declared.key.BatchKey.{BatchKey}
use Rattle.ndc_laws_cells.proofs.FoundLemmas.{at-there, placed-new, placed-stays}
use Rattle.ndc_laws_cells.proofs.KeptLemmas.{as-written, none-is, second-back, still-within}
use Rattle.ndc_laws_reached.proofs.MissingLemmas.{none-missing}
use Rattle.ndc_laws.specs.Promised.{FirstMissing, LacksAncestorAmong}
use Rattle.ndc_laws.proofs.AncestorLemmas.{Lacks, lacks-here, lacks-there, lacks-where}
use Rattle.ndc_laws.proofs.MissingLemmas.{first-missing}
use Rattle.ndc_model_sets.specs.Learned.{IsPart, ReachesTop, has_key, learned}
use Rattle.ndc_model_sets.specs.Sets.{batch_at, Has, IsSet, Rise}
use Rattle.ndc_model_sets.specs.Sound.{IsSound}
use Rattle.ndc_model_sets.proofs.BranchLemmas.{Rise-filter, among-has, has-among}
use Rattle.ndc_model_sets.proofs.LearnedLemmas.{IsSet-learned, closed_whole, learned-reaches, reaches-has, reaches-learned}
use Rattle.ndc_model_sets.proofs.Lists.{all-among, among-filter, filter-among}
use Rattle.ndc_model_sets.proofs.SetLemmas.{found-has, found-key, has-found}

-- an answer by whether the batch has arrived, and whether it became learned
abbrev answered_by : Bool → Bool → Message → Cell → Arrived
answered_by known new sent cell =
    if known then Known
    else if new then Learned (map (λ b. b.key) (learned_with sent cell))
    else PutOff (unwrap_or (missing_of sent.batch (arrived_of sent.batch.domain sent.batch.workflow (cell_with sent cell))) sent.batch.key)

is-answer : (sent : Message) (cell : Cell) → arrival_of sent cell ≡ answered_by (has_arrived sent.batch cell) (has_key (Some sent.batch.key) (learned_with sent cell)) sent cell
unfolding arrival_of
is-answer sent cell = refl

-- a message is known exactly where its batch has arrived
pub known-where : (sent : Message) (cell : Cell) → (arrival_of sent cell ≡ Known) ↔ (has_arrived sent.batch cell ≡ true)
known-where sent cell = (λ e. there (has_arrived sent.batch cell) (has_key (Some sent.batch.key) (learned_with sent cell)) (sym (is-answer sent cell) ∙ e), λ h. is-answer sent cell ∙ ap (λ t. answered_by t (has_key (Some sent.batch.key) (learned_with sent cell)) sent cell) h)
  where
    there : (known new : Bool) → answered_by known new sent cell ≡ Known → known ≡ true
    there true new e = refl
    there false true e = absurd (cc)
    there false false e = absurd (cc)

-- it is put off exactly where its batch has not arrived, and does not become learned
put-off-where : (sent : Message) (cell : Cell) → ((key : BatchKey) × (arrival_of sent cell ≡ PutOff key)) ↔ ((has_arrived sent.batch cell ≡ false) × (has_key (Some sent.batch.key) (learned_with sent cell) ≡ false))
put-off-where sent cell = (
  λ p. there (has_arrived sent.batch cell) (has_key (Some sent.batch.key) (learned_with sent cell)) p.0 (sym (is-answer sent cell) ∙ p.1),
  λ p. (_, is-answer sent cell ∙ ap (λ t. answered_by t (has_key (Some sent.batch.key) (learned_with sent cell)) sent cell) p.0 ∙ ap (λ t. answered_by false t sent cell) p.1),
)
  where
    there : (known new : Bool) (key : BatchKey) → answered_by known new sent cell ≡ PutOff key → (known ≡ false) × (new ≡ false)
    there true new key e = absurd (cc)
    there false true key e = absurd (cc)
    there false false key e = (refl, refl)

-- the cell after a message whose batch is new
pub next-is : (sent : Message) (cell : Cell) → has_arrived sent.batch cell ≡ false → arrived_at sent cell ≡ cell_with sent cell
unfolding arrived_at
next-is sent cell fresh = ap (λ (t : Bool). if t then cell else cell_with sent cell) fresh

-- a message arrives whose batch is new; all that has arrived of its workflow then is in a sound set of batches of the workflow
module _ (all : List Batch) (sound : IsSound all) (sent : Message) (cell : Cell) (own : (x : Batch) → Has all x → is_of sent.batch.domain sent.batch.workflow x ≡ true) (is : IsCell cell)
    (then_is : IsCell (cell_with sent cell)) (within : IsPart (arrived_of sent.batch.domain sent.batch.workflow (cell_with sent cell)) all) (fresh : has_arrived sent.batch cell ≡ false) where
  abbrev b : Batch
  b = sent.batch

  abbrev before : List Batch
  before = learned_of b.domain b.workflow cell

  -- what has arrived of its workflow then, and what is learned of that
  abbrev held : List Batch
  held = arrived_of b.domain b.workflow (cell_with sent cell)

  abbrev after : List Batch
  after = learned_of b.domain b.workflow (cell_with sent cell)

  held-set : IsSet held
  held-set = set_of_workflow b.domain b.workflow (cell_with sent cell) then_is

  -- the batch has arrived then
  held-has : Has held b
  held-has = at-there b.domain b.workflow b.key (cell_with sent cell).arrived ∙ stays sent.second
    where
      first : batch_there (placed b cell.arrived) (place_of b) ≡ Some b
      first = placed-new b cell.arrived is.ordered (none-is (batch_there cell.arrived (place_of b)) fresh)

      stays : (o : Option Batch) → batch_there (placed_second o (placed b cell.arrived)) (place_of b) ≡ Some b
      stays None = first
      stays (Some s) = placed-stays s (placed b cell.arrived) (place_of b) b (placed-in-order b cell.arrived is.ordered) first

  -- nothing of its key was learned before
  none-before : has_key (Some b.key) before ≡ false
  none-before = by (batch_at b.key before) refl
    where
      by : (o : Option Batch) → batch_at b.key before ≡ o → is_some (batch_at b.key before) ≡ false
      by None e = ap is_some e
      by (Some x) e =
          let arrived = arrived_of b.domain b.workflow cell in
          let held_x = reaches-has arrived x (learned-reaches arrived x (set_of_workflow b.domain b.workflow cell is) (found-has before b.key x e)) in
          let at = has-found arrived b.key x (found-key before b.key x e) held_x in
          absurd (true≢false (sym (ap is_some (sym (at-there b.domain b.workflow b.key cell.arrived) ∙ at)) ∙ fresh))

  after-rise : Rise after
  after-rise = (IsSet-learned held held-set).ordered

  -- it becomes learned exactly where it is learned then
  nothing-new : (y : Batch) → batch_at b.key (newly_learned before after) ≡ Some y → batch_at b.key after ≡ None → ⊥
  nothing-new y f e =
      let p = filter-among (λ (x : Batch). not (has_key (Some x.key) before)) after y (has-among (newly_learned before after) y (found-has (newly_learned before after) b.key y f)) in
      let at = has-found after b.key y (found-key (newly_learned before after) b.key y f) (among-has after y after-rise p.1) in
      true≢false (sym (ap is_some at) ∙ ap is_some e)

  something-new : (x : Batch) → batch_at b.key after ≡ Some x → batch_at b.key (newly_learned before after) ≡ None → ⊥
  something-new x e f =
      let key_is = found-key after b.key x e in
      let passes : not (has_key (Some x.key) before) ≡ true = ap (λ k. not (has_key (Some k) before)) key_is ∙ ap not none-before in
      let among = among-filter (λ (y : Batch). not (has_key (Some y.key) before)) after x passes (has-among after x (found-has after b.key x e)) in
      let has = among-has (newly_learned before after) x (Rise-filter (λ (y : Batch). not (has_key (Some y.key) before)) after after-rise) among in
      true≢false (sym (ap is_some (has-found (newly_learned before after) b.key x key_is has)) ∙ ap is_some f)

  new-learned : has_key (Some b.key) (newly_learned before after) ≡ has_key (Some b.key) after
  new-learned = by (batch_at b.key after) refl (batch_at b.key (newly_learned before after)) refl
    where
      by : (o : Option Batch) → batch_at b.key after ≡ o → (p : Option Batch) → batch_at b.key (newly_learned before after) ≡ p
          → is_some (batch_at b.key (newly_learned before after)) ≡ is_some (batch_at b.key after)
      by None e None f = ap is_some f ∙ sym (ap is_some e)
      by (Some x) e (Some y) f = ap is_some f ∙ sym (ap is_some e)
      by None e (Some y) f = absurd (nothing-new y f e)
      by (Some x) e None f = absurd (something-new x e f)

  -- it is not learned then exactly where it lacks an ancestor
  unlearned-where : (has_key (Some b.key) (learned_with sent cell) ≡ false) ↔ LacksAncestorAmong all (cell_with sent cell) b
  unlearned-where = (
    λ off. lacks-here all (cell_with sent cell) b own (where_lacks.0 (sym new-learned ∙ off)),
    λ lacks. new-learned ∙ where_lacks.1 (lacks-there all (cell_with sent cell) b own lacks (within b held-has)),
  )
    where
      reaches : ReachesTop all b
      reaches = learned-reaches all b sound.set (subst (λ l. Has l b) (sym (closed_whole all sound.set sound.closed)) (within b held-has))

      where_lacks : (has_key (Some b.key) (learned held) ≡ false) ↔ Lacks all held b
      where_lacks = lacks-where all held within held-set b reaches held-has

  missing-first : has_key (Some b.key) (learned_with sent cell) ≡ false → (key : BatchKey) → unwrap_or (missing_of b held) b.key ≡ key → FirstMissing held key b
  missing-first off key told = by (missing_of b held) refl
    where
      by : (o : Option BatchKey) → missing_of b held ≡ o → FirstMissing held key b
      by None e =
          let has = reaches-learned held b held-set (none-missing held b held-set held-has e) in
          absurd (true≢false (sym (ap is_some has) ∙ sym new-learned ∙ off))
      by (Some k) e =
          let same : k ≡ key = sym (ap (λ (o : Option BatchKey). unwrap_or o b.key) e) ∙ told in
          subst (λ x. FirstMissing held x b) same (first-missing held b k held-set held-has e)

-- what is missing is told
key-where : (sent : Message) (cell : Cell) (key : BatchKey) → arrival_of sent cell ≡ PutOff key → unwrap_or (missing_of sent.batch (arrived_of sent.batch.domain sent.batch.workflow (cell_with sent cell))) sent.batch.key ≡ key
key-where sent cell key e = there (has_arrived sent.batch cell) (has_key (Some sent.batch.key) (learned_with sent cell)) (sym (is-answer sent cell) ∙ e)
  where
    there : (known new : Bool) → answered_by known new sent cell ≡ PutOff key → unwrap_or (missing_of sent.batch (arrived_of sent.batch.domain sent.batch.workflow (cell_with sent cell))) sent.batch.key ≡ key
    there true new e = absurd (cc)
    there false true e = absurd (cc)
    there false false e = cc

module _ (all : List Batch) (sound : IsSound all) (sent : Message) (cell : Cell) (own : (x : Batch) → Has all x → is_of sent.batch.domain sent.batch.workflow x ≡ true) (is : IsCell cell)
    (then_is : has_arrived sent.batch cell ≡ false → IsCell (cell_with sent cell))
    (within : has_arrived sent.batch cell ≡ false → IsPart (arrived_of sent.batch.domain sent.batch.workflow (cell_with sent cell)) all) where
  -- a message is put off exactly where its batch is new and lacks an ancestor
  pub put-off-lacks : ((key : BatchKey) × (arrival_of sent cell ≡ PutOff key)) ↔ ((has_arrived sent.batch cell ≡ false) × LacksAncestorAmong all (arrived_at sent cell) sent.batch)
  put-off-lacks = (
    λ p. let q = (put-off-where sent cell).0 p in
        (q.0, subst (λ c. LacksAncestorAmong all c sent.batch) (sym (next-is sent cell q.0)) ((unlearned-where all sound sent cell own is (then_is q.0) (within q.0) q.0).0 q.1)),
    λ p. (put-off-where sent cell).1
        (p.0, (unlearned-where all sound sent cell own is (then_is p.0) (within p.0) p.0).1 (subst (λ c. LacksAncestorAmong all c sent.batch) (next-is sent cell p.0) p.1)),
  )

  -- what is told then is the first key on the way up that is that of none
  pub put-off-first : (key : BatchKey) → arrival_of sent cell ≡ PutOff key → FirstMissing (arrived_of sent.batch.domain sent.batch.workflow (arrived_at sent cell)) key sent.batch
  put-off-first key e =
      let q = (put-off-where sent cell).0 (key, e) in
      subst (λ (c : Cell). FirstMissing (arrived_of sent.batch.domain sent.batch.workflow c) key sent.batch) (sym (next-is sent cell q.0))
      (missing-first all sound sent cell own is (then_is q.0) (within q.0) q.0 q.1 key (key-where sent cell key e))

-- the same where the caller keeps the set, and the message is one of it
module _ (all : List Batch) (sent : Message) (cell : Cell) (is : IsCell cell) (kept : IsKept all sent.batch.domain sent.batch.workflow cell) (message : IsMessageOf all sent) where
  own-all : (x : Batch) → Has all x → is_of sent.batch.domain sent.batch.workflow x ≡ true
  own-all x has = all-among (λ (y : Batch). is_of sent.batch.domain sent.batch.workflow y ≡ true) all x kept.own (has-among all x has)

  then-is : has_arrived sent.batch cell ≡ false → IsCell (cell_with sent cell)
  then-is fresh =
      subst IsCell (next-is sent cell fresh) (arrival_keeps sent cell is (as-written all sent cell kept message).back (second-back all sent cell kept message))

  within-then : has_arrived sent.batch cell ≡ false → IsPart (arrived_of sent.batch.domain sent.batch.workflow (cell_with sent cell)) all
  within-then fresh = subst (λ (c : Cell). IsPart (arrived_of sent.batch.domain sent.batch.workflow c) all) (next-is sent cell fresh) (still-within all sent cell kept message is)

  pub kept-put-off : ((key : BatchKey) × (arrival_of sent cell ≡ PutOff key)) ↔ ((has_arrived sent.batch cell ≡ false) × LacksAncestorAmong all (arrived_at sent cell) sent.batch)
  kept-put-off = put-off-lacks all kept.sound sent cell own-all is then-is within-then

  pub kept-first : (key : BatchKey) → arrival_of sent cell ≡ PutOff key → FirstMissing (arrived_of sent.batch.domain sent.batch.workflow (arrived_at sent cell)) key sent.batch
  kept-first = put-off-first all kept.sound sent cell own-all is then-is within-then
