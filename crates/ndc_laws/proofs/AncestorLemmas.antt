-- What is put off is what lacks an ancestor.
use Rattle.std.proofs.Common.{◌≡◌, ◌<◌, ◌↔◌, ℕ, Bool, true, false, not, List, ◌⊎◌, inl, inr, Option, Some, None, refl, sym, ◌∙◌, subst, ap, true≢false}
use Rattle.std.specs.Prelude.{is_some}
use Rattle.std.specs.List.{IsAmong}
use Rattle.ndc_script_types.specs.WellFormed.{IsCluster}
use Rattle.ndc_script_types.specs.declared.script.Header.{Header}
use Rattle.ndc_model_cells.specs.Arrival.{has_arrived}
use Rattle.ndc_model_cells.specs.Cells.{Cell, arrived_of, is_learned_in, put_off_in}
use Rattle.ndc_model_cells.specs.Places.{batch_there, is_of, place_of}
use Rattle.ndc_model_cells.proofs.PlaceLemmas.{set_of_workflow}
use Rattle.ndc_domain.specs.declared.clusters.ClusterNo.{ClusterNo}
use Rattle.ndc_event.specs.declared.batch.Batch.{Batch}
use Rattle.ndc_event.specs.declared.key.BatchKey.{BatchKey}
use Rattle.ndc_event.specs.declared.name.Name.{Name}
use Rattle.ndc_laws_cells.proofs.FoundLemmas.{at-there}
use Rattle.ndc_laws_cells.proofs.KeptLemmas.{none-is}
use Rattle.ndc_laws_reached.proofs.WrittenLemmas.{arrived-written, cell-is, has-written, names-of, own-names}
use Rattle.ndc_laws.specs.Promised.{LacksAncestor, LacksAncestorAmong, WaitsForAncestors}
use Rattle.ndc_model.specs.Facts.{IsReached}
use Rattle.ndc_model.specs.Fair.{written_of}
use Rattle.ndc_model.specs.World.{World, cell_at}
use Rattle.ndc_laws_cells.proofs.Lists.{among-is, is-among}
use Rattle.ndc_model_sets.specs.Learned.{IsPart, ReachesTop, WaitsFor, behind, has_key, itself, learned, top, up}
use Rattle.ndc_model_sets.specs.Sets.{Has, IsSet, batch_at, earlier}
use Rattle.ndc_model_sets.proofs.BranchLemmas.{among-has, has-among, same-batch}
use Rattle.ndc_model_sets.proofs.LearnedLemmas.{closed_whole, learned-reaches, reaches-has, reaches-learned}
use Rattle.ndc_model_sets.proofs.Lists.{Among, among-filter, filter-among}
use Rattle.ndc_model_sets.proofs.SetLemmas.{found-has, found-key, has-found}

-- some batch on the way up from one is not there
pub record Lacks (all held : List Batch) (b : Batch) : Type 0 where
  pub one : Batch
  pub has : Has all one
  pub above : WaitsFor all one b
  pub gone : batch_at one.key held ≡ None

module _ (all held : List Batch) (part : IsPart held all) where
  -- from one that is there, all on the way up are there, or some is not
  upwards : (b : Batch) → ReachesTop all b → Has held b → ReachesTop held b ⊎ Lacks all held b
  upwards b (top _ has e) there = inl (top b there e)
  upwards b (up _ before key has e at above) there = by (batch_at before.key held) refl (upwards before above)
    where
      further : ReachesTop held before ⊎ Lacks all held before → batch_at key held ≡ Some before → ReachesTop held b ⊎ Lacks all held b
      further (inl r) found = inl (up b before key there e found r)
      further (inr l) found = inr (record { one = l.one; has = l.has; above = behind b before key has e at l.above; gone = l.gone })

      key_is : before.key ≡ key
      key_is = found-key all key before at

      by : (o : Option Batch) → batch_at before.key held ≡ o → (Has held before → ReachesTop held before ⊎ Lacks all held before) → ReachesTop held b ⊎ Lacks all held b
      by None gone rest = inr (record { one = before; has = found-has all key before at; above = behind b before key has e at itself; gone = gone })
      by (Some c) found rest =
          let same : c ≡ before = same-batch all c before (part c (found-has held before.key c found)) (found-has all key before at) (found-key held before.key c found) in
          let here : Has held before = found ∙ ap Some same in
          further (rest here) (subst (λ (k : BatchKey). batch_at k held ≡ Some before) key_is here)

  -- what is above one that reaches the top is there
  above-there : (one b : Batch) → WaitsFor all one b → ReachesTop held b → Has held one
  above-there one b itself reaches = reaches-has held b reaches
  above-there one b (behind _ before key has e at above) reaches = by reaches (above-there one before above)
    where
      step : (other : Batch) (k : BatchKey) → earlier b ≡ Some k → batch_at k held ≡ Some other → ReachesTop held other → (ReachesTop held before → Has held one) → Has held one
      step other k f found r rest =
          let keys : key ≡ k = (let both : Some key ≡ Some k = sym e ∙ f in cc) in
          let same : other ≡ before = same-batch all other before (part other (found-has held k other found)) (found-has all key before at) (found-key held k other found ∙ sym keys ∙ sym (found-key all key before at)) in
          rest (subst (ReachesTop held) same r)

      by : ReachesTop held b → (ReachesTop held before → Has held one) → Has held one
      by (top _ there f) rest = absurd (cc)
      by (up _ other k there f found r) rest = step other k f found r rest

  -- one of them is not learned exactly where some batch on the way up from it is not there
  module _ (set : IsSet held) (b : Batch) (whole : ReachesTop all b) (there : Has held b) where
    learned-where : has_key (Some b.key) (learned held) ≡ true → ReachesTop held b
    learned-where h = by (batch_at b.key (learned held)) refl h
      where
        by : (o : Option Batch) → batch_at b.key (learned held) ≡ o → is_some o ≡ true → ReachesTop held b
        by None e h = absurd (true≢false (sym h))
        by (Some c) e h =
            let reaches = learned-reaches held c set (found-has (learned held) b.key c e) in
            subst (ReachesTop held) (same-batch held c b (reaches-has held c reaches) there (found-key (learned held) b.key c e)) reaches

    pub lacks-where : (has_key (Some b.key) (learned held) ≡ false) ↔ Lacks all held b
    lacks-where = (λ off. lacking (upwards b whole there) off, λ lacks. unlearned lacks (has_key (Some b.key) (learned held)) refl)
      where
        lacking : ReachesTop held b ⊎ Lacks all held b → has_key (Some b.key) (learned held) ≡ false → Lacks all held b
        lacking (inl reaches) off = absurd (true≢false (sym (ap is_some (reaches-learned held b set reaches)) ∙ off))
        lacking (inr lacks) off = lacks

        unlearned : Lacks all held b → (t : Bool) → has_key (Some b.key) (learned held) ≡ t → t ≡ false
        unlearned lacks false e = refl
        unlearned lacks true e =
            let has = above-there lacks.one b lacks.above (learned-where e) in
            absurd (true≢false (sym (ap is_some (has-found held lacks.one.key lacks.one refl has)) ∙ ap is_some lacks.gone))

-- a batch of a workflow has arrived exactly where its key is that of one that has arrived of the workflow
found-there : (domain workflow : Name) (cell : Cell) (x : Batch) → is_of domain workflow x ≡ true → has_arrived x cell ≡ is_some (batch_at x.key (arrived_of domain workflow cell))
found-there domain workflow cell x own =
    let n = names-of domain workflow x own in
    ap is_some (subst (λ d. batch_there cell.arrived (place_of x) ≡ batch_at x.key (arrived_of d workflow cell)) n.0
    (subst (λ u. batch_there cell.arrived (place_of x) ≡ batch_at x.key (arrived_of x.domain u cell)) n.1 (sym (at-there x.domain x.workflow x.key cell.arrived))))

-- batches of a workflow of which one has not arrived in a cell
module _ (all : List Batch) (cell : Cell) (b : Batch) (own : (x : Batch) → Has all x → is_of b.domain b.workflow x ≡ true) where
  pub lacks-here : Lacks all (arrived_of b.domain b.workflow cell) b → LacksAncestorAmong all cell b
  lacks-here lacks = record { ancestor = lacks.one; above = lacks.above; missing = found-there b.domain b.workflow cell lacks.one (own lacks.one lacks.has) ∙ ap is_some lacks.gone }

  pub lacks-there : LacksAncestorAmong all cell b → Has all b → Lacks all (arrived_of b.domain b.workflow cell) b
  lacks-there lacks has =
      let above_has = waits-has lacks.ancestor b lacks.above has in
      record {
        one = lacks.ancestor;
        has = above_has;
        above = lacks.above;
        gone = none-is (batch_at lacks.ancestor.key (arrived_of b.domain b.workflow cell)) (sym (found-there b.domain b.workflow cell lacks.ancestor (own lacks.ancestor above_has)) ∙ lacks.missing);
      }
    where
      waits-has : (one x : Batch) → WaitsFor all one x → Has all x → Has all one
      waits-has one x itself has = has
      waits-has one x (behind _ before key x_has e at above) has = waits-has one before above (found-has all key before at)

module _ (header : Header) (lines : ℕ) (w : World) (is : IsReached header lines w) (cluster : ClusterNo) (known : IsCluster header cluster) (shard : ℕ) (below : shard < header.shards) where
  abbrev cell : Cell
  cell = cell_at cluster shard w

  abbrev held-of : Batch → List Batch
  held-of b = arrived_of b.domain b.workflow cell

  abbrev all-of : Batch → List Batch
  all-of b = written_of header b.domain b.workflow w

  -- what has arrived of a workflow is a set, and a part of what was written of it
  pub arrived-set : (domain workflow : Name) → IsSet (arrived_of domain workflow cell)
  arrived-set domain workflow = set_of_workflow domain workflow cell (cell-is header lines w is shard below cluster known)

  pub arrived-part : (domain workflow : Name) → IsPart (arrived_of domain workflow cell) (written_of header domain workflow w)
  arrived-part domain workflow x has =
      let p = filter-among (is_of domain workflow) cell.arrived x (has-among (arrived_of domain workflow cell) x has) in
      let n = names-of domain workflow x p.0 in
      let there = has-written header lines w is shard below x (arrived-written header lines w is shard below cluster known x p.1) in
      subst (λ d. Has (written_of header d workflow w) x) n.0 (subst (λ u. Has (written_of header x.domain u w) x) n.1 there)

  held-set : (b : Batch) → IsSet (held-of b)
  held-set b = arrived-set b.domain b.workflow

  held-part : (b : Batch) → IsPart (held-of b) (all-of b)
  held-part b = arrived-part b.domain b.workflow

  held-has : (b : Batch) → Among b cell.arrived → Has (held-of b) b
  held-has b among = among-has (held-of b) b (held-set b).ordered (among-filter (is_of b.domain b.workflow) cell.arrived b (own-names b) among)

  own-of : (b x : Batch) → Has (all-of b) x → is_of b.domain b.workflow x ≡ true
  own-of b x has = (filter-among (is_of b.domain b.workflow) _ x (has-among (all-of b) x has)).0

  module _ (b : Batch) (arrives : Among b cell.arrived) where
    written : Has (all-of b) b
    written = held-part b b (held-has b arrives)

    reaches : ReachesTop (all-of b) b
    reaches = let sound = is.fair.writing.sound b.domain b.workflow in learned-reaches (all-of b) b sound.set (subst (λ l. Has l b) (sym (closed_whole (all-of b) sound.set sound.closed)) written)

    lacks-exactly : (is_learned_in cell b ≡ false) ↔ LacksAncestor header cell b w
    lacks-exactly =
        let where_lacks = lacks-where (all-of b) (held-of b) (held-part b) (held-set b) b reaches (held-has b arrives) in
        (λ off. lacks-here (all-of b) cell b (own-of b) (where_lacks.0 off), λ lacks. where_lacks.1 (lacks-there (all-of b) cell b (own-of b) lacks written))

  waits : WaitsForAncestors header cell w
  waits b = (there, back)
    where
      negated : (t : Bool) → not t ≡ true → t ≡ false
      negated true h = absurd (true≢false (sym h))
      negated false h = refl

      there : IsAmong (put_off_in cell) b → IsAmong cell.arrived b × LacksAncestor header cell b w
      there put_off =
          let p = filter-among (λ x. not (is_learned_in cell x)) cell.arrived b (is-among (put_off_in cell) b put_off) in
          (among-is cell.arrived b p.1, (lacks-exactly b p.1).0 (negated (is_learned_in cell b) p.0))

      back : IsAmong cell.arrived b × LacksAncestor header cell b w → IsAmong (put_off_in cell) b
      back (arrives, lacks) =
          let among = is-among cell.arrived b arrives in
          among-is (put_off_in cell) b (among-filter (λ x. not (is_learned_in cell x)) cell.arrived b (ap not ((lacks-exactly b among).1 lacks)) among)

pub waits-for-ancestors : (header : Header) (lines : ℕ) (w : World) (cluster : ClusterNo) (shard : ℕ) → IsReached header lines w → IsCluster header cluster → shard < header.shards → WaitsForAncestors header (cell_at cluster shard w) w
waits-for-ancestors header lines w cluster shard is known below = waits header lines w is cluster known shard below
