-- Trimming keeps a world as it should be.
use Rattle.std.proofs.Common.{◌≡◌, ℕ, ◌<◌, ◌≤◌, Bool, true, false, if◌then◌else◌, List, [], ◌∷◌, ◌++◌, length, map, slice_index_or, slice_set, inl, inr, refl, sym, ◌∙◌, subst, arith}
use Rattle.std.specs.List.{range_with_len}
use Rattle.std.proofs.lemmas.Bool.Decides.{nat_tests}
use Rattle.std.proofs.lemmas.List.FromFn.{get_or-map-range_with_len, length-map-range_with_len}
use Rattle.ndc_script_types.specs.declared.script.Header.{Header}
use Rattle.ndc_model_cells.specs.Writing.{same_cluster}
use Rattle.ndc_domain.specs.declared.clusters.ClusterNo.{ClusterNo}
use Rattle.ndc_model.specs.Facts.{IsReached}
use Rattle.ndc_model.specs.Moves.{done_levels, trimmed_all, trimmed_level}
use Rattle.ndc_model.specs.World.{Link, World, lane_in, queue_at, shards_of, trimmed_at}
use Rattle.ndc_model.proofs.ListLemmas.{all-set, least-most}
use Rattle.ndc_model.proofs.WorldLemmas.{set-cases}
use Rattle.ndc_queue.specs.Levels.{trim_level}
use Rattle.ndc_model_sets.proofs.ForkLemmas.{among-right}
use Rattle.ndc_model_sets.proofs.Lists.{Among, all-among, all-from}
use Rattle.ndc_laws_reached.proofs.FrameLemmas.{WroteAlike, arrivals-alike, copies-alike, handovers-alike, letters-alike, messages-alike, numbers-alike, records-alike, reports-alike, writing-alike}
use Rattle.ndc_laws_reached.proofs.LinkLemmas.{IsLinkFit, links-fit}
use Rattle.ndc_laws_reached.proofs.Lists.{length-set}

-- the level of a link of the source is among those that count
level-among : (source : ClusterNo) (shard : ℕ) (links : List Link) (link : Link) → same_cluster link.source source ≡ true → Among link links
    → Among (lane_in link shard).levels.done (done_levels source shard links)
level-among source shard [] link mine none = absurd none
level-among source shard (x ∷ xs) link mine (inl same) =
    subst (λ (l : Link). Among (lane_in link shard).levels.done ((if same_cluster l.source source then (lane_in l shard).levels.done ∷ [] else []) ++ done_levels source shard xs)) same
    (ap-if (same_cluster link.source source) mine)
  where
    ap-if : (t : Bool) → t ≡ true → Among (lane_in link shard).levels.done ((if t then (lane_in link shard).levels.done ∷ [] else []) ++ done_levels source shard xs)
    ap-if true e = inl refl
    ap-if false e = absurd (cc)
level-among source shard (x ∷ xs) link mine (inr among) =
    among-right (lane_in link shard).levels.done (if same_cluster x.source source then (lane_in x shard).levels.done ∷ [] else []) (done_levels source shard xs) (level-among source shard xs link mine among)

module _ (header : Header) (lines : ℕ) (source : ClusterNo) (w : World) (is : IsReached header lines w) where
  abbrev v : World
  v = record w { trimmed = slice_set w.trimmed source.number (map (trimmed_level source w) (shards_of header)) }

  -- nothing is trimmed that is not done
  most : (link : Link) → Among link w.links → (shard : ℕ) → shard < header.shards → slice_index_or (slice_index_or (slice_set w.trimmed source.number (map (trimmed_level source w) (shards_of header))) link.source.number []) shard 0 ≤ (lane_in link shard).levels.done
  most link among shard below =
      set-cases (λ (levels : List ℕ). slice_index_or levels shard 0 ≤ (lane_in link shard).levels.done) w.trimmed source.number link.source.number (map (trimmed_level source w) (shards_of header)) [] here old
    where
      fit : IsLinkFit header w link
      fit = all-among (IsLinkFit header w) w.links link (links-fit header lines w is) among

      old : trimmed_at link.source w shard ≤ (lane_in link shard).levels.done
      old = (fit.lanes shard below).is_true.trimmed_most

      here : link.source.number ≡ source.number → slice_index_or (map (trimmed_level source w) (shards_of header)) shard 0 ≤ (lane_in link shard).levels.done
      here same =
          let mine : same_cluster link.source source ≡ true = grind (arith, nat_tests) in
          let at : slice_index_or (map (trimmed_level source w) (range_with_len 0 header.shards)) shard 0 ≡ trimmed_level source w shard = get_or-map-range_with_len (trimmed_level source w) 0 header.shards shard shard 0 below (omega arith) in
          let before : trimmed_at source w shard ≤ (lane_in link shard).levels.done = subst (λ (n : ℕ). slice_index_or (slice_index_or w.trimmed n []) shard 0 ≤ (lane_in link shard).levels.done) same old in
          let least : trim_level (queue_at source shard w) (done_levels source shard w.links) ≤ (lane_in link shard).levels.done =
          least-most (done_levels source shard w.links) (lane_in link shard).levels.done (length (queue_at source shard w)) (level-among source shard w.links link mine among) in
          subst (λ (n : ℕ). n ≤ (lane_in link shard).levels.done) (sym at) (omega (arith, before, least))

  wrote : WroteAlike header v w
  wrote = record { places = refl; batches = refl }

  pub trimmed : IsReached header lines (trimmed_all header source w)
  unfolding trimmed_all
  trimmed = record {
    shaped = record {
      clusters = is.shaped.clusters;
      cells = is.shaped.cells;
      links = is.shaped.links;
      ends = is.shaped.ends;
      lanes = is.shaped.lanes;
      sources = length-set w.trimmed source.number (map (trimmed_level source w) (shards_of header)) ∙ is.shaped.sources;
      trimmed = all-set (λ levels. length levels ≡ header.shards) w.trimmed source.number (map (trimmed_level source w) (shards_of header)) (length-map-range_with_len (trimmed_level source w) 0 header.shards) is.shaped.trimmed;
    };
    fair = record {
      writing = writing-alike header v w wrote is.fair.writing;
      copies = copies-alike header v w refl is.fair.copies;
      writers = is.fair.writers;
      arrivals = arrivals-alike header v w refl refl is.fair.arrivals;
      messages = messages-alike header v w refl refl is.fair.messages;
      lanes = all-from _ w.links (λ link among shard below. let t = ((all-among (IsLinkFit header w) w.links link (links-fit header lines w is) among).lanes shard below).is_true in
          record { trimmed_most = most link among shard below; levels = t.levels; done = t.done; flight = t.flight });
      records = records-alike header v w lines refl is.fair.records;
      numbers = numbers-alike header v w lines refl is.fair.numbers;
      members = record { members = is.fair.members.members; arrived = is.fair.members.arrived; flight = is.fair.members.flight; late = is.fair.members.late };
    };
    ranges = is.ranges;
    handovers = handovers-alike header v w refl refl refl is.handovers;
    letters = letters-alike header v w refl refl refl is.letters;
    beats = is.beats;
    reports = reports-alike header v w refl is.reports;
  }
