-- The messages of letters arrive.
use Rattle.std.proofs.Common.{◌≡◌, ◌<◌, ℕ, Bool, true, List, [], Some, None, inl, refl, sym, ◌∙◌, subst, ap, if◌then◌else◌}
use Rattle.std.specs.Prelude.{is_some, option_map}
use Rattle.std.specs.List.{AllByRecursion, filter, filter_map, flat_map}
use Rattle.ndc_script_types.specs.WellFormed.{IsCluster, IsWellFormedHeader}
use Rattle.ndc_script_types.specs.declared.script.Act.TheVariants as act
use Rattle.ndc_script_types.specs.declared.script.Header.{Header}
use Rattle.ndc_model_cells.specs.declared.job.Job.TheVariants.{Arrive}
use Rattle.ndc_model_cells.specs.declared.job.ShardJob.{ShardJob}
use Rattle.ndc_model_cells.specs.declared.message.Message.{Message}
use Rattle.ndc_model_cells.specs.declared.place.Place.{Place}
use Rattle.ndc_model_cells.specs.Cells.{Cell, both, learned_message, learned_of, message_found, message_of}
use Rattle.ndc_model_cells.specs.Jobs.{cell_for}
use Rattle.ndc_model_cells.specs.Places.{batch_there, is_at, is_of, place_of}
use Rattle.ndc_model_cells.specs.Shards.{shard_of}
use Rattle.ndc_domain.specs.declared.clusters.ClusterNo.{ClusterNo}
use Rattle.ndc_event.specs.declared.batch.Batch.{Batch}
use Rattle.ndc_event.specs.declared.name.Name.{Name}
use Rattle.ndc_laws_reached.proofs.ArrivalLemmas.{own-is}
use Rattle.ndc_laws_reached.proofs.BringLemmas.{HasCome, IsArrival, world_after}
use Rattle.ndc_laws_cells.proofs.FoundLemmas.{at-place}
use Rattle.ndc_laws_reached.proofs.LetterLemmas.{shard-below}
use Rattle.ndc_laws_reached.proofs.ManyLemmas.{among-flat, many}
use Rattle.ndc_laws_reached.proofs.MessageLemmas.{learned-true}
use Rattle.ndc_laws_reached.proofs.OneWriterLemmas.{learned_sound}
use Rattle.ndc_laws.specs.Promised.{HasArrivedFor}
use Rattle.ndc_letters.specs.Letters.{place_of_letter}
use Rattle.ndc_letters.specs.declared.letter.Letter.{Letter}
use Rattle.ndc_model.proofs.ListLemmas.{any-one}
use Rattle.ndc_model.specs.Facts.{IsLetterFit, IsReached}
use Rattle.ndc_model.specs.Fair.{IsMessageTrue, IsOwn, is_named}
use Rattle.ndc_model.specs.Letters.{letter_job, letters_merged, with_letters}
use Rattle.ndc_model.specs.Lines.{act_step}
use Rattle.ndc_model.specs.Moves.{all_written, arrives, jobs_done, renewed}
use Rattle.ndc_model.specs.World.{Cluster, World, cell_at, cluster_at, new_cluster, queue_at}
use Rattle.ndc_model.proofs.WorldLemmas.{set-cases}
use Rattle.ndc_model_sets.specs.Sets.{Has}
use Rattle.ndc_model_sets.proofs.BranchLemmas.{among-has, has-among, same-batch}
use Rattle.ndc_model_sets.proofs.Lists.{Among, all-among, all-from, among-filter_map, filter_map-among, find-only}

module _ (header : Header) (fit : IsWellFormedHeader header) (lines : ℕ) (w : World) (is : IsReached header lines w) (reader : ClusterNo) (known : IsCluster header reader) where
  some : 0 < header.shards
  some = fit.shards_least

  module _ (letter : Letter) (letter-fit : IsLetterFit header w reader letter) where
    abbrev home : ℕ
    home = shard_of letter.domain letter.workflow header.shards

    abbrev cell : Cell
    cell = cell_at letter.source home w

    abbrev known-there : List Batch
    known-there = learned_of letter.domain letter.workflow cell

    below : home < header.shards
    below = shard-below letter.domain letter.workflow header.shards some

    -- the message that the letter was
    was : (sent : Message) × Among sent (queue_at letter.source home w) × (is_at (place_of_letter letter) sent.batch ≡ true)
    was = any-one (λ sent. is_at (place_of_letter letter) sent.batch) (queue_at letter.source home w) letter-fit.sent

    abbrev b : Batch
    b = was.0.batch

    place : place_of_letter letter ≡ place_of b
    place = at-place (place_of_letter letter) b was.2

    names : (b.domain ≡ letter.domain) × (b.workflow ≡ letter.workflow)
    names = (ap (λ (p : Place). p.domain) (sym place), ap (λ (p : Place). p.workflow) (sym place))

    own : IsOwn header letter.source home (cluster_at letter.source w).table cell b
    own =
        all-among (IsOwn header letter.source home (cluster_at letter.source w).table cell) (flat_map both cell.written) b (is.fair.writers letter.source home letter-fit.clusters.second below)
        (among-flat both cell.written was.0 b was.1 (inl refl))

    has : Has known-there b
    has = subst (λ d. Has (learned_of d letter.workflow cell) b) names.0 (subst (λ u. Has (learned_of b.domain u cell) b) names.1 own.learned)

    found : batch_there known-there (place_of_letter letter) ≡ Some b
    found = find-only (is_at (place_of_letter letter)) known-there b was.2 (has-among known-there b has) only
      where
        only : (x : Batch) → Among x known-there → is_at (place_of_letter letter) x ≡ true → x ≡ b
        only x among at =
            same-batch known-there x b (among-has known-there x (learned_sound header lines w letter.source letter.domain letter.workflow some letter-fit.clusters.second is).set.ordered among) has
            (ap (λ (p : Place). p.key) (sym (at-place (place_of_letter letter) x at) ∙ place))

    abbrev again : Message
    again = message_of (learned_of b.domain b.workflow cell) cell.arrived b

    own-message : learned_message cell b ≡ Some again
    own-message =
        let true_message = all-among (IsMessageTrue header home w) (queue_at letter.source home w) was.0 (is.fair.messages letter.source home letter-fit.clusters.second below).written was.1 in
        ap (λ (t : Bool). if t then None else Some again) (own-is (filter (is_of b.domain b.workflow) (all_written header home w)) (all_written header home w) b was.0 true_message.1).0

    job : letter_job header w letter ≡ Some (arrives home again)
    job = ap (option_map (arrives home)) (ap (message_found cell) found ∙ own-message)

    arrival : IsArrival header reader w (arrives home again)
    arrival = record {
      sent = again;
      job = refl;
      below = below;
      may = record {
        is_true = learned-true header lines w is home below letter.source letter-fit.clusters.second b again own.learned own-message;
        named = subst (λ (d : Name). is_named header reader w d ≡ true) (sym names.0) letter-fit.named;
      };
    }

    job-may : (asked : ShardJob) → letter_job header w letter ≡ Some asked → IsArrival header reader w asked
    job-may asked e = let same : arrives home again ≡ asked = (let both_are : Some (arrives home again) ≡ Some asked = sym job ∙ e in cc) in subst (IsArrival header reader w) same arrival

    -- where the batch of the message has come, that of the letter has
    has-come : (v : World) → HasCome reader home v again → HasArrivedFor header reader v letter
    has-come v come = subst (λ (p : Place). is_some (batch_there (cell_at reader home v).arrived p) ≡ true) (sym place) come.batch

  abbrev letters : List Letter
  letters = (cluster_at reader w).letters

  abbrev jobs : List ShardJob
  jobs = filter_map (letter_job header w) letters

  pub all-may : AllByRecursion (IsArrival header reader w) jobs
  all-may =
      all-from (IsArrival header reader w) jobs
      (λ asked among. let f = filter_map-among (letter_job header w) letters asked among in job-may f.0 (all-among (IsLetterFit header w reader) letters f.0 (is.letters reader known) f.1) asked f.2)

  abbrev v : World
  v = world_after header reader jobs w

  -- the batches of a job's message have come
  abbrev Come : ShardJob → Type 0
  Come asked = (sent : Message) → asked.job ≡ Arrive sent → HasCome reader asked.shard v sent

  all-come : AllByRecursion Come jobs
  all-come = (many header lines reader known jobs w is all-may).1

  each-come : (letter : Letter) → Among letter letters → HasArrivedFor header reader v letter
  each-come letter among =
      let letter-fit = all-among (IsLetterFit header w reader) letters letter (is.letters reader known) among in
      has-come letter letter-fit v
      (all-among Come jobs (arrives (home letter letter-fit) (again letter letter-fit)) all-come (among-filter_map (letter_job header w) letters letter _ (job letter letter-fit) among)
      (again letter letter-fit) refl)

  -- the letters are dropped then, and levels renewed
  same-cells : (shard : ℕ) → cell_at reader shard (with_letters reader [] v) ≡ cell_at reader shard v
  same-cells shard =
      set-cases (λ (c : Cluster). cell_for shard c.cells ≡ cell_at reader shard v) v.clusters reader.number reader.number (record (cluster_at reader v) { letters = [] }) (new_cluster 0) (λ at. refl) refl

  pub merged-come : AllByRecursion (HasArrivedFor header reader (act_step header (act.MergeLetters reader) w).world) letters
  unfolding act_step letters_merged jobs_done renewed
  merged-come =
      all-from (HasArrivedFor header reader (act_step header (act.MergeLetters reader) w).world) letters
      (λ letter among. subst (λ (c : Cell). is_some (batch_there c.arrived (place_of_letter letter)) ≡ true) (sym (same-cells (shard_of letter.domain letter.workflow header.shards))) (each-come letter among))
