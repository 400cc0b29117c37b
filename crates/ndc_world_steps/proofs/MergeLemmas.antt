-- The messages of letters arrive, and the letters are gone.
use Rattle.std.proofs.Common.{◌≡◌, ℕ, zero, suc, ◌<◌, ◌+◌, List, [], ◌∷◌, ◌++◌, append-nil, codes, decimal, drop, get_or, length, slice_index_or, Option, Some, None, refl, sym, ◌∙◌, ap, subst, arith}
use Rattle.std.specs.Prelude.{option_map, option_to_list}
use Rattle.std.specs.List.{AllByRecursion, cons_option, filter_map, flat_map}
use Rattle.std.proofs.lemmas.List.{append_assoc, at_drop_more, length-set}
use Rattle.ndc_script_types.specs.WellFormed.{IsCluster}
use Rattle.ndc_script_types.specs.declared.script.Header.{Header}
use Rattle.ndc_world_answers.specs.declared.tally.Tally.{Tally}
use Rattle.ndc_model_cells.specs.declared.job.JobReply.{JobReply}
use Rattle.ndc_model_cells.specs.declared.job.ShardJob.{ShardJob}
use Rattle.ndc_model_cells.specs.declared.message.Message.{Message}
use Rattle.ndc_model_cells.specs.Cells.{message_at}
use Rattle.ndc_model_cells.specs.Jobs.{cell_for, cells_after, replies_to}
use Rattle.ndc_model_cells.specs.Shards.{shard_of}
use Rattle.ndc_domain.specs.declared.clusters.ClusterNo.{ClusterNo}
use Rattle.ndc_laws_reached.proofs.LetterLemmas.{shard-below}
use Rattle.ndc_model.specs.Allowed.{letter_jobs}
use Rattle.ndc_index.specs.declared.seen.Seen.{Seen}
use Rattle.ndc_letters.specs.declared.letter.Letter.{Letter}
use Rattle.ndc_letters.specs.Letters.{place_of_letter}
use Rattle.ndc_model.specs.Fair.{IsShaped}
use Rattle.ndc_model.specs.Letters.{letter_job, letters_merged, mergeletters_step, with_letters}
use Rattle.ndc_model.specs.Moves.{arrives, from_world, jobs_done, notes_of, renewed}
use Rattle.ndc_model.specs.Steps.{seen_of}
use Rattle.ndc_model.specs.Texts.{ok}
use Rattle.ndc_model.specs.World.{Cluster, Link, World, cell_of, cluster_at, home_at, lane_in, new_cluster, queue_at, with_cells}
use Rattle.ndc_model.proofs.ListLemmas.{all-set, all-weaker}
use Rattle.ndc_model.proofs.WorldLemmas.{set-cases}
use Rattle.ndc_world_replication.proofs.OrderlyLemmas.{orderly_jobs}
use Rattle.ndc_world_replication.specs.Dones.{notes_in}
use Rattle.ndc_world_replication.specs.declared.working.Done.{Done}
use Rattle.ndc_world_steps.specs.Telling.{tally_of}
use Rattle.ndc_world_replication.specs.Orderly.{AreLevelsKept, IsOrderly}
use Rattle.ndc_world_replication.proofs.ShapeLemmas.{cells_there}

-- letters that become others
orderly-letters : (header : Header) (w : World) (reader : ClusterNo) (letters : List Letter) → IsOrderly header w → IsCluster header reader → IsOrderly header (with_letters reader letters w)
orderly-letters header w reader letters it known = record {
  shaped = record {
    clusters = length-set w.clusters reader.number new ∙ it.shaped.clusters;
    cells = all-set (λ (c : Cluster). length c.cells ≡ header.shards) w.clusters reader.number new (cells_there header w reader it.shaped known) it.shaped.cells;
    links = it.shaped.links;
    ends = it.shaped.ends;
    lanes = it.shaped.lanes;
    sources = it.shaped.sources;
    trimmed = it.shaped.trimmed;
  };
  lanes = all-weaker (λ (link : Link). (shard : ℕ) → shard < header.shards → AreLevelsKept w link shard (lane_in link shard))
      (λ (link : Link). (shard : ℕ) → shard < header.shards → AreLevelsKept (with_letters reader letters w) link shard (lane_in link shard))
      (λ link each shard below. let k = each shard below in record {
        trimmed_most = k.trimmed_most;
        levels = record { done_most = k.levels.done_most; read_most = omega (arith, k.levels.read_most, same link.source shard) };
      }) w.links it.lanes;
}
  where
    new : Cluster
    new = record (cluster_at reader w) { letters = letters }

    same : (source : ClusterNo) (shard : ℕ) → length (queue_at source shard (with_letters reader letters w)) ≡ length (queue_at source shard w)
    same source shard =
        set-cases (λ (c : Cluster). length (cell_for shard c.cells).written ≡ length (queue_at source shard w)) w.clusters reader.number source.number (record (cluster_at reader w) { letters = letters }) (new_cluster 0)
        (λ own. ap (λ (n : ℕ). length (cell_for shard (slice_index_or w.clusters n (new_cluster 0)).cells).written) (sym own)) refl

-- after the arrival of their messages
pub merged_orderly : (header : Header) (w v : World) (reader : ClusterNo) (jobs : List ShardJob) → IsOrderly header w → IsCluster header reader → v ≡ with_letters reader [] (jobs_done header reader jobs (from_world w)).world
    → IsOrderly header v
merged_orderly header w v reader jobs it known e =
    subst (IsOrderly header) (sym e) (orderly-letters header (jobs_done header reader jobs (from_world w)).world reader [] (orderly_jobs header (from_world w) it reader jobs known) known)

-- the job of a letter
pub job_is : (header : Header) (w : World) (letter : Letter) (shard : ℕ) (found : Option Message) → shard ≡ shard_of letter.domain letter.workflow header.shards
    → found ≡ message_at (cell_for shard (cluster_at letter.source w).cells) (place_of_letter letter) → option_map (arrives shard) found ≡ letter_job header w letter
job_is header w letter shard found e f =
    ap (option_map (arrives shard)) f ∙ ap (λ (n : ℕ). option_map (arrives n) (message_at (cell_for n (cluster_at letter.source w).cells) (place_of_letter letter))) e

-- jobs of letters are for shards of the header
jobs-below : (header : Header) (w : World) → 0 < header.shards → (letters : List Letter) → AllByRecursion (λ (asked : ShardJob). asked.shard < header.shards) (filter_map (letter_job header w) letters)
jobs-below header w some [] = tt
jobs-below header w some (letter ∷ letters) = by (message_at (cell_of header letter.source letter.domain letter.workflow w) (place_of_letter letter)) (jobs-below header w some letters)
  where
    by : (o : Option Message) → AllByRecursion (λ (asked : ShardJob). asked.shard < header.shards) (filter_map (letter_job header w) letters)
        → AllByRecursion (λ (asked : ShardJob). asked.shard < header.shards) (cons_option (option_map (arrives (shard_of letter.domain letter.workflow header.shards)) o) (filter_map (letter_job header w) letters))
    by None rest = rest
    by (Some sent) rest = (shard-below letter.domain letter.workflow header.shards some, rest)

pub letter_jobs_there : (header : Header) (w : World) (reader : ClusterNo) → IsShaped header w → IsCluster header reader → 0 < header.shards
    → AllByRecursion (λ (asked : ShardJob). asked.shard < length (cluster_at reader w).cells) (letter_jobs header reader w)
letter_jobs_there header w reader shaped known some =
    let many : length (cluster_at reader w).cells ≡ header.shards = cells_there header w reader shaped known in
    all-weaker (λ (asked : ShardJob). asked.shard < header.shards) (λ (asked : ShardJob). asked.shard < length (cluster_at reader w).cells) (λ asked below. omega (arith, below, many))
    (letter_jobs header reader w) (jobs-below header w some (cluster_at reader w).letters)

-- a message more, where there is one
one_more : {X : Type 0} (items : List X) (o : Option X) (rest : List X) → (items ++ option_to_list o) ++ rest ≡ items ++ cons_option o rest
one_more items None rest = ap (λ l. l ++ rest) (append-nil items)
one_more items (Some x) rest = append_assoc items (x ∷ []) rest

-- one letter more
pub letter_more : {X Y : Type 0} (f : X → Option Y) (xs : List X) (i : ℕ) (x : X) (o : Option Y) (jobs after : List Y) → i < length xs → x ≡ get_or xs i x → o ≡ f x → after ≡ jobs ++ option_to_list o
    → jobs ++ filter_map f (drop i xs) ≡ filter_map f xs → after ++ filter_map f (drop (i + 1) xs) ≡ filter_map f xs
letter_more {X} f xs i x o jobs after below is made put before =
    ap (λ l. l ++ filter_map f (drop (i + 1) xs)) put
    ∙ one_more jobs o (filter_map f (drop (i + 1) xs))
    ∙ ap (λ p. jobs ++ cons_option p (filter_map f (drop (i + 1) xs))) (made ∙ ap f is)
    ∙ ap (λ l. jobs ++ l) (sym (at_drop_more (filter_map f) xs i x below))
    ∙ before

-- what holds of all holds of the one at a place
pub holds_at : {X : Type 0} (P : X → Type 0) (xs : List X) (i : ℕ) (x : X) → AllByRecursion P xs → i < length xs → x ≡ get_or xs i x → P x
holds_at {X} P xs i x all below is = subst P (sym is) (at xs i all below)
  where
    at : (ys : List X) (k : ℕ) → AllByRecursion P ys → k < length ys → P (get_or ys k x)
    at [] k each less = absurd (omega (arith, less))
    at (y ∷ ys) zero each less = each.0
    at (y ∷ ys) (suc k) each less = at ys k each.1 (omega (arith, less))

-- what jobs of letters leave, and their notes
pub served_world : (header : Header) (reader : ClusterNo) (w v u : World) (asked jobs : List ShardJob) (letters : List Letter) → asked ≡ jobs
    → v ≡ with_cells reader (cells_after (home_at header reader w) asked (cluster_at reader w).cells) w → letters ≡ [] → u ≡ with_letters reader letters v
    → u ≡ with_letters reader [] (jobs_done header reader jobs (from_world w)).world
unfolding jobs_done
served_world header reader w v u asked jobs letters same done none put =
    put ∙ (λ i. with_letters reader (none i) ((done ∙ ap (λ (l : List ShardJob). with_cells reader (cells_after (home_at header reader w) l (cluster_at reader w).cells) w) same) i))

pub served_notes : (header : Header) (reader : ClusterNo) (w : World) (own asked jobs : List ShardJob) (replies : List JobReply) → own ≡ jobs → asked ≡ jobs
    → replies ≡ replies_to (home_at header reader w) asked (cluster_at reader w).cells → notes_of reader own replies ≡ (jobs_done header reader jobs (from_world w)).notes
unfolding jobs_done
served_notes header reader w own asked jobs replies same alike told =
    λ i. notes_of reader (same i) ((told ∙ ap (λ (l : List ShardJob). replies_to (home_at header reader w) l (cluster_at reader w).cells) alike) i)

-- what the line leaves and tells
pub merged_is : (header : Header) (reader : ClusterNo) (w v u : World) (done : Done) (t : Tally) (answer : List ℕ) (seen : List Seen)
    → v ≡ with_letters reader [] (jobs_done header reader (letter_jobs header reader w) (from_world w)).world → u ≡ renewed v reader
    → notes_in done ≡ (jobs_done header reader (letter_jobs header reader w) (from_world w)).notes → t ≡ tally_of (flat_map notes_in (done ∷ [])) → seen ≡ seen_of (flat_map notes_in (done ∷ []))
    → answer ≡ ok (codes "arrived" ∷ decimal t.arrived ∷ codes "learned" ∷ decimal t.learned ∷ []) → record { world = u; answer = answer; seen = seen } ≡ mergeletters_step header reader w
unfolding letters_merged
merged_is header reader w v u done t answer seen put renews notes counted told text =
    let all : flat_map notes_in (done ∷ []) ≡ (jobs_done header reader (letter_jobs header reader w) (from_world w)).notes = append-nil (notes_in done) ∙ notes in
    λ i. record {
      world = (renews ∙ ap (λ (x : World). renewed x reader) put) i;
      answer = (text ∙ ap said (counted ∙ ap tally_of all)) i;
      seen = (told ∙ ap seen_of all) i;
    }
  where
    said : Tally → List ℕ
    said tally = ok (codes "arrived" ∷ decimal tally.arrived ∷ codes "learned" ∷ decimal tally.learned ∷ [])
