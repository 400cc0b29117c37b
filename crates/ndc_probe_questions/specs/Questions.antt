-- The questions, by the words of their lines.
use Rattle.std.specs.Prelude.{ℕ, ◌<◌, List, [], ◌∷◌, Option, Some, None, Result, Ok, codes, if◌then◌else◌}
use Rattle.std.specs.Str.{bytes_eq}
use Rattle.ndc_event.specs.Outcome.{◌>>=◌}
use Rattle.ndc_script_types.specs.WellFormed.{AreTwoClusters, IsCluster}
use Rattle.ndc_script_types.specs.declared.script.Header.{Header}
use Rattle.ndc_script_types.specs.declared.script.ScriptCause.TheVariants.{BadLine}
use Rattle.ndc_script_types.specs.declared.script.ScriptError.{ScriptError}
use Rattle.ndc_script_words.specs.Header.{refused}
use Rattle.ndc_script_words.specs.Operands.{known, named, shard_of, two_clusters}
use Rattle.ndc_probe_questions.specs.declared.question.DomainAt.{DomainAt}
use Rattle.ndc_probe_questions.specs.declared.question.LaneAt.{LaneAt}
use Rattle.ndc_probe_questions.specs.declared.question.Question.{Question}
use Rattle.ndc_probe_questions.specs.declared.question.Question.TheVariants.{Differs, Dumps, Flight, Forks, Holds, Late, Queue, Workflows}
use Rattle.ndc_probe_questions.specs.declared.reading.Verb.{Verb}
use Rattle.ndc_probe_questions.specs.declared.reading.Verb.TheVariants as verb

-- `READER SOURCE SHARD`
unfoldable pub lane_at : Header → ℕ → List (List ℕ) → Result LaneAt ScriptError
lane_at header line (reader ∷ source ∷ shard ∷ []) = do
  clusters ← two_clusters header line reader source
  shard ← shard_of header line shard
  Ok (record { reader = clusters.one; source = clusters.two; shard = shard })
lane_at header line _ = refused line BadLine

-- `SOURCE SHARD`
unfoldable pub queue_at : Header → ℕ → List (List ℕ) → Result Question ScriptError
queue_at header line (source ∷ shard ∷ []) = do
  source ← known header line source
  shard ← shard_of header line shard
  Ok (Queue source shard)
queue_at header line _ = refused line BadLine

-- `READER SOURCE`
unfoldable pub late_at : Header → ℕ → List (List ℕ) → Result Question ScriptError
late_at header line (reader ∷ source ∷ []) = do
  clusters ← two_clusters header line reader source
  Ok (Late clusters.one clusters.two)
late_at header line _ = refused line BadLine

-- `C D`
unfoldable pub domain_at : Header → ℕ → List (List ℕ) → Result DomainAt ScriptError
domain_at header line (cluster ∷ domain ∷ []) = do
  domain ← named line domain
  cluster ← known header line cluster
  Ok (record { cluster = cluster; domain = domain })
domain_at header line _ = refused line BadLine

-- `C C D`
unfoldable pub differs_at : Header → ℕ → List (List ℕ) → Result Question ScriptError
differs_at header line (one ∷ two ∷ domain ∷ []) = do
  domain ← named line domain
  clusters ← two_clusters header line one two
  Ok (Differs clusters.one clusters.two domain)
differs_at header line _ = refused line BadLine

-- the words that begin a question about what is sent
unfoldable pub sent_verb : List ℕ → Option Verb
sent_verb word =
    if bytes_eq word (codes "flight") then Some verb.Flight
    else if bytes_eq word (codes "queue") then Some verb.Queue
    else if bytes_eq word (codes "holds") then Some verb.Holds
    else if bytes_eq word (codes "late") then Some verb.Late
    else None

-- the words that begin a question about what is learned
unfoldable pub learned_verb : List ℕ → Option Verb
learned_verb word =
    if bytes_eq word (codes "workflows") then Some verb.Workflows
    else if bytes_eq word (codes "forks") then Some verb.Forks
    else if bytes_eq word (codes "differs") then Some verb.Differs
    else if bytes_eq word (codes "dumps") then Some verb.Dumps
    else None

-- the first that is there
abbrev pub or_else : {X : Type 0} → Option X → Option X → Option X
or_else (Some x) other = Some x
or_else None other = other

-- the word that begins a question
unfoldable pub verb_of : List ℕ → Option Verb
verb_of word = or_else (sent_verb word) (learned_verb word)

-- the question that begins so, by the words that follow
unfoldable pub asked_by : Header → ℕ → Verb → List (List ℕ) → Result Question ScriptError
asked_by header line verb.Flight words = do
  lane ← lane_at header line words
  Ok (Flight lane)
asked_by header line verb.Holds words = do
  lane ← lane_at header line words
  Ok (Holds lane)
asked_by header line verb.Queue words = queue_at header line words
asked_by header line verb.Late words = late_at header line words
asked_by header line verb.Workflows words = do
  at ← domain_at header line words
  Ok (Workflows at)
asked_by header line verb.Forks words = do
  at ← domain_at header line words
  Ok (Forks at)
asked_by header line verb.Dumps words = do
  at ← domain_at header line words
  Ok (Dumps at)
asked_by header line verb.Differs words = differs_at header line words

-- the same where the first word is none of these
abbrev pub asked_where : Header → ℕ → Option Verb → List (List ℕ) → Result Question ScriptError
asked_where header line None words = refused line BadLine
asked_where header line (Some verb) words = asked_by header line verb words

-- the question that words are
unfoldable pub question_of : Header → ℕ → List (List ℕ) → Result Question ScriptError
question_of header line [] = refused line BadLine
question_of header line (word ∷ words) = asked_where header line (verb_of word) words

-- the lane is one of the header
pub record IsLane (header : Header) (lane : LaneAt) : Type 0 where
  pub ends : AreTwoClusters header lane.reader lane.source
  pub shard : lane.shard < header.shards

-- the clusters and shards of a question are those of the header
abbrev pub IsQuestion : Header → Question → Type 0
IsQuestion header (Flight lane) = IsLane header lane
IsQuestion header (Holds lane) = IsLane header lane
IsQuestion header (Queue source shard) = IsCluster header source × (shard < header.shards)
IsQuestion header (Late reader source) = AreTwoClusters header reader source
IsQuestion header (Workflows at) = IsCluster header at.cluster
IsQuestion header (Forks at) = IsCluster header at.cluster
IsQuestion header (Dumps at) = IsCluster header at.cluster
IsQuestion header (Differs one two domain) = AreTwoClusters header one two
