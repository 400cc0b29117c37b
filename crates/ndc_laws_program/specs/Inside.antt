-- What the messages are answered that arrive inside a line, each in the world that the line's jobs before it lead to.
use Rattle.std.specs.Prelude.{◌≡◌, ⊤, ℕ, List, ◌∷◌, ◌++◌}
use Rattle.std.specs.List.{fold}
use Rattle.ndc_script_types.specs.declared.script.Act.{Act}
use Rattle.ndc_script_types.specs.declared.script.Act.TheVariants as act
use Rattle.ndc_script_types.specs.declared.script.Header.{Header}
use Rattle.ndc_model_cells.specs.declared.job.ShardJob.{ShardJob}
use Rattle.ndc_model_cells.specs.declared.message.Message.{Message}
use Rattle.ndc_domain.specs.declared.clusters.ClusterNo.{ClusterNo}
use Rattle.ndc_laws_program.specs.Arriving.{IsAnswered}
use Rattle.ndc_model.specs.Allowed.{letter_jobs}
use Rattle.ndc_model.specs.Conditions.{again_jobs, all_bootstrapped, due_jobs, flight_jobs, late_jobs, reader_bootstrapped, tables_merged}
use Rattle.ndc_model.specs.Moves.{Trace, arrives, bootstrapped, due_arrived, from_world, jobs_done, quietly, settled_once, without_flights, without_flights_to}
use Rattle.ndc_model.specs.World.{World, all_clusters, others_of}

-- the world in which a cluster has done these jobs
abbrev pub behind_jobs : Header → ClusterNo → List ShardJob → World → World
behind_jobs header cluster jobs w = (jobs_done header cluster jobs (from_world w)).world

-- each message that arrives by these jobs of a cluster is answered as it should be, in the world in which those before it are done
abbrev pub AnswersEach : Header → ClusterNo → List ShardJob → World → Type 0
AnswersEach header cluster jobs w =
    (front back : List ShardJob) (shard : ℕ) (sent : Message) → jobs ≡ front ++ arrives shard sent ∷ back → IsAnswered header (behind_jobs header cluster front w) cluster shard sent

-- a round of settlement, after which these readers, and of the next one these sources, are done with what members lack that are late
abbrev pub at_source : Header → Trace → List ClusterNo → ClusterNo → List ClusterNo → World
at_source header t readers reader sources =
    (fold (bootstrapped header reader) (fold (reader_bootstrapped header) (quietly (tables_merged header) t) readers) sources).world

-- the same round, after which these readers are done with what is due to them
abbrev pub at_reader : Header → Trace → List ClusterNo → World
at_reader header t readers = (fold (due_arrived header) (all_bootstrapped header (quietly (tables_merged header) t)) readers).world

-- the messages of a round of settlement are answered so: those that members lack that are late, and those that are due
pub record AnswersRound (header : Header) (t : Trace) : Type 0 where
  pub late : (front back : List ClusterNo) (reader : ClusterNo) (fore rest : List ClusterNo) (source : ClusterNo) → all_clusters header ≡ front ++ reader ∷ back → others_of header reader ≡ fore ++ source ∷ rest
      → AnswersEach header reader (late_jobs header reader source (at_source header t front reader fore)) (at_source header t front reader fore)
  pub due : (front back : List ClusterNo) (reader : ClusterNo) → all_clusters header ≡ front ++ reader ∷ back → AnswersEach header reader (due_jobs header reader (at_reader header t front)) (at_reader header t front)

-- the messages of a line are answered so; most lines bring none
abbrev pub AnswersInside : Header → Act → World → Type 0
AnswersInside header (act.Work cluster) w = AnswersEach header cluster (flight_jobs header cluster w) (without_flights_to cluster w)
AnswersInside header (act.Resend cluster) w = AnswersEach header cluster (again_jobs header cluster w) w
AnswersInside header (act.Bootstrap reader source) w = AnswersEach header reader (late_jobs header reader source w) w
AnswersInside header act.Settle w = AnswersRound header (from_world (without_flights w)) × AnswersRound header (settled_once header (from_world (without_flights w)))
AnswersInside header (act.MergeLetters cluster) w = AnswersEach header cluster (letter_jobs header cluster w) w
AnswersInside header other w = ⊤
