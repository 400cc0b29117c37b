-- Small worked worlds: a workflow at cluster A, and at cluster B after a failover.
use Rattle.std.specs.Prelude.{ℕ, [], ◌∷◌, codes, remove}
use Rattle.ndc_model_cells.specs.Worked.{alpha, home}
use Rattle.ndc_command.specs.declared.command.Command.TheVariants.{Start, Signal}
use Rattle.ndc_domain.specs.Clusters.{cluster_no}
use Rattle.ndc_script_types.specs.declared.script.Header.{Header}
use Rattle.ndc_model.specs.Moves.{pulled_all, worked}
use Rattle.ndc_model.specs.Steps.{command_step}
use Rattle.ndc_model.specs.World.{World, flight_at, opening_world, with_flight, with_table}

-- the header of clusters A and B with one shard
abbrev pub two_clusters : Header
two_clusters = record { clusters = (home 0 1).clusters; shards = 1; limit = 100 }

-- both clusters have the domain's record, B's with this version
abbrev pub with_records : ℕ → World → World
with_records version w = with_table (cluster_no 1) (alpha version ∷ []) (with_table (cluster_no 0) (alpha 1 ∷ []) w)

-- the world in which A has begun the workflow
abbrev pub started : World
started = (command_step two_clusters (cluster_no 0) (codes "alpha") (codes "w1") (Start (codes "order")) (with_records 1 (opening_world two_clusters))).world

-- the world in which A has begun and signaled it
abbrev pub with_a_signal : World
with_a_signal = (command_step two_clusters (cluster_no 0) (codes "alpha") (codes "w1") (Signal (codes "a1") (codes "x")) started).world

-- B has pulled both batches and lost the first, and has worked
abbrev pub with_a_loss : World
with_a_loss =
    (worked two_clusters (cluster_no 1)
    (with_flight (cluster_no 1) (cluster_no 0) 0 (remove (flight_at (cluster_no 1) (cluster_no 0) 0 (pulled_all (cluster_no 1) (cluster_no 0) with_a_signal)) 0)
    (pulled_all (cluster_no 1) (cluster_no 0) with_a_signal))).world

-- B has the run's first batch, has failed the domain over to itself and signalled the run; A has signalled it too
abbrev pub in_conflict : World
in_conflict =
    (command_step two_clusters (cluster_no 0) (codes "alpha") (codes "w1") (Signal (codes "a1") (codes "x"))
    (command_step two_clusters (cluster_no 1) (codes "alpha") (codes "w1") (Signal (codes "b1") (codes "y"))
    (with_table (cluster_no 1) (alpha 2 ∷ []) (worked two_clusters (cluster_no 1) (pulled_all (cluster_no 1) (cluster_no 0) started)).world)).world).world
