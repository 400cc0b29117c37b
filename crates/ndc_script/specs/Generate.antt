-- The scripts that the generator makes.
use Rattle.std.specs.Prelude.{ℕ, zero, suc, ◌+◌, ◌*◌, ◌/◌, ◌%◌, ◌^◌, ◌==◌, nat_le, List, [], ◌∷◌, ◌++◌, codes, decimal, if◌then◌else◌}
use Rattle.ndc_command.specs.declared.command.Action.TheVariants as action
use Rattle.ndc_command.specs.declared.command.Command.{Command}
use Rattle.ndc_command.specs.declared.command.Command.TheVariants as command
use Rattle.ndc_domain.specs.Clusters.{cluster_no}
use Rattle.ndc_domain.specs.Members.{members_of}
use Rattle.ndc_domain.specs.declared.clusters.ClusterNo.{ClusterNo}
use Rattle.ndc_script_types.specs.declared.script.Act.{Act}
use Rattle.ndc_script_types.specs.declared.script.Act.TheVariants as act
use Rattle.ndc_script_types.specs.declared.script.Header.{Header}
use Rattle.ndc_script_types.specs.declared.script.Line.{Line}
use Rattle.ndc_script_types.specs.declared.script.Script.{Script}
use Rattle.ndc_script_types.specs.Below.{clusters_below}

-- the clusters A, B and C, eight shards, and 1,000 events on a branch
abbrev pub generated_header : Header
generated_header =
    record {
      clusters = record { increment = 10; members = (codes "A", 1) ∷ (codes "B", 2) ∷ (codes "C", 3) ∷ [] };
      shards = 8;
      limit = 1000;
    }

-- the state after a state, by arithmetic modulo 2^64
unfoldable pub next_state : ℕ → ℕ
next_state state = (state * 6364136223846793005 + 1442695040888963407) % 2 ^ 64

-- what a state draws: its upper 31 bits
unfoldable pub drawn : ℕ → ℕ
drawn state = state / 2 ^ 33

-- the cluster of a draw
abbrev pub drawn_cluster : ℕ → ClusterNo
drawn_cluster draw = cluster_no (draw / 10 % 3)

-- the domain of a draw
unfoldable pub drawn_domain : ℕ → List ℕ
drawn_domain draw = if draw / 30 % 2 == 0 then codes "alpha" else codes "beta"

-- the number of a draw's workflow
abbrev pub drawn_number : ℕ → ℕ
drawn_number draw = draw / 60 % 16

-- the workflow of a draw
unfoldable pub drawn_workflow : ℕ → List ℕ
drawn_workflow draw = codes "w" ++ decimal (drawn_number draw)

-- the cluster that a failover of a draw makes active
abbrev pub drawn_target : ℕ → ClusterNo
drawn_target draw = cluster_no (drawn_number draw % 3)

-- another cluster than that of the draw
abbrev pub drawn_other : ℕ → ClusterNo
drawn_other draw = cluster_no ((draw / 10 % 3 + 1 + drawn_number draw % 2) % 3)

-- the command of a draw of kind 0 to 5 for a place
abbrev pub drawn_command : ℕ → ℕ → Command
drawn_command place kind =
    if kind == 0 then command.Start (codes "order")
    else if nat_le kind 3 then command.Signal (codes "ping") (decimal place)
    else if kind == 4 then command.Decide
    else command.Respond (action.Timer (codes "t" ++ decimal place) ∷ [])

-- what the line of a draw of kind 6 to 9 asks for
abbrev pub drawn_move : ℕ → ℕ → Act
drawn_move draw kind =
    if kind == 6 then act.Failover (drawn_cluster draw) (drawn_domain draw) (drawn_target draw)
    else if kind == 7 then act.Domains (drawn_cluster draw) (drawn_other draw)
    else if kind == 8 then act.Pull (drawn_cluster draw) (drawn_other draw)
    else act.Work (drawn_cluster draw)

-- what the line at a place, counted from 1, asks for, by its draw
unfoldable pub generated_act : ℕ → ℕ → Act
generated_act place draw =
    if nat_le (draw % 10) 5 then act.Command (drawn_cluster draw) (drawn_domain draw) (drawn_workflow draw) (drawn_command place (draw % 10))
    else drawn_move draw (draw % 10)

-- a line with its number
abbrev pub line_at : ℕ → Act → Line
line_at number asked = record { number = number; act = asked }

-- the line that registers a domain at A with all clusters
abbrev pub registering : List ℕ → ℕ → Act
registering domain target = act.Register (cluster_no 0) domain (cluster_no target) 7 (members_of (clusters_below 3))

-- the line that tells a cluster of A's domains
abbrev pub telling : ℕ → Act
telling to = act.Domains (cluster_no to) (cluster_no 0)

-- the line that starts a first workflow
abbrev pub starting : ℕ → List ℕ → Act
starting cluster domain = act.Command (cluster_no cluster) domain (codes "w0") (command.Start (codes "order"))

-- the first lines: two domains, told to B and C, and a workflow in each
abbrev pub first_lines : List Line
first_lines =
    line_at 8 (registering (codes "alpha") 0) ∷ line_at 9 (registering (codes "beta") 1) ∷ line_at 10 (telling 1) ∷ line_at 11 (telling 2)
    ∷ line_at 12 (starting 0 (codes "alpha")) ∷ line_at 13 (starting 1 (codes "beta")) ∷ []

-- so many lines from a place on, after a state
abbrev pub drawn_lines : ℕ → ℕ → ℕ → List Line
drawn_lines zero place state = []
drawn_lines (suc left) place state =
    line_at (13 + place) (generated_act place (drawn (next_state state))) ∷ drawn_lines left (place + 1) (next_state state)

-- the lines of a generated script
abbrev pub generated_lines : ℕ → ℕ → List Line
generated_lines count seed = first_lines ++ drawn_lines count 1 seed ++ line_at (14 + count) act.Settle ∷ []

-- the script of so many generated lines from a seed
abbrev pub generated_script : ℕ → ℕ → Script
generated_script count seed = record { header = generated_header; lines = generated_lines count seed }
