-- Generated scripts are well-formed.
use Rattle.std.proofs.Common.{◌≡◌, ◌≢◌, ℕ, zero, suc, ◌+◌, ◌/◌, ◌%◌, ◌<◌, ◌≤◌, ◌^◌, ◌==◌, Bool, true, false, List, [], ◌∷◌, ◌++◌, length, nat_le, codes, decimal, if◌then◌else◌, refl, arith, lit<, lit≤}
use Rattle.std.specs.List.{AllByRecursion as ByRecursion}
use Rattle.std.proofs.lemmas.List.Elements.{All-from_recursion}
use Rattle.std.proofs.lemmas.List.{length-append}
use Rattle.ndc_event.specs.Name.{is_name}
use Rattle.ndc_command.specs.declared.command.Action.TheVariants as action
use Rattle.ndc_command.specs.declared.command.Command.TheVariants as command
use Rattle.ndc_domain.specs.Clusters.{cluster_no}
use Rattle.ndc_domain.specs.Flags.{where_AreMembers}
use Rattle.ndc_domain.specs.Members.{members_of, numbers, numbers_where}
use Rattle.ndc_domain.proofs.Faults.{built_is_sound}
use Rattle.ndc_script_types.specs.declared.script.Act.TheVariants as act
use Rattle.ndc_script_types.specs.declared.script.Line.{Line}
use Rattle.ndc_script_types.specs.Below.{clusters_below}
use Rattle.ndc_script.specs.Generate.{generated_header, next_state, drawn, drawn_cluster, drawn_domain, drawn_number, drawn_workflow, drawn_target, drawn_other, drawn_command, drawn_move, generated_act, line_at, registering, telling, starting, drawn_lines, generated_lines, generated_script}
use Rattle.ndc_script_types.specs.WellFormed.{IsWellFormedHeader, IsName, IsCluster, AreTwoClusters, IsWellFormedAction, IsWellFormedCommand, IsWellFormedAct, IsWellFormed}
use Rattle.ndc_script_types.specs.Print.{lines_within, header_lines, body_lines, script_lines}
use Rattle.ndc_script.proofs.Generated.{front-decimal}
use Rattle.ndc_script_types.proofs.Counts.{read_count, body_printed}
use Rattle.ndc_script.proofs.PrintedAreLines.{name-decimal}

header_fits : IsWellFormedHeader generated_header
header_fits = record {
  clusters = built_is_sound 10 generated_header.clusters.members generated_header.clusters refl;
  names = refl;
  shards_least = lit≤ tt;
  shards_most = lit≤ tt;
  limit_least = lit≤ tt;
  limit_most = lit≤ tt;
}

-- a number below 3 is a cluster
three : (n : ℕ) → n < 3 → IsCluster generated_header (cluster_no n)
three n l = l

other_differs : (one more : ℕ) → one < 3 → more < 2 → one ≢ (one + 1 + more) % 3
other_differs one more l m e = omega arith

two_fit : (draw : ℕ) → AreTwoClusters generated_header (drawn_cluster draw) (drawn_other draw)
two_fit draw =
    let one : draw / 10 % 3 < 3 = omega arith in
    let more : drawn_number draw % 2 < 2 = omega arith in
    let other : (draw / 10 % 3 + 1 + drawn_number draw % 2) % 3 < 3 = omega arith in
    record { first = one; second = other; differ = other_differs (draw / 10 % 3) (drawn_number draw % 2) one more }

domain_by : (b : Bool) → is_name (if b then codes "alpha" else codes "beta") ≡ true
domain_by true = refl
domain_by false = refl

domain_fits : (draw : ℕ) → IsName (drawn_domain draw)
unfolding drawn_domain
domain_fits draw = domain_by (draw / 30 % 2 == 0)

workflow_fits : (draw : ℕ) → IsName (drawn_workflow draw)
unfolding drawn_workflow
workflow_fits draw = front-decimal (codes "w") (drawn_number draw) refl (lit≤ tt) (omega arith)

command_by : (place : ℕ) (b c d : Bool) → place < 10 ^ 18 → IsWellFormedCommand (if b then command.Start (codes "order") else if c then command.Signal (codes "ping") (decimal place) else if d then command.Decide else command.Respond (action.Timer (codes "t" ++ decimal place) ∷ []))
command_by place true c d small = refl
command_by place false true d small = (refl, name-decimal place small)
command_by place false false true small = tt
command_by place false false false small = record {
  names = All-from_recursion IsWellFormedAction (action.Timer (codes "t" ++ decimal place) ∷ []) (front-decimal (codes "t") place refl (lit≤ tt) small, tt);
  last = refl;
}

move_by : (draw : ℕ) (b c d : Bool) → IsWellFormedAct generated_header (if b then act.Failover (drawn_cluster draw) (drawn_domain draw) (drawn_target draw) else if c then act.Domains (drawn_cluster draw) (drawn_other draw) else if d then act.Pull (drawn_cluster draw) (drawn_other draw) else act.Work (drawn_cluster draw))
move_by draw true c d = (three (draw / 10 % 3) (omega arith), domain_fits draw, three (drawn_number draw % 3) (omega arith))
move_by draw false true d = two_fit draw
move_by draw false false true = two_fit draw
move_by draw false false false = three (draw / 10 % 3) (omega arith)

act_by : (place draw : ℕ) (b : Bool) → place < 10 ^ 18 → IsWellFormedAct generated_header (if b then act.Command (drawn_cluster draw) (drawn_domain draw) (drawn_workflow draw) (drawn_command place (draw % 10)) else drawn_move draw (draw % 10))
act_by place draw true small = (
  record { known = three (draw / 10 % 3) (omega arith); domain_name = domain_fits draw; workflow_name = workflow_fits draw },
  command_by place (draw % 10 == 0) (nat_le (draw % 10) 3) (draw % 10 == 4) small,
)
act_by place draw false small = move_by draw (draw % 10 == 6) (draw % 10 == 7) (draw % 10 == 8)

act_fits : (place draw : ℕ) → place < 10 ^ 18 → IsWellFormedAct generated_header (generated_act place draw)
unfolding generated_act
act_fits place draw small = act_by place draw (nat_le (draw % 10) 5) small

members_three : members_of (clusters_below 3) ≡ 0 ∷ 1 ∷ 2 ∷ []
unfolding numbers_where numbers
members_three = refl

register_fits : (domain : List ℕ) (target : ℕ) → IsName domain → target < 3 → IsWellFormedAct generated_header (registering domain target)
register_fits domain target name below = record {
  at_below = three 0 (lit< tt);
  target_below = three target below;
  domain_name = name;
  days_fit = record { least = lit≤ tt; most = lit≤ tt };
  ascending = where_AreMembers _;
  some = rw members_three (lit< tt);
  members_below = rw members_three (All-from_recursion (λ (m : ℕ). m < 3) (0 ∷ 1 ∷ 2 ∷ []) (lit< tt, (lit< tt, (lit< tt, tt))));
}

telling_fits : (to : ℕ) → 0 < to → to < 3 → IsWellFormedAct generated_header (telling to)
telling_fits to least below = record { first = three to below; second = three 0 (lit< tt); differ = λ e. omega (arith, e, least) }

starting_fits : (cluster : ℕ) (domain : List ℕ) → IsName domain → cluster < 3 → IsWellFormedAct generated_header (starting cluster domain)
starting_fits cluster domain name below = (record { known = three cluster below; domain_name = name; workflow_name = refl }, refl)

-- the drawn lines, and `settle` after them
drawn_fit : (left place number state : ℕ) → place + left < 10 ^ 18 → ByRecursion (λ line. IsWellFormedAct generated_header line.act) (drawn_lines left place state ++ line_at number act.Settle ∷ [])
drawn_fit zero place number state small = (tt, tt)
drawn_fit (suc left) place number state small =
    let here : place < 10 ^ 18 = omega (arith, small) in
    let later : place + 1 + left < 10 ^ 18 = omega (arith, small) in
    (act_fits place (drawn (next_state state)) here, drawn_fit left (place + 1) number (next_state state) later)

lines_fit : (count seed : ℕ) → count ≤ 99000 → ByRecursion (λ line. IsWellFormedAct generated_header line.act) (generated_lines count seed)
lines_fit count seed most = (
  register_fits (codes "alpha") 0 refl (lit< tt),
  (
    register_fits (codes "beta") 1 refl (lit< tt),
    (
      telling_fits 1 (lit< tt) (lit< tt),
      (
        telling_fits 2 (lit< tt) (lit< tt),
        (
          starting_fits 0 (codes "alpha") refl (lit< tt),
          (
            starting_fits 1 (codes "beta") refl (lit< tt),
            drawn_fit count 1 (14 + count) seed (omega (arith, most)),
          ),
        ),
      ),
    ),
  ),
)

single_by : (draw : ℕ) (b c d : Bool) → lines_within (if b then act.Failover (drawn_cluster draw) (drawn_domain draw) (drawn_target draw) else if c then act.Domains (drawn_cluster draw) (drawn_other draw) else if d then act.Pull (drawn_cluster draw) (drawn_other draw) else act.Work (drawn_cluster draw)) ≡ 0
single_by draw true c d = refl
single_by draw false true d = refl
single_by draw false false true = refl
single_by draw false false false = refl

single_act : (place draw : ℕ) (b : Bool) → lines_within (if b then act.Command (drawn_cluster draw) (drawn_domain draw) (drawn_workflow draw) (drawn_command place (draw % 10)) else drawn_move draw (draw % 10)) ≡ 0
single_act place draw true = refl
single_act place draw false = single_by draw (draw % 10 == 6) (draw % 10 == 7) (draw % 10 == 8)

-- a drawn line is printed as one line
single : (place draw : ℕ) → lines_within (generated_act place draw) ≡ 0
unfolding generated_act
single place draw = single_act place draw (nat_le (draw % 10) 5)

drawn_count : (left place number state : ℕ) → read_count (drawn_lines left place state ++ line_at number act.Settle ∷ []) ≡ left + 1
unfolding read_count
drawn_count zero place number state = refl
drawn_count (suc left) place number state =
    omega (arith, single place (drawn (next_state state)), drawn_count left (place + 1) number (next_state state))

all_count : (count seed : ℕ) → read_count (generated_lines count seed) ≡ count + 7
unfolding read_count
all_count count seed = omega (arith, drawn_count count 1 (14 + count) seed)

short_fits : (count seed : ℕ) → count ≤ 99000 → length (script_lines (generated_script count seed)) ≤ 100000
short_fits count seed most =
    omega (arith, all_count count seed, body_printed generated_header (generated_lines count seed), length-append (header_lines generated_header) (body_lines generated_header (generated_lines count seed)), most)

-- a generated script is well-formed
pub generated_fits : (count seed : ℕ) → count ≤ 99000 → IsWellFormed (generated_script count seed)
generated_fits count seed most = record {
  header = header_fits;
  lines = All-from_recursion (λ (line : Line). IsWellFormedAct generated_header line.act) (generated_lines count seed) (lines_fit count seed most);
  short = short_fits count seed most;
}
