-- Printed lines are lines: their words are names, and the first begins no comment.
use Rattle.std.proofs.Common.{◌≡◌, ℕ, suc, zero, ◌<◌, ◌≤◌, ◌^◌, Bool, true, false, List, [], ◌∷◌, ◌++◌, length, map, flat_map, get_or, nat_le, codes, decimal, refl, ◌∙◌, arith, lit<, if◌then◌else◌}
use Rattle.std.specs.List.{list_all, AllByRecursion as ByRecursion}
use Rattle.std.specs.Str.{bytes_eq}
use Rattle.std.proofs.lemmas.Bool.{le-leb, leb-true, and_parts, and_from}
use Rattle.std.proofs.lemmas.Fmt.{decimal_nonempty, length-decimal-le}
use Rattle.std.proofs.lemmas.List.Elements.{recursion_from_All}
use Rattle.std.proofs.lemmas.List.Folds.{list_all-append}
use Rattle.ndc_event.specs.Name.{is_name, is_name_byte}
use Rattle.ndc_command.specs.declared.command.Action.{Action}
use Rattle.ndc_command.specs.declared.command.Action.TheVariants as action
use Rattle.ndc_command.specs.declared.command.Command.{Command}
use Rattle.ndc_command.specs.declared.command.Command.TheVariants as command
use Rattle.ndc_domain.specs.Clusters.{count_of, name_of}
use Rattle.ndc_domain.specs.Members.{members_of}
use Rattle.ndc_domain.specs.declared.clusters.ClusterNo.{ClusterNo}
use Rattle.ndc_script_types.specs.declared.script.Act.{Act}
use Rattle.ndc_script_types.specs.declared.script.Act.TheVariants as act
use Rattle.ndc_script_types.specs.declared.script.BurstJob.{BurstJob}
use Rattle.ndc_script_types.specs.declared.script.Header.{Header}
use Rattle.ndc_script_types.specs.declared.script.Line.{Line}
use Rattle.ndc_script_words.specs.Number.{is_digit}
use Rattle.ndc_script_types.specs.Below.{clusters_below}
use Rattle.ndc_script_types.specs.WellFormed.{IsWellFormedHeader, IsName, IsCluster, IsWellFormedAction, IsWellFormedCommand, IsWellFormedJob, IsWellFormedAct}
use Rattle.ndc_script_types.specs.Print.{cluster_line_of, header_lines, action_words, command_words, job_words, member_name, act_words, lines_behind, act_lines, body_lines}
use Rattle.ndc_script.proofs.PrintedLines.{is_line, AreLines}
use Rattle.ndc_script.proofs.PrintedNumbers.{digits-decimal}

-- the names of the clusters are names
abbrev pub AreNamed : Header → Type 0
AreNamed header = list_all (λ member. is_name member.0) header.clusters.members ≡ true

pub digits_are_names : (ds : List ℕ) → list_all is_digit ds ≡ true → list_all is_name_byte ds ≡ true
digits_are_names [] h = refl
digits_are_names (d ∷ ds) h =
    let p : (is_digit d ≡ true) × (list_all is_digit ds ≡ true) = and_parts (is_digit d) (list_all is_digit ds) h in
    let q : (nat_le 48 d ≡ true) × (nat_le d 57 ≡ true) = and_parts (nat_le 48 d) (nat_le d 57) p.0 in
    let low : 33 ≤ d = omega (arith, leb-true 48 d q.0) in
    let high : d ≤ 126 = omega (arith, leb-true d 57 q.1) in
    and_from (is_name_byte d) (list_all is_name_byte ds) (and_from (nat_le 33 d) (nat_le d 126) (le-leb 33 d low) (le-leb d 126 high)) (digits_are_names ds p.1)

-- a number is printed as a name
pub name-decimal : (n : ℕ) → n < 10 ^ 18 → is_name (decimal n) ≡ true
name-decimal n h =
    let small : n < 2 ^ 64 = omega (arith, h) in
    let some : 1 ≤ length (decimal n) = decimal_nonempty n small in
    let few : length (decimal n) ≤ 200 = omega (arith, length-decimal-le 18 n (lit< tt) h small) in
    and_from _ _ (and_from _ _ (le-leb 1 (length (decimal n)) some) (le-leb (length (decimal n)) 200 few)) (digits_are_names (decimal n) (digits-decimal n small))

name_at : (members : List (List ℕ × ℕ)) (i : ℕ) → list_all (λ member. is_name member.0) members ≡ true → i < length members → is_name ((get_or members i ([], 0)).0) ≡ true
name_at [] i names below = absurd (omega (arith, below))
name_at (member ∷ members) zero names below = (and_parts (is_name member.0) (list_all (λ m. is_name m.0) members) names).0
name_at (member ∷ members) (suc i) names below = name_at members i ((and_parts (is_name member.0) (list_all (λ m. is_name m.0) members) names).1) (omega (arith, below))

names_of_members : (header : Header) (ms : List ℕ) → list_all (λ member. is_name member.0) header.clusters.members ≡ true → ByRecursion (λ m. m < count_of header.clusters) ms → list_all is_name (map (member_name header) ms) ≡ true
names_of_members header [] names all = refl
names_of_members header (m ∷ ms) names all = rw (name_at header.clusters.members m names all.0) (names_of_members header ms names all.1)

words_are_names : (header : Header) (ms : List ℕ) (b : Bool) → list_all (λ member. is_name member.0) header.clusters.members ≡ true → ByRecursion (λ m. m < count_of header.clusters) ms → list_all is_name (if b then [] else map (member_name header) ms) ≡ true
words_are_names header ms true names all = refl
words_are_names header ms false names all = names_of_members header ms names all

cluster_name : (header : Header) (cluster : ClusterNo) → AreNamed header → IsCluster header cluster → is_name (name_of header.clusters cluster) ≡ true
cluster_name header cluster names below = name_at header.clusters.members cluster.number names below

small-decimal : (n : ℕ) → n ≤ 1000000 → is_name (decimal n) ≡ true
small-decimal n few = name-decimal n (omega (arith, few))

action-names : (one : Action) → IsWellFormedAction one → list_all is_name (action_words one) ≡ true
action-names (action.Activity id activity_type) fit = rw (fit.0, fit.1) refl
action-names (action.Timer id) fit = rw (fit) refl
action-names (action.Untimer id) fit = rw (fit) refl
action-names (action.Child id workflow_type) fit = rw (fit.0, fit.1) refl
action-names (action.Marker name) fit = rw (fit) refl
action-names (action.Complete result) fit = rw (fit) refl
action-names (action.Fail reason) fit = rw (fit) refl
action-names action.Canceled fit = refl
action-names (action.Continue workflow_type) fit = rw (fit) refl

actions-names : (actions : List Action) → ByRecursion IsWellFormedAction actions → list_all is_name (flat_map action_words actions) ≡ true
actions-names [] fit = refl
actions-names (one ∷ actions) fit =
    list_all-append is_name (action_words one) (flat_map action_words actions) ∙ and_from _ _ (action-names one fit.0) (actions-names actions fit.1)

-- a printed command line is a line
command-line : (cluster domain workflow : List ℕ) (asked : Command) → IsName cluster → IsName domain → IsName workflow → IsWellFormedCommand asked → is_line (command_words cluster domain workflow asked) ≡ true
command-line cluster domain workflow (command.Start workflow_type) c d w fit = rw (c, d, w, fit) refl
command-line cluster domain workflow (command.Signal name input) c d w fit = rw (c, d, w, fit.0, fit.1) refl
command-line cluster domain workflow command.Cancel c d w fit = rw (c, d, w) refl
command-line cluster domain workflow (command.Terminate reason) c d w fit = rw (c, d, w, fit) refl
command-line cluster domain workflow command.Decide c d w fit = rw (c, d, w) refl
command-line cluster domain workflow (command.FailDecision cause) c d w fit = rw (c, d, w, fit) refl
command-line cluster domain workflow command.TimeoutDecision c d w fit = rw (c, d, w) refl
command-line cluster domain workflow (command.ActivityStart id) c d w fit = rw (c, d, w, fit) refl
command-line cluster domain workflow (command.ActivityDone id result) c d w fit = rw (c, d, w, fit.0, fit.1) refl
command-line cluster domain workflow (command.ActivityFail id reason) c d w fit = rw (c, d, w, fit.0, fit.1) refl
command-line cluster domain workflow (command.ActivityTimeout id) c d w fit = rw (c, d, w, fit) refl
command-line cluster domain workflow (command.Fire id) c d w fit = rw (c, d, w, fit) refl
command-line cluster domain workflow (command.ChildStart id) c d w fit = rw (c, d, w, fit) refl
command-line cluster domain workflow (command.ChildDone id result) c d w fit = rw (c, d, w, fit.0, fit.1) refl
command-line cluster domain workflow (command.ChildFail id reason) c d w fit = rw (c, d, w, fit.0, fit.1) refl
command-line cluster domain workflow (command.Respond actions) c d w fit = rw (c, d, w) (actions-names actions (recursion_from_All IsWellFormedAction actions fit.names))

jobs-lines : (name : List ℕ) (jobs : List BurstJob) → IsName name → ByRecursion IsWellFormedJob jobs → AreLines (map (job_words name) jobs ++ (codes "end" ∷ []) ∷ [])
jobs-lines name [] n fit = refl
jobs-lines name (job ∷ jobs) n fit =
    and_from _ _ (command-line name job.domain job.workflow job.command n fit.0.domain fit.0.workflow fit.0.command) (jobs-lines name jobs n fit.1)

-- a printed line is one
act-line : (header : Header) (asked : Act) → AreNamed header → IsWellFormedHeader header → IsWellFormedAct header asked → is_line (act_words header asked) ≡ true
act-line header (act.Command cluster domain workflow command) names sound fit =
    command-line (name_of header.clusters cluster) domain workflow command (cluster_name header cluster names fit.0.known) fit.0.domain_name fit.0.workflow_name fit.1
act-line header (act.Burst cluster jobs) names sound fit = rw (cluster_name header cluster names fit.0) refl
act-line header (act.Register at domain target days members) names sound fit =
    let below : ByRecursion (λ m. m < count_of header.clusters) members = recursion_from_All (λ (m : ℕ). m < count_of header.clusters) members fit.members_below in
    rw (cluster_name header at names fit.at_below, fit.domain_name, cluster_name header target names fit.target_below, small-decimal days (omega (arith, fit.days_fit.most)))
    (words_are_names header members (bytes_eq members (members_of (clusters_below (count_of header.clusters)))) names below)
act-line header (act.Retain at domain days) names sound fit = rw (cluster_name header at names fit.0, fit.1, small-decimal days (omega (arith, fit.2.most))) refl
act-line header (act.Join at domain member) names sound fit = rw (cluster_name header at names fit.0, fit.1, cluster_name header member names fit.2) refl
act-line header (act.Failover at domain target) names sound fit = rw (cluster_name header at names fit.0, fit.1, cluster_name header target names fit.2) refl
act-line header (act.Domains to from) names sound fit = rw (cluster_name header to names fit.first, cluster_name header from names fit.second) refl
act-line header (act.Domain at domain) names sound fit = rw (cluster_name header at names fit.0, fit.1) refl
act-line header (act.MembersOf at domain) names sound fit = rw (cluster_name header at names fit.0, fit.1) refl
act-line header (act.Pull reader source) names sound fit = rw (cluster_name header reader names fit.first, cluster_name header source names fit.second) refl
act-line header (act.PullSome reader source shard count) names sound fit = rw (cluster_name header reader names fit.0.first, cluster_name header source names fit.0.second, name-decimal shard (omega (arith, fit.1, sound.shards_most)), small-decimal count fit.2) refl
act-line header (act.Lose reader source shard place) names sound fit = rw (cluster_name header reader names fit.0.first, cluster_name header source names fit.0.second, name-decimal shard (omega (arith, fit.1, sound.shards_most)), small-decimal place fit.2) refl
act-line header (act.Repeat reader source shard place) names sound fit = rw (cluster_name header reader names fit.0.first, cluster_name header source names fit.0.second, name-decimal shard (omega (arith, fit.1, sound.shards_most)), small-decimal place fit.2) refl
act-line header (act.Move reader source shard place to) names sound fit = rw (cluster_name header reader names fit.0.first, cluster_name header source names fit.0.second, name-decimal shard (omega (arith, fit.1, sound.shards_most)), small-decimal place fit.2, small-decimal to fit.3) refl
act-line header (act.Work cluster) names sound fit = rw (cluster_name header cluster names fit) refl
act-line header (act.Rewind reader source) names sound fit = rw (cluster_name header reader names fit.first, cluster_name header source names fit.second) refl
act-line header (act.Trim source) names sound fit = rw (cluster_name header source names fit) refl
act-line header (act.LevelsOf reader source shard) names sound fit = rw (cluster_name header reader names fit.0.first, cluster_name header source names fit.0.second, name-decimal shard (omega (arith, fit.1, sound.shards_most))) refl
act-line header (act.Gaps cluster) names sound fit = rw (cluster_name header cluster names fit) refl
act-line header (act.Resend cluster) names sound fit = rw (cluster_name header cluster names fit) refl
act-line header (act.Bootstrap reader source) names sound fit = rw (cluster_name header reader names fit.first, cluster_name header source names fit.second) refl
act-line header act.Settle names sound fit = refl
act-line header (act.History cluster domain workflow) names sound fit = rw (cluster_name header cluster names fit.known, fit.domain_name, fit.workflow_name) refl
act-line header (act.Branches cluster domain workflow) names sound fit = rw (cluster_name header cluster names fit.known, fit.domain_name, fit.workflow_name) refl
act-line header (act.Current cluster domain workflow) names sound fit = rw (cluster_name header cluster names fit.known, fit.domain_name, fit.workflow_name) refl
act-line header (act.StateOf cluster domain workflow) names sound fit = rw (cluster_name header cluster names fit.known, fit.domain_name, fit.workflow_name) refl
act-line header (act.Dump cluster domain workflow) names sound fit = rw (cluster_name header cluster names fit.known, fit.domain_name, fit.workflow_name) refl
act-line header (act.Compare one two domain workflow) names sound fit = rw (cluster_name header one names fit.0.known, cluster_name header two names fit.1, fit.0.domain_name, fit.0.workflow_name) refl
act-line header (act.Handover at domain target) names sound fit = rw (cluster_name header at names fit.0.first, fit.1, cluster_name header target names fit.0.second) refl
act-line header (act.Complete at domain) names sound fit = rw (cluster_name header at names fit.0, fit.1) refl
act-line header (act.Reset cluster domain workflow event) names sound fit = rw (cluster_name header cluster names fit.0.known, fit.0.domain_name, fit.0.workflow_name, small-decimal event fit.2) refl
act-line header (act.Damage reader source shard place cut) names sound fit = rw (cluster_name header reader names fit.0.first, cluster_name header source names fit.0.second, name-decimal shard (omega (arith, fit.1, sound.shards_most)), small-decimal place fit.2, small-decimal cut fit.3) refl
act-line header (act.LettersOf reader) names sound fit = rw (cluster_name header reader names fit) refl
act-line header (act.Purge reader) names sound fit = rw (cluster_name header reader names fit) refl
act-line header (act.MergeLetters reader) names sound fit = rw (cluster_name header reader names fit) refl
act-line header (act.Beat cluster domain workflow id details) names sound fit = rw (cluster_name header cluster names fit.0.known, fit.0.domain_name, fit.0.workflow_name, fit.1, fit.2) refl
act-line header (act.Sync to from) names sound fit = rw (cluster_name header to names fit.first, cluster_name header from names fit.second) refl
act-line header (act.ProgressOf cluster domain workflow id) names sound fit = rw (cluster_name header cluster names fit.0.known, fit.0.domain_name, fit.0.workflow_name, fit.1) refl

behind-lines : (header : Header) (asked : Act) → AreNamed header → IsWellFormedAct header asked → AreLines (lines_behind header asked)
behind-lines header (act.Burst cluster jobs) names fit = jobs-lines (name_of header.clusters cluster) jobs (cluster_name header cluster names fit.0) (recursion_from_All IsWellFormedJob jobs fit.1)
behind-lines header (act.Command _ _ _ _) names fit = refl
behind-lines header (act.Register _ _ _ _ _) names fit = refl
behind-lines header (act.Retain _ _ _) names fit = refl
behind-lines header (act.Join _ _ _) names fit = refl
behind-lines header (act.Failover _ _ _) names fit = refl
behind-lines header (act.Domains _ _) names fit = refl
behind-lines header (act.Domain _ _) names fit = refl
behind-lines header (act.MembersOf _ _) names fit = refl
behind-lines header (act.Pull _ _) names fit = refl
behind-lines header (act.PullSome _ _ _ _) names fit = refl
behind-lines header (act.Lose _ _ _ _) names fit = refl
behind-lines header (act.Repeat _ _ _ _) names fit = refl
behind-lines header (act.Move _ _ _ _ _) names fit = refl
behind-lines header (act.Work _) names fit = refl
behind-lines header (act.Rewind _ _) names fit = refl
behind-lines header (act.Trim _) names fit = refl
behind-lines header (act.LevelsOf _ _ _) names fit = refl
behind-lines header (act.Gaps _) names fit = refl
behind-lines header (act.Resend _) names fit = refl
behind-lines header (act.Bootstrap _ _) names fit = refl
behind-lines header act.Settle names fit = refl
behind-lines header (act.History _ _ _) names fit = refl
behind-lines header (act.Branches _ _ _) names fit = refl
behind-lines header (act.Current _ _ _) names fit = refl
behind-lines header (act.StateOf _ _ _) names fit = refl
behind-lines header (act.Dump _ _ _) names fit = refl
behind-lines header (act.Compare _ _ _ _) names fit = refl
behind-lines header (act.Handover _ _ _) names fit = refl
behind-lines header (act.Complete _ _) names fit = refl
behind-lines header (act.Reset _ _ _ _) names fit = refl
behind-lines header (act.Damage _ _ _ _ _) names fit = refl
behind-lines header (act.LettersOf _) names fit = refl
behind-lines header (act.Purge _) names fit = refl
behind-lines header (act.MergeLetters _) names fit = refl
behind-lines header (act.Beat _ _ _ _ _) names fit = refl
behind-lines header (act.Sync _ _) names fit = refl
behind-lines header (act.ProgressOf _ _ _ _) names fit = refl

-- the lines of a printed body are lines
pub body-lines : (header : Header) (lines : List Line) → AreNamed header → IsWellFormedHeader header → ByRecursion (λ line. IsWellFormedAct header line.act) lines → AreLines (body_lines header lines)
body-lines header [] names sound fit = refl
body-lines header (line ∷ lines) names sound fit =
    list_all-append is_line (act_lines header line.act) (body_lines header lines)
    ∙ and_from _ _ (and_from _ _ (act-line header line.act names sound fit.0) (behind-lines header line.act names fit.0)) (body-lines header lines names sound fit.1)

cluster-lines : (n : ℕ) (members : List (List ℕ × ℕ)) → n ≤ 10 ^ 12 → list_all (λ member. is_name member.0) members ≡ true → ((i : ℕ) → i < length members → (get_or members i ([], 0)).1 < n) → AreLines (map cluster_line_of members)
cluster-lines n [] most names below = refl
cluster-lines n (member ∷ members) most names below =
    let p : (is_name member.0 ≡ true) × (list_all (λ m. is_name m.0) members ≡ true) = and_parts (is_name member.0) (list_all (λ m. is_name m.0) members) names in
    let first : member.1 < n = below 0 (omega arith) in
    rw (p.0, name-decimal member.1 (omega (arith, first, most))) (cluster-lines n members most p.1 (λ i l. below (suc i) (omega (arith, l))))

-- the lines of a printed header are lines
pub header-lines : (header : Header) → IsWellFormedHeader header → AreNamed header → AreLines (header_lines header)
header-lines header sound names =
    rw (
      name-decimal 1 (lit< tt),
      name-decimal header.clusters.increment (omega (arith, sound.clusters.increment_most)),
      name-decimal header.shards (omega (arith, sound.shards_most)),
      name-decimal header.limit (omega (arith, sound.limit_most)),
    )
    (cluster-lines header.clusters.increment header.clusters.members sound.clusters.increment_most names sound.clusters.initials_below)
