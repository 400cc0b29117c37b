-- In a generated script each record names all clusters.
use Rattle.std.proofs.Common.{◌≡◌, ℕ, zero, suc, ◌+◌, ◌<◌, ◌≤◌, ◌%◌, ◌==◌, Bool, true, false, List, [], ◌∷◌, ◌++◌, Some, length, slice_index_or, nat_le, if◌then◌else◌, append-nil, append_assoc, refl, sym, ◌∙◌, subst, ap, arith}
use Rattle.std.specs.List.{AllByRecursion, list_any}
use Rattle.std.proofs.lemmas.List.{length-append}
use Rattle.std.proofs.lemmas.List.Concat.{flat_map-append}
use Rattle.std.proofs.lemmas.Option.{none-some}
use Rattle.ndc_script_types.specs.WellFormed.{IsWellFormed, IsWellFormedAct}
use Rattle.ndc_script_types.specs.declared.script.Act.{Act}
use Rattle.ndc_script_types.specs.declared.script.Act.TheVariants as act
use Rattle.ndc_script_types.specs.declared.script.Header.{Header}
use Rattle.ndc_script_types.specs.declared.script.Line.{Line}
use Rattle.ndc_script_types.specs.Below.{clusters_below}
use Rattle.ndc_domain.specs.Clusters.{count_of}
use Rattle.ndc_domain.specs.Flags.{has-where}
use Rattle.ndc_domain.specs.Members.{has_member, members_of}
use Rattle.ndc_domain.specs.Records.{record_of}
use Rattle.ndc_domain.specs.declared.clusters.ClusterNo.{ClusterNo}
use Rattle.ndc_domain.specs.declared.record.DomainRecord.{DomainRecord}
use Rattle.ndc_laws_program.specs.Shared.{SharesAll}
use Rattle.ndc_laws_program.specs.Summed.{SumsUp}
use Rattle.ndc_laws_program.proofs.KeepLemmas.{domains-share, failover-shares, register-shares, stay-shares}
use Rattle.ndc_laws_program.proofs.SameLemmas.{clusters-same}
use Rattle.ndc_laws_program.proofs.SettleLemmas.{settle-shares}
use Rattle.ndc_laws_program.proofs.SummedLemmas.{sums-up}
use Rattle.ndc_laws.proofs.StayLemmas.{command-stay, pull-stay, work-stay}
use Rattle.ndc_laws.specs.Promised.{RunsReached, world_before}
use Rattle.ndc_laws.proofs.LinesBefore.{runs-reached}
use Rattle.ndc_laws_reached.proofs.ReachedLemmas.{line_reached}
use Rattle.ndc_laws.proofs.SettlementLemmas.{settle-line}
use Rattle.ndc_model.specs.Facts.{IsReached}
use Rattle.ndc_model.specs.Laws.{script_of}
use Rattle.ndc_model.specs.Lines.{act_step, lines_of_act, plain_lines, ran_from, ran_of, world_behind}
use Rattle.ndc_model.specs.World.{World, new_cluster, opening_world}
use Rattle.ndc_model.proofs.ListLemmas.{all-append}
use Rattle.ndc_model.proofs.ScriptLemmas.{world_in_parts}
use Rattle.ndc_script.proofs.GeneratedFits.{generated_fits}
use Rattle.ndc_world_queries.specs.Summaries.{totals_of}
use Rattle.ndc_script.specs.Generate.{drawn, drawn_cluster, drawn_command, drawn_domain, drawn_lines, drawn_move, drawn_other, drawn_target, drawn_workflow, first_lines, generated_act, generated_header, generated_lines, generated_script, line_at, next_state}

-- lines after which each record names all clusters, where it did before
abbrev pub IsSharing : Header → Act → Type 0
IsSharing header (act.Command cluster domain workflow command) = Unit {0}
IsSharing header (act.Register at domain target days members) = (number : ℕ) → number < count_of header.clusters → has_member members number ≡ true
IsSharing header (act.Failover at domain target) = Unit {0}
IsSharing header (act.Domains to from) = Unit {0}
IsSharing header (act.Pull reader source) = Unit {0}
IsSharing header (act.Work cluster) = Unit {0}
IsSharing header act.Settle = Unit {0}
IsSharing header other = ⊥

-- each such line keeps it
act-shares : (header : Header) (lines number : ℕ) (asked : Act) (w : World) → IsWellFormedAct header asked → IsReached header lines w → IsSharing header asked → SharesAll header w
    → SharesAll header (world_behind w (ran_from header w (lines_of_act number asked)))
unfolding act_step
act-shares header lines number (act.Command cluster domain workflow command) w fit is it shares =
    stay-shares header w (act_step header (act.Command cluster domain workflow command) w).world (command-stay header cluster domain workflow command w) shares
act-shares header lines number (act.Register at domain target days members) w fit is it shares = register-shares header w is.fair.records.tables shares at target domain days members it
act-shares header lines number (act.Failover at domain target) w fit is it shares = failover-shares header w is.fair.records.tables shares at target domain
act-shares header lines number (act.Domains to from) w fit is it shares = domains-share header w is.fair.records.tables shares to from fit.first fit.second
act-shares header lines number (act.Pull reader source) w fit is it shares = stay-shares header w (act_step header (act.Pull reader source) w).world (pull-stay reader source w) shares
act-shares header lines number (act.Work cluster) w fit is it shares = stay-shares header w (act_step header (act.Work cluster) w).world (work-stay header cluster w) shares
act-shares header lines number act.Settle w fit is it shares = settle-shares header w is.fair.records.tables shares
act-shares header lines number other w fit is it shares = absurd it

-- the world after a line of a script is that which it leads to from the world before it
before-next : (header : Header) (front : List Line) (line : Line)
    → world_before header (front ++ line ∷ []) ≡ world_behind (world_before header front) (ran_from header (world_before header front) (lines_of_act line.number line.act))
before-next header front line =
    ap (λ (list : List Line). world_behind (opening_world header) (ran_from header (opening_world header) list)) (flat_map-append (λ (line : Line). lines_of_act line.number line.act) front (line ∷ []))
    ∙ world_in_parts header (opening_world header) (plain_lines front) (lines_of_act line.number line.act ++ [])
    ∙ ap (λ (list : List Line). world_behind (world_before header front) (ran_from header (world_before header front) list)) (append-nil (lines_of_act line.number line.act))

-- in a script of such lines each record names all clusters
script-shares : (header : Header) (back front : List Line) → IsWellFormed (script_of header (front ++ back)) → AllByRecursion (λ line. IsSharing header line.act) back → SharesAll header (world_before header front)
    → SharesAll header (world_before header (front ++ back))
script-shares header [] front is all shares = subst (λ (list : List Line). SharesAll header (world_before header list)) (sym (append-nil front)) shares
script-shares header (line ∷ back) front is all shares =
    subst (λ (list : List Line). SharesAll header (world_before header list)) behind
    (script-shares header back (front ++ line ∷ []) (subst (λ (list : List Line). IsWellFormed (script_of header list)) (sym behind) is) all.1 next)
  where
    behind : (front ++ line ∷ []) ++ back ≡ front ++ line ∷ back
    behind = append_assoc front (line ∷ []) back

    runs : RunsReached header front line.act
    runs = runs-reached header front back line is

    next : SharesAll header (world_before header (front ++ line ∷ []))
    next = subst (SharesAll header) (sym (before-next header front line)) (act-shares header runs.lines line.number line.act (world_before header front) runs.fit runs.reached all.0 shares)

-- made lines are such lines
move-by : (draw : ℕ) (b c d : Bool)
    → IsSharing generated_header (if b then act.Failover (drawn_cluster draw) (drawn_domain draw) (drawn_target draw) else if c then act.Domains (drawn_cluster draw) (drawn_other draw) else if d then act.Pull (drawn_cluster draw) (drawn_other draw) else act.Work (drawn_cluster draw))
move-by draw true c d = tt
move-by draw false true d = tt
move-by draw false false true = tt
move-by draw false false false = tt

act-by : (place draw : ℕ) (b : Bool) → IsSharing generated_header (if b then act.Command (drawn_cluster draw) (drawn_domain draw) (drawn_workflow draw) (drawn_command place (draw % 10)) else drawn_move draw (draw % 10))
act-by place draw true = tt
act-by place draw false = move-by draw (draw % 10 == 6) (draw % 10 == 7) (draw % 10 == 8)

made : (place draw : ℕ) → IsSharing generated_header (generated_act place draw)
unfolding generated_act
made place draw = act-by place draw (nat_le (draw % 10) 5)

drawn-all : (left place state : ℕ) → AllByRecursion (λ line. IsSharing generated_header line.act) (drawn_lines left place state)
drawn-all zero place state = tt
drawn-all (suc left) place state = (made place (drawn (next_state state)), drawn-all left (place + 1) (next_state state))

-- the domains are registered with all clusters
one-of-three : (number : ℕ) → number < 3 → list_any (λ (cluster : ClusterNo). cluster.number == number) (clusters_below 3) ≡ true
one-of-three zero below = refl
one-of-three (suc zero) below = refl
one-of-three (suc (suc zero)) below = refl
one-of-three (suc (suc (suc number))) below = absurd (omega (arith, below))

all-three : (number : ℕ) → number < 3 → has_member (members_of (clusters_below 3)) number ≡ true
all-three number below = has-where (λ n. list_any (λ (cluster : ClusterNo). cluster.number == n) (clusters_below 3)) number (omega (arith, below)) ∙ one-of-three number below

-- in the beginning there is no record
no-table : (number : ℕ) → (slice_index_or (opening_world generated_header).clusters number (new_cluster 0)).table ≡ []
no-table zero = refl
no-table (suc zero) = refl
no-table (suc (suc zero)) = refl
no-table (suc (suc (suc number))) = refl

opening-shares : SharesAll generated_header (opening_world generated_header)
opening-shares cluster domain one found = absurd (none-some one (subst (λ (table : List DomainRecord). record_of table domain ≡ Some one) (no-table cluster.number) found))

all-sharing : (count seed : ℕ) → AllByRecursion (λ line. IsSharing generated_header line.act) (generated_lines count seed)
all-sharing count seed =
    all-append Sharing (first_lines ++ drawn_lines count 1 seed) (line_at (14 + count) act.Settle ∷ [])
    (all-append Sharing first_lines (drawn_lines count 1 seed) (all-three, (all-three, (tt, (tt, (tt, (tt, tt)))))) (drawn-all count 1 seed)) (tt, tt)
  where
    Sharing : Line → Type 0
    Sharing line = IsSharing generated_header line.act

-- such a line is not a burst: it is answered once
plain-one : (header : Header) (number : ℕ) (asked : Act) → IsSharing header asked → length (lines_of_act number asked) ≡ 1
plain-one header number (act.Command cluster domain workflow command) it = refl
plain-one header number (act.Register at domain target days members) it = refl
plain-one header number (act.Failover at domain target) it = refl
plain-one header number (act.Domains to from) it = refl
plain-one header number (act.Pull reader source) it = refl
plain-one header number (act.Work cluster) it = refl
plain-one header number act.Settle it = refl
plain-one header number other it = absurd it

plain-count : (header : Header) (lines : List Line) → AllByRecursion (λ line. IsSharing header line.act) lines → length (plain_lines lines) ≡ length lines
plain-count header [] all = refl
plain-count header (line ∷ lines) all =
    omega (arith, length-append (lines_of_act line.number line.act) (plain_lines lines), plain-one header line.number line.act all.0, plain-count header lines all.1)

-- each line that runs is answered
ran-count : (header : Header) (w : World) (lines : List Line) → length (ran_from header w lines) ≡ length lines
ran-count header w [] = refl
ran-count header w (line ∷ lines) = ap suc (ran-count header (act_step header line.act w).world lines)

drawn-count : (left place state : ℕ) → length (drawn_lines left place state) ≡ left
drawn-count zero place state = refl
drawn-count (suc left) place state = ap suc (drawn-count left (place + 1) (next_state state))

-- a made script has an answer for each line that was asked for, and seven more: for the two domains, for telling the others of them, for a
-- workflow in each, and for the settlement
pub generated-answers : (count seed : ℕ) → length (ran_of (generated_script count seed)) ≡ count + 7
generated-answers count seed =
    omega (
      arith,
      ran-count generated_header (opening_world generated_header) (plain_lines (generated_lines count seed)),
      plain-count generated_header (generated_lines count seed) (all-sharing count seed),
      length-append (first_lines ++ drawn_lines count 1 seed) (line_at (14 + count) act.Settle ∷ []),
      length-append first_lines (drawn_lines count 1 seed),
      drawn-count count 1 seed,
    )

-- the world after so many made lines
module _ (count seed : ℕ) (most : count ≤ 99000) where
  abbrev front : List Line
  front = first_lines ++ drawn_lines count 1 seed

  abbrev before : World
  before = world_before generated_header front

  is : IsWellFormed (script_of generated_header (generated_lines count seed))
  is = generated_fits count seed most

  runs : RunsReached generated_header front act.Settle
  runs = runs-reached generated_header front [] (line_at (14 + count) act.Settle) is

  abbrev last : World
  last = (act_step generated_header act.Settle before).world

  behind : world_before generated_header (generated_lines count seed) ≡ last
  behind = before-next generated_header front (line_at (14 + count) act.Settle)

  last-reached : IsReached generated_header (runs.lines + 1) last
  last-reached = line_reached generated_header runs.lines act.Settle before is.header runs.fit runs.most runs.reached

  -- all clusters are the same there
  pub generated-same : (totals_of generated_header (world_before generated_header (generated_lines count seed))).same ≡ true
  generated-same =
      subst (λ (w : World). (totals_of generated_header w).same ≡ true) (sym behind)
      (clusters-same generated_header (runs.lines + 1) last last-reached (settle-line generated_header front [] (14 + count) is)
      (subst (SharesAll generated_header) behind (script-shares generated_header (generated_lines count seed) [] is (all-sharing count seed) opening-shares)))

  -- and its numbers sum it up
  pub generated-sums : SumsUp generated_header (world_before generated_header (generated_lines count seed)) (totals_of generated_header (world_before generated_header (generated_lines count seed)))
  generated-sums =
      subst (λ (w : World). SumsUp generated_header w (totals_of generated_header w)) (sym behind)
      (sums-up generated_header (runs.lines + 1) last last-reached (omega (arith, is.header.shards_least)) is.header.clusters.count_least)
