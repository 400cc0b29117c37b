-- Clusters and reports that represent a world, and represent what a line of the text leaves.
use Rattle.std.proofs.Common.{◌≡◌, ℕ, suc, ◌+◌, ◌≤◌, ◌<◌, ◌^◌, Bool, true, false, List, [], ◌∷◌, ◌++◌, length, map, slice_index_or, refl, ap, sym, subst, ◌∙◌, arith}
use Rattle.std.specs.Prelude.{codes, decimal, sum}
use Rattle.std.specs.List.{AllByRecursion}
use Rattle.std.proofs.lemmas.List.{length-map}
use Rattle.ndc_script_types.specs.WellFormed.{IsCluster, IsWellFormedAct, IsWellFormedHeader}
use Rattle.ndc_script_types.specs.declared.script.Act.{Act}
use Rattle.ndc_script_types.specs.declared.script.Act.TheVariants as act
use Rattle.ndc_script_types.specs.declared.script.BurstJob.{BurstJob}
use Rattle.ndc_script_types.specs.declared.script.Header.{Header}
use Rattle.ndc_script_types.specs.declared.script.Line.{Line}
use Rattle.ndc_model.specs.Bare.{bare_cluster, bare_trace, is_on_reports}
use Rattle.ndc_model.specs.Standing.{IsLeftBy, StandFor}
use Rattle.ndc_laws_jobs.proofs.ReachedLemmas.{bare-reached}
use Rattle.ndc_laws_jobs.proofs.KeepLemmas.{line-keeps}
use Rattle.ndc_laws_jobs.proofs.MoveLemmas.{settle-bare}
use Rattle.ndc_laws_jobs.proofs.StandLemmas.{all-held, as-many, line-left, lines-left}
use Rattle.ndc_domain.specs.Clusters.{count_of}
use Rattle.ndc_domain.specs.declared.clusters.ClusterNo.{ClusterNo}
use Rattle.ndc_index.specs.declared.seen.Seen.{Seen}
use Rattle.ndc_laws.proofs.ReachedLemmas.{world-promised}
use Rattle.ndc_laws.proofs.SettlementLemmas.{settled-world}
use Rattle.ndc_laws_reached.specs.Settled.{IsSettled}
use Rattle.ndc_laws_reached.proofs.ReachedLemmas.{line_reached}
use Rattle.ndc_model.specs.Facts.{IsReached}
use Rattle.ndc_model.specs.Laws.{is_overtaken, is_refusal}
use Rattle.ndc_model.specs.Lines.{act_step, job_line, lines_of_act, ran_from, world_behind}
use Rattle.ndc_model.specs.Moves.{Trace, after_settlement}
use Rattle.ndc_model.specs.Steps.{applied_by, learned_by, seen_of}
use Rattle.ndc_model.specs.World.{Cluster, World, all_clusters, cluster_at, new_cluster, opening_world}
use Rattle.ndc_model.proofs.FairLemmas.{opening_reached}
use Rattle.ndc_model.proofs.ListLemmas.{all-weaker}
use Rattle.ndc_model.proofs.StepLemmas.{refused_changes_nothing}
use Rattle.ndc_progress.specs.Reports.{greatest_of}
use Rattle.ndc_progress.specs.declared.report.Report.{Report}
use Rattle.ndc_world.specs.Counts.{one_if, refused_in}
use Rattle.ndc_world.specs.Running.{HaveRun}
use Rattle.ndc_world.specs.Standing.{IsBehind, IsBehindSettlement, IsReachedWorld, IsSettledWorld, IsStanding, IsUnspent, WorldValue}
use Rattle.ndc_world.proofs.BurstLemmas.{burst_runs}
use Rattle.ndc_world.proofs.RunLemmas.{one_run}

-- a line on reports is one line
one-line : (number : ℕ) (line : Act) → is_on_reports line ≡ true → lines_of_act number line ≡ record { number = number; act = line } ∷ []
one-line number (act.Beat cluster domain workflow id details) on = refl
one-line number (act.Sync to from) on = refl
one-line number (act.ProgressOf cluster domain workflow id) on = refl
one-line number _ on = absurd (cc)

-- the lines of one that is not on reports are not on reports either
all-plain : (cluster : ClusterNo) (jobs : List BurstJob) → AllByRecursion (λ (l : Line). is_on_reports l.act ≡ false) (map (job_line cluster) jobs)
all-plain cluster [] = tt
all-plain cluster (one ∷ jobs) = (refl, all-plain cluster jobs)

are-plain : (number : ℕ) (line : Act) → is_on_reports line ≡ false → AllByRecursion (λ (l : Line). is_on_reports l.act ≡ false) (lines_of_act number line)
are-plain number (act.Burst cluster jobs) other = all-plain cluster jobs
are-plain number _ other = (other, tt)

-- what lines of the text lead to is as it should be
pub reached_behind : (header : Header) (lines number : ℕ) (line : Act) (w : World) → IsWellFormedHeader header → IsWellFormedAct header line → lines + length (lines_of_act number line) ≤ 100000 → IsReached header lines w
    → IsReached header (lines + length (lines_of_act number line)) (world_behind w (ran_from header w (lines_of_act number line)))
reached_behind header lines number (act.Burst cluster jobs) w fit asked few is =
    let same : length (map (job_line cluster) jobs) ≡ length jobs = length-map jobs (job_line cluster) in
    let ran = burst_runs header lines cluster jobs w fit asked.0 asked.1 (omega (arith, few, same)) is in
    subst (λ (n : ℕ). IsReached header (lines + n) (world_behind w (ran_from header w (map (job_line cluster) jobs)))) (sym same) (subst (IsReached header (lines + length jobs)) (sym ran.world) ran.reached)
reached_behind header lines number line w fit asked few is = line_reached header lines line w fit asked (omega (arith, few)) is

-- a line on reports
pub behind_report : (header : Header) (number : ℕ) (line : Act) (w v : World) (reports : List (List Report)) (answer told : List ℕ) (seen shown : List Seen) (count : ℕ) → is_on_reports line ≡ true
    → IsLeftBy (act_step header line w) v reports answer seen → told ≡ decimal number ++ codes " " ++ answer → shown ≡ seen → count ≡ one_if (is_refusal answer)
    → IsBehind header (record { number = number; act = line }) w v reports told shown count
behind_report header number line w v reports answer told seen shown count on left text same counted =
    let one : lines_of_act number line ≡ record { number = number; act = line } ∷ [] = one-line number line on in
    let run = one_run header w number line (act_step header line w).world (record { text = (act_step header line w).answer; seen = (act_step header line w).seen }) told shown count one refl
    (text ∙ ap (λ (a : List ℕ). decimal number ++ codes " " ++ a) left.answer) (same ∙ left.seen) (counted ∙ ap (λ (a : List ℕ). one_if (is_refusal a)) left.answer) in
    record {
      stands = subst (StandFor v reports) run.world left.stands;
      answers = run.answers;
      seen = run.seen;
      refused = run.refused;
    }

-- as many lines are refused where no cluster keeps reports
refused-left : (header : Header) (lines : List Line) (v : World) (reports : List (List Report)) (w : World) → AllByRecursion (λ (l : Line). is_on_reports l.act ≡ false) lines → StandFor v reports w
    → refused_in (ran_from header v lines) ≡ refused_in (ran_from header w lines)
refused-left header [] v reports w others stand = refl
refused-left header (line ∷ lines) v reports w others stand =
    let first = line-left v reports w stand header line.act others.0 in
    let rest = refused-left header lines (act_step header line.act v).world reports (act_step header line.act w).world others.1 first.stands in
    λ i. one_if (is_refusal (first.answer i)) + rest i

-- any other line
pub behind_other : (header : Header) (line : Line) (v u : World) (reports : List (List Report)) (w : World) (told : List ℕ) (shown : List Seen) (count : ℕ) → is_on_reports line.act ≡ false → StandFor v reports w
    → HaveRun (ran_from header v (lines_of_act line.number line.act)) v u told shown count → IsBehind header line w u reports told shown count
behind_other header line v u reports w told shown count other stand run =
    let plain = are-plain line.number line.act other in
    let same = lines-left header (lines_of_act line.number line.act) v reports w plain stand in
    record {
      stands = subst (λ (x : World). StandFor x reports (world_behind w (ran_from header w (lines_of_act line.number line.act)))) (sym run.world) same.stands;
      answers = run.answers ∙ same.answers;
      seen = run.seen ∙ same.seen;
      refused = run.refused ∙ refused-left header (lines_of_act line.number line.act) v reports w plain stand;
    }

-- a settlement
pub behind_settlement : (header : Header) (v u : World) (reports : List (List Report)) (w : World) (learned applied : ℕ) (shown : List Seen) → StandFor v reports w → u ≡ (after_settlement header v).world
    → learned ≡ sum (map learned_by (after_settlement header v).notes) → applied ≡ sum (map applied_by (after_settlement header v).notes) → shown ≡ seen_of (after_settlement header v).notes
    → IsBehindSettlement header w u reports learned applied shown
unfolding act_step
behind_settlement header v u reports w learned applied shown stand left many again told =
    let same : after_settlement header v ≡ bare_trace (after_settlement header w) = ap (after_settlement header) stand.clusters ∙ settle-bare header w in
    record {
      stands = record {
        clusters = left ∙ ap (λ (t : Trace). t.world) same;
        reports = stand.reports ∙ ap (λ (l : List (List Report)). map greatest_of l) (sym (line-keeps header act.Settle w refl));
      };
      learned_count = many ∙ ap (λ (t : Trace). sum (map learned_by t.notes)) same;
      applied_count = again ∙ ap (λ (t : Trace). sum (map applied_by t.notes)) same;
      seen = told ∙ ap (λ (t : Trace). seen_of t.notes) same;
    }

settled-reached : (header : Header) (lines : ℕ) (w : World) → IsWellFormedHeader header → lines < 100000 → IsReached header lines w → IsReached header (lines + 1) (after_settlement header w).world
unfolding act_step
settled-reached header lines w fit below is = line_reached header lines act.Settle w fit tt below is

-- no more lines are refused than were run
refused-most : (header : Header) (w : World) (lines : List Line) → refused_in (ran_from header w lines) ≤ length lines
refused-most header w [] = omega arith
refused-most header w (line ∷ lines) = let rest = refused-most header (act_step header line.act w).world lines in by (is_refusal (act_step header line.act w).answer) rest
  where
    by : (b : Bool) → refused_in (ran_from header (act_step header line.act w).world lines) ≤ length lines → one_if b + refused_in (ran_from header (act_step header line.act w).world lines) ≤ suc (length lines)
    by true rest = omega (arith, rest)
    by false rest = omega (arith, rest)

module _ (header : Header) (lines : ℕ) (v : World) (reports : List (List Report)) (is : IsStanding header lines v reports) where
  -- the clusters themselves are as so many lines leave them
  pub clusters_reached : IsReached header lines v
  clusters_reached = subst (IsReached header lines) (sym is.stands.clusters) (bare-reached header lines is.whole is.reached)

  -- what represents a world goes on to represent one
  pub standing_behind : (line : Line) (u : World) (held : List (List Report)) (told : List ℕ) (shown : List Seen) (count : ℕ) → IsWellFormedAct header line.act → lines + length (lines_of_act line.number line.act) ≤ 100000
      → ((w : World) → StandFor v reports w → IsBehind header line w u held told shown count) → IsStanding header (lines + length (lines_of_act line.number line.act)) u held
  standing_behind line u held told shown count asked few does = record {
    fit = is.fit;
    whole = world_behind is.whole (ran_from header is.whole (lines_of_act line.number line.act));
    reached = reached_behind header lines line.number line.act is.whole is.fit asked few is.reached;
    stands = (does is.whole is.stands).stands;
  }

  -- a line refuses no more than it runs
  pub refusals_most : (line : Line) (u : World) (held : List (List Report)) (told : List ℕ) (shown : List Seen) (count : ℕ)
      → ((w : World) → StandFor v reports w → IsBehind header line w u held told shown count) → count ≤ length (lines_of_act line.number line.act)
  refusals_most line u held told shown count does =
      subst (λ (n : ℕ). n ≤ length (lines_of_act line.number line.act)) (sym (does is.whole is.stands).refused) (refused-most header is.whole (lines_of_act line.number line.act))

  pub standing_settled : (u : World) (learned applied : ℕ) (shown : List Seen) → lines < 100000
      → ((w : World) → StandFor v reports w → IsBehindSettlement header w u reports learned applied shown) → IsStanding header (lines + 1) u reports
  standing_settled u learned applied shown below does = record {
    fit = is.fit;
    whole = (after_settlement header is.whole).world;
    reached = settled-reached header lines is.whole is.fit below is.reached;
    stands = (does is.whole is.stands).stands;
  }

  -- there are reports of each cluster, with small beats
  pub seats_there : length reports ≡ count_of header.clusters
  seats_there = as-many v reports is.whole is.stands ∙ is.reached.shaped.clusters

  pub beats_small : (cluster : ClusterNo) → IsCluster header cluster → AllByRecursion (λ (report : Report). report.beat < 10 ^ 12) (slice_index_or reports cluster.number [])
  beats_small cluster known =
      all-held v reports is.whole is.stands (λ (report : Report). report.beat < 10 ^ 12) cluster
      (all-weaker (λ (report : Report). report.beat ≤ lines) (λ (report : Report). report.beat < 10 ^ 12) (λ report most. omega (arith, most, is.reached.fair.numbers.lines_most))
      (cluster_at cluster is.whole).reports (is.reached.beats cluster known))

-- in the beginning
new-bare : (shards : ℕ) (clusters : List ClusterNo) → map (λ _. new_cluster shards) clusters ≡ map bare_cluster (map (λ _. new_cluster shards) clusters)
new-bare shards [] = refl
new-bare shards (c ∷ clusters) = ap (λ l. new_cluster shards ∷ l) (new-bare shards clusters)

new-reports : (shards : ℕ) (clusters : List ClusterNo) → map (λ _. []) clusters ≡ map greatest_of (map (λ (c : Cluster). c.reports) (map (λ _. new_cluster shards) clusters))
new-reports shards [] = refl
new-reports shards (c ∷ clusters) = ap (λ l. [] ∷ l) (new-reports shards clusters)

pub opening_stands : (header : Header) (v : World) (reports : List (List Report)) → v ≡ opening_world header → reports ≡ map (λ _. []) (all_clusters header) → StandFor v reports (opening_world header)
opening_stands header v reports e f = record {
  clusters = e ∙ ap (λ l. record (opening_world header) { clusters = l }) (new-bare header.shards (all_clusters header));
  reports = f ∙ new-reports header.shards (all_clusters header);
}

pub standing_begun : (header : Header) (v : World) (reports : List (List Report)) → IsWellFormedHeader header → v ≡ opening_world header → reports ≡ map (λ _. []) (all_clusters header)
    → IsUnspent (record { spent = false; header = header; lines = 0; answers = 0; refused = 0; world = v; reports = reports })
standing_begun header v reports fit is none = record {
  standing = record {
    fit = fit;
    whole = opening_world header;
    reached = opening_reached header;
    stands = opening_stands header v reports is none;
  };
  answers_most = omega arith;
  refused_most = omega arith;
}

-- a line more is counted, with its answers and its refusals
module _ (before : WorldValue) (is : IsUnspent before) (line : Line) where
  -- its refusals fit
  pub refused_fit : before.lines + length (lines_of_act line.number line.act) ≤ 100000 → (u : World) (held : List (List Report)) (told : List ℕ) (shown : List Seen) (count : ℕ)
      → ((w : World) → StandFor before.world before.reports w → IsBehind before.header line w u held told shown count) → before.refused + count ≤ 100000
  refused_fit few u held told shown count does =
      let most = refusals_most before.header before.lines before.world before.reports is.standing line u held told shown count does in
      omega (arith, few, most, is.answers_most, is.refused_most)

  pub unspent_behind : IsWellFormedAct before.header line.act → before.lines + length (lines_of_act line.number line.act) ≤ 100000 → (u : World) (held : List (List Report)) (told : List ℕ) (shown : List Seen) (count n : ℕ)
      → ((w : World) → StandFor before.world before.reports w → IsBehind before.header line w u held told shown count) → n ≡ length (lines_of_act line.number line.act)
      → IsUnspent (record { spent = false; header = before.header; lines = before.lines + n; answers = before.answers + n; refused = before.refused + count; world = u; reports = held })
  unspent_behind asked few u held told shown count n does lines_are =
      let most = refusals_most before.header before.lines before.world before.reports is.standing line u held told shown count does in
      record {
        standing = subst (λ (k : ℕ). IsStanding before.header (before.lines + k) u held) (sym lines_are)
            (standing_behind before.header before.lines before.world before.reports is.standing line u held told shown count asked few does);
        answers_most = omega (arith, is.answers_most);
        refused_most = omega (arith, is.refused_most, most, lines_are);
      }

-- a settlement is one line more, without an answer
pub unspent_settled : (before : WorldValue) (is : IsUnspent before) (u : World) (learned applied : ℕ) (shown : List Seen) → before.lines < 100000
    → ((w : World) → StandFor before.world before.reports w → IsBehindSettlement before.header w u before.reports learned applied shown)
    → IsUnspent (record { spent = false; header = before.header; lines = before.lines + 1; answers = before.answers; refused = before.refused; world = u; reports = before.reports })
unspent_settled before is u learned applied shown below does = record {
  standing = standing_settled before.header before.lines before.world before.reports is.standing u learned applied shown below does;
  answers_most = omega (arith, is.answers_most);
  refused_most = is.refused_most;
}

-- a world that is not spent is one that its lines lead to
pub reached_world : (value : WorldValue) → IsUnspent value → IsReachedWorld value
reached_world value is =
    let s = is.standing in
    let clusters = clusters_reached value.header value.lines value.world value.reports s in
    record { whole = s.whole; stands = s.stands; reached = s.reached; clusters = clusters; promised = world-promised value.header value.lines value.world s.fit clusters }

-- and a settlement leaves one that is settled
pub settled_world : (before : WorldValue) (is : IsUnspent before) (u : World) (learned applied : ℕ) (shown : List Seen) → before.lines < 100000
    → ((w : World) → StandFor before.world before.reports w → IsBehindSettlement before.header w u before.reports learned applied shown)
    → u ≡ (after_settlement before.header before.world).world
    → IsSettledWorld (record { spent = false; header = before.header; lines = before.lines + 1; answers = before.answers; refused = before.refused; world = u; reports = before.reports })
settled_world before is u learned applied shown below does left = record {
  is = reached_world (record { spent = false; header = before.header; lines = before.lines + 1; answers = before.answers; refused = before.refused; world = u; reports = before.reports })
      (unspent_settled before is u learned applied shown below does);
  settled = subst (IsSettled before.header) (sym left)
      (settled-world before.header before.lines before.world is.standing.fit below (clusters_reached before.header before.lines before.world before.reports is.standing));
}

-- what represents a world represents no other, so where a line is refused all is as it was
pub refused_leaves_all : (before : WorldValue) (line : Line) (u : World) (held : List (List Report)) (told : List ℕ) (shown : List Seen) (count : ℕ)
    → ((w : World) → StandFor before.world before.reports w → IsBehind before.header line w u held told shown count)
    → (w : World) → StandFor before.world before.reports w → lines_of_act line.number line.act ≡ line ∷ []
    → is_refusal (act_step before.header line.act w).answer ≡ true → is_overtaken (act_step before.header line.act w).answer ≡ false
    → (u ≡ before.world) × (held ≡ before.reports)
refused_leaves_all before line u held told shown count does w stand one refused other =
    let left = subst (λ (lines : List Line). StandFor u held (world_behind w (ran_from before.header w lines))) one (does w stand).stands in
    let same = (refused_changes_nothing before.header line.act w refused other).world in
    let still = subst (StandFor u held) same left in
    (still.clusters ∙ sym stand.clusters, still.reports ∙ sym stand.reports)
