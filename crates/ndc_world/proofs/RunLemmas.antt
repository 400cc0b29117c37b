-- What a script that runs may ask, and what runs after it.
use Rattle.std.proofs.Common.{◌≡◌, ℕ, ◌+◌, ◌≤◌, ◌<◌, List, [], ◌∷◌, ◌++◌, append-nil, length, map, ap, sym, subst, ◌∙◌, arith}
use Rattle.std.specs.Prelude.{codes, decimal}
use Rattle.std.specs.List.{All}
use Rattle.ndc_script_types.specs.WellFormed.{IsCluster, IsWellFormedAct, IsWellFormedHeader, IsWellFormedJob}
use Rattle.ndc_script_types.specs.declared.script.Act.{Act}
use Rattle.ndc_script_types.specs.declared.script.Act.TheVariants as act
use Rattle.ndc_script_types.specs.declared.script.BurstJob.{BurstJob}
use Rattle.ndc_script_types.specs.declared.script.Header.{Header}
use Rattle.ndc_script_types.specs.declared.script.Line.{Line}
use Rattle.ndc_model_cells.specs.declared.job.Job.{Job}
use Rattle.ndc_model_cells.specs.Cells.{Cell}
use Rattle.ndc_model_cells.specs.Writing.{Desk}
use Rattle.ndc_domain.specs.declared.clusters.ClusterNo.{ClusterNo}
use Rattle.ndc_index.specs.declared.seen.Seen.{Seen}
use Rattle.ndc_laws_reached.proofs.BringLemmas.{world_after}
use Rattle.ndc_model.specs.Allowed.{LineIsAllowed, burst_jobs}
use Rattle.ndc_laws_jobs.proofs.BurstLemmas.{burst_allowed}
use Rattle.ndc_laws_jobs.proofs.LineLemmas.{line_allowed}
use Rattle.ndc_model.specs.Facts.{IsReached}
use Rattle.ndc_model.specs.Laws.{is_refusal}
use Rattle.ndc_model.specs.Lines.{act_step, job_line, lines_of_act, ran_from}
use Rattle.ndc_model.specs.Moves.{notes_of}
use Rattle.ndc_model.specs.Steps.{Stepped, seen_of}
use Rattle.ndc_model.specs.World.{World}
use Rattle.ndc_model.specs.Conditions.{MayDoAll, MaySettle}
use Rattle.ndc_model_cells.specs.Conditions.{Condition}
use Rattle.ndc_model_cells.specs.Allowed.{IsAllowed}
use Rattle.ndc_world_steps.specs.Told.{AnswerValue, leaving}
use Rattle.ndc_world.specs.Bursts.{burst_text}
use Rattle.ndc_world.specs.Counts.{one_if, refusals}
use Rattle.ndc_world.specs.Running.{HaveRun}
use Rattle.ndc_world.proofs.AllowLemmas.{all_may, line_may}
use Rattle.ndc_world.proofs.BurstLemmas.{IsBurst, burst_runs, replies_of}

module _ (header : Header) (lines : ℕ) (w : World) (well : IsWellFormedHeader header) (is : IsReached header lines w) where
  -- a line may be asked of cells that do all that may be asked
  pub may_line : (allows : Condition) → ((home : Desk) (asked : Job) (at : Cell) → IsAllowed home asked at → allows home asked at) → (line : Act) → IsWellFormedAct header line → lines < 100000
      → LineIsAllowed allows header line w
  may_line allows may line fit below = line_may allows may header line w (line_allowed header lines line w well fit below is)

  pub may_settle : (allows : Condition) → ((home : Desk) (asked : Job) (at : Cell) → IsAllowed home asked at → allows home asked at) → lines < 100000 → MaySettle allows header w
  may_settle allows may below = may_line allows may act.Settle tt below

  module _ (cluster : ClusterNo) (jobs : List BurstJob) (known : IsCluster header cluster) (fit : All IsWellFormedJob jobs) (few : lines + length jobs ≤ 100000) where
    -- the jobs of a burst may be asked
    pub may_burst : (allows : Condition) → ((home : Desk) (asked : Job) (at : Cell) → IsAllowed home asked at → allows home asked at) → MayDoAll allows header cluster (burst_jobs header jobs) w
    may_burst allows may = all_may allows may header cluster (burst_jobs header jobs) w (burst_allowed header lines cluster jobs w well known fit few is)

    burst-ran : IsBurst header lines cluster jobs w
    burst-ran = burst_runs header lines cluster jobs w well known fit few is

    -- its jobs done are its lines run
    pub burst_run : (v : World) (told : List ℕ) (shown : List Seen) (count : ℕ) → v ≡ world_after header cluster (burst_jobs header jobs) w → told ≡ burst_text jobs (replies_of header cluster (burst_jobs header jobs) w)
        → shown ≡ seen_of (notes_of cluster (burst_jobs header jobs) (replies_of header cluster (burst_jobs header jobs) w)) → count ≡ refusals (replies_of header cluster (burst_jobs header jobs) w)
        → HaveRun (ran_from header w (map (job_line cluster) jobs)) w v told shown count
    burst_run v told shown count left text same counted = record {
      world = left ∙ sym burst-ran.world;
      answers = text ∙ sym burst-ran.answers;
      seen = same ∙ sym burst-ran.seen;
      refused = counted ∙ sym burst-ran.refused;
    }

-- a line that is run as itself alone
pub one_run : (header : Header) (w : World) (number : ℕ) (asked : Act) (v : World) (answer : AnswerValue) (told : List ℕ) (shown : List Seen) (count : ℕ) → lines_of_act number asked ≡ record { number = number; act = asked } ∷ []
    → leaving v answer ≡ act_step header asked w → told ≡ decimal number ++ codes " " ++ answer.text → shown ≡ answer.seen → count ≡ one_if (is_refusal answer.text)
    → HaveRun (ran_from header w (lines_of_act number asked)) w v told shown count
one_run header w number asked v answer told shown count one left text same counted =
    subst (λ (ls : List Line). HaveRun (ran_from header w ls) w v told shown count) (sym one) (record {
      world = ap (λ (s : Stepped). s.world) left;
      answers = text ∙ ap (λ (s : Stepped). decimal number ++ codes " " ++ s.answer) left ∙ sym (append-nil (decimal number ++ codes " " ++ (act_step header asked w).answer));
      seen = same ∙ ap (λ (s : Stepped). s.seen) left ∙ sym (append-nil (act_step header asked w).seen);
      refused = counted ∙ ap (λ (s : Stepped). one_if (is_refusal s.answer)) left ∙ none;
    })
  where
    none : one_if (is_refusal (act_step header asked w).answer) ≡ one_if (is_refusal (act_step header asked w).answer) + 0
    none = omega arith
