-- In a script tables grow from each world to those after it.
use Rattle.std.proofs.Common.{◌≡◌, ◌≢◌, ℕ, List, [], ◌∷◌, ◌++◌, map, Ok, append-nil, append_assoc, refl, sym, ◌∙◌, subst, ap}
use Rattle.std.specs.List.{AllByRecursion, IsAmong}
use Rattle.std.proofs.lemmas.List.Concat.{flat_map-append}
use Rattle.ndc_script_types.specs.WellFormed.{IsWellFormed, IsWellFormedAct, IsWellFormedHeader}
use Rattle.ndc_script_types.specs.declared.script.Act.{Act}
use Rattle.ndc_script_types.specs.declared.script.Act.TheVariants as act
use Rattle.ndc_script_types.specs.declared.script.BurstJob.{BurstJob}
use Rattle.ndc_script_types.specs.declared.script.Header.{Header}
use Rattle.ndc_script_types.specs.declared.script.Line.{Line}
use Rattle.ndc_model_cells.specs.Writing.{may_write}
use Rattle.ndc_domain.specs.declared.clusters.ClusterNo.{ClusterNo}
use Rattle.ndc_event.specs.declared.batch.Batch.{Batch}
use Rattle.ndc_event.specs.declared.name.Name.{Name}
use Rattle.ndc_model.specs.Sometime.{IsReachedSometime}
use Rattle.ndc_laws_reached.proofs.GrowLemmas.{grows-none}
use Rattle.ndc_laws.specs.Grown.{TablesGrow, world_after}
use Rattle.ndc_laws.proofs.EndedLemmas.{nothing-more, stays-ended}
use Rattle.ndc_laws.proofs.GrowLemmas.{stay-grow, tables-then}
use Rattle.ndc_laws.proofs.LineLemmas.{line-above, line-grows}
use Rattle.ndc_laws.proofs.StayLemmas.{TablesStay, command-stay}
use Rattle.ndc_laws.proofs.WriteLemmas.{WritesAbove, above-none, above-then, command-above}
use Rattle.ndc_graceful.specs.declared.handover.Handover.{Handover}
use Rattle.ndc_laws.specs.Promised.{RunsReached, world_before}
use Rattle.ndc_laws.proofs.LinesBefore.{runs-reached}
use Rattle.ndc_laws.proofs.ReachedLemmas.{worlds_reached}
use Rattle.ndc_model.specs.Facts.{IsReached}
use Rattle.ndc_model.specs.Fair.{written_of}
use Rattle.ndc_model.specs.Laws.{script_of}
use Rattle.ndc_model.specs.Lines.{act_step, job_line, lines_of_act, plain_lines, ran_from}
use Rattle.ndc_model.specs.World.{World, cell_of, cluster_at, home_at, opening_world}
use Rattle.ndc_model_sets.specs.Sets.{Has}

-- lines after others run in the world that these left
pub after-both : (header : Header) (one two : List Line) (w : World) → world_after header (one ++ two) w ≡ world_after header two (world_after header one w)
after-both header [] two w = refl
after-both header (line ∷ one) two w = after-both header one two (act_step header line.act w).world

plain-both : (one two : List Line) → plain_lines (one ++ two) ≡ plain_lines one ++ plain_lines two
plain-both one two = flat_map-append (λ (line : Line). lines_of_act line.number line.act) one two

-- the world after a line of a script is that which it leads to from the world before it
before-next : (header : Header) (front : List Line) (line : Line) → world_before header (front ++ line ∷ []) ≡ world_after header (lines_of_act line.number line.act) (world_before header front)
before-next header front line =
    ap (λ (list : List Line). world_after header list (opening_world header)) (plain-both front (line ∷ []))
    ∙ after-both header (plain_lines front) (lines_of_act line.number line.act ++ []) (opening_world header)
    ∙ ap (λ (list : List Line). world_after header list (world_before header front)) (append-nil (lines_of_act line.number line.act))

-- a burst leaves tables as they are
burst-stay : (header : Header) (cluster : ClusterNo) (jobs : List BurstJob) (w : World) → TablesStay w (world_after header (map (job_line cluster) jobs) w)
unfolding act_step
burst-stay header cluster [] w = λ one. refl
burst-stay header cluster (job ∷ jobs) w =
    λ one. burst-stay header cluster jobs (act_step header (act.Command cluster job.domain job.workflow job.command) w).world one ∙ command-stay header cluster job.domain job.workflow job.command w one

-- tables grow after the lines of an act
act-grows : (header : Header) (lines number : ℕ) (asked : Act) (w : World) → IsWellFormedHeader header → IsWellFormedAct header asked → IsReached header lines w → TablesGrow w (world_after header (lines_of_act number asked) w)
act-grows header lines number (act.Burst cluster jobs) w sound fit is = stay-grow w (world_after header (map (job_line cluster) jobs) w) (burst-stay header cluster jobs w)
act-grows header lines number other w sound fit is = line-grows header lines other w sound fit is

-- tables grow from the world after some lines of a script to the one after more of them
pub script-grows : (header : Header) (back front : List Line) → IsWellFormed (script_of header (front ++ back)) → TablesGrow (world_before header front) (world_before header (front ++ back))
script-grows header [] front is = subst (λ (list : List Line). TablesGrow (world_before header front) (world_before header list)) (sym (append-nil front)) (λ one. grows-none (cluster_at one (world_before header front)).table)
script-grows header (line ∷ back) front is =
    tables-then (world_before header front) (world_before header (front ++ line ∷ [])) (world_before header (front ++ line ∷ back)) first
    (subst (λ (list : List Line). TablesGrow (world_before header (front ++ line ∷ [])) (world_before header list)) behind
    (script-grows header back (front ++ line ∷ []) (subst (λ (list : List Line). IsWellFormed (script_of header list)) (sym behind) is)))
  where
    behind : (front ++ line ∷ []) ++ back ≡ front ++ line ∷ back
    behind = append_assoc front (line ∷ []) back

    runs : RunsReached header front line.act
    runs = runs-reached header front back line is

    first : TablesGrow (world_before header front) (world_before header (front ++ line ∷ []))
    first = subst (TablesGrow (world_before header front)) (sym (before-next header front line)) (act-grows header runs.lines line.number line.act (world_before header front) is.header runs.fit runs.reached)

-- what holds of all worlds after lines holds of the one after the first of them
one-of : (header : Header) (P : World → Type 0) (one two : List Line) (w : World) → P w → AllByRecursion P (map (λ run. run.step.world) (ran_from header w (one ++ two))) → P (world_after header one w)
one-of header P [] two w p all = p
one-of header P (line ∷ one) two w p all = one-of header P one two (act_step header line.act w).world all.0 all.1

front-reached : (header : Header) (front back : List Line) → IsWellFormed (script_of header (front ++ back)) → IsReachedSometime header (world_before header front)
front-reached header front back is =
    let all = worlds_reached (script_of header (front ++ back)) is in
    one-of header (IsReachedSometime header) (plain_lines front) (plain_lines back) (opening_world header) all.0
    (subst (λ (list : List Line). AllByRecursion (IsReachedSometime header) (map (λ run. run.step.world) (ran_from header (opening_world header) list))) (plain-both front back) all.1)

-- what an open handover has ended stays ended in the script
pub ended-in-script : (header : Header) (front back : List Line) (handover : Handover) → IsWellFormed (script_of header (front ++ back)) → IsAmong (world_before header front).handovers handover
    → (cluster : ClusterNo) (workflow : Name) (version : ℕ)
    → may_write (home_at header cluster (world_before header (front ++ back))) handover.domain workflow (cell_of header cluster handover.domain workflow (world_before header (front ++ back))) ≡ Ok version → version ≢ handover.old
ended-in-script header front back handover is opened =
    let at = front-reached header front back is in
    stays-ended header at.lines (world_before header front) (world_before header (front ++ back)) handover at.reached opened (script-grows header back front is)

-- a burst writes nothing below the versions of records
burst-above : (header : Header) (cluster : ClusterNo) (jobs : List BurstJob) (w : World) → WritesAbove w (world_after header (map (job_line cluster) jobs) w)
unfolding act_step
burst-above header cluster [] w = above-none w
burst-above header cluster (job ∷ jobs) w =
    above-then w (act_step header (act.Command cluster job.domain job.workflow job.command) w).world (world_after header (map (job_line cluster) (job ∷ jobs)) w)
    (stay-grow w (act_step header (act.Command cluster job.domain job.workflow job.command) w).world (command-stay header cluster job.domain job.workflow job.command w))
    (command-above header cluster job.domain job.workflow job.command w)
    (burst-above header cluster jobs (act_step header (act.Command cluster job.domain job.workflow job.command) w).world)

act-above : (header : Header) (lines number : ℕ) (asked : Act) (w : World) → IsReached header lines w → WritesAbove w (world_after header (lines_of_act number asked) w)
act-above header lines number (act.Burst cluster jobs) w is = burst-above header cluster jobs w
act-above header lines number other w is = line-above header lines other w is

-- so do the lines of a script between two of its worlds
script-above : (header : Header) (back front : List Line) → IsWellFormed (script_of header (front ++ back)) → WritesAbove (world_before header front) (world_before header (front ++ back))
script-above header [] front is = subst (λ (list : List Line). WritesAbove (world_before header front) (world_before header list)) (sym (append-nil front)) (above-none (world_before header front))
script-above header (line ∷ back) front is =
    above-then (world_before header front) (world_before header (front ++ line ∷ [])) (world_before header (front ++ line ∷ back)) grown first
    (subst (λ (list : List Line). WritesAbove (world_before header (front ++ line ∷ [])) (world_before header list)) behind
    (script-above header back (front ++ line ∷ []) (subst (λ (list : List Line). IsWellFormed (script_of header list)) (sym behind) is)))
  where
    behind : (front ++ line ∷ []) ++ back ≡ front ++ line ∷ back
    behind = append_assoc front (line ∷ []) back

    runs : RunsReached header front line.act
    runs = runs-reached header front back line is

    grown : TablesGrow (world_before header front) (world_before header (front ++ line ∷ []))
    grown = subst (TablesGrow (world_before header front)) (sym (before-next header front line)) (act-grows header runs.lines line.number line.act (world_before header front) is.header runs.fit runs.reached)

    first : WritesAbove (world_before header front) (world_before header (front ++ line ∷ []))
    first = subst (WritesAbove (world_before header front)) (sym (before-next header front line)) (act-above header runs.lines line.number line.act (world_before header front) runs.reached)

-- in a script nothing more is written with an ended version
pub nothing-in-script : (header : Header) (front back : List Line) (handover : Handover) → IsWellFormed (script_of header (front ++ back)) → IsAmong (world_before header front).handovers handover
    → (workflow : Name) (b : Batch) → Has (written_of header handover.domain workflow (world_before header (front ++ back))) b → b.key.version ≡ handover.old
    → Has (written_of header handover.domain workflow (world_before header front)) b
nothing-in-script header front back handover is opened =
    let at = front-reached header front back is in
    let then = front-reached header (front ++ back) [] (subst (λ (list : List Line). IsWellFormed (script_of header list)) (sym (append-nil (front ++ back))) is) in
    nothing-more header at.lines then.lines (world_before header front) (world_before header (front ++ back)) is.header at.reached then.reached handover opened (script-above header back front is)
