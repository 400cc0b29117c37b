-- What is promised of every script.
use Rattle.std.specs.Prelude.{◌≡◌, ℕ, List, [], ◌∷◌, ◌++◌}
use Rattle.std.specs.List.{AllByRecursion, IsAmong}
use Rattle.ndc_script_types.specs.WellFormed.{IsCluster}
use Rattle.ndc_script_types.specs.declared.script.Act.{Act}
use Rattle.ndc_script_types.specs.declared.script.Act.TheVariants as act
use Rattle.ndc_script_types.specs.declared.script.Line.{Line}
use Rattle.ndc_script_types.specs.declared.script.Script.{Script}
use Rattle.ndc_domain.specs.declared.clusters.ClusterNo.{ClusterNo}
use Rattle.ndc_event.specs.declared.name.Name.{Name}
use Rattle.ndc_graceful.specs.declared.handover.Handover.{Handover}
use Rattle.ndc_laws.specs.Counts.{AreReachedFrom}
use Rattle.ndc_laws.specs.Promised.{IsAsPromised, NothingPutOff, line, world_before}
use Rattle.ndc_laws.specs.Worked.{HasWorked}
use Rattle.ndc_laws_program.specs.Arriving.{AnswersArrivals}
use Rattle.ndc_laws_program.specs.Inside.{AnswersInside}
use Rattle.ndc_laws_program.specs.LinePromises.{AnswersDump, BringsLetters, CompletesWhereReady, GoesOnInNewRun, IsEnded, MissesNothingTrimmed, OvertakenEndsAlone, RefusedChangesNothing, SetsAsideWhereCut, behind}
use Rattle.ndc_laws_program.specs.Told.{WasTold}
use Rattle.ndc_laws_program.specs.WorldPromises.{ClosedPartsHaveOneCurrent, HasOneWriters, HoldsReports}
use Rattle.ndc_laws_reached.specs.Settled.{IsSettled}
use Rattle.ndc_model.specs.Letters.{with_letters}
use Rattle.ndc_model.specs.Lines.{plain_lines, worlds_of}
use Rattle.ndc_model.specs.World.{World, cluster_at}

-- something holds of the world in which a line runs that asks for this, at each such line of a script
abbrev pub AtEach : Script → Act → (World → Type 0) → Type 0
AtEach script asked P = (front back : List Line) (number : ℕ) → script.lines ≡ front ++ line number asked ∷ back → P (world_before script.header front)

-- every world of a script is as promised, and as it should be after the lines that led to it: fair, with open handovers, letters, beats and
-- reports as they should be; each version has one writer there; each closed part of what was written has one current branch a run; messages are
-- answered by what has arrived; and reports are held as they were told
pub record KeepsInWorlds (script : Script) : Type 0 where
  pub promised : AllByRecursion (IsAsPromised script.header) (worlds_of script)
  pub reached : AreReachedFrom script.header 0 (worlds_of script)
  pub writers : AllByRecursion (HasOneWriters script.header) (worlds_of script)
  pub parts : AllByRecursion (ClosedPartsHaveOneCurrent script.header) (worlds_of script)
  pub arrivals : AllByRecursion (AnswersArrivals script.header) (worlds_of script)
  pub reports : AllByRecursion (HoldsReports script.header) (worlds_of script)

-- after each line of these kinds the world is as promised of it
pub record KeepsBehindLines (script : Script) : Type 0 where
  pub settled : AtEach script act.Settle (λ w. IsSettled script.header (behind script.header act.Settle w))
  pub worked : (cluster : ClusterNo) → AtEach script (act.Work cluster) (λ w. HasWorked script.header cluster (behind script.header (act.Work cluster) w))
  pub resent : (cluster : ClusterNo) → AtEach script (act.Resend cluster) (λ w. NothingPutOff script.header cluster (behind script.header (act.Resend cluster) w))
  pub bootstrapped : (reader source : ClusterNo) → AtEach script (act.Bootstrap reader source) (λ w. MissesNothingTrimmed script.header reader source (behind script.header (act.Bootstrap reader source) w))
  pub dumped : (cluster : ClusterNo) (domain workflow : Name) → AtEach script (act.Dump cluster domain workflow) (AnswersDump script.header cluster domain workflow)
  pub completed : (at : ClusterNo) (domain : Name) → AtEach script (act.Complete at domain) (CompletesWhereReady script.header at domain)
  pub reset : (cluster : ClusterNo) (domain workflow : Name) (event : ℕ) → AtEach script (act.Reset cluster domain workflow event) (GoesOnInNewRun script.header cluster domain workflow event)
  pub damaged : (reader source : ClusterNo) (shard place cut : ℕ) → AtEach script (act.Damage reader source shard place cut) (SetsAsideWhereCut script.header reader source shard place cut)
  pub merged : (cluster : ClusterNo) → AtEach script (act.MergeLetters cluster) (BringsLetters script.header cluster)
  pub purged : (cluster : ClusterNo) → AtEach script (act.Purge cluster) (λ w. behind script.header (act.Purge cluster) w ≡ with_letters cluster [] w)
  pub answered : (asked : Act) → AtEach script asked (AnswersInside script.header asked)
  pub refused : (asked : Act) → AtEach script asked (RefusedChangesNothing script.header asked)
  pub overtaken : (at : ClusterNo) (domain : Name) → AtEach script (act.Complete at domain) (OvertakenEndsAlone script.header at domain)
  pub listed : (cluster : ClusterNo) → AtEach script (act.LettersOf cluster) (λ w. behind script.header (act.LettersOf cluster) w ≡ w)

-- where a handover is open after some lines of a script, its old version is ended after these and any further ones
abbrev pub EndsOldVersions : Script → Type 0
EndsOldVersions script =
    (front more back : List Line) (handover : Handover) → script.lines ≡ (front ++ more) ++ back → IsAmong (world_before script.header front).handovers handover
    → IsEnded script.header handover (world_before script.header front) (world_before script.header (front ++ more))

-- after some lines of a script each progress report that a cluster has was told by one of them, with bursts taken apart: by a `beat` of the cluster
-- that writes with its version
abbrev pub ReportsWereTold : Script → Type 0
ReportsWereTold script =
    (front back : List Line) → script.lines ≡ front ++ back → (cluster : ClusterNo) → IsCluster script.header cluster
    → AllByRecursion (WasTold script.header (plain_lines front)) (cluster_at cluster (world_before script.header front)).reports

-- what is promised of every script: of its worlds, after its lines, of versions that handovers have ended, and of progress reports
pub record KeepsPromises (script : Script) : Type 0 where
  pub worlds : KeepsInWorlds script
  pub lines : KeepsBehindLines script
  pub ended : EndsOldVersions script
  pub told : ReportsWereTold script
