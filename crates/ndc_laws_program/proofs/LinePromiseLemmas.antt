-- What is promised after each kind of line of a script holds.
use Rattle.std.proofs.Common.{ℕ, List, ◌∷◌, ◌++◌, subst}
use Rattle.std.specs.Prelude.{◌&&◌}
use Rattle.ndc_script_types.specs.WellFormed.{IsWellFormed}
use Rattle.ndc_script_types.specs.declared.script.Act.{Act}
use Rattle.ndc_script_types.specs.declared.script.Act.TheVariants as act
use Rattle.ndc_script_types.specs.declared.script.Header.{Header}
use Rattle.ndc_script_types.specs.declared.script.Line.{Line}
use Rattle.ndc_script_types.specs.declared.script.Script.{Script}
use Rattle.ndc_model_cells.specs.Writing.{same_cluster}
use Rattle.ndc_domain.specs.declared.clusters.ClusterNo.{ClusterNo}
use Rattle.ndc_event.specs.declared.name.Name.{Name}
use Rattle.ndc_laws.specs.Promised.{NothingPutOff, RunsReached, line, world_before}
use Rattle.ndc_laws.proofs.DamageLemmas.{cut-aside, letters-alone, purge-alone, whole-stays}
use Rattle.ndc_laws.proofs.EndLemmas.{goes-on-behind}
use Rattle.ndc_laws.proofs.FrontLemmas.{front-script}
use Rattle.ndc_laws.proofs.HandoverLemmas.{taken-current, taken-over}
use Rattle.ndc_laws.proofs.LinesBefore.{runs-reached}
use Rattle.ndc_laws.proofs.MergeLettersLemmas.{merged-come}
use Rattle.ndc_laws.proofs.ResetLemmas.{reset-leaves}
use Rattle.ndc_laws.proofs.ScriptLemmas.{ended-in-script, nothing-in-script}
use Rattle.ndc_laws.proofs.SettlementLemmas.{resend-line, settle-line}
use Rattle.ndc_laws.specs.Worked.{HasWorked}
use Rattle.ndc_laws.proofs.WorkLemmas.{work_line}
use Rattle.ndc_laws_program.specs.Inside.{AnswersInside}
use Rattle.ndc_laws_program.specs.LinePromises.{AnswersDump, BringsLetters, CompletesWhereReady, GoesOnInNewRun, MissesNothingTrimmed, SetsAsideWhereCut, behind}
use Rattle.ndc_laws_program.specs.Promises.{AtEach, EndsOldVersions, KeepsBehindLines}
use Rattle.ndc_laws_program.proofs.DumpLemmas.{dump-line}
use Rattle.ndc_laws_program.proofs.InsideLemmas.{inside-answered}
use Rattle.ndc_laws_reached.specs.Settled.{IsSettled}
use Rattle.ndc_laws_reached.proofs.TrimmedLemmas.{bootstrapped_fit}
use Rattle.ndc_model.specs.Handovers.{is_handover_of}
use Rattle.ndc_model.specs.Laws.{script_of}
use Rattle.ndc_model.specs.Lines.{act_step}
use Rattle.ndc_model.specs.Moves.{from_world}
use Rattle.ndc_model.specs.World.{World}
use Rattle.ndc_model.proofs.StepLemmas.{overtaken_ends, refused_changes_nothing}
use Rattle.ndc_model_sets.proofs.Lists.{find-among}

-- a line that runs in a reached world, with a line to spare
module _ (header : Header) (front back : List Line) (number : ℕ) where
  abbrev w : World
  w = world_before header front

  abbrev IsScriptWith : Act → Type 0
  IsScriptWith asked = IsWellFormed (script_of header (front ++ line number asked ∷ back))

  runs : (asked : Act) → IsScriptWith asked → RunsReached header front asked
  runs asked is = runs-reached header front back (line number asked) is

  bootstrap-line : (reader source : ClusterNo) → IsScriptWith (act.Bootstrap reader source) → MissesNothingTrimmed header reader source (behind header (act.Bootstrap reader source) w)
  unfolding act_step
  bootstrap-line reader source is shard below =
      let r = runs (act.Bootstrap reader source) is in
      bootstrapped_fit header r.lines (from_world w) reader source shard r.reached r.fit below

  complete-line : (at : ClusterNo) (domain : Name) → IsScriptWith (act.Complete at domain) → CompletesWhereReady header at domain w
  complete-line at domain is handover opened ready =
      let r = runs (act.Complete at domain) is in
      let among = find-among (λ one. is_handover_of domain one && same_cluster one.to at) w.handovers handover opened in
      record {
        learned = λ workflow b has old. taken-over header is.header r.lines w r.reached handover among ready workflow b has old;
        current = λ workflow b ends. taken-current header is.header r.lines w r.reached handover among ready workflow b ends.written ends.old ends.most;
        goes_on = λ workflow b ends. goes-on-behind header is.header r.lines w r.reached handover among ready workflow b ends.written ends.old ends.most at domain opened;
      }

  reset-line : (cluster : ClusterNo) (domain workflow : Name) (event : ℕ) → IsScriptWith (act.Reset cluster domain workflow event) → GoesOnInNewRun header cluster domain workflow event w
  reset-line cluster domain workflow event is entries =
      let r = runs (act.Reset cluster domain workflow event) is in
      reset-leaves header is.header r.lines r.most w r.reached cluster domain workflow r.fit.0 event entries

  damage-line : (reader source : ClusterNo) (shard place cut : ℕ) → IsScriptWith (act.Damage reader source shard place cut) → SetsAsideWhereCut header reader source shard place cut w
  damage-line reader source shard place cut is sent at =
      let r = runs (act.Damage reader source shard place cut) is in
      record {
        aside = cut-aside header r.lines w r.reached reader source r.fit.0 shard r.fit.1 place sent at cut;
        whole = whole-stays header r.lines w r.reached reader source r.fit.0 shard r.fit.1 place sent at cut;
      }

  merge-line : (cluster : ClusterNo) → IsScriptWith (act.MergeLetters cluster) → BringsLetters header cluster w
  merge-line cluster is = let r = runs (act.MergeLetters cluster) is in merged-come header is.header r.lines w r.reached cluster r.fit

  -- the messages of a line
  inside-line : (asked : Act) → IsScriptWith asked → AnswersInside header asked w
  inside-line asked is = let r = runs asked is in inside-answered header is.header r.lines r.most w r.reached asked r.fit

-- what holds at a line of a script holds at each such line of this one
at-each : (script : Script) → IsWellFormed script → (asked : Act) (P : World → Type 0)
    → ((front back : List Line) (number : ℕ) → IsWellFormed (script_of script.header (front ++ line number asked ∷ back)) → P (world_before script.header front)) → AtEach script asked P
at-each script fit asked P each front back number parts = each front back number (subst (λ (lines : List Line). IsWellFormed (script_of script.header lines)) parts fit)

pub keeps-behind-lines : (script : Script) → IsWellFormed script → KeepsBehindLines script
keeps-behind-lines script fit = record {
  settled = at-each script fit act.Settle (λ w. IsSettled script.header (behind script.header act.Settle w)) (λ front back number is. settle-line script.header front back number is);
  worked = λ cluster. at-each script fit (act.Work cluster) (λ w. HasWorked script.header cluster (behind script.header (act.Work cluster) w)) (λ front back number is. work_line script.header front back number cluster is);
  resent = λ cluster. at-each script fit (act.Resend cluster) (λ w. NothingPutOff script.header cluster (behind script.header (act.Resend cluster) w)) (λ front back number is. resend-line script.header front back number cluster is);
  bootstrapped = λ reader source. at-each script fit (act.Bootstrap reader source) (λ w. MissesNothingTrimmed script.header reader source (behind script.header (act.Bootstrap reader source) w)) (λ front back number is. bootstrap-line script.header front back number reader source is);
  dumped = λ cluster domain workflow. at-each script fit (act.Dump cluster domain workflow) (AnswersDump script.header cluster domain workflow) (λ front back number is. dump-line script.header front back number cluster domain workflow is);
  completed = λ at domain. at-each script fit (act.Complete at domain) (CompletesWhereReady script.header at domain) (λ front back number is. complete-line script.header front back number at domain is);
  reset = λ cluster domain workflow event. at-each script fit (act.Reset cluster domain workflow event) (GoesOnInNewRun script.header cluster domain workflow event) (λ front back number is. reset-line script.header front back number cluster domain workflow event is);
  damaged = λ reader source shard place cut. at-each script fit (act.Damage reader source shard place cut) (SetsAsideWhereCut script.header reader source shard place cut) (λ front back number is. damage-line script.header front back number reader source shard place cut is);
  merged = λ cluster. at-each script fit (act.MergeLetters cluster) (BringsLetters script.header cluster) (λ front back number is. merge-line script.header front back number cluster is);
  purged = λ cluster front back number parts. purge-alone script.header (world_before script.header front) cluster;
  answered = λ asked. at-each script fit asked (AnswersInside script.header asked) (λ front back number is. inside-line script.header front back number asked is);
  refused = λ asked front back number parts. refused_changes_nothing script.header asked (world_before script.header front);
  overtaken = λ at domain front back number parts. overtaken_ends script.header at domain (world_before script.header front);
  listed = λ cluster front back number parts. letters-alone script.header (world_before script.header front) cluster;
}

pub ends-old-versions : (script : Script) → IsWellFormed script → EndsOldVersions script
ends-old-versions script fit front more back handover parts opened = record {
  unused = λ cluster workflow version. ended-in-script script.header front more handover is opened cluster workflow version;
  written = λ workflow b. nothing-in-script script.header front more handover is opened workflow b;
}
  where
    is : IsWellFormed (script_of script.header (front ++ more))
    is = front-script script.header (front ++ more) back (subst (λ (lines : List Line). IsWellFormed (script_of script.header lines)) parts fit)
