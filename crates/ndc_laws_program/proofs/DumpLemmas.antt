-- What clusters have learned can be dumped.
use Rattle.std.proofs.Common.{◌≡◌, ◌⊎◌, inl, inr, ℕ, true, List, [], ◌∷◌, ◌++◌, codes, refl}
use Rattle.std.specs.List.{AllByRecursion}
use Rattle.std.specs.Prelude.{◌≢◌}
use Rattle.std.specs.Str.{bytes_eq}
use Rattle.std.proofs.lemmas.Bool.{and_parts}
use Rattle.std.proofs.lemmas.Slice.Eq.{bytes_eq-Decides}
use Rattle.ndc_script_types.specs.WellFormed.{IsWellFormed, IsWellFormedHeader}
use Rattle.ndc_script_types.specs.declared.script.Act.TheVariants as act
use Rattle.ndc_script_types.specs.declared.script.Header.{Header}
use Rattle.ndc_script_types.specs.declared.script.Line.{Line}
use Rattle.ndc_script_types.specs.declared.script.Script.{Script}
use Rattle.ndc_domain.specs.declared.clusters.ClusterNo.{ClusterNo}
use Rattle.ndc_event.specs.declared.batch.Batch.{Batch}
use Rattle.ndc_event.specs.declared.name.Name.{Name}
use Rattle.ndc_model_cells.specs.Places.{is_of}
use Rattle.ndc_dump.specs.Printed.{CanBeDumped, IsOwn}
use Rattle.ndc_dump.proofs.Printed.{dump-again}
use Rattle.ndc_laws_reached.proofs.LetterLemmas.{shard-below}
use Rattle.ndc_laws_program.specs.Dumps.{HoldsDump, LearnedCanBeDumped}
use Rattle.ndc_model.specs.Sometime.{IsReachedSometime}
use Rattle.ndc_laws_reached.proofs.WriterLemmas.{within}
use Rattle.ndc_laws.specs.Promised.{line, world_before}
use Rattle.ndc_laws_reached.proofs.LearnedRanges.{ranges}
use Rattle.ndc_laws.proofs.HeadlineLemmas.{sound}
use Rattle.ndc_laws.proofs.LinesBefore.{runs-reached}
use Rattle.ndc_laws.proofs.ReachedLemmas.{worlds_reached}
use Rattle.ndc_model.specs.Facts.{IsReached}
use Rattle.ndc_model.specs.Fair.{written_of}
use Rattle.ndc_model.specs.Laws.{script_of}
use Rattle.ndc_model.specs.Lines.{act_step, worlds_of}
use Rattle.ndc_model.specs.Moves.{all_written}
use Rattle.ndc_model.specs.Reading.{dump_answer, learned_at, read_answer}
use Rattle.ndc_model.specs.Texts.{refused}
use Rattle.ndc_model.specs.World.{World}
use Rattle.ndc_model.proofs.ListLemmas.{all-weaker}
use Rattle.ndc_model_cells.specs.Shards.{shard_of}
use Rattle.ndc_model_sets.specs.View.{view_of}
use Rattle.ndc_model_sets.proofs.BranchLemmas.{among-has, has-among}
use Rattle.ndc_model_sets.proofs.Lists.{all-from, filter-among}
use Rattle.ndc_text.specs.Views.{dump_text}

own : (domain workflow : Name) (b : Batch) (batches : List Batch) → is_of domain workflow b ≡ true → IsOwn domain workflow b
own domain workflow b batches is =
    let p = and_parts (bytes_eq b.domain domain) (bytes_eq b.workflow workflow) is in
    record { domain_is = (bytes_eq-Decides b.domain domain).0 p.0; workflow_is = (bytes_eq-Decides b.workflow workflow).0 p.1 }

-- in a reached world
can-dump : (header : Header) (lines : ℕ) (w : World) → IsWellFormedHeader header → IsReached header lines w → LearnedCanBeDumped header w
can-dump header lines w fit is cluster domain workflow at some =
    let set = sound header lines w fit is cluster at.known domain workflow in
    record {
      domain_name = at.domain_name;
      workflow_name = at.workflow_name;
      some = some;
      own = all-from (IsOwn domain workflow) (learned_at header cluster domain workflow w) (λ b among.
          let held = within header lines w is cluster at.known domain workflow (shard-below domain workflow header.shards fit.shards_least) b (among-has (learned_at header cluster domain workflow w) b set.set.ordered among) in
          own domain workflow b [] (filter-among (is_of domain workflow) (all_written header (shard_of domain workflow header.shards) w) b (has-among (written_of header domain workflow w) b held)).0);
      range = ranges header lines w fit is cluster at.known domain workflow;
      sound = set;
    }

pub all-can-dump : (script : Script) → IsWellFormed script → AllByRecursion (LearnedCanBeDumped script.header) (worlds_of script)
all-can-dump script fit =
    all-weaker (IsReachedSometime script.header) (LearnedCanBeDumped script.header) (λ w at. can-dump script.header at.lines w fit.header at.reached) (worlds_of script) (worlds_reached script fit)

-- the answer by what is learned
by-learned : (domain workflow : Name) (batches : List Batch) → (batches ≢ [] → CanBeDumped domain workflow batches)
    → (read_answer (dump_answer domain workflow) batches ≡ refused (codes "NoWorkflow" ∷ [])) ⊎ HoldsDump domain workflow (read_answer (dump_answer domain workflow) batches)
by-learned domain workflow [] can = inl refl
by-learned domain workflow (b ∷ batches) can =
    inr (record {
      text = dump_text domain workflow (view_of (b ∷ batches));
      dump = record { domain = domain; workflow = workflow; view = view_of (b ∷ batches) };
      domain_is = refl;
      workflow_is = refl;
      answers = refl;
      read = dump-again domain workflow (b ∷ batches) (can (λ none. absurd (cc)));
      again = refl;
    })

pub dump-line : (header : Header) (front back : List Line) (number : ℕ) (cluster : ClusterNo) (domain workflow : Name) → IsWellFormed (script_of header (front ++ line number (act.Dump cluster domain workflow) ∷ back))
    → ((act_step header (act.Dump cluster domain workflow) (world_before header front)).answer ≡ refused (codes "NoWorkflow" ∷ []))
    ⊎ HoldsDump domain workflow (act_step header (act.Dump cluster domain workflow) (world_before header front)).answer
unfolding act_step
dump-line header front back number cluster domain workflow is =
    let r = runs-reached header front back (line number (act.Dump cluster domain workflow)) is in
    by-learned domain workflow (learned_at header cluster domain workflow (world_before header front)) (λ some. can-dump header r.lines (world_before header front) is.header r.reached cluster domain workflow r.fit some)
