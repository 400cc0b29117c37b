-- What is promised of each world of a script holds.
use Rattle.std.proofs.Common.{ℕ}
use Rattle.std.specs.List.{AllByRecursion}
use Rattle.ndc_script_types.specs.WellFormed.{IsWellFormed}
use Rattle.ndc_script_types.specs.declared.script.Header.{Header}
use Rattle.ndc_script_types.specs.declared.script.Script.{Script}
use Rattle.ndc_laws.proofs.CellArrivalLemmas.{known-where}
use Rattle.ndc_laws.proofs.CountedLemmas.{worlds-counted}
use Rattle.ndc_laws.proofs.HeldLemmas.{same-held}
use Rattle.ndc_laws.proofs.ReachedLemmas.{worlds_promised, worlds_reached}
use Rattle.ndc_laws.proofs.SyncLemmas.{same-taken}
use Rattle.ndc_laws_program.proofs.InsideLemmas.{is-answered}
use Rattle.ndc_laws_program.specs.Arriving.{AnswersArrivals}
use Rattle.ndc_laws_program.specs.Promises.{KeepsInWorlds}
use Rattle.ndc_laws_program.specs.WorldPromises.{ClosedPartsHaveOneCurrent, HasOneWriters, HoldsReports}
use Rattle.ndc_model.specs.Sometime.{IsReachedSometime}
use Rattle.ndc_laws_reached.proofs.OneWriterLemmas.{one_chain, one_current, one_event}
use Rattle.ndc_laws_reached.proofs.TrimmedLemmas.{trimmed_fit}
use Rattle.ndc_model.specs.Facts.{IsReached}
use Rattle.ndc_model.specs.Lines.{worlds_of}
use Rattle.ndc_model.specs.World.{World, cell_at}
use Rattle.ndc_model.proofs.ListLemmas.{all-weaker}
use Rattle.ndc_model_sets.proofs.CurrentLaws.{runs_apart}

-- in a reached world
module _ (header : Header) (lines : ℕ) (w : World) (is : IsReached header lines w) where
  one-writers : HasOneWriters header w
  one-writers = record {
    chains = λ domain workflow. one_chain header lines w domain workflow is;
    events = λ domain workflow. one_event header lines w domain workflow is;
    trimmed = λ reader source shard two below. trimmed_fit header lines w reader source shard is two below;
  }

  parts-current : ClosedPartsHaveOneCurrent header w
  parts-current domain workflow part set closed within =
      (one_current header lines w domain workflow part is set closed within, λ one two tip other first second. runs_apart part one two tip other set first second)

  answers-arrivals : AnswersArrivals header w
  answers-arrivals = record {
    known = λ cluster shard sent. known-where sent (cell_at cluster shard w);
    written = λ cluster shard sent may. is-answered header lines w is cluster shard sent may;
  }

  holds-reports : HoldsReports header w
  holds-reports = record {
    agree = is.reports;
    same = λ one two activity first second. same-held header lines w is one two activity first second;
    any_order = λ to one two activity known first second. same-taken header lines w is to known one two activity first second;
  }

-- in every world of a script
in-each : (script : Script) → IsWellFormed script → (P : Header → World → Type 0) → ((lines : ℕ) (w : World) → IsReached script.header lines w → P script.header w) → AllByRecursion (P script.header) (worlds_of script)
in-each script fit P each = all-weaker (IsReachedSometime script.header) (P script.header) (λ w at. each at.lines w at.reached) (worlds_of script) (worlds_reached script fit)

pub keeps-in-worlds : (script : Script) → IsWellFormed script → KeepsInWorlds script
keeps-in-worlds script fit = record {
  promised = worlds_promised script fit;
  reached = worlds-counted script fit;
  writers = in-each script fit HasOneWriters (one-writers script.header);
  parts = in-each script fit ClosedPartsHaveOneCurrent (parts-current script.header);
  arrivals = in-each script fit AnswersArrivals (answers-arrivals script.header);
  reports = in-each script fit HoldsReports (holds-reports script.header);
}
