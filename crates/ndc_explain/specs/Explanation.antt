-- The explanation of a dump.
use Rattle.std.specs.Prelude.{ℕ, Bool, true, false, ◌||◌, ◌&&◌, is_none, nat_lt, List, [], ◌∷◌, ◌++◌, codes, decimal, length, Option}
use Rattle.std.specs.List.{concat, flat_map, list_any}
use Rattle.std.specs.Map.{lookup}
use Rattle.ndc_domain.specs.Clusters.{ClusterList}
use Rattle.ndc_event.specs.declared.key.Origin.{Origin}
use Rattle.ndc_event.specs.declared.name.Name.{Name}
use Rattle.ndc_model_sets.specs.Current.{is_zombie}
use Rattle.ndc_model_sets.specs.Origins.{signals}
use Rattle.ndc_model_sets.specs.declared.view.RunStatus.{RunStatus}
use Rattle.ndc_model_sets.specs.declared.view.RunStatus.TheVariants.{Running, Zombie, Closed}
use Rattle.ndc_model_sets.specs.declared.view.RunView.{RunView}
use Rattle.ndc_model_sets.specs.declared.view.View.{View}
use Rattle.ndc_reapply.specs.declared.stray.Stray.{Stray}
use Rattle.ndc_reapply.specs.Strays.{origins_of, strays_of}
use Rattle.ndc_state.specs.Origins.{is_among, same_origin}
use Rattle.ndc_dump.specs.declared.dump.Dump.{Dump}
use Rattle.ndc_explain.specs.Branches.{run_told}
use Rattle.ndc_explain_sides.specs.Sides.{Sided, sides_of}
use Rattle.ndc_explain.specs.Losses.{alone_count, loss_count, sides_told}
use Rattle.ndc_explain.specs.Signals.{Settlers, signal_line, waiting_count, with_listed}
use Rattle.ndc_explain.specs.Standing.{standing}

-- whether it is the status of an open current run
abbrev pub is_running : RunStatus → Bool
is_running Running = true
is_running Zombie = false
is_running Closed = false

-- whether the current run is open
abbrev pub is_open : List RunView → Bool
is_open runs = list_any (λ run. is_running run.status) runs

-- what a view holds beside its runs: what both sides had, the signals, each once by its origin, and what settles them
pub record Findings : Type 0 where
  pub sides : Sided
  pub signals : List Stray
  pub settlers : Settlers

abbrev pub findings : View → Findings
findings view = record {
  sides = sides_of (standing view) view.batches;
  signals = strays_of (signals view.batches) [];
  settlers = with_listed (standing view) view.batches [];
}

-- whether a signal of this origin waits: the view has one, and nothing settles it
abbrev pub waits : Findings → Origin → Bool
waits found origin = is_among origin (origins_of found.signals) && is_none (lookup (same_origin origin) found.settlers)

-- how many signals wait
abbrev pub waiting : Findings → ℕ
waiting found = waiting_count found.settlers found.signals

-- whether something is to be driven again
abbrev pub has_lost : Findings → Bool
has_lost found = nat_lt 0 (loss_count false false found.sides.lost)

-- whether a signal waits
abbrev pub has_waiting : Findings → Bool
has_waiting found = nat_lt 0 (waiting found)

-- whether something is to be driven again, or a signal waits
abbrev pub leaves_any : Findings → Bool
leaves_any found = has_lost found || has_waiting found

-- whether a run has several branches
abbrev pub is_forked : RunView → Bool
is_forked run = nat_lt 1 (length run.branches)

-- whether a run of a view has several branches
abbrev pub has_forks : View → Bool
has_forks view = list_any is_forked view.runs

-- whether a run of a view is a zombie
abbrev pub has_zombies : View → Bool
has_zombies view = list_any (λ run. is_zombie run.status) view.runs

-- the last line: the counts
abbrev pub counts_line : Bool → View → Findings → List ℕ
counts_line all view found =
    concat (
    codes "batches " ∷ decimal (length view.batches) ∷ codes " runs " ∷ decimal (length view.runs) ∷ codes " re-drive " ∷ decimal (loss_count all false found.sides.lost)
    ∷ codes " on both " ∷ decimal (loss_count all true found.sides.lost) ∷ codes " only current " ∷ decimal (alone_count all found.sides.alone)
    ∷ codes " signals " ∷ decimal (length found.signals) ∷ codes " waiting " ∷ decimal (waiting found) ∷ codes "\n" ∷ [])

-- the lines of what was found
abbrev pub findings_told : Option ClusterList → Bool → Dump → Findings → List ℕ
findings_told clusters all dump found =
    sides_told clusters all found.sides
    ++ (flat_map (signal_line clusters dump.workflow (is_open dump.view.runs) found.settlers) found.signals ++ counts_line all dump.view found)

-- the explanation after its first line, with what was found: each run, and which of its branches leads; what both sides had; what became of
-- each signal; the counts; with the events of decisions or without
abbrev pub explained : Option ClusterList → Bool → Dump → Findings → List ℕ
explained clusters all dump found = flat_map (run_told clusters) dump.view.runs ++ findings_told clusters all dump found

-- the line that names a workflow
abbrev pub workflow_line : Name → Name → List ℕ
workflow_line domain workflow = codes "workflow " ++ domain ++ codes " " ++ workflow ++ codes "\n"

-- the explanation: the workflow, and what is told of it
abbrev pub explanation_of : Option ClusterList → Bool → Dump → List ℕ
explanation_of clusters all dump = workflow_line dump.domain dump.workflow ++ explained clusters all dump (findings dump.view)
