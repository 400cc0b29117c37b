-- What clusters came to hold of the progress of activities, in order, and how far each of them has gone over what the others hold.
use Rattle.std.specs.Prelude.{◌≡◌, ℕ, ◌<◌, ◌≤◌, Bool, true, false, not, List, [], ◌∷◌, ◌++◌, length, map, replicate, drop, take, slice_index_or, slice_set, if◌then◌else◌}
use Rattle.std.specs.List.{AllByRecursion}
use Rattle.ndc_progress.specs.Keyed.{news}
use Rattle.ndc_progress.specs.Reports.{greatest_of, report_lt, same_activity}
use Rattle.ndc_progress.specs.declared.report.Report.{Report}

-- the reports that a cluster came to hold, in order, and how many of those of each cluster it has gone over
pub record HoldingValue : Type 0 where
  pub log : List Report
  pub seen : List ℕ

-- one of so many clusters in the beginning
abbrev pub new_holding : ℕ → HoldingValue
new_holding clusters = record { log = []; seen = replicate clusters 0 }

-- the cluster at a place
abbrev pub holding_at : List HoldingValue → ℕ → HoldingValue
holding_at holdings cluster = slice_index_or holdings cluster (new_holding 0)

-- what each cluster holds
abbrev pub held_by : List HoldingValue → List (List Report)
held_by holdings = map (λ holding. greatest_of holding.log) holdings

-- a cluster that was told of an activity
abbrev pub having_told : Report → HoldingValue → HoldingValue
having_told report holding = record holding { log = holding.log ++ report ∷ [] }

-- the greatest reports of what a cluster has not gone over of another one, which stands at this place
abbrev pub unseen : HoldingValue → HoldingValue → ℕ → List Report
unseen own other from = greatest_of (drop (slice_index_or own.seen from 0) other.log)

-- a cluster that took reports over, and has gone over so many of the cluster at this place
abbrev pub having_taken : ℕ → List Report → ℕ → HoldingValue → HoldingValue
having_taken from reports count holding = record { log = holding.log ++ news (greatest_of holding.log) reports; seen = slice_set holding.seen from count }

-- whether a report that joins changes nothing: one of its activity is there that is not smaller
abbrev pub covers : List Report → Report → Bool
covers [] r = false
covers (f ∷ list) r = if same_activity r.activity f.activity then not (report_lt f r) else covers list r

-- the first so many reports of a log change nothing of what is held
pub record AreSeen (own log : List Report) (count : ℕ) : Type 0 where
  pub within : count ≤ length log
  pub covered : AllByRecursion (λ report. covers own report ≡ true) (take count log)

-- what each cluster has gone over of the others is seen
pub record AreInStep (holdings : List HoldingValue) : Type 0 where
  pub rows : (to : ℕ) → to < length holdings → length (holding_at holdings to).seen ≡ length holdings
  pub seen : (to from : ℕ) → AreSeen (greatest_of (holding_at holdings to).log) (holding_at holdings from).log (slice_index_or (holding_at holdings to).seen from 0)
