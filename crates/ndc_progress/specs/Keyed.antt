-- Reports by activity, as a map keeps them.
use Rattle.std.specs.Prelude.{◌≡◌, List, [], ◌∷◌, None, Some, map}
use Rattle.std.specs.List.{filter}
use Rattle.std.specs.Map.{values_of}
use Rattle.ndc_progress.specs.Reports.{held, replaces}
use Rattle.ndc_progress.specs.declared.report.ActivityRef.{ActivityRef}
use Rattle.ndc_progress.specs.declared.report.Report.{Report}

-- each report stands under its activity, which no other one has
abbrev pub AreKeyed : List (ActivityRef × Report) → Type 0
AreKeyed [] = Unit {0}
AreKeyed (entry ∷ entries) = (entry.0 ≡ entry.1.activity) × (held entry.0 (values_of entries) ≡ None) × AreKeyed entries

-- no two of these reports are of one activity
abbrev pub AreOnce : List Report → Type 0
AreOnce [] = Unit {0}
AreOnce (report ∷ reports) = (held report.activity reports ≡ None) × AreOnce reports

-- the reports that take the place of what is held
abbrev pub news : List Report → List Report → List Report
news own others = filter (λ report. replaces (held report.activity own) (Some report)) others

-- reports under their activities
abbrev pub keyed : List Report → List (ActivityRef × Report)
keyed reports = map (λ report. (report.activity, report)) reports
