-- Reports of the progress of activities: which one is held of an activity, the next beat, and what a merge changes.
use Rattle.std.specs.Prelude.{ℕ, ◌+◌, Bool, true, false, ◌&&◌, ◌||◌, ◌==◌, not, nat_lt, List, [], ◌∷◌, count_by, Option, Some, None, if◌then◌else◌}
use Rattle.std.specs.List.{filter, fold}
use Rattle.std.specs.Str.{bytes_eq}
use Rattle.ndc_event.specs.declared.name.Name.{Name}
use Rattle.ndc_progress.specs.declared.report.ActivityRef.{ActivityRef}
use Rattle.ndc_progress.specs.declared.report.Report.{Report}

-- whether two activities are one
abbrev pub same_activity : ActivityRef → ActivityRef → Bool
same_activity one two =
    bytes_eq one.domain two.domain && (bytes_eq one.workflow two.workflow && ((one.run.value == two.run.value) && ((one.scheduled == two.scheduled) && (one.version == two.version))))

-- the first report comes before the second: by version, then beat
abbrev pub report_lt : Report → Report → Bool
report_lt one two = nat_lt one.version two.version || ((one.version == two.version) && nat_lt one.beat two.beat)

-- the greater of a report and another one, where there is another
abbrev pub greater_report : Report → Option Report → Report
greater_report one None = one
greater_report one (Some two) = if report_lt one two then two else one

-- the report that is held of an activity: the greatest of it
abbrev pub held : ActivityRef → List Report → Option Report
held activity [] = None
held activity (report ∷ reports) =
    if same_activity activity report.activity then Some (greater_report report (held activity reports)) else held activity reports

-- the beat of the next report of an activity: one more than that of the held one, where this has the same version
abbrev pub next_beat : ℕ → Option Report → ℕ
next_beat version None = 1
next_beat version (Some report) = if report.version == version then report.beat + 1 else 1

-- the version of a held report that is above another one, where it is so
abbrev pub stale_by : ℕ → Option Report → Option ℕ
stale_by version None = None
stale_by version (Some report) = if nat_lt version report.version then Some report.version else None

-- the report that is told of an activity next, with this version and these details
abbrev pub next_report : ActivityRef → ℕ → Name → List Report → Report
next_report activity version details reports =
    record { activity = activity; version = version; beat = next_beat version (held activity reports); details = details }

-- a report joins those that are held: it takes the place of the one of its activity, where it is greater; where there is none, it goes last
abbrev pub with_report : List Report → Report → List Report
with_report [] report = report ∷ []
with_report (first ∷ kept) report =
    if same_activity report.activity first.activity then greater_report first (Some report) ∷ kept else first ∷ with_report kept report

-- what is held where other reports are taken over, in order
abbrev pub merged : List Report → List Report → List Report
merged own others = fold with_report own others

-- the greatest report of each activity, in the order in which the activities come first
abbrev pub greatest_of : List Report → List Report
greatest_of reports = merged [] reports

-- the activities of reports, each once
abbrev pub activities_of : List Report → List ActivityRef
activities_of [] = []
activities_of (report ∷ reports) = report.activity ∷ filter (λ other. not (same_activity report.activity other)) (activities_of reports)

-- whether the second report takes the place of the first
abbrev pub replaces : Option Report → Option Report → Bool
replaces one None = false
replaces None (Some two) = true
replaces (Some one) (Some two) = report_lt one two

-- how many activities come to have another held report, where other reports are taken over
abbrev pub merge_count : List Report → List Report → ℕ
merge_count own others = count_by (λ activity. replaces (held activity own) (held activity others)) (activities_of others)
