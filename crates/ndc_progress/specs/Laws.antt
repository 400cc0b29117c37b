-- What merging needs, so that its order does not matter.
use Rattle.std.specs.Prelude.{◌≡◌, List}
use Rattle.std.specs.List.{AllByRecursion}
use Rattle.ndc_progress.specs.declared.report.Report.{Report}

-- two reports of equal activity, version and beat are equal
abbrev pub Agree : Report → Report → Type 0
Agree one two = one.activity ≡ two.activity → one.version ≡ two.version → one.beat ≡ two.beat → one ≡ two

-- the reports of one list agree with those of another
abbrev pub AllAgree : List Report → List Report → Type 0
AllAgree reports others = AllByRecursion (λ one. AllByRecursion (Agree one) others) reports
