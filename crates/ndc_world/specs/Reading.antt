-- Lines that only read.
use Rattle.std.specs.Prelude.{Bool, true, false}
use Rattle.ndc_script_types.specs.declared.script.Act.{Act}
use Rattle.ndc_script_types.specs.declared.script.Act.TheVariants as act

-- whether a line changes nothing, and is not on progress reports
abbrev pub is_read : Act → Bool
is_read (act.Domain at domain) = true
is_read (act.MembersOf at domain) = true
is_read (act.LevelsOf reader source shard) = true
is_read (act.Gaps cluster) = true
is_read (act.History cluster domain workflow) = true
is_read (act.Branches cluster domain workflow) = true
is_read (act.Current cluster domain workflow) = true
is_read (act.StateOf cluster domain workflow) = true
is_read (act.Dump cluster domain workflow) = true
is_read (act.Compare one two domain workflow) = true
is_read (act.LettersOf reader) = true
is_read _ = false
