-- How it is printed what a batch waits for.
use Rattle.std.specs.Prelude.{ℕ, List, ◌++◌, codes}
use Rattle.ndc_resend.specs.declared.asking.GapOf.{GapOf}
use Rattle.ndc_text.specs.Views.{item_text, key_text}

-- `gap DOMAIN WORKFLOW KEY`
abbrev pub gap_head : GapOf → List ℕ
gap_head gap = codes "gap " ++ gap.domain ++ codes " " ++ gap.workflow ++ codes " " ++ key_text gap.key

-- ` after ID@VERSION before ID@VERSION missing KEY`, with the line end
abbrev pub gap_ends : GapOf → List ℕ
gap_ends gap = codes " after " ++ item_text gap.gap.after ++ codes " before " ++ item_text gap.gap.before ++ codes " missing " ++ key_text gap.missing ++ codes "\n"

-- the line of a gap
abbrev pub gap_text : GapOf → List ℕ
gap_text gap = gap_head gap ++ gap_ends gap
