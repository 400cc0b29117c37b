-- The workflows, one after the other.
use Rattle.std.proofs.Common.{◌≡◌, ◌+◌, ◌<◌, ℕ, List, [], ◌∷◌, ◌++◌, length, drop, get_or, sym, ap, ◌∙◌, append_assoc}
use Rattle.std.specs.Prelude.{slice_get}
use Rattle.std.proofs.lemmas.List.{at_drop_more}
use Rattle.std.proofs.lemmas.Option.{slice_get-get_or}
use Rattle.ndc_event.specs.declared.name.Name.{Name}
use Rattle.ndc_explain_union.specs.Groupings.{Grouped}
use Rattle.ndc_explain_union.specs.Takings.{Taking}
use Rattle.ndc_explain_union.specs.declared.groups.WorkflowName.{WorkflowName}
use Rattle.ndc_explain_top.specs.Report.{section_at, sections_of}
use Rattle.ndc_explain_top.specs.Rows.{gathered}
use Rattle.ndc_explain_top.specs.Sections.{Sectioned, section_of}
use Rattle.ndc_explain_top.specs.declared.asked.Request.{Request}

-- with the workflow at the next place
pub section-next : (request : Request) (named : List Name) (groups : Grouped) (i : ℕ) (now new whole : List Sectioned) → i < length groups
    → new ≡ now ++ section_at request named (slice_get groups i) → now ++ sections_of request named (drop i groups) ≡ whole → new ++ sections_of request named (drop (i + 1) groups) ≡ whole
section-next request named groups i now new whole lt e h =
    let one : WorkflowName × List Taking = get_or groups i (record { domain = []; workflow = [] }, []) in
    let section : Sectioned = section_of request (gathered named one.0 one.1) in
    let rest : List Sectioned = sections_of request named (drop (i + 1) groups) in
    ap (λ (z : List Sectioned). z ++ rest) (e ∙ ap (λ o. now ++ section_at request named o) (slice_get-get_or groups i (record { domain = []; workflow = [] }, []) lt))
    ∙ append_assoc now (section ∷ []) rest
    ∙ ap (λ (z : List Sectioned). now ++ z) (sym (at_drop_more (sections_of request named) groups i (record { domain = []; workflow = [] }, []) lt))
    ∙ h
