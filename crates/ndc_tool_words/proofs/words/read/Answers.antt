use Rattle.std.proofs.Common.{◌∙◌, Bool, List, ℕ, codes, map, string_bytes, sym, ap}
use Rattle.std.specs.Str.{bytes_eq}
use Rattle.clap.proofs.WalkLemmas.{list_any-map}
use Rattle.ndc_tool_words.specs.Found.{asked_in}
use Rattle.ndc_tool_words.proofs.Dashes.{dashes_refused}
use Rattle.ndc_tool_words.proofs.Reading.{reads-asked, reads-fit, reads-refused, same-error}
use Rattle.ndc_tool_words.proofs.Whole.{words-agree}
use Rattle.ndc_tool_words.proofs.words.read.Goals as goal

abbrev are_dashes : List ℕ → Bool
are_dashes word = bytes_eq word (codes "--")

-- with `--` among them the words are none of the table's
pub returns-then-has_dashes-clause-refused : goal.returns-then-has_dashes-clause-refused
returns-then-has_dashes-clause-refused c =
    λ e. dashes_refused (map string_bytes c.args.words.now) (sym (list_any-map are_dashes string_bytes c.args.words.now) ∙ (sym c.has_dashes.ensures ∙ c.if-has_dashes.true))

-- without it clap and the table agree
pub returns-in-Ok-clause-asked : goal.returns-in-Ok-clause-asked
returns-in-Ok-clause-asked c =
    let apart = sym (list_any-map are_dashes string_bytes c.args.words.now) ∙ (sym c.has_dashes.ensures ∙ c.if-has_dashes.false) in
    reads-asked c.asked_in.result _ _ (ap asked_in c.in-Ok.ensures.found ∙ (words-agree (map string_bytes c.args.words.now) apart).0 c.in-Ok.ensures.taken) c.asked_in.ensures

pub returns-in-Ok-clause-refused : goal.returns-in-Ok-clause-refused
returns-in-Ok-clause-refused c =
    let apart = sym (list_any-map are_dashes string_bytes c.args.words.now) ∙ (sym c.has_dashes.ensures ∙ c.if-has_dashes.false) in
    reads-refused c.asked_in.result _ _ (ap asked_in c.in-Ok.ensures.found ∙ (words-agree (map string_bytes c.args.words.now) apart).0 c.in-Ok.ensures.taken) c.asked_in.ensures

pub returns-in-Ok-clause-well_formed : goal.returns-in-Ok-clause-well_formed
returns-in-Ok-clause-well_formed c =
    let apart = sym (list_any-map are_dashes string_bytes c.args.words.now) ∙ (sym c.has_dashes.ensures ∙ c.if-has_dashes.false) in
    reads-fit (map string_bytes c.args.words.now) c.asked_in.result _ (ap asked_in c.in-Ok.ensures.found ∙ (words-agree (map string_bytes c.args.words.now) apart).0 c.in-Ok.ensures.taken) c.asked_in.ensures

pub returns-in-Err-clause-refused : goal.returns-in-Err-clause-refused
returns-in-Err-clause-refused c =
    let apart = sym (list_any-map are_dashes string_bytes c.args.words.now) ∙ (sym c.has_dashes.ensures ∙ c.if-has_dashes.false) in
    λ e. (words-agree (map string_bytes c.args.words.now) apart).1 (c.in-Err.ensures.refused (same-error c.in-Err.error _ e))
