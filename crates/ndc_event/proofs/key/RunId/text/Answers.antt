use Rattle.std.proofs.Common.{◌≡◌, ◌∙◌, ap, subst, List, ℕ, IfOk}
use Rattle.std.specs.String.{string_bytes}
use Rattle.uuid.specs.Text.{hyphenated_text, lower}
use Rattle.ndc_event.proofs.key.RunId.text.Goals as goal

-- the text that was written is that of the id's bytes
pub returns : goal.returns
returns c =
    subst (λ (bytes : List ℕ). IfOk c.from_str.result (λ text. string_bytes text ≡ bytes))
    (c.encode_lower.ensures.text ∙ ap (hyphenated_text lower) (c.hyphenated-id.ensures ∙ c.from_u128.ensures))
    c.from_str.ensures.ok
