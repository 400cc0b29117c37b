use Rattle.std.proofs.Common.{◌≡◌, ◌++◌, drop}
use Rattle.std.specs.Map.{values_of}
use Rattle.std.specs.String.{string_bytes}
use Rattle.ndc_state.specs.Text.{further_text, list_text}
use Rattle.ndc_state.proofs.text.list_text.Given as goal

-- with the entries left after it, the text is that of all
abbrev pub invariant-loop-place : goal.invariant-loop-place
invariant-loop-place l = string_bytes l.text ++ further_text (drop l.place (values_of l.pendings.current)) ≡ list_text (values_of l.pendings.current)
