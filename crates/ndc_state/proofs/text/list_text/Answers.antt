use Rattle.std.proofs.Common.{◌+◌, ◌++◌, ◌∙◌, ap, sym, drop}
use Rattle.std.specs.Map.{values_of}
use Rattle.std.specs.String.{string_bytes}
use Rattle.ndc_state.specs.Text.{further_text}
use Rattle.ndc_state.proofs.TextLemmas.{further_text-one, further_text-end}
use Rattle.ndc_state.proofs.text.list_text.Goals as goal
use Rattle.ndc_state.proofs.text.list_text.Goals.{in-Some-at+in_ok-write-in-Some-at, in-None}

-- the entry at the place is printed, where there is one
pub loop-place-preserved : goal.loop-place-preserved
loop-place-preserved c = elim c.match-at-2.branch [
  | in-Some-at+in_ok-write-in-Some-at w ↦
      further_text-one (string_bytes c.loop-place.text) (string_bytes c.match-at-2.text) (values_of c.args.pendings.now.current) c.loop-place.place w.in-Some-at.pending
      (sym w.in-Some-at.ensures) (ap string_bytes w.text-is ∙ w.in_ok-write-in-Some-at.ensures.bytes) ∙ c.loop-place.invariant
  | in-None w ↦
      ap (λ t. string_bytes t ++ further_text (drop (c.loop-place.place + 1) (values_of c.args.pendings.now.current))) w.text-is
      ∙ further_text-end (string_bytes c.loop-place.text) (values_of c.args.pendings.now.current) c.loop-place.place (sym w.in-None.ensures) ∙ c.loop-place.invariant
]
