use Rattle.std.proofs.Common.{◌≡◌, ◌++◌, ◌∷◌, [], decimal, drop, length, map}
use Rattle.std.specs.List.{flat_map}
use Rattle.ndc_model.specs.Texts.{event_line, ok}
use Rattle.ndc_state.specs.Replay.{history_of}
use Rattle.ndc_world_answers.proofs.reading.history.Given as goal

-- the text so far, with what is left, is the whole
abbrev pub invariant-loop-batch : goal.invariant-loop-batch
invariant-loop-batch l = l.text.items ++ flat_map event_line (history_of (map (λ b. b.now) (drop l.batch-index l.path))) ≡ ok (decimal (length (history_of (map (λ b. b.now) l.path))) ∷ []) ++ flat_map event_line (history_of (map (λ b. b.now) l.path))
