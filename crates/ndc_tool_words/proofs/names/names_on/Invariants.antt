use Rattle.std.proofs.Common.{◌≡◌, map, drop, []}
use Rattle.ndc_tool_words.specs.Names.{names_on}
use Rattle.ndc_tool_words.proofs.names.names_on.Given as goal

-- the names so far, with those that are left after them, are the names of all
abbrev pub invariant-loop-part : goal.invariant-loop-part
invariant-loop-part l = names_on l.items.items (map (λ part. part.now) (drop l.part-index l.parts)) ≡ names_on [] (map (λ part. part.now) l.parts)
