use Rattle.std.proofs.Common.{◌≡◌, take}
use Rattle.ndc_state.proofs.listed.index_of.Given as goal

-- the origins so far are indexed
abbrev pub invariant-loop-origin : goal.invariant-loop-origin
invariant-loop-origin l = l.index.keys ≡ take l.origin-index l.origins
