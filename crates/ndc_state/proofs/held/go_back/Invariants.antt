use Rattle.std.proofs.Common.{◌≡◌, drop}
use Rattle.ndc_state.specs.Pendings.{unstarted}
use Rattle.ndc_state.proofs.held.go_back.Given as goal

-- with the places ahead taken back, all are
abbrev pub invariant-loop-place : goal.invariant-loop-place
invariant-loop-place l = unstarted (drop l.place-index l.places) l.entries.entries ≡ unstarted l.places l.initial.entries.entries
