use Rattle.std.proofs.Common.{◌≡◌, map, drop}
use Rattle.std.specs.List.{fold}
use Rattle.ndc_event.specs.Kind.{kind_name}
use Rattle.ndc_index.specs.Texts.{with_one_more}
use Rattle.ndc_index.proofs.kinds.KindCounts.add_all.Given as goal

abbrev pub invariant-loop-event : goal.invariant-loop-event
invariant-loop-event l = fold with_one_more l.self (map (λ event. kind_name event.kind) (drop l.event-index l.events)) ≡ fold with_one_more l.initial.self (map (λ event. kind_name event.kind) l.events)
