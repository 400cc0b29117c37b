-- Whether batches are one, as a test that goes part by part.
use Rattle.std.specs.Prelude.{Bool, ◌&&◌, ◌==◌, List}
use Rattle.std.specs.Cmp.Lexicographic.{pointwise}
use Rattle.std.specs.Option.{option_eq}
use Rattle.std.specs.Str.{bytes_eq}
use Rattle.ndc_event.specs.Attributes.{copied_origin, first_name, next_run, second_name}
use Rattle.ndc_event.specs.Key.{key_eq}
use Rattle.ndc_event.specs.Kind.{kind_name}
use Rattle.ndc_event.specs.declared.batch.Batch.{Batch}
use Rattle.ndc_event.specs.declared.batch.Event.{Event}
use Rattle.ndc_event.specs.declared.kind.EventKind.{EventKind}
use Rattle.ndc_model_sets.specs.Branches.{same_run}
use Rattle.ndc_state.specs.Origins.{same_origin}

-- whether two kinds of events have one name and the same attributes
abbrev pub same_kind : EventKind → EventKind → Bool
same_kind one two =
    bytes_eq (kind_name one) (kind_name two)
    && (option_eq bytes_eq (first_name one) (first_name two)
    && (option_eq bytes_eq (second_name one) (second_name two)
    && (option_eq same_run (next_run one) (next_run two)
    && option_eq same_origin (copied_origin one) (copied_origin two))))

-- whether two events are one
abbrev pub same_event : Event → Event → Bool
same_event one two = (one.id == two.id) && ((one.version == two.version) && same_kind one.kind two.kind)

-- whether two batches are one
abbrev pub same_batch : Batch → Batch → Bool
same_batch one two =
    key_eq one.key two.key
    && (same_run one.run two.run
    && (option_eq key_eq one.parent two.parent
    && (option_eq key_eq one.carrier two.carrier
    && (bytes_eq one.domain two.domain && (bytes_eq one.workflow two.workflow && pointwise same_event one.events two.events)))))

-- whether two lists hold the same batches, in one order
unfoldable pub same_batches : List Batch → List Batch → Bool
same_batches one two = pointwise same_batch one two
