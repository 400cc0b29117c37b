-- A dump in the form with carriers is printed again as the bytes that were read.
use Rattle.std.proofs.Common.{◌≡◌, ℕ, ◌≤◌, List, length, Option, Some, None, Ok, IfSome, sym, ◌∙◌, subst, ap}
use Rattle.ndc_dump.specs.Read.{dump_of}
use Rattle.ndc_dump.specs.declared.dump.Dump.{Dump}
use Rattle.ndc_dump.proofs.Dumped.{printed-of}
use Rattle.ndc_dump.specs.Input.{most_bytes}
use Rattle.ndc_model_sets.specs.View.{view_of}
use Rattle.ndc_port.specs.Bytes.{Appends}
use Rattle.ndc_text.specs.Views.{dump_text}
use Rattle.ndc_tool_top.specs.Show.{PrintsAsRead, shown_text}
use Rattle.ndc_tool_top.specs.declared.show.ShownAs.{ShownAs}
use Rattle.ndc_tool_top.specs.declared.show.ShownAs.TheVariants as shown

pub prints-as-read : (how : ShownAs) (left before after : Option (List ℕ)) (dump : Dump) → IfSome left (λ bytes. (length bytes ≤ most_bytes) × (dump_of bytes ≡ Ok dump)) → dump.view ≡ view_of dump.view.batches
    → Appends before after (shown_text how dump) → PrintsAsRead how left before after
unfolding shown_text
prints-as-read shown.Dump None before after dump read view written = tt
prints-as-read shown.Dump (Some bytes) before after dump read view written =
    λ headed. subst (Appends before after) (ap (dump_text dump.domain dump.workflow) view ∙ sym (printed-of bytes dump headed read.1)) written
prints-as-read shown.Tree left before after dump read view written = tt
