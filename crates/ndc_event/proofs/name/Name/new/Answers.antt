use Rattle.std.proofs.Common.{◌∙◌, sym}
use Rattle.ndc_event.proofs.Ascii.{name_IsUtf8}
use Rattle.ndc_event.proofs.name.Name.new.Goals as goal

pub unreachable-requires : goal.unreachable-requires
unreachable-requires c =
    c.in-Err.ensures.cases.0 (name_IsUtf8 c.args.bytes.now (sym c.are_name_bytes.ensures ∙ c.if-not-are_name_bytes.false))
