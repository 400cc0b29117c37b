use Rattle.std.proofs.Common.{◌++◌, ◌-◌, append_assoc, codes}
use Rattle.ndc_probe.specs.Unasked.{names_text, range_text, shards_text}
use Rattle.ndc_probe.proofs.unasked.push_range.Goals as goal

pub returns : goal.returns
unfolding range_text
returns c =
    let before = c.args.text.now.items in
    let names = names_text c.args.header.now in
    let shards = shards_text (c.args.header.now.shards - 1) in
    rw (
      c.in_ok-push_names.ensures,
      c.in_ok-extend_from_slice.ensures.items,
      append_assoc (before ++ codes "; clusters") names shards,
      append_assoc before (codes "; clusters") (names ++ shards),
    ) at c.push_shards.ensures
