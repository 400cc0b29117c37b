use Rattle.std.proofs.Common.{◌++◌, append_assoc, codes, map}
use Rattle.ndc_probe.specs.Unasked.{range_text, unasked_text, usage_of, verb_among}
use Rattle.ndc_probe.proofs.unasked.push_unasked.Goals as goal

pub returns : goal.returns
unfolding unasked_text
returns c =
    let before = c.args.text.now.items in
    let usage = usage_of (verb_among (map (λ word. word.now) c.args.words.now)) in
    let range = range_text c.args.header.now in
    rw (
      c.in_ok-extend_from_slice-2.ensures.items,
      c.as_bytes.ensures.value,
      c.usage_of-usage.ensures,
      c.verb_among.ensures,
      c.in_ok-extend_from_slice.ensures.items,
      append_assoc (before ++ codes "no question; expected: ") usage range,
      append_assoc before (codes "no question; expected: ") (usage ++ range),
    ) at c.push_range.ensures
