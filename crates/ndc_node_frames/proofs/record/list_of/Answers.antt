use Rattle.std.proofs.Common.{◌++◌, ap, ◌∙◌, sym, arith, rules, map, drop}
use Rattle.std.specs.Prelude.{filter}
use Rattle.ndc_domain.specs.Members.{has_member, numbers}
use Rattle.ndc_node_frames.specs.Parts.{member_value}
use Rattle.ndc_node_frames.proofs.MemberLists.{first, passed, taken, last}
use Rattle.ndc_node_frames.proofs.record.list_of.Goals as goal

pub loop-number-init : goal.loop-number-init
loop-number-init c = record {
  all = ap (λ items. map member_value items ++ filter (has_member c.args.members) (drop 0 numbers)) c.new-list.ensures.items ∙ first c.args.members;
  known = λ h. absurd (omega (arith, h));
}

pub loop-number-preserved-then-not-has : goal.loop-number-preserved-then-not-has
loop-number-preserved-then-not-has c = record {
  all =
      ap (λ ns. map member_value c.loop-number.list.items ++ ns) (sym (passed c.args.members c.loop-number.number (omega arith) (search rules)))
      ∙ c.loop-number.invariant.all;
  known = λ _. c.has.ensures.ascending;
}

pub loop-number-preserved : goal.loop-number-preserved
loop-number-preserved c = record {
  all =
      taken c.args.members _ c.loop-number.list.items c.push.new.self.items (record { number = c.loop-number.number }) (omega arith) (search rules) c.in_ok-push.ensures.items
      c.loop-number.invariant.all;
  known = λ _. c.has.ensures.ascending;
}

pub returns : goal.returns
returns c = last c.args.members _ c.loop-number.number (omega arith) (c.loop-number.invariant.known (omega arith)) c.loop-number.invariant.all
