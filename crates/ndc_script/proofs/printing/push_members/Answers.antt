use Rattle.std.proofs.Common.{◌≡◌, ◌<◌, ◌∙◌, arith}
use Rattle.ndc_script.proofs.PrintSteps.{member_step, members_printed}
use Rattle.ndc_script.proofs.printing.push_members.Goals as goal

pub loop-number-preserved : goal.loop-number-preserved
loop-number-preserved c =
    let below : c.loop-number.number < 8 = omega arith in
    rw c.in_ok-push_member.ensures (member_step c.args.header.now c.args.members c.loop-number.text.items c.loop-number.number below ∙ c.loop-number.invariant)

pub returns : goal.returns
returns c =
    let last : c.loop-number.number ≡ 8 = omega arith in
    members_printed c.args.header.now c.args.members c.loop-number.text.items c.args.text.now.items c.requires (rw last at c.loop-number.invariant)
