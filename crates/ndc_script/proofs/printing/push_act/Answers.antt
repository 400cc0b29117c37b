use Rattle.ndc_script.proofs.printing.push_act.Goals as goal

-- the members of a well-formed line ascend
pub push_register-requires : goal.push_register-requires
push_register-requires c = (rw c.in-Register.is at c.requires).ascending
