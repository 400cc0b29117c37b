use Rattle.std.proofs.Common.{◌≡◌, drop, map}
use Rattle.ndc_explain_union.specs.Unions.{united, united_behind}
use Rattle.ndc_explain_union.proofs.merging.united.Given as goal

-- the union so far, with the dumps that are left, is that of all
abbrev pub invariant-loop-taken : goal.invariant-loop-taken
invariant-loop-taken l = united_behind (map (λ b. b.now) l.union.items) (drop l.taken-index l.dumps) ≡ united l.dumps
