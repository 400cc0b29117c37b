use Rattle.std.proofs.Common.{refl, sym, ◌∙◌, subst}
use Rattle.ndc_domain.specs.Records.{IsTable}
use Rattle.ndc_domain.specs.Places.{IsAt, IsGap}
use Rattle.ndc_domain.proofs.Tables.{IsTable-put}
use Rattle.ndc_domain.proofs.table.DomainTable.put.Goals as goal

-- a sound record takes the place of another one
pub invariant_of-self : goal.invariant_of-self
invariant_of-self c =
    let at : IsAt c.self.inside.records.items c.args.new.name c.in-Ok.place = rw c.as_slice.ensures.value at c.in-Ok.ensures.found in
    subst IsTable (at.put c.args.new refl)
    (IsTable-put c.args.new c.self.inside.records.items c.self.invariant (c.requires, c.has.ensures.ascending))

-- a sound record goes in
pub invariant_of-self-in-Continue-1 : goal.invariant_of-self-in-Continue-1
invariant_of-self-in-Continue-1 c =
    let gap : IsGap c.self.inside.records.items c.args.new.name c.in-Err.place = rw c.as_slice.ensures.value at c.in-Err.ensures.absent in
    subst IsTable (gap.put c.args.new refl ∙ sym c.in_ok-insert-in-Err.ensures.items)
    (IsTable-put c.args.new c.self.inside.records.items c.self.invariant (c.requires, c.has.ensures.ascending))
