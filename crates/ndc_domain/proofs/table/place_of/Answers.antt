use Rattle.std.proofs.Common.{rules}
use Rattle.std.proofs.lemmas.Fn.{always_returns_same}
use Rattle.ndc_domain.specs.Records.{names_cmp}
use Rattle.ndc_domain.proofs.Order.{searched}
use Rattle.ndc_domain.proofs.table.place_of.Goals as goal

-- the closure compares a record's name with the one that is sought
pub returns : goal.returns
returns c =
    let facts = c.binary_search_by.ensures in
    let by_name = facts.position (λ one. names_cmp one.name c.args.name.now) (always_returns_same _ _ _ (λ a r g called. (search rules, search rules))) in
    searched c.args.records.now c.requires c.args.name.now _ facts.bound by_name
