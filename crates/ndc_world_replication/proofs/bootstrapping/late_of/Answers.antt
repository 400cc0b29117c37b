use Rattle.std.proofs.Common.{Option, ap, sym, ◌∙◌}
use Rattle.ndc_model.specs.World.{Link, is_link, link_found}
use Rattle.ndc_world_replication.proofs.LinkLemmas.{IsFound, found_there}
use Rattle.ndc_world_replication.proofs.PlaceLemmas.{found_at, none_found}
use Rattle.ndc_world_replication.proofs.bootstrapping.late_of.Goals as goal

pub returns-in_default : goal.returns-in_default
returns-in_default c =
    sym (ap (λ (found : Option Link). (link_found c.args.reader c.args.source found).late) (none_found (is_link c.args.reader c.args.source) c.args.links.now (sym c.in_default.ensures)))

pub returns : goal.returns
returns c =
    let it : IsFound c.args.reader c.args.source c.args.links.now c.in-Some.place c.index-links-place.result =
    found_there c.args.reader c.args.source c.args.links.now c.in-Some.place c.index-links-place.result (sym c.in-Some.ensures) c.index-links-place.is in
    c.late.ensures
    ∙ sym (ap (λ (found : Option Link). (link_found c.args.reader c.args.source found).late)
    (found_at (is_link c.args.reader c.args.source) c.args.links.now c.in-Some.place c.index-links-place.result it.below it.at it.is it.before))
