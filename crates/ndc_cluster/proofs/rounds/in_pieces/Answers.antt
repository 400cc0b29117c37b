use Rattle.std.proofs.Common.{map, refl, ap, sym, subst, ◌∙◌}
use Rattle.std.specs.List.{AllByRecursion}
use Rattle.std.specs.Option.{option_map}
use Rattle.std.proofs.lemmas.List.{length-map}
use Rattle.ndc_cluster.specs.Rounds.{LeftValue, SlotMay, dealt}
use Rattle.ndc_cluster.proofs.DealLemmas.{AreBelow, slots_may}
use Rattle.ndc_cluster.proofs.WholeLemmas.{found_is, fresh_moved, left_part, none_found, ready_all, slots_cells, slots_fresh, slots_many, slots_replies, whole_done}
use Rattle.ndc_cluster.proofs.rounds.in_pieces.Goals as goal

pub work_list-requires-after_bounds : goal.work_list-requires-after_bounds
work_list-requires-after_bounds g c =
    let cut = c.in_ok-pieces.ensures.slots ∙ c.in_ok-deal.ensures ∙ ap (dealt c.args.jobs.now) c.in_ok-slots.ensures in
    let may = slots_may c.args.desk.now c.args.jobs.now (map g.C.Cell.cell c.args.cells.items) g.C.Cell.allows c.requires.allowed in
    λ κs bounds. (ready_all _ _ c.args.desk.now g.C.Cell.allows c.in_ok-pieces.pieces.items (subst (AllByRecursion (SlotMay g.C.Cell.allows c.args.desk.now)) (sym cut) may) c.in_ok-pieces.ensures.desks)

pub collect-requires : goal.collect-requires
collect-requires g c =
    let cut = c.in_ok-pieces.ensures.slots ∙ c.in_ok-deal.ensures ∙ ap (dealt c.args.jobs.now) c.in_ok-slots.ensures in
    let done =
    whole_done _ _ _ _ c.args.desk.now c.in_ok-pieces.pieces.items c.in_ok-pieces.pieces.items c.work_list.new.pieces.items _ c.in_ok-slots-2.slots.items cut refl c.in_ok-pieces.ensures.desks c.work_list.ensures
    c.in_ok-slots-2.ensures.whole c.in_ok-slots-2.ensures.slots in
    subst (λ n. AreBelow n c.args.jobs.now) (sym (slots_many _ c.args.desk.now c.args.jobs.now (map g.C.Cell.cell c.args.cells.items) c.in_ok-slots-2.slots.items done ∙ length-map c.args.cells.items g.C.Cell.cell)) c.requires.shards

pub unreachable-requires : goal.unreachable-requires
unreachable-requires g c =
    let cut = c.in_ok-pieces.ensures.slots ∙ c.in_ok-deal.ensures ∙ ap (dealt c.args.jobs.now) c.in_ok-slots.ensures in
    let done =
    whole_done _ _ _ _ c.args.desk.now c.in_ok-pieces.pieces.items c.in_ok-pieces.pieces.items c.work_list.new.pieces.items _ c.in_ok-slots-2.slots.items cut refl c.in_ok-pieces.ensures.desks c.work_list.ensures
    c.in_ok-slots-2.ensures.whole c.in_ok-slots-2.ensures.slots in
    let below = subst (λ n. AreBelow n c.args.jobs.now) (sym (length-map c.args.cells.items g.C.Cell.cell)) c.requires.shards in
    none_found _ c.in_ok-replies.field-0 _ c.in_default.is (c.in_ok-replies.ensures.replies ∙ slots_replies _ c.args.desk.now c.args.jobs.now (map g.C.Cell.cell c.args.cells.items) c.in_ok-slots-2.slots.items done below)

pub returns-clause-cells : goal.returns-clause-cells
returns-clause-cells g c =
    let cut = c.in_ok-pieces.ensures.slots ∙ c.in_ok-deal.ensures ∙ ap (dealt c.args.jobs.now) c.in_ok-slots.ensures in
    let done =
    whole_done _ _ _ _ c.args.desk.now c.in_ok-pieces.pieces.items c.in_ok-pieces.pieces.items c.work_list.new.pieces.items _ c.in_ok-slots-2.slots.items cut refl c.in_ok-pieces.ensures.desks c.work_list.ensures
    c.in_ok-slots-2.ensures.whole c.in_ok-slots-2.ensures.slots in
    c.in_ok-left.ensures.cells ∙ left_part _ (λ (left : LeftValue). left.cell) _ _ c.in_ok-replies.ensures.cells ∙ slots_cells _ c.args.desk.now c.args.jobs.now (map g.C.Cell.cell c.args.cells.items) c.in_ok-slots-2.slots.items done

pub returns-clause-replies : goal.returns-clause-replies
returns-clause-replies g c =
    let cut = c.in_ok-pieces.ensures.slots ∙ c.in_ok-deal.ensures ∙ ap (dealt c.args.jobs.now) c.in_ok-slots.ensures in
    let done =
    whole_done _ _ _ _ c.args.desk.now c.in_ok-pieces.pieces.items c.in_ok-pieces.pieces.items c.work_list.new.pieces.items _ c.in_ok-slots-2.slots.items cut refl c.in_ok-pieces.ensures.desks c.work_list.ensures
    c.in_ok-slots-2.ensures.whole c.in_ok-slots-2.ensures.slots in
    let below = subst (λ n. AreBelow n c.args.jobs.now) (sym (length-map c.args.cells.items g.C.Cell.cell)) c.requires.shards in
    found_is _ _ (ap (option_map (λ replies. replies.items)) (sym c.in-Some.is) ∙ c.in_ok-replies.ensures.replies ∙ slots_replies _ c.args.desk.now c.args.jobs.now (map g.C.Cell.cell c.args.cells.items) c.in_ok-slots-2.slots.items done below)

pub returns-clause-fresh : goal.returns-clause-fresh
returns-clause-fresh g c =
    let cut = c.in_ok-pieces.ensures.slots ∙ c.in_ok-deal.ensures ∙ ap (dealt c.args.jobs.now) c.in_ok-slots.ensures in
    let done =
    whole_done _ _ _ _ c.args.desk.now c.in_ok-pieces.pieces.items c.in_ok-pieces.pieces.items c.work_list.new.pieces.items _ c.in_ok-slots-2.slots.items cut refl c.in_ok-pieces.ensures.desks c.work_list.ensures
    c.in_ok-slots-2.ensures.whole c.in_ok-slots-2.ensures.slots in
    let made = c.in_ok-left.ensures.fresh ∙ left_part _ (λ (left : LeftValue). left.fresh) _ _ c.in_ok-replies.ensures.cells in
    let cells = c.in_ok-left.ensures.cells ∙ left_part _ (λ (left : LeftValue). left.cell) _ _ c.in_ok-replies.ensures.cells in
    fresh_moved _ _ _ _ made cells
    (slots_fresh _ c.args.desk.now c.args.jobs.now (map g.C.Cell.cell c.args.cells.items) c.in_ok-slots-2.slots.items done (λ slot. slot.fresh) (λ slot. refl) (λ slot. refl))
