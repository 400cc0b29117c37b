use Rattle.std.proofs.Common.{length, slice_get, ap, sym, ◌∙◌, arith}
use Rattle.ndc_model_cells.specs.Cells.{Cell, message_at}
use Rattle.ndc_shard.proofs.SentLemmas.{many-sent, sent-at, sent-there}
use Rattle.ndc_shard.proofs.shard.Shard.written_at.Goals as goal

pub index-at-requires : goal.index-at-requires
index-at-requires c = omega (arith, c.requires, many-sent c.self.inside.workflows c.self.inside.places.items c.self.invariant.sent, ap (λ (cell : Cell). length cell.written) c.self.view_is)

pub unreachable-requires : goal.unreachable-requires
unreachable-requires c =
    sent-there c.self.inside.workflows c.self.inside.places.items c.self.invariant.sent c.args.place c.index-at.result.now
    (omega (arith, c.requires, many-sent c.self.inside.workflows c.self.inside.places.items c.self.invariant.sent, ap (λ (cell : Cell). length cell.written) c.self.view_is))
    c.index-at.ensures (ap (λ (cell : Cell). message_at cell c.index-at.result.now) c.self.view_is ∙ sym c.in_ok-found.ensures ∙ c.in-None.is)

pub returns : goal.returns
returns c =
    ap (λ (cell : Cell). slice_get cell.written c.args.place) (sym c.self.view_is)
    ∙ sent-at c.self.inside.workflows c.self.inside.places.items c.self.invariant.sent c.args.place c.index-at.result.now
    (omega (arith, c.requires, many-sent c.self.inside.workflows c.self.inside.places.items c.self.invariant.sent, ap (λ (cell : Cell). length cell.written) c.self.view_is))
    c.index-at.ensures ∙ ap (λ (cell : Cell). message_at cell c.index-at.result.now) c.self.view_is ∙ sym c.in_ok-found.ensures ∙ c.in-Some.is
