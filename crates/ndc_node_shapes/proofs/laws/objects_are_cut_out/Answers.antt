use Rattle.ndc_node_shapes.proofs.Closing.{object_cut, object_was}
use Rattle.ndc_node_shapes.proofs.laws.objects_are_cut_out.Goals as goal

pub returns-clause-cut : goal.returns-clause-cut
returns-clause-cut c = object_cut

pub returns-clause-stands : goal.returns-clause-stands
returns-clause-stands c = object_was
