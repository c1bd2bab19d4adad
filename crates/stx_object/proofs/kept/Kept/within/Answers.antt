use Rattle.stx_object.specs.KeptView.{whole_of}
use Rattle.stx_object.proofs.NodeLemmas.{fits_node}
use Rattle.stx_object.proofs.kept.Kept.within.Goals as goal

pub returns : goal.returns
returns c = fits_node (whole_of c.self.inside.wrap c.self.inside.node.value) c.args.self.now c.self.view_is c.self.invariant
