use Rattle.stx_object.proofs.Lengths.{extends_on}
use Rattle.stx_object.proofs.kept.Kept.extent_before.Goals as goal

pub returns : goal.returns
returns c =
    extends_on c.args.self.now c.args.rest.now c.extent.result c.extent-2.result c.joint.result c.requires c.joint.ensures c.extent.ensures c.extent-2.ensures
    c.grown.result c.grown.ensures
