use Rattle.law_report.proofs.Instances.{instances-are-given}
use Rattle.law_report.proofs.laws.instances_are_those_of_the_report.Goals as goal

pub returns : goal.returns
returns c = instances-are-given
