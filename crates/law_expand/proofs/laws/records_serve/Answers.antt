use Rattle.law_expand.proofs.Serving.{followers-serve, records-serve}
use Rattle.law_expand.proofs.laws.records_serve.Goals as goal

pub returns : goal.returns
returns c = record { followers = followers-serve; records = records-serve }
