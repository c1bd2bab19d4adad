use Rattle.stx_object.proofs.syn.pair_of.Goals as goal

pub returns : goal.returns
returns c = λ s. (c.in_ok-first.ensures, c.in_ok-rest.ensures)
