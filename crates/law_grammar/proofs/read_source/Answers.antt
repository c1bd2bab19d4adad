use Rattle.law_grammar.proofs.Failures.{on_fault}
use Rattle.law_grammar.proofs.read_source.Goals as goal

pub returns-clause-single : goal.returns-clause-single
returns-clause-single c = λ ds es r q.
    let law = c.spellings_are_read_by_the_grammar.ensures c.args.file.now c.args.bytes.now c.args.nesting in
    c.read_deep.ensures.single ds es ((law ds).1 r) ((law es).1 q)

pub returns-clause-refused : goal.returns-clause-refused
returns-clause-refused c = on_fault c.failures_are_told_by_bytes.ensures c.args.file.now c.args.bytes.now c.args.nesting c.read_deep.result c.read_deep.ensures.refused

pub returns-clause-faulted : goal.returns-clause-faulted
returns-clause-faulted c = λ f p. c.read_deep.ensures.faulted f ((c.failures_are_told_by_bytes.ensures c.args.file.now c.args.bytes.now c.args.nesting f).1 p)
