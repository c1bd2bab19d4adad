use Rattle.law_core_grammar.proofs.Bound.{names_are_generated, names_tell_apart}
use Rattle.law_core_grammar.proofs.Given.{bound_have_names}
use Rattle.law_core_grammar.proofs.names_are_told_by_bindings.Goals as goal

pub returns-clause-given : goal.returns-clause-given
returns-clause-given c = bound_have_names

pub returns-clause-generated : goal.returns-clause-generated
returns-clause-generated c = names_are_generated

pub returns-clause-apart : goal.returns-clause-apart
returns-clause-apart c = names_tell_apart
