use Rattle.law_run.proofs.TextsPass.{texts_pass}
use Rattle.law_run.proofs.pass.written_texts_pass.Goals as goal

pub returns : goal.returns
returns c =
    texts_pass c.spellings_are_read_by_the_grammar.ensures c.core_texts_are_spellings.ensures.lines c.core_text_of_a_run_is_spelled.ensures
    c.a_written_text_is_closed_and_bound_once_by_name.ensures c.texts_of_runs_nest.ensures.texts
