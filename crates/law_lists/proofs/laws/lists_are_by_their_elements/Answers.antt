use Rattle.law_lists.proofs.RunLemmas.{run_elements, elements_run, is_list, said_list, list_length, list_reversed}
use Rattle.law_lists.proofs.laws.lists_are_by_their_elements.Goals as goal

pub returns : goal.returns
returns c = record {
  elements = λ cells xs x w r. run_elements cells w r;
  only = elements_run;
  is_list = λ cells xs x w r. is_list cells w r;
  no_other = λ cells x h. said_list cells x h;
  length = λ cells xs x w r. list_length cells w r;
  reverse = λ cells xs x w r. list_reversed cells w r;
}
