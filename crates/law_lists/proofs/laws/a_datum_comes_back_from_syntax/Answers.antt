use Rattle.law_lists.proofs.DataLemmas.{syntax_is, syntax_taken, back_again, back_equal}
use Rattle.law_lists.proofs.laws.a_datum_comes_back_from_syntax.Goals as goal

pub returns : goal.returns
returns c = record {
  tree = λ op cells k x id t d is leaf_is h. syntax_is op cells k x id d is leaf_is t h;
  taken = syntax_taken;
  back = λ op name cells k x id t d is leaf_is h. back_again op name cells k x id t d is leaf_is h;
  equal = λ op name cells k x id t d is leaf_is h. back_equal op name cells k x id t d is leaf_is h;
}
