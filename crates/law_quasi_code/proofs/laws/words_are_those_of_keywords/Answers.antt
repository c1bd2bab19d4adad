use Rattle.law_quasi_code.proofs.Keywords.{word_is, keyword_is}
use Rattle.law_quasi_code.proofs.laws.words_are_those_of_keywords.Goals as goal

pub returns : goal.returns
returns c = record {
  word = λ f fs t c x k n. word_is f fs t c x k n;
  only = λ f fs t x e some. keyword_is fs f t x some e;
}
