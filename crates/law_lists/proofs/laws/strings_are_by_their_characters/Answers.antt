use Rattle.law_lists.proofs.TextLemmas.{string_length, string_ref, strings_appended, substring_is, string_listed, text_stored}
use Rattle.law_lists.proofs.laws.strings_are_by_their_characters.Goals as goal

pub returns : goal.returns
returns c = record {
  length = λ cells cs x r. string_length cells r;
  character = λ cells cs x k d r e. string_ref cells k d r e;
  append = λ cells css args r. strings_appended cells r;
  substring = λ cells cs x start end r low high. substring_is cells start end r low high;
  listed = λ cells cs x r. string_listed cells r;
  stored = λ cells cs name s. text_stored cells cs name s;
}
