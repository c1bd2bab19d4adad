use Rattle.law_prelude_code.proofs.Expanded.{texts-expand, texts-spend-nothing}
use Rattle.law_prelude_code.proofs.Table.{table-is-written}
use Rattle.law_prelude_code.proofs.texts_expand_to_what_is_written.Goals as goal

pub returns : goal.returns
returns c = record { codes = texts-expand; table = table-is-written; fuel = texts-spend-nothing }
