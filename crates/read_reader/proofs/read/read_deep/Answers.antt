use Rattle.read_reader.proofs.Laws.{is_read, is_refused, spelled_once}
use Rattle.read_reader.proofs.read.read_deep.Goals as goal

pub returns : goal.returns
returns c =
    let so = c.read_lexemes.ensures in
    record {
      gives = so.gives;
      spelled = so.spelled;
      complete = λ ds s. is_read c.args.file.now c.args.bytes.now c.args.nesting (λ v. v.items) c.read_lexemes.result so.spelled so.refused ds s;
      refused = so.refused;
      faulted = λ f first. is_refused c.args.file.now c.args.bytes.now c.args.nesting (λ v. v.items) c.read_lexemes.result so.spelled so.refused f first;
      single = λ ds es s u. spelled_once c.args.file.now c.args.bytes.now c.args.nesting ds es s u;
    }
