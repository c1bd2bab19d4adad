use Rattle.stx_frames.proofs.MemoLemmas.{numbered, found_if}
use Rattle.stx_frames.proofs.memo.Memo.find.Goals as goal

pub returns : goal.returns
returns c =
    let m = c.self.inside in
    found_if m.stamps.keys c.args.question.now.symbol c.args.question.now.stamps c.in_ok-symbol.symbol c.in-Some.m c.in-Some-get_index_of.t m.answers.entries c.args.self.now c.get.result
    c.in_ok-symbol.ensures (numbered m.stamps.keys c.args.question.now.stamps c.in-Some-get_index_of.t c.in-Some-get_index_of.ensures.index) c.get.ensures.value c.self.view_is
