use Rattle.std.proofs.Common.{◌≡◌}
use Rattle.stx_frames.specs.declared.memo.Asked.{Asked}
use Rattle.stx_frames.specs.Kept.{kept}
use Rattle.stx_frames.proofs.MemoLemmas.{stored, numbers_stay, numbers_more, has_stay, has_more}
use Rattle.stx_frames.proofs.memo.Memo.put.Goals as goal

pub invariant_of-self-in-Ok-insert : goal.invariant_of-self-in-Ok-insert
invariant_of-self-in-Ok-insert c =
    let m = c.self.inside in
    let q : Asked = record { symbol = c.args.question.symbol; marks = c.in-Ok.m; stamps = c.in-Ok-insert_full.t } in
    numbers_more m.stamps.keys c.insert_full-2.new.self.keys c.args.question.stamps m.answers.entries c.insert.new.self.entries c.args.self.now c.in-Ok-insert_full.ensures.keys c.self.invariant c.self.view_is q c.args.answer c.in-Ok-insert.ensures.entries c.in-Ok-insert_full.ensures.within

pub returns-in-Ok-insert : goal.returns-in-Ok-insert
returns-in-Ok-insert c =
    let m = c.self.inside in
    let q : Asked = record { symbol = c.args.question.symbol; marks = c.in-Ok.m; stamps = c.in-Ok-insert_full.t } in
    has_more m.stamps.keys c.insert_full-2.new.self.keys c.args.question.stamps m.answers.entries c.insert.new.self.entries c.args.self.now c.in-Ok-insert_full.ensures.keys c.self.invariant c.self.view_is q c.args.answer c.in-Ok-insert.ensures.entries (stored c.insert_full-2.new.self.keys c.args.question.stamps c.in-Ok-insert_full.t c.in-Ok-insert_full.ensures.stored)

pub invariant_of-self-2 : goal.invariant_of-self-2
invariant_of-self-2 c =
    let m = c.self.inside in
    numbers_stay m.stamps.keys c.insert_full-2.new.self.keys c.args.question.stamps m.answers.entries c.insert.new.self.entries c.args.self.now c.in-Ok-insert_full.ensures.keys c.self.invariant c.self.view_is c.in-Err.ensures.err

pub returns : goal.returns
returns c =
    let m = c.self.inside in
    has_stay m.stamps.keys c.insert_full-2.new.self.keys c.args.question.stamps m.answers.entries c.insert.new.self.entries c.args.self.now c.in-Ok-insert_full.ensures.keys c.self.invariant c.self.view_is (λ k. k ≡ kept c.args.question.symbol c.args.question.stamps c.args.answer) c.in-Err.ensures.err
