use Rattle.std.proofs.Common.{◌∙◌, sym}
use Rattle.std.proofs.lemmas.Result.{IfOk-weaker}
use Rattle.stx_object.proofs.ListLemmas.{list_rest, other_rest}
use Rattle.stx_object.proofs.kept.Kept.as_rest.Goals as goal

pub returns-then-is_list : goal.returns-then-is_list
returns-then-is_list c = IfOk-weaker c.bare.result _ _ (λ k h. h ∙ list_rest c.args.self.now (sym c.is_list.ensures ∙ c.if-is_list.true)) c.bare.ensures

pub returns-else-is_list : goal.returns-else-is_list
returns-else-is_list c = IfOk-weaker c.share.result _ _ (λ k h. h ∙ other_rest c.args.self.now (sym c.is_list.ensures ∙ c.if-is_list.false)) c.share.ensures
