use Rattle.std.proofs.Common.{◌≡◌, List, ℕ, Option, subst, sym, ◌∙◌}
use Rattle.std.proofs.lemmas.Result.{IfOk-weaker}
use Rattle.base_data.specs.declared.span.Span.{Span}
use Rattle.base_bytes.specs.Codec.{optional}
use Rattle.base_bytes.specs.Names.{span}
use Rattle.base_bytes.specs.Puts.{Puts}
use Rattle.core_codec.specs.Trees as spell
use Rattle.core_tree_bytes.proofs.Level.{tree_puts}
use Rattle.core_tree_bytes.proofs.trees.+tree_put.Goals as goal

pub put_level-returns : goal.put_level-returns
put_level-returns t c =
    let parts = rw c.in-Some.is at c.in_ok-parts.ensures in
    let puts = subst (λ (z : Option Span). Puts (optional span) z c.args.out.now.items c.put_span.new.out.items) c.span.ensures c.in_ok-put_span.ensures in
    IfOk-weaker c.put_parts.result _ _
    (λ b h. tree_puts (spell.tree c.args.room) c.args.tree.now c.in-Some.parts c.args.out.now.items c.put_span.new.out.items c.put_parts.new.out.items b (sym c.if-not-is_within.false ∙ c.is_within.ensures) parts.0 parts.1 puts h) c.put_parts.ensures
