-- Expressions, keywords and records in which more may be met.
use Rattle.std.proofs.Common.{List, Option}
use Rattle.base_data.specs.declared.name.Label.{Label}
use Rattle.stx_tree.specs.Context.{LeafContext}
use Rattle.core_language.specs.Core.{PlainCore}
use Rattle.core_language.specs.declared.record.CompiledLibrary.{CompiledLibrary}
use Rattle.eval_stage.specs.declared.keyword.Keyword.{Keyword}
use Rattle.law_invariants.proofs.Stages as stages
use Rattle.law_fresh.specs.Leaves.{leaves}
use Rattle.law_fresh.proofs.Wider.{leaves_wider}
use Rattle.law_fresh_expansion.specs.States.{ExpressionHolds, KeywordsHold, RecordsHold}

module _ (P Q : LeafContext → Type 0) (more_met : (c : LeafContext) → P c → Q c) where
  pub expression-wider : (e : Option PlainCore) → ExpressionHolds P e → ExpressionHolds Q e
  expression-wider e h = stages.expression-wider (leaves P) (leaves Q) (leaves_wider P Q more_met) e h

  pub keywords-wider : (ks : List (Label × Keyword)) → KeywordsHold P ks → KeywordsHold Q ks
  keywords-wider ks h = stages.keywords-wider (leaves P) (leaves Q) (leaves_wider P Q more_met) ks h

  pub records-wider : (rs : List CompiledLibrary) → RecordsHold P rs → RecordsHold Q rs
  records-wider rs h = stages.records-wider (leaves P) (leaves Q) (leaves_wider P Q more_met) rs h
