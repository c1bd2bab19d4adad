-- Definitions of keywords (R6RS 11.2.2 and 11.18).
use Rattle.std.specs.Prelude.{ℕ, Bool, List, [], ◌∷◌, map, if◌then◌else◌}
use Rattle.base_data.specs.Act.{after, give, gather}
use Rattle.base_data.specs.declared.name.FrameNo.{FrameNo}
use Rattle.stx_tree.specs.Tree.{Tree}
use Rattle.stx_tree.specs.Changes.{stamp}
use Rattle.core_shapes.specs.At.{place_of}
use Rattle.core_shapes.specs.declared.shape.BindingSpec.{BindingSpec}
use Rattle.expand_standing.specs.InScope.{apart}
use Rattle.expand_standing.specs.State.{Does, fresh_frame}
use Rattle.expand_standing.specs.Uses.{bind_keywords, evaluate_transformer}
use Rattle.expand_standing.specs.declared.binders.BoundSpec.{BoundSpec}
use Rattle.expand_heads.specs.Items.{define_keyword}
use Rattle.expand_heads.specs.declared.taken.BodyAt.{BodyAt}
use Rattle.expand_heads.specs.declared.taken.Taken.{Taken}
use Rattle.expand_forms.specs.Forms.{KeywordDefinition, LetSyntaxForm}
use Rattle.expand_forms.specs.Inside.{Inside}
use Rattle.expand_forms.specs.Site.{Site, one_up, site_in}

-- the expressions of `letrec-syntax` see its keywords
abbrev pub seen_in : Bool → FrameNo → BoundSpec → BoundSpec
seen_in recursive frame b = if recursive then record b { init = stamp frame b.init } else b

module _ (go : Inside) where
  -- the expression of a keyword is expanded one level up, with nothing in scope, and then evaluated
  unfoldable pub expand_transformer : Site → BoundSpec → Does (Unit {0})
  expand_transformer site b s = after (apart (go.form (one_up site) b.init) s) (evaluate_transformer go.earlier (place_of b.init site.place) b.label)

  abbrev pub expand_transformer_in : Site → Bool → FrameNo → Unit {0} → BoundSpec → Does (Unit {0})
  expand_transformer_in site recursive frame done b = expand_transformer site (seen_in recursive frame b)

  abbrev pub expand_transformers : Site → Bool → FrameNo → List BoundSpec → Does (Unit {0})
  expand_transformers site recursive frame bs = gather (expand_transformer_in site recursive frame) tt bs

  -- the keywords of `let-syntax`, or of `letrec-syntax` where it is recursive, in a frame: all are bound before the first is evaluated
  unfoldable pub keywords : Site → Bool → List BindingSpec → FrameNo → Does (Unit {0})
  keywords site recursive bs frame s = after (bind_keywords frame site.place site.level bs s) (expand_transformers site recursive frame)

  -- such keywords, with the forms in which they stand
  abbrev pub with_keywords : Site → LetSyntaxForm → Does (List Tree)
  with_keywords site f s =
      after (fresh_frame s) (λ frame s'. after (keywords site f.recursive f.specs frame s') (λ _. give (map (stamp frame) f.forms)))

  -- a keyword that a form of a body defines
  unfoldable pub define_syntax : BodyAt → ℕ → Taken → KeywordDefinition → Does (Unit {0})
  define_syntax at depth done d s = after (define_keyword at done d.form d.spec s) (expand_transformer (site_in at depth))
