-- So does what is done with a form of a body before its uses are expanded.
use Rattle.std.proofs.Common.{ℕ, Bool, true, false, List, Result, Ok, Err, refl}
use Rattle.std.specs.Prelude.{not, ◌&&◌, ◌||◌}
use Rattle.base_data.specs.Act.{give}
use Rattle.base_data.specs.declared.fault.Fault.{Fault}
use Rattle.base_data.specs.declared.name.Label.{Label}
use Rattle.stx_tree.specs.Tree.{Tree, atom, leaf, pair, vector}
use Rattle.core_language.specs.declared.core_form.CoreForm.{CoreForm}
use Rattle.core_language.specs.declared.record.CompiledLibrary.{CompiledLibrary}
use Rattle.core_shapes.specs.At.{place_of}
use Rattle.core_shapes.specs.Forms.{shape}
use Rattle.core_shapes.specs.Lists.{is_leaf}
use Rattle.core_shapes.specs.declared.shape.BindingSpec.{BindingSpec}
use Rattle.core_shapes.specs.declared.shape.Shape.{Shape}
use Rattle.core_shapes.specs.declared.shape.Shape.TheVariants as shapes
use Rattle.expand_standing.specs.Binders.{bind_variable}
use Rattle.expand_standing.specs.Standing.{standing_of, role_of}
use Rattle.expand_standing.specs.State.{State}
use Rattle.expand_standing.specs.Uses.{asks_variable, bind_keyword}
use Rattle.expand_standing.specs.declared.standing.Role.{Role}
use Rattle.expand_standing.specs.declared.standing.Role.TheVariants as role
use Rattle.expand_standing.specs.declared.standing.Standing.{Standing}
use Rattle.expand_standing.specs.declared.standing.Standing.TheVariants as standing
use Rattle.expand_heads.specs.declared.item.HeadItem.{HeadItem}
use Rattle.expand_heads.specs.declared.item.HeadItem.TheVariants as head_items
use Rattle.expand_heads.specs.Items.{wait, keep, any_changed, is_mixed, is_top, heads_like, with_waiting, in_time, keyword_in_time, define, define_keyword, define_item, alone, target_item, set_item, begin_item, keywords_item, with_shape, item_by, core_item, headed_item, list_item, leaf_by, leaf_item, item_plan}
use Rattle.expand_heads.specs.declared.item.Item.TheVariants as items
use Rattle.expand_heads.specs.declared.taken.BodyAt.{BodyAt}
use Rattle.expand_heads.specs.declared.taken.Taken.{Taken}
use Rattle.expand_heads.specs.declared.taken.Waits.TheVariants as waits
use Rattle.expand_forms.specs.ExpandUses.{set_item_step, item_step_of, item_step}
use Rattle.law_counts.proofs.Standing.{Keeps, keeps-after, keeps-if, variable-keeps, bind-keyword-keeps, asks-variable-keeps}

module _ (at : BodyAt) where
  in-time-keeps : (d : Taken) (id : Tree) (s : State) → Keeps s (in_time at d id s)
  unfolding in_time
  in-time-keeps d id s = keeps-if s (any_changed false s (heads_like d id)) _ _ (λ e. tt) (λ e. refl)

  keyword-in-time-keeps : (d : Taken) (id : Tree) (s : State) → Keeps s (keyword_in_time at d id s)
  unfolding keyword_in_time
  keyword-in-time-keeps d id s = keeps-if s (d.moved || any_changed true s (heads_like d id)) _ _ (λ e. tt) (λ e. refl)

  define-keeps : (d : Taken) (t id : Tree) (s : State) → Keeps s (define at d t id s)
  unfolding define
  define-keeps d t id s =
      keeps-if s (d.has_expression && not (is_mixed at.kind)) _ _ (λ e. tt)
      (λ e. keeps-after s (bind_variable at.frame at.place at.level (is_top at.kind) id s) _ (variable-keeps at.frame at.place at.level (is_top at.kind) id s)
      (λ l u. keeps-after u (in_time at d id u) (λ taken. give (taken, l)) (in-time-keeps d id u) (λ x v. refl)))

  pub define-keyword-keeps : (d : Taken) (t : Tree) (b : BindingSpec) (s : State) → Keeps s (define_keyword at d t b s)
  unfolding define_keyword
  define-keyword-keeps d t b s =
      keeps-if s (d.has_expression && not (is_mixed at.kind)) _ _ (λ e. tt)
      (λ e. keeps-after s (bind_keyword at.frame at.place at.level b s) _ (bind-keyword-keeps at.frame at.place at.level b s)
      (λ k u. keeps-after u (keyword_in_time at d b.id u) (λ _. give k) (keyword-in-time-keeps d b.id u) (λ x v. refl)))

  module _ (depth : ℕ) where
    alone-wait-keeps : (d : Taken) (t : Tree) (s : State) → Keeps s (alone (wait at depth d t) s)
    alone-wait-keeps d t s = refl

    define-item-keeps : (d : Taken) (t : Tree) (x : Shape) (s : State) → Keeps s (define_item at depth d t x s)
    unfolding define_item
    define-item-keeps d t (shapes.Define id value) s =
        keeps-after s (define at d t id s) (λ p. give (with_waiting at depth p.0 (waits.Variable p.1 value))) (define-keeps d t id s) (λ p u. refl)
    define-item-keeps d t (shapes.DefineProcedure id ids forms) s =
        keeps-after s (define at d t id s) (λ p. give (with_waiting at depth p.0 (waits.Procedure p.1 t ids forms))) (define-keeps d t id s) (λ p u. refl)
    define-item-keeps d t _ s = tt

    keep-keeps : (d : Taken) (id : Tree) (s : State) → Keeps s (keep d id s)
    unfolding keep
    keep-keeps d id s = refl

    target-item-keeps : (d : Taken) (t : Tree) (st : Standing) (s : State) → Keeps s (target_item at depth d t st s)
    target-item-keeps d t (standing.Keyword l) s = refl
    target-item-keeps d t standing.Nothing s = refl
    target-item-keeps d t (standing.Variable v) s = refl
    target-item-keeps d t standing.PatternVariable s = refl
    target-item-keeps d t (standing.Primitive o) s = refl
    target-item-keeps d t (standing.Core f) s = refl

    set-item-keeps : (d : Taken) (t : Tree) (r : Result Shape Fault) (s : State) → Keeps s (set_item at depth d t r s)
    set-item-keeps d t (Ok (shapes.Set id value)) s = keeps-after s (keep d id s) _ (keep-keeps d id s) (λ kept u. target-item-keeps kept t (standing_of u id) u)
    set-item-keeps d t (Ok (shapes.Quote datum)) s = refl
    set-item-keeps d t (Ok (shapes.Lambda ids forms)) s = refl
    set-item-keeps d t (Ok (shapes.CaseLambda cs)) s = refl
    set-item-keeps d t (Ok (shapes.If test consequent other)) s = refl
    set-item-keeps d t (Ok (shapes.Begin forms)) s = refl
    set-item-keeps d t (Ok (shapes.Letrec bs forms)) s = refl
    set-item-keeps d t (Ok (shapes.Define id value)) s = refl
    set-item-keeps d t (Ok (shapes.DefineProcedure id ids forms)) s = refl
    set-item-keeps d t (Ok (shapes.DefineSyntax id value)) s = refl
    set-item-keeps d t (Ok (shapes.LetSyntax bs forms)) s = refl
    set-item-keeps d t (Ok (shapes.Operand operand)) s = refl
    set-item-keeps d t (Ok (shapes.SyntaxCase subject literals clauses)) s = refl
    set-item-keeps d t (Err e) s = refl

    begin-item-keeps : (d : Taken) (t : Tree) (x : Shape) (s : State) → Keeps s (begin_item at d t x s)
    unfolding begin_item
    begin-item-keeps d t (shapes.Begin forms) s = refl
    begin-item-keeps d t _ s = tt

    keywords-item-keeps : (d : Taken) (t : Tree) (f : CoreForm) (x : Shape) (s : State) → Keeps s (keywords_item at d t f x s)
    unfolding keywords_item
    keywords-item-keeps d t f (shapes.DefineSyntax id value) s = refl
    keywords-item-keeps d t f (shapes.LetSyntax bs forms) s = refl
    keywords-item-keeps d t f _ s = tt

    begin-shape-keeps : (d : Taken) (t : Tree) (r : Result Shape Fault) (s : State) → Keeps s (with_shape r (begin_item at d t) s)
    begin-shape-keeps d t (Err e) s = tt
    begin-shape-keeps d t (Ok x) s = begin-item-keeps d t x s

    define-shape-keeps : (d : Taken) (t : Tree) (r : Result Shape Fault) (s : State) → Keeps s (with_shape r (λ x. alone (define_item at depth d t x)) s)
    define-shape-keeps d t (Err e) s = tt
    define-shape-keeps d t (Ok x) s = keeps-after s (define_item at depth d t x s) (λ done. give (done, head_items.Item items.Nothing)) (define-item-keeps d t x s) (λ y u. refl)

    keywords-shape-keeps : (d : Taken) (t : Tree) (f : CoreForm) (r : Result Shape Fault) (s : State) → Keeps s (with_shape r (keywords_item at d t f) s)
    keywords-shape-keeps d t f (Err e) s = tt
    keywords-shape-keeps d t f (Ok x) s = keywords-item-keeps d t f x s

    role-keeps : (d : Taken) (t : Tree) (f : CoreForm) (r : Role) (s : State) → Keeps s (item_by at depth d t f r s)
    role-keeps d t f role.Expression s = refl
    role-keeps d t f role.Assignment s = set-item-keeps d t (shape f t at.place) s
    role-keeps d t f role.Sequence s = begin-shape-keeps d t (shape f t at.place) s
    role-keeps d t f role.Definition s = define-shape-keeps d t (shape f t at.place) s
    role-keeps d t f role.Keywords s = keywords-shape-keeps d t f (shape f t at.place) s
    role-keeps d t f role.Record s = refl
    role-keeps d t f role.RecordValue s = refl
    role-keeps d t f role.Auxiliary s = refl

    core-keeps : (d : Taken) (t : Tree) (f : CoreForm) (s : State) → Keeps s (core_item at depth d t f s)
    unfolding core_item
    core-keeps d t f s = role-keeps d t f (role_of f) s

    headed-keeps : (d : Taken) (t : Tree) (st : Standing) (s : State) → Keeps s (headed_item at depth d t st s)
    headed-keeps d t standing.Nothing s = refl
    headed-keeps d t (standing.Variable v) s = refl
    headed-keeps d t standing.PatternVariable s = refl
    headed-keeps d t (standing.Primitive o) s = refl
    headed-keeps d t (standing.Core f) s = core-keeps d t f s
    headed-keeps d t (standing.Keyword l) s = refl

    list-keeps : (d : Taken) (t head : Tree) (s : State) → Keeps s (list_item at depth d t head s)
    unfolding list_item
    list-keeps d t head s =
        keeps-if s (is_leaf head) _ _ (λ e. keeps-after s (keep d head s) _ (keep-keeps d head s) (λ kept u. headed-keeps kept t (standing_of u head) u)) (λ e. refl)

    leaf-by-keeps : (d : Taken) (t : Tree) (st : Standing) (s : State) → Keeps s (leaf_by at depth d t st s)
    leaf-by-keeps d t standing.Nothing s = refl
    leaf-by-keeps d t (standing.Variable v) s = refl
    leaf-by-keeps d t standing.PatternVariable s = refl
    leaf-by-keeps d t (standing.Primitive o) s = refl
    leaf-by-keeps d t (standing.Core f) s = refl
    leaf-by-keeps d t (standing.Keyword l) s = refl

    leaf-keeps : (d : Taken) (t : Tree) (s : State) → Keeps s (leaf_item at depth d t s)
    unfolding leaf_item
    leaf-keeps d t s = keeps-after s (keep d t s) _ (keep-keeps d t s) (λ kept u. leaf-by-keeps kept t (standing_of u t) u)

    plan-keeps : (d : Taken) (t : Tree) (s : State) → Keeps s (item_plan at depth d t s)
    plan-keeps d (atom r a) s = refl
    plan-keeps d (leaf r x c) s = leaf-keeps d (leaf r x c) s
    plan-keeps d (pair r a e) s = list-keeps d (pair r a e) a s
    plan-keeps d (vector r e) s = refl

module _ (rs : List CompiledLibrary) where
  set-step-keeps : (at : BodyAt) (depth : ℕ) (d : Taken) (t : Tree) (l : Label) (b : Bool) (s : State) → Keeps s (set_item_step at depth d t l b s)
  set-step-keeps at depth d t l true s = refl
  set-step-keeps at depth d t l false s = refl

  step-of-keeps : (at : BodyAt) (depth : ℕ) (t : Tree) (d : Taken) (i : HeadItem) (s : State) → Keeps s (item_step_of rs at depth t d i s)
  step-of-keeps at depth t d (head_items.Use k) s = refl
  step-of-keeps at depth t d (head_items.SetUse l) s =
      keeps-after s (asks_variable rs (place_of t at.place) l s) (set_item_step at depth d t l) (asks-variable-keeps rs (place_of t at.place) l s) (λ b u. set-step-keeps at depth d t l b u)
  step-of-keeps at depth t d (head_items.Item i) s = refl

  pub step-keeps : (at : BodyAt) (depth : ℕ) (d : Taken) (t : Tree) (s : State) → Keeps s (item_step rs at depth d t s)
  unfolding item_step
  step-keeps at depth d t s = keeps-after s (item_plan at depth d t s) (λ p. item_step_of rs at depth t p.0 p.1) (plan-keeps at depth d t s) (λ p u. step-of-keeps at depth t p.0 p.1 u)
