-- Forms of a body: definitions of variables add links, and nothing else does.
use Rattle.std.proofs.Common.{ℕ, zero, suc, Bool, true, false, List, Some, Result, Ok, Err, refl}
use Rattle.std.specs.Prelude.{not, ◌&&◌, ◌||◌}
use Rattle.base_data.specs.Act.{after, give}
use Rattle.base_data.specs.declared.fault.Fault.{Fault}
use Rattle.base_data.specs.declared.name.Label.{Label}
use Rattle.stx_tree.specs.Tree.{Tree, atom, leaf, pair, vector}
use Rattle.core_language.specs.declared.core_form.CoreForm.{CoreForm}
use Rattle.core_language.specs.declared.record.CompiledLibrary.{CompiledLibrary}
use Rattle.core_shapes.specs.At.{place_of}
use Rattle.core_shapes.specs.Forms.{shape}
use Rattle.core_shapes.specs.Lists.{is_leaf}
use Rattle.core_shapes.specs.declared.shape.BindingSpec.{BindingSpec}
use Rattle.core_shapes.specs.declared.shape.Shape.{Shape}
use Rattle.core_shapes.specs.declared.shape.Shape.TheVariants as shapes
use Rattle.expand_standing.specs.Binders.{bind_variable}
use Rattle.expand_standing.specs.Standing.{standing_of, role_of}
use Rattle.expand_standing.specs.State.{State}
use Rattle.expand_standing.specs.Uses.{asks_variable, bind_keyword}
use Rattle.expand_standing.specs.declared.standing.Role.{Role}
use Rattle.expand_standing.specs.declared.standing.Role.TheVariants as role
use Rattle.expand_standing.specs.declared.standing.Standing.{Standing}
use Rattle.expand_standing.specs.declared.standing.Standing.TheVariants as standing
use Rattle.expand_heads.specs.declared.item.HeadItem.{HeadItem}
use Rattle.expand_heads.specs.declared.item.HeadItem.TheVariants as head_items
use Rattle.expand_heads.specs.Items.{wait, keep, any_changed, is_mixed, is_top, heads_like, with_waiting, in_time, keyword_in_time, define, define_keyword, define_item, alone, target_item, set_item, begin_item, keywords_item, with_shape, item_by, core_item, headed_item, list_item, leaf_by, leaf_item, item_plan}
use Rattle.expand_heads.specs.declared.item.Item.TheVariants as items
use Rattle.expand_heads.specs.declared.taken.BodyAt.{BodyAt}
use Rattle.expand_heads.specs.declared.taken.Taken.{Taken}
use Rattle.expand_heads.specs.declared.taken.Waits.TheVariants as waits
use Rattle.expand_forms.specs.ExpandUses as settling
use Rattle.expand_forms.specs.ExpandUses.{next_form, too_many, at_use, set_item_step, item_step_of, item_step, expand_item_uses_to, expand_item_uses}
use Rattle.expand_forms.specs.declared.expand_uses.ItemOrUse.{ItemOrUse}
use Rattle.expand_forms.specs.declared.expand_uses.ItemOrUse.TheVariants as item_steps
use Rattle.law_links.proofs.Grown.{grows-same, Grew, grew-after, grew-if}
use Rattle.law_links.proofs.Settling.{next-form-grew}
use Rattle.law_links.proofs.Standing.{variable-grew, bind-keyword-grew, asks-variable-grew}

module _ (at : BodyAt) where
  in-time-grew : (d : Taken) (id : Tree) (s : State) → Grew s (in_time at d id s)
  unfolding in_time
  in-time-grew d id s = grew-if s (any_changed false s (heads_like d id)) _ _ (λ e. tt) (λ e. grows-same s s refl)

  keyword-in-time-grew : (d : Taken) (id : Tree) (s : State) → Grew s (keyword_in_time at d id s)
  unfolding keyword_in_time
  keyword-in-time-grew d id s = grew-if s (d.moved || any_changed true s (heads_like d id)) _ _ (λ e. tt) (λ e. grows-same s s refl)

  define-grew : (d : Taken) (t id : Tree) (s : State) → Grew s (define at d t id s)
  unfolding define
  define-grew d t id s =
      grew-if s (d.has_expression && not (is_mixed at.kind)) _ _ (λ e. tt)
      (λ e. grew-after s (bind_variable at.frame at.place at.level (is_top at.kind) id s) _ (variable-grew at.frame at.place at.level (is_top at.kind) id s)
      (λ l u. grew-after u (in_time at d id u) (λ taken. give (taken, l)) (in-time-grew d id u) (λ x v. grows-same v v refl)))

  pub define-keyword-grew : (d : Taken) (t : Tree) (b : BindingSpec) (s : State) → Grew s (define_keyword at d t b s)
  unfolding define_keyword
  define-keyword-grew d t b s =
      grew-if s (d.has_expression && not (is_mixed at.kind)) _ _ (λ e. tt)
      (λ e. grew-after s (bind_keyword at.frame at.place at.level b s) _ (bind-keyword-grew at.frame at.place at.level b s)
      (λ k u. grew-after u (keyword_in_time at d b.id u) (λ _. give k) (keyword-in-time-grew d b.id u) (λ x v. grows-same v v refl)))

  module _ (depth : ℕ) where
    alone-wait-grew : (d : Taken) (t : Tree) (s : State) → Grew s (alone (wait at depth d t) s)
    alone-wait-grew d t s = grows-same s s refl

    define-item-grew : (d : Taken) (t : Tree) (x : Shape) (s : State) → Grew s (define_item at depth d t x s)
    unfolding define_item
    define-item-grew d t (shapes.Define id value) s =
        grew-after s (define at d t id s) (λ p. give (with_waiting at depth p.0 (waits.Variable p.1 value))) (define-grew d t id s) (λ p u. grows-same u u refl)
    define-item-grew d t (shapes.DefineProcedure id ids forms) s =
        grew-after s (define at d t id s) (λ p. give (with_waiting at depth p.0 (waits.Procedure p.1 t ids forms))) (define-grew d t id s) (λ p u. grows-same u u refl)
    define-item-grew d t _ s = tt

    keep-grew : (d : Taken) (id : Tree) (s : State) → Grew s (keep d id s)
    unfolding keep
    keep-grew d id s = grows-same s s refl

    target-item-grew : (d : Taken) (t : Tree) (st : Standing) (s : State) → Grew s (target_item at depth d t st s)
    target-item-grew d t (standing.Keyword l) s = grows-same s s refl
    target-item-grew d t standing.Nothing s = grows-same s s refl
    target-item-grew d t (standing.Variable v) s = grows-same s s refl
    target-item-grew d t standing.PatternVariable s = grows-same s s refl
    target-item-grew d t (standing.Primitive o) s = grows-same s s refl
    target-item-grew d t (standing.Core f) s = grows-same s s refl

    set-item-grew : (d : Taken) (t : Tree) (r : Result Shape Fault) (s : State) → Grew s (set_item at depth d t r s)
    set-item-grew d t (Ok (shapes.Set id value)) s = grew-after s (keep d id s) _ (keep-grew d id s) (λ kept u. target-item-grew kept t (standing_of u id) u)
    set-item-grew d t (Ok (shapes.Quote datum)) s = grows-same s s refl
    set-item-grew d t (Ok (shapes.Lambda ids forms)) s = grows-same s s refl
    set-item-grew d t (Ok (shapes.CaseLambda cs)) s = grows-same s s refl
    set-item-grew d t (Ok (shapes.If test consequent other)) s = grows-same s s refl
    set-item-grew d t (Ok (shapes.Begin forms)) s = grows-same s s refl
    set-item-grew d t (Ok (shapes.Letrec bs forms)) s = grows-same s s refl
    set-item-grew d t (Ok (shapes.Define id value)) s = grows-same s s refl
    set-item-grew d t (Ok (shapes.DefineProcedure id ids forms)) s = grows-same s s refl
    set-item-grew d t (Ok (shapes.DefineSyntax id value)) s = grows-same s s refl
    set-item-grew d t (Ok (shapes.LetSyntax bs forms)) s = grows-same s s refl
    set-item-grew d t (Ok (shapes.Operand operand)) s = grows-same s s refl
    set-item-grew d t (Ok (shapes.SyntaxCase subject literals clauses)) s = grows-same s s refl
    set-item-grew d t (Err e) s = grows-same s s refl

    begin-item-grew : (d : Taken) (t : Tree) (x : Shape) (s : State) → Grew s (begin_item at d t x s)
    unfolding begin_item
    begin-item-grew d t (shapes.Begin forms) s = grows-same s s refl
    begin-item-grew d t _ s = tt

    keywords-item-grew : (d : Taken) (t : Tree) (f : CoreForm) (x : Shape) (s : State) → Grew s (keywords_item at d t f x s)
    unfolding keywords_item
    keywords-item-grew d t f (shapes.DefineSyntax id value) s = grows-same s s refl
    keywords-item-grew d t f (shapes.LetSyntax bs forms) s = grows-same s s refl
    keywords-item-grew d t f _ s = tt

    begin-shape-grew : (d : Taken) (t : Tree) (r : Result Shape Fault) (s : State) → Grew s (with_shape r (begin_item at d t) s)
    begin-shape-grew d t (Err e) s = tt
    begin-shape-grew d t (Ok x) s = begin-item-grew d t x s

    define-shape-grew : (d : Taken) (t : Tree) (r : Result Shape Fault) (s : State) → Grew s (with_shape r (λ x. alone (define_item at depth d t x)) s)
    define-shape-grew d t (Err e) s = tt
    define-shape-grew d t (Ok x) s = grew-after s (define_item at depth d t x s) (λ done. give (done, head_items.Item items.Nothing)) (define-item-grew d t x s) (λ y u. grows-same u u refl)

    keywords-shape-grew : (d : Taken) (t : Tree) (f : CoreForm) (r : Result Shape Fault) (s : State) → Grew s (with_shape r (keywords_item at d t f) s)
    keywords-shape-grew d t f (Err e) s = tt
    keywords-shape-grew d t f (Ok x) s = keywords-item-grew d t f x s

    role-grew : (d : Taken) (t : Tree) (f : CoreForm) (r : Role) (s : State) → Grew s (item_by at depth d t f r s)
    role-grew d t f role.Expression s = grows-same s s refl
    role-grew d t f role.Assignment s = set-item-grew d t (shape f t at.place) s
    role-grew d t f role.Sequence s = begin-shape-grew d t (shape f t at.place) s
    role-grew d t f role.Definition s = define-shape-grew d t (shape f t at.place) s
    role-grew d t f role.Keywords s = keywords-shape-grew d t f (shape f t at.place) s
    role-grew d t f role.Record s = grows-same s s refl
    role-grew d t f role.RecordValue s = grows-same s s refl
    role-grew d t f role.Auxiliary s = grows-same s s refl

    core-grew : (d : Taken) (t : Tree) (f : CoreForm) (s : State) → Grew s (core_item at depth d t f s)
    unfolding core_item
    core-grew d t f s = role-grew d t f (role_of f) s

    headed-grew : (d : Taken) (t : Tree) (st : Standing) (s : State) → Grew s (headed_item at depth d t st s)
    headed-grew d t standing.Nothing s = grows-same s s refl
    headed-grew d t (standing.Variable v) s = grows-same s s refl
    headed-grew d t standing.PatternVariable s = grows-same s s refl
    headed-grew d t (standing.Primitive o) s = grows-same s s refl
    headed-grew d t (standing.Core f) s = core-grew d t f s
    headed-grew d t (standing.Keyword l) s = grows-same s s refl

    list-grew : (d : Taken) (t head : Tree) (s : State) → Grew s (list_item at depth d t head s)
    unfolding list_item
    list-grew d t head s =
        grew-if s (is_leaf head) _ _ (λ e. grew-after s (keep d head s) _ (keep-grew d head s) (λ kept u. headed-grew kept t (standing_of u head) u)) (λ e. grows-same s s refl)

    leaf-by-grew : (d : Taken) (t : Tree) (st : Standing) (s : State) → Grew s (leaf_by at depth d t st s)
    leaf-by-grew d t standing.Nothing s = grows-same s s refl
    leaf-by-grew d t (standing.Variable v) s = grows-same s s refl
    leaf-by-grew d t standing.PatternVariable s = grows-same s s refl
    leaf-by-grew d t (standing.Primitive o) s = grows-same s s refl
    leaf-by-grew d t (standing.Core f) s = grows-same s s refl
    leaf-by-grew d t (standing.Keyword l) s = grows-same s s refl

    leaf-grew : (d : Taken) (t : Tree) (s : State) → Grew s (leaf_item at depth d t s)
    unfolding leaf_item
    leaf-grew d t s = grew-after s (keep d t s) _ (keep-grew d t s) (λ kept u. leaf-by-grew kept t (standing_of u t) u)

    plan-grew : (d : Taken) (t : Tree) (s : State) → Grew s (item_plan at depth d t s)
    plan-grew d (atom r a) s = grows-same s s refl
    plan-grew d (leaf r x c) s = leaf-grew d (leaf r x c) s
    plan-grew d (pair r a e) s = list-grew d (pair r a e) a s
    plan-grew d (vector r e) s = grows-same s s refl

module _ (rs : List CompiledLibrary) where
  set-step-grew : (at : BodyAt) (depth : ℕ) (d : Taken) (t : Tree) (l : Label) (b : Bool) (s : State) → Grew s (set_item_step at depth d t l b s)
  set-step-grew at depth d t l true s = grows-same s s refl
  set-step-grew at depth d t l false s = grows-same s s refl

  step-of-grew : (at : BodyAt) (depth : ℕ) (t : Tree) (d : Taken) (i : HeadItem) (s : State) → Grew s (item_step_of rs at depth t d i s)
  step-of-grew at depth t d (head_items.Use k) s = grows-same s s refl
  step-of-grew at depth t d (head_items.SetUse l) s =
      grew-after s (asks_variable rs (place_of t at.place) l s) (set_item_step at depth d t l) (asks-variable-grew rs (place_of t at.place) l s) (λ b u. set-step-grew at depth d t l b u)
  step-of-grew at depth t d (head_items.Item i) s = grows-same s s refl

  step-grew : (at : BodyAt) (depth : ℕ) (d : Taken) (t : Tree) (s : State) → Grew s (item_step rs at depth d t s)
  unfolding item_step
  step-grew at depth d t s = grew-after s (item_plan at depth d t s) (λ p. item_step_of rs at depth t p.0 p.1) (plan-grew at depth d t s) (λ p u. step-of-grew at depth t p.0 p.1 u)

  expand_uses-item-to-grew : (left : ℕ) (at : BodyAt) (depth : ℕ) (d : Taken) (t : Tree) (s : State) → Grew s (expand_item_uses_to rs left at depth d t s)
  unfolding expand_item_uses_to
  expand_uses-item-to-grew zero at depth d t s = grew-after s (item_step rs at depth d t s) (settling.item_by (λ done k. too_many t at.place) at t) (step-grew at depth d t s) by
    where
      by : (p : Taken × ItemOrUse) (u : State) → Grew u (settling.item_by (λ done k. too_many t at.place) at t p u)
      by (e, item_steps.Item i) u = grows-same u u refl
      by (e, item_steps.Use k) u = tt
  expand_uses-item-to-grew (suc left) at depth d t s =
      grew-after s (item_step rs at depth d t s) (settling.item_by (λ taken k s'. after (next_form rs left at.place t k (Some at.frame) s') (expand_item_uses_to rs left (at_use at t) depth taken)) at t) (step-grew at depth d t s)
      (λ p u. by p u (λ e v w. expand_uses-item-to-grew left (at_use at t) depth e v w))
    where
      by : (p : Taken × ItemOrUse) (u : State) → ((e : Taken) (v : Tree) (w : State) → Grew w (expand_item_uses_to rs left (at_use at t) depth e v w))
          → Grew u (settling.item_by (λ taken k s'. after (next_form rs left at.place t k (Some at.frame) s') (expand_item_uses_to rs left (at_use at t) depth taken)) at t p u)
      by (e, item_steps.Item i) u again = grows-same u u refl
      by (e, item_steps.Use k) u again =
          grew-after u (next_form rs left at.place t k (Some at.frame) u) (expand_item_uses_to rs left (at_use at t) depth e) (next-form-grew rs left at.place t k (Some at.frame) u) (λ v w. again e v w)

  pub expand_uses-item-grew : (at : BodyAt) (depth : ℕ) (d : Taken) (t : Tree) (s : State) → Grew s (expand_item_uses rs at depth d t s)
  expand_uses-item-grew at depth d t s = expand_uses-item-to-grew s.uses_left at depth d t s
