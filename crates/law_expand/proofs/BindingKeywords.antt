-- The binding of pattern variables and of keywords in a frame.
use Rattle.std.proofs.Common.{◌≡◌, ℕ, ◌<◌, Bool, true, false, List, [], ◌∷◌, ◌++◌, map, Option, None, Some, Ok, Err, refl, sym, ◌∙◌, ap, subst, arith, inl, inr, append-nil, append_assoc, if◌then◌else◌}
use Rattle.std.specs.Prelude.{◌⊎◌, is_some}
use Rattle.indexmap.specs.IndexMap.{insert_entry}
use Rattle.base_data.proofs.ElementLemmas.{each-append}
use Rattle.base_data.specs.Act.{after, give, gather}
use Rattle.base_data.specs.Elements.{Each, Among, Once}
use Rattle.base_data.specs.Named.{Named}
use Rattle.base_data.specs.declared.fault.FaultKind.TheVariants as kind
use Rattle.base_data.specs.declared.library.LibName.{LibName}
use Rattle.base_data.specs.declared.name.FrameNo.{FrameNo}
use Rattle.base_data.specs.declared.name.Label.{Label}
use Rattle.base_data.specs.declared.span.Span.{Span}
use Rattle.stx_tree.specs.Tree.{Tree}
use Rattle.stx_frames.specs.Rows.{second_binder}
use Rattle.stx_frames.specs.Scope.{with_row, label_at}
use Rattle.stx_frames.proofs.FrameLaws.{rows_at-other}
use Rattle.stx_scope.specs.Stands.{row_for, symbol_of}
use Rattle.core_language.specs.Bindings.{bound_to}
use Rattle.core_language.specs.Core.{PlainCore}
use Rattle.core_language.specs.Labels.{same_label, with_label}
use Rattle.core_language.specs.declared.binding.Binding.{Binding}
use Rattle.core_language.specs.declared.binding.Binding.TheVariants as binding
use Rattle.core_language.specs.declared.binding.VarInfo.{VarInfo}
use Rattle.eval_pattern.specs.declared.compile.Compiled.{Compiled}
use Rattle.eval_pattern.specs.declared.compile.PatternVariable.{PatternVariable}
use Rattle.core_shapes.specs.At.{place_of}
use Rattle.core_shapes.specs.Lists.{is_leaf}
use Rattle.core_shapes.specs.declared.shape.BindingSpec.{BindingSpec}
use Rattle.eval_stage.specs.Stage.{expression_in}
use Rattle.eval_stage.specs.Transformers as stage
use Rattle.eval_stage.specs.declared.keyword.Keyword.TheVariants as known
use Rattle.expand_standing.specs.Binders.{row_put}
use Rattle.expand_standing.specs.Patterns.{put_pattern_variable, bind_pattern_variable, bind_next, bind_pattern}
use Rattle.expand_standing.specs.State.{State, fresh, fault_form, on_stage}
use Rattle.expand_standing.specs.Uses.{put_keyword, bind_keyword_as, bind_keyword, bind_keywords}
use Rattle.expand_standing.specs.declared.binders.BoundSpec.{BoundSpec}
use Rattle.law_expand.specs.States.{IsOwn, IsBound, IsUnbound, IsPattern, IsNumbered, IsTop, IsKept, IsMacro, Keeps, Grows, Adds, Later, LaterBut}
use Rattle.law_expand.proofs.Acts.{Gave, gave-after, gave-less, gave-if, gave-each}
use Rattle.law_expand.proofs.Binding.{spec_label}
use Rattle.law_expand.proofs.Compiled.{variable_label, variable_depth}
use Rattle.law_expand.proofs.Fresh.{Made, each-map}
use Rattle.law_expand.proofs.Grows.{grows-then, grows-same}
use Rattle.law_expand.proofs.Kept.{found-other}
use Rattle.law_expand.proofs.Later.{bound-last, bound-more, keeps-self, keeps-then, keeps-more, but-self, but-then}
use Rattle.law_expand.proofs.Naming.{as_label, counted, other-grows, scope-bound, scope-patterns, new-unbound}
use Rattle.law_expand.proofs.Scope.{Behind, binder-behind, adds-self, adds-then, adds-same, adds-later}
use Rattle.law_expand.proofs.Uses.{Patterned}

-- the state with a pattern variable bound in a frame
abbrev pub with_pattern : FrameNo → PatternVariable → ℕ → State → State
with_pattern f v level s = record s { frames = with_row s.frames f (row_for v.id v.label); bindings = s.bindings ++ (v.label, binding.PatternVariable level v.depth) ∷ []; scope = with_label s.scope v.label }

-- it is bound where the frame has no row of its symbol and marks
abbrev IsNew : FrameNo → PatternVariable → State → Type 0
IsNew f v s = is_some (label_at s.frames f (row_for v.id v.label).symbol (row_for v.id v.label).marks) ≡ false

pattern-binds : (f : FrameNo) (place : Span) (level : ℕ) (v : PatternVariable) (s : State) → Gave (λ x u. (u ≡ with_pattern f v level s) × IsNew f v s) (bind_pattern_variable f place level v s)
unfolding bind_pattern_variable
pattern-binds f place level v s = by (is_some (label_at s.frames f (row_for v.id v.label).symbol (row_for v.id v.label).marks)) refl
  where
    by : (b : Bool) → is_some (label_at s.frames f (row_for v.id v.label).symbol (row_for v.id v.label).marks) ≡ b → Gave (λ x u. (u ≡ with_pattern f v level s) × IsNew f v s) (after (row_put v.id place s (if b then Err (second_binder (symbol_of v.id)) else Ok (with_row s.frames f (row_for v.id v.label)))) (λ _. put_pattern_variable v.label level v.depth))
    by true e = tt
    by false e = (refl, e)

module _ (own : LibName) (f : FrameNo) (level : ℕ) where
  -- pattern variables that came into scope
  pub record BindsPatterns (s : State) (vs : List PatternVariable) (u : State) : Type 0 where
    pub later : LaterBut own f s u
    pub names : u.names ≡ s.names
    pub keeps : Keeps own s u
    pub more : List Label
    pub scope : u.scope ≡ s.scope ++ more
    pub new : Each (Among (map variable_label vs)) more
    pub tops : (l : Label) (v : VarInfo) → IsTop u l v → IsTop s l v
    pub bound : Each (IsBound s) s.scope → Each (IsBound u) u.scope
    pub from : (l : Label) (b : Binding) → bound_to u.bindings l ≡ Some b → (bound_to s.bindings l ≡ Some b) ⊎ Among (map variable_label vs) l
    pub patterns : Each (λ (v : PatternVariable). IsUnbound s v.label) vs → Once (map variable_label vs) → (l : Label) (at depth : ℕ) → Among u.scope l → IsPattern u l at depth
        → (Among s.scope l × IsPattern s l at depth) ⊎ Among (map variable_depth vs) (l, depth)
    pub depths : Each (λ (v : PatternVariable). IsUnbound s v.label) vs → Once (map variable_label vs) → Each (λ (v : PatternVariable). IsPattern u v.label level v.depth) vs

  patterns-none : (s : State) → s.names.library ≡ own → BindsPatterns s [] s
  patterns-none s n = record {
    later = but-self own f s n;
    names = refl;
    keeps = keeps-self own s;
    more = [];
    scope = sym (append-nil s.scope);
    new = tt;
    tops = λ l v b. b;
    bound = λ h. h;
    from = λ l b e. inl e;
    patterns = λ h o l at depth a p. inl (a, p);
    depths = λ h o. tt;
  }

  -- what isn't bound is found where it is bound now
  unbound-last : (bs : List (Label × Binding)) (l : Label) (b : Binding) → ((x : Binding) → bound_to bs l ≡ Some x → ⊥) → bound_to (bs ++ (l, b) ∷ []) l ≡ Some b
  unbound-last bs l b new = let last = bound-last bs l b in last.1 ∙ ap Some (by last.0 (bound-more bs l l b last.0 last.1))
    where
      by : (x : Binding) → (bound_to bs l ≡ Some x) ⊎ ((l ≡ l) × (b ≡ x)) → x ≡ b
      by x (inl e) = absurd (new x e)
      by x (inr p) = sym p.1

  pattern-more : (s : State) (v : PatternVariable) (vs : List PatternVariable) (u : State) → s.names.library ≡ own → IsOwn own v.label.0 → v.label.0.number < s.names.number → IsNew f v s
      → BindsPatterns (with_pattern f v level s) vs u → BindsPatterns s (v ∷ vs) u
  pattern-more s v vs u n mine lt isnew k = record {
    later = but-then own f s t u (record {
      here = refl;
      next = n;
      up = omega arith;
      same = λ g o d. rows_at-other s.frames f g (row_for v.id v.label) d;
      grows = other-grows own s f v.id v.label x (with_label s.scope v.label) tt (λ w e. absurd (cc)) mine lt isnew;
    }) k.later;
    names = k.names;
    keeps = keeps-then own s t u (omega arith) (let e = ap (λ (m : Named). m.number) k.names in omega (arith, e)) (keeps-more own s t v.label x refl (λ l e y. absurd (cc)) refl) k.keeps;
    more = b.more ++ k.more;
    scope = k.scope ∙ ap (λ xs. xs ++ k.more) b.is ∙ append_assoc s.scope b.more k.more;
    new = each-append (Among (v.label ∷ map variable_label vs)) b.more k.more (each-map (Among (v.label ∷ [])) (Among (v.label ∷ map variable_label vs)) b.more b.new first) (each-map (Among (map variable_label vs)) (Among (v.label ∷ map variable_label vs)) k.more k.new (λ l a. inr a));
    tops = λ l w e. top l w (k.tops l w e);
    bound = λ h. k.bound (subst (Each (IsBound t)) (sym b.is) (scope-bound own s.bindings v.label x s.scope b.more b.new h));
    from = λ l y e. from l y (k.from l y e);
    patterns = λ h o l at depth a p. pattern h.0 l at depth (k.patterns (later-unbound h.1 o.0) o.1 l at depth a p);
    depths = λ h o. (k.later.grows.bound v.label x (unbound-last s.bindings v.label x h.0), k.depths (later-unbound h.1 o.0) o.1);
  }
    where
      t : State
      t = with_pattern f v level s

      x : Binding
      x = binding.PatternVariable level v.depth

      b : Behind (v.label ∷ []) s.scope (with_label s.scope v.label)
      b = binder-behind false v.label s.scope

      first : (l : Label) → Among (v.label ∷ []) l → Among (v.label ∷ map variable_label vs) l
      first l (inl e) = inl e
      first l (inr e) = elim e [ ]

      top : (l : Label) (w : VarInfo) → IsTop t l w → IsTop s l w
      top l w e = (by (bound-more s.bindings v.label l x (binding.Variable w) e.0), e.1)
        where
          by : (bound_to s.bindings l ≡ Some (binding.Variable w)) ⊎ ((l ≡ v.label) × (x ≡ binding.Variable w)) → bound_to s.bindings l ≡ Some (binding.Variable w)
          by (inl e) = e
          by (inr p) = let bad = p.1 in absurd (cc)

      from : (l : Label) (y : Binding) → (bound_to t.bindings l ≡ Some y) ⊎ Among (map variable_label vs) l → (bound_to s.bindings l ≡ Some y) ⊎ Among (v.label ∷ map variable_label vs) l
      from l y (inl e) = by (bound-more s.bindings v.label l x y e)
        where
          by : (bound_to s.bindings l ≡ Some y) ⊎ ((l ≡ v.label) × (x ≡ y)) → (bound_to s.bindings l ≡ Some y) ⊎ Among (v.label ∷ map variable_label vs) l
          by (inl e) = inl e
          by (inr p) = inr (inl p.0)
      from l y (inr a) = inr (inr a)

      still : (w : PatternVariable) → IsUnbound s w.label → (v.label ≡ w.label → ⊥) → IsUnbound t w.label
      still w h d y e = by (bound-more s.bindings v.label w.label x y e)
        where
          by : (bound_to s.bindings w.label ≡ Some y) ⊎ ((w.label ≡ v.label) × (x ≡ y)) → ⊥
          by (inl e) = h y e
          by (inr p) = d (sym p.0)

      unbound-all : (ws : List PatternVariable) → Each (λ (w : PatternVariable). IsUnbound s w.label) ws → (Among (map variable_label ws) v.label → ⊥) → Each (λ (w : PatternVariable). IsUnbound t w.label) ws
      unbound-all [] h d = tt
      unbound-all (w ∷ ws) h d = (still w h.0 (λ e. d (inl e)), unbound-all ws h.1 (λ a. d (inr a)))

      later-unbound : Each (λ (w : PatternVariable). IsUnbound s w.label) vs → (Among (map variable_label vs) v.label → ⊥) → Each (λ (w : PatternVariable). IsUnbound t w.label) vs
      later-unbound h d = unbound-all vs h d

      pattern : IsUnbound s v.label → (l : Label) (at depth : ℕ) → (Among t.scope l × IsPattern t l at depth) ⊎ Among (map variable_depth vs) (l, depth) → (Among s.scope l × IsPattern s l at depth) ⊎ Among (variable_depth v ∷ map variable_depth vs) (l, depth)
      pattern h l at depth (inr a) = inr (inr a)
      pattern h l at depth (inl p) = by (scope-patterns own s v.label x b.more b.new h l at depth (subst (λ (xs : List Label). Among xs l) b.is p.0) p.1)
        where
          by : (Among s.scope l × IsPattern s l at depth) ⊎ ((l ≡ v.label) × (x ≡ binding.PatternVariable at depth)) → (Among s.scope l × IsPattern s l at depth) ⊎ Among (variable_depth v ∷ map variable_depth vs) (l, depth)
          by (inl q) = inl q
          by (inr q) = let e = q.1 in let d : v.depth ≡ depth = cc in inr (inl (λ i. (q.0 i, sym d i)))

  pub binds-patterns : (place : Span) (vs : List PatternVariable) (s : State) → s.names.library ≡ own → Each (λ (v : PatternVariable). IsOwn own v.label.0 × (v.label.0.number < s.names.number)) vs
      → Gave (λ x u. BindsPatterns s vs u) (bind_pattern f place level vs s)
  unfolding gather
  binds-patterns place [] s n h = patterns-none s n
  binds-patterns place (v ∷ vs) s n h =
      gave-after (λ x u. (u ≡ with_pattern f v level s) × IsNew f v s) (λ x u. BindsPatterns s (v ∷ vs) u) (bind_pattern_variable f place level v s) (λ e. gather (bind_next f place level) e vs) (pattern-binds f place level v s)
      (λ x u k. subst (λ (w : State). Gave (λ y z. BindsPatterns s (v ∷ vs) z) (gather (bind_next f place level) tt vs w)) (sym k.0)
      (gave-less (λ y z. BindsPatterns (with_pattern f v level s) vs z) (λ y z. BindsPatterns s (v ∷ vs) z) (gather (bind_next f place level) tt vs (with_pattern f v level s))
      (binds-patterns place vs (with_pattern f v level s) n h.1)
      (λ y z j. pattern-more s v vs z n h.0.0 h.0.1 k.1 j)))

  -- the labels of a pattern that was just compiled aren't bound
  patterned-unbound : (p : Compiled) (s t : State) → Patterned own s p t → IsNumbered own s → Each (λ (v : PatternVariable). IsUnbound t v.label) p.variables
  patterned-unbound p s t c n = by p.variables c.compiles.fresh.made
    where
      by : (vs : List PatternVariable) → Each (λ (l : Label). Made own s.names.number t.names.number l.0) (map variable_label vs) → Each (λ (v : PatternVariable). IsUnbound t v.label) vs
      by [] m = tt
      by (v ∷ vs) m = ((λ x e. new-unbound own s v.label n m.0.library m.0.low x (subst (λ bs. bound_to bs v.label ≡ Some x) c.bindings e)), by vs m.1)

  -- they are pattern variables then, with their depths
  pub pattern-are : (p : Compiled) (s t u : State) → Patterned own s p t → BindsPatterns t p.variables u → IsNumbered own s → Each (λ (v : PatternVariable). IsPattern u v.label level v.depth) p.variables
  pattern-are p s t u c b n = b.depths (patterned-unbound p s t c n) c.compiles.fresh.once

  -- what comes into scope where a pattern was compiled and its variables were bound
  pub pattern-adds-so : (p : Compiled) (s t u : State) → Patterned own s p t → BindsPatterns t p.variables u
      → Adds own false (map variable_label p.variables) (map variable_depth p.variables) s u
  pattern-adds-so p s t u c b = record {
    more = b.more;
    scope = b.scope ∙ ap (λ xs. xs ++ b.more) c.later.scope;
    new = b.new;
    tops = λ l v o e. inl (c.later.tops l v o (b.tops l v e));
    bound = λ e. b.bound (first.bound e);
    numbered = λ n. b.later.grows.numbered (c.later.grows.numbered n);
    patterns = λ e n l at depth a q. by e n l at depth (b.patterns (patterned-unbound p s t c n) c.compiles.fresh.once l at depth a q);
  }
    where
      first : Adds own false [] [] s t
      first = adds-later own false s t c.later

      by : Each (IsBound s) s.scope → IsNumbered own s → (l : Label) (at depth : ℕ) → (Among t.scope l × IsPattern t l at depth) ⊎ Among (map variable_depth p.variables) (l, depth)
          → (Among s.scope l × IsPattern s l at depth) ⊎ Among (map variable_depth p.variables) (l, depth)
      by e n l at depth (inl q) = old (first.patterns e n l at depth q.0 q.1)
        where
          old : (Among s.scope l × IsPattern s l at depth) ⊎ Among {A = Label × ℕ} [] (l, depth) → (Among s.scope l × IsPattern s l at depth) ⊎ Among (map variable_depth p.variables) (l, depth)
          old (inl x) = inl x
          old (inr x) = elim x [ ]
      by e n l at depth (inr a) = inr a

-- Keywords.

module _ (own : LibName) (f : FrameNo) where
  -- keywords that were bound and wait: nothing comes into scope, and what is kept stays so
  pub record BindsKeywords (s : State) (xs : List BoundSpec) (u : State) : Type 0 where
    pub later : LaterBut own f s u
    pub adds : (top : Bool) → Adds own top [] [] s u
    pub kept : (l : Label) → l.0.number < s.names.number → IsKept s l → IsKept u l
    pub keywords : (l : Label) (level : ℕ) (e : Option PlainCore) → IsOwn own l.0 → IsMacro u l level e → IsMacro s l level e ⊎ Among (map spec_label xs) l
    pub made : Each (λ (x : BoundSpec). x.label.0.number < u.names.number) xs

  keywords-none : (s : State) → s.names.library ≡ own → BindsKeywords s [] s
  keywords-none s n = record { later = but-self own f s n; adds = λ top. adds-self own top s; kept = λ l lt k. k; keywords = λ l level e o k. inl k; made = tt }

  keywords-more : (s t u : State) (x : BoundSpec) (xs : List BoundSpec) → BindsKeywords s (x ∷ []) t → BindsKeywords t xs u → BindsKeywords s (x ∷ xs) u
  keywords-more s t u x xs h k = record {
    later = but-then own f s t u h.later k.later;
    adds = λ top. adds-then own top [] [] [] [] s t u (h.adds top) (k.adds top);
    kept = λ l lt c. k.kept l (omega (arith, lt, h.later.up)) (h.kept l lt c);
    keywords = λ l level e o m. by l level e o (k.keywords l level e o m);
    made = let lt = h.made.0 in (omega (arith, lt, k.later.up), k.made);
  }
    where
      old : (l : Label) (level : ℕ) (e : Option PlainCore) → IsMacro s l level e ⊎ Among (x.label ∷ []) l → IsMacro s l level e ⊎ Among (x.label ∷ map spec_label xs) l
      old l level e (inl m) = inl m
      old l level e (inr (inl i)) = inr (inl i)
      old l level e (inr (inr i)) = elim i [ ]

      by : (l : Label) (level : ℕ) (e : Option PlainCore) → IsOwn own l.0 → IsMacro t l level e ⊎ Among (map spec_label xs) l → IsMacro s l level e ⊎ Among (x.label ∷ map spec_label xs) l
      by l level e o (inl m) = old l level e (h.keywords l level e o m)
      by l level e o (inr a) = inr (inr a)

  -- the state with a keyword bound in the frame, which waits
  with_keyword : Tree → ℕ → Span → State → State
  with_keyword id level place s = record s {
    frames = with_row s.frames f (row_for id (as_label s.names));
    names = (counted s).names;
    bindings = s.bindings ++ (as_label s.names, binding.Macro level None) ∷ [];
    keywords = insert_entry same_label s.keywords (as_label s.names) (known.Waiting place);
  }

  keyword-put : (s : State) (id : Tree) (level : ℕ) (place : Span) (x : BoundSpec) → x.label ≡ as_label s.names → s.names.library ≡ own → is_some (label_at s.frames f (row_for id (as_label s.names)).symbol (row_for id (as_label s.names)).marks) ≡ false
      → BindsKeywords s (x ∷ []) (with_keyword id level place s)
  unfolding with_keyword
  keyword-put s id level place x is n isnew = record {
    later = record { here = refl; next = n; up = omega arith; same = λ g o d. rows_at-other s.frames f g (row_for id (as_label s.names)) d; grows = grows };
    adds = λ top. adds-same own top s t refl grows.bound tops grows.numbered;
    kept = λ l lt k. (k.0, ap expression_in (found-other s.keywords (as_label s.names) l (known.Waiting place) (λ e. let same = ap (λ (m : Label). m.0.number) e in omega (arith, lt, same))) ∙ k.1);
    keywords = λ l m e o k. keyword l m e (bound-more s.bindings (as_label s.names) l (binding.Macro level None) (binding.Macro m e) k);
    made = (let same = ap (λ (m : Label). m.0.number) is in omega (arith, same), tt);
  }
    where
      t : State
      t = with_keyword id level place s

      grows : Grows own s t
      grows = grows-then own s (counted s) t (grows-same own s (counted s) refl refl refl (omega arith))
          (grows-then own (counted s) u t (other-grows own (counted s) f id (as_label s.names) (binding.Macro level None) s.scope tt (λ w e. absurd (cc)) n (omega arith) isnew) (grows-same own u t refl refl refl (omega arith)))
        where
          u : State
          u = record (counted s) { frames = with_row s.frames f (row_for id (as_label s.names)); bindings = s.bindings ++ (as_label s.names, binding.Macro level None) ∷ []; scope = s.scope }

      tops : (l : Label) (v : VarInfo) → IsOwn own l.0 → IsTop t l v → IsTop s l v
      tops l w o e = (by (bound-more s.bindings (as_label s.names) l (binding.Macro level None) (binding.Variable w) e.0), e.1)
        where
          by : (bound_to s.bindings l ≡ Some (binding.Variable w)) ⊎ ((l ≡ as_label s.names) × (binding.Macro level None ≡ binding.Variable w)) → bound_to s.bindings l ≡ Some (binding.Variable w)
          by (inl e) = e
          by (inr p) = let bad = p.1 in absurd (cc)

      keyword : (l : Label) (m : ℕ) (e : Option PlainCore) → IsMacro s l m e ⊎ ((l ≡ as_label s.names) × (binding.Macro level None ≡ binding.Macro m e)) → IsMacro s l m e ⊎ Among (x.label ∷ []) l
      keyword l m e (inl k) = inl k
      keyword l m e (inr p) = inr (inl (p.0 ∙ sym is))

  pub binds-keyword : (place : Span) (level : ℕ) (b : BindingSpec) (s : State) → s.names.library ≡ own → Gave (λ x u. BindsKeywords s (x ∷ []) u) (bind_keyword f place level b s)
  unfolding bind_keyword fresh stage.begin_keyword with_keyword
  binds-keyword place level b s n =
      gave-if (λ x u. BindsKeywords s (x ∷ []) u) (is_leaf b.id) (after (fresh s) (bind_keyword_as f place level b)) (fault_form kind.BadForm b.id place s)
      (λ e. by_row (is_some (label_at s.frames f (row_for b.id (as_label s.names)).symbol (row_for b.id (as_label s.names)).marks)) refl) (λ e. tt)
    where
      by_row : (r : Bool) → is_some (label_at s.frames f (row_for b.id (as_label s.names)).symbol (row_for b.id (as_label s.names)).marks) ≡ r
          → Gave (λ x u. BindsKeywords s (x ∷ []) u) (after (row_put b.id place (counted s) (if r then Err (second_binder (symbol_of b.id)) else Ok (with_row s.frames f (row_for b.id (as_label s.names))))) (λ _ t.
          after (put_keyword (as_label s.names) level t) (λ _ u.
          after (on_stage (stage.begin_keyword (as_label s.names) (place_of b.init place)) u) (λ _. give (record { label = as_label s.names; init = b.init })))))
      by_row true d = tt
      by_row false d = keyword-put s b.id level (place_of b.init place) (record { label = as_label s.names; init = b.init }) refl n d

  pub binds-keywords : (place : Span) (level : ℕ) (bs : List BindingSpec) (s : State) → s.names.library ≡ own → Gave (BindsKeywords s) (bind_keywords f place level bs s)
  binds-keywords place level bs s n =
      gave-each (bind_keyword f place level) (λ b t x u. BindsKeywords t (x ∷ []) u) (λ xs t ys u. BindsKeywords t ys u) (λ t. t.names.library ≡ own)
      (λ t k. keywords-none t k)
      (λ b t k. binds-keyword place level b t k)
      (λ b t u x k j. j.later.next)
      (λ b xs t u v x ys k j a. keywords-more t u v x ys j a)
      bs s n

  -- where they are kept in the end, all that came is
  pub keywords-kept : (s u v : State) (xs : List BoundSpec) → BindsKeywords s xs u → Later own u v → Each (λ (x : BoundSpec). x.label.0.number < u.names.number → IsKept v x.label) xs → Keeps own s v
  keywords-kept s u v xs h k all = record {
    kept = λ l lt c. k.keeps.kept l (omega (arith, lt, h.later.up)) (h.kept l lt c);
    keywords = λ l level e o m. by l level e o (k.keeps.keywords l level e o m);
  }
    where
      kept-so : (ys : List BoundSpec) → Each (λ (x : BoundSpec). x.label.0.number < u.names.number) ys → Each (λ (x : BoundSpec). x.label.0.number < u.names.number → IsKept v x.label) ys
          → (l : Label) → Among (map spec_label ys) l → IsKept v l × (l.0.number < v.names.number)
      kept-so [] m a l i = elim i [ ]
      kept-so (y ∷ ys) m a l (inl e) = let lt = m.0 in let w : y.label.0.number < v.names.number = omega (arith, lt, k.up) in subst (λ (x : Label). IsKept v x × (x.0.number < v.names.number)) (sym e) (a.0 lt, w)
      kept-so (y ∷ ys) m a l (inr i) = kept-so ys m.1 a.1 l i

      old : (l : Label) (level : ℕ) (e : Option PlainCore) → IsMacro s l level e ⊎ Among (map spec_label xs) l → IsMacro s l level e ⊎ (IsKept v l × (l.0.number < v.names.number))
      old l level e (inl m) = inl m
      old l level e (inr a) = inr (kept-so xs h.made all l a)

      by : (l : Label) (level : ℕ) (e : Option PlainCore) → IsOwn own l.0 → IsMacro u l level e ⊎ (IsKept v l × (l.0.number < v.names.number)) → IsMacro s l level e ⊎ (IsKept v l × (l.0.number < v.names.number))
      by l level e o (inl m) = old l level e (h.keywords l level e o m)
      by l level e o (inr p) = inr p
