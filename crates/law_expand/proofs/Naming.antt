-- New names, and the binding of variables.
use Rattle.std.proofs.Common.{◌≡◌, ℕ, ◌+◌, ◌<◌, Bool, true, false, List, [], ◌∷◌, ◌++◌, Some, Ok, Err, refl, sym, ◌∙◌, ap, subst, arith, inl, inr, if◌then◌else◌, None, ◌≤◌}
use Rattle.std.specs.Prelude.{◌⊎◌, is_some, nat_eq}
use Rattle.base_data.proofs.ElementLemmas.{each-at, each-append, among-parts}
use Rattle.base_data.specs.Act.{after, give}
use Rattle.base_data.specs.Elements.{Each, Among}
use Rattle.base_data.specs.Named.{Named}
use Rattle.base_data.specs.declared.fault.FaultKind.TheVariants as kind
use Rattle.base_data.specs.declared.library.LibName.{LibName}
use Rattle.base_data.specs.declared.name.FrameNo.{FrameNo}
use Rattle.base_data.specs.declared.name.Label.{Label}
use Rattle.base_data.specs.declared.span.Span.{Span}
use Rattle.stx_tree.specs.Tree.{Tree, span_of}
use Rattle.stx_frames.specs.Rows.{Row, second_binder}
use Rattle.stx_frames.specs.Scope.{rows_at, with_row, label_at}
use Rattle.stx_frames.proofs.FrameLaws.{rows_at-other}
use Rattle.stx_scope.specs.Stands.{row_for, symbol_of}
use Rattle.core_language.specs.Bindings.{bound_to}
use Rattle.core_language.specs.declared.binding.Binding.{Binding}
use Rattle.core_language.specs.declared.binding.Binding.TheVariants as binding
use Rattle.core_language.specs.declared.binding.VarInfo.{VarInfo}
use Rattle.core_language.specs.declared.link.Link.{Link}
use Rattle.core_language.specs.declared.link.LinkKind.TheVariants as kinds
use Rattle.core_shapes.specs.Lists.{is_leaf}
use Rattle.expand_standing.specs.Binders.{bind_variable, bind_as, row_put, put_variable, variable_for, index_at, next_index}
use Rattle.expand_standing.specs.InScope.{with_local}
use Rattle.expand_standing.specs.State.{State, fresh, fault_form, note}
use Rattle.expand_standing.proofs.Noted.{noted-keeps}
use Rattle.law_expand.specs.States.{IsOwn, IsOwnOrEllipsis, IsAdded, IsTop, IsPattern, IsUnbound, IsNumbered, IndicesApart, Grows, Keeps, Adds, Later, LaterBut}
use Rattle.law_expand.proofs.Acts.{Gave, gave-if}
use Rattle.law_expand.proofs.Fresh.{Made, each-map}
use Rattle.law_expand.proofs.Grows.{grows-same, grows-then, row-kept, row-new, keyed-with-row, shown-with-row}
use Rattle.law_expand.proofs.Scope.{binder-behind}
use Rattle.law_expand.proofs.Later.{bound-more, bound-kept, bound-last, keeps-same, keeps-more}

-- the state behind a new name
abbrev pub counted : State → State
counted s = record s { names = record { library = s.names.library; number = s.names.number + 1 } }

-- the state with a variable bound in a frame
abbrev pub with_variable : FrameNo → Tree → Label → VarInfo → State → State
with_variable f id l v s = record s { frames = with_row s.frames f (row_for id l); bindings = s.bindings ++ (l, binding.Variable v) ∷ []; index = next_index v.level s.index; scope = with_local v.top l s.scope }

abbrev pub as_label : Named → Label
as_label n = record { 0 = n }

abbrev pub as_frame : Named → FrameNo
as_frame n = record { 0 = n }

index-is : (level n i : ℕ) → index_at level n ≡ Some i → (i ≡ n) × (i < next_index level n)
index-is level n i = by (nat_eq level 0)
  where
    by : (b : Bool) → (if b then Some n else None) ≡ Some i → (i ≡ n) × (i < (if b then n + 1 else n))
    by true e = let is : n ≡ i = cc in (sym is, omega (arith, is))
    by false e = absurd (cc)

index-up : (level n : ℕ) → n ≤ next_index level n
index-up level n = by (nat_eq level 0)
  where
    by : (b : Bool) → n ≤ (if b then n + 1 else n)
    by true = omega arith
    by false = omega arith

module _ (own : LibName) where
  pub counted-later : (s : State) → s.names.library ≡ own → Later own s (counted s)
  counted-later s n = record { here = refl; next = n; up = omega arith; same = λ f o. refl; grows = grows-same own s (counted s) refl refl refl (omega arith); scope = refl; tops = λ l v o b. b; keeps = keeps-same own s (counted s) refl refl }

  -- a new name is one of the library
  pub next-made : (s : State) → s.names.library ≡ own → Made own s.names.number (s.names.number + 1) s.names
  next-made s n = record { library = n; low = omega arith; high = omega arith }

  -- the new variable has the next index, if it has one
  variable-indices : (s : State) (f : FrameNo) (id : Tree) (l : Label) (v : VarInfo) → v.index ≡ index_at v.level s.index → IndicesApart own s → IndicesApart own (with_variable f id l v s)
  variable-indices s f id l v ix h = record {
    below = λ m w i o e k. below m w i o (bound-more s.bindings l m (binding.Variable v) (binding.Variable w) e) k;
    apart = λ m j w x i o q e d k r. apart m j w x i o q (bound-more s.bindings l m (binding.Variable v) (binding.Variable w) e) (bound-more s.bindings l j (binding.Variable v) (binding.Variable x) d) k r;
  }
    where
      new-index : (w : VarInfo) (i : ℕ) → binding.Variable v ≡ binding.Variable w → w.index ≡ Some i → index_at v.level s.index ≡ Some i
      new-index w i e k = let is : v ≡ w = cc in sym ix ∙ ap (λ (x : VarInfo). x.index) is ∙ k

      below : (m : Label) (w : VarInfo) (i : ℕ) → IsOwn own m.0 → (bound_to s.bindings m ≡ Some (binding.Variable w)) ⊎ ((m ≡ l) × (binding.Variable v ≡ binding.Variable w)) → w.index ≡ Some i → i < next_index v.level s.index
      below m w i o (inl e) k = let lt = h.below m w i o e k in let up = index-up v.level s.index in omega (arith, lt, up)
      below m w i o (inr p) k = (index-is v.level s.index i (new-index w i p.1 k)).1

      apart : (m j : Label) (w x : VarInfo) (i : ℕ) → IsOwn own m.0 → IsOwn own j.0 → (bound_to s.bindings m ≡ Some (binding.Variable w)) ⊎ ((m ≡ l) × (binding.Variable v ≡ binding.Variable w))
          → (bound_to s.bindings j ≡ Some (binding.Variable x)) ⊎ ((j ≡ l) × (binding.Variable v ≡ binding.Variable x)) → w.index ≡ Some i → x.index ≡ Some i → m ≡ j
      apart m j w x i o q (inl e) (inl d) k r = h.apart m j w x i o q e d k r
      apart m j w x i o q (inl e) (inr p) k r = let lt = h.below m w i o e k in let is = (index-is v.level s.index i (new-index x i p.1 r)).0 in absurd (omega (arith, lt, is))
      apart m j w x i o q (inr p) (inl d) k r = let lt = h.below j x i q d r in let is = (index-is v.level s.index i (new-index w i p.1 k)).0 in absurd (omega (arith, lt, is))
      apart m j w x i o q (inr p) (inr p') k r = p.0 ∙ sym p'.0

  pub added-row : (s : State) (f : FrameNo) (id : Tree) (l : Label) → IsOwn own l.0 → (g : FrameNo) (r : Row) → Among (rows_at g (with_row s.frames f (row_for id l))) r → Among (rows_at g s.frames) r ⊎ IsOwnOrEllipsis own r
  added-row s f id l mine g r a = by (row-new s.frames f (row_for id l) g r a)
    where
      by : Among (rows_at g s.frames) r ⊎ (r ≡ row_for id l) → Among (rows_at g s.frames) r ⊎ IsOwnOrEllipsis own r
      by (inl a) = inl a
      by (inr e) = inr (inl (subst (λ (x : Row). IsOwn own x.label.0) (sym e) mine))

  added-binding : (s : State) (l : Label) (x : Binding) → IsOwn own l.0 → IsAdded x → (m : Label) (b : Binding) → bound_to (s.bindings ++ (l, x) ∷ []) m ≡ Some b → (bound_to s.bindings m ≡ Some b) ⊎ (IsOwn own m.0 × IsAdded b)
  added-binding s l x mine added m b e = by (bound-more s.bindings l m x b e)
    where
      by : (bound_to s.bindings m ≡ Some b) ⊎ ((m ≡ l) × (x ≡ b)) → (bound_to s.bindings m ≡ Some b) ⊎ (IsOwn own m.0 × IsAdded b)
      by (inl e) = inl e
      by (inr p) = inr (ap (λ (x : Label). x.0.library) p.0 ∙ mine, subst IsAdded p.1 added)

  -- a label that was made before the next name
  pub added-numbered : (s : State) (l : Label) (x : Binding) → l.0.number < s.names.number → IsNumbered own s → (m : Label) (b : Binding) → IsOwn own m.0 → bound_to (s.bindings ++ (l, x) ∷ []) m ≡ Some b → m.0.number < s.names.number
  added-numbered s l x lt h m b o e = by (bound-more s.bindings l m x b e)
    where
      by : (bound_to s.bindings m ≡ Some b) ⊎ ((m ≡ l) × (x ≡ b)) → m.0.number < s.names.number
      by (inl e) = h m b o e
      by (inr p) = subst (λ (y : Label). y.0.number < s.names.number) (sym p.0) lt

  -- the binding of what is no variable
  pub other-grows : (s : State) (f : FrameNo) (id : Tree) (l : Label) (x : Binding) (ls : List Label) → IsAdded x → ((v : VarInfo) → x ≡ binding.Variable v → ⊥) → IsOwn own l.0 → l.0.number < s.names.number → is_some (label_at s.frames f (row_for id l).symbol (row_for id l).marks) ≡ false
      → Grows own s (record s { frames = with_row s.frames f (row_for id l); bindings = s.bindings ++ (l, x) ∷ []; scope = ls })
  other-grows s f id l x ls added other mine lt new = record {
    kept = row-kept s.frames f (row_for id l);
    rows = added-row s f id l mine;
    bindings = added-binding s l x mine added;
    bound = λ m b e. bound-kept s.bindings l m x b e;
    indices = λ h. record {
      below = λ m w i o e k. h.below m w i o (before m w e) k;
      apart = λ m j w y i o q e d k r. h.apart m j w y i o q (before m w e) (before j y d) k r;
    };
    numbered = λ h. added-numbered s l x lt h;
    keyed = λ h. keyed-with-row own s.frames f (row_for id l) new h;
    shown = λ h. shown-with-row own s (record s { frames = with_row s.frames f (row_for id l); bindings = s.bindings ++ (l, x) ∷ []; scope = ls }) f id l refl (λ m b. (b.0, bound-kept s.bindings l m x b.0 b.1)) (bound-last s.bindings l x) h;
  }
    where
      before : (m : Label) (w : VarInfo) → bound_to (s.bindings ++ (l, x) ∷ []) m ≡ Some (binding.Variable w) → bound_to s.bindings m ≡ Some (binding.Variable w)
      before m w e = by (bound-more s.bindings l m x (binding.Variable w) e)
        where
          by : (bound_to s.bindings m ≡ Some (binding.Variable w)) ⊎ ((m ≡ l) × (x ≡ binding.Variable w)) → bound_to s.bindings m ≡ Some (binding.Variable w)
          by (inl e) = e
          by (inr p) = absurd (other w p.1)

  variable-grows : (s : State) (f : FrameNo) (id : Tree) (l : Label) (v : VarInfo) → v.index ≡ index_at v.level s.index → IsOwn own l.0 → l.0.number < s.names.number → is_some (label_at s.frames f (row_for id l).symbol (row_for id l).marks) ≡ false → Grows own s (with_variable f id l v s)
  variable-grows s f id l v ix mine lt new = record {
    kept = row-kept s.frames f (row_for id l);
    rows = added-row s f id l mine;
    bindings = added-binding s l (binding.Variable v) mine tt;
    bound = λ m b e. bound-kept s.bindings l m (binding.Variable v) b e;
    indices = variable-indices s f id l v ix;
    numbered = λ h. added-numbered s l (binding.Variable v) lt h;
    keyed = λ h. keyed-with-row own s.frames f (row_for id l) new h;
    shown = λ h. shown-with-row own s (with_variable f id l v s) f id l refl (λ m b. (b.0, bound-kept s.bindings l m (binding.Variable v) b.0 b.1)) (bound-last s.bindings l (binding.Variable v)) h;
  }

  -- what comes into scope is bound, where it is the label that was bound or was in scope
  pub scope-bound : (bs : List (Label × Binding)) (l : Label) (x : Binding) (ls more : List Label) → Each (Among (l ∷ [])) more → Each (λ m. (b : Binding) × (bound_to bs m ≡ Some b)) ls
      → Each (λ m. (b : Binding) × (bound_to (bs ++ (l, x) ∷ []) m ≡ Some b)) (ls ++ more)
  scope-bound bs l x ls more new h = each-append (λ m. (b : Binding) × (bound_to (bs ++ (l, x) ∷ []) m ≡ Some b)) ls more
      (each-map (λ m. (b : Binding) × (bound_to bs m ≡ Some b)) (λ m. (b : Binding) × (bound_to (bs ++ (l, x) ∷ []) m ≡ Some b)) ls h (λ m b. (b.0, bound-kept bs l m x b.0 b.1)))
      (each-map (Among (l ∷ [])) (λ m. (b : Binding) × (bound_to (bs ++ (l, x) ∷ []) m ≡ Some b)) more new by)
    where
      by : (m : Label) → Among (l ∷ []) m → (b : Binding) × (bound_to (bs ++ (l, x) ∷ []) m ≡ Some b)
      by m (inl e) = subst (λ (y : Label). (b : Binding) × (bound_to (bs ++ (l, x) ∷ []) y ≡ Some b)) (sym e) (bound-last bs l x)
      by m (inr e) = elim e [ ]

  -- a pattern variable that was bound before, or that was bound now
  pub scope-patterns : (s : State) (l : Label) (x : Binding) (more : List Label) → Each (Among (l ∷ [])) more → IsUnbound s l → (m : Label) (level depth : ℕ) → Among (s.scope ++ more) m
      → bound_to (s.bindings ++ (l, x) ∷ []) m ≡ Some (binding.PatternVariable level depth) → (Among s.scope m × IsPattern s m level depth) ⊎ ((m ≡ l) × (x ≡ binding.PatternVariable level depth))
  scope-patterns s l x more new unbound m level depth a e = by (bound-more s.bindings l m x (binding.PatternVariable level depth) e)
    where
      there : IsPattern s m level depth → Among s.scope m ⊎ Among more m → (Among s.scope m × IsPattern s m level depth) ⊎ ((m ≡ l) × (x ≡ binding.PatternVariable level depth))
      there p (inl b) = inl (b, p)
      there p (inr b) = absurd (old (each-at (Among (l ∷ [])) more m new b))
        where
          old : Among (l ∷ []) m → ⊥
          old (inl e) = unbound (binding.PatternVariable level depth) (subst (λ (y : Label). bound_to s.bindings y ≡ Some (binding.PatternVariable level depth)) e p)
          old (inr e) = e

      by : IsPattern s m level depth ⊎ ((m ≡ l) × (x ≡ binding.PatternVariable level depth)) → (Among s.scope m × IsPattern s m level depth) ⊎ ((m ≡ l) × (x ≡ binding.PatternVariable level depth))
      by (inl p) = there p (among-parts s.scope more m a)
      by (inr p) = inr p

  -- what was made later than all labels that are bound isn't bound
  pub new-unbound : (s : State) (l : Label) → IsNumbered own s → IsOwn own l.0 → s.names.number ≤ l.0.number → IsUnbound s l
  new-unbound s l n mine high b e = let lt = n l b mine e in omega (arith, lt, high)

  -- the label is that of the name before the next
  variable-adds : (s : State) (f : FrameNo) (id : Tree) (v : VarInfo) → (v.top ≡ true → v.level ≡ 0) → s.names.library ≡ own → Adds own v.top (as_label s.names ∷ []) [] s (with_variable f id (as_label s.names) v (counted s))
  variable-adds s f id v low mine =
      let b = binder-behind v.top (as_label s.names) s.scope in
      record {
        more = b.more;
        scope = b.is;
        new = b.new;
        tops = λ m w o t. by m w t.1 (bound-more s.bindings (as_label s.names) m (binding.Variable v) (binding.Variable w) t.0);
        bound = λ h. subst (Each (λ m. (x : Binding) × (bound_to (s.bindings ++ (as_label s.names, binding.Variable v) ∷ []) m ≡ Some x))) (sym b.is) (scope-bound s.bindings (as_label s.names) (binding.Variable v) s.scope b.more b.new h);
        numbered = λ h. added-numbered (counted s) (as_label s.names) (binding.Variable v) (omega arith) (λ l y o e. let lt = h l y o e in omega (arith, lt));
        patterns = λ h n m level depth a p. pattern m level depth (scope-patterns s (as_label s.names) (binding.Variable v) b.more b.new (new-unbound s (as_label s.names) n mine (omega arith)) m level depth (subst (λ (xs : List Label). Among xs m) b.is a) p);
      }
    where
      by : (m : Label) (w : VarInfo) → w.top ≡ true → (bound_to s.bindings m ≡ Some (binding.Variable w)) ⊎ ((m ≡ as_label s.names) × (binding.Variable v ≡ binding.Variable w)) → IsTop s m w ⊎ ((v.top ≡ true) × ((w.level ≡ 0) × Among (as_label s.names ∷ []) m))
      by m w t (inl e) = inl (e, t)
      by m w t (inr p) = let e = p.1 in let is : v ≡ w = cc in let top : v.top ≡ true = ap (λ (x : VarInfo). x.top) is ∙ t in inr (top, (ap (λ (x : VarInfo). x.level) (sym is) ∙ low top, inl p.0))

      pattern : (m : Label) (level depth : ℕ) → (Among s.scope m × IsPattern s m level depth) ⊎ ((m ≡ as_label s.names) × (binding.Variable v ≡ binding.PatternVariable level depth)) → (Among s.scope m × IsPattern s m level depth) ⊎ Among {A = Label × ℕ} [] (m, depth)
      pattern m level depth (inl p) = inl p
      pattern m level depth (inr p) = let bad = p.1 in absurd (cc)

  -- what the binding of a variable gives: a new name, and nothing else comes into scope
  pub record Binds (f : FrameNo) (top : Bool) (s : State) (l : Label) (t : State) : Type 0 where
    pub later : LaterBut own f s t
    pub label : l ≡ as_label s.names
    pub up : t.names.number ≡ s.names.number + 1
    pub adds : Adds own top (l ∷ []) [] s t
    pub keeps : Keeps own s t

  -- links are no part of it
  binds-links : (f : FrameNo) (top : Bool) (s t : State) (ls : List Link) → Binds f top s (as_label s.names) t → Binds f top s (as_label s.names) (record t { links = ls })
  binds-links f top s t ls b =
      let u : State = record t { links = ls } in
      record {
        later = record {
          here = b.later.here;
          next = b.later.next;
          up = b.later.up;
          same = b.later.same;
          grows = grows-then own s t u b.later.grows (grows-same own t u refl refl refl (omega arith));
        };
        label = b.label;
        up = b.up;
        adds = record { more = b.adds.more; scope = b.adds.scope; new = b.adds.new; tops = b.adds.tops; bound = b.adds.bound; numbered = b.adds.numbered; patterns = b.adds.patterns };
        keeps = record { kept = b.keeps.kept; keywords = b.keeps.keywords };
      }

  variable-binds : (s : State) (f : FrameNo) (id : Tree) (v : VarInfo) → v.index ≡ index_at v.level s.index → (v.top ≡ true → v.level ≡ 0) → s.names.library ≡ own → is_some (label_at s.frames f (row_for id (as_label s.names)).symbol (row_for id (as_label s.names)).marks) ≡ false
      → Binds f v.top s (as_label s.names) (with_variable f id (as_label s.names) v (counted s))
  variable-binds s f id v ix low n new =
      record {
        later = record {
          here = refl;
          next = n;
          up = omega arith;
          same = λ g o d. rows_at-other s.frames f g (row_for id (as_label s.names)) d;
          grows = grows-then own s (counted s) (with_variable f id (as_label s.names) v (counted s)) (grows-same own s (counted s) refl refl refl (omega arith)) (variable-grows (counted s) f id (as_label s.names) v ix n (omega arith) new);
        };
        label = refl;
        up = refl;
        adds = variable-adds s f id v low n;
        keeps = keeps-more own s (with_variable f id (as_label s.names) v (counted s)) (as_label s.names) (binding.Variable v) refl (λ level e x. absurd (cc)) refl;
      }

  pub binds : (f : FrameNo) (place : Span) (level : ℕ) (top : Bool) (id : Tree) (s : State) → (top ≡ true → level ≡ 0) → s.names.library ≡ own → Gave (Binds f top s) (bind_variable f place level top id s)
  unfolding bind_variable fresh
  binds f place level top id s low n =
      gave-if (Binds f top s) (is_leaf id) (after (fresh s) (bind_as f place level id top)) (fault_form kind.BadForm id place s) (λ e. by_row (is_some (label_at s.frames f (row_for id (as_label s.names)).symbol (row_for id (as_label s.names)).marks)) refl) (λ e. tt)
    where
      by_row : (b : Bool) → is_some (label_at s.frames f (row_for id (as_label s.names)).symbol (row_for id (as_label s.names)).marks) ≡ b
          → Gave (Binds f top s) (after (row_put id place (counted s) (if b then Err (second_binder (symbol_of id)) else Ok (with_row s.frames f (row_for id (as_label s.names))))) (λ _ t. after (put_variable (as_label s.names) (variable_for id level top (counted s).index) t) (λ _. note (as_label s.names) (span_of id) (as_label s.names) kinds.Bind)))
      by_row true d = tt
      by_row false d =
          let v = variable_for id level top s.index in
          let w = with_variable f id (as_label s.names) v (counted s) in
          noted-keeps (Binds f top s (as_label s.names)) (span_of id) (as_label s.names) kinds.Bind w (λ ls. binds-links f top s w ls (variable-binds s f id v refl low n d))
