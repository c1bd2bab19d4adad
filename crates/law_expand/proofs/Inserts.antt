-- The inserts of a `quasisyntax` form: they get new labels, and come into scope as pattern variables in a frame in which `...` stands
-- for the ellipsis.
use Rattle.std.proofs.Common.{◌≡◌, ℕ, ◌+◌, ◌<◌, Bool, true, false, List, [], ◌∷◌, map, Ok, Err, refl, sym, ◌∙◌, ap, subst, arith, inl, inr, if◌then◌else◌}
use Rattle.std.specs.Prelude.{◌⊎◌, is_some}
use Rattle.base_data.specs.Elements.{Each, Among}
use Rattle.base_data.specs.Named.{Named}
use Rattle.base_data.specs.declared.library.LibName.{LibName}
use Rattle.base_data.specs.declared.name.FrameNo.{FrameNo}
use Rattle.base_data.specs.declared.name.Label.{Label}
use Rattle.base_data.specs.declared.span.Span.{Span}
use Rattle.stx_frames.specs.Rows.{Row, second_binder}
use Rattle.stx_frames.specs.Scope.{rows_at, with_row, label_at}
use Rattle.stx_frames.proofs.FrameLaws.{rows_at-other}
use Rattle.stx_scope.specs.Stands.{row_for, symbol_of}
use Rattle.law_core.specs.WellMade.{IsLeaf}
use Rattle.eval_pattern.specs.declared.compile.Compiled.{Compiled}
use Rattle.eval_pattern.specs.declared.compile.PatternVariable.{PatternVariable}
use Rattle.core_quasi.specs.declared.quasi_syntax.Insert.{Insert}
use Rattle.expand_quasi.specs.Inserted.{dots, ellipsis, insert_variable, insert_variables, inserts_pattern, bind_inserts}
use Rattle.expand_standing.specs.Binders.{row_put, put_row}
use Rattle.expand_standing.specs.Patterns.{bind_pattern}
use Rattle.expand_standing.specs.State.{State, fresh}
use Rattle.law_expand.specs.States.{IsOwn, IsOwnOrEllipsis, IsPattern, IsNumbered, Keeps, Grows, Adds, Later, LaterBut, IsBound, RowsAreBound}
use Rattle.law_expand.proofs.Acts.{Gave, gave-after, gave-less, gave-each}
use Rattle.law_expand.proofs.BindingKeywords.{BindsPatterns, binds-patterns, pattern-are, pattern-adds-so}
use Rattle.law_expand.proofs.Compiled.{variable_label, variable_depth}
use Rattle.law_expand.proofs.Fresh.{Made, FreshLabels, label_name, fresh-none, fresh-one, fresh-append, fresh-wider}
use Rattle.law_expand.proofs.Grows.{row-kept, row-new, keyed-with-row}
use Rattle.law_expand.proofs.InsertPatterns.{inserts-variables, inserts-literals, inserts-depths}
use Rattle.law_expand.proofs.Later.{later-self, later-then, keeps-same, keeps-then, but-then, but-later}
use Rattle.law_expand.proofs.Moved.{Names}
use Rattle.law_expand.proofs.Naming.{counted-later, next-made}
use Rattle.law_expand.proofs.Uses.{Patterned}

-- as if they were those of a pattern
abbrev pub as_compiled : List PatternVariable → Compiled
as_compiled vs = record { pattern = inserts_pattern vs; variables = vs }

-- the state with `...` in a frame
abbrev pub with_dots : FrameNo → State → State
with_dots f s = record s { frames = with_row s.frames f (row_for dots ellipsis) }

-- the frame has no row for it
abbrev pub IsNewThere : FrameNo → State → Type 0
IsNewThere f s = is_some (label_at s.frames f (row_for dots ellipsis).symbol (row_for dots ellipsis).marks) ≡ false

pub dots-put : (f : FrameNo) (place : Span) (s : State) → Gave (λ x u. (u ≡ with_dots f s) × IsNewThere f s) (put_row dots place f ellipsis s)
dots-put f place s = by (is_some (label_at s.frames f (row_for dots ellipsis).symbol (row_for dots ellipsis).marks)) refl
  where
    by : (b : Bool) → is_some (label_at s.frames f (row_for dots ellipsis).symbol (row_for dots ellipsis).marks) ≡ b → Gave (λ x u. (u ≡ with_dots f s) × IsNewThere f s) (row_put dots place s (if b then Err (second_binder (symbol_of dots)) else Ok (with_row s.frames f (row_for dots ellipsis))))
    by true e = tt
    by false e = (refl, e)

module _ (own : LibName) where
  -- New labels.

  pub record Labelled (s : State) (vs : List PatternVariable) (u : State) : Type 0 where
    pub later : Later own s u
    pub bindings : u.bindings ≡ s.bindings
    pub keywords : u.keywords ≡ s.keywords
    pub made : FreshLabels own s.names.number u.names.number (map variable_label vs)

  labelled-none : (s : State) → Names own s → Labelled s [] s
  labelled-none s n = record { later = later-self own s n; bindings = refl; keywords = refl; made = fresh-none label_name own s.names.number s.names.number }

  labelled-one : (i : Insert) (s : State) → Names own s → Gave (λ v u. Labelled s (v ∷ []) u) (insert_variable i s)
  unfolding fresh
  labelled-one i s n = record {
    later = counted-later own s n;
    bindings = refl;
    keywords = refl;
    made = fresh-one label_name own s.names.number (s.names.number + 1) (record { 0 = s.names }) (next-made own s n);
  }

  labelled-more : (s t u : State) (v : PatternVariable) (vs : List PatternVariable) → Labelled s (v ∷ []) t → Labelled t vs u → Labelled s (v ∷ vs) u
  labelled-more s t u v vs h k = record {
    later = later-then own s t u h.later k.later;
    bindings = k.bindings ∙ h.bindings;
    keywords = k.keywords ∙ h.keywords;
    made = fresh-append label_name own s.names.number t.names.number u.names.number (v.label ∷ []) (map variable_label vs) h.later.up k.later.up h.made k.made;
  }

  pub labelled : (is : List Insert) (s : State) → Names own s → Gave (Labelled s) (insert_variables is s)
  labelled is s n =
      gave-each insert_variable (λ i t v u. Labelled t (v ∷ []) u) (λ js t vs u. Labelled t vs u) (Names own) (λ t k. labelled-none t k) (λ i t k. labelled-one i t k) (λ i t u v k h. h.later.next)
      (λ i js t u w v vs k h j. labelled-more t u w v vs h j) is s n

  pub labelled-patterned : (s : State) (vs : List PatternVariable) (u : State) → Labelled s vs u → Patterned own s (as_compiled vs) u
  labelled-patterned s vs u h = record {
    later = h.later;
    bindings = h.bindings;
    compiles = record {
      library = h.later.next;
      up = h.later.up;
      fresh = h.made;
      depths = inserts-depths vs;
      labels = inserts-variables vs;
      leaves = subst (Each IsLeaf) (sym (inserts-literals vs)) tt;
    };
  }

  -- A row for the ellipsis.

  dots-grows : (f : FrameNo) (s : State) → IsNewThere f s → Grows own s (with_dots f s)
  dots-grows f s isnew = record {
    kept = row-kept s.frames f (row_for dots ellipsis);
    rows = λ g r a. by g r (row-new s.frames f (row_for dots ellipsis) g r a);
    bindings = λ l b e. inl e;
    bound = λ l b e. e;
    indices = λ h. record { below = h.below; apart = h.apart };
    numbered = λ h. h;
    keyed = λ h. keyed-with-row own s.frames f (row_for dots ellipsis) isnew h;
    shown = λ h g r a o. old h g r o (row-new s.frames f (row_for dots ellipsis) g r a);
  }
    where
      old : RowsAreBound own s → (g : FrameNo) (r : Row) → IsOwn own r.label.0 → Among (rows_at g s.frames) r ⊎ (r ≡ row_for dots ellipsis) → IsBound s r.label ⊎ (r ≡ row_for dots ellipsis)
      old h g r o (inl a) = h g r a o
      old h g r o (inr e) = inr e

      by : (g : FrameNo) (r : Row) → Among (rows_at g s.frames) r ⊎ (r ≡ row_for dots ellipsis) → Among (rows_at g s.frames) r ⊎ IsOwnOrEllipsis own r
      by g r (inl a) = inl a
      by g r (inr e) = inr (inr e)

  dots-but : (f : FrameNo) (s : State) → Names own s → IsNewThere f s → LaterBut own f s (with_dots f s)
  dots-but f s n isnew = record { here = refl; next = n; up = omega arith; same = λ g o d. rows_at-other s.frames f g (row_for dots ellipsis) d; grows = dots-grows f s isnew }

  -- Both.

  pub record BindsInserts (f : FrameNo) (level : ℕ) (s : State) (vs : List PatternVariable) (u : State) : Type 0 where
    pub labels : State
    pub patterned : Patterned own s (as_compiled vs) labels
    pub variables : State
    pub binds : BindsPatterns own f level labels vs variables
    pub row : u ≡ with_dots f variables
    pub isnew : IsNewThere f variables

  pub inserts-bound : (f : FrameNo) (place : Span) (level : ℕ) (vs : List PatternVariable) (s t : State) → Patterned own s (as_compiled vs) t → Gave (λ x u. BindsInserts f level s vs u) (bind_inserts f place level vs t)
  inserts-bound f place level vs s t h =
      gave-after (λ x u. BindsPatterns own f level t vs u) (λ x u. BindsInserts f level s vs u) (bind_pattern f place level vs t) (λ _. put_row dots place f ellipsis)
      (binds-patterns own f level place vs t h.later.next (mapped vs h.compiles.fresh.made))
      (λ x u b. gave-less (λ y v. (v ≡ with_dots f u) × IsNewThere f u) (λ y v. BindsInserts f level s vs v) (put_row dots place f ellipsis u) (dots-put f place u)
      (λ y v e. record { labels = t; patterned = h; variables = u; binds = b; row = e.0; isnew = e.1 }))
    where
      mapped : (ws : List PatternVariable) → Each (λ (l : Label). Made own s.names.number t.names.number l.0) (map variable_label ws) → Each (λ (w : PatternVariable). IsOwn own w.label.0 × (w.label.0.number < t.names.number)) ws
      mapped [] m = tt
      mapped (w ∷ ws) m = ((m.0.library, m.0.high), mapped ws m.1)

  dots-adds : (f : FrameNo) (level : ℕ) (vs : List PatternVariable) (s u : State) → Adds own false (map variable_label vs) (map variable_depth vs) s u → Adds own false (map variable_label vs) (map variable_depth vs) s (with_dots f u)
  dots-adds f level vs s u h = record { more = h.more; scope = h.scope; new = h.new; tops = h.tops; bound = h.bound; numbered = h.numbered; patterns = h.patterns }

  pub inserts-add : (f : FrameNo) (level : ℕ) (vs : List PatternVariable) (s u : State) → BindsInserts f level s vs u
      → LaterBut own f s u × (Adds own false (map variable_label vs) (map variable_depth vs) s u × Keeps own s u)
  inserts-add f level vs s u b =
      let v = b.variables in
      let w = with_dots f v in
      let first = but-then own f s b.labels v (but-later own f s b.labels b.patterned.later) b.binds.later in
      let keeps = keeps-then own s b.labels v b.patterned.later.up b.binds.later.up b.patterned.later.keeps b.binds.keeps in
      subst (λ (x : State). LaterBut own f s x × (Adds own false (map variable_label vs) (map variable_depth vs) s x × Keeps own s x)) (sym b.row) (
        but-then own f s v w first (dots-but f v first.next b.isnew),
        (
          dots-adds f level vs s v (pattern-adds-so own f level (as_compiled vs) s b.labels v b.patterned b.binds),
          keeps-then own s v w first.up (omega arith) keeps (keeps-same own v w refl refl),
        ),
      )

  -- they are pattern variables then, with their depths
  pub inserts-are : (f : FrameNo) (level : ℕ) (vs : List PatternVariable) (s u : State) → BindsInserts f level s vs u → IsNumbered own s → Each (λ (v : PatternVariable). IsPattern u v.label level v.depth) vs
  inserts-are f level vs s u b n =
      subst (λ (x : State). Each (λ (v : PatternVariable). IsPattern x v.label level v.depth) vs) (sym b.row)
      (pattern-are own f level (as_compiled vs) s b.labels b.variables b.patterned b.binds n)

  -- their labels were made meanwhile
  pub inserts-made : (f : FrameNo) (level : ℕ) (vs : List PatternVariable) (s u : State) → BindsInserts f level s vs u → FreshLabels own s.names.number u.names.number (map variable_label vs)
  inserts-made f level vs s u b =
      let e = ap (λ (x : State). x.names.number) b.row in
      let d = ap (λ (n : Named). n.number) b.binds.names in
      fresh-wider label_name own s.names.number b.labels.names.number s.names.number u.names.number (map variable_label vs) (omega arith) (omega (arith, e, d)) b.patterned.compiles.fresh
