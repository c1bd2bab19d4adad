-- Definitions of keywords are safe, given that what is done inside forms is.
use Rattle.std.proofs.Common.{◌≡◌, ◌≤◌, ◌<◌, ℕ, ◌+◌, Bool, true, false, List, [], ◌∷◌, map, Option, Some, None, refl, sym, ap, subst, ◌∙◌, arith, inl, inr}
use Rattle.std.specs.Prelude.{◌⊎◌}
use Rattle.std.specs.List.{flat_map}
use Rattle.base_data.proofs.ElementLemmas.{each-of}
use Rattle.base_data.specs.Act.{after, give, gather}
use Rattle.base_data.specs.Elements.{Each, Among, Once}
use Rattle.base_data.specs.declared.library.LibName.{LibName}
use Rattle.base_data.specs.declared.name.CodeNo.{CodeNo}
use Rattle.base_data.specs.declared.name.FrameNo.{FrameNo}
use Rattle.base_data.specs.declared.name.Label.{Label}
use Rattle.base_data.specs.declared.span.Span.{Span}
use Rattle.stx_tree.specs.Changes.{stamp}
use Rattle.stx_tree.specs.Tree.{Tree}
use Rattle.core_language.specs.Core.{PlainCore}
use Rattle.core_language.specs.References.{binders}
use Rattle.core_language.specs.declared.record.CompiledLibrary.{CompiledLibrary}
use Rattle.law_core.specs.Follows.{names_of}
use Rattle.law_core.specs.Parts.{code_numbers}
use Rattle.law_core.specs.Records.{defined}
use Rattle.eval_value.specs.declared.value.Value.{Value}
use Rattle.core_shapes.specs.At.{place_of}
use Rattle.core_shapes.specs.declared.shape.BindingSpec.{BindingSpec}
use Rattle.core_shapes.specs.declared.shape.FormalIds.{FormalIds}
use Rattle.eval_stage.specs.Stage.{keyword_at, expression_in}
use Rattle.eval_stage.specs.declared.keyword.Keyword.{Keyword}
use Rattle.eval_stage.specs.declared.keyword.Keyword.TheVariants as keyword_kind
use Rattle.law_stage.specs.Grows.{IsNotKept}
use Rattle.expand_standing.specs.InScope.{apart, restoring}
use Rattle.expand_standing.specs.State.{State, fresh_frame}
use Rattle.expand_standing.specs.Uses.{bind_keywords, evaluate_transformer}
use Rattle.expand_standing.specs.declared.binders.BoundSpec.{BoundSpec}
use Rattle.expand_heads.specs.Items.{is_top}
use Rattle.expand_heads.specs.declared.taken.BodyAt.{BodyAt}
use Rattle.expand_heads.specs.declared.taken.Taken.{Taken}
use Rattle.expand_forms.specs.Inside.{Inside}
use Rattle.expand_forms.specs.Keywords.{expand_transformer, seen_in, expand_transformer_in, expand_transformers, keywords, with_keywords}
use Rattle.expand_forms.specs.Site.{site_at}
use Rattle.expand_forms.specs.Forms.{let_syntax_parts, procedure_parts}
use Rattle.law_expand.specs.States.{IsOwn}
use Rattle.law_expand.proofs.Acts.{gave-both}
use Rattle.law_expand.proofs.Binding.{spec_label}
use Rattle.law_expand.proofs.BindingKeywords.{BindsKeywords, binds-keywords}
use Rattle.law_expand.proofs.Naming.{as_frame, counted}
use Rattle.law_expand.proofs.Spent.{AreUnspent, away-has, Onward}
use Rattle.law_expand.proofs.SpentBinding.{keywords-told, onward-self, onward-then, onward-but}
use Rattle.law_expand.proofs.SpentOnStage.{Tells}
use Rattle.law_expand.proofs.Spares.{taken_labels, Spares, Expressed, has-made, nothing-begins, expresses, spares-keyword}
use Rattle.law_expand.proofs.WellMade.{good-well-made}
use Rattle.law_stuck.specs.Behind.{IsKeywordExpression}
use Rattle.law_stuck.specs.Steady.{OwnHasCode}
use Rattle.law_stuck.specs.Uses.{Around}
use Rattle.law_stuck.proofs.Behind.{defined_in, stands, name_of, defined_here}
use Rattle.law_steady.proofs.OnStage.{Pending, keywords-pend, still-free, FreshBut, finish-safe}
use Rattle.law_steady.proofs.Sure.{Sure, sure-after, sure-less, sure-with}
use Rattle.law_steady.specs.States.{KeptAt}
use Rattle.law_steady.proofs.Safe.{Safe, safe-rest, Fresh, B, given, Goes, goes-self, goes-then, goes-counted, G, go}

-- Where the forms of a body stand: in a frame of the library, and at level 0 where the body is its top.
abbrev pub Placed : LibName → BodyAt → Type 0
Placed own at = (is_top at.kind ≡ true → at.level ≡ 0) × (at.frame.0.library ≡ own)

-- What is done inside forms is safe, and spares the names of keywords.
pub record Holds (own : LibName) (texts : List CodeNo) (rs : List CompiledLibrary) (inner : Inside) : Type 0 where
  pub spares : Spares own (flat_map defined rs) inner
  pub earlier : inner.earlier ≡ rs
  pub form : (place : Span) (level depth : ℕ) (t : Tree) (s : State) → B own texts rs s → Safe own texts rs s → Sure (G own texts rs s) (inner.form (site_at place level depth) t s)
  pub procedure : (place : Span) (level depth : ℕ) (t : Tree) (ids : FormalIds) (forms : List Tree) (s : State) → B own texts rs s → Safe own texts rs s → Sure (G own texts rs s) (inner.procedure (site_at place level depth) (procedure_parts t ids forms) s)
  pub item : (at : BodyAt) (depth : ℕ) (d : Taken) (t : Tree) (s : State) → Placed own at → B own texts rs s → Safe own texts rs s → AreUnspent own s (taken_labels d)
      → Sure (λ e u. Goes own texts rs s u × AreUnspent own u (taken_labels e)) (inner.item at depth d t s)

module _ (own : LibName) (texts : List CodeNo) (rs : List CompiledLibrary) (x : Around own texts rs) (inner : Inside) (holds : Holds own texts rs inner) where
  abbrev S : State → Type 0
  S = Safe own texts rs

  abbrev Bs : State → Type 0
  Bs = B own texts rs

  abbrev O : State → State → Type 0
  O = Onward own (given own texts rs)

  abbrev E : State → PlainCore → State → Type 0
  E = Expressed own (given own texts rs) inner holds.spares

  -- what records define is of their libraries
  foreign : (l : Label) → IsOwn own l.0 → Among (given own texts rs) l → ⊥
  foreign l o a =
      let d = defined_in rs l a in
      let st = stands [] rs d.definer x.behind d.among in
      x.new (subst (Among (names_of rs)) (sym (defined_here st.earlier d.definer st.behind l d.defines) ∙ o) (name_of rs d.definer d.among))

  good-expression : (s w : State) (c : PlainCore) → E s c w → IsKeywordExpression rs c
  good-expression s w c e = record {
    closed = e.1.1.closed;
    well_made = good-well-made own w.bindings [] (given own texts rs) s.names.number w.names.number c tt e.1.1;
    apart = each-of (λ l. Among (given own texts rs) l → ⊥) (binders c) (λ l a b. foreign l (has-made own (given own texts rs) inner holds.spares w s.names.number w.names.number c l.0 e.1.1 (inl a)).library b);
  }

  codes-here : (s w : State) (c : PlainCore) → E s c w → Each (λ (n : CodeNo). n.0.library ≡ own) (code_numbers c)
  codes-here s w c e = each-of (λ (n : CodeNo). n.0.library ≡ own) (code_numbers c) (λ n a. (has-made own (given own texts rs) inner holds.spares w s.names.number w.names.number c n.0 e.1.1 (inr a)).library)

  codes-apart : (s w : State) (c : PlainCore) → E s c w → Each (λ n. OwnHasCode own w.keywords n → ⊥) (code_numbers c)
  codes-apart s w c e =
      each-of (λ n. OwnHasCode own w.keywords n → ⊥) (code_numbers c)
      (λ n a y. (away-has own w c n.0 e.1.0.0 (inr a)).1 (y.label, (y.expression, (y.label_here, (ap expression_in y.kept, inr y.among)))))

  -- The expression of a keyword is expanded with nothing in scope.

  apart-go : (place : Span) (level depth : ℕ) (t : Tree) (s : State) → Bs s → S s → Sure (λ c w. (S w × Fresh own texts rs s w) × E s c w) (apart (inner.form (site_at place (level + 1) depth) t) s)
  apart-go place level depth t s b h =
      let z : State = record s { scope = [] } in
      let m = inner.form (site_at place (level + 1) depth) t in
      sure-with (λ c w. S w × Fresh own texts rs s w) (E s) (apart m s)
      (sure-after (G own texts rs z) (λ c w. S w × Fresh own texts rs s w) (m z) (restoring s.scope)
      (holds.form place (level + 1) depth t z (nothing-begins own (given own texts rs) inner holds.spares s b) (safe-rest own texts rs s s.exports s.assigned [] s.uses_left s.record_types h))
      (λ c u g. (safe-rest own texts rs u u.exports u.assigned s.scope u.uses_left u.record_types g.safe, (λ i e v k o. g.fresh i e v k o))))
      (expresses own (given own texts rs) inner holds.spares place level depth t s b)

  -- a keyword that waits
  abbrev pub WaitsIn : State → Label → Type 0
  WaitsIn s l = IsOwn own l.0 × ((l.0.number < s.names.number) × IsNotKept (keyword_at s.keywords l))

  then-but : (s w v : State) (l : Label) → s.names.number ≤ w.names.number → Fresh own texts rs s w → FreshBut own texts rs x l w v → FreshBut own texts rs x l s v
  then-but s w v l up f g m e y k o = by (g m e y k o)
    where
      first : KeptAt s.keywords m e y ⊎ (s.names.number ≤ m.0.number) → KeptAt s.keywords m e y ⊎ ((s.names.number ≤ m.0.number) ⊎ (m ≡ l))
      first (inl i) = inl i
      first (inr le) = inr (inl le)

      by : KeptAt w.keywords m e y ⊎ ((w.names.number ≤ m.0.number) ⊎ (m ≡ l)) → KeptAt s.keywords m e y ⊎ ((s.names.number ≤ m.0.number) ⊎ (m ≡ l))
      by (inl i) = first (f m e y i o)
      by (inr (inl le)) = inr (inl (omega (arith, le, up)))
      by (inr (inr is)) = inr (inr is)

  pub keyword-go : (place : Span) (level depth : ℕ) (b : BoundSpec) (s : State) → Bs s → S s → WaitsIn s b.label
      → Sure (λ a v. O s v × (S v × FreshBut own texts rs x b.label s v)) (expand_transformer inner (site_at place level depth) b s)
  unfolding expand_transformer
  keyword-go place level depth b s h k waits =
      let r = after (apart (inner.form (site_at place (level + 1) depth) b.init) s) (evaluate_transformer inner.earlier (place_of b.init place) b.label) in
      sure-less (λ (a : Unit {0}) v. (S v × FreshBut own texts rs x b.label s v) × (O s v × Unit {0})) (λ a v. O s v × (S v × FreshBut own texts rs x b.label s v)) r
      (sure-with (λ (a : Unit {0}) v. S v × FreshBut own texts rs x b.label s v) (λ a v. O s v × Unit {0}) r
      (sure-after (λ c w. (S w × Fresh own texts rs s w) × E s c w) (λ (a : Unit {0}) v. S v × FreshBut own texts rs x b.label s v) (apart (inner.form (site_at place (level + 1) depth) b.init) s) (evaluate_transformer inner.earlier (place_of b.init place) b.label)
      (apart-go place level depth b.init s h k)
      (λ c w e. subst (λ (qs : List CompiledLibrary). Sure (λ (a : Unit {0}) v. S v × FreshBut own texts rs x b.label s v) (evaluate_transformer qs (place_of b.init place) b.label c w)) (sym holds.earlier) (finished c w e)))
      (spares-keyword own (given own texts rs) inner holds.spares place level depth b s h))
      (λ a v j. (j.1.0, j.0))
    where
      finished : (c : PlainCore) (w : State) → (S w × Fresh own texts rs s w) × E s c w → Sure (λ (a : Unit {0}) v. S v × FreshBut own texts rs x b.label s v) (evaluate_transformer rs (place_of b.init place) b.label c w)
      finished c w e =
          let up : s.names.number ≤ w.names.number = e.1.0.1.up in
          let low = waits.1.0 in
          sure-less (λ (a : Unit {0}) v. S v × FreshBut own texts rs x b.label w v) (λ (a : Unit {0}) v. S v × FreshBut own texts rs x b.label s v) (evaluate_transformer rs (place_of b.init place) b.label c w)
          (finish-safe own texts rs x (place_of b.init place) b.label c w e.1.0.0.sound.next e.0.0 waits.0 (omega (arith, low, up)) (still-free own texts rs x s w b.label e.0.1 waits.0 waits.1.0 waits.1.1)
          (good-expression s w c e.1) (codes-here s w c e.1) (codes-apart s w c e.1))
          (λ a v j. (j.0, then-but s w v b.label up e.0.1 j.1))

  -- All of them, one behind another.

  -- of the own ones at most these are kept then, of those that weren't and were made before
  abbrev FreshBeside : List Label → State → State → Type 0
  FreshBeside ls s u = (m : Label) (e : Option PlainCore) (v : Value) → KeptAt u.keywords m e v → IsOwn own m.0 → KeptAt s.keywords m e v ⊎ ((s.names.number ≤ m.0.number) ⊎ Among ls m)

  abbrev Wait : State → List BoundSpec → Type 0
  Wait s bs = Each (λ (b : BoundSpec). WaitsIn s b.label) bs

  -- those that wait still do after another's transformer was evaluated
  wait-still : (s u : State) (l : Label) (bs : List BoundSpec) → s.names.number ≤ u.names.number → FreshBut own texts rs x l s u → (Among (map spec_label bs) l → ⊥) → Wait s bs → Wait u bs
  wait-still s u l [] up f n w = tt
  wait-still s u l (b ∷ bs) up f n w =
      let low = w.0.1.0 in
      ((w.0.0, (omega (arith, low, up), free (keyword_at u.keywords b.label) refl)), wait-still s u l bs up f (λ a. n (inr a)) w.1)
    where
      never : (e : Option PlainCore) (v : Value) → KeptAt s.keywords b.label e v ⊎ ((s.names.number ≤ b.label.0.number) ⊎ (b.label ≡ l)) → ⊥
      never e v (inl k) = subst IsNotKept k w.0.1.1
      never e v (inr (inl le)) = let low = w.0.1.0 in omega (arith, low, le)
      never e v (inr (inr is)) = n (inl (sym is))

      free : (o : Option Keyword) → keyword_at u.keywords b.label ≡ o → IsNotKept o
      free None is = tt
      free (Some (keyword_kind.Waiting p)) is = tt
      free (Some (keyword_kind.Kept e v)) is = never e v (f b.label e v is w.0.0)

  seen-label : (recursive : Bool) (f : FrameNo) (b : BoundSpec) → (seen_in recursive f b).label ≡ b.label
  seen-label true f b = refl
  seen-label false f b = refl

  all-go : (place : Span) (level depth : ℕ) (recursive : Bool) (f : FrameNo) (bs : List BoundSpec) (s : State) → Bs s → S s → Wait s bs → Once (map spec_label bs)
      → Sure (λ (a : Unit {0}) u. O s u × (S u × FreshBeside (map spec_label bs) s u)) (expand_transformers inner (site_at place level depth) recursive f bs s)
  unfolding gather
  all-go place level depth recursive f [] s h k w once = (onward-self own (given own texts rs) s h, (k, (λ m e v i o. inl i)))
  all-go place level depth recursive f (b ∷ bs) s h k w once =
      let c = seen_in recursive f b in
      sure-after (λ (a : Unit {0}) u. O s u × (S u × FreshBut own texts rs x c.label s u)) (λ (a : Unit {0}) u. O s u × (S u × FreshBeside (map spec_label (b ∷ bs)) s u)) (expand_transformer_in inner (site_at place level depth) recursive f tt b s) (λ e. gather (expand_transformer_in inner (site_at place level depth) recursive f) e bs)
      (keyword-go place level depth c s h k (subst (WaitsIn s) (sym (seen-label recursive f b)) w.0))
      (λ a u j.
      let but = subst (λ l. FreshBut own texts rs x l s u) (seen-label recursive f b) j.1.1 in
      let up = j.0.1.up in
      sure-less (λ (d : Unit {0}) v. O u v × (S v × FreshBeside (map spec_label bs) u v)) (λ (d : Unit {0}) v. O s v × (S v × FreshBeside (map spec_label (b ∷ bs)) s v)) (expand_transformers inner (site_at place level depth) recursive f bs u)
      (all-go place level depth recursive f bs u j.0.0 j.1.0 (wait-still s u b.label bs up but once.0 w.1) once.1)
      (λ d v i. (onward-then own (given own texts rs) s u v j.0 i.0, (i.1.0, (λ m e y p o. both s u b bs up but m e y o (i.1.1 m e y p o))))))
    where
      both : (s u : State) (b : BoundSpec) (bs : List BoundSpec) → s.names.number ≤ u.names.number → FreshBut own texts rs x b.label s u → (m : Label) (e : Option PlainCore) (y : Value) → IsOwn own m.0
          → KeptAt u.keywords m e y ⊎ ((u.names.number ≤ m.0.number) ⊎ Among (map spec_label bs) m) → KeptAt s.keywords m e y ⊎ ((s.names.number ≤ m.0.number) ⊎ Among (map spec_label (b ∷ bs)) m)
      both s u b bs up f m e y o (inl i) = first (f m e y i o)
        where
          first : KeptAt s.keywords m e y ⊎ ((s.names.number ≤ m.0.number) ⊎ (m ≡ b.label)) → KeptAt s.keywords m e y ⊎ ((s.names.number ≤ m.0.number) ⊎ Among (map spec_label (b ∷ bs)) m)
          first (inl j) = inl j
          first (inr (inl le)) = inr (inl le)
          first (inr (inr is)) = inr (inr (inl is))
      both s u b bs up f m e y o (inr (inl le)) = inr (inl (omega (arith, le, up)))
      both s u b bs up f m e y o (inr (inr a)) = inr (inr (inr a))

  pending-waits : (s u : State) (xs : List BoundSpec) → Pending own texts rs x s xs u → Wait u xs
  pending-waits s u xs p = by xs p.labels p.free
    where
      by : (ys : List BoundSpec) → Each (λ (y : BoundSpec). IsOwn own y.label.0 × ((s.names.number ≤ y.label.0.number) × (y.label.0.number < u.names.number))) ys → Each (λ (y : BoundSpec). IsNotKept (keyword_at u.keywords y.label)) ys → Wait u ys
      by [] a f = tt
      by (y ∷ ys) a f = ((a.0.0, (a.0.1.1, f.0)), by ys a.1 f.1)

  pending-low : (s u : State) (xs : List BoundSpec) → Pending own texts rs x s xs u → (m : Label) → Among (map spec_label xs) m → s.names.number ≤ m.0.number
  pending-low s u xs p m a = by xs p.labels a
    where
      by : (ys : List BoundSpec) → Each (λ (y : BoundSpec). IsOwn own y.label.0 × ((s.names.number ≤ y.label.0.number) × (y.label.0.number < u.names.number))) ys → Among (map spec_label ys) m → s.names.number ≤ m.0.number
      by [] l i = absurd i
      by (y ∷ ys) l (inl e) = let le = l.0.1.0 in let same = ap (λ (n : Label). n.0.number) e in omega (arith, le, same)
      by (y ∷ ys) l (inr i) = by ys l.1 i

  -- those that were bound, and then evaluated
  pub pended-go : (s u v : State) (xs : List BoundSpec) → Pending own texts rs x s xs u → O s u → O u v → S v → FreshBeside (map spec_label xs) u v → Goes own texts rs s v
  pended-go s u v xs p o q h f = record {
    onward = onward-then own (given own texts rs) s u v o q;
    safe = h;
    fresh = λ m e y k w. by m e y w (f m e y k w);
  }
    where
      by : (m : Label) (e : Option PlainCore) (y : Value) → IsOwn own m.0 → KeptAt u.keywords m e y ⊎ ((u.names.number ≤ m.0.number) ⊎ Among (map spec_label xs) m) → KeptAt s.keywords m e y ⊎ (s.names.number ≤ m.0.number)
      by m e y w (inl i) = p.fresh m e y i w
      by m e y w (inr (inl le)) = let up = p.up in inr (omega (arith, le, up))
      by m e y w (inr (inr a)) = inr (pending-low s u xs p m a)

  -- and one that was bound alone
  pub one-pended : (s u v : State) (y : BoundSpec) → Pending own texts rs x s (y ∷ []) u → O s u → O u v → S v → FreshBut own texts rs x y.label u v → Goes own texts rs s v
  one-pended s u v y p o q h f = pended-go s u v (y ∷ []) p o q h (λ m e w k i. by m e w (f m e w k i))
    where
      by : (m : Label) (e : Option PlainCore) (w : Value) → KeptAt u.keywords m e w ⊎ ((u.names.number ≤ m.0.number) ⊎ (m ≡ y.label)) → KeptAt u.keywords m e w ⊎ ((u.names.number ≤ m.0.number) ⊎ Among (map spec_label (y ∷ [])) m)
      by m e w (inl k) = inl k
      by m e w (inr (inl le)) = inr (inl le)
      by m e w (inr (inr is)) = inr (inr (inl is))

  pub keywords-go : (place : Span) (level depth : ℕ) (recursive : Bool) (bs : List BindingSpec) (forms : List Tree) (s : State) → Bs s → S s → Sure (G own texts rs s) (with_keywords inner (site_at place level depth) (let_syntax_parts recursive bs forms) s)
  unfolding fresh_frame keywords
  keywords-go place level depth recursive bs forms s b h =
      let f = as_frame s.names in
      let z = counted s in
      let start = goes-counted own texts rs s b h in
      sure-less (G own texts rs z) (G own texts rs s) (after (keywords inner (site_at place level depth) recursive bs f z) (λ _. give (map (stamp f) forms)))
      (go own texts rs z (keywords inner (site_at place level depth) recursive bs f z) (λ _. give (map (stamp f) forms))
      (sure-after (λ xs u. Pending own texts rs x z xs u × (BindsKeywords own f z xs u × Tells z.keywords u.keywords)) (G own texts rs z) (bind_keywords f place level bs z) (expand_transformers inner (site_at place level depth) recursive f)
      (sure-with (λ xs u. Pending own texts rs x z xs u) (λ xs u. BindsKeywords own f z xs u × Tells z.keywords u.keywords) (bind_keywords f place level bs z) (keywords-pend own texts rs x f place level bs z b.sound.next start.safe)
      (gave-both (BindsKeywords own f z) (λ xs u. Tells z.keywords u.keywords) (bind_keywords f place level bs z) (binds-keywords own f place level bs z b.sound.next) (keywords-told f place level bs z)))
      (λ xs u k.
      let o = onward-but own (given own texts rs) f false [] [] z u k.1.0.later (k.1.0.adds false) k.1.1 start.onward.0 in
      sure-less (λ (a : Unit {0}) v. O u v × (S v × FreshBeside (map spec_label xs) u v)) (G own texts rs z) (expand_transformers inner (site_at place level depth) recursive f xs u) (all-go place level depth recursive f xs u o.0 k.0.safe (pending-waits z u xs k.0) k.0.once)
      (λ a v j. pended-go z u v xs k.0 o j.0 j.1.0 j.1.1)))
      (λ a u g. goes-self own texts rs u g.onward.0 g.safe))
      (λ a u g. goes-then own texts rs s z u start g)
