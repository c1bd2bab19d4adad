-- The keywords of every record that expansion gives are good.
use Rattle.std.proofs.Common.{◌≡◌, ℕ, zero, suc, ◌≤◌, ◌<◌, false, List, [], ◌∷◌, ◌++◌, map, Option, None, Some, Result, Ok, Err, refl, sym, ◌∙◌, ap, subst, arith, inl, inr}
use Rattle.std.specs.Prelude.{◌⊎◌}
use Rattle.std.specs.List.{flat_map}
use Rattle.std.proofs.lemmas.Grind.{flat_map-append}
use Rattle.base_data.proofs.ElementLemmas.{each-at, each-of, each-append, among-parts}
use Rattle.base_data.specs.Act.{after}
use Rattle.base_data.specs.Elements.{Each, Among, Once}
use Rattle.base_data.specs.Named.{Named}
use Rattle.base_data.specs.Op.{is_keyword}
use Rattle.base_data.specs.declared.fault.Fault.{Fault}
use Rattle.base_data.specs.declared.imported_name.ImportedName.{ImportedName}
use Rattle.base_data.specs.declared.library.LibName.{LibName}
use Rattle.base_data.specs.declared.name.CodeNo.{CodeNo}
use Rattle.base_data.specs.declared.name.Label.{Label}
use Rattle.stx_tree.specs.Changes.{stamp}
use Rattle.stx_tree.specs.Tree.{Tree}
use Rattle.core_language.specs.Bindings.{bound_to}
use Rattle.core_language.specs.Core.{PlainCore}
use Rattle.core_language.specs.References.{binders}
use Rattle.core_language.specs.declared.binding.Binding.{Binding}
use Rattle.core_language.specs.declared.binding.Binding.TheVariants as binding
use Rattle.core_language.specs.declared.record.CompiledLibrary.{CompiledLibrary}
use Rattle.core_language.specs.declared.record.Line.{Line}
use Rattle.core_language.specs.declared.record.Line.TheVariants as line
use Rattle.law_core.specs.Follows.{IsRecorded, keyword_of, keywords, line_cores}
use Rattle.law_core.specs.Parts.{parts, ops, own_number, code_numbers}
use Rattle.law_core.specs.Records.{defined, line_core, line_labels, line_binders, run_binders}
use Rattle.law_core.specs.Scope.{Closed}
use Rattle.law_core.specs.WellMade.{IsWellMade}
use Rattle.eval_code.specs.Codes.{Codes}
use Rattle.eval_stage.specs.Stage.{expression_of}
use Rattle.eval_stage.specs.declared.keyword.Keyword.{Keyword}
use Rattle.expand_standing.specs.Own.{completed, row_at, own_label, own_row, own_below, own_bindings}
use Rattle.expand_standing.specs.Start.{started, first_frame}
use Rattle.expand_standing.specs.State.{State, stage_of}
use Rattle.expand_heads.specs.Items.{begun}
use Rattle.expand_heads.specs.declared.taken.Taken.{Taken}
use Rattle.expand_forms.specs.Body.{splice, finish_all}
use Rattle.expand_forms.specs.Expanding.{ready, library_record}
use Rattle.expand_forms.specs.Expression.{inside, full_room}
use Rattle.expand_forms.specs.Inside.{Inside}
use Rattle.expand_forms.specs.Top.{exports, give_record, record_in, body_at, second_pass, first_pass, top, top_at}
use Rattle.expand_forms.specs.declared.top.LibraryBody.{LibraryBody}
use Rattle.expand_forms.specs.declared.top.TopAt.{TopAt}
use Rattle.law_expand.specs.Keywords.{KeywordsAreGood}
use Rattle.law_expand.specs.Ready.{IsReady}
use Rattle.law_expand.specs.States.{IsBound, IsAdded}
use Rattle.law_expand.proofs.Acts.{Gave, gave-after}
use Rattle.law_expand.proofs.Fresh.{each-map, once-append}
use Rattle.law_expand.proofs.Grows.{grows-same}
use Rattle.law_expand.proofs.LineLabels.{kind_labels}
use Rattle.law_expand.proofs.Records.{Runs, record-runs, records-good}
use Rattle.law_expand.proofs.Serving.{bindings-hold, keyword-kept}
use Rattle.law_expand.proofs.Started.{started-foreign, started-sound}
use Rattle.law_expand.proofs.Top.{SameScope, AreShown, same-exports, kinds-defined}
use Rattle.law_expand.specs.Kept.{IsKeptWith, MakesName, KeptAreGood, IsKeptExpression, IsGoodState}
use Rattle.law_expand.proofs.Spent.{IsSpent, Unspent, AreUnspent, unspent-all, kept-less, Onward}
use Rattle.law_expand.proofs.SpentBinding.{begins-by}
use Rattle.law_expand.proofs.Spares.{taken_labels, Spares, Gives}
use Rattle.law_expand.proofs.SparesBodies.{T, LinesAway, Lines, spares-splice, spares-lines}
use Rattle.law_expand.proofs.SparesAll.{inside-spares}

-- the state in which the expansion of a record ended: neither its lines nor its keywords share a name with another keyword
pub record Ends (own : LibName) (given : List Label) (r : CompiledLibrary) (v : State) : Type 0 where
  pub kept : KeptAreGood own given v
  pub bindings : r.bindings ≡ own_bindings v
  pub next : v.names.library ≡ own
  pub labels : AreUnspent own v (flat_map line_labels r.run)
  pub lines : LinesAway own given v r.run

module _ (own : LibName) (given : List Label) (go : Inside) (spares : Spares own given go) where
  -- the exports leave it so
  pub exports-same : (s t : State) → SameScope s t → IsGoodState own given s → Onward own given s t
  exports-same s t h b =
      let up : s.names.number ≤ t.names.number = let e = ap (λ (n : Named). n.number) h.names in omega (arith, e) in
      let less = kept-less own given s t up (λ k c o e. subst (λ (ks : List (Label × Keyword)). IsKeptWith ks k c) h.keywords e) b.kept in (
        begins-by own given s t h.library (ap (λ (n : Named). n.library) h.names ∙ b.sound.next) (grows-same own s t h.frames h.bindings h.index up) bound (λ l v o x. inl (ap (λ bs. bound_to bs l) (sym h.bindings) ∙ x.0, x.1)) less.0 b,
        less.1,
      )
    where
      bound : Each (IsBound s) s.scope → Each (IsBound t) t.scope
      bound e = subst (Each (IsBound t)) (sym h.scope) (each-map (IsBound s) (IsBound t) s.scope e (λ l x. (x.0, ap (λ bs. bound_to bs l) h.bindings ∙ x.1)))

  ends-finished : (at : TopAt) (es : List (List ℕ × Tree)) (d : Taken) (s : State) → IsGoodState own given s → AreUnspent own s (taken_labels d) → Gave (Ends own given) (second_pass go at es d s)
  unfolding second_pass
  ends-finished at es d s b k =
      gave-after (λ ls t. SameScope s t × AreShown s.frames ls) (Ends own given) (exports at es s) (λ ls t. after (finish_all go 0 d.waiting t) (λ lines. give_record at ls lines)) (same-exports at es s)
      (λ ls t h. let o = exports-same s t h.0 b in
      gave-after (Gives own given (Lines own given go spares 0 d.waiting) t) (Ends own given) (finish_all go 0 d.waiting t) (λ lines. give_record at ls lines) (spares-lines own given go spares 0 d.waiting t o.0)
      (λ xs v g. record {
        kept = g.0.0.kept;
        bindings = refl;
        next = g.0.0.sound.next;
        labels = subst (AreUnspent own v) (sym (kinds-defined xs ∙ ap kind_labels g.1.1)) (unspent-all own t v (taken_labels d) g.0.1 (unspent-all own s t (taken_labels d) o.1 k));
        lines = g.1.0;
      }))

  ends-top : (at : TopAt) (es : List (List ℕ × Tree)) (forms : List Tree) (start : State) → IsGoodState own given start → Gave (Ends own given) (top go at es forms start)
  unfolding top first_pass
  ends-top at es forms start b =
      gave-after (Gives own given (T own given go spares) start) (Ends own given) (splice go (body_at at start.library) 0 begun (map (stamp at.frame) forms) start) (second_pass go at es)
      (spares-splice own given go spares (body_at at start.library) 0 begun (map (stamp at.frame) forms) start (λ e. refl) b tt)
      (λ d t g. ends-finished at es d t g.0.0 g.1)

pub started-begins : (own : LibName) (records : List CompiledLibrary) (imports : List ImportedName) (codes : Codes) → IsReady own records → IsGoodState own (flat_map defined records) (started own records imports codes)
unfolding started
started-begins own records imports codes h = record {
  sound = started-sound own records imports codes h;
  level = λ l v o b. absurd (started-foreign own records imports codes h l (binding.Variable v) b.0 o);
  kept = record {
    below = λ n x. let bad = x.1.1.1.0 in absurd (cc);
    good = λ k c o e. absurd (cc);
    apart = λ k m c d n o p e f x y. absurd (cc);
  };
}

pub record Ended (own : LibName) (given : List Label) (r : CompiledLibrary) : Type 0 where
  pub state : State
  pub ends : Ends own given r state

pub record-ends : (own : LibName) (records : List CompiledLibrary) (imports : List ImportedName) (body : LibraryBody) (codes : Codes) (r : CompiledLibrary)
    → IsReady own records → library_record (ready own records imports codes) records body ≡ Ok r → Ended own (flat_map defined records) r
record-ends own records imports body codes r h e =
    let given = flat_map defined records in
    let start = started own records imports codes in
    let at = top_at (first_frame own) body in
    by (top (inside records full_room) at body.exports body.forms start) (ends-top own given (inside records full_room) (inside-spares own given records full_room) at body.exports body.forms start (started-begins own records imports codes h)) e
  where
    by : (x : Result (CompiledLibrary × State) Fault) → Gave (Ends own (flat_map defined records)) x → record_in x ≡ Ok r → Ended own (flat_map defined records) r
    by (Ok p) g is = let same : p.0 ≡ r = cc in record { state = p.1; ends = subst (λ (q : CompiledLibrary). Ends own (flat_map defined records) q p.1) same g }
    by (Err f) g is = absurd (cc)

-- Of the state in which it ended: the expressions of its keywords.
module _ (own : LibName) (given : List Label) (v : State) (next : v.names.library ≡ own) (kept : KeptAreGood own given v) where
  abbrev Of : ℕ → PlainCore → Type 0
  Of n c = IsKeptWith v.keywords (own_label v n) c

  of-keyword : (n level : ℕ) (o : Option PlainCore) (c : PlainCore) → expression_of (own_label v n) (stage_of v) ≡ o → Among (keyword_of (own_label v n, binding.Macro level o)) c → Of n c
  of-keyword n level None c e a = elim a [ ]
  of-keyword n level (Some d) c e (inl is) = e ∙ ap Some (sym is)
  of-keyword n level (Some d) c e (inr a) = elim a [ ]

  of-binding : (n : ℕ) (b : Binding) (c : PlainCore) → Among (keyword_of (own_label v n, completed v (own_label v n) b)) c → Of n c
  of-binding n (binding.Variable w) c a = elim a [ ]
  of-binding n (binding.PatternVariable level depth) c a = elim a [ ]
  of-binding n (binding.Macro level e) c a = of-keyword n level (expression_of (own_label v n) (stage_of v)) c refl a
  of-binding n (binding.Core f) c a = elim a [ ]
  of-binding n (binding.Primitive o) c a = elim a [ ]

  of-row : (n : ℕ) (o : Option Binding) (c : PlainCore) → Among (flat_map keyword_of (row_at v (own_label v n) o)) c → Of n c
  of-row n None c a = elim a [ ]
  of-row n (Some b) c a = by (among-parts (keyword_of (own_label v n, completed v (own_label v n) b)) [] c a)
    where
      by : Among (keyword_of (own_label v n, completed v (own_label v n) b)) c ⊎ Among [] c → Of n c
      by (inl x) = of-binding n b c x
      by (inr x) = elim x [ ]

  -- a keyword below a number
  of-below : (n : ℕ) (c : PlainCore) → Among (flat_map keyword_of (own_below v n)) c → (m : ℕ) × ((m < n) × Of m c)
  of-below zero c a = elim a [ ]
  of-below (suc n) c a =
      by (of-below n c) (among-parts (flat_map keyword_of (own_below v n)) (flat_map keyword_of (own_row v n)) c (subst (λ (xs : List PlainCore). Among xs c) (flat_map-append keyword_of (own_below v n) (own_row v n)) a))
    where
      by : (Among (flat_map keyword_of (own_below v n)) c → (m : ℕ) × ((m < n) × Of m c)) → Among (flat_map keyword_of (own_below v n)) c ⊎ Among (flat_map keyword_of (own_row v n)) c → (m : ℕ) × ((m < suc n) × Of m c)
      by before (inl x) = let k = before x in let lt = k.1.0 in (k.0, (omega (arith, lt), k.1.1))
      by before (inr x) = (n, (omega arith, of-row n (bound_to v.bindings (own_label v n)) c x))

  expression-good : (n : ℕ) (c : PlainCore) → Of n c → IsKeptExpression own given c
  expression-good n c e = kept.good (own_label v n) c next e

  pub keywords-each : (P : PlainCore → Type 0) → ((c : PlainCore) → IsKeptExpression own given c → P c) → Each P (flat_map keyword_of (own_bindings v))
  unfolding own_bindings
  keywords-each P h = each-of P (flat_map keyword_of (own_below v v.names.number)) (λ c a. let k = of-below v.names.number c a in h c (expression-good k.0 c k.1.1))

  pub keywords-spent : (c : PlainCore) (n : Named) → Among (flat_map keyword_of (own_bindings v)) c → MakesName c n → IsSpent own v n
  unfolding own_bindings
  keywords-spent c n a x = let k = of-below v.names.number c a in (own_label v k.0, (c, (next, (k.1.1, x))))

  -- what core code has of a kind
  module _ {A : Type 0} (g : PlainCore → List A) (name : A → Named) (has : (c : PlainCore) (x : A) → Among (g c) x → MakesName c (name x)) (once : (c : PlainCore) → IsWellMade [] c → Once (g c)) where
    pub in-flat : (cs : List PlainCore) (x : A) → Among (flat_map g cs) x → (c : PlainCore) × (Among cs c × Among (g c) x)
    in-flat [] x a = elim a [ ]
    in-flat (c ∷ cs) x a = by (in-flat cs x) (among-parts (g c) (flat_map g cs) x a)
      where
        by : (Among (flat_map g cs) x → (d : PlainCore) × (Among cs d × Among (g d) x)) → Among (g c) x ⊎ Among (flat_map g cs) x → (d : PlainCore) × (Among (c ∷ cs) d × Among (g d) x)
        by rest (inl b) = (c, (inl refl, b))
        by rest (inr b) = let k = rest b in (k.0, (inr k.1.0, k.1.1))

    one-once : (n : ℕ) (cs : List PlainCore) → ((c : PlainCore) → Among cs c → Of n c) → Once cs → Once (flat_map g cs)
    one-once n [] h k = tt
    one-once n (c ∷ cs) h k = once-append (g c) (flat_map g cs) (once c (expression-good n c (h c (inl refl))).well_made) (one-once n cs (λ d a. h d (inr a)) k.1) (λ x a b. by x b)
      where
        by : (x : A) → Among (flat_map g cs) x → ⊥
        by x b = let k' = in-flat cs x b in k.0 (subst (λ (d : PlainCore). Among cs d) (same (h k'.0 (inr k'.1.0))) k'.1.0)
          where
            same : {d : PlainCore} → Of n d → d ≡ c
            same {d} e = let f = h c (inl refl) in let is : Some d ≡ Some c = sym e ∙ f in cc

    row-once : (n : ℕ) (o : Option Binding) → Once (flat_map keyword_of (row_at v (own_label v n) o))
    row-once n None = tt
    row-once n (Some (binding.Variable w)) = tt
    row-once n (Some (binding.PatternVariable level depth)) = tt
    row-once n (Some (binding.Macro level e)) = by (expression_of (own_label v n) (stage_of v))
      where
        by : (o : Option PlainCore) → Once (keyword_of (own_label v n, binding.Macro level o) ++ [])
        by None = tt
        by (Some c) = ((λ a. a), tt)
    row-once n (Some (binding.Core f)) = tt
    row-once n (Some (binding.Primitive o)) = tt

    below-once : (n : ℕ) → Once (flat_map g (flat_map keyword_of (own_below v n)))
    below-once zero = tt
    below-once (suc n) =
        let before = flat_map keyword_of (own_below v n) in
        let row = flat_map keyword_of (own_row v n) in
        subst (λ (cs : List PlainCore). Once (flat_map g cs)) (sym (flat_map-append keyword_of (own_below v n) (own_row v n)))
        (subst (λ (xs : List A). Once xs) (sym (flat_map-append g before row))
        (once-append (flat_map g before) (flat_map g row) (below-once n)
        (one-once n row (λ c a. of-row n (bound_to v.bindings (own_label v n)) c a) (row-once n (bound_to v.bindings (own_label v n))))
        (λ x a b. let p = in-flat before x a in let q = in-flat row x b in let m = of-below n p.0 p.1.0 in
        let is = kept.apart (own_label v m.0) (own_label v n) p.0 q.0 (name x) next next m.1.1 (of-row n (bound_to v.bindings (own_label v n)) q.0 q.1.0) (has p.0 x p.1.1) (has q.0 x q.1.1) in
        let e = ap (λ (l : Label). l.0.number) is in let lt = m.1.0 in omega (arith, e, lt))))

    pub keywords-once : Once (flat_map g (flat_map keyword_of (own_bindings v)))
    unfolding own_bindings
    keywords-once = below-once v.names.number

-- Lines.

run-unspent : (own : LibName) (given : List Label) (v : State) (xs : List Line) → AreUnspent own v (flat_map line_labels xs) → LinesAway own given v xs → AreUnspent own v (flat_map line_binders xs)
run-unspent own given v [] h k = tt
run-unspent own given v (line.Define l c ∷ xs) h k = (h.0, each-append (λ (m : Label). Unspent own v m.0) (binders c) (flat_map line_binders xs) k.0.labels (run-unspent own given v xs h.1 k.1))
run-unspent own given v (line.Expr c ∷ xs) h k = each-append (λ (m : Label). Unspent own v m.0) (binders c) (flat_map line_binders xs) k.0.labels (run-unspent own given v xs h k.1)

each-flat : {X Y : Type 0} (P : Y → Type 0) (g : X → List Y) (xs : List X) → Each (λ x. Each P (g x)) xs → Each P (flat_map g xs)
each-flat P g [] h = tt
each-flat P g (x ∷ xs) h = each-append P (g x) (flat_map g xs) h.0 (each-flat P g xs h.1)

numbers-unspent : (own : LibName) (given : List Label) (v : State) (xs : List Line) → LinesAway own given v xs → Each (λ (n : CodeNo). Unspent own v n.0) (flat_map code_numbers (map line_core xs))
numbers-unspent own given v [] h = tt
numbers-unspent own given v (x ∷ xs) h = each-append (λ (n : CodeNo). Unspent own v n.0) (code_numbers (line_core x)) (flat_map code_numbers (map line_core xs)) (each-flat (λ (n : CodeNo). Unspent own v n.0) own_number (parts (line_core x)) h.0.codes) (numbers-unspent own given v xs h.1)

-- each keyword has its expression
module _ (own : LibName) (records : List CompiledLibrary) (imports : List ImportedName) (codes : Codes) (r : CompiledLibrary) (ready : IsReady own records) (runs : Runs own (flat_map defined records) (started own records imports codes) r) where
  abbrev l : ℕ → Label
  l n = own_label runs.ended n

  added : (n : ℕ) (b : Binding) → bound_to runs.ended.bindings (l n) ≡ Some b → IsAdded b
  added n b e = by (runs.grows.bindings (l n) b e)
    where
      by : (bound_to (started own records imports codes).bindings (l n) ≡ Some b) ⊎ (((l n).0.library ≡ own) × IsAdded b) → IsAdded b
      by (inl k) = absurd (started-foreign own records imports codes ready (l n) b k runs.next)
      by (inr k) = k.1

  recorded : (n : ℕ) (b : Binding) → bound_to runs.ended.bindings (l n) ≡ Some b → IsRecorded (l n, completed runs.ended (l n) b)
  recorded n (binding.Variable v) e = tt
  recorded n (binding.PatternVariable level depth) e = tt
  recorded n (binding.Macro level None) e = let k = keyword-kept own records imports codes r ready runs n level None e in subst (λ (o : Option PlainCore). IsRecorded (l n, binding.Macro level o)) (sym k.1) tt
  recorded n (binding.Macro level (Some c)) e = elim (added n (binding.Macro level (Some c)) e) [ ]
  recorded n (binding.Core f) e = elim (added n (binding.Core f) e) [ ]
  recorded n (binding.Primitive o) e = elim (added n (binding.Primitive o) e) [ ]

  all-recorded : Each IsRecorded r.bindings
  all-recorded = subst (Each IsRecorded) (sym runs.bindings) (bindings-hold runs.ended IsRecorded recorded)

pub keywords-good : KeywordsAreGood
keywords-good own records imports body codes r h e =
    let given = flat_map defined records in
    let runs = record-runs own records imports body codes r h e in
    let good = records-good own records imports body codes r h e in
    let ended = record-ends own records imports body codes r h e in
    let v = ended.state in
    let ends = ended.ends in
    let is : flat_map keyword_of (own_bindings v) ≡ keywords r = ap (flat_map keyword_of) (sym ends.bindings) in
    let each = keywords-each own given v ends.next ends.kept in
    let labels = keywords-once own given v ends.next ends.kept binders (λ (m : Label). m.0) (λ c x a. inl a) (λ c w. w.bound_once) in
    let numbers = keywords-once own given v ends.next ends.kept code_numbers (λ (n : CodeNo). n.0) (λ c x a. inr a) (λ c w. w.numbered_once) in
    record {
      kinds = all-recorded own records imports codes r h runs;
      well_made = subst (Each (IsWellMade [])) is (each (IsWellMade []) (λ c x. x.well_made));
      primitives = each-flat (λ o. is_keyword o ≡ false) ops (keywords r) (subst (Each (λ (c : PlainCore). Each (λ o. is_keyword o ≡ false) (ops c))) is (each (λ (c : PlainCore). Each (λ o. is_keyword o ≡ false) (ops c)) (λ c x. x.primitives)));
      closed = subst (Each (Closed given)) is (each (Closed given) (λ c x. x.closed));
      bound_once = once-append (run_binders r) (flat_map binders (keywords r)) good.0.bound_once (subst (λ (cs : List PlainCore). Once (flat_map binders cs)) is labels)
          (λ m a b. label-apart given v ends is m a b);
      bound_here = each-append (λ (m : Label). m.0.library ≡ r.name) (run_binders r) (flat_map binders (keywords r)) good.0.bound_here
          (each-flat (λ (m : Label). m.0.library ≡ r.name) binders (keywords r) (subst (Each (λ (c : PlainCore). Each (λ (m : Label). m.0.library ≡ r.name) (binders c))) is
          (each (λ (c : PlainCore). Each (λ (m : Label). m.0.library ≡ r.name) (binders c)) (λ c x. each-of (λ (m : Label). m.0.library ≡ r.name) (binders c) (λ m a. x.names_here m.0 (inl a) ∙ sym runs.name)))));
      numbered_once = subst (λ (ns : List CodeNo). Once ns) (sym (flat_map-append code_numbers (line_cores r) (keywords r)))
          (once-append (flat_map code_numbers (line_cores r)) (flat_map code_numbers (keywords r)) good.0.numbered_once (subst (λ (cs : List PlainCore). Once (flat_map code_numbers cs)) is numbers)
          (λ n a b. number-apart given v ends is n a b));
      numbered_here = subst (Each (λ (n : CodeNo). n.0.library ≡ r.name)) (sym (flat_map-append code_numbers (line_cores r) (keywords r)))
          (each-append (λ (n : CodeNo). n.0.library ≡ r.name) (flat_map code_numbers (line_cores r)) (flat_map code_numbers (keywords r)) good.0.numbered_here
          (each-flat (λ (n : CodeNo). n.0.library ≡ r.name) code_numbers (keywords r) (subst (Each (λ (c : PlainCore). Each (λ (n : CodeNo). n.0.library ≡ r.name) (code_numbers c))) is
          (each (λ (c : PlainCore). Each (λ (n : CodeNo). n.0.library ≡ r.name) (code_numbers c)) (λ c x. each-of (λ (n : CodeNo). n.0.library ≡ r.name) (code_numbers c) (λ n a. x.names_here n.0 (inr a) ∙ sym runs.name))))));
    }
  where
    label-apart : (given : List Label) (v : State) → Ends own given r v → flat_map keyword_of (own_bindings v) ≡ keywords r → (m : Label) → Among (run_binders r) m → Among (flat_map binders (keywords r)) m → ⊥
    label-apart given v ends is m a b =
        let k = in-flat own given v ends.next ends.kept binders (λ (x : Label). x.0) (λ c x y. inl y) (λ c w. w.bound_once) (keywords r) m b in
        (each-at (λ (x : Label). Unspent own v x.0) (run_binders r) m (run-unspent own given v r.run ends.labels ends.lines) a).1
        (keywords-spent own given v ends.next ends.kept k.0 m.0 (subst (λ (cs : List PlainCore). Among cs k.0) (sym is) k.1.0) (inl k.1.1))

    number-apart : (given : List Label) (v : State) → Ends own given r v → flat_map keyword_of (own_bindings v) ≡ keywords r → (n : CodeNo) → Among (flat_map code_numbers (line_cores r)) n → Among (flat_map code_numbers (keywords r)) n → ⊥
    number-apart given v ends is n a b =
        let k = in-flat own given v ends.next ends.kept code_numbers (λ (x : CodeNo). x.0) (λ c x y. inr y) (λ c w. w.numbered_once) (keywords r) n b in
        (each-at (λ (x : CodeNo). Unspent own v x.0) (flat_map code_numbers (line_cores r)) n (numbers-unspent own given v r.run ends.lines) a).1
        (keywords-spent own given v ends.next ends.kept k.0 n.0 (subst (λ (cs : List PlainCore). Among cs k.0) (sym is) k.1.0) (inr k.1.1))
