-- The record of a library or program.
use Rattle.std.proofs.Common.{◌≡◌, ℕ, ◌≤◌, false, List, [], ◌∷◌, map, Option, None, Some, refl, ◌∙◌, ap, subst, arith, inl, inr}
use Rattle.std.specs.Prelude.{◌⊎◌}
use Rattle.std.specs.List.{flat_map}
use Rattle.base_data.proofs.ElementLemmas.{each-at, each-append, among-parts}
use Rattle.base_data.specs.Act.{after, give}
use Rattle.base_data.specs.Elements.{Each, Among, Once}
use Rattle.base_data.specs.Op.{is_keyword}
use Rattle.base_data.specs.declared.imported_name.ImportedName.{ImportedName}
use Rattle.base_data.specs.declared.library.LibName.{LibName}
use Rattle.base_data.specs.declared.name.Label.{Label}
use Rattle.stx_tree.specs.Changes.{stamp}
use Rattle.stx_tree.specs.Tree.{Tree}
use Rattle.stx_frames.specs.Scope.{Scope}
use Rattle.stx_scope.specs.Stands.{stands}
use Rattle.core_language.specs.References.{binders}
use Rattle.core_language.specs.declared.record.Line.{Line}
use Rattle.core_language.specs.declared.record.Line.TheVariants as line
use Rattle.law_core.specs.Parts.{ops, code_numbers}
use Rattle.law_core.specs.WellMade.{IsWellMade}
use Rattle.law_core.specs.Scope.{Closed}
use Rattle.law_core.specs.Records.{line_core, line_labels, line_binders}
use Rattle.expand_standing.specs.Own.{export_labels}
use Rattle.expand_standing.specs.State.{State}
use Rattle.expand_forms.specs.Top.{stands_for, export, all_exports, exports}
use Rattle.expand_forms.specs.declared.top.TopAt.{TopAt}
use Rattle.law_expand.proofs.Acts.{Gave, gave-after, gave-each}
use Rattle.law_expand.proofs.Fresh.{Made, FreshLabels, FreshCodes, code_name, each-map, once-append, fresh-none, fresh-append}
use Rattle.law_expand.proofs.Good.{Bindings, InTurn, IsFrom, Before}
use Rattle.law_expand.proofs.LineLabels.{kind_labels}
use Rattle.law_expand.proofs.Lines.{GoodLine, kinds}
use Rattle.law_expand.proofs.Shown.{IsShown, leaf-shown}
use Rattle.law_expand.proofs.WellMade.{good-well-made, good-primitives}

-- Lines, each of which was made behind the one before it and behind all variables that they define.

pub kinds-defined : (xs : List Line) → flat_map line_labels xs ≡ kind_labels (kinds xs)
kinds-defined [] = refl
kinds-defined (line.Define l c ∷ xs) = ap (λ ls. l ∷ ls) (kinds-defined xs)
kinds-defined (line.Expr c ∷ xs) = kinds-defined xs

pub record GoodRun (own : LibName) (bs : Bindings) (ls : List Label) (a m b : ℕ) (xs : List Line) : Type 0 where
  pub labels : FreshLabels own a m (flat_map line_labels xs)
  pub lines : InTurn (GoodLine own bs [] ls) m b xs

module _ (own : LibName) (bs : Bindings) (ls : List Label) where
  pub lines-closed : (a b : ℕ) (xs : List Line) → InTurn (GoodLine own bs [] ls) a b xs → Each (λ x. Closed ls (line_core x)) xs
  lines-closed a b [] h = tt
  lines-closed a b (x ∷ xs) (m, (h, k)) = (h.closed, lines-closed m b xs k)

  pub lines-well-made : (a b : ℕ) (xs : List Line) → InTurn (GoodLine own bs [] ls) a b xs → Each (IsWellMade []) (map line_core xs)
  lines-well-made a b [] h = tt
  lines-well-made a b (x ∷ xs) (m, (h, k)) = (good-well-made own bs [] ls a m (line_core x) tt h, lines-well-made m b xs k)

  pub lines-primitives : (a b : ℕ) (xs : List Line) → InTurn (GoodLine own bs [] ls) a b xs → Each (λ o. is_keyword o ≡ false) (flat_map ops (map line_core xs))
  lines-primitives a b [] h = tt
  lines-primitives a b (x ∷ xs) (m, (h, k)) =
      each-append (λ o. is_keyword o ≡ false) (ops (line_core x)) (flat_map ops (map line_core xs)) (good-primitives own bs [] ls a m (line_core x) h) (lines-primitives m b xs k)

  lines-up : (a b : ℕ) (xs : List Line) → InTurn (GoodLine own bs [] ls) a b xs → a ≤ b
  lines-up a b [] h = h
  lines-up a b (x ∷ xs) (m, (h, k)) = let u = h.inner.up in let v = lines-up m b xs k in omega (arith, u, v)

  pub lines-codes : (a b : ℕ) (xs : List Line) → InTurn (GoodLine own bs [] ls) a b xs → FreshCodes own a b (flat_map code_numbers (map line_core xs))
  lines-codes a b [] h = fresh-none code_name own a b
  lines-codes a b (x ∷ xs) (m, (h, k)) =
      fresh-append code_name own a m b (code_numbers (line_core x)) (flat_map code_numbers (map line_core xs)) h.inner.up (lines-up m b xs k) h.inner.codes (lines-codes m b xs k)

  -- each binder is a variable of a line or was made in it, and none comes again
  record Binders (labels : List Label) (a b : ℕ) (xs : List Line) : Type 0 where
    pub from : Each (IsFrom own labels a b) (flat_map line_binders xs)
    pub once : Once (flat_map line_binders xs)

  line-from : (labels wide : List Label) (a m b : ℕ) → ((l : Label) → Among labels l → Among wide l) → a ≤ m → (l : Label) → IsFrom own labels m b l → IsFrom own wide a b l
  line-from labels wide a m b w le l (inl x) = inl (w l x)
  line-from labels wide a m b w le l (inr x) = inr (record { library = x.library; low = omega (arith, le, x.low); high = x.high })

  between : (labels : List Label) (first a m b : ℕ) (l : Label) → first ≤ a → Each (Before first) labels → IsFrom own labels m b l → Made own a m l.0 → ⊥
  between labels first a m b l le before (inl x) y = let z = each-at (Before first) labels l before x in omega (arith, z, le, y.low)
  between labels first a m b l le before (inr x) y = omega (arith, x.low, y.high)

  lines-binders : (first a b : ℕ) (xs : List Line) → first ≤ a → Each (Before first) (flat_map line_labels xs) → Once (flat_map line_labels xs) → InTurn (GoodLine own bs [] ls) a b xs → Binders (flat_map line_labels xs) a b xs
  lines-binders first a b [] le before once h = record { from = tt; once = tt }
  lines-binders first a b (line.Expr c ∷ xs) le before once (m, (h, k)) =
      let rest = lines-binders first m b xs (let u = h.inner.up in omega (arith, le, u)) before once k in
      let labels = flat_map line_labels xs in
      let up = lines-up m b xs k in
      record {
        from = each-append (IsFrom own labels a b) (binders c) (flat_map line_binders xs)
            (each-map (λ l. Made own a m l.0) (IsFrom own labels a b) (binders c) h.binders.made (λ l d. inr (record { library = d.library; low = d.low; high = omega (arith, d.high, up) })))
            (each-map (IsFrom own labels m b) (IsFrom own labels a b) (flat_map line_binders xs) rest.from (line-from labels labels a m b (λ l x. x) h.inner.up));
        once = once-append (binders c) (flat_map line_binders xs) h.binders.once rest.once
            (λ l d e. between labels first a m b l le before (each-at (IsFrom own labels m b) (flat_map line_binders xs) l rest.from e) (each-at (λ (n : Label). Made own a m n.0) (binders c) l h.binders.made d));
      }
  lines-binders first a b (line.Define v c ∷ xs) le before once (m, (h, k)) =
      let rest = lines-binders first m b xs (let u = h.inner.up in omega (arith, le, u)) before.1 once.1 k in
      let labels = flat_map line_labels xs in
      let up = lines-up m b xs k in
      record {
        from = (
          inl (inl refl),
          each-append (IsFrom own (v ∷ labels) a b) (binders c) (flat_map line_binders xs)
              (each-map (λ l. Made own a m l.0) (IsFrom own (v ∷ labels) a b) (binders c) h.binders.made (λ l d. inr (record { library = d.library; low = d.low; high = omega (arith, d.high, up) })))
              (each-map (IsFrom own labels m b) (IsFrom own (v ∷ labels) a b) (flat_map line_binders xs) rest.from (line-from labels (v ∷ labels) a m b (λ l x. inr x) h.inner.up)),
        );
        once = (
          (λ d. new (each-at (IsFrom own labels m b) (flat_map line_binders xs) v rest.from) (among-parts (binders c) (flat_map line_binders xs) v d)),
          once-append (binders c) (flat_map line_binders xs) h.binders.once rest.once
              (λ l d e. between labels first a m b l le before.1 (each-at (IsFrom own labels m b) (flat_map line_binders xs) l rest.from e) (each-at (λ (n : Label). Made own a m n.0) (binders c) l h.binders.made d)),
        );
      }
    where
      again : IsFrom own (flat_map line_labels xs) m b v → ⊥
      again (inl x) = once.0 x
      again (inr x) = let u = h.inner.up in omega (arith, before.0, le, u, x.low)

      new : (Among (flat_map line_binders xs) v → IsFrom own (flat_map line_labels xs) m b v) → Among (binders c) v ⊎ Among (flat_map line_binders xs) v → ⊥
      new at (inl d) = let x = each-at (λ (n : Label). Made own a m n.0) (binders c) v h.binders.made d in omega (arith, x.low, before.0, le)
      new at (inr d) = again (at d)

  pub run-binders : (a m b : ℕ) (xs : List Line) → GoodRun own bs ls a m b xs → (Once (flat_map line_binders xs)) × (Each (λ l. l.0.library ≡ own) (flat_map line_binders xs))
  run-binders a m b xs h =
      let before = each-map (λ l. Made own a m l.0) (Before m) (flat_map line_labels xs) h.labels.made (λ l x. x.high) in
      let all = lines-binders m m b xs (omega arith) before h.labels.once h.lines in
      (all.once, each-map (IsFrom own (flat_map line_labels xs) m b) (λ l. l.0.library ≡ own) (flat_map line_binders xs) all.from library)
    where
      library : (l : Label) → IsFrom own (flat_map line_labels xs) m b l → l.0.library ≡ own
      library l (inl x) = (each-at (λ (n : Label). Made own a m n.0) (flat_map line_labels xs) l h.labels.made x).library
      library l (inr x) = x.library

-- The exports change nothing but the list of them.

pub record SameScope (s t : State) : Type 0 where
  pub library : t.library ≡ s.library
  pub names : t.names ≡ s.names
  pub frames : t.frames ≡ s.frames
  pub bindings : t.bindings ≡ s.bindings
  pub index : t.index ≡ s.index
  pub keywords : t.keywords ≡ s.keywords
  pub scope : t.scope ≡ s.scope

same-self : (s : State) → SameScope s s
same-self s = record { library = refl; names = refl; frames = refl; bindings = refl; index = refl; keywords = refl; scope = refl }

same-then : (s t u : State) → SameScope s t → SameScope t u → SameScope s u
same-then s t u h k = record { library = k.library ∙ h.library; names = k.names ∙ h.names; frames = k.frames ∙ h.frames; bindings = k.bindings ∙ h.bindings; index = k.index ∙ h.index; keywords = k.keywords ∙ h.keywords; scope = k.scope ∙ h.scope }

-- the labels are shown
abbrev pub AreShown : Scope → List ImportedName → Type 0
AreShown fs es = Each (λ (e : ImportedName). IsShown fs e.label) es

same-export : (at : TopAt) (e : List ℕ × Tree) (s : State) → Gave (λ x t. SameScope s t × IsShown s.frames x.label) (export at e s)
unfolding export
same-export at e s = by (stands s.frames (stamp at.frame e.1)) refl
  where
    by : (o : Option Label) → stands s.frames (stamp at.frame e.1) ≡ o → Gave (λ x t. SameScope s t × IsShown s.frames x.label) (stands_for at.place e.0 (stamp at.frame e.1) o s)
    by None is = tt
    by (Some l) is = (same-self s, leaf-shown s.frames (stamp at.frame e.1) l is)

pub same-exports : (at : TopAt) (es : List (List ℕ × Tree)) (s : State) → Gave (λ xs t. SameScope s t × AreShown s.frames xs) (exports at es s)
unfolding exports
same-exports at es s =
    gave-after (λ xs t. SameScope s t × AreShown s.frames xs) (λ xs t. SameScope s t × AreShown s.frames xs) (all_exports at es s) (λ ls t. after (export_labels ls t) (λ _. give ls))
    (gave-each (export at) (λ e t x u. SameScope t u × IsShown t.frames x.label) (λ ys t xs u. SameScope t u × AreShown t.frames xs) (λ t. Unit {0})
    (λ t k. (same-self t, tt)) (λ e t k. same-export at e t) (λ e t u x k j. tt)
    (λ e ys t u v x xs k j a. (same-then t u v j.0 a.0, (j.1, subst (λ fs. AreShown fs xs) j.0.frames a.1))) es s tt)
    (λ xs t k. (record { library = k.0.library; names = k.0.names; frames = k.0.frames; bindings = k.0.bindings; index = k.0.index; keywords = k.0.keywords; scope = k.0.scope }, k.1))
