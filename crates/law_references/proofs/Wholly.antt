-- The references of whole forms.
use Rattle.std.proofs.Common.{◌≡◌, ℕ, true, List, Option, None, Some, refl, sym, ◌∙◌, subst, true≢false}
use Rattle.std.specs.Prelude.{option_map}
use Rattle.base_data.proofs.ElementLemmas.{each-implied}
use Rattle.base_data.specs.Elements.{Among, Each}
use Rattle.base_data.specs.declared.library.LibName.{LibName}
use Rattle.base_data.specs.declared.library.LibName.TheVariants as library
use Rattle.base_data.specs.declared.span.Span.{Span}
use Rattle.base_data.specs.declared.name.Label.{Label}
use Rattle.stx_tree.specs.Context.{LeafContext}
use Rattle.stx_tree.specs.Leaves.{stamps_of}
use Rattle.stx_tree.specs.Tree.{Tree, atom, leaf, pair, vector}
use Rattle.stx_frames.specs.Rows.{Row}
use Rattle.stx_scope.specs.Stands.{stands, symbol_of}
use Rattle.core_shapes.specs.Lists.{is_leaf}
use Rattle.expand_standing.specs.State.{State}
use Rattle.law_hygiene.specs.Binder.{binder_of, Captures}
use Rattle.law_hygiene.proofs.Rowing.{label_by-row}
use Rattle.expand_forms.specs.Expression.{inside}
use Rattle.expand_forms.specs.Site.{site_at}
use Rattle.law_expand.proofs.Acts.{told}
use Rattle.law_fresh.specs.Leaves.{TreeHolds}
use Rattle.law_fresh_expansion.specs.Events.{HasKnownEvents}
use Rattle.law_fresh_expansion.specs.Known.{IsNewAmong}
use Rattle.law_references.specs.Noted.{Reference, KeywordExpression}
use Rattle.law_references.specs.Whole.{IsCaptured, IsRightReference, IsRightExpression, FormsAreHygienic}
use Rattle.law_references.proofs.Capturing.{captures-hygienic}
use Rattle.law_references.proofs.Naming.{mentions-named}
use Rattle.law_references.proofs.Performing.{all-traced}
use Rattle.law_references.proofs.Staying.{Kept, KeptExpression}
use Rattle.law_references.proofs.Walking.{FormMade}

module _ (libs : List LibName) (own : LibName) (core : Among libs library.Core) (new : IsNewAmong libs own) where
  -- an identifier is captured by the binder of what it stands for
  pub captured-so : (n : ℕ) (u : State) (t : Tree) (l : Label) → is_leaf t ≡ true → TreeHolds (HasKnownEvents libs own n) t → stands u.frames t ≡ Some l → IsCaptured libs own n u t l
  captured-so n u t l leafy known now = by t refl
    where
      found : (p : Option Span) (x : List ℕ) (k : LeafContext) → t ≡ leaf p x k → HasKnownEvents libs own n k → (o : Option Row) → binder_of u.frames t ≡ o → option_map (λ (q : Row). q.label) o ≡ Some l → IsCaptured libs own n u t l
      found p x k e g None i j = absurd (cc)
      found p x k e g (Some q) i j =
          let said : Some q.label ≡ Some l = j in
          let same : q.label ≡ l = cc in
          record {
            span = p;
            symbol = x;
            context = k;
            leaf = e;
            history = g;
            now = now;
            row = q;
            captures = i;
            binder = same;
            hygienic = captures-hygienic libs own n p x k g u.frames q (subst (λ (y : Tree). Captures u.frames q y) e i);
          }

      by : (y : Tree) → t ≡ y → IsCaptured libs own n u t l
      by (atom p a) e = absurd (true≢false (sym (subst (λ (y : Tree). is_leaf y ≡ true) e leafy)))
      by (leaf p x k) e = found p x k e (subst (TreeHolds (HasKnownEvents libs own n)) e known) (binder_of u.frames t) refl (sym (label_by-row u.frames (symbol_of t) (stamps_of t)) ∙ now)
      by (pair p a d) e = absurd (true≢false (sym (subst (λ (y : Tree). is_leaf y ≡ true) e leafy)))
      by (vector p d) e = absurd (true≢false (sym (subst (λ (y : Tree). is_leaf y ≡ true) e leafy)))

  -- a reference that was taken is right
  right-so : (u : State) (r : Reference) → Kept libs own core new u r → IsRightReference libs own u r
  right-so u r h = record { code = h.code; stood = h.stood; captured = captured-so r.state.names.number u r.leaf r.label h.leafy h.known h.now }

  pub all-right : (u : State) (refs : List Reference) → Each (Kept libs own core new u) refs → Each (IsRightReference libs own u) refs
  all-right u refs h = each-implied (Kept libs own core new u) (IsRightReference libs own u) (right-so u) refs h

  -- so are expressions of keywords
  right-expression : (e : KeywordExpression) → KeptExpression libs own core new e → IsRightExpression libs own e
  right-expression e h = record { all = h.0; mentions = mentions-named e.code e.references h.0; right = all-right e.state e.references h.1 }

  pub all-expressions : (es : List KeywordExpression) → Each (KeptExpression libs own core new) es → Each (IsRightExpression libs own) es
  all-expressions es h = each-implied (KeptExpression libs own core new) (IsRightExpression libs own) right-expression es h

pub forms-hygienic : FormsAreHygienic
forms-hygienic libs own records room place level depth t s u c core new holds held has e =
    let made = told (FormMade libs own core new records place level t s) ((inside records room).form (site_at place level depth) t s) c u ((all-traced libs own core new records s.names.number held room).form place level depth t s holds has) e in
    (made.noted, (made.is, record { all = made.all; mentions = mentions-named c made.noted.references made.all; right = all-right libs own core new u made.noted.references made.kept; expressions = all-expressions libs own core new made.noted.expressions made.expressions; kept = made.told }))
