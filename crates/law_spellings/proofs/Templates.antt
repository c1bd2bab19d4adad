-- The template that a form stands for has no more levels than the form is high.
use Rattle.std.proofs.Common.{◌≡◌, ◌≤◌, ◌+◌, ℕ, suc, max, Bool, false, List, Option, None, Some, Ok, subst, arith}
use Rattle.base_data.specs.declared.atom.Atom.TheVariants as a
use Rattle.stx_tree.specs.Measures.{height}
use Rattle.stx_tree.specs.Tree.{Tree, atom, leaf, pair, vector}
use Rattle.stx_frames.specs.Scope.{Scope}
use Rattle.core_language.specs.Template as template
use Rattle.core_language.specs.Template.{PlainTemplate, PlainItems}
use Rattle.core_shapes.specs.Lists.{elements}
use Rattle.eval_template.specs.Compile.{TemplateScope, compiled}
use Rattle.base_data.specs.Elements.{Each}
use Rattle.law_compiled.specs.Templates as m
use Rattle.law_compiled.specs.Templates.{AreDotted, constants, list_by, vector_by, IsTemplate, AreSubtemplates, HoldsLists, IsMade}
use Rattle.law_compiled.proofs.Templates.{others-are-bad-templates}
use Rattle.law_levels.specs.Levels.{template_levels, items_levels}
use Rattle.law_readable.specs.Readable.{ReadableTree, IsProper}
use Rattle.law_shapes.specs.Grammar as g
use Rattle.law_shapes.specs.Grammar.{IsList}
use Rattle.law_spellings.proofs.Heights.{itself, height-some, Below, chain-low, list-low, end-low}

-- A list or vector of constants is a constant, which has one level.

some-level : (a b : ℕ) → 1 ≤ suc (max a b)
some-level a b = omega arith

one-level : (a : ℕ) → 1 ≤ suc a
one-level a = omega arith

list-by-low : (is : PlainItems) (o : Option (List Tree)) (x : PlainTemplate) → template_levels (list_by is o x) ≤ suc (max (items_levels is) (template_levels x))
list-by-low is None x = itself (suc (max (items_levels is) (template_levels x)))
list-by-low is (Some us) (template.variable l d) = itself (suc (max (items_levels is) 1))
list-by-low is (Some us) (template.constant u) = some-level (items_levels is) 1
list-by-low is (Some us) (template.list js x) = itself (suc (max (items_levels is) (template_levels (template.list js x))))
list-by-low is (Some us) (template.vector js) = itself (suc (max (items_levels is) (template_levels (template.vector js))))

vector-by-low : (is : PlainItems) (o : Option (List Tree)) → template_levels (vector_by is o) ≤ suc (items_levels is)
vector-by-low is None = itself (suc (items_levels is))
vector-by-low is (Some us) = one-level (items_levels is)

through-low : (k a b n : ℕ) → k ≤ suc (max a b) → a + 1 ≤ n → b + 1 ≤ n → k ≤ n
through-low k a b n e h j = omega (arith, e, h, j)

through-suc : (k a n : ℕ) → k ≤ suc a → a + 1 ≤ n → k ≤ n
through-suc k a n e h = omega (arith, e, h)

inner-low : (k a n : ℕ) → k ≤ a → a + 1 ≤ n → k ≤ n
inner-low k a n h j = omega (arith, h, j)

max-low : (a b c n : ℕ) → a ≤ c → c + 1 ≤ n → b + 1 ≤ n → max a b + 1 ≤ n
max-low a b c n h j k = omega (arith, h, j, k)

behind-dots : {fs : Scope} {escaped : Bool} {ts rest : List Tree} {k : ℕ} (P : Tree → Type 0) → AreDotted fs escaped ts k rest → Each P ts → Each P rest
behind-dots P (m.undotted free) h = h
behind-dots P (m.dotted is word dots) h = behind-dots P dots h.1

module _ (c : TemplateScope) where
  mutual
    levels : {escaped : Bool} {under : ℕ} {t : Tree} {x : PlainTemplate} → IsTemplate c escaped under t x → template_levels x ≤ height t
    levels m.a_datum = omega arith
    levels (m.an_identifier {t = t} free other) = height-some t
    levels (m.a_variable {t = t} k free is le) = height-some t
    levels (m.an_escape {t = t} {u = u} {p = x} word list one) = inner-low (template_levels x) (height u) (height t) (levels one) (list-low (height t) (itself (height t)) list).1.0
    levels (m.a_list {t = t} {is = is} {p = x} chain are last) =
        through-low (template_levels (list_by is (constants is) x)) (items_levels is) (template_levels x) (height t) (list-by-low is (constants is) x)
        (all-levels (height t) are (chain-low (height t) (itself (height t)) chain) (height-some t)) (end-low (template_levels x) chain (levels last))
    levels (m.a_vector {t = t} {is = is} list are) =
        through-suc (template_levels (vector_by is (constants is))) (items_levels is) (height t) (vector-by-low is (constants is)) (all-levels (height t) are (list-low (height t) (itself (height t)) list) (height-some t))

    all-levels : {escaped : Bool} {under : ℕ} {xs : List Tree} {is : PlainItems} (n : ℕ) → AreSubtemplates c escaped under xs is → Each (Below n) xs → 1 ≤ n → items_levels is + 1 ≤ n
    all-levels n m.no_item h some = some
    all-levels n (m.an_item {x = x} {p = q} {is = is} dots one repeated are) h some =
        max-low (template_levels q) (items_levels is) (height x) n (levels one) h.0 (all-levels n are (behind-dots (Below n) dots h.1) some)

pub compiled-levels : (c : TemplateScope) (t : Tree) (x : PlainTemplate) → HoldsLists t → compiled c t ≡ Ok x → template_levels x ≤ height t
compiled-levels c t x h e =
    let told : IsTemplate c false 0 t x = subst (IsMade c t) e (others-are-bad-templates c t h) in
    levels c told

-- In what can be read each vector holds a list.

is-list : (t : Tree) → IsProper t → IsList (elements t) t
is-list (atom s a.Nil) h = g.end
is-list (atom s _) h = absurd (h)
is-list (leaf s x c) h = absurd (h)
is-list (pair s x d) h = g.next (is-list d h)
is-list (vector s d) h = absurd (h)

pub holds-lists : (t : Tree) → ReadableTree t → HoldsLists t
holds-lists (atom s x) h = tt
holds-lists (leaf s x c) h = tt
holds-lists (pair s x d) h = (holds-lists x h.0, holds-lists d h.1)
holds-lists (vector s d) h = (is-list d h.1, holds-lists d h.0)
