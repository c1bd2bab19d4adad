-- Items and trees, one after another.
use Rattle.std.proofs.Common.{◌≡◌, List, [], ◌∷◌, ◌++◌, refl, ap, sym, ◌∙◌, append_assoc}
use Rattle.stx_tree.specs.Tree.{Tree}
use Rattle.core_language.specs.Template.{PlainItems, none, more}
use Rattle.core_language.specs.TemplateView.{items}
use Rattle.core_language.specs.declared.template.TemplateItem.{TemplateItem}
use Rattle.eval_template.specs.declared.compile.CompiledForm.{CompiledForm}
use Rattle.eval_template.specs.declared.compile.CompiledForm.TheVariants.{Fixed, Varied}
use Rattle.eval_template.specs.declared.compile.MadeItem.{MadeItem}
use Rattle.eval_template.specs.Compile.{template_of, items_of, tree_before, trees}

abbrev then_items : PlainItems → PlainItems → PlainItems
then_items none js = js
then_items (more t e is) js = more t e (then_items is js)

items-append : (xs ys : List TemplateItem) → items (xs ++ ys) ≡ then_items (items xs) (items ys)
items-append [] ys = refl
items-append (x ∷ xs) ys = ap (more x.template x.ellipses) (items-append xs ys)

items_of-append : (xs ys : List MadeItem) → items_of (xs ++ ys) ≡ then_items (items_of xs) (items_of ys)
items_of-append [] ys = refl
items_of-append (x ∷ xs) ys = ap (more (template_of x.made) x.ellipses) (items_of-append xs ys)

-- one more item
pub items_on : (xs : List TemplateItem) (ys : List MadeItem) (x : TemplateItem) (y : MadeItem) → items xs ≡ items_of ys → x.template ≡ template_of y.made → x.ellipses ≡ y.ellipses
    → items (xs ++ x ∷ []) ≡ items_of (ys ++ y ∷ [])
items_on xs ys x y h t e =
    items-append xs (x ∷ []) ∙ ap (λ is. then_items is (more x.template x.ellipses none)) h
    ∙ ap (λ u. then_items (items_of ys) (more u x.ellipses none)) t ∙ ap (λ n. then_items (items_of ys) (more (template_of y.made) n none)) e
    ∙ sym (items_of-append ys (y ∷ []))

before-append : (m : CompiledForm) (ts : List Tree) → tree_before m ts ≡ tree_before m [] ++ ts
before-append (Fixed changed t) ts = refl
before-append (Varied t r) ts = refl

trees-append : (xs ys : List MadeItem) → trees (xs ++ ys) ≡ trees xs ++ trees ys
trees-append [] ys = refl
trees-append (x ∷ xs) ys =
    ap (tree_before x.made) (trees-append xs ys) ∙ before-append x.made (trees xs ++ trees ys)
    ∙ sym (append_assoc (tree_before x.made []) (trees xs) (trees ys)) ∙ ap (λ ts. ts ++ trees ys) (sym (before-append x.made (trees xs)))

-- one more tree
pub trees_on : (ts us : List Tree) (xs : List MadeItem) (x : MadeItem) → ts ≡ trees xs → us ≡ ts ++ tree_before x.made [] → us ≡ trees (xs ++ x ∷ [])
trees_on ts us xs x h e = e ∙ ap (λ vs. vs ++ tree_before x.made []) h ∙ sym (trees-append xs (x ∷ []))
