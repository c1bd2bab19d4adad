-- What patterns and templates in memory are, as their codecs take them.
use Rattle.std.specs.Prelude.{ℕ, zero, suc, ◌-◌, ◌<◌, Bool, true, List, [], ◌∷◌, map, Option, Some, None}
use Rattle.std.proofs.Common.{◌≡◌, refl, sym, ap, ◌∙◌, arith, inl, inr}
use Rattle.base_data.specs.declared.atom.Atom.{Atom}
use Rattle.base_data.specs.declared.name.Label.{Label}
use Rattle.base_bytes.specs.Codec.{Codec, listed, never, ◌then◌, u32}
use Rattle.core_codec.specs.Code.{SplitPatterns, split, joined, has_one_dots, has_no_dots, plain_patterns, pattern, pattern_level, template, template_level, items, item_list, items_of}
use Rattle.core_language.specs.Pattern as p
use Rattle.core_language.specs.Pattern.{PlainPattern, PlainPatterns, patterns, patterns_on}
use Rattle.core_language.specs.PatternView.{elements_of, repeated_on}
use Rattle.core_language.specs.Template.{PlainTemplate, PlainItems, more}
use Rattle.core_language.specs.TemplateView as view
use Rattle.core_language.specs.declared.pattern.Elements.{Elements}
use Rattle.core_language.specs.declared.pattern.Repeated.{Repeated}
use Rattle.core_language.specs.declared.template.TemplateItem.{TemplateItem}
use Rattle.stx_tree.specs.Tree.{Tree}

-- the repeated pattern, and those after it
abbrev pub repeated_parts : Option Repeated → Option PlainPattern × List PlainPattern
repeated_parts None = (None, [])
repeated_parts (Some r) = (Some r.pattern.value, r.after.items)

-- a pattern of one kind, of what is read of it
abbrev pub variable_case : Label × List ℕ → PlainPattern × List ℕ
variable_case x = (p.variable x.0, x.1)

abbrev pub literal_case : Tree × List ℕ → PlainPattern × List ℕ
literal_case x = (p.literal x.0, x.1)

abbrev pub atom_case : Atom × List ℕ → PlainPattern × List ℕ
atom_case x = (p.atom x.0, x.1)

abbrev pub list_case : (PlainPatterns × PlainPattern) × List ℕ → PlainPattern × List ℕ
list_case x = (p.list x.0.0 x.0.1, x.1)

abbrev pub vector_case : PlainPatterns × List ℕ → PlainPattern × List ℕ
vector_case x = (p.vector x.0, x.1)

plain_there : (xs : List PlainPattern) → (plain_patterns (patterns xs) ≡ xs) × (has_no_dots (patterns xs) ≡ true)
plain_there [] = (refl, refl)
plain_there (x ∷ xs) = let r = plain_there xs in (ap (λ (ys : List PlainPattern). x ∷ ys) r.0, r.1)

split_of : (xs : List PlainPattern) (r : Option Repeated)
    → (split (patterns_on xs (repeated_on r)) ≡ (xs, repeated_parts r)) × (has_one_dots (patterns_on xs (repeated_on r)) ≡ true)
split_of [] None = (refl, refl)
split_of [] (Some r) = let q = plain_there r.after.items in (λ i. ([], (Some r.pattern.value, q.0 i)), q.1)
split_of (x ∷ xs) r = let q = split_of xs r in (λ i. (x ∷ (q.0 i).0, (q.0 i).1), q.1)

pub split_is : (e : Elements) → split (elements_of e) ≡ (e.before.items, repeated_parts e.repeated)
split_is e = (split_of e.before.items e.repeated).0

pub one_dots : (e : Elements) → has_one_dots (elements_of e) ≡ true
one_dots e = (split_of e.before.items e.repeated).1

pub joined_is : (xs : List PlainPattern) (r : Option Repeated) → joined (xs, repeated_parts r) ≡ patterns_on xs (repeated_on r)
joined_is xs None = refl
joined_is xs (Some r) = refl

pub pattern_none : pattern 0 ≡ never
unfolding pattern
pattern_none = refl

pub pattern_more : (room : ℕ) → 0 < room → pattern room ≡ pattern_level (pattern (room - 1))
unfolding pattern
pattern_more zero h = absurd (omega arith)
pattern_more (suc room) h = let same : suc room - 1 ≡ room = omega arith in rw same refl

-- an item with its ellipses, as its codec takes it
abbrev pub item_part : TemplateItem → PlainTemplate × ℕ
item_part i = (i.template, i.ellipses)

pub items_are : (is : List TemplateItem) → item_list (view.items is) ≡ map item_part is
items_are [] = refl
items_are (i ∷ is) = ap (λ (ys : List (PlainTemplate × ℕ)). item_part i ∷ ys) (items_are is)

pub items_back : (is : List TemplateItem) → items_of (map item_part is) ≡ view.items is
items_back [] = refl
items_back (i ∷ is) = ap (λ (ys : PlainItems). more i.template i.ellipses ys) (items_back is)

pub template_none : template 0 ≡ never
unfolding template
template_none = refl

pub template_more : (room : ℕ) → 0 < room → template room ≡ template_level (template (room - 1))
unfolding template
template_more zero h = absurd (omega arith)
template_more (suc room) h = let same : suc room - 1 ≡ room = omega arith in rw same refl
