-- What is put of lists whose items stand for other values, and of the elements of patterns.
use Rattle.std.proofs.Common.{◌≡◌, ℕ, ◌<◌, Bool, true, false, List, ◌++◌, length, get_or, refl, sym, ap, subst, ◌∙◌, append_assoc}
use Rattle.std.proofs.lemmas.List.Folds.{list_all-map, list_all_at}
use Rattle.std.specs.List.{list_all}
use Rattle.std.specs.Prelude.{◌&&◌, map}
use Rattle.base_bytes.specs.Codec.{Codec, checked, listed, optional, u32, ◌then◌}
use Rattle.base_bytes.specs.Laws.{join}
use Rattle.base_bytes.specs.Puts.{PutsIf}
use Rattle.core_codec.specs.Code.{SplitPatterns, has_one_dots, is_split, elements, items}
use Rattle.core_language.specs.Pattern.{PlainPattern}
use Rattle.core_language.specs.PatternView.{elements_of}
use Rattle.core_language.specs.Template.{PlainTemplate}
use Rattle.core_language.specs.TemplateView as view
use Rattle.core_language.specs.declared.pattern.Elements.{Elements}
use Rattle.core_language.specs.declared.template.TemplateItem.{TemplateItem}
use Rattle.core_pattern_bytes.specs.Seen.{repeated_parts, split_is, one_dots, item_part, items_are}

-- where one item has no spelling the list has none
pub item_fails : {X A : Type 0} (f : X → A) (test : A → Bool) (xs : List X) (i : ℕ) (x : X) → i < length xs → x ≡ get_or xs i x → test (f x) ≡ false → list_all test (map f xs) ≡ false
item_fails {X} f test xs i x lt is h = list_all-map test f xs ∙ list_all_at (λ y. test (f y)) xs i x lt (ap (λ (y : X). test (f y)) (sym is) ∙ h)

pub list_fails : (a b : Bool) → b ≡ false → false ≡ (a && b)
list_fails a b h = sym (ap (λ (v : Bool). a && v) h ∙ and_false a)
  where
    and_false : (v : Bool) → (v && false) ≡ false
    and_false true = refl
    and_false false = refl

-- the elements of a pattern are those before the ellipsis, and the repeated one with those after it
pub elements_puts : (part : Codec PlainPattern) (e : Elements) (old mid new : List ℕ) → PutsIf (listed part) e.before.items old mid true
    → PutsIf (checked is_split (optional part then listed part)) (repeated_parts e.repeated) mid new true → PutsIf (elements part) (elements_of e) old new true
unfolding elements
elements_puts part e old mid new p q =
    let behind = checked is_split (optional part then listed part) in
    let fits = join _ _ (join _ _ (sym p.0) (sym q.0)) (one_dots e) in (
      sym (ap (λ (z : SplitPatterns). ((listed part).fits z.0 && behind.fits z.1) && has_one_dots (elements_of e)) (split_is e) ∙ fits),
      q.1 ∙ ap (λ (z : List ℕ). z ++ behind.put (repeated_parts e.repeated)) p.1 ∙ append_assoc old ((listed part).put e.before.items) (behind.put (repeated_parts e.repeated))
          ∙ sym (ap (λ (z : SplitPatterns). old ++ ((listed part).put z.0 ++ behind.put z.1)) (split_is e)),
    )

pub items_puts : (part : Codec PlainTemplate) (is : List TemplateItem) (old new : List ℕ) (b : Bool) → PutsIf (listed (part then u32)) (map item_part is) old new b → PutsIf (items part) (view.items is) old new b
unfolding items
items_puts part is old new b p = subst (λ (z : List (PlainTemplate × ℕ)). PutsIf (listed (part then u32)) z old new b) (sym (items_are is)) p
