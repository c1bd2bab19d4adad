-- The code of a record, line by line and keyword by keyword.
use Rattle.std.proofs.Common.{◌≡◌, ◌+◌, Bool, true, false, List, [], ◌∷◌, ◌++◌, Option, Some, None, refl, sym, ap, ◌∙◌, append_assoc, append-nil}
use Rattle.std.specs.Prelude.{◌&&◌, ◌||◌}
use Rattle.std.specs.List.{flat_map}
use Rattle.base_data.specs.declared.name.Label.{Label}
use Rattle.core_language.specs.Core.{PlainCore}
use Rattle.core_language.specs.Labels.{same_label, with_labels}
use Rattle.core_language.specs.References.{binders}
use Rattle.core_language.specs.declared.binding.Binding.{Binding}
use Rattle.core_language.specs.declared.binding.Binding.TheVariants as binding
use Rattle.core_language.specs.declared.record.Line.{Line}
use Rattle.law_core.specs.Follows.{expression_of, keyword_of, line_variables, suits}
use Rattle.law_core.specs.Parts.{parts, bound_variables}
use Rattle.law_core.specs.Records.{line_core, line_labels}
use Rattle.law_core.specs.WellMade.{is_well_made}
use Rattle.law_core.specs.Words.{among, each}
use Rattle.core_well_made.specs.Parts.{noted_all}
use Rattle.core_well_made.specs.declared.parts.NotedParts.{NotedParts}
use Rattle.core_well_made.proofs.Lists.{each_joined}
use Rattle.core_well_made.proofs.Noted.{flat_joined, variables_noted}
use Rattle.core_well_made.proofs.Sets.{among_joined, among_with}
use Rattle.expand_follows.specs.Pieces.{binders_in, expand_transformer_in, parts_in, suits_if, with_line, with_lines}
use Rattle.expand_follows.specs.Scope.{SameAmong}
use Rattle.expand_follows.proofs.ClosedLemmas.{same_closed}

-- ---- keywords

pub keyword_is : (b : Label × Binding) → keyword_of b ≡ expression_of (expand_transformer_in b.1)
keyword_is (l, binding.Variable v) = refl
keyword_is (l, binding.PatternVariable level depth) = refl
keyword_is (l, binding.Macro level expression) = refl
keyword_is (l, binding.Core form) = refl
keyword_is (l, binding.Primitive o) = refl

binders_of : (o : Option PlainCore) → flat_map binders (expression_of o) ≡ binders_in o
binders_of None = refl
binders_of (Some c) = append-nil (binders c)

pub keyword_binders_more : (b : Label × Binding) (bs : List (Label × Binding))
    → flat_map binders (flat_map keyword_of (b ∷ bs)) ≡ binders_in (expand_transformer_in b.1) ++ flat_map binders (flat_map keyword_of bs)
keyword_binders_more b bs =
    flat_joined binders (keyword_of b) (flat_map keyword_of bs)
    ∙ ap (λ ls. ls ++ flat_map binders (flat_map keyword_of bs)) (ap (flat_map binders) (keyword_is b) ∙ binders_of (expand_transformer_in b.1))

parts_of : (o : Option PlainCore) → flat_map parts (expression_of o) ≡ parts_in o
parts_of None = refl
parts_of (Some c) = append-nil (parts c)

pub keyword_parts_more : (b : Label × Binding) (bs : List (Label × Binding))
    → flat_map parts (flat_map keyword_of (b ∷ bs)) ≡ parts_in (expand_transformer_in b.1) ++ flat_map parts (flat_map keyword_of bs)
keyword_parts_more b bs =
    flat_joined parts (keyword_of b) (flat_map keyword_of bs)
    ∙ ap (λ cs. cs ++ flat_map parts (flat_map keyword_of bs)) (ap (flat_map parts) (keyword_is b) ∙ parts_of (expand_transformer_in b.1))

suits_one : (ls : List Label) (o : Option PlainCore) → each (suits ls) (expression_of o) ≡ suits_if ls o
suits_one ls None = refl
suits_one ls (Some c) = and_true (suits ls c)
  where
    and_true : (b : Bool) → (b && true) ≡ b
    and_true true = refl
    and_true false = refl

pub keyword_suits_more : (ls : List Label) (b : Label × Binding) (bs : List (Label × Binding))
    → each (suits ls) (flat_map keyword_of (b ∷ bs)) ≡ (suits_if ls (expand_transformer_in b.1) && each (suits ls) (flat_map keyword_of bs))
keyword_suits_more ls b bs =
    each_joined (suits ls) (keyword_of b) (flat_map keyword_of bs)
    ∙ ap (λ c. c && each (suits ls) (flat_map keyword_of bs)) (ap (each (suits ls)) (keyword_is b) ∙ suits_one ls (expand_transformer_in b.1))

-- ---- labels that come more than once

with_among : (earlier own : List Label) → SameAmong (earlier ++ with_labels [] own) (earlier ++ own)
with_among earlier own l =
    among_joined earlier (with_labels [] own) l ∙ ap (λ b. among same_label earlier l || b) (among_with [] own l) ∙ sym (among_joined earlier own l)

pub each_suits_with : (earlier own : List Label) (cs : List PlainCore) → each (suits (earlier ++ with_labels [] own)) cs ≡ each (suits (earlier ++ own)) cs
each_suits_with earlier own cs = λ i. each (λ c. is_well_made [] c && same_closed (earlier ++ with_labels [] own) (earlier ++ own) (with_among earlier own) c i) cs

pub each_suits_alone : (earlier : List Label) (cs : List PlainCore) → each (suits (earlier ++ [])) cs ≡ each (suits earlier) cs
each_suits_alone earlier cs = ap (λ ls. each (suits ls) cs) (append-nil earlier)

-- ---- the variables of lines

pub no_label : (all : NotedParts) (cs : List PlainCore) → noted_all (record all { variables = all.variables ++ [] }) cs ≡ noted_all all cs
no_label all cs = ap (λ vs. noted_all (record all { variables = vs }) cs) (append-nil all.variables)

line_variables_more : (all : NotedParts) (l : Line) → (with_line all l).variables ≡ all.variables ++ line_variables l
line_variables_more all l =
    variables_noted (record all { variables = all.variables ++ line_labels l }) (parts (line_core l)) ∙ append_assoc all.variables (line_labels l) (bound_variables (line_core l))

variables_more : (all : NotedParts) (ls : List Line) → (with_lines all ls).variables ≡ all.variables ++ flat_map line_variables ls
variables_more all [] = sym (append-nil all.variables)
variables_more all (l ∷ ls) =
    variables_more (with_line all l) ls ∙ ap (λ vs. vs ++ flat_map line_variables ls) (line_variables_more all l) ∙ append_assoc all.variables (line_variables l) (flat_map line_variables ls)

pub variables_of_lines : (ls : List Line) → (with_lines (record { numbers = []; variables = []; pattern_variables = []; formed = true }) ls).variables ≡ flat_map line_variables ls
variables_of_lines ls = variables_more (record { numbers = []; variables = []; pattern_variables = []; formed = true }) ls
