-- What is noted of the form of core expressions is what makes them well made.
use Rattle.std.proofs.Common.{◌≡◌, ℕ, Bool, true, false, List, [], ◌∷◌, ◌++◌, refl, sym, ap, ◌∙◌, append-nil}
use Rattle.std.specs.Prelude.{◌&&◌, not, nat_lt}
use Rattle.std.specs.List.{flat_map}
use Rattle.base_data.specs.Op.{name_count}
use Rattle.core_language.specs.Core.{PlainCore, quoted, variable, primitive, one_armed, two_armed, assignment, sequence, procedure, letrec, call, instance, matching}
use Rattle.core_language.specs.Labels.{same_label}
use Rattle.core_language.specs.References.{binders, mentions}
use Rattle.law_core.specs.Parts.{parts, patterns, ops, code_numbers, pattern_variables, own_patterns, own_op, literals}
use Rattle.law_core.specs.Templates.{templates_suit}
use Rattle.law_core.specs.WellMade.{is_leaf, has_form, is_well_made, same_code}
use Rattle.law_core.specs.Words.{among, each, once}
use Rattle.core_well_made.specs.Parts.{noted, noted_all}
use Rattle.core_well_made.specs.declared.parts.NotedParts.{NotedParts}
use Rattle.core_well_made.proofs.Lists.{each_joined}
use Rattle.core_well_made.proofs.Noted.{flat_joined, numbers_noted, pattern_variables_noted}

abbrev is_named : ℕ → Bool
is_named o = nat_lt o name_count

-- an expression alone
abbrev own_formed : PlainCore → Bool
own_formed c = has_form c && (each is_leaf (flat_map literals (own_patterns c)) && each is_named (own_op c))

and_true : (b : Bool) → (b && true) ≡ b
and_true true = refl
and_true false = refl

formed_step : (all : NotedParts) (c : PlainCore) → (noted all c).formed ≡ (all.formed && own_formed c)
formed_step all (quoted d) = sym (and_true all.formed)
formed_step all (variable l) = sym (and_true all.formed)
formed_step all (primitive o) = ap (λ b. all.formed && b) (sym (and_true (nat_lt o.0 name_count)))
formed_step all (one_armed c d) = sym (and_true all.formed)
formed_step all (two_armed c d e) = sym (and_true all.formed)
formed_step all (assignment l c) = sym (and_true all.formed)
formed_step all (sequence cs) = ap (λ b. all.formed && b) (sym (and_true (has_form (sequence cs))))
formed_step all (procedure n cs true) = ap (λ b. all.formed && b) (sym (and_true (has_form (procedure n cs true))))
formed_step all (procedure n cs false) = refl
formed_step all (letrec o is c) = sym (and_true all.formed)
formed_step all (call c cs) = sym (and_true all.formed)
formed_step all (instance t s) = sym (and_true all.formed)
formed_step all (matching c cs s) = ap (λ b. all.formed && b) (sym (and_true (each is_leaf (flat_map literals (own_patterns (matching c cs s))))))

-- all of them
and_turned : (g h l o hs ls os : Bool) → ((g && (h && (l && o))) && (hs && (ls && os))) ≡ (g && ((h && hs) && ((l && ls) && (o && os))))
and_turned false h l o hs ls os = refl
and_turned true false l o hs ls os = refl
and_turned true true l o true ls os = turned l o ls os
  where
    turned : (a b c d : Bool) → ((a && b) && (c && d)) ≡ ((a && c) && (b && d))
    turned false b c d = refl
    turned true b true d = refl
    turned true true false d = refl
    turned true false false d = refl
and_turned true true l o false ls os = none (l && o)
  where
    none : (b : Bool) → (b && false) ≡ false
    none true = refl
    none false = refl

abbrev all_leaves : List PlainCore → Bool
all_leaves cs = each is_leaf (flat_map literals (flat_map own_patterns cs))

leaves_more : (c : PlainCore) (cs : List PlainCore) → all_leaves (c ∷ cs) ≡ (each is_leaf (flat_map literals (own_patterns c)) && all_leaves cs)
leaves_more c cs =
    ap (each is_leaf) (flat_joined literals (own_patterns c) (flat_map own_patterns cs))
    ∙ each_joined is_leaf (flat_map literals (own_patterns c)) (flat_map literals (flat_map own_patterns cs))

pub formed_noted : (all : NotedParts) (cs : List PlainCore) → (noted_all all cs).formed ≡ (all.formed && (each has_form cs && (all_leaves cs && each is_named (flat_map own_op cs))))
formed_noted all [] = sym (and_true all.formed)
formed_noted all (c ∷ cs) =
    formed_noted (noted all c) cs ∙ ap (λ b. b && (each has_form cs && (all_leaves cs && each is_named (flat_map own_op cs)))) (formed_step all c)
    ∙ and_turned all.formed (has_form c) (each is_leaf (flat_map literals (own_patterns c))) (each is_named (own_op c)) (each has_form cs) (all_leaves cs) (each is_named (flat_map own_op cs))
    ∙ (λ i. all.formed && ((has_form c && each has_form cs) && (sym (leaves_more c cs) i && sym (each_joined is_named (own_op c) (flat_map own_op cs)) i)))

-- ---- well made, in the order in which it is looked at

and_order : (h l o b n m t : Bool) → ((h && (l && o)) && (n && ((b && m) && t))) ≡ (h && (l && (o && (b && (n && (m && t))))))
and_order false l o b n m t = refl
and_order true false o b n m t = refl
and_order true true false b n m t = refl
and_order true true true true n m t = refl
and_order true true true false true m t = refl
and_order true true true false false m t = refl

abbrev nothing_noted : NotedParts
nothing_noted = record { numbers = []; variables = []; pattern_variables = []; formed = true }

pub well_made_by : (c : PlainCore) (all : NotedParts) → all ≡ noted_all nothing_noted (parts c)
    → (all.formed && (once same_code all.numbers && ((once same_label (binders c) && each (λ l. not (among same_label all.pattern_variables l)) (mentions c)) && templates_suit [] c))) ≡ is_well_made [] c
well_made_by c all is =
    let formed : all.formed ≡ (each has_form (parts c) && (each is_leaf (flat_map literals (patterns c)) && each is_named (ops c))) = ap (λ p. p.formed) is ∙ formed_noted nothing_noted (parts c) in
    let numbers : all.numbers ≡ code_numbers c = ap (λ p. p.numbers) is ∙ numbers_noted nothing_noted (parts c) in
    let variables : all.pattern_variables ≡ pattern_variables c ++ [] = ap (λ p. p.pattern_variables) is ∙ pattern_variables_noted nothing_noted (parts c) ∙ sym (append-nil (pattern_variables c)) in
    (λ i. formed i && (once same_code (numbers i) && ((once same_label (binders c) && each (λ l. not (among same_label (variables i) l)) (mentions c)) && templates_suit [] c)))
    ∙ and_order (each has_form (parts c)) (each is_leaf (flat_map literals (patterns c))) (each is_named (ops c)) (once same_label (binders c)) (once same_code (code_numbers c))
    (each (λ l. not (among same_label (pattern_variables c ++ []) l)) (mentions c)) (templates_suit [] c)

-- what each of the tests decides
module _ (c : PlainCore) (all : NotedParts) (is : all ≡ noted_all nothing_noted (parts c)) where
  abbrev pub bound_well : Bool
  bound_well = once same_label (binders c) && each (λ l. not (among same_label all.pattern_variables l)) (mentions c)

  pub not_formed : all.formed ≡ false → false ≡ is_well_made [] c
  not_formed e = sym (ap (λ b. b && (once same_code all.numbers && (bound_well && templates_suit [] c))) e) ∙ well_made_by c all is

  pub not_numbered : all.formed ≡ true → once same_code all.numbers ≡ false → false ≡ is_well_made [] c
  not_numbered e f = sym (λ i. e i && (f i && (bound_well && templates_suit [] c))) ∙ well_made_by c all is

  pub not_bound : all.formed ≡ true → once same_code all.numbers ≡ true → bound_well ≡ false → false ≡ is_well_made [] c
  not_bound e f g = sym (λ i. e i && (f i && (g i && templates_suit [] c))) ∙ well_made_by c all is

  pub as_templates_suit : all.formed ≡ true → once same_code all.numbers ≡ true → bound_well ≡ true → templates_suit [] c ≡ is_well_made [] c
  as_templates_suit e f g = sym (λ i. e i && (f i && (g i && templates_suit [] c))) ∙ well_made_by c all is
