-- What is noted of core expressions, as lists.
use Rattle.std.proofs.Common.{◌≡◌, List, [], ◌∷◌, ◌++◌, refl, sym, ap, ◌∙◌, append_assoc, append-nil}
use Rattle.std.specs.List.{flat_map}
use Rattle.base_data.specs.declared.name.Label.{Label}
use Rattle.core_language.specs.Core.{PlainCore, quoted, variable, primitive, one_armed, two_armed, assignment, sequence, procedure, letrec, call, instance, matching}
use Rattle.core_language.specs.References.{variables}
use Rattle.law_core.specs.Parts.{parts, code_numbers, own_number, own_variables, own_patterns}
use Rattle.core_well_made.specs.Parts.{noted, noted_all}
use Rattle.core_well_made.specs.declared.parts.NotedParts.{NotedParts}

module _ {A : Type 0} (f : PlainCore → List A) (field : NotedParts → List A) (step : (all : NotedParts) (c : PlainCore) → field (noted all c) ≡ field all ++ f c) where
  pub noted_field : (all : NotedParts) (cs : List PlainCore) → field (noted_all all cs) ≡ field all ++ flat_map f cs
  noted_field all [] = sym (append-nil (field all))
  noted_field all (c ∷ cs) = noted_field (noted all c) cs ∙ ap (λ xs. xs ++ flat_map f cs) (step all c) ∙ append_assoc (field all) (f c) (flat_map f cs)

number_step : (all : NotedParts) (c : PlainCore) → (noted all c).numbers ≡ all.numbers ++ own_number c
number_step all (quoted d) = sym (append-nil all.numbers)
number_step all (variable l) = sym (append-nil all.numbers)
number_step all (primitive o) = sym (append-nil all.numbers)
number_step all (one_armed c d) = sym (append-nil all.numbers)
number_step all (two_armed c d e) = sym (append-nil all.numbers)
number_step all (assignment l c) = sym (append-nil all.numbers)
number_step all (sequence cs) = sym (append-nil all.numbers)
number_step all (procedure n cs p) = refl
number_step all (letrec o is c) = sym (append-nil all.numbers)
number_step all (call c cs) = sym (append-nil all.numbers)
number_step all (instance t s) = sym (append-nil all.numbers)
number_step all (matching c cs s) = sym (append-nil all.numbers)

pub numbers_noted : (all : NotedParts) (cs : List PlainCore) → (noted_all all cs).numbers ≡ all.numbers ++ flat_map own_number cs
numbers_noted = noted_field own_number (λ p. p.numbers) number_step

variable_step : (all : NotedParts) (c : PlainCore) → (noted all c).variables ≡ all.variables ++ own_variables c
variable_step all (quoted d) = sym (append-nil all.variables)
variable_step all (variable l) = sym (append-nil all.variables)
variable_step all (primitive o) = sym (append-nil all.variables)
variable_step all (one_armed c d) = sym (append-nil all.variables)
variable_step all (two_armed c d e) = sym (append-nil all.variables)
variable_step all (assignment l c) = sym (append-nil all.variables)
variable_step all (sequence cs) = sym (append-nil all.variables)
variable_step all (procedure n cs p) = refl
variable_step all (letrec o is c) = refl
variable_step all (call c cs) = sym (append-nil all.variables)
variable_step all (instance t s) = sym (append-nil all.variables)
variable_step all (matching c cs s) = sym (append-nil all.variables)

pub variables_noted : (all : NotedParts) (cs : List PlainCore) → (noted_all all cs).variables ≡ all.variables ++ flat_map own_variables cs
variables_noted = noted_field own_variables (λ p. p.variables) variable_step

abbrev own_pattern_variables : PlainCore → List Label
own_pattern_variables c = flat_map variables (own_patterns c)

pattern_step : (all : NotedParts) (c : PlainCore) → (noted all c).pattern_variables ≡ all.pattern_variables ++ own_pattern_variables c
pattern_step all (quoted d) = sym (append-nil all.pattern_variables)
pattern_step all (variable l) = sym (append-nil all.pattern_variables)
pattern_step all (primitive o) = sym (append-nil all.pattern_variables)
pattern_step all (one_armed c d) = sym (append-nil all.pattern_variables)
pattern_step all (two_armed c d e) = sym (append-nil all.pattern_variables)
pattern_step all (assignment l c) = sym (append-nil all.pattern_variables)
pattern_step all (sequence cs) = sym (append-nil all.pattern_variables)
pattern_step all (procedure n cs p) = sym (append-nil all.pattern_variables)
pattern_step all (letrec o is c) = sym (append-nil all.pattern_variables)
pattern_step all (call c cs) = sym (append-nil all.pattern_variables)
pattern_step all (instance t s) = sym (append-nil all.pattern_variables)
pattern_step all (matching c cs s) = refl

pub flat_joined : {A B : Type 0} (f : A → List B) (xs ys : List A) → flat_map f (xs ++ ys) ≡ flat_map f xs ++ flat_map f ys
flat_joined f [] ys = refl
flat_joined f (x ∷ xs) ys = ap (λ zs. f x ++ zs) (flat_joined f xs ys) ∙ sym (append_assoc (f x) (flat_map f xs) (flat_map f ys))

pub flat_flat : {A B C : Type 0} (f : B → List C) (g : A → List B) (xs : List A) → flat_map f (flat_map g xs) ≡ flat_map (λ x. flat_map f (g x)) xs
flat_flat f g [] = refl
flat_flat f g (x ∷ xs) = flat_joined f (g x) (flat_map g xs) ∙ ap (λ ys. flat_map f (g x) ++ ys) (flat_flat f g xs)

pub pattern_variables_noted : (all : NotedParts) (cs : List PlainCore) → (noted_all all cs).pattern_variables ≡ all.pattern_variables ++ flat_map variables (flat_map own_patterns cs)
pattern_variables_noted all cs =
    noted_field own_pattern_variables (λ p. p.pattern_variables) pattern_step all cs ∙ ap (λ xs. all.pattern_variables ++ xs) (sym (flat_flat variables own_patterns cs))

-- the numbers of some core texts, and then of others
pub numbers_of : (all : NotedParts) (cs ds : List PlainCore) → (noted_all (noted_all all (flat_map parts cs)) (flat_map parts ds)).numbers ≡ all.numbers ++ flat_map code_numbers (cs ++ ds)
numbers_of all cs ds =
    numbers_noted (noted_all all (flat_map parts cs)) (flat_map parts ds) ∙ ap (λ ns. ns ++ flat_map own_number (flat_map parts ds)) (numbers_noted all (flat_map parts cs))
    ∙ append_assoc all.numbers (flat_map own_number (flat_map parts cs)) (flat_map own_number (flat_map parts ds))
    ∙ (λ i. all.numbers ++ (flat_flat own_number parts cs i ++ flat_flat own_number parts ds i))
    ∙ ap (λ ns. all.numbers ++ ns) (sym (flat_joined code_numbers cs ds))
