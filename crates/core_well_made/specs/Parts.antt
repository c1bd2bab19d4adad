-- What the core expressions in core code say for themselves, noted one after another.
use Rattle.std.specs.Prelude.{nat_le, nat_lt, ◌==◌, Bool, true, false, ◌&&◌, List, [], ◌∷◌, ◌++◌}
use Rattle.std.specs.List.{flat_map}
use Rattle.base_data.specs.Op.{name_count}
use Rattle.base_data.specs.declared.name.Label.{Label}
use Rattle.core_language.specs.Core.{PlainCore, quoted, variable, primitive, one_armed, two_armed, assignment, sequence, procedure, letrec, call, instance, matching, PlainCases, PlainClauses}
use Rattle.core_language.specs.References.{variables}
use Rattle.law_core.specs.Parts.{core_count, case_count, init_labels, case_labels, clause_patterns, literals}
use Rattle.law_core.specs.WellMade.{is_leaf}
use Rattle.law_core.specs.Words.{each}
use Rattle.core_well_made.specs.declared.parts.NotedParts.{NotedParts}

-- a `lambda` has one case
abbrev pub has_cases : Bool → PlainCases → Bool
has_cases true cs = case_count cs == 1
has_cases false cs = true

abbrev pub clause_variables : PlainClauses → List Label
clause_variables cs = flat_map variables (clause_patterns cs)

-- the literals of the patterns are leaves
abbrev pub have_leaves : PlainClauses → Bool
have_leaves cs = each is_leaf (flat_map literals (clause_patterns cs))

abbrev pub demanded : NotedParts → Bool → NotedParts
demanded all b = record all { formed = all.formed && b }

-- with what an expression says for itself
abbrev pub noted : NotedParts → PlainCore → NotedParts
noted all (quoted d) = all
noted all (variable l) = all
noted all (primitive o) = demanded all (nat_lt o.0 name_count)
noted all (one_armed c d) = all
noted all (two_armed c d e) = all
noted all (assignment l c) = all
noted all (sequence cs) = demanded all (nat_le 2 (core_count cs))
noted all (procedure n cs p) = record all {
  numbers = all.numbers ++ n ∷ [];
  variables = all.variables ++ case_labels cs;
  formed
      = all.formed && has_cases p cs;
}
noted all (letrec o is c) = record all { variables = all.variables ++ init_labels is }
noted all (call c cs) = all
noted all (instance t s) = all
noted all (matching c cs s) = record all { pattern_variables = all.pattern_variables ++ clause_variables cs; formed = all.formed && have_leaves cs }

abbrev pub noted_all : NotedParts → List PlainCore → NotedParts
noted_all all [] = all
noted_all all (c ∷ cs) = noted_all (noted all c) cs
