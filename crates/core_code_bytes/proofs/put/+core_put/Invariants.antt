use Rattle.std.proofs.Common.{◌≡◌, ◌+◌, ◌*◌, ◌++◌, take, true}
use Rattle.std.specs.Prelude.{map}
use Rattle.std.specs.List.{flat_map, list_all}
use Rattle.base_bytes.specs.Codec.{optional, ◌then◌}
use Rattle.base_bytes.specs.Names.{label}
use Rattle.core_codec.specs.Code as code
use Rattle.core_code_bytes.specs.Seen.{init_part, case_part, clause_part}
use Rattle.core_code_bytes.proofs.put.+core_put.Given as goal

abbrev pub invariant-put_cores-loop-core : goal.invariant-put_cores-loop-core
invariant-put_cores-loop-core l = (l.out.items ≡ l.initial.out.items ++ flat_map (code.core l.room).put (take l.core-index l.cores)) × (list_all (code.core l.room).fits (take l.core-index l.cores) ≡ true)

abbrev pub invariant-put_all_inits-loop-init : goal.invariant-put_all_inits-loop-init
invariant-put_all_inits-loop-init l = (l.out.items ≡ l.initial.out.items ++ flat_map (label then code.core l.room).put (map init_part (take l.init-index l.inits))) × (list_all (label then code.core l.room).fits (map init_part (take l.init-index l.inits)) ≡ true)

abbrev pub invariant-put_all_cases-loop-case : goal.invariant-put_all_cases-loop-case
invariant-put_all_cases-loop-case l = (l.out.items ≡ l.initial.out.items ++ flat_map (code.formals then code.core l.room).put (map case_part (take l.case-index l.cases))) × (list_all (code.formals then code.core l.room).fits (map case_part (take l.case-index l.cases)) ≡ true)

abbrev pub invariant-put_all_clauses-loop-clause : goal.invariant-put_all_clauses-loop-clause
invariant-put_all_clauses-loop-clause l = (l.out.items ≡ l.initial.out.items ++ flat_map (code.pattern 2000 then optional (code.core l.room) then code.core l.room).put (map clause_part (take l.clause-index l.clauses))) × (list_all (code.pattern 2000 then optional (code.core l.room) then code.core l.room).fits (map clause_part (take l.clause-index l.clauses)) ≡ true)

abbrev pub decreases-put_core : goal.decreases-put_core
decreases-put_core l = 16 * l.room

abbrev pub decreases-put_fender : goal.decreases-put_fender
decreases-put_fender l = 16 * l.room + 1

abbrev pub decreases-put_init : goal.decreases-put_init
decreases-put_init l = 16 * l.room + 1

abbrev pub decreases-put_case : goal.decreases-put_case
decreases-put_case l = 16 * l.room + 1

abbrev pub decreases-put_clause : goal.decreases-put_clause
decreases-put_clause l = 16 * l.room + 2

abbrev pub decreases-put_cores : goal.decreases-put_cores
decreases-put_cores l = 16 * l.room + 3

abbrev pub decreases-put_all_inits : goal.decreases-put_all_inits
decreases-put_all_inits l = 16 * l.room + 3

abbrev pub decreases-put_all_cases : goal.decreases-put_all_cases
decreases-put_all_cases l = 16 * l.room + 3

abbrev pub decreases-put_all_clauses : goal.decreases-put_all_clauses
decreases-put_all_clauses l = 16 * l.room + 3

abbrev pub decreases-put_parts : goal.decreases-put_parts
decreases-put_parts l = 16 * l.room + 4

abbrev pub decreases-put_inits : goal.decreases-put_inits
decreases-put_inits l = 16 * l.room + 4

abbrev pub decreases-put_cases : goal.decreases-put_cases
decreases-put_cases l = 16 * l.room + 4

abbrev pub decreases-put_clauses : goal.decreases-put_clauses
decreases-put_clauses l = 16 * l.room + 4

abbrev pub decreases-put_branches : goal.decreases-put_branches
decreases-put_branches l = 16 * l.room + 5

abbrev pub decreases-put_sequence : goal.decreases-put_sequence
decreases-put_sequence l = 16 * l.room + 5

abbrev pub decreases-put_letrec : goal.decreases-put_letrec
decreases-put_letrec l = 16 * l.room + 5

abbrev pub decreases-put_call : goal.decreases-put_call
decreases-put_call l = 16 * l.room + 5

abbrev pub decreases-put_matching : goal.decreases-put_matching
decreases-put_matching l = 16 * l.room + 5

abbrev pub decreases-put_procedure : goal.decreases-put_procedure
decreases-put_procedure l = 16 * l.room + 5

abbrev pub decreases-put_code : goal.decreases-put_code
decreases-put_code l = 16 * l.room + 6

abbrev pub decreases-put_choice : goal.decreases-put_choice
decreases-put_choice l = 16 * l.room + 7

abbrev pub decreases-put_node : goal.decreases-put_node
decreases-put_node l = 16 * l.room + 8
