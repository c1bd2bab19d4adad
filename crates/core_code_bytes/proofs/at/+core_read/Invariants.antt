use Rattle.std.proofs.Common.{◌≡◌, ◌-◌, ◌+◌, ◌*◌}
use Rattle.std.specs.Prelude.{map}
use Rattle.base_bytes.specs.Codec.{some_get, optional, ◌then◌}
use Rattle.base_bytes.specs.Names.{label}
use Rattle.core_codec.specs.Code as code
use Rattle.core_code_bytes.specs.Seen.{init_part, case_part, clause_part}
use Rattle.base_bytes.proofs.Loop.{with_front}
use Rattle.core_code_bytes.proofs.at.+core_read.Given as goal

abbrev pub invariant-some_parts-loop : goal.invariant-some_parts-loop
invariant-some_parts-loop l = with_front l.list.value.items (some_get (code.core l.room).get (l.count - l.counter) l.left.now) ≡ some_get (code.core l.room).get l.count l.initial.left.now

abbrev pub invariant-some_inits-loop : goal.invariant-some_inits-loop
invariant-some_inits-loop l = with_front (map init_part l.list.value.items) (some_get (label then code.core l.room).get (l.count - l.counter) l.left.now) ≡ some_get (label then code.core l.room).get l.count l.initial.left.now

abbrev pub invariant-some_cases-loop : goal.invariant-some_cases-loop
invariant-some_cases-loop l = with_front (map case_part l.list.value.items) (some_get (code.formals then code.core l.room).get (l.count - l.counter) l.left.now) ≡ some_get (code.formals then code.core l.room).get l.count l.initial.left.now

abbrev pub invariant-some_clauses-loop : goal.invariant-some_clauses-loop
invariant-some_clauses-loop l = with_front (map clause_part l.list.value.items) (some_get (code.pattern 2000 then optional (code.core l.room) then code.core l.room).get (l.count - l.counter) l.left.now) ≡ some_get (code.pattern 2000 then optional (code.core l.room) then code.core l.room).get l.count l.initial.left.now

abbrev pub decreases-read : goal.decreases-read
decreases-read l = 16 * l.room

abbrev pub decreases-boxed_in : goal.decreases-boxed_in
decreases-boxed_in l = 16 * l.room + 1

abbrev pub decreases-other_in : goal.decreases-other_in
decreases-other_in l = 16 * l.room + 2

abbrev pub decreases-init_in : goal.decreases-init_in
decreases-init_in l = 16 * l.room + 2

abbrev pub decreases-case_in : goal.decreases-case_in
decreases-case_in l = 16 * l.room + 2

abbrev pub decreases-outcome_in : goal.decreases-outcome_in
decreases-outcome_in l = 16 * l.room + 3

abbrev pub decreases-clause_in : goal.decreases-clause_in
decreases-clause_in l = 16 * l.room + 4

abbrev pub decreases-some_parts : goal.decreases-some_parts
decreases-some_parts l = 16 * l.room + 6

abbrev pub decreases-some_inits : goal.decreases-some_inits
decreases-some_inits l = 16 * l.room + 6

abbrev pub decreases-some_cases : goal.decreases-some_cases
decreases-some_cases l = 16 * l.room + 6

abbrev pub decreases-some_clauses : goal.decreases-some_clauses
decreases-some_clauses l = 16 * l.room + 6

abbrev pub decreases-all_parts_in : goal.decreases-all_parts_in
decreases-all_parts_in l = 16 * l.room + 7

abbrev pub decreases-all_inits_in : goal.decreases-all_inits_in
decreases-all_inits_in l = 16 * l.room + 7

abbrev pub decreases-all_cases_in : goal.decreases-all_cases_in
decreases-all_cases_in l = 16 * l.room + 7

abbrev pub decreases-all_clauses_in : goal.decreases-all_clauses_in
decreases-all_clauses_in l = 16 * l.room + 7

abbrev pub decreases-parts_in : goal.decreases-parts_in
decreases-parts_in l = 16 * l.room + 8

abbrev pub decreases-inits_in : goal.decreases-inits_in
decreases-inits_in l = 16 * l.room + 8

abbrev pub decreases-cases_in : goal.decreases-cases_in
decreases-cases_in l = 16 * l.room + 8

abbrev pub decreases-clauses_in : goal.decreases-clauses_in
decreases-clauses_in l = 16 * l.room + 8

abbrev pub decreases-read_if : goal.decreases-read_if
decreases-read_if l = 16 * l.room + 9

abbrev pub decreases-read_assignment : goal.decreases-read_assignment
decreases-read_assignment l = 16 * l.room + 9

abbrev pub decreases-read_sequence : goal.decreases-read_sequence
decreases-read_sequence l = 16 * l.room + 9

abbrev pub decreases-procedure_in : goal.decreases-procedure_in
decreases-procedure_in l = 16 * l.room + 9

abbrev pub decreases-read_lambda : goal.decreases-read_lambda
decreases-read_lambda l = 16 * l.room + 10

abbrev pub decreases-read_letrec : goal.decreases-read_letrec
decreases-read_letrec l = 16 * l.room + 9

abbrev pub decreases-read_call : goal.decreases-read_call
decreases-read_call l = 16 * l.room + 9

abbrev pub decreases-read_matching : goal.decreases-read_matching
decreases-read_matching l = 16 * l.room + 9

abbrev pub decreases-read_choice : goal.decreases-read_choice
decreases-read_choice l = 16 * l.room + 11

abbrev pub decreases-read_node : goal.decreases-read_node
decreases-read_node l = 16 * l.room + 12
