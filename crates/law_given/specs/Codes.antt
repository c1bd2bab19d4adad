-- The codes of the procedures that are given as texts, written out: what expansion makes of each text. Variables and procedures
-- have the names of the library of the texts, in the order of their coming.
use Rattle.std.specs.Prelude.{ℕ, true, false, List, [], ◌∷◌, ◌++◌, map, codes, Option, None, Some}
use Rattle.base_data.specs.Op.{op_text}
use Rattle.base_data.specs.Datum as datum
use Rattle.base_data.specs.declared.atom.Atom.{Atom}
use Rattle.base_data.specs.declared.atom.Atom.TheVariants as a
use Rattle.base_data.specs.declared.library.LibName.TheVariants as library
use Rattle.base_data.specs.declared.name.CodeNo.{CodeNo}
use Rattle.base_data.specs.declared.name.Label.{Label}
use Rattle.base_data.specs.declared.op.names.TheConstants as names
use Rattle.core_language.specs.Core.{PlainCore, quoted, variable, primitive, one_armed, two_armed, sequence, procedure, letrec, call, no_init, init, PlainCases, no_case, case, PlainCode, cores}
use Rattle.core_language.specs.declared.formals.Formals.{Formals}

-- Short names for the parts of core code.

abbrev pub label : ℕ → Label
label n = record { 0 = record { library = library.Prelude; number = n } }

abbrev pub code_no : ℕ → CodeNo
code_no n = record { 0 = record { library = library.Prelude; number = n } }

abbrev pub var : ℕ → PlainCore
var n = variable (label n)

abbrev pub prim : ℕ → PlainCore
prim n = primitive (record { 0 = n })

abbrev pub app : PlainCore → List PlainCore → PlainCore
app c cs = call c (cores cs)

-- a datum that stands in the text of a procedure, from one place of it to another
abbrev pub datum_at : ℕ → ℕ → ℕ → Atom → PlainCore
datum_at op from to x = quoted (datum.atom (Some (record { file = codes "(prelude " ++ op_text op ++ codes ")"; from = from; to = to })) x)

abbrev pub formals : List ℕ → Option ℕ → Formals
formals ns None = record { required = map label ns; rest = None }
formals ns (Some n) = record { required = map label ns; rest = Some (label n) }

-- a procedure of one case
abbrev pub one_case : List ℕ → Option ℕ → PlainCore → PlainCases
one_case ns rest body = case (formals ns rest) body no_case

abbrev pub lambda : ℕ → List ℕ → Option ℕ → PlainCore → PlainCore
lambda n ns rest body = procedure (code_no n) (one_case ns rest body) true

abbrev pub car : PlainCore → PlainCore
car c = app (prim names.CAR) (c ∷ [])

abbrev pub cdr : PlainCore → PlainCore
cdr c = app (prim names.CDR) (c ∷ [])

abbrev pub is_null : PlainCore → PlainCore
is_null c = app (prim names.IS_NULL) (c ∷ [])

abbrev pub cons : PlainCore → PlainCore → PlainCore
cons c d = app (prim names.CONS) (c ∷ d ∷ [])

-- the code of a text: a procedure without arguments, whose body is the text
abbrev pub text_code : ℕ → PlainCore → PlainCode
text_code n c = record {
  number = record { 0 = record { library = library.Core; number = n } };
  cases = case (record { required = []; rest = None }) c no_case;
  plain = true;
}

-- whether the first of the lists is at its end
abbrev pub first_is_null : PlainCore → PlainCore
first_is_null c = is_null (car c)

-- (map car ls), (map cdr ls) and (apply f (map car ls))
abbrev pub cars : PlainCore → PlainCore
cars c = app (prim names.MAP) (prim names.CAR ∷ c ∷ [])

abbrev pub cdrs : PlainCore → PlainCore
cdrs c = app (prim names.MAP) (prim names.CDR ∷ c ∷ [])

abbrev pub on_cars : PlainCore → PlainCore → PlainCore
on_cars f c = app (prim names.APPLY) (f ∷ cars c ∷ [])

-- (go f (cons l ls)) and (go f z (cons l ls)): the list of the lists
abbrev pub enter_list : ℕ → ℕ → ℕ → ℕ → PlainCore
enter_list go f l ls = app (var go) (var f ∷ cons (var l) (var ls) ∷ [])

abbrev pub enter_fold : ℕ → ℕ → ℕ → ℕ → ℕ → PlainCore
enter_fold go f z l ls = app (var go) (var f ∷ var z ∷ cons (var l) (var ls) ∷ [])

-- `map`

abbrev pub map_first : PlainCore
map_first = app (var 6) (car (var 7) ∷ [])

abbrev pub map_others : PlainCore
map_others = app (var 2) (var 6 ∷ cdr (var 7) ∷ [])

abbrev pub map_one : PlainCore
map_one = two_armed (is_null (var 7)) (datum_at names.MAP 43 45 a.Nil) (cons map_first map_others)

abbrev pub map_many : PlainCore
map_many = two_armed (first_is_null (var 12)) (datum_at names.MAP 139 141 a.Nil)
    (cons (app (prim names.APPLY) (var 11 ∷ app (var 2) (prim names.CAR ∷ var 12 ∷ []) ∷ []))
    (app (var 3) (var 11 ∷ app (var 2) (prim names.CDR ∷ var 12 ∷ []) ∷ [])))

abbrev pub map_body : PlainCore
map_body = two_armed (is_null (var 19)) (app (var 2) (var 17 ∷ var 18 ∷ [])) (app (var 3) (var 17 ∷ cons (var 18) (var 19) ∷ []))

abbrev pub map_text : PlainCore
map_text = letrec false (init (label 2) (lambda 4 (6 ∷ 7 ∷ []) None map_one) (init (label 3) (lambda 9 (11 ∷ 12 ∷ []) None map_many) no_init))
    (lambda 15 (17 ∷ 18 ∷ []) (Some 19) map_body)

-- `for-each`

abbrev pub for_each_body : PlainCore
for_each_body = sequence (cores (app (prim names.APPLY) (prim names.MAP ∷ var 23 ∷ var 24 ∷ var 25 ∷ [])
    ∷ one_armed (datum_at names.FOR_EACH 49 51 (a.Bool false)) (datum_at names.FOR_EACH 52 54 (a.Bool false)) ∷ []))

abbrev pub for_each_text : PlainCore
for_each_text = lambda 21 (23 ∷ 24 ∷ []) (Some 25) for_each_body

-- `for-all`

abbrev pub for_all_next : PlainCore
for_all_next = two_armed (on_cars (var 31) (var 32)) (app (var 28) (var 31 ∷ cdrs (var 32) ∷ [])) (datum_at names.FOR_ALL 163 165 (a.Bool false))

abbrev pub for_all_some : PlainCore
for_all_some = two_armed (is_null (cdr (car (var 32)))) (on_cars (var 31) (var 32)) for_all_next

abbrev pub for_all_loop : PlainCore
for_all_loop = two_armed (first_is_null (var 32)) (datum_at names.FOR_ALL 50 52 (a.Bool true)) for_all_some

abbrev pub for_all_text : PlainCore
for_all_text = letrec false (init (label 28) (lambda 29 (31 ∷ 32 ∷ []) None for_all_loop) no_init)
    (lambda 35 (37 ∷ 38 ∷ []) (Some 39) (enter_list 28 37 38 39))

-- `exists`

abbrev pub exists_next : PlainCore
exists_next = two_armed (var 50) (var 50) (app (var 42) (var 45 ∷ cdrs (var 46) ∷ []))

abbrev pub exists_asked : PlainCore
exists_asked = app (lambda 48 (50 ∷ []) None exists_next) (on_cars (var 45) (var 46) ∷ [])

abbrev pub exists_some : PlainCore
exists_some = two_armed (is_null (cdr (car (var 46)))) (on_cars (var 45) (var 46)) exists_asked

abbrev pub exists_loop : PlainCore
exists_loop = two_armed (first_is_null (var 46)) (datum_at names.EXISTS 50 52 (a.Bool false)) exists_some

abbrev pub exists_text : PlainCore
exists_text = letrec false (init (label 42) (lambda 43 (45 ∷ 46 ∷ []) None exists_loop) no_init)
    (lambda 53 (55 ∷ 56 ∷ []) (Some 57) (enter_list 42 55 56 57))

-- `filter`

abbrev pub filter_some : PlainCore
filter_some = two_armed (app (var 63) (car (var 64) ∷ [])) (cons (car (var 64)) (app (var 60) (var 63 ∷ cdr (var 64) ∷ [])))
    (app (var 60) (var 63 ∷ cdr (var 64) ∷ []))

abbrev pub filter_loop : PlainCore
filter_loop = two_armed (is_null (var 64)) (datum_at names.FILTER 42 44 a.Nil) filter_some

abbrev pub filter_text : PlainCore
filter_text = letrec false (init (label 60) (lambda 61 (63 ∷ 64 ∷ []) None filter_loop) no_init) (var 60)

-- `remp`

abbrev pub remp_test : PlainCore
remp_test = app (prim names.NOT) (app (var 69) (var 74 ∷ []) ∷ [])

abbrev pub remp_body : PlainCore
remp_body = app (prim names.FILTER) (lambda 72 (74 ∷ []) None remp_test ∷ var 70 ∷ [])

abbrev pub remp_text : PlainCore
remp_text = lambda 67 (69 ∷ 70 ∷ []) None remp_body

-- `find`

abbrev pub find_some : PlainCore
find_some = two_armed (app (var 80) (car (var 81) ∷ [])) (car (var 81)) (app (var 77) (var 80 ∷ cdr (var 81) ∷ []))

abbrev pub find_loop : PlainCore
find_loop = two_armed (is_null (var 81)) (datum_at names.FIND 41 43 (a.Bool false)) find_some

abbrev pub find_text : PlainCore
find_text = letrec false (init (label 77) (lambda 78 (80 ∷ 81 ∷ []) None find_loop) no_init) (var 77)

-- `memp`

abbrev pub memp_some : PlainCore
memp_some = two_armed (app (var 88) (car (var 89) ∷ [])) (var 89) (app (var 85) (var 88 ∷ cdr (var 89) ∷ []))

abbrev pub memp_loop : PlainCore
memp_loop = two_armed (is_null (var 89)) (datum_at names.MEMP 41 43 (a.Bool false)) memp_some

abbrev pub memp_text : PlainCore
memp_text = letrec false (init (label 85) (lambda 86 (88 ∷ 89 ∷ []) None memp_loop) no_init) (var 85)

-- `fold-left`

abbrev pub fold_left_loop : PlainCore
fold_left_loop = two_armed (first_is_null (var 98)) (var 97)
    (app (var 93) (var 96 ∷ app (prim names.APPLY) (var 96 ∷ var 97 ∷ cars (var 98) ∷ []) ∷ cdrs (var 98) ∷ []))

abbrev pub fold_left_text : PlainCore
fold_left_text = letrec false (init (label 93) (lambda 94 (96 ∷ 97 ∷ 98 ∷ []) None fold_left_loop) no_init)
    (lambda 101 (103 ∷ 104 ∷ 105 ∷ []) (Some 106) (enter_fold 93 103 104 105 106))

-- `fold-right`

-- the first element, before what the fold of the rest gives
abbrev pub fold_right_args : PlainCore
fold_right_args = app (prim names.APPEND) (cars (var 114) ∷ app (prim names.LIST) (app (var 109) (var 112 ∷ var 113 ∷ cdrs (var 114) ∷ []) ∷ []) ∷ [])

abbrev pub fold_right_loop : PlainCore
fold_right_loop = two_armed (first_is_null (var 114)) (var 113)
    (app (prim names.APPLY) (var 112 ∷ fold_right_args ∷ []))

abbrev pub fold_right_text : PlainCore
fold_right_text = letrec false (init (label 109) (lambda 110 (112 ∷ 113 ∷ 114 ∷ []) None fold_right_loop) no_init)
    (lambda 117 (119 ∷ 120 ∷ 121 ∷ []) (Some 122) (enter_fold 109 119 120 121 122))
