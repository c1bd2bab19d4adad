-- The primitives by their report names: in which row each stands, and how many arguments it takes (R6RS 11 and the chapters of the
-- libraries report; what is optional there is left out, where the table says so).
use Rattle.std.specs.Prelude.{ℕ, ◌==◌, List, [], ◌∷◌, ◌++◌, map, codes, Option, None, Some, option_map, if◌then◌else◌}
use Rattle.base_data.specs.Op.{op_named}
use Rattle.eval_prims.specs.declared.primitive.Primitive.{Primitive}
use Rattle.eval_prims.specs.declared.rows.TheConstants as rows

-- before the first word, or before a word's first character
abbrev pub with_char : ℕ → List (List ℕ) → List (List ℕ)
with_char c [] = (c ∷ []) ∷ []
with_char c (word ∷ words) = if c == 32 then [] ∷ word ∷ words else (c ∷ word) ∷ words

-- the words of a text, with a blank between two
abbrev pub words : List ℕ → List (List ℕ)
words [] = [] ∷ []
words (c ∷ text) = with_char c (words text)

-- the primitives of these names, in a row, with the least and the most arguments
abbrev pub each : ℕ → ℕ → Option ℕ → List ℕ → List (Option Primitive)
each row least most names = map (λ name. option_map (λ op. record { op = op; row = row; least = least; most = most }) (op_named name)) (words names)

-- of pairs and lists, and those that ask what a value is
abbrev pub lists : List (Option Primitive)
lists =
    each rows.BASICS 2 (Some 2) (codes "cons")
    ++ (each rows.BASICS 1 (Some 1) (codes "car cdr caar cadr cdar cddr caaar caadr cadar caddr cdaar cdadr cddar cdddr")
    ++ (each rows.BASICS 1 (Some 1) (codes "caaaar caaadr caadar caaddr cadaar cadadr caddar cadddr cdaaar cdaadr cdadar cdaddr cddaar cddadr cdddar cddddr")
    ++ (each rows.BASICS 1 (Some 1) (codes "null? pair? not")
    ++ (each rows.BASICS 2 (Some 2) (codes "eq? eqv?")
    ++ (each rows.BASICS 1 (Some 1) (codes "boolean? symbol? string? char? vector? number? integer? procedure?")
    ++ (each rows.GATHERED 0 None (codes "list")
    ++ (each rows.GATHERED 1 None (codes "cons*")
    ++ (each rows.GATHERED 0 None (codes "vector string")
    ++ (each rows.LISTS 1 (Some 1) (codes "list? length reverse list->vector list->string")
    ++ (each rows.LISTS 2 (Some 2) (codes "memq memv assq assv remq remv")
    ++ (each rows.APPENDED 0 None (codes "append")
    ++ (each rows.INDEXED 2 (Some 2) (codes "list-tail list-ref")
    ++ (each rows.UNPACKED 1 (Some 1) (codes "vector->list string->list")
    ++ each rows.EQUALITY 2 (Some 2) (codes "equal? member assoc remove"))))))))))))))

-- of numbers
abbrev pub numbers : List (Option Primitive)
numbers =
    each rows.NUMBERS 0 None (codes "+")
    ++ (each rows.NUMBERS 1 None (codes "-")
    ++ (each rows.NUMBERS 0 None (codes "*")
    ++ (each rows.NUMBERS 2 None (codes "= < > <= >=")
    ++ (each rows.NUMBERS 1 (Some 1) (codes "zero? positive? negative? odd? even? abs")
    ++ (each rows.NUMBERS 1 None (codes "max min")
    ++ (each rows.NUMBERS 2 (Some 2) (codes "div mod div0 mod0")
    ++ each rows.NUMBER_STRINGS 1 (Some 1) (codes "number->string")))))))

-- of characters, strings and syntax objects, and those that raise
abbrev pub texts : List (Option Primitive)
texts =
    each rows.CHARACTERS 1 (Some 1) (codes "char->integer integer->char")
    ++ (each rows.CHARACTERS 2 None (codes "char=? char<? char>? char<=? char>=? boolean=? symbol=?")
    ++ (each rows.PARTS 1 (Some 1) (codes "string-length")
    ++ (each rows.PARTS 2 (Some 2) (codes "string-ref")
    ++ (each rows.PARTS 1 (Some 1) (codes "vector-length")
    ++ (each rows.PARTS 2 (Some 2) (codes "vector-ref")
    ++ (each rows.STRINGS 0 None (codes "string-append")
    ++ (each rows.STRINGS 3 (Some 3) (codes "substring")
    ++ (each rows.STRINGS 1 (Some 1) (codes "string-copy symbol->string string->symbol")
    ++ (each rows.STRING_COMPARISONS 2 None (codes "string=? string<? string>? string<=? string>=?")
    ++ (each rows.IDENTIFIERS 1 (Some 1) (codes "identifier?")
    ++ (each rows.IDENTIFIERS 2 (Some 2) (codes "bound-identifier=? free-identifier=?")
    ++ (each rows.IDENTIFIERS 1 (Some 1) (codes "make-variable-transformer")
    ++ (each rows.DATA 1 (Some 1) (codes "syntax->datum")
    ++ (each rows.TREES 2 (Some 2) (codes "datum->syntax")
    ++ (each rows.TEMPORARIES 1 (Some 1) (codes "generate-temporaries")
    ++ (each rows.RAISING 2 None (codes "error assertion-violation")
    ++ (each rows.RAISING 3 (Some 4) (codes "syntax-violation")
    ++ each rows.RAISING 1 (Some 1) (codes "raise"))))))))))))))))))
