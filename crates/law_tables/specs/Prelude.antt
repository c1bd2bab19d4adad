-- What calls of the list procedures that take a procedure mean during expansion, written out: each is the procedure of this
-- text (R6RS libraries 3).
use Rattle.std.specs.Prelude.{◌≡◌, ℕ, List, [], ◌∷◌, map, codes, Option, Some, option_and_then}
use Rattle.std.specs.List.{concat}
use Rattle.base_data.specs.Op.{op_named}
use Rattle.load_builtin.specs.Prelude.{prelude_text}

-- `for-each`
abbrev pub text-for-each : List ℕ
text-for-each = concat (
    codes "(lambda (f l . ls) (begin (apply map f l ls) (if #f #f)))" ∷
    [])

-- `map`
abbrev pub text-map : List ℕ
text-map = concat (
    codes "(letrec ((one (lambda (f l) (if (null? l) '()\n" ∷
    codes "       (cons (f (car l)) (one f (cdr l))))))\n" ∷
    codes "     (many (lambda (f ls) (if (null? (car ls)) '()\n" ∷
    codes "       (cons (apply f (one car ls)) (many f (one cdr ls)))))))\n" ∷
    codes "   (lambda (f l . ls) (if (null? ls) (one f l) (many f (cons l ls)))))" ∷
    [])

-- `find`
abbrev pub text-find : List ℕ
text-find = concat (
    codes "(letrec ((go (lambda (f l) (if (null? l) #f\n" ∷
    codes "     (if (f (car l)) (car l) (go f (cdr l))))))) go)" ∷
    [])

-- `for-all`
abbrev pub text-for-all : List ℕ
text-for-all = concat (
    codes "(letrec ((all (lambda (f ls) (if (null? (car ls)) #t\n" ∷
    codes "     (if (null? (cdr (car ls))) (apply f (map car ls))\n" ∷
    codes "       (if (apply f (map car ls)) (all f (map cdr ls)) #f))))))\n" ∷
    codes "   (lambda (f l . ls) (all f (cons l ls))))" ∷
    [])

-- `exists`
abbrev pub text-exists : List ℕ
text-exists = concat (
    codes "(letrec ((any (lambda (f ls) (if (null? (car ls)) #f\n" ∷
    codes "     (if (null? (cdr (car ls))) (apply f (map car ls))\n" ∷
    codes "       ((lambda (t) (if t t (any f (map cdr ls))))\n" ∷
    codes "        (apply f (map car ls))))))))\n" ∷
    codes "   (lambda (f l . ls) (any f (cons l ls))))" ∷
    [])

-- `filter`
abbrev pub text-filter : List ℕ
text-filter = concat (
    codes "(letrec ((go (lambda (f l) (if (null? l) '()\n" ∷
    codes "     (if (f (car l)) (cons (car l) (go f (cdr l))) (go f (cdr l))))))) go)" ∷
    [])

-- `fold-left`
abbrev pub text-fold-left : List ℕ
text-fold-left = concat (
    codes "(letrec ((go (lambda (f z ls) (if (null? (car ls)) z\n" ∷
    codes "     (go f (apply f z (map car ls)) (map cdr ls))))))\n" ∷
    codes "   (lambda (f z l . ls) (go f z (cons l ls))))" ∷
    [])

-- `fold-right`
abbrev pub text-fold-right : List ℕ
text-fold-right = concat (
    codes "(letrec ((go (lambda (f z ls) (if (null? (car ls)) z\n" ∷
    codes "     (apply f (append (map car ls) (list (go f z (map cdr ls)))))))))\n" ∷
    codes "   (lambda (f z l . ls) (go f z (cons l ls))))" ∷
    [])

-- `remp`
abbrev pub text-remp : List ℕ
text-remp = concat (
    codes "(lambda (f l) (filter (lambda (x) (not (f x))) l))" ∷
    [])

-- `memp`
abbrev pub text-memp : List ℕ
text-memp = concat (
    codes "(letrec ((go (lambda (f l) (if (null? l) #f\n" ∷
    codes "     (if (f (car l)) l (go f (cdr l))))))) go)" ∷
    [])

-- each text under its report name
abbrev pub texts : List (List ℕ × Option (List ℕ))
texts =
    (codes "for-each", Some text-for-each) ∷
    (codes "map", Some text-map) ∷
    (codes "find", Some text-find) ∷
    (codes "for-all", Some text-for-all) ∷
    (codes "exists", Some text-exists) ∷
    (codes "filter", Some text-filter) ∷
    (codes "fold-left", Some text-fold-left) ∷
    (codes "fold-right", Some text-fold-right) ∷
    (codes "remp", Some text-remp) ∷
    (codes "memp", Some text-memp) ∷
    []

-- the text that the table has under a report name
abbrev pub text_of : List ℕ → Option (List ℕ)
text_of name = option_and_then prelude_text (op_named name)

-- The table has these texts.
abbrev pub TextsAreWritten : Type 0
TextsAreWritten = map (λ row. (row.0, text_of row.0)) texts ≡ texts
