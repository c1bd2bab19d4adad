-- The library of derived forms, written out (R6RS 11 and libraries 5 and 12).
use Rattle.std.specs.Prelude.{◌≡◌, ℕ, List, [], ◌∷◌, codes}
use Rattle.std.specs.List.{concat}
use Rattle.load_builtin.specs.declared.derived.TheConstants.{DERIVED_SOURCE}

-- `syntax-rules`
abbrev pub form-syntax-rules : List ℕ
form-syntax-rules = concat (
    codes "(define-syntax syntax-rules\n" ∷
    codes "  (lambda (x) (syntax-case x ()\n" ∷
    codes "    ((_ (k ...) ((key . p) t) ...) (for-all identifier? #'(k ... key ...))\n" ∷
    codes "     #'(lambda (x) (syntax-case x (k ...) ((dummy . p) #'t) ...))))))\n" ∷
    [])

-- `let`
abbrev pub form-let : List ℕ
form-let = concat (
    codes "(define-syntax let\n" ∷
    codes "  (lambda (x) (syntax-case x ()\n" ∷
    codes "    ((_ ((v e) ...) b1 b2 ...) (for-all identifier? #'(v ...))\n" ∷
    codes "     #'((lambda (v ...) b1 b2 ...) e ...))\n" ∷
    codes "    ((_ f ((v e) ...) b1 b2 ...) (for-all identifier? #'(f v ...))\n" ∷
    codes "     #'((letrec ((f (lambda (v ...) b1 b2 ...))) f) e ...)))))\n" ∷
    [])

-- `let*`
abbrev pub form-let_star : List ℕ
form-let_star = concat (
    codes "(define-syntax let* (syntax-rules ()\n" ∷
    codes "  ((_ () b1 b2 ...) (let () b1 b2 ...))\n" ∷
    codes "  ((_ ((v e) c ...) b1 b2 ...) (let ((v e)) (let* (c ...) b1 b2 ...)))))\n" ∷
    [])

-- `and`
abbrev pub form-and : List ℕ
form-and = concat (
    codes "(define-syntax and (syntax-rules ()\n" ∷
    codes "  ((_) #t) ((_ e) e) ((_ e1 e2 ...) (if e1 (and e2 ...) #f))))\n" ∷
    [])

-- `or`
abbrev pub form-or : List ℕ
form-or = concat (
    codes "(define-syntax or (syntax-rules ()\n" ∷
    codes "  ((_) #f) ((_ e) e) ((_ e1 e2 ...) (let ((t e1)) (if t t (or e2 ...))))))\n" ∷
    [])

-- `cond`
abbrev pub form-cond : List ℕ
form-cond = concat (
    codes "(define-syntax cond (syntax-rules (else =>)\n" ∷
    codes "  ((_ (else e1 e2 ...)) (begin e1 e2 ...))\n" ∷
    codes "  ((_ (e1 => e2)) (let ((t e1)) (if t (e2 t))))\n" ∷
    codes "  ((_ (e1 => e2) c1 c2 ...) (let ((t e1)) (if t (e2 t) (cond c1 c2 ...))))\n" ∷
    codes "  ((_ (e)) e)\n" ∷
    codes "  ((_ (e) c1 c2 ...) (let ((t e)) (if t t (cond c1 c2 ...))))\n" ∷
    codes "  ((_ (e e1 e2 ...)) (if e (begin e1 e2 ...)))\n" ∷
    codes "  ((_ (e e1 e2 ...) c1 c2 ...) (if e (begin e1 e2 ...) (cond c1 c2 ...)))))\n" ∷
    [])

-- `case-clauses`
abbrev pub form-case-clauses : List ℕ
form-case-clauses = concat (
    codes "(define-syntax case-clauses (syntax-rules (else)\n" ∷
    codes "  ((_ t (else e1 e2 ...)) (begin e1 e2 ...))\n" ∷
    codes "  ((_ t ((d ...) e1 e2 ...)) (if (memv t '(d ...)) (begin e1 e2 ...)))\n" ∷
    codes "  ((_ t ((d ...) e1 e2 ...) c1 c2 ...)\n" ∷
    codes "   (if (memv t '(d ...)) (begin e1 e2 ...) (case-clauses t c1 c2 ...)))))\n" ∷
    [])

-- `case`
abbrev pub form-case : List ℕ
form-case = concat (
    codes "(define-syntax case (syntax-rules ()\n" ∷
    codes "  ((_ e c1 c2 ...) (let ((t e)) (case-clauses t c1 c2 ...)))))\n" ∷
    [])

-- `when`
abbrev pub form-when : List ℕ
form-when = concat (
    codes "(define-syntax when (syntax-rules ()\n" ∷
    codes "  ((_ t e1 e2 ...) (if t (begin e1 e2 ...)))))\n" ∷
    [])

-- `unless`
abbrev pub form-unless : List ℕ
form-unless = concat (
    codes "(define-syntax unless (syntax-rules ()\n" ∷
    codes "  ((_ t e1 e2 ...) (if (not t) (begin e1 e2 ...)))))\n" ∷
    [])

-- `with-syntax`
abbrev pub form-with-syntax : List ℕ
form-with-syntax = concat (
    codes "(define-syntax with-syntax\n" ∷
    codes "  (lambda (x) (syntax-case x ()\n" ∷
    codes "    ((_ ((p e) ...) b1 b2 ...)\n" ∷
    codes "     #'(syntax-case (list e ...) () ((p ...) (let () b1 b2 ...)))))))\n" ∷
    [])

-- `do`
abbrev pub form-do : List ℕ
form-do = concat (
    codes "(define-syntax do\n" ∷
    codes "  (lambda (x) (syntax-case x ()\n" ∷
    codes "    ((_ ((v i . s) ...) (t r ...) c ...)\n" ∷
    codes "     (with-syntax (((n ...)\n" ∷
    codes "         (map (lambda (v s) (syntax-case s () (() v) ((e) #'e)))\n" ∷
    codes "              #'(v ...) #'(s ...))))\n" ∷
    codes "       #'(let loop ((v i) ...)\n" ∷
    codes "           (if t (begin (if #f #f) r ...) (begin c ... (loop n ...)))))))))\n" ∷
    [])

-- `let*-values`
abbrev pub form-let_star-values : List ℕ
form-let_star-values = concat (
    codes "(define-syntax let*-values (syntax-rules ()\n" ∷
    codes "  ((_ () b1 b2 ...) (let () b1 b2 ...))\n" ∷
    codes "  ((_ ((f e) c ...) b1 b2 ...)\n" ∷
    codes "   (call-with-values (lambda () e)\n" ∷
    codes "     (lambda f (let*-values (c ...) b1 b2 ...))))))\n" ∷
    [])

-- `lv-formals`
abbrev pub form-lv-formals : List ℕ
form-lv-formals = concat (
    codes "(define-syntax lv-formals (syntax-rules ()\n" ∷
    codes "  ((_ () (t ...) e cs vts b1 b2 ...)\n" ∷
    codes "   (call-with-values (lambda () e)\n" ∷
    codes "     (lambda (t ...) (lv-clauses cs vts b1 b2 ...))))\n" ∷
    codes "  ((_ (v . f) (t ...) e cs (vt ...) b1 b2 ...)\n" ∷
    codes "   (lv-formals f (t ... u) e cs (vt ... (v u)) b1 b2 ...))\n" ∷
    codes "  ((_ v (t ...) e cs (vt ...) b1 b2 ...)\n" ∷
    codes "   (call-with-values (lambda () e)\n" ∷
    codes "     (lambda (t ... . u) (lv-clauses cs (vt ... (v u)) b1 b2 ...))))))\n" ∷
    [])

-- `lv-clauses`
abbrev pub form-lv-clauses : List ℕ
form-lv-clauses = concat (
    codes "(define-syntax lv-clauses (syntax-rules ()\n" ∷
    codes "  ((_ () ((v t) ...) b1 b2 ...) (let ((v t) ...) b1 b2 ...))\n" ∷
    codes "  ((_ ((f e) c ...) vts b1 b2 ...)\n" ∷
    codes "   (lv-formals f () e (c ...) vts b1 b2 ...))))\n" ∷
    [])

-- `let-values`
abbrev pub form-let-values : List ℕ
form-let-values = concat (
    codes "(define-syntax let-values (syntax-rules ()\n" ∷
    codes "  ((_ (c ...) b1 b2 ...) (lv-clauses (c ...) () b1 b2 ...))))\n" ∷
    [])

-- `assert`
abbrev pub form-assert : List ℕ
form-assert = concat (
    codes "(define-syntax assert (syntax-rules ()\n" ∷
    codes "  ((_ e) (or e (assertion-violation #f \"assertion failed\")))))\n" ∷
    [])

-- `identifier-syntax`
abbrev pub form-identifier-syntax : List ℕ
form-identifier-syntax = concat (
    codes "(define-syntax identifier-syntax\n" ∷
    codes "  (lambda (x) (syntax-case x (set!)\n" ∷
    codes "    ((_ e) #'(lambda (x) (syntax-case x ()\n" ∷
    codes "        (id (identifier? #'id) #'e)\n" ∷
    codes "        ((_ x (... ...)) #'(e x (... ...))))))\n" ∷
    codes "    ((_ (id e1) ((set! var val) e2))\n" ∷
    codes "     (and (identifier? #'id) (identifier? #'var))\n" ∷
    codes "     #'(make-variable-transformer (lambda (x) (syntax-case x (set!)\n" ∷
    codes "        ((set! var val) #'e2)\n" ∷
    codes "        ((id x (... ...)) #'(e1 x (... ...)))\n" ∷
    codes "        (id (identifier? #'id) #'e1))))))))\n" ∷
    [])

-- one definition after another
abbrev pub derived : List ℕ
derived = concat (form-syntax-rules ∷ form-let ∷ form-let_star ∷ form-and ∷ form-or ∷ form-cond ∷ form-case-clauses ∷ form-case ∷ form-when
    ∷ form-unless ∷ form-with-syntax ∷ form-do ∷ form-let_star-values ∷ form-lv-formals ∷ form-lv-clauses ∷ form-let-values ∷ form-assert
    ∷ form-identifier-syntax ∷ [])

-- The text of the library is this.
abbrev pub DerivedIsWritten : Type 0
DerivedIsWritten = DERIVED_SOURCE.now ≡ derived
