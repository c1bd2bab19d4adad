-- What a core expression in memory is, as the cases of its codec.
use Rattle.std.specs.Prelude.{ℕ, Bool, true, false, zero, suc, ◌-◌, ◌<◌, List, [], ◌∷◌, length, map, Option, Some, None}
use Rattle.std.proofs.Common.{◌≡◌, refl, ap, ◌∙◌, arith, inl, inr}
use Rattle.std.specs.declared.alloc.Global.{Global}
use Rattle.std.specs.declared.boxed.Box.{Box}
use Rattle.base_data.specs.Datum.{PlainDatum}
use Rattle.base_data.specs.declared.name.CodeNo.{CodeNo}
use Rattle.base_data.specs.declared.name.Label.{Label}
use Rattle.base_data.specs.declared.op.Op.{Op}
use Rattle.base_data.specs.declared.span.Span.{Span}
use Rattle.base_bytes.specs.Codec.{Codec, bool, checked, last, never, optional, tagged, ◌>>=◌, ◌or◌, ◌then◌}
use Rattle.core_codec.specs.Code.{CoreCases, core_to, core_list, init_list, inits_of, case_list}
use Rattle.core_codec.specs.Code.{cases_of, clause_list, clauses_of, core, core_level, ClauseParts, clause_on, core_from, core_parts, inits, cases, clauses, are_two, is_procedure, template}
use Rattle.core_codec.specs.Trees.{datum}
use Rattle.base_bytes.specs.Names.{code_number, label, op, span}
use Rattle.core_language.specs.Core as c
use Rattle.core_language.specs.Core.{PlainCore, PlainCores, PlainInits, PlainCases, PlainClauses, cores}
use Rattle.core_language.specs.CoreView as view
use Rattle.core_language.specs.Pattern.{PlainPattern}
use Rattle.core_language.specs.Template.{PlainTemplate}
use Rattle.core_language.specs.declared.code.Clause.{Clause}
use Rattle.core_language.specs.declared.code.CoreNode.{CoreNode}
use Rattle.core_language.specs.declared.code.CoreNode.TheVariants as n
use Rattle.core_language.specs.declared.code.Init.{Init}
use Rattle.core_language.specs.declared.code.Lambda.{Lambda}
use Rattle.core_language.specs.declared.formals.Formals.{Formals}
use Rattle.core_pattern_bytes.specs.declared.held.HeldReading.{HeldReading}

abbrev pub unboxed : Option (Box PlainCore Global) → Option PlainCore
unboxed None = None
unboxed (Some b) = Some b.value

abbrev pub held_there : Option (HeldReading (Box PlainCore Global)) → Option PlainCore
held_there None = None
held_there (Some h) = Some h.value.value

-- what was read, with the bytes that are left, where it could be read
abbrev pub if_read : {A : Type 0} → Bool → A → List ℕ → Option (A × List ℕ)
if_read true x left = Some (x, left)
if_read false x left = None

abbrev pub node_cases : CoreNode → CoreCases
node_cases (n.Quote d) = inl d
node_cases (n.Ref l) = inr (inl l)
node_cases (n.Prim o) = inr (inr (inl o))
node_cases (n.If c d e) = inr (inr (inr (inl (c.value, (d.value, unboxed e)))))
node_cases (n.Set l c) = inr (inr (inr (inr (inl (l, c.value)))))
node_cases (n.Seq cs) = inr (inr (inr (inr (inr (inl (cores cs.items))))))
node_cases (n.Lambda c) = inr (inr (inr (inr (inr (inr (inl (c.value.number, (c.value.cases, c.value.plain))))))))
node_cases (n.Letrec o is c) = inr (inr (inr (inr (inr (inr (inr (inl (o, (view.inits is.items, c.value)))))))))
node_cases (n.App c cs) = inr (inr (inr (inr (inr (inr (inr (inr (inl (c.value, cores cs.items)))))))))
node_cases (n.Syntax t s) = inr (inr (inr (inr (inr (inr (inr (inr (inr (inl (t, s))))))))))
node_cases (n.SyntaxCase c cs s) = inr (inr (inr (inr (inr (inr (inr (inr (inr (inr (c.value, (view.clauses cs.items, s)))))))))))

pub seen_to : (x : CoreNode) → core_to (view.seen x) ≡ node_cases x
seen_to (n.Quote d) = refl
seen_to (n.Ref l) = refl
seen_to (n.Prim o) = refl
seen_to (n.If c d None) = refl
seen_to (n.If c d (Some e)) = refl
seen_to (n.Set l c) = refl
seen_to (n.Seq cs) = refl
seen_to (n.Lambda c) = refl
seen_to (n.Letrec o is c) = refl
seen_to (n.App c cs) = refl
seen_to (n.Syntax t s) = refl
seen_to (n.SyntaxCase c cs s) = refl

pub seen_from : (x : CoreNode) → core_from (node_cases x) ≡ view.seen x
seen_from (n.Quote d) = refl
seen_from (n.Ref l) = refl
seen_from (n.Prim o) = refl
seen_from (n.If c d None) = refl
seen_from (n.If c d (Some e)) = refl
seen_from (n.Set l c) = refl
seen_from (n.Seq cs) = refl
seen_from (n.Lambda c) = refl
seen_from (n.Letrec o is c) = refl
seen_from (n.App c cs) = refl
seen_from (n.Syntax t s) = refl
seen_from (n.SyntaxCase c cs s) = refl

-- the codec of those cases, of which the codec of core code is made
abbrev pub choice : Codec PlainCore → Codec CoreCases
choice part = tagged (datum 1000 or label or op or (part then part then optional part) or (label then part) or checked are_two (core_parts part)
    or checked is_procedure (code_number then cases part then bool) or (bool then inits part then part) or (part then core_parts part) or
    (template 2000 then span) or last (part then clauses part then span))

-- the case of each kind: what has no parts of its own, with the bytes behind it
abbrev pub quote_case : PlainDatum × List ℕ → CoreCases × List ℕ
quote_case x = (inl x.0, x.1)

abbrev pub reference_case : Label × List ℕ → CoreCases × List ℕ
reference_case x = (inr (inl x.0), x.1)

abbrev pub primitive_case : Op × List ℕ → CoreCases × List ℕ
primitive_case x = (inr (inr (inl x.0)), x.1)

abbrev pub instance_case : (PlainTemplate × Span) × List ℕ → CoreCases × List ℕ
instance_case x = (inr (inr (inr (inr (inr (inr (inr (inr (inr (inl x.0))))))))), x.1)

-- and what has parts
abbrev pub if_case : PlainCore → PlainCore → Option PlainCore → CoreCases
if_case x y z = inr (inr (inr (inl (x, (y, z)))))

abbrev pub assignment_case : Label → PlainCore → CoreCases
assignment_case l x = inr (inr (inr (inr (inl (l, x)))))

abbrev pub sequence_case : PlainCores → CoreCases
sequence_case xs = inr (inr (inr (inr (inr (inl xs)))))

abbrev pub lambda_case : CodeNo → PlainCases → Bool → CoreCases
lambda_case n xs plain = inr (inr (inr (inr (inr (inr (inl (n, (xs, plain))))))))

abbrev pub letrec_case : Bool → PlainInits → PlainCore → CoreCases
letrec_case star is x = inr (inr (inr (inr (inr (inr (inr (inl (star, (is, x)))))))))

abbrev pub call_case : PlainCore → PlainCores → CoreCases
call_case x xs = inr (inr (inr (inr (inr (inr (inr (inr (inl (x, xs)))))))))

abbrev pub matching_case : PlainCore → PlainClauses → Span → CoreCases
matching_case x xs s = inr (inr (inr (inr (inr (inr (inr (inr (inr (inr (x, (xs, s)))))))))))

pub cores_there : (xs : List PlainCore) → core_list (cores xs) ≡ xs
cores_there [] = refl
cores_there (x ∷ xs) = ap (λ (ys : List PlainCore). x ∷ ys) (cores_there xs)

-- the parts of expressions, as their codecs take them
abbrev pub init_part : Init → Label × PlainCore
init_part i = (i.label, i.value)

abbrev pub case_part : Lambda → Formals × PlainCore
case_part c = (c.formals, c.body)

abbrev pub clause_part : Clause → ClauseParts
clause_part c = (c.pattern, (c.fender, c.output))

pub inits_are : (is : List Init) → init_list (view.inits is) ≡ map init_part is
inits_are [] = refl
inits_are (i ∷ is) = ap (λ (ys : List (Label × PlainCore)). init_part i ∷ ys) (inits_are is)

pub cases_are : (is : List Lambda) → case_list (view.cases is) ≡ map case_part is
cases_are [] = refl
cases_are (i ∷ is) = ap (λ (ys : List (Formals × PlainCore)). case_part i ∷ ys) (cases_are is)

clause_is : (c : Clause) (cs : List Clause) → clause_list (view.clause_on c.pattern c.fender c.output (view.clauses cs))
    ≡ clause_part c ∷ clause_list (view.clauses cs)
clause_is c cs = by c.fender
  where
    by : (f : Option PlainCore) → clause_list (view.clause_on c.pattern f c.output (view.clauses cs))
        ≡ (c.pattern, (f, c.output)) ∷ clause_list (view.clauses cs)
    by None = refl
    by (Some f) = refl

pub clauses_are : (is : List Clause) → clause_list (view.clauses is) ≡ map clause_part is
clauses_are [] = refl
clauses_are (i ∷ is) = clause_is i is ∙ ap (λ (ys : List ClauseParts). clause_part i ∷ ys) (clauses_are is)

-- and back
pub inits_back : (is : List Init) → inits_of (map init_part is) ≡ view.inits is
inits_back [] = refl
inits_back (i ∷ is) = ap (λ (ys : PlainInits). c.init i.label i.value ys) (inits_back is)

pub cases_back : (is : List Lambda) → cases_of (map case_part is) ≡ view.cases is
cases_back [] = refl
cases_back (i ∷ is) = ap (λ (ys : PlainCases). c.case i.formals i.body ys) (cases_back is)

pub clauses_back : (is : List Clause) → clauses_of (map clause_part is) ≡ view.clauses is
clauses_back [] = refl
clauses_back (i ∷ is) = same i.pattern i.fender i.output ∙ ap (λ (ys : PlainClauses). view.clause_on i.pattern i.fender i.output ys) (clauses_back is)
  where
    same : (q : PlainPattern) (f : Option PlainCore) (x : PlainCore) → clause_on q f x (clauses_of (map clause_part is))
        ≡ view.clause_on q f x (clauses_of (map clause_part is))
    same q None x = refl
    same q (Some f) x = refl

pub count_of_cases : (is : List Lambda) → length (case_list (view.cases is)) ≡ length is
count_of_cases [] = refl
count_of_cases (i ∷ is) = ap suc (count_of_cases is)

pub core_none : core 0 ≡ never
unfolding core
core_none = refl

pub core_more : (room : ℕ) → 0 < room → core room ≡ core_level (core (room - 1))
unfolding core
core_more zero h = absurd (omega arith)
core_more (suc room) h = let same : suc room - 1 ≡ room = omega arith in rw same refl
