-- The codecs of patterns, templates and core code. Each level is made of the codec of its parts; the whole is so many levels.
use Rattle.std.specs.Prelude.{ℕ, zero, suc, nat_le, nat_eq, ◌⊎◌, Bool, true, false, not, ◌||◌, List, [], ◌∷◌, length, Option, Some, None}
use Rattle.std.proofs.Common.{inl, inr}
use Rattle.base_data.specs.Datum.{PlainDatum}
use Rattle.base_data.specs.declared.atom.Atom.{Atom}
use Rattle.base_data.specs.declared.name.CodeNo.{CodeNo}
use Rattle.base_data.specs.declared.name.Label.{Label}
use Rattle.base_data.specs.declared.op.Op.{Op}
use Rattle.base_data.specs.declared.span.Span.{Span}
use Rattle.base_bytes.specs.Codec.{Codec, checked, never, unit, u32, bool, mapped, seen_as, ◌then◌, optional, listed, tagged, last, ◌or◌}
use Rattle.base_bytes.specs.Names.{span, label, code_number, op, atom}
use Rattle.core_codec.specs.Trees.{datum, tree}
use Rattle.core_language.specs.Core as c
use Rattle.core_language.specs.Core.{PlainCore, PlainCores, PlainInits, PlainCases, PlainClauses, cores}
use Rattle.core_language.specs.Pattern as p
use Rattle.core_language.specs.Pattern.{PlainPattern, PlainPatterns, patterns, patterns_on}
use Rattle.core_language.specs.Template as m
use Rattle.core_language.specs.Template.{PlainTemplate, PlainItems}
use Rattle.core_language.specs.declared.formals.Formals.{Formals}
use Rattle.stx_tree.specs.Tree as t
use Rattle.stx_tree.specs.Tree.{Tree}

unfoldable pub formals : Codec Formals
formals = mapped (λ f. (f.required, f.rest)) (λ q. record { required = q.0; rest = q.1 }) (listed label then optional label)

-- ---- patterns

-- the patterns before an ellipsis, the one that it repeats, and those after it
abbrev pub SplitPatterns : Type 0
SplitPatterns = List PlainPattern × (Option PlainPattern × List PlainPattern)

abbrev pub with_before : PlainPattern → SplitPatterns → SplitPatterns
with_before x q = (x ∷ q.0, q.1)

-- all that is no ellipsis
abbrev pub plain_patterns : PlainPatterns → List PlainPattern
plain_patterns p.none = []
plain_patterns (p.more x xs) = x ∷ plain_patterns xs
plain_patterns (p.dots x xs) = x ∷ plain_patterns xs

abbrev pub has_no_dots : PlainPatterns → Bool
has_no_dots p.none = true
has_no_dots (p.more x xs) = has_no_dots xs
has_no_dots (p.dots x xs) = false

abbrev pub split : PlainPatterns → SplitPatterns
split p.none = ([], (None, []))
split (p.more x xs) = with_before x (split xs)
split (p.dots x xs) = ([], (Some x, plain_patterns xs))

-- one ellipsis at most
abbrev pub has_one_dots : PlainPatterns → Bool
has_one_dots p.none = true
has_one_dots (p.more x xs) = has_one_dots xs
has_one_dots (p.dots x xs) = has_no_dots xs

abbrev pub after : Option PlainPattern × List PlainPattern → PlainPatterns
after (None, xs) = p.none
after (Some x, xs) = p.dots x (patterns xs)

abbrev pub joined : SplitPatterns → PlainPatterns
joined q = patterns_on q.0 (after q.1)

abbrev pub is_empty : {A : Type 0} → List A → Bool
is_empty [] = true
is_empty (x ∷ xs) = false

abbrev pub is_there : {A : Type 0} → Option A → Bool
is_there None = false
is_there (Some x) = true

-- no patterns after an ellipsis that isn't there
abbrev pub is_split : Option PlainPattern × List PlainPattern → Bool
is_split q = is_there q.0 || is_empty q.1

abbrev pub is_leaf : Tree → Bool
is_leaf (t.atom s a) = false
is_leaf (t.leaf s x k) = true
is_leaf (t.pair s a e) = false
is_leaf (t.vector s e) = false

unfoldable pub elements : Codec PlainPattern → Codec PlainPatterns
elements part = seen_as split joined has_one_dots (listed part then checked is_split (optional part then listed part))

abbrev pub PatternCases : Type 0
PatternCases = Unit {0} ⊎ (Label ⊎ (Tree ⊎ (Atom ⊎ ((PlainPatterns × PlainPattern) ⊎ PlainPatterns))))

abbrev pub pattern_to : PlainPattern → PatternCases
pattern_to p.any = inl tt
pattern_to (p.variable l) = inr (inl l)
pattern_to (p.literal x) = inr (inr (inl x))
pattern_to (p.atom a) = inr (inr (inr (inl a)))
pattern_to (p.list xs x) = inr (inr (inr (inr (inl (xs, x)))))
pattern_to (p.vector xs) = inr (inr (inr (inr (inr xs))))

abbrev pub pattern_from : PatternCases → PlainPattern
pattern_from (inl u) = p.any
pattern_from (inr (inl l)) = p.variable l
pattern_from (inr (inr (inl x))) = p.literal x
pattern_from (inr (inr (inr (inl a)))) = p.atom a
pattern_from (inr (inr (inr (inr (inl q))))) = p.list q.0 q.1
pattern_from (inr (inr (inr (inr (inr xs))))) = p.vector xs

abbrev pub leaf : Codec Tree
leaf = checked is_leaf (tree 1000)

unfoldable pub pattern_level : Codec PlainPattern → Codec PlainPattern
pattern_level part = mapped pattern_to pattern_from (tagged (unit or label or leaf or atom or (elements part then part) or last (elements part)))

unfoldable pub pattern : ℕ → Codec PlainPattern
pattern zero = never
pattern (suc room) = pattern_level (pattern room)

-- ---- templates

abbrev pub item_list : PlainItems → List (PlainTemplate × ℕ)
item_list m.none = []
item_list (m.more x e xs) = (x, e) ∷ item_list xs

abbrev pub items_of : List (PlainTemplate × ℕ) → PlainItems
items_of [] = m.none
items_of (x ∷ xs) = m.more x.0 x.1 (items_of xs)

unfoldable pub items : Codec PlainTemplate → Codec PlainItems
items part = mapped item_list items_of (listed (part then u32))

abbrev pub TemplateCases : Type 0
TemplateCases = (Label × ℕ) ⊎ (Tree ⊎ ((PlainItems × PlainTemplate) ⊎ PlainItems))

abbrev pub template_to : PlainTemplate → TemplateCases
template_to (m.variable l d) = inl (l, d)
template_to (m.constant x) = inr (inl x)
template_to (m.list xs x) = inr (inr (inl (xs, x)))
template_to (m.vector xs) = inr (inr (inr xs))

abbrev pub template_from : TemplateCases → PlainTemplate
template_from (inl q) = m.variable q.0 q.1
template_from (inr (inl x)) = m.constant x
template_from (inr (inr (inl q))) = m.list q.0 q.1
template_from (inr (inr (inr xs))) = m.vector xs

unfoldable pub template_level : Codec PlainTemplate → Codec PlainTemplate
template_level part = mapped template_to template_from (tagged ((label then u32) or tree 1000 or (items part then part) or last (items part)))

unfoldable pub template : ℕ → Codec PlainTemplate
template zero = never
template (suc room) = template_level (template room)

-- ---- core code

abbrev pub core_list : PlainCores → List PlainCore
core_list c.none = []
core_list (c.more x xs) = x ∷ core_list xs

abbrev pub init_list : PlainInits → List (Label × PlainCore)
init_list c.no_init = []
init_list (c.init l x is) = (l, x) ∷ init_list is

abbrev pub inits_of : List (Label × PlainCore) → PlainInits
inits_of [] = c.no_init
inits_of (i ∷ is) = c.init i.0 i.1 (inits_of is)

abbrev pub case_list : PlainCases → List (Formals × PlainCore)
case_list c.no_case = []
case_list (c.case f x xs) = (f, x) ∷ case_list xs

abbrev pub cases_of : List (Formals × PlainCore) → PlainCases
cases_of [] = c.no_case
cases_of (x ∷ xs) = c.case x.0 x.1 (cases_of xs)

abbrev pub ClauseParts : Type 0
ClauseParts = PlainPattern × (Option PlainCore × PlainCore)

abbrev pub clause_list : PlainClauses → List ClauseParts
clause_list c.no_clause = []
clause_list (c.clause q x xs) = (q, (None, x)) ∷ clause_list xs
clause_list (c.fended q f x xs) = (q, (Some f, x)) ∷ clause_list xs

abbrev pub clause_on : PlainPattern → Option PlainCore → PlainCore → PlainClauses → PlainClauses
clause_on q None x xs = c.clause q x xs
clause_on q (Some f) x xs = c.fended q f x xs

abbrev pub clauses_of : List ClauseParts → PlainClauses
clauses_of [] = c.no_clause
clauses_of (x ∷ xs) = clause_on x.0 x.1.0 x.1.1 (clauses_of xs)

unfoldable pub core_parts : Codec PlainCore → Codec PlainCores
core_parts part = mapped core_list cores (listed part)

unfoldable pub inits : Codec PlainCore → Codec PlainInits
inits part = mapped init_list inits_of (listed (label then part))

unfoldable pub cases : Codec PlainCore → Codec PlainCases
cases part = mapped case_list cases_of (listed (formals then part))

unfoldable pub clauses : Codec PlainCore → Codec PlainClauses
clauses part = mapped clause_list clauses_of (listed (pattern 2000 then optional part then part))

abbrev pub CoreCases : Type 0
CoreCases = PlainDatum ⊎ (Label ⊎ (Op ⊎ ((PlainCore × (PlainCore × Option PlainCore)) ⊎ ((Label × PlainCore) ⊎ (PlainCores ⊎ ((CodeNo × (PlainCases × Bool)) ⊎
    ((Bool × (PlainInits × PlainCore)) ⊎ ((PlainCore × PlainCores) ⊎ ((PlainTemplate × Span) ⊎ (PlainCore × (PlainClauses × Span)))))))))))

abbrev pub core_to : PlainCore → CoreCases
core_to (c.quoted d) = inl d
core_to (c.variable l) = inr (inl l)
core_to (c.primitive o) = inr (inr (inl o))
core_to (c.one_armed x y) = inr (inr (inr (inl (x, (y, None)))))
core_to (c.two_armed x y z) = inr (inr (inr (inl (x, (y, Some z)))))
core_to (c.assignment l x) = inr (inr (inr (inr (inl (l, x)))))
core_to (c.sequence xs) = inr (inr (inr (inr (inr (inl xs)))))
core_to (c.procedure n xs plain) = inr (inr (inr (inr (inr (inr (inl (n, (xs, plain))))))))
core_to (c.letrec star is x) = inr (inr (inr (inr (inr (inr (inr (inl (star, (is, x)))))))))
core_to (c.call x xs) = inr (inr (inr (inr (inr (inr (inr (inr (inl (x, xs)))))))))
core_to (c.instance x s) = inr (inr (inr (inr (inr (inr (inr (inr (inr (inl (x, s))))))))))
core_to (c.matching x xs s) = inr (inr (inr (inr (inr (inr (inr (inr (inr (inr (x, (xs, s)))))))))))

abbrev pub if_of : PlainCore → PlainCore → Option PlainCore → PlainCore
if_of x y None = c.one_armed x y
if_of x y (Some z) = c.two_armed x y z

abbrev pub core_from : CoreCases → PlainCore
core_from (inl d) = c.quoted d
core_from (inr (inl l)) = c.variable l
core_from (inr (inr (inl o))) = c.primitive o
core_from (inr (inr (inr (inl q)))) = if_of q.0 q.1.0 q.1.1
core_from (inr (inr (inr (inr (inl q))))) = c.assignment q.0 q.1
core_from (inr (inr (inr (inr (inr (inl xs)))))) = c.sequence xs
core_from (inr (inr (inr (inr (inr (inr (inl q))))))) = c.procedure q.0 q.1.0 q.1.1
core_from (inr (inr (inr (inr (inr (inr (inr (inl q)))))))) = c.letrec q.0 q.1.0 q.1.1
core_from (inr (inr (inr (inr (inr (inr (inr (inr (inl q))))))))) = c.call q.0 q.1
core_from (inr (inr (inr (inr (inr (inr (inr (inr (inr (inl q)))))))))) = c.instance q.0 q.1
core_from (inr (inr (inr (inr (inr (inr (inr (inr (inr (inr q)))))))))) = c.matching q.0 q.1.0 q.1.1

-- a `begin` has two parts or more
abbrev pub are_two : PlainCores → Bool
are_two xs = nat_le 2 (length (core_list xs))

-- a `lambda` has one case
abbrev pub is_procedure : CodeNo × (PlainCases × Bool) → Bool
is_procedure q = not q.1.1 || nat_eq (length (case_list q.1.0)) 1

unfoldable pub core_level : Codec PlainCore → Codec PlainCore
core_level part = mapped core_to core_from (tagged (datum 1000 or label or op or (part then part then optional part) or
    (label then part) or checked are_two (core_parts part)
    or checked is_procedure (code_number then cases part then bool) or (bool then inits part then part) or (part then core_parts part) or
    (template 2000 then span) or last (part then clauses part then span)))

-- core code with at most so many core expressions round one, and one
unfoldable pub core : ℕ → Codec PlainCore
core zero = never
core (suc room) = core_level (core room)
