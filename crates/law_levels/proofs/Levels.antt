-- Code that has a spelling is no higher than its room, and where there is room enough the room makes no difference.
use Rattle.std.proofs.Common.{◌≡◌, ℕ, zero, suc, ◌≤◌, max, Bool, true, false, length, Option, Some, None, refl, arith}
use Rattle.std.specs.Prelude.{◌&&◌}
use Rattle.std.specs.List.{list_all}
use Rattle.base_bytes.specs.Codec.{Codec, checked, u32, u64, ◌then◌, optional, optional_fits, listed, bool}
use Rattle.base_bytes.specs.Laws.{both}
use Rattle.base_bytes.specs.Names.{label, code_number, span}
use Rattle.core_codec.specs.Code.{split, plain_patterns, has_one_dots, is_split, elements, pattern, pattern_level, item_list, items, template, template_level}
use Rattle.core_codec.specs.Code.{formals, core_list, init_list, case_list, clause_list, core_parts, inits, cases, clauses, are_two, is_procedure, core, core_level}
use Rattle.core_language.specs.Core as c
use Rattle.core_language.specs.Core.{PlainCore, PlainCores, PlainInits, PlainCases, PlainClauses}
use Rattle.core_language.specs.Pattern as p
use Rattle.core_language.specs.Pattern.{PlainPattern, PlainPatterns}
use Rattle.core_language.specs.Template as m
use Rattle.core_language.specs.Template.{PlainTemplate, PlainItems}
use Rattle.law_levels.specs.Levels.{pattern_levels, patterns_levels, template_levels, items_levels, core_levels, cores_levels, inits_levels, cases_levels, clauses_levels, PatternsAreBounded, TemplatesAreBounded, CoreIsBounded}

least : (a b n : ℕ) → a ≤ n → b ≤ n → max a b ≤ n
least a b n h k = omega (arith, h, k)

left : (a b n : ℕ) → max a b ≤ n → a ≤ n
left a b n h = omega (arith, h)

right : (a b n : ℕ) → max a b ≤ n → b ≤ n
right a b n h = omega (arith, h)

up : (a n : ℕ) → a ≤ n → suc a ≤ suc n
up a n h = omega (arith, h)

down : (a n : ℕ) → suc a ≤ suc n → a ≤ n
down a n h = omega (arith, h)

lowest : (n : ℕ) → 0 ≤ n
lowest n = omega arith

one-fits : (n : ℕ) → 1 ≤ suc n
one-fits n = omega arith

none-fits : (n : ℕ) → suc n ≤ 0 → ⊥
none-fits n h = omega (arith, h)

and-same : (a b c d : Bool) → a ≡ b → c ≡ d → (a && c) ≡ (b && d)
and-same a b c d h k = λ i. h i && k i

-- What is known of the parts: what has a spelling is no higher, or two codecs differ nowhere.

abbrev Low : (A : Type 0) → (A → ℕ) → ℕ → (A → Bool) → Type 0
Low A levels n fits = (x : A) → fits x ≡ true → levels x ≤ n

abbrev Same : (A : Type 0) → (A → ℕ) → ℕ → (A → Bool) → (A → Bool) → Type 0
Same A levels n f g = (x : A) → levels x ≤ n → f x ≡ g x

-- ---- patterns

low-plain : (n : ℕ) (fits : PlainPattern → Bool) → Low PlainPattern pattern_levels n fits → (xs : PlainPatterns) → list_all fits (plain_patterns xs) ≡ true → patterns_levels xs ≤ n
low-plain n fits low p.none e = lowest n
low-plain n fits low (p.more x xs) e =
    let h = both (fits x) (list_all fits (plain_patterns xs)) e in
    least (pattern_levels x) (patterns_levels xs) n (low x h.0) (low-plain n fits low xs h.1)
low-plain n fits low (p.dots x xs) e =
    let h = both (fits x) (list_all fits (plain_patterns xs)) e in
    least (pattern_levels x) (patterns_levels xs) n (low x h.0) (low-plain n fits low xs h.1)

low-split : (n : ℕ) (fits : PlainPattern → Bool) → Low PlainPattern pattern_levels n fits → (xs : PlainPatterns) → list_all fits (split xs).0 ≡ true → optional_fits fits (split xs).1.0 ≡ true
    → list_all fits (split xs).1.1 ≡ true → patterns_levels xs ≤ n
low-split n fits low p.none e f g = lowest n
low-split n fits low (p.more x xs) e f g =
    let h = both (fits x) (list_all fits (split xs).0) e in
    least (pattern_levels x) (patterns_levels xs) n (low x h.0) (low-split n fits low xs h.1 f g)
low-split n fits low (p.dots x xs) e f g = least (pattern_levels x) (patterns_levels xs) n (low x f) (low-plain n fits low xs g)

low-elements : (n : ℕ) (part : Codec PlainPattern) → Low PlainPattern pattern_levels n part.fits → (xs : PlainPatterns) → (elements part).fits xs ≡ true → patterns_levels xs ≤ n
unfolding elements
low-elements n part low xs e =
    let a = both ((listed part then checked is_split (optional part then listed part)).fits (split xs)) (has_one_dots xs) e in
    let b = both ((listed part).fits (split xs).0) ((checked is_split (optional part then listed part)).fits (split xs).1) a.0 in
    let k = both ((optional part then listed part).fits (split xs).1) (is_split (split xs).1) b.1 in
    let d = both ((optional part).fits (split xs).1.0) ((listed part).fits (split xs).1.1) k.0 in
    let f = both (u64.fits (length (split xs).0)) (list_all part.fits (split xs).0) b.0 in
    let g = both (u64.fits (length (split xs).1.1)) (list_all part.fits (split xs).1.1) d.1 in
    low-split n part.fits low xs f.1 d.0 g.1

pattern-within : (room : ℕ) (x : PlainPattern) → (pattern room).fits x ≡ true → pattern_levels x ≤ room
unfolding pattern pattern_level
pattern-within zero x e = absurd (cc)
pattern-within (suc room) p.any e = one-fits room
pattern-within (suc room) (p.variable l) e = one-fits room
pattern-within (suc room) (p.literal t) e = one-fits room
pattern-within (suc room) (p.atom a) e = one-fits room
pattern-within (suc room) (p.list xs x) e =
    let h = both ((elements (pattern room)).fits xs) ((pattern room).fits x) e in
    let a = low-elements room (pattern room) (pattern-within room) xs h.0 in
    up (max (patterns_levels xs) (pattern_levels x)) room (least (patterns_levels xs) (pattern_levels x) room a (pattern-within room x h.1))
pattern-within (suc room) (p.vector xs) e = up (patterns_levels xs) room (low-elements room (pattern room) (pattern-within room) xs e)

same-plain : (n : ℕ) (f g : PlainPattern → Bool) → Same PlainPattern pattern_levels n f g → (xs : PlainPatterns) → patterns_levels xs ≤ n → list_all f (plain_patterns xs) ≡ list_all g (plain_patterns xs)
same-plain n f g same p.none le = refl
same-plain n f g same (p.more x xs) le =
    let h = same x (left (pattern_levels x) (patterns_levels xs) n le) in
    let k = same-plain n f g same xs (right (pattern_levels x) (patterns_levels xs) n le) in
    and-same (f x) (g x) (list_all f (plain_patterns xs)) (list_all g (plain_patterns xs)) h k
same-plain n f g same (p.dots x xs) le =
    let h = same x (left (pattern_levels x) (patterns_levels xs) n le) in
    let k = same-plain n f g same xs (right (pattern_levels x) (patterns_levels xs) n le) in
    and-same (f x) (g x) (list_all f (plain_patterns xs)) (list_all g (plain_patterns xs)) h k

-- the parts of a list, before, at and behind its ellipsis
record SameSplit (f g : PlainPattern → Bool) (xs : PlainPatterns) : Type 0 where
  before : list_all f (split xs).0 ≡ list_all g (split xs).0
  at : optional_fits f (split xs).1.0 ≡ optional_fits g (split xs).1.0
  behind : list_all f (split xs).1.1 ≡ list_all g (split xs).1.1

same-split : (n : ℕ) (f g : PlainPattern → Bool) → Same PlainPattern pattern_levels n f g → (xs : PlainPatterns) → patterns_levels xs ≤ n → SameSplit f g xs
same-split n f g same p.none le = record { before = refl; at = refl; behind = refl }
same-split n f g same (p.more x xs) le =
    let h = same x (left (pattern_levels x) (patterns_levels xs) n le) in
    let k = same-split n f g same xs (right (pattern_levels x) (patterns_levels xs) n le) in
    record { before = and-same (f x) (g x) (list_all f (split xs).0) (list_all g (split xs).0) h k.before; at = k.at; behind = k.behind }
same-split n f g same (p.dots x xs) le =
    let h = same x (left (pattern_levels x) (patterns_levels xs) n le) in
    let k = same-plain n f g same xs (right (pattern_levels x) (patterns_levels xs) n le) in
    record { before = refl; at = h; behind = k }

same-elements : (n : ℕ) (a b : Codec PlainPattern) → Same PlainPattern pattern_levels n a.fits b.fits → (xs : PlainPatterns) → patterns_levels xs ≤ n → (elements a).fits xs ≡ (elements b).fits xs
unfolding elements
same-elements n a b same xs le =
    let r = same-split n a.fits b.fits same xs le in
    λ i. ((u64.fits (length (split xs).0) && r.before i) && ((r.at i && (u64.fits (length (split xs).1.1) && r.behind i)) && is_split (split xs).1)) && has_one_dots xs

pattern-stands : (x : PlainPattern) → pattern_levels x ≤ 0 → ⊥
pattern-stands p.any h = none-fits 0 h
pattern-stands (p.variable l) h = none-fits 0 h
pattern-stands (p.literal t) h = none-fits 0 h
pattern-stands (p.atom a) h = none-fits 0 h
pattern-stands (p.list xs x) h = none-fits (max (patterns_levels xs) (pattern_levels x)) h
pattern-stands (p.vector xs) h = none-fits (patterns_levels xs) h

pattern-same : (room other : ℕ) (x : PlainPattern) → pattern_levels x ≤ room → room ≤ other → (pattern room).fits x ≡ (pattern other).fits x
unfolding pattern pattern_level
pattern-same zero other x h k = absurd (pattern-stands x h)
pattern-same (suc room) zero x h k = absurd (none-fits room k)
pattern-same (suc room) (suc other) p.any h k = refl
pattern-same (suc room) (suc other) (p.variable l) h k = refl
pattern-same (suc room) (suc other) (p.literal t) h k = refl
pattern-same (suc room) (suc other) (p.atom a) h k = refl
pattern-same (suc room) (suc other) (p.list xs x) h k =
    let f = down (max (patterns_levels xs) (pattern_levels x)) room h in
    let g = down room other k in
    let a = same-elements room (pattern room) (pattern other) (λ y l. pattern-same room other y l g) xs (left (patterns_levels xs) (pattern_levels x) room f) in
    let b = pattern-same room other x (right (patterns_levels xs) (pattern_levels x) room f) g in
    λ i. a i && b i
pattern-same (suc room) (suc other) (p.vector xs) h k =
    let g = down room other k in
    same-elements room (pattern room) (pattern other) (λ y l. pattern-same room other y l g) xs (down (patterns_levels xs) room h)

pub patterns-are-bounded : PatternsAreBounded
patterns-are-bounded = record { within = pattern-within; enough = pattern-same }

-- ---- templates

low-items : (n : ℕ) (part : Codec PlainTemplate) → Low PlainTemplate template_levels n part.fits → (xs : PlainItems) → list_all (part then u32).fits (item_list xs) ≡ true → items_levels xs ≤ n
low-items n part low m.none e = lowest n
low-items n part low (m.more x d xs) e =
    let h = both ((part then u32).fits (x, d)) (list_all (part then u32).fits (item_list xs)) e in
    let k = both (part.fits x) (u32.fits d) h.0 in
    least (template_levels x) (items_levels xs) n (low x k.0) (low-items n part low xs h.1)

low-row : (n : ℕ) (part : Codec PlainTemplate) → Low PlainTemplate template_levels n part.fits → (xs : PlainItems) → (items part).fits xs ≡ true → items_levels xs ≤ n
unfolding items
low-row n part low xs e = low-items n part low xs (both (u64.fits (length (item_list xs))) (list_all (part then u32).fits (item_list xs)) e).1

template-within : (room : ℕ) (x : PlainTemplate) → (template room).fits x ≡ true → template_levels x ≤ room
unfolding template template_level
template-within zero x e = absurd (cc)
template-within (suc room) (m.variable l d) e = one-fits room
template-within (suc room) (m.constant t) e = one-fits room
template-within (suc room) (m.list xs x) e =
    let h = both ((items (template room)).fits xs) ((template room).fits x) e in
    let a = low-row room (template room) (template-within room) xs h.0 in
    up (max (items_levels xs) (template_levels x)) room (least (items_levels xs) (template_levels x) room a (template-within room x h.1))
template-within (suc room) (m.vector xs) e = up (items_levels xs) room (low-row room (template room) (template-within room) xs e)

same-items : (n : ℕ) (a b : Codec PlainTemplate) → Same PlainTemplate template_levels n a.fits b.fits → (xs : PlainItems) → items_levels xs ≤ n
    → list_all (a then u32).fits (item_list xs) ≡ list_all (b then u32).fits (item_list xs)
same-items n a b same m.none le = refl
same-items n a b same (m.more x d xs) le =
    let h = same x (left (template_levels x) (items_levels xs) n le) in
    let k = same-items n a b same xs (right (template_levels x) (items_levels xs) n le) in
    λ i. (h i && u32.fits d) && k i

same-row : (n : ℕ) (a b : Codec PlainTemplate) → Same PlainTemplate template_levels n a.fits b.fits → (xs : PlainItems) → items_levels xs ≤ n → (items a).fits xs ≡ (items b).fits xs
unfolding items
same-row n a b same xs le = let r = same-items n a b same xs le in λ i. u64.fits (length (item_list xs)) && r i

template-stands : (x : PlainTemplate) → template_levels x ≤ 0 → ⊥
template-stands (m.variable l d) h = none-fits 0 h
template-stands (m.constant t) h = none-fits 0 h
template-stands (m.list xs x) h = none-fits (max (items_levels xs) (template_levels x)) h
template-stands (m.vector xs) h = none-fits (items_levels xs) h

template-same : (room other : ℕ) (x : PlainTemplate) → template_levels x ≤ room → room ≤ other → (template room).fits x ≡ (template other).fits x
unfolding template template_level
template-same zero other x h k = absurd (template-stands x h)
template-same (suc room) zero x h k = absurd (none-fits room k)
template-same (suc room) (suc other) (m.variable l d) h k = refl
template-same (suc room) (suc other) (m.constant t) h k = refl
template-same (suc room) (suc other) (m.list xs x) h k =
    let f = down (max (items_levels xs) (template_levels x)) room h in
    let g = down room other k in
    let a = same-row room (template room) (template other) (λ y l. template-same room other y l g) xs (left (items_levels xs) (template_levels x) room f) in
    let b = template-same room other x (right (items_levels xs) (template_levels x) room f) g in
    λ i. a i && b i
template-same (suc room) (suc other) (m.vector xs) h k =
    let g = down room other k in
    same-row room (template room) (template other) (λ y l. template-same room other y l g) xs (down (items_levels xs) room h)

pub templates-are-bounded : TemplatesAreBounded
templates-are-bounded = record { within = template-within; enough = template-same }

-- ---- core code

low-cores : (n : ℕ) (fits : PlainCore → Bool) → Low PlainCore core_levels n fits → (xs : PlainCores) → list_all fits (core_list xs) ≡ true → cores_levels xs ≤ n
low-cores n fits low c.none e = lowest n
low-cores n fits low (c.more x xs) e =
    let h = both (fits x) (list_all fits (core_list xs)) e in
    least (core_levels x) (cores_levels xs) n (low x h.0) (low-cores n fits low xs h.1)

low-inits : (n : ℕ) (part : Codec PlainCore) → Low PlainCore core_levels n part.fits → (xs : PlainInits) → list_all (label then part).fits (init_list xs) ≡ true → inits_levels xs ≤ n
low-inits n part low c.no_init e = lowest n
low-inits n part low (c.init l x xs) e =
    let h = both ((label then part).fits (l, x)) (list_all (label then part).fits (init_list xs)) e in
    let k = both (label.fits l) (part.fits x) h.0 in
    least (core_levels x) (inits_levels xs) n (low x k.1) (low-inits n part low xs h.1)

low-cases : (n : ℕ) (part : Codec PlainCore) → Low PlainCore core_levels n part.fits → (xs : PlainCases) → list_all (formals then part).fits (case_list xs) ≡ true → cases_levels xs ≤ n
low-cases n part low c.no_case e = lowest n
low-cases n part low (c.case f x xs) e =
    let h = both ((formals then part).fits (f, x)) (list_all (formals then part).fits (case_list xs)) e in
    let k = both (formals.fits f) (part.fits x) h.0 in
    least (core_levels x) (cases_levels xs) n (low x k.1) (low-cases n part low xs h.1)

low-clauses : (n : ℕ) (part : Codec PlainCore) → Low PlainCore core_levels n part.fits → (xs : PlainClauses) → list_all (pattern 2000 then optional part then part).fits (clause_list xs) ≡ true
    → clauses_levels xs ≤ n
low-clauses n part low c.no_clause e = lowest n
low-clauses n part low (c.clause q x xs) e =
    let h = both ((pattern 2000 then optional part then part).fits (q, (None, x))) (list_all (pattern 2000 then optional part then part).fits (clause_list xs)) e in
    let k = both ((pattern 2000).fits q) (part.fits x) h.0 in
    least (core_levels x) (clauses_levels xs) n (low x k.1) (low-clauses n part low xs h.1)
low-clauses n part low (c.fended q f x xs) e =
    let h = both ((pattern 2000 then optional part then part).fits (q, (Some f, x))) (list_all (pattern 2000 then optional part then part).fits (clause_list xs)) e in
    let k = both ((pattern 2000).fits q) (part.fits f && part.fits x) h.0 in
    let g = both (part.fits f) (part.fits x) k.1 in
    let rest = least (core_levels x) (clauses_levels xs) n (low x g.1) (low-clauses n part low xs h.1) in
    least (core_levels f) (max (core_levels x) (clauses_levels xs)) n (low f g.0) rest

core-within : (room : ℕ) (x : PlainCore) → (core room).fits x ≡ true → core_levels x ≤ room
unfolding core core_level core_parts inits cases clauses
core-within zero x e = absurd (cc)
core-within (suc room) (c.quoted d) e = one-fits room
core-within (suc room) (c.variable l) e = one-fits room
core-within (suc room) (c.primitive o) e = one-fits room
core-within (suc room) (c.one_armed x y) e =
    let h = both ((core room).fits x) ((core room).fits y && true) e in
    let k = both ((core room).fits y) true h.1 in
    up (max (core_levels x) (core_levels y)) room (least (core_levels x) (core_levels y) room (core-within room x h.0) (core-within room y k.0))
core-within (suc room) (c.two_armed x y z) e =
    let h = both ((core room).fits x) ((core room).fits y && (core room).fits z) e in
    let k = both ((core room).fits y) ((core room).fits z) h.1 in
    let rest = least (core_levels y) (core_levels z) room (core-within room y k.0) (core-within room z k.1) in
    up (max (core_levels x) (max (core_levels y) (core_levels z))) room (least (core_levels x) (max (core_levels y) (core_levels z)) room (core-within room x h.0) rest)
core-within (suc room) (c.assignment l x) e = up (core_levels x) room (core-within room x (both (label.fits l) ((core room).fits x) e).1)
core-within (suc room) (c.sequence xs) e =
    let h = both (u64.fits (length (core_list xs)) && list_all (core room).fits (core_list xs)) (are_two xs) e in
    let k = both (u64.fits (length (core_list xs))) (list_all (core room).fits (core_list xs)) h.0 in
    up (cores_levels xs) room (low-cores room (core room).fits (core-within room) xs k.1)
core-within (suc room) (c.procedure n xs plain) e =
    let h = both ((code_number then cases (core room) then bool).fits (n, (xs, plain))) (is_procedure (n, (xs, plain))) e in
    let k = both (code_number.fits n) ((cases (core room) then bool).fits (xs, plain)) h.0 in
    let f = both ((cases (core room)).fits xs) (bool.fits plain) k.1 in
    let g = both (u64.fits (length (case_list xs))) (list_all (formals then core room).fits (case_list xs)) f.0 in
    up (cases_levels xs) room (low-cases room (core room) (core-within room) xs g.1)
core-within (suc room) (c.letrec star xs x) e =
    let h = both (bool.fits star) ((inits (core room)).fits xs && (core room).fits x) e in
    let k = both ((inits (core room)).fits xs) ((core room).fits x) h.1 in
    let g = both (u64.fits (length (init_list xs))) (list_all (label then core room).fits (init_list xs)) k.0 in
    let a = low-inits room (core room) (core-within room) xs g.1 in
    up (max (inits_levels xs) (core_levels x)) room (least (inits_levels xs) (core_levels x) room a (core-within room x k.1))
core-within (suc room) (c.call x xs) e =
    let h = both ((core room).fits x) ((core_parts (core room)).fits xs) e in
    let k = both (u64.fits (length (core_list xs))) (list_all (core room).fits (core_list xs)) h.1 in
    let a = low-cores room (core room).fits (core-within room) xs k.1 in
    up (max (core_levels x) (cores_levels xs)) room (least (core_levels x) (cores_levels xs) room (core-within room x h.0) a)
core-within (suc room) (c.instance t s) e = one-fits room
core-within (suc room) (c.matching x xs s) e =
    let h = both ((core room).fits x) ((clauses (core room)).fits xs && span.fits s) e in
    let k = both ((clauses (core room)).fits xs) (span.fits s) h.1 in
    let g = both (u64.fits (length (clause_list xs))) (list_all (pattern 2000 then optional (core room) then core room).fits (clause_list xs)) k.0 in
    let a = low-clauses room (core room) (core-within room) xs g.1 in
    up (max (core_levels x) (clauses_levels xs)) room (least (core_levels x) (clauses_levels xs) room (core-within room x h.0) a)

same-cores : (n : ℕ) (f g : PlainCore → Bool) → Same PlainCore core_levels n f g → (xs : PlainCores) → cores_levels xs ≤ n → list_all f (core_list xs) ≡ list_all g (core_list xs)
same-cores n f g same c.none le = refl
same-cores n f g same (c.more x xs) le =
    let h = same x (left (core_levels x) (cores_levels xs) n le) in
    let k = same-cores n f g same xs (right (core_levels x) (cores_levels xs) n le) in
    λ i. h i && k i

same-inits : (n : ℕ) (a b : Codec PlainCore) → Same PlainCore core_levels n a.fits b.fits → (xs : PlainInits) → inits_levels xs ≤ n
    → list_all (label then a).fits (init_list xs) ≡ list_all (label then b).fits (init_list xs)
same-inits n a b same c.no_init le = refl
same-inits n a b same (c.init l x xs) le =
    let h = same x (left (core_levels x) (inits_levels xs) n le) in
    let k = same-inits n a b same xs (right (core_levels x) (inits_levels xs) n le) in
    λ i. (label.fits l && h i) && k i

same-cases : (n : ℕ) (a b : Codec PlainCore) → Same PlainCore core_levels n a.fits b.fits → (xs : PlainCases) → cases_levels xs ≤ n
    → list_all (formals then a).fits (case_list xs) ≡ list_all (formals then b).fits (case_list xs)
same-cases n a b same c.no_case le = refl
same-cases n a b same (c.case f x xs) le =
    let h = same x (left (core_levels x) (cases_levels xs) n le) in
    let k = same-cases n a b same xs (right (core_levels x) (cases_levels xs) n le) in
    λ i. (formals.fits f && h i) && k i

same-clauses : (n : ℕ) (a b : Codec PlainCore) → Same PlainCore core_levels n a.fits b.fits → (xs : PlainClauses) → clauses_levels xs ≤ n
    → list_all (pattern 2000 then optional a then a).fits (clause_list xs) ≡ list_all (pattern 2000 then optional b then b).fits (clause_list xs)
same-clauses n a b same c.no_clause le = refl
same-clauses n a b same (c.clause q x xs) le =
    let h = same x (left (core_levels x) (clauses_levels xs) n le) in
    let k = same-clauses n a b same xs (right (core_levels x) (clauses_levels xs) n le) in
    λ i. ((pattern 2000).fits q && h i) && k i
same-clauses n a b same (c.fended q f x xs) le =
    let rest = right (core_levels f) (max (core_levels x) (clauses_levels xs)) n le in
    let g = same f (left (core_levels f) (max (core_levels x) (clauses_levels xs)) n le) in
    let h = same x (left (core_levels x) (clauses_levels xs) n rest) in
    let k = same-clauses n a b same xs (right (core_levels x) (clauses_levels xs) n rest) in
    λ i. ((pattern 2000).fits q && (g i && h i)) && k i

core-stands : (x : PlainCore) → core_levels x ≤ 0 → ⊥
core-stands (c.quoted d) h = none-fits 0 h
core-stands (c.variable l) h = none-fits 0 h
core-stands (c.primitive o) h = none-fits 0 h
core-stands (c.one_armed x y) h = none-fits (max (core_levels x) (core_levels y)) h
core-stands (c.two_armed x y z) h = none-fits (max (core_levels x) (max (core_levels y) (core_levels z))) h
core-stands (c.assignment l x) h = none-fits (core_levels x) h
core-stands (c.sequence xs) h = none-fits (cores_levels xs) h
core-stands (c.procedure n xs plain) h = none-fits (cases_levels xs) h
core-stands (c.letrec star xs x) h = none-fits (max (inits_levels xs) (core_levels x)) h
core-stands (c.call x xs) h = none-fits (max (core_levels x) (cores_levels xs)) h
core-stands (c.instance t s) h = none-fits 0 h
core-stands (c.matching x xs s) h = none-fits (max (core_levels x) (clauses_levels xs)) h

core-same : (room other : ℕ) (x : PlainCore) → core_levels x ≤ room → room ≤ other → (core room).fits x ≡ (core other).fits x
unfolding core core_level core_parts inits cases clauses
core-same zero other x h k = absurd (core-stands x h)
core-same (suc room) zero x h k = absurd (none-fits room k)
core-same (suc room) (suc other) (c.quoted d) h k = refl
core-same (suc room) (suc other) (c.variable l) h k = refl
core-same (suc room) (suc other) (c.primitive o) h k = refl
core-same (suc room) (suc other) (c.one_armed x y) h k =
    let f = down (max (core_levels x) (core_levels y)) room h in
    let g = down room other k in
    let a = core-same room other x (left (core_levels x) (core_levels y) room f) g in
    let b = core-same room other y (right (core_levels x) (core_levels y) room f) g in
    λ i. a i && (b i && true)
core-same (suc room) (suc other) (c.two_armed x y z) h k =
    let f = down (max (core_levels x) (max (core_levels y) (core_levels z))) room h in
    let g = down room other k in
    let rest = right (core_levels x) (max (core_levels y) (core_levels z)) room f in
    let a = core-same room other x (left (core_levels x) (max (core_levels y) (core_levels z)) room f) g in
    let b = core-same room other y (left (core_levels y) (core_levels z) room rest) g in
    let d = core-same room other z (right (core_levels y) (core_levels z) room rest) g in
    λ i. a i && (b i && d i)
core-same (suc room) (suc other) (c.assignment l x) h k =
    let a = core-same room other x (down (core_levels x) room h) (down room other k) in
    λ i. label.fits l && a i
core-same (suc room) (suc other) (c.sequence xs) h k =
    let g = down room other k in
    let a = same-cores room (core room).fits (core other).fits (λ y l. core-same room other y l g) xs (down (cores_levels xs) room h) in
    λ i. (u64.fits (length (core_list xs)) && a i) && are_two xs
core-same (suc room) (suc other) (c.procedure n xs plain) h k =
    let g = down room other k in
    let a = same-cases room (core room) (core other) (λ y l. core-same room other y l g) xs (down (cases_levels xs) room h) in
    λ i. (code_number.fits n && ((u64.fits (length (case_list xs)) && a i) && bool.fits plain)) && is_procedure (n, (xs, plain))
core-same (suc room) (suc other) (c.letrec star xs x) h k =
    let f = down (max (inits_levels xs) (core_levels x)) room h in
    let g = down room other k in
    let a = same-inits room (core room) (core other) (λ y l. core-same room other y l g) xs (left (inits_levels xs) (core_levels x) room f) in
    let b = core-same room other x (right (inits_levels xs) (core_levels x) room f) g in
    λ i. bool.fits star && ((u64.fits (length (init_list xs)) && a i) && b i)
core-same (suc room) (suc other) (c.call x xs) h k =
    let f = down (max (core_levels x) (cores_levels xs)) room h in
    let g = down room other k in
    let a = core-same room other x (left (core_levels x) (cores_levels xs) room f) g in
    let b = same-cores room (core room).fits (core other).fits (λ y l. core-same room other y l g) xs (right (core_levels x) (cores_levels xs) room f) in
    λ i. a i && (u64.fits (length (core_list xs)) && b i)
core-same (suc room) (suc other) (c.instance t s) h k = refl
core-same (suc room) (suc other) (c.matching x xs s) h k =
    let f = down (max (core_levels x) (clauses_levels xs)) room h in
    let g = down room other k in
    let a = core-same room other x (left (core_levels x) (clauses_levels xs) room f) g in
    let b = same-clauses room (core room) (core other) (λ y l. core-same room other y l g) xs (right (core_levels x) (clauses_levels xs) room f) in
    λ i. a i && ((u64.fits (length (clause_list xs)) && b i) && span.fits s)

pub core-is-bounded : CoreIsBounded
core-is-bounded = record { within = core-within; enough = core-same }
