-- What records tell that stand behind one another.
use Rattle.std.proofs.Common.{◌≡◌, ℕ, Bool, true, false, List, [], ◌∷◌, ◌++◌, map, Some, refl, sym, ap, subst, ◌∙◌, inl, inr}
use Rattle.std.specs.Prelude.{◌⊎◌}
use Rattle.std.specs.List.{flat_map}
use Rattle.base_data.proofs.ElementLemmas.{each-at, among-first, among-second, among-parts, among-flat, once-second}
use Rattle.base_data.specs.Elements.{Among, Once}
use Rattle.base_data.specs.declared.library.LibName.{LibName}
use Rattle.base_data.specs.declared.name.CodeNo.{CodeNo}
use Rattle.base_data.specs.declared.name.Label.{Label}
use Rattle.core_language.specs.Core.{PlainCore}
use Rattle.core_language.specs.References.{binders}
use Rattle.core_language.specs.declared.binding.Binding.{Binding}
use Rattle.core_language.specs.declared.binding.Binding.TheVariants as binding
use Rattle.core_language.specs.declared.record.CompiledLibrary.{CompiledLibrary}
use Rattle.core_language.specs.declared.record.Line.{Line}
use Rattle.law_core.specs.Parts.{code_numbers}
use Rattle.law_core.specs.Scope.{Closed}
use Rattle.law_core.specs.WellMade.{IsWellMade}
use Rattle.law_core.specs.Records.{line_core, line_labels, line_binders, defined, run_binders}
use Rattle.law_core.specs.Follows.{names_of, bound_labels, keyword_of, keywords, line_cores, all_cores, all_binders, all_numbers, IsOwn}
use Rattle.eval_stage.specs.Libraries.{has_library}
use Rattle.law_stage.specs.Reached.{RefersBack}
use Rattle.law_whole.proofs.Among.{once_apart}
use Rattle.law_stuck.specs.Behind.{IsBehind, AllBehind, IsKeywordOf, IsKeywordExpression}

-- Lists.

-- where something of a list of lists lies
pub record In {A B : Type 0} (f : A → List B) (xs : List A) (y : B) : Type 0 where
  pub at : A
  pub among : Among xs at
  pub there : Among (f at) y

pub in_flat : {A B : Type 0} (f : A → List B) (xs : List A) (y : B) → Among (flat_map f xs) y → In f xs y
in_flat f [] y a = absurd a
in_flat f (x ∷ xs) y a = by (among-parts (f x) (flat_map f xs) y a) (in_flat f xs y)
  where
    by : Among (f x) y ⊎ Among (flat_map f xs) y → (Among (flat_map f xs) y → In f xs y) → In f (x ∷ xs) y
    by (inl b) rest = record { at = x; among = inl refl; there = b }
    by (inr b) rest = let k = rest b in record { at = k.at; among = inr k.among; there = k.there }

-- what stands once in a list of lists stands in one of them
pub one_place : {A B : Type 0} (f : A → List B) (xs : List A) (x z : A) (y : B) → Once (flat_map f xs) → Among xs x → Among xs z → Among (f x) y → Among (f z) y → x ≡ z
one_place f [] x z y h a b p q = absurd a
one_place f (w ∷ xs) x z y h (inl e) (inl d) p q = e ∙ sym d
one_place f (w ∷ xs) x z y h (inl e) (inr b) p q =
    absurd (once_apart (f w) (flat_map f xs) y h (subst (λ v. Among (f v) y) e p) (among-flat f xs z y b q))
one_place f (w ∷ xs) x z y h (inr a) (inl d) p q =
    absurd (once_apart (f w) (flat_map f xs) y h (subst (λ v. Among (f v) y) d q) (among-flat f xs x y a p))
one_place f (w ∷ xs) x z y h (inr a) (inr b) p q = one_place f xs x z y (once-second (f w) (flat_map f xs) h) a b p q

-- Names of records.

pub name_of : (rs : List CompiledLibrary) (r : CompiledLibrary) → Among rs r → Among (names_of rs) r.name
name_of [] r a = absurd a
name_of (q ∷ rs) r (inl e) = inl (ap (λ (x : CompiledLibrary). x.name) e)
name_of (q ∷ rs) r (inr a) = inr (name_of rs r a)

names_first : (xs ys : List CompiledLibrary) (k : LibName) → Among (names_of xs) k → Among (names_of (xs ++ ys)) k
names_first [] ys k a = absurd a
names_first (x ∷ xs) ys k (inl e) = inl e
names_first (x ∷ xs) ys k (inr a) = inr (names_first xs ys k a)

names_last : (xs : List CompiledLibrary) (r : CompiledLibrary) → Among (names_of (xs ++ r ∷ [])) r.name
names_last [] r = inl refl
names_last (x ∷ xs) r = inr (names_last xs r)

-- no record has the name of one before it
pub no_earlier : (before rs : List CompiledLibrary) (q : CompiledLibrary) → AllBehind before rs → Among rs q → Among (names_of before) q.name → ⊥
no_earlier before [] q h a n = absurd a
no_earlier before (r ∷ rs) q h (inl e) n = h.0.new (subst (λ (x : CompiledLibrary). Among (names_of before) x.name) e n)
no_earlier before (r ∷ rs) q h (inr a) n = no_earlier (before ++ r ∷ []) rs q h.1 a (names_first before (r ∷ []) q.name n)

-- nor do two of them have one
pub same_record : (before rs : List CompiledLibrary) (q r : CompiledLibrary) → AllBehind before rs → Among rs q → Among rs r → q.name ≡ r.name → q ≡ r
same_record before [] q r h a b e = absurd a
same_record before (x ∷ rs) q r h (inl a) (inl b) e = a ∙ sym b
same_record before (x ∷ rs) q r h (inl a) (inr b) e =
    absurd (no_earlier (before ++ x ∷ []) rs r h.1 b (subst (Among (names_of (before ++ x ∷ []))) (sym (ap (λ (y : CompiledLibrary). y.name) a) ∙ e) (names_last before x)))
same_record before (x ∷ rs) q r h (inr a) (inl b) e =
    absurd (no_earlier (before ++ x ∷ []) rs q h.1 a (subst (Among (names_of (before ++ x ∷ []))) (sym (ap (λ (y : CompiledLibrary). y.name) b) ∙ sym e) (names_last before x)))
same_record before (x ∷ rs) q r h (inr a) (inr b) e = same_record (before ++ x ∷ []) rs q r h.1 a b e

-- no record refers to itself or to one behind it
pub refers_back : (before rs : List CompiledLibrary) → AllBehind before rs → RefersBack rs
refers_back before [] h = tt
refers_back before (r ∷ rs) h = ((λ q a. by q a (has_library r.refs q.name) refl), refers_back (before ++ r ∷ []) rs h.1)
  where
    by : (q : CompiledLibrary) → Among (r ∷ rs) q → (b : Bool) → has_library r.refs q.name ≡ b → b ≡ false
    by q a true e = absurd (no_earlier before (r ∷ rs) q h a (h.0.known q.name e))
    by q a false e = refl

-- One of the records, and those that it stands behind.
pub record Stands (before rs : List CompiledLibrary) (r : CompiledLibrary) : Type 0 where
  pub earlier : List CompiledLibrary
  pub behind : IsBehind earlier r
  pub there : (q : CompiledLibrary) → Among earlier q → Among before q ⊎ Among rs q

pub stands : (before rs : List CompiledLibrary) (r : CompiledLibrary) → AllBehind before rs → Among rs r → Stands before rs r
stands before [] r h a = absurd a
stands before (x ∷ rs) r h (inl e) = record { earlier = before; behind = subst (IsBehind before) (sym e) h.0; there = λ q b. inl b }
stands before (x ∷ rs) r h (inr a) =
    let k = stands (before ++ x ∷ []) rs r h.1 a in
    record { earlier = k.earlier; behind = k.behind; there = λ q b. by q (k.there q b) }
  where
    last : (q : CompiledLibrary) → Among before q ⊎ Among (x ∷ []) q → Among before q ⊎ Among (x ∷ rs) q
    last q (inl b) = inl b
    last q (inr (inl e)) = inr (inl e)
    last q (inr (inr b)) = absurd b

    by : (q : CompiledLibrary) → Among (before ++ x ∷ []) q ⊎ Among rs q → Among before q ⊎ Among (x ∷ rs) q
    by q (inl b) = last q (among-parts before (x ∷ []) q b)
    by q (inr b) = inr (inr b)

-- Labels and codes of one record.

module _ (earlier : List CompiledLibrary) (r : CompiledLibrary) (h : IsBehind earlier r) where
  label_bound : (xs : List Line) (l : Label) → Among (flat_map line_labels xs) l → Among (flat_map line_binders xs) l
  label_bound [] l a = absurd a
  label_bound (x ∷ xs) l a = by (among-parts (line_labels x) (flat_map line_labels xs) l a) (label_bound xs l)
    where
      by : Among (line_labels x) l ⊎ Among (flat_map line_labels xs) l → (Among (flat_map line_labels xs) l → Among (flat_map line_binders xs) l) → Among (line_binders x ++ flat_map line_binders xs) l
      by (inl b) rest = among-first (line_binders x) (flat_map line_binders xs) l (among-first (line_labels x) (binders (line_core x)) l b)
      by (inr b) rest = among-second (line_binders x) (flat_map line_binders xs) l (rest b)

  -- what it defines is named by its library
  pub defined_here : (l : Label) → Among (defined r) l → IsOwn r l.0
  defined_here l a =
      each-at (λ (m : Label). IsOwn r m.0) (all_binders r) l h.bound_here (among-first (run_binders r) (flat_map binders (keywords r)) l (label_bound r.run l a))

  -- so is what a line binds
  pub line_bound : (x : Line) (l : Label) → Among r.run x → Among (binders (line_core x)) l → IsOwn r l.0
  line_bound x l a b =
      each-at (λ (m : Label). IsOwn r m.0) (all_binders r) l h.bound_here
      (among-first (run_binders r) (flat_map binders (keywords r)) l (among-flat line_binders r.run x l a (among-second (line_labels x) (binders (line_core x)) l b)))

  -- and what a keyword binds
  pub keyword_bound : (c : PlainCore) (l : Label) → Among (keywords r) c → Among (binders c) l → IsOwn r l.0
  keyword_bound c l a b =
      each-at (λ (m : Label). IsOwn r m.0) (all_binders r) l h.bound_here (among-second (run_binders r) (flat_map binders (keywords r)) l (among-flat binders (keywords r) c l a b))

  -- each of its codes is named by its library
  pub numbered_here : (c : PlainCore) (n : CodeNo) → Among (all_cores r) c → Among (code_numbers c) n → IsOwn r n.0
  numbered_here c n a b = each-at (λ (m : CodeNo). IsOwn r m.0) (all_numbers r) n h.numbered_here (among-flat code_numbers (all_cores r) c n a b)

-- the expression of a keyword is among them
pub keyword_there : (r : CompiledLibrary) (l : Label) (level : ℕ) (c : PlainCore) → Among r.bindings (l, binding.Macro level (Some c)) → Among (keywords r) c
keyword_there r l level c a = among-flat keyword_of r.bindings (l, binding.Macro level (Some c)) c a (inl refl)

pub core_there : (r : CompiledLibrary) (c : PlainCore) → Among (keywords r) c → Among (all_cores r) c
core_there r c a = among-second (line_cores r) (keywords r) c a

-- What records define.

pub record DefinedIn (rs : List CompiledLibrary) (l : Label) : Type 0 where
  pub definer : CompiledLibrary
  pub among : Among rs definer
  pub defines : Among (defined definer) l

pub defined_in : (rs : List CompiledLibrary) (l : Label) → Among (flat_map defined rs) l → DefinedIn rs l
defined_in rs l a = let k = in_flat defined rs l a in record { definer = k.at; among = k.among; defines = k.there }

-- An expression whose free variables these records define.
pub record Free (rs : List CompiledLibrary) (c : PlainCore) : Type 0 where
  pub given : List Label
  pub from : (l : Label) → Among given l → DefinedIn rs l
  pub closed : Closed given c
  pub well_made : IsWellMade [] c
  pub apart : (l : Label) → Among given l → Among (binders c) l → ⊥

pub expression_free : (rs : List CompiledLibrary) (c : PlainCore) → IsKeywordExpression rs c → Free rs c
expression_free rs c h = record {
  given = flat_map defined rs;
  from = defined_in rs;
  closed = h.closed;
  well_made = h.well_made;
  apart = λ l a b. each-at (λ (m : Label). Among (flat_map defined rs) m → ⊥) (binders c) l h.apart b a;
}

-- a label that is bound in a record isn't defined before it
not_before : (rs earlier : List CompiledLibrary) (r : CompiledLibrary) → AllBehind [] rs → IsBehind earlier r → ((q : CompiledLibrary) → Among earlier q → Among rs q) → (l : Label) → IsOwn r l.0 → Among (flat_map defined earlier) l → ⊥
not_before rs earlier r all h there l own a =
    let d = defined_in earlier l a in
    let s = stands [] rs d.definer all (there d.definer d.among) in
    h.new (subst (Among (names_of earlier)) (sym (defined_here s.earlier d.definer s.behind l d.defines) ∙ own) (name_of earlier d.definer d.among))

pub keyword_free : (rs : List CompiledLibrary) (l : Label) (c : PlainCore) → AllBehind [] rs → IsKeywordOf rs l c → Free rs c
keyword_free rs l c all k = record {
  given = flat_map defined s.earlier;
  from = λ m a. let d = defined_in s.earlier m a in record { definer = d.definer; among = there d.definer d.among; defines = d.defines };
  closed = each-at (Closed (flat_map defined s.earlier)) (keywords k.keeper) c s.behind.transformers at;
  well_made = each-at (IsWellMade []) (all_cores k.keeper) c s.behind.well_made (core_there k.keeper c at);
  apart = λ m a b. not_before rs s.earlier k.keeper all s.behind there m (keyword_bound s.earlier k.keeper s.behind c m at b) a;
}
  where
    s : Stands [] rs k.keeper
    s = stands [] rs k.keeper all k.among

    at : Among (keywords k.keeper) c
    at = keyword_there k.keeper l k.level c k.bound

    by : (q : CompiledLibrary) → Among [] q ⊎ Among rs q → Among rs q
    by q (inl a) = absurd a
    by q (inr a) = a

    there : (q : CompiledLibrary) → Among s.earlier q → Among rs q
    there q a = by q (s.there q a)

-- what a line binds isn't defined before its record
pub line_apart : (rs earlier : List CompiledLibrary) (r : CompiledLibrary) → AllBehind [] rs → IsBehind earlier r → ((q : CompiledLibrary) → Among earlier q → Among rs q) → (x : Line) → Among r.run x
    → (l : Label) → Among (flat_map defined earlier) l → Among (binders (line_core x)) l → ⊥
line_apart rs earlier r all h there x a l b c = not_before rs earlier r all h there l (line_bound earlier r h x l a c) b

-- The label of a keyword is named by its library.

label_there : (bs : List (Label × Binding)) (b : Label × Binding) → Among bs b → Among (map (λ (x : Label × Binding). x.0) bs) b.0
label_there [] b a = absurd a
label_there (x ∷ bs) b (inl e) = inl (ap (λ (y : Label × Binding). y.0) e)
label_there (x ∷ bs) b (inr a) = inr (label_there bs b a)

pub keyword_label : (rs : List CompiledLibrary) (l : Label) (c : PlainCore) → AllBehind [] rs → IsKeywordOf rs l c → Among (names_of rs) l.0.library
keyword_label rs l c all k =
    let s = stands [] rs k.keeper all k.among in
    let own = each-at (λ (m : Label). IsOwn k.keeper m.0) (bound_labels k.keeper) l s.behind.bindings_here (label_there k.keeper.bindings (l, binding.Macro k.level (Some c)) k.bound) in
    subst (Among (names_of rs)) (sym own) (name_of rs k.keeper k.among)
