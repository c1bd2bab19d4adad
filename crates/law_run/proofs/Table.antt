-- The table of names that a text is written with: each variable that a record of it binds has the name of its library, its symbol and its
-- index.
use Rattle.std.proofs.Common.{◌≡◌, ℕ, List, [], ◌∷◌, ◌++◌, map, Option, Some, None, refl, sym, ◌∙◌, ap, subst, inl, inr}
use Rattle.std.specs.Prelude.{slice_get}
use Rattle.std.specs.Map.{lookup}
use Rattle.base_data.proofs.ElementLemmas.{each-at, among-map}
use Rattle.base_data.specs.Elements.{Each, Among, Once}
use Rattle.base_data.specs.declared.name.Label.{Label}
use Rattle.core_language.specs.Labels.{same_label}
use Rattle.core_language.specs.declared.binding.Binding.{Binding}
use Rattle.core_language.specs.declared.binding.Binding.TheVariants as binding
use Rattle.core_language.specs.declared.binding.VarInfo.{VarInfo}
use Rattle.core_language.specs.declared.record.CompiledLibrary.{CompiledLibrary}
use Rattle.law_core.specs.Follows.{names_of, bound_labels, IsOwn}
use Rattle.core_output.specs.CoreText.{VariableNames}
use Rattle.core_output.specs.Naming.{with_index, with_name, with_names}
use Rattle.core_output.specs.Whole.{named_by, plan_names, all_names}
use Rattle.core_naming.specs.Generated.{generated_name}
use Rattle.core_plan.specs.Planned.{plan_of}
use Rattle.expand_standing.specs.Start.{or_skip, records_at}
use Rattle.law_text.specs.Text.{text_of}
use Rattle.law_run.proofs.Lists.{found-put, found-kept}

abbrev label_of : Label × Binding → Label
label_of b = b.0

-- One binding after another.

-- what isn't bound keeps its name
name-kept : (names : VariableNames) (m : Label) (l : Label) (b : Binding) → (m ≡ l → ⊥) → lookup (same_label m) (with_name names l b) ≡ lookup (same_label m) names
name-kept names m l (binding.Variable v) d = by v.index
  where
    by : (o : Option ℕ) → lookup (same_label m) (with_index names l v.symbol o) ≡ lookup (same_label m) names
    by None = refl
    by (Some n) = found-kept names l m (generated_name l.0.library v.symbol n) d
name-kept names m l (binding.PatternVariable level depth) d = refl
name-kept names m l (binding.Macro level expression) d = refl
name-kept names m l (binding.Core form) d = refl
name-kept names m l (binding.Primitive o) d = refl

names-kept : (bs : List (Label × Binding)) (names : VariableNames) (m : Label) → (Among (map label_of bs) m → ⊥) → lookup (same_label m) (with_names names bs) ≡ lookup (same_label m) names
names-kept [] names m d = refl
names-kept (b ∷ bs) names m d = names-kept bs (with_name names b.0 b.1) m (λ a. d (inr a)) ∙ name-kept names m b.0 b.1 (λ e. d (inl e))

name-put : (names : VariableNames) (l : Label) (v : VarInfo) (n : ℕ) → v.index ≡ Some n → lookup (same_label l) (with_name names l (binding.Variable v)) ≡ Some (generated_name l.0.library v.symbol n)
name-put names l v n e = ap (λ (o : Option ℕ). lookup (same_label l) (with_index names l v.symbol o)) e ∙ found-put names l (generated_name l.0.library v.symbol n)

names-put : (bs : List (Label × Binding)) (names : VariableNames) (l : Label) (v : VarInfo) (n : ℕ) → Once (map label_of bs) → Among bs (l, binding.Variable v) → v.index ≡ Some n
    → lookup (same_label l) (with_names names bs) ≡ Some (generated_name l.0.library v.symbol n)
names-put [] names l v n once a e = elim a [ ]
names-put (b ∷ bs) names l v n once (inl d) e =
    let here = ap label_of d in
    names-kept bs (with_name names b.0 b.1) l (λ a. once.0 (subst (Among (map label_of bs)) here a))
    ∙ subst (λ (x : Label × Binding). lookup (same_label l) (with_name names x.0 x.1) ≡ Some (generated_name l.0.library v.symbol n)) d (name-put names l v n e)
names-put (b ∷ bs) names l v n once (inr a) e = names-put bs (with_name names b.0 b.1) l v n once.1 a e

-- One record after another.

abbrev pub all_with : VariableNames → List CompiledLibrary → VariableNames
all_with names [] = names
all_with names (r ∷ rs) = all_with (with_names names r.bindings) rs

plan-all : (records : List CompiledLibrary) (ps : List ℕ) (names : VariableNames) → plan_names records names ps ≡ all_with names (records_at records ps)
plan-all records [] names = refl
plan-all records (p ∷ ps) names = by (slice_get records p) (λ more. plan-all records ps more)
  where
    by : (o : Option CompiledLibrary) → ((more : VariableNames) → plan_names records more ps ≡ all_with more (records_at records ps)) → plan_names records (named_by names o) ps ≡ all_with names (or_skip o (records_at records ps))
    by None rest = rest names
    by (Some r) rest = rest (with_names names r.bindings)

all-behind : (rs : List CompiledLibrary) (r : CompiledLibrary) (names : VariableNames) → all_with names (rs ++ r ∷ []) ≡ with_names (all_with names rs) r.bindings
all-behind [] r names = refl
all-behind (q ∷ rs) r names = all-behind rs r (with_names names q.bindings)

-- the names of a program's text are those of its records
pub names-of-text : (records : List CompiledLibrary) (program : CompiledLibrary) → all_names records (plan_of records program) program ≡ all_with [] (text_of records program)
names-of-text records program =
    ap (λ (ns : VariableNames). with_names ns program.bindings) (plan-all records (plan_of records program) []) ∙ sym (all-behind (records_at records (plan_of records program)) program [])

-- a label that none of them binds keeps its name
all-kept : (rs : List CompiledLibrary) (names : VariableNames) (l : Label) → Each (λ r. Each (λ (m : Label). IsOwn r m.0) (bound_labels r)) rs → (Among (names_of rs) l.0.library → ⊥)
    → lookup (same_label l) (all_with names rs) ≡ lookup (same_label l) names
all-kept [] names l own d = refl
all-kept (r ∷ rs) names l own d =
    all-kept rs (with_names names r.bindings) l own.1 (λ a. d (inr a))
    ∙ names-kept r.bindings names l (λ a. d (inl (each-at (λ (m : Label). IsOwn r m.0) (bound_labels r) l own.0 a)))

pub name-in : (rs : List CompiledLibrary) (names : VariableNames) (r : CompiledLibrary) (l : Label) (v : VarInfo) (n : ℕ) → Once (names_of rs) → Each (λ q. Each (λ (m : Label). IsOwn q m.0) (bound_labels q)) rs → Each (λ q. Once (bound_labels q)) rs
    → Among rs r → Among r.bindings (l, binding.Variable v) → v.index ≡ Some n → lookup (same_label l) (all_with names rs) ≡ Some (generated_name l.0.library v.symbol n)
name-in [] names r l v n apart own once a b e = elim a [ ]
name-in (q ∷ rs) names r l v n apart own once (inl d) b e =
    let here : Among q.bindings (l, binding.Variable v) = subst (λ (x : CompiledLibrary). Among x.bindings (l, binding.Variable v)) d b in
    let of : l.0.library ≡ q.name = each-at (λ (m : Label). IsOwn q m.0) (bound_labels q) l own.0 (among-map label_of q.bindings (l, binding.Variable v) here) in
    all-kept rs (with_names names q.bindings) l own.1 (λ a. apart.0 (subst (Among (names_of rs)) of a)) ∙ names-put q.bindings names l v n once.0 here e
name-in (q ∷ rs) names r l v n apart own once (inr a) b e = name-in rs (with_names names q.bindings) r l v n apart.1 own.1 once.1 a b e
