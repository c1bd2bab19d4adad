-- The text that a run writes is closed and bound once by the names in it.
use Rattle.std.proofs.Common.{◌≡◌, ℕ, List, [], ◌∷◌, ◌++◌, Option, Some, None, Result, Ok, Err, refl, sym, ◌∙◌, ap, subst, inl, inr}
use Rattle.std.specs.Prelude.{◌⊎◌, slice_get, unwrap_or}
use Rattle.std.specs.List.{flat_map}
use Rattle.std.specs.Map.{lookup}
use Rattle.base_data.proofs.ElementLemmas.{each-at, each-of, each-append, among-map}
use Rattle.base_data.specs.Elements.{Each, Among, Once}
use Rattle.base_data.specs.Gives.{◌>>=◌}
use Rattle.base_data.specs.declared.fault.Fault.{Fault}
use Rattle.base_data.specs.declared.library.LibName.{LibName}
use Rattle.base_data.specs.declared.library.LibName.TheVariants as library
use Rattle.base_data.specs.declared.name.Label.{Label}
use Rattle.core_language.specs.Labels.{same_label}
use Rattle.core_language.specs.declared.binding.Binding.{Binding}
use Rattle.core_language.specs.declared.binding.Binding.TheVariants as binding
use Rattle.core_language.specs.declared.binding.VarInfo.{VarInfo}
use Rattle.core_language.specs.declared.record.CompiledLibrary.{CompiledLibrary}
use Rattle.core_language.specs.declared.record.Line.{Line}
use Rattle.law_core.specs.Follows.{names_of, bound_labels, index_in, index_of, indices, run_variables, IsThere, IsOwn}
use Rattle.law_core.specs.Records.{defined, line_core, line_binders, run_binders, LinesClosed}
use Rattle.core_output.specs.CoreText.{VariableNames, name_of}
use Rattle.core_output.specs.Syntax.{Checked, written, lines_checked}
use Rattle.core_output.specs.Whole.{record_checked, plan_checked, all_names, all_text, core_text}
use Rattle.eval_code.specs.Codes.{Codes}
use Rattle.core_naming.specs.Generated.{generated_name}
use Rattle.law_expand.specs.Variables.{HasIndices}
use Rattle.law_expand.proofs.Behind.{each-mapped}
use Rattle.law_expand.proofs.Variables.{once-map}
use Rattle.run_library.specs.Loaded.{all_records}
use Rattle.load_files.specs.declared.found.Found.{Found}
use Rattle.load_files.specs.declared.found.Loading.{Loading}
use Rattle.law_names.specs.Variable.{IsNamed}
use Rattle.law_names.proofs.AnyName.{place_told}
use Rattle.core_plan.specs.Planned.{plan_of}
use Rattle.expand_standing.specs.Start.{or_skip, records_at}
use Rattle.law_run.specs.Run.{AllStand}
use Rattle.law_run.proofs.ClosedLemmas.{each_place, all_standing, runs_are_closed_once}
use Rattle.law_run.proofs.MadeLemmas.{all_made}
use Rattle.law_run.proofs.RunLemmas.{all_records_stand}
use Rattle.law_run.proofs.UserLemmas.{IsUser, user_at}
use Rattle.law_text.specs.Standing.{AreStanding}
use Rattle.law_text.specs.Text.{text_of, IsClosedOnce}
use Rattle.law_text.proofs.BoundOnce.{text-names-once}
use Rattle.law_text.proofs.Closed.{text-known}
use Rattle.law_text.proofs.Names.{same-record}
use Rattle.law_text.proofs.Words.{flat-among}
use Rattle.law_run.specs.Names.{names_for, NamesClosed, IsWrittenName, IsWrittenOnce}
use Rattle.law_run.specs.Written.{RunsAreWrittenOnce}
use Rattle.law_run.proofs.DerivedLines.{derived-bare}
use Rattle.law_run.proofs.Lists.{map-once, found-among}
use Rattle.law_run.proofs.NameText.{name_written}
use Rattle.law_run.proofs.Plain.{lines-plain, lines-closed}
use Rattle.law_run.proofs.Table.{names-of-text, name-in}
use Rattle.law_local.proofs.Part.{same_place}

-- What was checked.

first-gives : {B : Type 0} (r : Checked) (k : Result B Fault) (b : B) → (r >>= λ _. k) ≡ Ok b → (r ≡ written) × (k ≡ Ok b)
first-gives (Ok x) k b e = (refl, e)
first-gives (Err f) k b e = absurd (cc)

abbrev pub HasText : CompiledLibrary → Type 0
HasText r = lines_checked r.run ≡ written

plan-text : (records : List CompiledLibrary) (ps : List ℕ) → plan_checked records ps ≡ written → Each HasText (records_at records ps)
plan-text records [] e = tt
plan-text records (p ∷ ps) e = by (slice_get records p) (first-gives (record_checked (slice_get records p)) (plan_checked records ps) tt e) (λ k. plan-text records ps k)
  where
    by : (o : Option CompiledLibrary) → (record_checked o ≡ written) × (plan_checked records ps ≡ written) → (plan_checked records ps ≡ written → Each HasText (records_at records ps)) → Each HasText (or_skip o (records_at records ps))
    by None k rest = rest k.1
    by (Some r) k rest = (k.0, rest k.1)

pub text-checked : (records : List CompiledLibrary) (program : CompiledLibrary) (text : List ℕ) → core_text records (plan_of records program) program ≡ Ok text → Each HasText (text_of records program)
text-checked records program text e =
    let plan = plan_of records program in
    let whole : Result (List ℕ) Fault = Ok (all_text (all_names records plan program) records plan program) in
    let p = first-gives (plan_checked records plan) (lines_checked program.run >>= λ _. whole) text e in
    let q = first-gives (lines_checked program.run) whole text p.1 in
    each-append HasText (records_at records plan) (program ∷ []) (plan-text records plan p.0) (q.0, tt)

-- The records of a run.

user-named : (n : LibName) → IsUser n → IsNamed n
user-named library.Core h = elim h [ ]
user-named library.Derived h = elim h [ ]
user-named library.Prelude h = elim h [ ]
user-named library.Program h = elim h [ ]
user-named (library.User parts) h = h

pub record IsSound (r : CompiledLibrary) : Type 0 where
  pub indices : HasIndices r
  pub own : Each (λ (l : Label). IsOwn r l.0) (bound_labels r)
  pub named : (r.run ≡ []) ⊎ IsNamed r.name

pub all-sound : (found : Found) (s : Loading) (records : List CompiledLibrary) (program : CompiledLibrary) → ((i : ℕ) (file : List ℕ) (f : Found) → slice_get s.done i ≡ Some (file, f) → IsUser f.opened.form.name)
    → (h : AllStand found s records program) → h.derived.run ≡ [] → Each IsSound (records ++ program ∷ [])
all-sound found s records program users h bare =
    each-append IsSound records (program ∷ [])
    (subst (Each IsSound) (sym h.parts) (record { indices = h.first.indices; own = h.first.serves.own_bindings; named = inl bare }, each_place IsSound h.others here))
    (record { indices = h.last.indices; own = h.last.serves.own_bindings; named = inr (subst IsNamed (sym h.last.named) tt) }, tt)
  where
    here : (i : ℕ) (r : CompiledLibrary) → slice_get h.others i ≡ Some r → IsSound r
    here i r e =
        let x = same_place h.others s.done i r h.as_many e in
        let st = h.each i x.0.0 x.0.1 r x.1 e in
        record { indices = st.indices; own = st.serves.own_bindings; named = inr (subst IsNamed (sym st.named) (user-named x.0.1.opened.form.name (users i x.0.0 x.0.1 x.1))) }

-- a variable of a record, with its index
pub record IsIndexedIn (r : CompiledLibrary) (l : Label) : Type 0 where
  pub variable : VarInfo
  pub number : ℕ
  pub bound : Among r.bindings (l, binding.Variable variable)
  pub index : variable.index ≡ Some number
  pub told : index_of r l ≡ Some number

indexed-in : (r : CompiledLibrary) (l : Label) → IsThere (index_of r l) → IsIndexedIn r l
indexed-in r l h = by (lookup (same_label l) r.bindings) refl h
  where
    with-index : (v : VarInfo) → lookup (same_label l) r.bindings ≡ Some (binding.Variable v) → (o : Option ℕ) → v.index ≡ o → IsThere o → IsIndexedIn r l
    with-index v e None i k = elim k [ ]
    with-index v e (Some n) i k = record { variable = v; number = n; bound = found-among r.bindings l (binding.Variable v) e; index = i; told = ap index_in e ∙ i }

    by : (o : Option Binding) → lookup (same_label l) r.bindings ≡ o → IsThere (index_in o) → IsIndexedIn r l
    by None e k = elim k [ ]
    by (Some (binding.Variable v)) e k = with-index v e v.index refl k
    by (Some (binding.PatternVariable level depth)) e k = elim k [ ]
    by (Some (binding.Macro level expression)) e k = elim k [ ]
    by (Some (binding.Core form)) e k = elim k [ ]
    by (Some (binding.Primitive o)) e k = elim k [ ]

module _ (records : List CompiledLibrary) (program : CompiledLibrary) (standing : AreStanding records program) (sound : Each IsSound (records ++ program ∷ [])) (checked : Each HasText (text_of records program)) where
  abbrev T : List CompiledLibrary
  T = text_of records program

  abbrev names : VariableNames
  names = all_names records (plan_of records program) program

  pub text-sound : (r : CompiledLibrary) → Among T r → IsSound r
  text-sound r a = each-at IsSound (records ++ program ∷ []) r sound (text-known records program standing r a)

  names-once : Once (names_of T)
  names-once = text-names-once records program standing

  -- a binder of the text, and its name
  pub record IsBinder (l : Label) : Type 0 where
    pub holder : CompiledLibrary
    pub there : Among T holder
    pub variables : Among (run_variables holder) l
    pub indexed : IsIndexedIn holder l
    pub own : l.0.library ≡ holder.name
    pub named : IsNamed l.0.library
    pub called : lookup (same_label l) names ≡ Some (generated_name l.0.library indexed.variable.symbol indexed.number)

  pub binder : (l : Label) → Among (flat_map run_binders T) l → IsBinder l
  binder l a =
      let found = flat-among run_binders T l a in
      let r = found.0 in
      let s = text-sound r found.1 in
      let v = lines-plain r.run (each-at HasText T r checked found.1) l found.2 in
      let i = indexed-in r l (each-at IsThere (indices r) (index_of r l) s.indices.indexed (among-map (index_of r) (run_variables r) l v)) in
      let own : l.0.library ≡ r.name = each-at (λ (m : Label). IsOwn r m.0) (bound_labels r) l s.own (among-map (λ (b : Label × Binding). b.0) r.bindings (l, binding.Variable i.variable) i.bound) in
      record {
        holder = r;
        there = found.1;
        variables = v;
        indexed = i;
        own = own;
        named = subst IsNamed (sym own) (not-bare r s.named found.2);
        called = ap (λ (ns : VariableNames). lookup (same_label l) ns) (names-of-text records program)
            ∙ name-in T [] r l i.variable i.number names-once (each-of (λ q. Each (λ (m : Label). IsOwn q m.0) (bound_labels q)) T (λ q b. (text-sound q b).own)) (each-of (λ q. Once (bound_labels q)) T (λ q b. (text-sound q b).indices.bindings_once)) found.1 i.bound i.index;
      }
    where
      not-bare : (r : CompiledLibrary) → (r.run ≡ []) ⊎ IsNamed r.name → Among (run_binders r) l → IsNamed r.name
      not-bare r (inl e) b = absurd (subst (λ (xs : List Line). Among (flat_map line_binders xs) l) e b)
      not-bare r (inr n) b = n

  name-is : (l : Label) (x : IsBinder l) → name_of names l ≡ generated_name l.0.library x.indexed.variable.symbol x.indexed.number
  name-is l x = ap (λ (o : Option (List ℕ)). unwrap_or o []) x.called

  module _ (once : IsClosedOnce (text_of records program)) where
    same-name : (l m : Label) → Among (flat_map run_binders T) l → Among (flat_map run_binders T) m → name_of names l ≡ name_of names m → l ≡ m
    same-name l m a b e =
        let x = binder l a in
        let y = binder m b in
        let told = place_told l.0.library m.0.library x.indexed.variable.symbol y.indexed.variable.symbol x.indexed.number y.indexed.number x.named y.named (sym (name-is l x) ∙ e ∙ name-is m y) in
        let one : x.holder ≡ y.holder = same-record T names-once x.holder y.holder x.there y.there (sym x.own ∙ told.0 ∙ y.own) in
        let among : Among (run_variables x.holder) m = subst (λ (r : CompiledLibrary). Among (run_variables r) m) (sym one) y.variables in
        let index : index_of x.holder m ≡ Some y.indexed.number = subst (λ (r : CompiledLibrary). index_of r m ≡ Some y.indexed.number) (sym one) y.indexed.told in
        map-once (index_of x.holder) (run_variables x.holder) l m (text-sound x.holder x.there).indices.indexed_once x.variables among (x.indexed.told ∙ ap Some told.1 ∙ sym index)

    pub text-written : IsWrittenOnce names T
    text-written = record {
      named = each-mapped IsWrittenName (name_of names) (flat_map run_binders T)
          (each-of (λ l. IsWrittenName (name_of names l)) (flat_map run_binders T) (λ l a. let x = binder l a in subst IsWrittenName (sym (name-is l x)) (name_written l.0.library x.indexed.variable.symbol x.indexed.number)));
      closed = each-of (λ r. Each (λ x. NamesClosed names (names_for names (flat_map defined T)) (line_core x)) r.run) T
          (λ r a. lines-closed names (flat_map defined T) r.run (each-at HasText T r checked a) (each-at (LinesClosed (flat_map defined T)) T r once.closed a));
      bound_once = once-map (name_of names) (flat_map run_binders T) once.bound_once same-name;
    }

-- the record of the derived library comes first, and has no lines
pub first-bare : (prelude : Result Codes Fault) (found : Found) (s : Loading) (records : List CompiledLibrary) (program : CompiledLibrary) → all_records prelude s.done ≡ Ok records → (h : AllStand found s records program) → h.derived.run ≡ []
first-bare prelude found s records program e h =
    let made = all_made prelude s.done records e in
    let same : made.derived ∷ made.others ≡ h.derived ∷ h.others = sym made.parts ∙ h.parts in
    let is : made.derived ≡ h.derived = cc in
    subst (λ (r : CompiledLibrary). r.run ≡ []) is (derived-bare made.derived prelude made.made)

pub runs-written : RunsAreWrittenOnce
runs-written prelude files roots path found s records program text run e =
    let stand = all_records_stand prelude files roots path found s records program run in
    text-written records program (all_standing found s records program stand)
    (all-sound found s records program (user_at files roots path found s run.loaded) stand (first-bare prelude found s records program run.recorded stand)) (text-checked records program text e)
    (runs_are_closed_once prelude files roots path found s records program run)
