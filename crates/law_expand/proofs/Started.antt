-- The state that the expansion of a library begins with.
use Rattle.std.proofs.Common.{◌≡◌, ℕ, Bool, true, false, List, [], ◌∷◌, ◌++◌, map, Some, refl, sym, ◌∙◌, ap, subst, inl, inr, cond, if◌then◌else◌}
use Rattle.std.specs.Prelude.{◌⊎◌, filter}
use Rattle.std.specs.List.{flat_map}
use Rattle.base_data.proofs.ElementLemmas.{each-at, each-append, among-first, among-second, among-parts}
use Rattle.base_data.specs.Elements.{Each, Among}
use Rattle.base_data.specs.Same.{same_name_cases}
use Rattle.base_data.specs.Named.{Named}
use Rattle.base_data.specs.declared.imported_name.ImportedName.{ImportedName}
use Rattle.base_data.specs.declared.library.LibName.{LibName}
use Rattle.base_data.specs.declared.name.FrameNo.{FrameNo}
use Rattle.base_data.specs.declared.name.Label.{Label}
use Rattle.stx_tree.specs.declared.frame_row.FrameRow.{FrameRow}
use Rattle.stx_frames.specs.Rows.{Row}
use Rattle.stx_frames.specs.Scope.{same_frame, rows_at, row_in}
use Rattle.stx_frames.proofs.FrameLaws.{rows_at-adopted}
use Rattle.core_language.specs.Bindings.{bound_to}
use Rattle.core_language.specs.Labels.{same_label}
use Rattle.core_language.specs.declared.binding.Binding.{Binding}
use Rattle.core_language.specs.declared.binding.Binding.TheVariants as binding
use Rattle.core_language.specs.declared.record.CompiledLibrary.{CompiledLibrary}
use Rattle.law_core.specs.Records.{defined}
use Rattle.law_core.specs.Follows.{IsOwn, IsRecorded, names_of, bound_labels, top_label, tops}
use Rattle.eval_code.specs.Codes.{Codes}
use Rattle.core_records.specs.Frame.{core_row, rows_for, introduced_numbers, record_frame}
use Rattle.expand_standing.specs.Start.{bindings_of, rows_of, first_frame, import_row, started}
use Rattle.law_expand.specs.Ready.{IsReady}
use Rattle.law_expand.specs.Serves.{IsThere, IsLabelThere, AllServe}
use Rattle.law_expand.specs.States.{IsForeign, Sound, IndicesApart}
use Rattle.law_expand.proofs.Fresh.{each-map}

-- a binding of another library, whose variables of the top are defined
abbrev pub Told : LibName → List Label → Label × Binding → Type 0
Told own given (l, binding.Variable v) = IsForeign own l.0 × (v.top ≡ true → Among given l)
Told own given (l, binding.PatternVariable level depth) = IsForeign own l.0
Told own given (l, binding.Macro level expression) = IsForeign own l.0
Told own given (l, binding.Core form) = ⊥
Told own given (l, binding.Primitive o) = ⊥

pub names-append : (rs : List CompiledLibrary) (r : CompiledLibrary) → names_of (rs ++ r ∷ []) ≡ names_of rs ++ r.name ∷ []
names-append [] r = refl
names-append (x ∷ rs) r = ap (λ ns. x.name ∷ ns) (names-append rs r)

-- what holds of the labels of all rows holds of those of one frame
pub rows-hold : (P : Label → Type 0) (f : FrameNo) (rows : List FrameRow) → Each (λ (r : FrameRow). P r.label) rows → Each (λ (r : Row). P r.label) (map row_in (filter (λ r. same_frame f r.frame) rows))
rows-hold P f [] h = tt
rows-hold P f (r ∷ rows) h = by (same_frame f r.frame) (rows-hold P f rows h.1)
  where
    by : (b : Bool) → Each (λ (x : Row). P x.label) (map row_in (filter (λ x. same_frame f x.frame) rows))
        → Each (λ (x : Row). P x.label) (map row_in (cond b (r ∷ filter (λ x. same_frame f x.frame) rows) (filter (λ x. same_frame f x.frame) rows)))
    by true k = (h.0, k)
    by false k = k

-- the labels that records bind and define
module _ (own : LibName) (given : List Label) where
  tops-told : (bs : List (Label × Binding)) → Each IsRecorded bs → ((l : Label) → Among (flat_map top_label bs) l → Among given l)
      → Each (λ (l : Label). IsForeign own l.0) (map (λ (b : Label × Binding). b.0) bs) → Each (Told own given) bs
  tops-told [] k t f = tt
  tops-told ((l, binding.Variable v) ∷ bs) k t f = (
    (f.0, (λ e. t l (among-first (if v.top then l ∷ [] else []) (flat_map top_label bs) l (subst (λ b. Among (if b then l ∷ [] else []) l) (sym e) (inl refl))))),
    tops-told bs k.1 (λ m a. t m (among-second (if v.top then l ∷ [] else []) (flat_map top_label bs) m a)) f.1,
  )
  tops-told ((l, binding.PatternVariable level depth) ∷ bs) k t f = (f.0, tops-told bs k.1 t f.1)
  tops-told ((l, binding.Macro level expression) ∷ bs) k t f = (f.0, tops-told bs k.1 t f.1)
  tops-told ((l, binding.Core form) ∷ bs) k t f = elim k.0 [ ]
  tops-told ((l, binding.Primitive o) ∷ bs) k t f = elim k.0 [ ]

  -- behind records that don't have this name, those that follow bind what is told
  bindings-told : (earlier rs : List CompiledLibrary) → AllServe earlier rs → (Among (names_of rs) own → ⊥) → ((l : Label) → Among (flat_map defined rs) l → Among given l) → Each (Told own given) (bindings_of rs)
  bindings-told earlier [] h new w = tt
  bindings-told earlier (r ∷ rs) h new w = each-append (Told own given) r.bindings (bindings_of rs)
      (tops-told r.bindings h.0.kinds (λ l a. w l (among-first (defined r) (flat_map defined rs) l (each-at (Among (defined r)) (tops r) l h.0.tops_defined a)))
      (each-map (λ (l : Label). IsOwn r l.0) (λ (l : Label). IsForeign own l.0) (bound_labels r) h.0.own_bindings (λ l e e'. new (inl (sym e' ∙ e)))))
      (bindings-told (earlier ++ r ∷ []) rs h.1 (λ a. new (inr a)) (λ l a. w l (among-second (defined r) (flat_map defined rs) l a)))

  -- what a label is bound to is told
  bound-told : (bs : List (Label × Binding)) (l : Label) (b : Binding) → Each (Told own given) bs → bound_to bs l ≡ Some b → Told own given (l, b)
  bound-told [] l b h e = absurd (cc)
  bound-told (p ∷ bs) l b h e = by (same_label l p.0) refl (bound-told bs l b h.1) e
    where
      by : (t : Bool) → same_label l p.0 ≡ t → (bound_to bs l ≡ Some b → Told own given (l, b)) → (if t then Some p.1 else bound_to bs l) ≡ Some b → Told own given (l, b)
      by true is later k =
          let same : p.0 ≡ l = sym (ap (λ (n : Named). let y : Label = record { 0 = n } in y) ((same_name_cases l.0 p.0.0).0 is)) in
          let bound : p.1 ≡ b = cc in
          subst (λ (x : Binding). Told own given (l, x)) bound (subst (λ (m : Label). Told own given (m, p.1)) same h.0)
      by false is later k = later k

-- What the library begins with.

-- what is bound is told
started-told : (own : LibName) (records : List CompiledLibrary) (imports : List ImportedName) (codes : Codes) → IsReady own records
    → (l : Label) (b : Binding) → bound_to (started own records imports codes).bindings l ≡ Some b → Told own (flat_map defined records) (l, b)
unfolding started
started-told own records imports codes h l b e =
    let given = flat_map defined records in
    bound-told own given (bindings_of records) l b (bindings-told own given [] records h.earlier h.new (λ m a. a)) e

told-foreign : (own : LibName) (given : List Label) (l : Label) (b : Binding) → Told own given (l, b) → IsForeign own l.0
told-foreign own given l (binding.Variable v) h = h.0
told-foreign own given l (binding.PatternVariable level depth) h = h
told-foreign own given l (binding.Macro level expression) h = h
told-foreign own given l (binding.Core form) h = elim h [ ]
told-foreign own given l (binding.Primitive o) h = elim h [ ]

pub started-foreign : (own : LibName) (records : List CompiledLibrary) (imports : List ImportedName) (codes : Codes) → IsReady own records
    → (l : Label) (b : Binding) → bound_to (started own records imports codes).bindings l ≡ Some b → IsForeign own l.0
started-foreign own records imports codes h l b e = told-foreign own (flat_map defined records) l b (started-told own records imports codes h l b e)

pub started-sound : (own : LibName) (records : List CompiledLibrary) (imports : List ImportedName) (codes : Codes) → IsReady own records → Sound own (flat_map defined records) (started own records imports codes)
unfolding started
started-sound own records imports codes h = record {
  here = refl;
  next = refl;
  defined = λ l v o e. (started-told own records imports codes h l (binding.Variable v) e).1;
  primitives = λ l o e. absurd (started-told own records imports codes h l (binding.Primitive o) e);
  in_scope = tt;
  numbered = λ l b o e. absurd (started-foreign own records imports codes h l b e o);
}

pub started-scope : (own : LibName) (records : List CompiledLibrary) (imports : List ImportedName) (codes : Codes) → (started own records imports codes).scope ≡ []
unfolding started
started-scope own records imports codes = refl

-- there is no variable of the library yet
pub started-indices : (own : LibName) (records : List CompiledLibrary) (imports : List ImportedName) (codes : Codes) → IsReady own records → IndicesApart own (started own records imports codes)
started-indices own records imports codes h = record {
  below = λ l v i o e k. absurd (started-foreign own records imports codes h l (binding.Variable v) e o);
  apart = λ l m v w i o q e d k r. absurd (started-foreign own records imports codes h l (binding.Variable v) e o);
}

-- Where what it imports is there.

-- the rows of records that serve
rows-there : (all earlier rs : List CompiledLibrary) → AllServe earlier rs → ((k : LibName) → Among (names_of earlier) k → Among (names_of all) k) → ((k : LibName) → Among (names_of rs) k → Among (names_of all) k)
    → Each (λ (r : FrameRow). IsThere all r.label.0.library) (rows_of rs)
rows-there all earlier [] h before these = tt
rows-there all earlier (r ∷ rs) h before these = each-append (λ (f : FrameRow). IsThere all f.label.0.library) r.frames (rows_of rs)
    (there r.frames h.0.rows)
    (rows-there all (earlier ++ r ∷ []) rs h.1 (λ k a. both k (among-parts (names_of earlier) (r.name ∷ []) k (subst (λ ns. Among ns k) (names-append earlier r) a))) (λ k a. these k (inr a)))
  where
    there-so : (l : Label) → IsLabelThere earlier r l → IsThere all l.0.library
    there-so l (inl mine) = inl (these l.0.library (inl mine))
    there-so l (inr (inl a)) = inl (before l.0.library a)
    there-so l (inr (inr i)) = inr i

    there : (fs : List FrameRow) → Each (IsLabelThere earlier r) (map (λ (f : FrameRow). f.label) fs) → Each (λ (f : FrameRow). IsThere all f.label.0.library) fs
    there [] k = tt
    there (f ∷ fs) k = (there-so f.label k.0, there fs k.1)

    both : (k : LibName) → Among (names_of earlier) k ⊎ Among (r.name ∷ []) k → Among (names_of all) k
    both k (inl a) = before k a
    both k (inr (inl e)) = these k (inl e)
    both k (inr (inr a)) = elim a [ ]

imports-there : (records : List CompiledLibrary) (f : FrameNo) (es : List ImportedName) → Each (λ (e : ImportedName). IsThere records e.label.0.library) es → Each (λ (r : FrameRow). IsThere records r.label.0.library) (map (import_row f) es)
imports-there records f [] h = tt
imports-there records f (e ∷ es) h = (h.0, imports-there records f es h.1)

-- the names of the implementation are there everywhere
numbers-there : (records : List CompiledLibrary) (ns : List ℕ) → Each (λ (r : FrameRow). IsThere records r.label.0.library) (map core_row ns)
numbers-there records [] = tt
numbers-there records (n ∷ ns) = (inr (inl refl), numbers-there records ns)

introduced-there : (records : List CompiledLibrary) → Each (λ (r : FrameRow). IsThere records r.label.0.library) record_frame
unfolding record_frame rows_for
introduced-there records = numbers-there records introduced_numbers

pub started-there : (own : LibName) (records : List CompiledLibrary) (imports : List ImportedName) (codes : Codes) → AllServe [] records → Each (λ (e : ImportedName). IsThere records e.label.0.library) imports
    → (f : FrameNo) → Each (λ (r : Row). IsThere records r.label.0.library) (rows_at f (started own records imports codes).frames)
unfolding started
started-there own records imports codes h there f =
    let imported = map (import_row (first_frame own)) imports in
    let rows = rows_of records ++ (record_frame ++ imported) in
    subst (Each (λ (r : Row). IsThere records r.label.0.library)) (sym (rows_at-adopted [] f rows))
    (rows-hold (λ l. IsThere records l.0.library) f rows (each-append (λ (r : FrameRow). IsThere records r.label.0.library) (rows_of records) (record_frame ++ imported)
    (rows-there records [] records h (λ k a. elim a [ ]) (λ k a. a))
    (each-append (λ (r : FrameRow). IsThere records r.label.0.library) record_frame imported (introduced-there records) (imports-there records (first_frame own) imports there))))
