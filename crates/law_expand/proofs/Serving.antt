-- Records that serve those behind them.
use Rattle.std.proofs.Common.{◌≡◌, ℕ, zero, suc, Bool, true, false, List, [], ◌∷◌, ◌++◌, map, Option, None, Some, ◌<◌, refl, sym, ◌∙◌, ap, subst, inl, inr, if◌then◌else◌}
use Rattle.std.specs.Prelude.{◌⊎◌}
use Rattle.std.specs.List.{flat_map}
use Rattle.std.proofs.lemmas.Grind.{flat_map-append}
use Rattle.base_data.proofs.ElementLemmas.{each-at, each-of, each-append, among-first, among-second, among-parts}
use Rattle.base_data.specs.Elements.{Each, Among}
use Rattle.base_data.specs.declared.imported_name.ImportedName.{ImportedName}
use Rattle.base_data.specs.declared.library.LibName.{LibName}
use Rattle.base_data.specs.declared.name.FrameNo.{FrameNo}
use Rattle.base_data.specs.declared.name.Label.{Label}
use Rattle.stx_tree.specs.declared.frame_row.FrameRow.{FrameRow}
use Rattle.stx_frames.specs.Listed.{rows_in, AreOrdered}
use Rattle.stx_frames.specs.Rows.{Row}
use Rattle.stx_frames.specs.Scope.{rows_at}
use Rattle.stx_frames.proofs.ListedLaws.{ordered_rows_in}
use Rattle.core_language.specs.Bindings.{bound_to}
use Rattle.core_language.specs.declared.binding.Binding.{Binding}
use Rattle.core_language.specs.declared.binding.Binding.TheVariants as binding
use Rattle.core_language.specs.declared.binding.VarInfo.{VarInfo}
use Rattle.core_language.specs.declared.record.CompiledLibrary.{CompiledLibrary}
use Rattle.law_core.specs.Records.{defined}
use Rattle.law_core.specs.Follows.{IsOwn, IsRecorded, IsKnown, Follows, names_of, bound_labels, row_labels, export_labels, top_label}
use Rattle.law_core.specs.Following.{AllFollow}
use Rattle.core_language.specs.Core.{PlainCore}
use Rattle.eval_code.specs.Codes.{Codes}
use Rattle.expand_standing.specs.Own.{completed, row_at, own_label, own_row, own_below, own_bindings}
use Rattle.expand_standing.specs.Start.{started}
use Rattle.expand_standing.specs.State.{State}
use Rattle.law_expand.specs.Ready.{IsReady}
use Rattle.law_expand.specs.Serves.{IsThere, IsLabelThere, Serves, AllServe}
use Rattle.law_expand.specs.Serving.{FollowersServe, RecordsServe}
use Rattle.law_expand.specs.States.{IsOwnOrEllipsis, IsAdded, IsKept, IsMacro}
use Rattle.law_expand.proofs.Fresh.{each-map}
use Rattle.law_expand.proofs.Shown.{IsShown, row-shown}
use Rattle.law_expand.proofs.Started.{names-append, started-foreign, started-there}
use Rattle.law_expand.proofs.Records.{Runs, record-runs}

-- Records that follow one another.

-- the labels that earlier records bind are named by them
abbrev AreNamed : List CompiledLibrary → Type 0
AreNamed rs = (l : Label) → Among (flat_map bound_labels rs) l → Among (names_of rs) l.0.library

follower-serves : (earlier : List CompiledLibrary) (r : CompiledLibrary) → AreNamed earlier → Follows r earlier → Serves earlier r
follower-serves earlier r named h = record {
  own_bindings = h.own.own_bindings;
  kinds = h.bindings.kinds;
  tops_defined = h.bindings.tops_defined;
  own_frames = h.own.own_frames;
  rows = each-map (IsKnown r earlier) (IsLabelThere earlier r) (row_labels r) h.labels.rows known;
  exports = each-map (IsKnown r earlier) (IsLabelThere earlier r) (export_labels r) h.labels.exports known;
}
  where
    bound : (l : Label) → Among (bound_labels r) l ⊎ Among (flat_map bound_labels earlier) l → IsLabelThere earlier r l
    bound l (inl a) = inl (each-at (λ (m : Label). IsOwn r m.0) (bound_labels r) l h.own.own_bindings a)
    bound l (inr a) = inr (inl (named l a))

    known : (l : Label) → IsKnown r earlier l → IsLabelThere earlier r l
    known l (inl a) = bound l (among-parts (bound_labels r) (flat_map bound_labels earlier) l a)
    known l (inr g) = inr (inr (inl g.0))

named-more : (earlier : List CompiledLibrary) (r : CompiledLibrary) → AreNamed earlier → Each (λ (l : Label). IsOwn r l.0) (bound_labels r) → AreNamed (earlier ++ r ∷ [])
named-more earlier r named own l a =
    subst (λ (ns : List LibName). Among ns l.0.library) (sym (names-append earlier r))
    (by (among-parts (flat_map bound_labels earlier) (bound_labels r ++ []) l (subst (λ (ls : List Label). Among ls l) (flat_map-append bound_labels earlier (r ∷ [])) a)))
  where
    last : Among (bound_labels r) l ⊎ Among [] l → Among (names_of earlier ++ r.name ∷ []) l.0.library
    last (inl b) = among-second (names_of earlier) (r.name ∷ []) l.0.library (inl (each-at (λ (m : Label). IsOwn r m.0) (bound_labels r) l own b))
    last (inr b) = elim b [ ]

    by : Among (flat_map bound_labels earlier) l ⊎ Among (bound_labels r ++ []) l → Among (names_of earlier ++ r.name ∷ []) l.0.library
    by (inl b) = among-first (names_of earlier) (r.name ∷ []) l.0.library (named l b)
    by (inr b) = last (among-parts (bound_labels r) [] l b)

all-serve : (earlier rs : List CompiledLibrary) → AreNamed earlier → AllFollow earlier rs → AllServe earlier rs
all-serve earlier [] named h = tt
all-serve earlier (r ∷ rs) named h = (follower-serves earlier r named h.0, all-serve (earlier ++ r ∷ []) rs (named-more earlier r named h.0.own.own_bindings) h.1)

pub followers-serve : FollowersServe
followers-serve rs h = all-serve [] rs (λ l a. elim a [ ]) h

-- Lists.

each-mapped : {A B : Type 0} (P : B → Type 0) (g : A → B) (xs : List A) → Each (λ x. P (g x)) xs → Each P (map g xs)
each-mapped P g [] h = tt
each-mapped P g (x ∷ xs) h = (h.0, each-mapped P g xs h.1)

each-flat : {A B : Type 0} (P : B → Type 0) (g : A → List B) (xs : List A) → Each (λ x. Each P (g x)) xs → Each P (flat_map g xs)
each-flat P g [] h = tt
each-flat P g (x ∷ xs) h = each-append P (g x) (flat_map g xs) h.0 (each-flat P g xs h.1)

ordered-own : (k : LibName) (n : ℕ) (rs : List FrameRow) → AreOrdered k n rs → Each (λ (f : FrameRow). f.frame.0.library ≡ k) rs
ordered-own k n [] h = tt
ordered-own k n (r ∷ rs) h = (h.0, ordered-own k r.frame.0.number rs h.2)

-- what holds of each label of the library and what it is bound to
module _ (v : State) (P : Label × Binding → Type 0) (holds : (n : ℕ) (b : Binding) → bound_to v.bindings (own_label v n) ≡ Some b → P (own_label v n, completed v (own_label v n) b)) where
  row-holds : (n : ℕ) (o : Option Binding) → bound_to v.bindings (own_label v n) ≡ o → Each P (row_at v (own_label v n) o)
  row-holds n None e = tt
  row-holds n (Some b) e = (holds n b e, tt)

  below-holds : (n : ℕ) → Each P (own_below v n)
  below-holds zero = tt
  below-holds (suc n) = each-append P (own_below v n) (own_row v n) (below-holds n) (row-holds n (bound_to v.bindings (own_label v n)) refl)

  pub bindings-hold : Each P (own_bindings v)
  unfolding own_bindings
  bindings-hold = below-holds v.names.number

-- The record that expansion gives.

module _ (own : LibName) (records : List CompiledLibrary) (imports : List ImportedName) (codes : Codes) (r : CompiledLibrary) (ready : IsReady own records) (runs : Runs own (flat_map defined records) (started own records imports codes) r) where
  abbrev l : ℕ → Label
  l n = own_label runs.ended n

  -- what its labels are bound to
  own-added : (n : ℕ) (b : Binding) → bound_to runs.ended.bindings (l n) ≡ Some b → IsAdded b
  own-added n b e = by (runs.grows.bindings (l n) b e)
    where
      by : (bound_to (started own records imports codes).bindings (l n) ≡ Some b) ⊎ (((l n).0.library ≡ own) × IsAdded b) → IsAdded b
      by (inl k) = absurd (started-foreign own records imports codes ready (l n) b k runs.next)
      by (inr k) = k.1

  -- each keyword of the library has its expression
  pub keyword-kept : (n level : ℕ) (e : Option PlainCore) → IsMacro runs.ended (l n) level e → IsKept runs.ended (l n)
  keyword-kept n level e k = by (runs.keeps.keywords (l n) level e runs.next k)
    where
      by : IsMacro (started own records imports codes) (l n) level e ⊎ (IsKept runs.ended (l n) × ((l n).0.number < runs.ended.names.number)) → IsKept runs.ended (l n)
      by (inl i) = absurd (started-foreign own records imports codes ready (l n) (binding.Macro level e) i runs.next)
      by (inr p) = p.0

  recorded : (n : ℕ) (b : Binding) → bound_to runs.ended.bindings (l n) ≡ Some b → IsRecorded (l n, completed runs.ended (l n) b)
  recorded n (binding.Variable v) e = tt
  recorded n (binding.PatternVariable level depth) e = tt
  recorded n (binding.Macro level None) e = let k = keyword-kept n level None e in subst (λ (o : Option PlainCore). IsRecorded (l n, binding.Macro level o)) (sym k.1) tt
  recorded n (binding.Macro level (Some c)) e = elim (own-added n (binding.Macro level (Some c)) e) [ ]
  recorded n (binding.Core f) e = elim (own-added n (binding.Core f) e) [ ]
  recorded n (binding.Primitive o) e = elim (own-added n (binding.Primitive o) e) [ ]

  top-defined : (n : ℕ) (v : VarInfo) → bound_to runs.ended.bindings (l n) ≡ Some (binding.Variable v) → Each (Among (defined r)) (if v.top then l n ∷ [] else [])
  top-defined n v e = by v.top refl
    where
      by : (b : Bool) → v.top ≡ b → Each (Among (defined r)) (if b then l n ∷ [] else [])
      by true top = (runs.tops (l n) v runs.next (e, top), tt)
      by false top = tt

  told-top : (n : ℕ) (b : Binding) → bound_to runs.ended.bindings (l n) ≡ Some b → Each (Among (defined r)) (top_label (l n, completed runs.ended (l n) b))
  told-top n (binding.Variable v) e = top-defined n v e
  told-top n (binding.PatternVariable level depth) e = tt
  told-top n (binding.Macro level expression) e = tt
  told-top n (binding.Core f) e = tt
  told-top n (binding.Primitive o) e = tt

  frames-own : Each (λ (f : FrameRow). IsOwn r f.frame.0) r.frames
  frames-own = subst (Each (λ (f : FrameRow). IsOwn r f.frame.0)) (sym runs.frames) (ordered-own r.name 0 (rows_in r.name runs.ended.frames) (ordered_rows_in r.name runs.ended.frames))

  module _ (there : Each (λ (e : ImportedName). IsThere records e.label.0.library) imports) where
    row-there : (f : FrameNo) (x : Row) → Among (rows_at f runs.ended.frames) x → IsLabelThere records r x.label
    row-there f x a = by (runs.grows.rows f x a)
      where
        by : Among (rows_at f (started own records imports codes).frames) x ⊎ IsOwnOrEllipsis own x → IsLabelThere records r x.label
        by (inl b) = inr (each-at (λ (y : Row). IsThere records y.label.0.library) (rows_at f (started own records imports codes).frames) x (started-there own records imports codes ready.earlier there f) b)
        by (inr (inl mine)) = inl (mine ∙ sym runs.name)
        by (inr (inr dots)) = inr (inr (inl (ap (λ (y : Row). y.label.0.library) dots)))

    shown-there : (l : Label) → IsShown runs.ended.frames l → IsLabelThere records r l
    shown-there l (f, h) = subst (IsLabelThere records r) h.label (row-there f h.row h.there)

    frame-there : (x : FrameRow) → Among r.frames x → IsLabelThere records r x.label
    frame-there x a = shown-there x.label
        (row-shown runs.ended.frames x
        (subst (λ (k : LibName). Among (rows_in k runs.ended.frames) x) (sym (each-at (λ (f : FrameRow). IsOwn r f.frame.0) r.frames x frames-own a))
        (subst (λ (fs : List FrameRow). Among fs x) runs.frames a)))

    pub record-serves : Serves records r
    record-serves = record {
      own_bindings = each-mapped (λ (l : Label). IsOwn r l.0) (λ (b : Label × Binding). b.0) r.bindings
          (subst (Each (λ (b : Label × Binding). IsOwn r b.0.0)) (sym runs.bindings) (bindings-hold runs.ended (λ (b : Label × Binding). IsOwn r b.0.0) (λ n b e. runs.next ∙ sym runs.name)));
      kinds = subst (Each IsRecorded) (sym runs.bindings) (bindings-hold runs.ended IsRecorded recorded);
      tops_defined = each-flat (Among (defined r)) top_label r.bindings
          (subst (Each (λ (b : Label × Binding). Each (Among (defined r)) (top_label b))) (sym runs.bindings) (bindings-hold runs.ended (λ (b : Label × Binding). Each (Among (defined r)) (top_label b)) told-top));
      own_frames = frames-own;
      rows = each-mapped (IsLabelThere records r) (λ (f : FrameRow). f.label) r.frames (each-of (λ (f : FrameRow). IsLabelThere records r f.label) r.frames frame-there);
      exports = each-mapped (IsLabelThere records r) (λ (e : ImportedName). e.label) r.exports
          (each-map (λ (e : ImportedName). IsShown runs.ended.frames e.label) (λ (e : ImportedName). IsLabelThere records r e.label) r.exports runs.exports (λ e k. shown-there e.label k));
    }

pub records-serve : RecordsServe
records-serve own records imports body codes r h there e = record-serves own records imports codes r h (record-runs own records imports body codes r h e) there
