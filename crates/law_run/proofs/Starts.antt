-- Where the expansion of a library begins, its frame is new, and no two of its names are one.
use Rattle.std.proofs.Common.{◌≡◌, ◌≢◌, ℕ, Bool, true, false, List, [], ◌∷◌, ◌++◌, map, None, Some, refl, sym, ◌∙◌, ap, subst, cond, inl, inr, append_assoc}
use Rattle.std.specs.Prelude.{is_some, nat_eq}
use Rattle.std.specs.Cmp.Lexicographic.{pointwise}
use Rattle.base_data.proofs.ElementLemmas.{each-append}
use Rattle.base_data.specs.Elements.{Each, Among}
use Rattle.base_data.specs.declared.imported_name.ImportedName.{ImportedName}
use Rattle.base_data.specs.declared.library.LibName.{LibName}
use Rattle.base_data.specs.declared.library.LibName.TheVariants as library
use Rattle.base_data.specs.declared.name.FrameNo.{FrameNo}
use Rattle.stx_tree.specs.declared.frame_row.FrameRow.{FrameRow}
use Rattle.stx_frames.specs.Rows.{label_in}
use Rattle.stx_frames.specs.Scope.{Scope, has_frame, rows_at, label_at, with_row, row_in, adopted, are_new}
use Rattle.stx_frames.proofs.FrameLaws.{rows_at-with_row}
use Rattle.core_language.specs.declared.record.CompiledLibrary.{CompiledLibrary}
use Rattle.law_core.specs.Follows.{names_of, IsOwn}
use Rattle.eval_code.specs.Codes.{Codes}
use Rattle.load_import.specs.Names.{Labelled, label_named}
use Rattle.law_imports.specs.Algebra.{IsOnce}
use Rattle.core_records.specs.Frame.{core_row, rows_for, introduced_numbers, record_frame}
use Rattle.core_records.specs.Introduced.{core_frame}
use Rattle.expand_standing.specs.Start.{rows_of, first_frame, import_row, started}
use Rattle.expand_standing.proofs.Adopted.{adopted_append}
use Rattle.law_expand.specs.Serves.{AllServe}
use Rattle.law_expand.proofs.Fresh.{each-map}
use Rattle.law_run.specs.Bound.{AreBound}
use Rattle.law_run.specs.Fitting.{BeginsApart}
use Rattle.law_run.proofs.Rows.{OnceBehind, RowsOnce, is-bound, adopted-once, AreElsewhere, has-none, rows-none, label-end, other-symbol}

-- The rows of records and of what record forms introduce.

-- a record of another library, with rows of its own frames
abbrev pub IsApart : LibName → CompiledLibrary → Type 0
IsApart own r = (r.name ≡ own → ⊥) × Each (λ (x : FrameRow). IsOwn r x.frame.0) r.frames

rows-elsewhere : (f : FrameNo) (rs : List CompiledLibrary) → Each (IsApart f.0.library) rs → AreElsewhere f (rows_of rs)
rows-elsewhere f [] h = tt
rows-elsewhere f (r ∷ rs) h = each-append (λ (x : FrameRow). f ≢ x.frame) r.frames (rows_of rs)
    (each-map (λ (x : FrameRow). IsOwn r x.frame.0) (λ (x : FrameRow). f ≢ x.frame) r.frames h.0.1 (λ x mine same. h.0.0 (sym mine ∙ ap (λ (g : FrameNo). g.0.library) (sym same))))
    (rows-elsewhere f rs h.1)

pub names-apart : (own : LibName) (rs : List CompiledLibrary) → Each (IsApart own) rs → Among (names_of rs) own → ⊥
names-apart own [] h a = a
names-apart own (r ∷ rs) h (inl e) = h.0.0 (sym e)
names-apart own (r ∷ rs) h (inr a) = names-apart own rs h.1 a

-- where records serve, that is so of each
pub ready-apart : (own : LibName) (earlier rs : List CompiledLibrary) → AllServe earlier rs → (Among (names_of rs) own → ⊥) → Each (IsApart own) rs
ready-apart own earlier [] h new = tt
ready-apart own earlier (r ∷ rs) h new = (((λ e. new (inl (sym e))), h.0.own_frames), ready-apart own (earlier ++ r ∷ []) rs h.1 (λ a. new (inr a)))

introduced-elsewhere : (f : FrameNo) → (f.0.library ≡ library.Core → ⊥) → AreElsewhere f record_frame
unfolding record_frame rows_for
introduced-elsewhere f other = by introduced_numbers
  where
    by : (ns : List ℕ) → AreElsewhere f (map core_row ns)
    by [] = tt
    by (n ∷ ns) = ((λ same. other (ap (λ (g : FrameNo). g.0.library) same)), by ns)

introduced-new : (fs : Scope) → has_frame core_frame fs ≡ false → are_new record_frame fs ≡ true
unfolding record_frame rows_for
introduced-new fs h = by introduced_numbers
  where
    by : (ns : List ℕ) → are_new (map core_row ns) fs ≡ true
    by [] = refl
    by (n ∷ ns) = ap (λ b. cond b false (are_new (map core_row ns) fs)) h ∙ by ns

-- Names.

-- a name that is none of these
abbrev OtherNames : List ℕ → Labelled → Type 0
OtherNames n names = Each (λ (e : ImportedName). pointwise nat_eq n e.name ≡ false) names

none-other : (n : List ℕ) (names : Labelled) → is_some (label_named n names) ≡ false → OtherNames n names
none-other n [] h = tt
none-other n (e ∷ names) h = by (pointwise nat_eq n e.name) refl h (λ k. none-other n names k)
  where
    by : (b : Bool) → pointwise nat_eq n e.name ≡ b → is_some (cond b (Some e.label) (label_named n names)) ≡ false → (is_some (label_named n names) ≡ false → OtherNames n names) → OtherNames n (e ∷ names)
    by true is k rest = absurd (cc)
    by false is k rest = (is, rest k)

-- no name has a label in a frame
abbrev NewNames : FrameNo → Scope → Labelled → Type 0
NewNames f fs names = Each (λ (e : ImportedName). label_at fs f e.name [] ≡ None) names

still-new : (f : FrameNo) (fs : Scope) (n : ImportedName) (names : Labelled) → NewNames f fs names → OtherNames n.name names → NewNames f (with_row fs f (row_in (import_row f n))) names
still-new f fs n [] h k = tt
still-new f fs n (e ∷ names) h k = (
  ap (λ rows. label_in rows e.name []) (rows_at-with_row fs f (row_in (import_row f n))) ∙ label-end (rows_at f fs) (row_in (import_row f n)) e.name [] h.0 (other-symbol e.name n.name [] n.label k.0),
  still-new f fs n names h.1 k.1,
)

imports-bound : (f : FrameNo) (fs : Scope) (names : Labelled) → NewNames f fs names → IsOnce names → AreBound fs (map (import_row f) names)
imports-bound f fs [] h o = tt
imports-bound f fs (n ∷ names) h o = (
  is-bound fs f (row_in (import_row f n)) h.0,
  imports-bound f (with_row fs f (row_in (import_row f n))) names (still-new f fs n names h.1 (none-other n.name names o.0)) o.1,
)

all-new : (f : FrameNo) (fs : Scope) (names : Labelled) → rows_at f fs ≡ [] → NewNames f fs names
all-new f fs [] h = tt
all-new f fs (n ∷ names) h = (ap (λ rows. label_in rows n.name []) h, all-new f fs names h)

-- The beginning.

module _ (name : LibName) (records : List CompiledLibrary) (apart : Each (IsApart name) records) (other : name ≡ library.Core → ⊥) where
  abbrev before : Scope
  before = adopted [] (rows_of records ++ record_frame)

  own-elsewhere : (f : FrameNo) → f.0.library ≡ name → AreElsewhere f (rows_of records ++ record_frame)
  own-elsewhere f mine = each-append (λ (x : FrameRow). f ≢ x.frame) (rows_of records) record_frame
      (rows-elsewhere f records (subst (λ (l : LibName). Each (IsApart l) records) (sym mine) apart)) (introduced-elsewhere f (λ e. other (sym mine ∙ e)))

  own-none : (f : FrameNo) → f.0.library ≡ name → rows_at f before ≡ []
  own-none f mine = rows-none f [] (rows_of records ++ record_frame) (own-elsewhere f mine)

  names-bound : (names : Labelled) → IsOnce names → AreBound before (map (import_row (first_frame name)) names)
  names-bound names o = imports-bound (first_frame name) before names (all-new (first_frame name) before names (own-none (first_frame name) refl)) o

  pub begins : (names : Labelled) → Each (IsApart library.Core) records → IsOnce names → BeginsApart records name names
  begins names none o = record {
    new = names-apart name records apart;
    introduced = introduced-new (adopted [] (rows_of records)) (has-none core_frame [] (rows_of records) (rows-elsewhere core_frame records none) refl);
    own_frame = has-none (first_frame name) [] (rows_of records ++ record_frame) (own-elsewhere (first_frame name) refl) refl;
    imports = names-bound names o;
  }

  pub once-started : (names : Labelled) (codes : Codes) → IsOnce names → RowsOnce name (started name records names codes).frames
  unfolding started
  once-started names codes o =
      subst (RowsOnce name) (ap (adopted []) (append_assoc (rows_of records) record_frame (map (import_row (first_frame name)) names)))
      (subst (RowsOnce name) (sym (adopted_append [] (rows_of records ++ record_frame) (map (import_row (first_frame name)) names)))
      (adopted-once name before (map (import_row (first_frame name)) names) (λ f mine. subst (λ rows. OnceBehind [] rows) (sym (own-none f mine)) tt) (names-bound names o)))
