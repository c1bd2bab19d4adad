-- The record of a library or program follows the records before it.
use Rattle.std.proofs.Common.{◌≡◌, ℕ, ◌<◌, Bool, true, false, cond, List, [], ◌∷◌, ◌++◌, map, Option, None, Some, Result, Ok, Err, refl, sym, ◌∙◌, ap, subst, arith, inl, inr}
use Rattle.std.specs.Prelude.{◌⊎◌, filter}
use Rattle.std.specs.List.{flat_map}
use Rattle.std.proofs.lemmas.Grind.{flat_map-append}
use Rattle.base_data.proofs.ElementLemmas.{each-at, each-of, each-append, among-first, among-second, among-parts}
use Rattle.base_data.specs.Act.{after, give}
use Rattle.base_data.specs.Elements.{Each, Among, Once}
use Rattle.base_data.specs.Op.{name_count}
use Rattle.base_data.specs.declared.fault.Fault.{Fault}
use Rattle.base_data.specs.declared.imported_name.ImportedName.{ImportedName}
use Rattle.base_data.specs.declared.library.LibName.{LibName}
use Rattle.base_data.specs.declared.library.LibName.TheVariants as library
use Rattle.base_data.specs.declared.name.FrameNo.{FrameNo}
use Rattle.base_data.specs.declared.name.Label.{Label}
use Rattle.base_data.specs.declared.name.Mark.{Mark}
use Rattle.stx_tree.specs.Changes.{stamp}
use Rattle.stx_tree.specs.Tree.{Tree}
use Rattle.stx_tree.specs.declared.frame_row.FrameRow.{FrameRow}
use Rattle.stx_frames.specs.Listed.{row_from, rows_from, rows_in}
use Rattle.stx_frames.specs.Rows.{Row}
use Rattle.stx_frames.specs.Scope.{Scope, rows_at, same_frame, row_in}
use Rattle.stx_frames.proofs.FrameLaws.{rows_at-adopted}
use Rattle.stx_frames.proofs.ListedLaws.{filter-rows_in}
use Rattle.stx_frames.proofs.MemoLemmas.{same_frame_is}
use Rattle.stx_frames.proofs.ScopeLemmas.{same_frame-self}
use Rattle.load_builtin.specs.Exports.{derived_place}
use Rattle.core_language.specs.Core.{PlainCore}
use Rattle.core_language.specs.declared.binding.Binding.{Binding}
use Rattle.core_language.specs.declared.record.CompiledLibrary.{CompiledLibrary}
use Rattle.core_language.specs.declared.record.Line.{Line}
use Rattle.law_core.specs.Follows.{names_of, export_names, bound_labels, Key, key_of, line_cores, keywords, IsGiven, IsKnown, Suits, Follows}
use Rattle.law_core.specs.Following.{AllFollow}
use Rattle.law_core.specs.Records.{defined, line_core, run_binders}
use Rattle.law_core.specs.Scope.{Closed}
use Rattle.law_core.specs.WellMade.{IsWellMade}
use Rattle.eval_code.specs.Codes.{Codes}
use Rattle.core_records.specs.Frame.{core_row, rows_for, introduced_numbers, record_frame}
use Rattle.stx_scope.specs.Stands.{stands, row_for}
use Rattle.expand_quasi.specs.Inserted.{dots, ellipsis}
use Rattle.expand_standing.specs.Own as standing
use Rattle.expand_standing.specs.Own.{completed}
use Rattle.expand_standing.specs.Start.{rows_of, first_frame, import_row, started}
use Rattle.expand_standing.specs.State.{State}
use Rattle.expand_forms.specs.Body.{finish_all}
use Rattle.expand_forms.specs.Expanding.{ready, library_record}
use Rattle.expand_forms.specs.Expression.{inside, full_room}
use Rattle.expand_forms.specs.Inside.{Inside}
use Rattle.expand_forms.specs.Top.{stands_for, export, all_exports, exports, give_record, record_in, second_pass, first_pass, top, top_at}
use Rattle.expand_forms.specs.declared.top.LibraryBody.{LibraryBody}
use Rattle.expand_forms.specs.declared.top.TopAt.{TopAt}
use Rattle.law_expand.specs.Behind.{IsKnownBefore, IsFollower, RecordsFollow}
use Rattle.law_expand.specs.Ready.{IsReady}
use Rattle.law_expand.specs.Serves.{IsThere, AllServe}
use Rattle.law_expand.specs.States.{IsOwn, IsOwnOrEllipsis, IsBound, IsNumbered, row_key, AreKeyed, RowsAreBound}
use Rattle.law_expand.proofs.Acts.{Gave, gave-after, gave-any, gave-each}
use Rattle.law_expand.proofs.Fresh.{each-map}
use Rattle.law_expand.proofs.GoodKeywords.{keywords-good}
use Rattle.law_expand.proofs.Records.{Runs, record-runs, records-good}
use Rattle.law_expand.proofs.RunReferences.{references-owed, references-known}
use Rattle.law_expand.proofs.Serving.{followers-serve, records-serve}
use Rattle.law_expand.proofs.Shown.{IsShown, among-filter, row-shown}
use Rattle.law_expand.proofs.Started.{rows-hold, started-sound}
use Rattle.law_expand.proofs.Variables.{own-bound, variables-indexed}

pub each-mapped : {A B : Type 0} (P : B → Type 0) (g : A → B) (xs : List A) → Each (λ x. P (g x)) xs → Each P (map g xs)
each-mapped P g [] h = tt
each-mapped P g (x ∷ xs) h = (h.0, each-mapped P g xs h.1)

mapped-each : {A B : Type 0} (P : B → Type 0) (g : A → B) (xs : List A) → Each P (map g xs) → Each (λ x. P (g x)) xs
mapped-each P g [] h = tt
mapped-each P g (x ∷ xs) h = (h.0, mapped-each P g xs h.1)

among-map : {A B : Type 0} (g : A → B) (xs : List A) (x : A) → Among xs x → Among (map g xs) (g x)
among-map g [] x a = elim a [ ]
among-map g (y ∷ xs) x (inl e) = inl (ap g e)
among-map g (y ∷ xs) x (inr a) = inr (among-map g xs x a)

map-among : {A B : Type 0} (g : A → B) (xs : List A) (y : B) → Among (map g xs) y → (x : A) × (Among xs x × (y ≡ g x))
map-among g [] y a = elim a [ ]
map-among g (x ∷ xs) y (inl e) = (x, (inl refl, e))
map-among g (x ∷ xs) y (inr a) = let k = map-among g xs y a in (k.0, (inr k.1.0, k.1.1))

-- The external names of a record are those of its exports.

abbrev external : ImportedName → List ℕ
external e = e.name

abbrev pub asked : List ℕ × Tree → List ℕ
asked e = e.0

export-named : (at : TopAt) (e : List ℕ × Tree) (s : State) → Gave (λ x t. x.name ≡ e.0) (export at e s)
unfolding export
export-named at e s = by (stands s.frames (stamp at.frame e.1))
  where
    by : (o : Option Label) → Gave (λ x t. x.name ≡ e.0) (stands_for at.place e.0 (stamp at.frame e.1) o s)
    by None = tt
    by (Some l) = refl

exports-named : (at : TopAt) (es : List (List ℕ × Tree)) (s : State) → Gave (λ xs t. map external xs ≡ map asked es) (exports at es s)
unfolding exports
exports-named at es s =
    gave-after (λ xs t. map external xs ≡ map asked es) (λ xs t. map external xs ≡ map asked es) (all_exports at es s) (λ ls t. after (standing.export_labels ls t) (λ _. give ls))
    (gave-each (export at) (λ e t x u. x.name ≡ e.0) (λ ys t xs u. map external xs ≡ map asked ys) (λ t. Unit {0}) (λ t k. refl) (λ e t k. export-named at e t) (λ e t u x k j. tt)
    (λ e ys t u v x xs k j a. λ i. j i ∷ a i) es s tt)
    (λ xs t k. k)

top-named : (go : Inside) (at : TopAt) (es : List (List ℕ × Tree)) (forms : List Tree) (s : State) → Gave (λ r v. export_names r ≡ map asked es) (top go at es forms s)
unfolding top second_pass
top-named go at es forms s =
    gave-after (λ d t. Unit {0}) (λ r v. export_names r ≡ map asked es) (first_pass go at forms s) (second_pass go at es) (gave-any (λ d t. Unit {0}) (first_pass go at forms s) (λ d t. tt))
    (λ d t k. gave-after (λ xs u. map external xs ≡ map asked es) (λ r v. export_names r ≡ map asked es) (exports at es t) (λ ls u. after (finish_all go 0 d.waiting u) (λ lines. give_record at ls lines)) (exports-named at es t)
    (λ xs u j. gave-after (λ ys v. Unit {0}) (λ r v. export_names r ≡ map asked es) (finish_all go 0 d.waiting u) (λ lines. give_record at xs lines) (gave-any (λ ys v. Unit {0}) (finish_all go 0 d.waiting u) (λ ys v. tt)) (λ ys v i. j)))

pub record-named : (own : LibName) (records : List CompiledLibrary) (imports : List ImportedName) (body : LibraryBody) (codes : Codes) (r : CompiledLibrary)
    → library_record (ready own records imports codes) records body ≡ Ok r → export_names r ≡ map asked body.exports
record-named own records imports body codes r e =
    by (top (inside records full_room) (top_at (first_frame own) body) body.exports body.forms (started own records imports codes))
    (top-named (inside records full_room) (top_at (first_frame own) body) body.exports body.forms (started own records imports codes)) e
  where
    by : (x : Result (CompiledLibrary × State) Fault) → Gave (λ q v. export_names q ≡ map asked body.exports) x → record_in x ≡ Ok r → export_names r ≡ map asked body.exports
    by (Ok p) h k = let is : p.0 ≡ r = cc in subst (λ (q : CompiledLibrary). export_names q ≡ map asked body.exports) is h
    by (Err f) h k = absurd (cc)

-- Rows of one library, each once.

abbrev in_frame : FrameNo → FrameRow → Bool
in_frame f r = same_frame f r.frame

-- where each frame has each symbol under marks once
keys-once : (own : LibName) (rows : List FrameRow) → Each (λ (r : FrameRow). IsOwn own r.frame.0) rows → ((f : FrameNo) → IsOwn own f.0 → Once (map key_of (filter (in_frame f) rows))) → Once (map key_of rows)
keys-once own [] mine once = tt
keys-once own (r ∷ rows) mine once = (again, keys-once own rows mine.1 (λ f o. rest f (same_frame f r.frame) (once f o)))
  where
    rest : (f : FrameNo) (b : Bool) → Once (map key_of (cond b (r ∷ filter (in_frame f) rows) (filter (in_frame f) rows))) → Once (map key_of (filter (in_frame f) rows))
    rest f true h = h.1
    rest f false h = h

    here : Once (map key_of (r ∷ filter (in_frame r.frame) rows))
    here = subst (λ (b : Bool). Once (map key_of (cond b (r ∷ filter (in_frame r.frame) rows) (filter (in_frame r.frame) rows)))) (same_frame-self r.frame) (once r.frame mine.0)

    again : Among (map key_of rows) (key_of r) → ⊥
    again a =
        let k = map-among key_of rows (key_of r) a in
        let f : r.frame ≡ k.0.frame = ap (λ (x : Key). x.0) k.1.1 in
        let there : same_frame r.frame k.0.frame ≡ true = subst (λ (g : FrameNo). same_frame r.frame g ≡ true) f (same_frame-self r.frame) in
        here.0 (subst (Among (map key_of (filter (in_frame r.frame) rows))) (sym k.1.1) (among-map key_of (filter (in_frame r.frame) rows) k.0 (among-filter (in_frame r.frame) rows k.0 there k.1.0)))

frame-keys : (f : FrameNo) (rs : List Row) → Once (map row_key rs) → Once (map key_of (rows_from f rs))
frame-keys f [] h = tt
frame-keys f (r ∷ rs) h = ((λ a. h.0 (among rs a)), frame-keys f rs h.1)
  where
    among : (ys : List Row) → Among (map key_of (rows_from f ys)) (key_of (row_from f r)) → Among (map row_key ys) (row_key r)
    among [] a = elim a [ ]
    among (y ∷ ys) (inl e) = inl (ap (λ (k : Key). k.1) e)
    among (y ∷ ys) (inr a) = inr (among ys a)

rows-once : (own : LibName) (fs : Scope) → AreKeyed own fs → Each (λ (r : FrameRow). IsOwn own r.frame.0) (rows_in own fs) → Once (map key_of (rows_in own fs))
rows-once own fs keyed mine = keys-once own (rows_in own fs) mine (λ f o. subst (λ (rows : List FrameRow). Once (map key_of rows)) (sym (is f o)) (frame-keys f (rows_at f fs) (keyed f o)))
  where
    is : (f : FrameNo) → IsOwn own f.0 → filter (in_frame f) (rows_in own fs) ≡ rows_from f (rows_at f fs)
    is f o = subst (λ (k : LibName). filter (in_frame f) (rows_in k fs) ≡ rows_from f (rows_at f fs)) o (filter-rows_in fs f)

-- What the library begins with.

other-frame : (own : LibName) (f g : FrameNo) → IsOwn own f.0 → (IsOwn own g.0 → ⊥) → same_frame f g ≡ false
other-frame own f g o foreign = by (same_frame f g) refl
  where
    by : (b : Bool) → same_frame f g ≡ b → b ≡ false
    by true e = absurd (foreign (subst (λ (x : FrameNo). IsOwn own x.0) (same_frame_is f g e) o))
    by false e = refl

-- rows of other libraries' frames are none of one of these
filter-others : (own : LibName) (f : FrameNo) → IsOwn own f.0 → (xs ys : List FrameRow) → Each (λ (r : FrameRow). IsOwn own r.frame.0 → ⊥) xs → filter (in_frame f) (xs ++ ys) ≡ filter (in_frame f) ys
filter-others own f o [] ys h = refl
filter-others own f o (x ∷ xs) ys h =
    ap (λ (b : Bool). cond b (x ∷ filter (in_frame f) (xs ++ ys)) (filter (in_frame f) (xs ++ ys))) (other-frame own f x.frame o h.0) ∙ filter-others own f o xs ys h.1

imports-key : (f g : FrameNo) (es : List ImportedName) (x : List ℕ) (ms : List Mark) → Among (map row_key (map row_in (filter (in_frame f) (map (import_row g) es)))) (x, ms) → Among (map external es) x
imports-key f g [] x ms a = elim a [ ]
imports-key f g (e ∷ es) x ms a = by (same_frame f g) a (imports-key f g es x ms)
  where
    by : (b : Bool) → Among (map row_key (map row_in (cond b (import_row g e ∷ filter (in_frame f) (map (import_row g) es)) (filter (in_frame f) (map (import_row g) es))))) (x, ms)
        → (Among (map row_key (map row_in (filter (in_frame f) (map (import_row g) es)))) (x, ms) → Among (map external es) x) → Among (map external (e ∷ es)) x
    by true (inl d) rest = inl (ap (λ (k : List ℕ × List Mark). k.0) d)
    by true (inr c) rest = inr (rest c)
    by false c rest = inr (rest c)

imports-keyed : (f g : FrameNo) (es : List ImportedName) → Once (map external es) → Once (map row_key (map row_in (filter (in_frame f) (map (import_row g) es))))
imports-keyed f g [] once = tt
imports-keyed f g (e ∷ es) once = by (same_frame f g) (imports-keyed f g es once.1)
  where
    by : (b : Bool) → Once (map row_key (map row_in (filter (in_frame f) (map (import_row g) es)))) → Once (map row_key (map row_in (cond b (import_row g e ∷ filter (in_frame f) (map (import_row g) es)) (filter (in_frame f) (map (import_row g) es)))))
    by true h = ((λ a. once.0 (imports-key f g es e.name [] a)), h)
    by false h = h

core-frames : (own : LibName) → (own ≡ library.Core → ⊥) → (ns : List ℕ) → Each (λ (r : FrameRow). IsOwn own r.frame.0 → ⊥) (map core_row ns)
core-frames own apart [] = tt
core-frames own apart (n ∷ ns) = ((λ e. apart (sym e)), core-frames own apart ns)

-- frames of records that have other names
record-frames : (own : LibName) (earlier rs : List CompiledLibrary) → AllServe earlier rs → (Among (names_of rs) own → ⊥) → Each (λ (r : FrameRow). IsOwn own r.frame.0 → ⊥) (rows_of rs)
record-frames own earlier [] h new = tt
record-frames own earlier (r ∷ rs) h new =
    each-append (λ (x : FrameRow). IsOwn own x.frame.0 → ⊥) r.frames (rows_of rs) (each-map (λ (x : FrameRow). x.frame.0.library ≡ r.name) (λ (x : FrameRow). IsOwn own x.frame.0 → ⊥) r.frames h.0.own_frames (λ x e o. new (inl (sym o ∙ e))))
    (record-frames own (earlier ++ r ∷ []) rs h.1 (λ a. new (inr a)))

module _ (own : LibName) (records : List CompiledLibrary) (imports : List ImportedName) (codes : Codes) where
  pub started-keyed : AllServe [] records → (Among (names_of records) own → ⊥) → (own ≡ library.Core → ⊥) → Once (map external imports) → AreKeyed own (started own records imports codes).frames
  unfolding started record_frame rows_for
  started-keyed serve new apart once f o =
      let imported = map (import_row (first_frame own)) imports in
      let rows = rows_of records ++ (record_frame ++ imported) in
      let is : filter (in_frame f) rows ≡ filter (in_frame f) imported = filter-others own f o (rows_of records) (record_frame ++ imported) (record-frames own [] records serve new) ∙ filter-others own f o record_frame imported (core-frames own apart introduced_numbers) in
      subst (λ (rs : List Row). Once (map row_key rs)) (sym (rows_at-adopted [] f rows ∙ ap (map row_in) is)) (imports-keyed f (first_frame own) imports once)

-- Labels that are known.

known-more : (records more : List CompiledLibrary) (l : Label) → ((k : Label) → Among (flat_map bound_labels records) k → Among (flat_map bound_labels more) k) → IsKnownBefore records l → IsKnownBefore more l
known-more records more l w (inl a) = inl (w l a)
known-more records more l w (inr g) = inr g

-- what records bind that follow one another is named by them
binder-names : (earlier rs : List CompiledLibrary) → AllFollow earlier rs → (l : Label) → Among (flat_map bound_labels rs) l → Among (names_of rs) l.0.library
binder-names earlier [] h l a = elim a [ ]
binder-names earlier (r ∷ rs) h l a = by (among-parts (bound_labels r) (flat_map bound_labels rs) l a) (binder-names (earlier ++ r ∷ []) rs h.1 l)
  where
    by : Among (bound_labels r) l ⊎ Among (flat_map bound_labels rs) l → (Among (flat_map bound_labels rs) l → Among (names_of rs) l.0.library) → Among (names_of (r ∷ rs)) l.0.library
    by (inl b) rest = inl (each-at (λ (m : Label). m.0.library ≡ r.name) (bound_labels r) l h.0.own.own_bindings b)
    by (inr b) rest = inr (rest b)

-- their rows give what is known
rows-known : (all earlier rs : List CompiledLibrary) → AllFollow earlier rs → ((l : Label) → Among (flat_map bound_labels earlier) l → Among (flat_map bound_labels all) l)
    → ((l : Label) → Among (flat_map bound_labels rs) l → Among (flat_map bound_labels all) l) → Each (λ (x : FrameRow). IsKnownBefore all x.label) (rows_of rs)
rows-known all earlier [] h before these = tt
rows-known all earlier (r ∷ rs) h before these =
    each-append (λ (x : FrameRow). IsKnownBefore all x.label) r.frames (rows_of rs)
    (each-map (λ (x : FrameRow). IsKnown r earlier x.label) (λ (x : FrameRow). IsKnownBefore all x.label) r.frames (mapped-each (IsKnown r earlier) (λ (x : FrameRow). x.label) r.frames h.0.labels.rows) (λ x k. one x.label k))
    (rows-known all (earlier ++ r ∷ []) rs h.1 (λ l a. both l (among-parts (flat_map bound_labels earlier) (bound_labels r ++ []) l (subst (λ (ls : List Label). Among ls l) (flat_map-append bound_labels earlier (r ∷ [])) a)))
    (λ l a. these l (among-second (bound_labels r) (flat_map bound_labels rs) l a)))
  where
    mine : (l : Label) → Among (bound_labels r) l → Among (flat_map bound_labels all) l
    mine l a = these l (among-first (bound_labels r) (flat_map bound_labels rs) l a)

    last : (l : Label) → Among (bound_labels r) l ⊎ Among [] l → Among (flat_map bound_labels all) l
    last l (inl a) = mine l a
    last l (inr a) = elim a [ ]

    both : (l : Label) → Among (flat_map bound_labels earlier) l ⊎ Among (bound_labels r ++ []) l → Among (flat_map bound_labels all) l
    both l (inl a) = before l a
    both l (inr a) = last l (among-parts (bound_labels r) [] l a)

    bound : (l : Label) → Among (bound_labels r) l ⊎ Among (flat_map bound_labels earlier) l → IsKnownBefore all l
    bound l (inl a) = inl (mine l a)
    bound l (inr a) = inl (before l a)

    one : (l : Label) → IsKnown r earlier l → IsKnownBefore all l
    one l (inl a) = bound l (among-parts (bound_labels r) (flat_map bound_labels earlier) l a)
    one l (inr g) = inr g

imports-known : (records : List CompiledLibrary) (f : FrameNo) (es : List ImportedName) → Each (λ (e : ImportedName). IsKnownBefore records e.label) es → Each (λ (x : FrameRow). IsKnownBefore records x.label) (map (import_row f) es)
imports-known records f [] h = tt
imports-known records f (e ∷ es) h = (h.0, imports-known records f es h.1)

-- what record forms introduce is given
abbrev AreGiven : List ℕ → Type 0
AreGiven ns = Each (λ n. (n < name_count) × (derived_place n ≡ None)) ns

introduced-given : AreGiven introduced_numbers
introduced-given = ((omega arith, refl), ((omega arith, refl), ((omega arith, refl), ((omega arith, refl), ((omega arith, refl), ((omega arith, refl), ((omega arith, refl), ((omega arith, refl), ((omega arith, refl), ((omega arith, refl), ((omega arith, refl), ((omega arith, refl), ((omega arith, refl), ((omega arith, refl), ((omega arith, refl), ((omega arith, refl), ((omega arith, refl), ((omega arith, refl), tt))))))))))))))))))

numbers-known : (records : List CompiledLibrary) (ns : List ℕ) → AreGiven ns → Each (λ (x : FrameRow). IsKnownBefore records x.label) (map core_row ns)
numbers-known records [] h = tt
numbers-known records (n ∷ ns) h = (inr (refl, h.0), numbers-known records ns h.1)

module _ (own : LibName) (records : List CompiledLibrary) (imports : List ImportedName) (codes : Codes) (follow : AllFollow [] records) (known : Each (λ (e : ImportedName). IsKnownBefore records e.label) imports) where
  started-known : (f : FrameNo) → Each (λ (x : Row). IsKnownBefore records x.label) (rows_at f (started own records imports codes).frames)
  unfolding started record_frame rows_for
  started-known f =
      let imported = map (import_row (first_frame own)) imports in
      let rows = rows_of records ++ (record_frame ++ imported) in
      subst (Each (λ (x : Row). IsKnownBefore records x.label)) (sym (rows_at-adopted [] f rows))
      (rows-hold (IsKnownBefore records) f rows (each-append (λ (x : FrameRow). IsKnownBefore records x.label) (rows_of records) (record_frame ++ imported) (rows-known records [] records follow (λ l a. elim a [ ]) (λ l a. a))
      (each-append (λ (x : FrameRow). IsKnownBefore records x.label) record_frame imported (numbers-known records introduced_numbers introduced-given) (imports-known records (first_frame own) imports known))))

  known-foreign : (Among (names_of records) own → ⊥) → (own ≡ library.Core → ⊥) → (l : Label) → IsKnownBefore records l → IsOwn own l.0 → ⊥
  known-foreign new apart l (inl a) o = new (subst (Among (names_of records)) o (binder-names [] records follow l a))
  known-foreign new apart l (inr g) o = apart (sym o ∙ g.0)

  started-bound : (Among (names_of records) own → ⊥) → (own ≡ library.Core → ⊥) → RowsAreBound own (started own records imports codes)
  started-bound new apart f x a o = absurd (known-foreign new apart x.label (each-at (λ (y : Row). IsKnownBefore records y.label) (rows_at f (started own records imports codes).frames) x (started-known f) a) o)

known-there : (records : List CompiledLibrary) → AllFollow [] records → (l : Label) → IsKnownBefore records l → IsThere records l.0.library
known-there records follow l (inl a) = inl (binder-names [] records follow l a)
known-there records follow l (inr g) = inr (inl g.0)

ellipsis-given : IsGiven ellipsis
ellipsis-given = (refl, (omega arith, refl))

-- The record.

module _ (own : LibName) (records : List CompiledLibrary) (imports : List ImportedName) (body : LibraryBody) (codes : Codes) (r : CompiledLibrary)
    (h : IsFollower own records imports body.exports) (e : library_record (ready own records imports codes) records body ≡ Ok r) where
  is-ready : IsReady own records
  is-ready = record { new = h.new; earlier = followers-serve records h.earlier }

  runs : Runs own (flat_map defined records) (started own records imports codes) r
  runs = record-runs own records imports body codes r is-ready e

  numbered : IsNumbered own runs.ended
  numbered = runs.grows.numbered (started-sound own records imports codes is-ready).numbered

  -- a label of the library that a frame gives is bound
  own-known : (l : Label) → IsOwn own l.0 → IsBound runs.ended l → IsKnown r records l
  own-known l o b =
      inl (among-first (bound_labels r) (flat_map bound_labels records) l
      (among-map (λ (x : Label × Binding). x.0) r.bindings (l, completed runs.ended l b.0)
      (subst (λ (bs : List (Label × Binding)). Among bs (l, completed runs.ended l b.0)) (sym runs.bindings) (own-bound runs.ended l b.0 (o ∙ sym runs.next) (numbered l b.0 o b.1) b.1))))

  before-known : (l : Label) → IsKnownBefore records l → IsKnown r records l
  before-known l (inl a) = inl (among-second (bound_labels r) (flat_map bound_labels records) l a)
  before-known l (inr g) = inr g

  dots-known : (x : Row) → x ≡ row_for dots ellipsis → IsKnown r records x.label
  dots-known x d = inr (subst (λ (y : Row). IsGiven y.label) (sym d) ellipsis-given)

  row-known : (f : FrameNo) (x : Row) → Among (rows_at f runs.ended.frames) x → IsKnown r records x.label
  row-known f x a = by (runs.grows.rows f x a)
    where
      shown : RowsAreBound own runs.ended
      shown = runs.grows.shown (started-bound own records imports codes h.earlier h.known h.new h.no_core)

      mine : IsOwn own x.label.0 → IsBound runs.ended x.label ⊎ (x ≡ row_for dots ellipsis) → IsKnown r records x.label
      mine o (inl b) = own-known x.label o b
      mine o (inr d) = dots-known x d

      by : Among (rows_at f (started own records imports codes).frames) x ⊎ IsOwnOrEllipsis own x → IsKnown r records x.label
      by (inl b) = before-known x.label (each-at (λ (y : Row). IsKnownBefore records y.label) (rows_at f (started own records imports codes).frames) x (started-known own records imports codes h.earlier h.known f) b)
      by (inr (inl o)) = mine o (shown f x a o)
      by (inr (inr d)) = dots-known x d

  shown-known : (l : Label) → IsShown runs.ended.frames l → IsKnown r records l
  shown-known l (f, s) = subst (IsKnown r records) s.label (row-known f s.row s.there)

  lines-suit : (xs : List Line) → Each (IsWellMade []) (map line_core xs) → Each (λ x. Closed (flat_map defined records ++ defined r) (line_core x)) xs → Each (Suits (flat_map defined records ++ defined r)) (map line_core xs)
  lines-suit [] m c = tt
  lines-suit (x ∷ xs) m c = ((m.0, c.0), lines-suit xs m.1 c.1)

  both-each : (cs : List PlainCore) → Each (IsWellMade []) cs → Each (Closed (flat_map defined records)) cs → Each (Suits (flat_map defined records)) cs
  both-each [] m c = tt
  both-each (x ∷ cs) m c = ((m.0, c.0), both-each cs m.1 c.1)

  record-follows : Follows r records
  record-follows =
      let good = records-good own records imports body codes r is-ready e in
      let kept = keywords-good own records imports body codes r is-ready e in
      let there = each-map (λ (x : ImportedName). IsKnownBefore records x.label) (λ (x : ImportedName). IsThere records x.label.0.library) imports h.known (λ x k. known-there records h.earlier x.label k) in
      let serves = records-serve own records imports body codes r is-ready there e in
      let variables = variables-indexed own records imports body codes r is-ready e in
      let mine : (l : Label) → Among (run_binders r) l → l.0.library ≡ r.name = λ l a. each-at (λ (m : Label). m.0.library ≡ r.name) (run_binders r) l good.0.bound_here a in
      let frames : Each (λ (x : FrameRow). IsOwn own x.frame.0) (rows_in own runs.ended.frames) = subst (λ (k : LibName). Each (λ (x : FrameRow). IsOwn own x.frame.0) (rows_in k runs.ended.frames)) runs.name
      (subst (Each (λ (x : FrameRow). IsOwn own x.frame.0)) runs.frames (each-map (λ (x : FrameRow). x.frame.0.library ≡ r.name) (λ (x : FrameRow). IsOwn own x.frame.0) r.frames serves.own_frames (λ x k. k ∙ runs.name))) in
      let keyed = runs.grows.keyed (started-keyed own records imports codes (followers-serve records h.earlier) h.new h.no_core h.imported_once) in
      let lines = lines-suit r.run good.0.well_made good.0.closed in
      record {
        named = record {
          new = λ a. h.new (subst (Among (names_of records)) runs.name a);
          no_core = λ k. h.no_core (sym runs.name ∙ k);
          no_prelude = λ k. h.no_prelude (sym runs.name ∙ k);
          exports_once = subst Once (sym (record-named own records imports body codes r e)) h.exported_once;
        };
        own = record {
          own_bindings = serves.own_bindings;
          own_binders = kept.bound_here;
          own_codes = kept.numbered_here;
          own_frames = serves.own_frames;
          bindings_once = variables.bindings_once;
          binders_once = kept.bound_once;
          codes_once = kept.numbered_once;
          rows_once = subst (λ (rows : List FrameRow). Once (map key_of rows)) (sym (runs.frames ∙ ap (λ (k : LibName). rows_in k runs.ended.frames) runs.name)) (rows-once own runs.ended.frames keyed frames);
        };
        bindings = record { kinds = serves.kinds; tops_defined = serves.tops_defined; defined_top = variables.defined_top };
        labels = record {
          exports = each-mapped (IsKnown r records) (λ (x : ImportedName). x.label) r.exports (each-map (λ (x : ImportedName). IsShown runs.ended.frames x.label) (λ (x : ImportedName). IsKnown r records x.label) r.exports runs.exports (λ x k. shown-known x.label k));
          rows = each-mapped (IsKnown r records) (λ (x : FrameRow). x.label) r.frames (each-of (λ (x : FrameRow). IsKnown r records x.label) r.frames (λ x a. frame-known x a));
        };
        code = record { lines = lines; indexed = variables.indexed; indexed_once = variables.indexed_once; transformers = both-each (keywords r) kept.well_made kept.closed };
        references = record {
          references = good.0.references ∙ references-owed r mine;
          known = subst (Each (Among (names_of records))) (sym (good.0.references ∙ references-owed r mine))
              (references-known r records h.earlier mine (each-map (Suits (flat_map defined records ++ defined r)) (Closed (flat_map defined records ++ defined r)) (line_cores r) lines (λ c k. k.1)));
        };
      }
    where
      frame-known : (x : FrameRow) → Among r.frames x → IsKnown r records x.label
      frame-known x a =
          let serves-so = records-serve own records imports body codes r is-ready (each-map (λ (y : ImportedName). IsKnownBefore records y.label) (λ (y : ImportedName). IsThere records y.label.0.library) imports h.known (λ y k. known-there records h.earlier y.label k)) e in
          let mine = each-at (λ (y : FrameRow). y.frame.0.library ≡ r.name) r.frames x serves-so.own_frames a in
          shown-known x.label (row-shown runs.ended.frames x (subst (λ (k : LibName). Among (rows_in k runs.ended.frames) x) (sym mine) (subst (λ (rows : List FrameRow). Among rows x) runs.frames a)))

pub records-follow : RecordsFollow
records-follow own records imports body codes r h e = record-follows own records imports body codes r h e
