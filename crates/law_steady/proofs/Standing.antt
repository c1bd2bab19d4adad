-- Every record that expansion gives stands behind those before it.
use Rattle.std.proofs.Common.{◌≡◌, Bool, true, false, List, [], ◌∷◌, ◌++◌, map, refl, sym, ap, subst, ◌∙◌, inl, inr, if◌then◌else◌}
use Rattle.std.specs.Prelude.{◌⊎◌}
use Rattle.std.specs.List.{flat_map}
use Rattle.base_data.proofs.ElementLemmas.{each-at, each-of, among-first, among-second, among-parts, among-flat}
use Rattle.base_data.specs.Elements.{Each, Among}
use Rattle.base_data.specs.Same.{same_library, same_library_decides}
use Rattle.base_data.specs.declared.library.LibName.{LibName}
use Rattle.base_data.specs.declared.name.Label.{Label}
use Rattle.core_language.specs.Core as core
use Rattle.core_language.specs.Core.{PlainCore, PlainCores, PlainInits, PlainCases, PlainClauses}
use Rattle.core_language.specs.References.{references, binders, variables, formals_labels}
use Rattle.core_language.specs.declared.record.CompiledLibrary.{CompiledLibrary}
use Rattle.core_language.specs.declared.record.Line.{Line}
use Rattle.core_language.specs.declared.record.Line.TheVariants as line
use Rattle.law_core.specs.Parts.{init_labels}
use Rattle.law_core.specs.Scope.{Closed, AllClosed, InitsClosed, CasesClosed, ClausesClosed}
use Rattle.law_core.specs.WellMade.{IsWellMade}
use Rattle.law_core.specs.Records.{line_core, line_labels, line_binders, defined, run_binders}
use Rattle.law_core.specs.Follows.{names_of, keywords, line_cores, IsOwn}
use Rattle.law_core.proofs.GivenLemmas.{references_given}
use Rattle.base_data.proofs.ElementLemmas.{among-first, among-second, among-parts, among-flat, each-of, each-at}
use Rattle.eval_stage.specs.Libraries.{has_library, with_library}
use Rattle.expand_forms.specs.Top.{code_of, with_label_of, with_labels_of, with_lines_of, refs_of}
use Rattle.law_expand.specs.Good.{IsGood}
use Rattle.law_expand.specs.Keywords.{HasGoodKeywords}
use Rattle.law_expand.specs.Serves.{Serves}
use Rattle.law_expand.proofs.GoodKeywords.{keywords-good}
use Rattle.law_expand.proofs.Records.{records-good}
use Rattle.law_expand.proofs.Serving.{records-serve}
use Rattle.law_stage.proofs.Growing.{has_with}
use Rattle.law_stage.proofs.Sweeping.{with_has}
use Rattle.law_stuck.specs.Behind.{IsOfTexts, IsReferred, IsBehind, AllBehind}
use Rattle.law_stuck.proofs.Behind.{defined_in, stands, name_of, defined_here}
use Rattle.law_stuck.proofs.Mentioned.{with_cases}
use Rattle.law_steady.specs.Libraries.{RecordsStandBehind, MoreStandBefore}

-- Code that is closed under some labels is closed under more.

abbrev Within : List Label → List Label → Type 0
Within ls ms = (l : Label) → Among ls l → Among ms l

within-more : (xs ls ms : List Label) → Within ls ms → Within (xs ++ ls) (xs ++ ms)
within-more xs ls ms w l a = by (among-parts xs ls l a)
  where
    by : Among xs l ⊎ Among ls l → Among (xs ++ ms) l
    by (inl b) = among-first xs ms l b
    by (inr b) = among-second xs ms l (w l b)

each-within : (ls ms : List Label) → Within ls ms → (xs : List Label) → Each (Among ls) xs → Each (Among ms) xs
each-within ls ms w [] h = tt
each-within ls ms w (x ∷ xs) h = (w x h.0, each-within ls ms w xs h.1)

mutual
  closed-more : (ls ms : List Label) → Within ls ms → (c : PlainCore) → Closed ls c → Closed ms c
  closed-more ls ms w (core.quoted d) h = tt
  closed-more ls ms w (core.variable l) h = w l h
  closed-more ls ms w (core.primitive o) h = tt
  closed-more ls ms w (core.one_armed c d) h = (closed-more ls ms w c h.0, closed-more ls ms w d h.1)
  closed-more ls ms w (core.two_armed c d e) h = (closed-more ls ms w c h.0, (closed-more ls ms w d h.1.0, closed-more ls ms w e h.1.1))
  closed-more ls ms w (core.assignment l c) h = (w l h.0, closed-more ls ms w c h.1)
  closed-more ls ms w (core.sequence cs) h = all-more ls ms w cs h
  closed-more ls ms w (core.procedure n cs p) h = cases-more ls ms w cs h
  closed-more ls ms w (core.letrec o is c) h =
      let v = within-more (init_labels is) ls ms w in (inits-more (init_labels is ++ ls) (init_labels is ++ ms) v is h.0, closed-more (init_labels is ++ ls) (init_labels is ++ ms) v c h.1)
  closed-more ls ms w (core.call c cs) h = (closed-more ls ms w c h.0, all-more ls ms w cs h.1)
  closed-more ls ms w (core.instance t s) h = each-within ls ms w _ h
  closed-more ls ms w (core.matching c cs s) h = (closed-more ls ms w c h.0, clauses-more ls ms w cs h.1)

  all-more : (ls ms : List Label) → Within ls ms → (cs : PlainCores) → AllClosed ls cs → AllClosed ms cs
  all-more ls ms w core.none h = tt
  all-more ls ms w (core.more c cs) h = (closed-more ls ms w c h.0, all-more ls ms w cs h.1)

  inits-more : (ls ms : List Label) → Within ls ms → (is : PlainInits) → InitsClosed ls is → InitsClosed ms is
  inits-more ls ms w core.no_init h = tt
  inits-more ls ms w (core.init l c is) h = (closed-more ls ms w c h.0, inits-more ls ms w is h.1)

  cases-more : (ls ms : List Label) → Within ls ms → (cs : PlainCases) → CasesClosed ls cs → CasesClosed ms cs
  cases-more ls ms w core.no_case h = tt
  cases-more ls ms w (core.case f c cs) h = (closed-more (formals_labels f ++ ls) (formals_labels f ++ ms) (within-more (formals_labels f) ls ms w) c h.0, cases-more ls ms w cs h.1)

  clauses-more : (ls ms : List Label) → Within ls ms → (cs : PlainClauses) → ClausesClosed ls cs → ClausesClosed ms cs
  clauses-more ls ms w core.no_clause h = tt
  clauses-more ls ms w (core.clause p c cs) h = (closed-more (variables p ++ ls) (variables p ++ ms) (within-more (variables p) ls ms w) c h.0, clauses-more ls ms w cs h.1)
  clauses-more ls ms w (core.fended p f c cs) h =
      let v = within-more (variables p) ls ms w in
      (closed-more (variables p ++ ls) (variables p ++ ms) v f h.0, (closed-more (variables p ++ ls) (variables p ++ ms) v c h.1.0, clauses-more ls ms w cs h.1.1))

-- What more records define.

defines-more : (few many : List CompiledLibrary) → ((q : CompiledLibrary) → Among few q → Among many q) → Within (flat_map defined few) (flat_map defined many)
defines-more few many w l a = let d = defined_in few l a in among-flat defined many d.definer l (w d.definer d.among) d.defines

-- what is before others, too
first-more : (ls ms xs : List Label) → Within ls ms → Within (ls ++ xs) (ms ++ xs)
first-more ls ms xs w l a = by (among-parts ls xs l a)
  where
    by : Among ls l ⊎ Among xs l → Among (ms ++ xs) l
    by (inl b) = among-first ms xs l (w l b)
    by (inr b) = among-second ms xs l b

names-more : (few many : List CompiledLibrary) → ((q : CompiledLibrary) → Among few q → Among many q) → (k : LibName) → Among (names_of few) k → Among (names_of many) k
names-more few many w k a = by few a (λ q b. b)
  where
    by : (qs : List CompiledLibrary) → Among (names_of qs) k → ((q : CompiledLibrary) → Among qs q → Among few q) → Among (names_of many) k
    by [] b sub = absurd b
    by (q ∷ qs) (inl e) sub = subst (Among (names_of many)) (sym e) (name_of many q (w q (sub q (inl refl))))
    by (q ∷ qs) (inr b) sub = by qs b (λ z c. sub z (inr c))

pub more_before : MoreStandBefore
more_before few many r w new h = record {
  new = new;
  no_text = h.no_text;
  bindings_here = h.bindings_here;
  lines = lines r.run h.lines;
  transformers = each-of (Closed (flat_map defined many)) (keywords r)
      (λ c a. closed-more (flat_map defined few) (flat_map defined many) (defines-more few many w) c (each-at (Closed (flat_map defined few)) (keywords r) c h.transformers a));
  well_made = h.well_made;
  bound_here = h.bound_here;
  numbered_once = h.numbered_once;
  numbered_here = h.numbered_here;
  referred = h.referred;
  known = λ k e. names-more few many w k (h.known k e);
}
  where
    lines : (xs : List Line) → Each (λ x. Closed (flat_map defined few ++ defined r) (line_core x)) xs → Each (λ x. Closed (flat_map defined many ++ defined r) (line_core x)) xs
    lines [] k = tt
    lines (x ∷ xs) k =
        (closed-more (flat_map defined few ++ defined r) (flat_map defined many ++ defined r) (first-more (flat_map defined few) (flat_map defined many) (defined r) (defines-more few many w)) (line_core x) k.0, lines xs k.1)

-- References are libraries of labels that lines mention.

module _ (own : LibName) where
  pub label-first : (ls : List Label) (ks : List LibName) (k : LibName) → has_library ks k ≡ true → has_library (with_labels_of own ks ls) k ≡ true
  label-first [] ks k h = h
  label-first (l ∷ ls) ks k h = label-first ls (with_label_of own ks l) k (by (same_library l.0.library own))
    where
      by : (b : Bool) → has_library (if b then ks else with_library ks l.0.library) k ≡ true
      by true = h
      by false = has_with ks l.0.library k h

  pub label-there : (ls : List Label) (ks : List LibName) (l : Label) → Among ls l → (l.0.library ≡ own) ⊎ (has_library (with_labels_of own ks ls) l.0.library ≡ true)
  label-there [] ks l a = absurd a
  label-there (m ∷ ls) ks l (inr a) = label-there ls (with_label_of own ks m) l a
  label-there (m ∷ ls) ks l (inl e) = subst (λ (x : Label). (x.0.library ≡ own) ⊎ (has_library (with_labels_of own ks (m ∷ ls)) x.0.library ≡ true)) (sym e) (by (same_library m.0.library own) refl)
    where
      by : (b : Bool) → same_library m.0.library own ≡ b → (m.0.library ≡ own) ⊎ (has_library (with_labels_of own (if b then ks else with_library ks m.0.library) ls) m.0.library ≡ true)
      by true is = inl ((same_library_decides m.0.library own).0 is)
      by false is = inr (label-first ls (with_library ks m.0.library) m.0.library (with_has ks m.0.library))

  pub line-first : (xs : List Line) (ks : List LibName) (k : LibName) → has_library ks k ≡ true → has_library (with_lines_of own ks xs) k ≡ true
  line-first [] ks k h = h
  line-first (x ∷ xs) ks k h = line-first xs (with_labels_of own ks (references (code_of x))) k (label-first (references (code_of x)) ks k h)

  same-core : (x : Line) → code_of x ≡ line_core x
  same-core (line.Define l c) = refl
  same-core (line.Expr c) = refl

  line-there : (xs : List Line) (ks : List LibName) (x : Line) (l : Label) → Among xs x → Among (references (line_core x)) l → (l.0.library ≡ own) ⊎ (has_library (with_lines_of own ks xs) l.0.library ≡ true)
  line-there [] ks x l a b = absurd a
  line-there (y ∷ xs) ks x l (inr a) b = line-there xs (with_labels_of own ks (references (code_of y))) x l a b
  line-there (y ∷ xs) ks x l (inl e) b =
      by (label-there (references (code_of y)) ks l (subst (λ c. Among (references c) l) (ap line_core e ∙ sym (same-core y)) b))
    where
      by : (l.0.library ≡ own) ⊎ (has_library (with_labels_of own ks (references (code_of y))) l.0.library ≡ true) → (l.0.library ≡ own) ⊎ (has_library (with_lines_of own ks (y ∷ xs)) l.0.library ≡ true)
      by (inl o) = inl o
      by (inr h) = inr (line-first xs (with_labels_of own ks (references (code_of y))) l.0.library h)

  -- and nothing else is
  record From (ls : List Label) (k : LibName) : Type 0 where
    label : Label
    among : Among ls label
    is : label.0.library ≡ k
    foreign : label.0.library ≡ own → ⊥

  label-from : (ls : List Label) (ks : List LibName) (k : LibName) → has_library (with_labels_of own ks ls) k ≡ true → (has_library ks k ≡ true) ⊎ From ls k
  label-from [] ks k h = inl h
  label-from (l ∷ ls) ks k h = by (same_library l.0.library own) refl (label-from ls (with_label_of own ks l) k h)
    where
      more : From ls k → From (l ∷ ls) k
      more f = record { label = f.label; among = inr f.among; is = f.is; foreign = f.foreign }

      here : same_library l.0.library own ≡ false → (has_library ks k ≡ true) ⊎ (k ≡ l.0.library) → (has_library ks k ≡ true) ⊎ From (l ∷ ls) k
      here not (inl e) = inl e
      here not (inr e) = inr (record { label = l; among = inl refl; is = sym e; foreign = λ o. let yes = (same_library_decides l.0.library own).1 o in absurd (cc) })

      by : (b : Bool) → same_library l.0.library own ≡ b → (has_library (if b then ks else with_library ks l.0.library) k ≡ true) ⊎ From ls k → (has_library ks k ≡ true) ⊎ From (l ∷ ls) k
      by b is (inr f) = inr (more f)
      by true is (inl e) = inl e
      by false is (inl e) = here is (with_cases ks l.0.library k e)

  record FromLine (xs : List Line) (k : LibName) : Type 0 where
    at : Line
    among : Among xs at
    from : From (references (line_core at)) k

  line-from : (xs : List Line) (ks : List LibName) (k : LibName) → has_library (with_lines_of own ks xs) k ≡ true → (has_library ks k ≡ true) ⊎ FromLine xs k
  line-from [] ks k h = inl h
  line-from (x ∷ xs) ks k h = by (line-from xs (with_labels_of own ks (references (code_of x))) k h)
    where
      here : (has_library ks k ≡ true) ⊎ From (references (code_of x)) k → (has_library ks k ≡ true) ⊎ FromLine (x ∷ xs) k
      here (inl e) = inl e
      here (inr f) = inr (record { at = x; among = inl refl; from = subst (λ c. From (references c) k) (same-core x) f })

      by : (has_library (with_labels_of own ks (references (code_of x))) k ≡ true) ⊎ FromLine xs k → (has_library ks k ≡ true) ⊎ FromLine (x ∷ xs) k
      by (inl e) = here (label-from (references (code_of x)) ks k e)
      by (inr f) = inr (record { at = f.at; among = inr f.among; from = f.from })

-- The record.

module _ (records : List CompiledLibrary) (r : CompiledLibrary) (all : AllBehind [] records) (good : IsGood records r) (keys : HasGoodKeywords records r) (serves : Serves records r) where
  cores-of : (xs : List Line) (c : PlainCore) → Among (map line_core xs) c → (x : Line) × (Among xs x × (c ≡ line_core x))
  cores-of [] c a = absurd a
  cores-of (x ∷ xs) c (inl e) = (x, (inl refl, e))
  cores-of (x ∷ xs) c (inr a) = let k = cores-of xs c a in (k.0, (inr k.1.0, k.1.1))

  referred : Each (λ c. Each (IsReferred r) (references c)) (line_cores r)
  referred = each-of (λ c. Each (IsReferred r) (references c)) (line_cores r) (λ c a. each-of (IsReferred r) (references c) (λ l b. by l (cores-of r.run c a) b))
    where
      by : (l : Label) {c : PlainCore} → ((x : Line) × (Among r.run x × (c ≡ line_core x))) → Among (references c) l → IsReferred r l
      by l k b = to (line-there r.name r.run [] k.0 l k.1.0 (subst (λ d. Among (references d) l) k.1.1 b))
        where
          to : (l.0.library ≡ r.name) ⊎ (has_library (refs_of r.name r.run) l.0.library ≡ true) → IsReferred r l
          to (inl e) = inl e
          to (inr e) = inr (ap (λ ks. has_library ks l.0.library) good.references ∙ e)

  abbrev given : List Label
  given = flat_map defined records ++ defined r

  known : (k : LibName) → has_library r.refs k ≡ true → Among (names_of records) k
  known k e = by (line-from r.name r.run [] k (sym (ap (λ ks. has_library ks k) good.references) ∙ e))
    where
      label-bound : (xs : List Line) (l : Label) → Among (flat_map line_labels xs) l → Among (flat_map line_binders xs) l
      label-bound [] l a = absurd a
      label-bound (x ∷ xs) l a = to (among-parts (line_labels x) (flat_map line_labels xs) l a) (label-bound xs l)
        where
          to : Among (line_labels x) l ⊎ Among (flat_map line_labels xs) l → (Among (flat_map line_labels xs) l → Among (flat_map line_binders xs) l) → Among (line_binders x ++ flat_map line_binders xs) l
          to (inl b) rest = among-first (line_binders x) (flat_map line_binders xs) l (among-first (line_labels x) (binders (line_core x)) l b)
          to (inr b) rest = among-second (line_binders x) (flat_map line_binders xs) l (rest b)

      by : (false ≡ true) ⊎ FromLine r.name r.run k → Among (names_of records) k
      by (inl bad) = absurd (cc)
      by (inr f) =
          let l = f.from.label in
          let closed = each-at (λ x. Closed given (line_core x)) r.run f.at good.closed f.among in
          to l f.from.is f.from.foreign (among-parts (flat_map defined records) (defined r) l (each-at (Among given) (references (line_core f.at)) l (references_given given (line_core f.at) closed) f.from.among))
        where
          to : (l : Label) → l.0.library ≡ k → (l.0.library ≡ r.name → ⊥) → Among (flat_map defined records) l ⊎ Among (defined r) l → Among (names_of records) k
          to l is foreign (inl a) =
              let d = defined_in records l a in
              let st = stands [] records d.definer all d.among in
              subst (Among (names_of records)) (sym (defined_here st.earlier d.definer st.behind l d.defines) ∙ is) (name_of records d.definer d.among)
          to l is foreign (inr a) = absurd (foreign (each-at (λ (m : Label). IsOwn r m.0) (run_binders r) l good.bound_here (label-bound r.run l a)))

  pub stands-behind : (Among (names_of records) r.name → ⊥) → (IsOfTexts r.name → ⊥) → IsBehind records r
  stands-behind new no_text = record {
    new = new;
    no_text = no_text;
    bindings_here = serves.own_bindings;
    lines = good.closed;
    transformers = keys.closed;
    well_made = both (line_cores r) good.well_made;
    bound_here = keys.bound_here;
    numbered_once = keys.numbered_once;
    numbered_here = keys.numbered_here;
    referred = referred;
    known = known;
  }
    where
      both : (cs : List PlainCore) → Each (IsWellMade []) cs → Each (IsWellMade []) (cs ++ keywords r)
      both [] h = keys.well_made
      both (c ∷ cs) h = (h.0, both cs h.1)

pub records_behind : RecordsStandBehind
records_behind own records imports body codes r is_ready all no_text there h =
    let g = records-good own records imports body codes r is_ready h in
    stands-behind records r all g.0 (keywords-good own records imports body codes r is_ready h) (records-serve own records imports body codes r is_ready there h)
    (λ a. is_ready.new (subst (Among (names_of records)) g.1 a)) (λ t. no_text (subst IsOfTexts g.1 t))
