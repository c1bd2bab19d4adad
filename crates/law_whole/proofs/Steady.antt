-- What was ready is ready still, where cells have come and variables have got values.
use Rattle.std.proofs.Common.{◌≡◌, refl, sym, subst, ℕ, suc, List, [], ◌∷◌, Option, Some, None, length, arith, inl, inr}
use Rattle.std.specs.Map.{lookup}
use Rattle.base_data.proofs.ElementLemmas.{each-implied}
use Rattle.base_data.specs.Elements.{Each}
use Rattle.base_data.specs.declared.name.CodeNo.{CodeNo}
use Rattle.base_data.specs.declared.name.Label.{Label}
use Rattle.base_region.specs.declared.region.Place.{Place}
use Rattle.core_language.specs.Core as core
use Rattle.core_language.specs.Core.{PlainCore, PlainCores, PlainInits, PlainCases, PlainClauses, PlainCode}
use Rattle.core_language.specs.Labels.{same_label}
use Rattle.core_language.specs.References.{formals_labels}
use Rattle.core_language.specs.Template as template
use Rattle.core_language.specs.Template.{PlainTemplate, PlainItems}
use Rattle.law_core.specs.Parts.{init_labels}
use Rattle.law_core.specs.Templates.{Depths, depths}
use Rattle.eval_value.specs.Bind.{PlainBind, one, many, PlainBinds, none, more}
use Rattle.eval_value.specs.Cells.{Lies, BindLies, BindsLie, VariableFits, ParentLies, CellLies}
use Rattle.eval_value.specs.declared.value.Value.{Value}
use Rattle.eval_value.specs.declared.value.Value.TheVariants as value
use Rattle.eval_value.specs.declared.cell.Cell.{Cell}
use Rattle.eval_value.specs.declared.cell.Cell.TheVariants as cell
use Rattle.eval_code.specs.Codes.{code_at, procedure_code}
use Rattle.eval_code.specs.Procedures.{first_body, text_body}
use Rattle.eval_code.specs.Setting.{PlainSetting}
use Rattle.law_whole.specs.Ready.{Variables, PatternVariables, Besides, OrThisDepth, BesidesPattern, FindsAll, FindsItems, Ready, SequenceReady, AllReady, InitsReady, CasesReady, ClausesReady, FoundFrom, BoundFrom, ReadyIn, AllReadyIn, InitsReadyIn, CasesReadyIn, ClausesReadyIn}
use Rattle.law_whole.specs.WholeWorld.{CodeReady, ProcedureReady, ValueReady, ValuesReady, OptionReady, BindReady, BindsReady, CellReady, TextReady}
use Rattle.law_whole.specs.Extends.{Stay, Extends}
use Rattle.law_whole.specs.Grows.{WorldGrowth}
use Rattle.law_whole.proofs.Growth.{fits_still, variables_still, found_still, bound_still}

-- Code is ready where more is found.

pub besides_map : (ls : List Label) (F H : Variables) → ((l : Label) → F l → H l) → (l : Label) → Besides ls F l → Besides ls H l
besides_map ls F H f l (inl e) = inl e
besides_map ls F H f l (inr x) = inr (f l x)

or_depth_map : (d : ℕ) (X Y : Type 0) → (X → Y) → (o : Option ℕ) → OrThisDepth d X o → OrThisDepth d Y o
or_depth_map d X Y k None h = k h
or_depth_map d X Y k (Some e) h = h

pub pattern_map : (ds : Depths) (G K : PatternVariables) → ((l : Label) (d : ℕ) → G l d → K l d) → (l : Label) (d : ℕ) → BesidesPattern ds G l d → BesidesPattern ds K l d
pattern_map ds G K g l d h = or_depth_map d (G l d) (K l d) (g l d) (lookup (same_label l) ds) h

mutual
  finds_map : (G K : PatternVariables) → ((l : Label) (d : ℕ) → G l d → K l d) → (t : PlainTemplate) → FindsAll G t → FindsAll K t
  finds_map G K g (template.variable l d) h = g l d h
  finds_map G K g (template.constant t) h = tt
  finds_map G K g (template.list is t) h = (items_map G K g is h.0, finds_map G K g t h.1)
  finds_map G K g (template.vector is) h = items_map G K g is h

  items_map : (G K : PatternVariables) → ((l : Label) (d : ℕ) → G l d → K l d) → (is : PlainItems) → FindsItems G is → FindsItems K is
  items_map G K g template.none h = tt
  items_map G K g (template.more t e is) h = (finds_map G K g t h.0, items_map G K g is h.1)

module _ (w v : PlainSetting) (stay : Stay w.codes v.codes) where
  mutual
    pub ready_map : (F H : Variables) (G K : PatternVariables) → ((l : Label) → F l → H l) → ((l : Label) (d : ℕ) → G l d → K l d) → (c : PlainCore) → Ready w F G c → Ready v H K c
    ready_map F H G K f g (core.quoted d) r = tt
    ready_map F H G K f g (core.variable l) r = f l r
    ready_map F H G K f g (core.primitive op) r = tt
    ready_map F H G K f g (core.one_armed c d) r = (ready_map F H G K f g c r.0, ready_map F H G K f g d r.1)
    ready_map F H G K f g (core.two_armed c d e) r = (ready_map F H G K f g c r.0, (ready_map F H G K f g d r.1.0, ready_map F H G K f g e r.1.1))
    ready_map F H G K f g (core.assignment l c) r = tt
    ready_map F H G K f g (core.sequence cs) r = sequence_map F H G K f g cs r
    ready_map F H G K f g (core.procedure number cs plain) r = (stay number (procedure_code number cs plain) r.0, cases_map F H G K f g cs r.1)
    ready_map F H G K f g (core.letrec o is c) r = (
      inits_map (Besides (init_labels is) F) (Besides (init_labels is) H) G K (besides_map (init_labels is) F H f) g is r.0,
      ready_map (Besides (init_labels is) F) (Besides (init_labels is) H) G K (besides_map (init_labels is) F H f) g c r.1,
    )
    ready_map F H G K f g (core.call c cs) r = (ready_map F H G K f g c r.0, all_map F H G K f g cs r.1)
    ready_map F H G K f g (core.instance t sp) r = finds_map G K g t r
    ready_map F H G K f g (core.matching c cs sp) r = (ready_map F H G K f g c r.0, clauses_map F H G K f g cs r.1)

    sequence_map : (F H : Variables) (G K : PatternVariables) → ((l : Label) → F l → H l) → ((l : Label) (d : ℕ) → G l d → K l d) → (cs : PlainCores) → SequenceReady w F G cs → SequenceReady v H K cs
    sequence_map F H G K f g core.none r = absurd r
    sequence_map F H G K f g (core.more c cs) r = (ready_map F H G K f g c r.0, all_map F H G K f g cs r.1)

    pub all_map : (F H : Variables) (G K : PatternVariables) → ((l : Label) → F l → H l) → ((l : Label) (d : ℕ) → G l d → K l d) → (cs : PlainCores) → AllReady w F G cs → AllReady v H K cs
    all_map F H G K f g core.none r = tt
    all_map F H G K f g (core.more c cs) r = (ready_map F H G K f g c r.0, all_map F H G K f g cs r.1)

    pub inits_map : (F H : Variables) (G K : PatternVariables) → ((l : Label) → F l → H l) → ((l : Label) (d : ℕ) → G l d → K l d) → (is : PlainInits) → InitsReady w F G is → InitsReady v H K is
    inits_map F H G K f g core.no_init r = tt
    inits_map F H G K f g (core.init l c is) r = (ready_map F H G K f g c r.0, inits_map F H G K f g is r.1)

    pub cases_map : (F H : Variables) (G K : PatternVariables) → ((l : Label) → F l → H l) → ((l : Label) (d : ℕ) → G l d → K l d) → (cs : PlainCases) → CasesReady w F G cs → CasesReady v H K cs
    cases_map F H G K f g core.no_case r = tt
    cases_map F H G K f g (core.case fs c cs) r =
        (ready_map (Besides (formals_labels fs) F) (Besides (formals_labels fs) H) G K (besides_map (formals_labels fs) F H f) g c r.0, cases_map F H G K f g cs r.1)

    pub clauses_map : (F H : Variables) (G K : PatternVariables) → ((l : Label) → F l → H l) → ((l : Label) (d : ℕ) → G l d → K l d) → (cs : PlainClauses) → ClausesReady w F G cs → ClausesReady v H K cs
    clauses_map F H G K f g core.no_clause r = tt
    clauses_map F H G K f g (core.clause p c cs) r =
        (ready_map F H (BesidesPattern (depths 0 p) G) (BesidesPattern (depths 0 p) K) f (pattern_map (depths 0 p) G K g) c r.0, clauses_map F H G K f g cs r.1)
    clauses_map F H G K f g (core.fended p d c cs) r = (
      ready_map F H (BesidesPattern (depths 0 p) G) (BesidesPattern (depths 0 p) K) f (pattern_map (depths 0 p) G K g) d r.0,
      (ready_map F H (BesidesPattern (depths 0 p) G) (BesidesPattern (depths 0 p) K) f (pattern_map (depths 0 p) G K g) c r.1.0, clauses_map F H G K f g cs r.1.1),
    )

-- Values, cells and texts, where cells have come, variables have got values, and what is read has come to hold more.

module _ (w v : PlainSetting) (x : Extends w v) (old new : List Cell) (g : WorldGrowth old new) where
  from_later : (scope : Option Place) (l : Label) → FoundFrom w old scope l → FoundFrom v new scope l
  from_later scope l h = found_still old new g w.globals v.globals l (x.globals l) (suc (length old)) (suc (length new)) scope (omega (arith, g.longer)) h

  bound_later : (scope : Option Place) (l : Label) (d : ℕ) → BoundFrom old scope l d → BoundFrom new scope l d
  bound_later scope l d h = bound_still old new g l d (suc (length old)) (suc (length new)) scope (omega (arith, g.longer)) h

  pub ready_later : (scope : Option Place) (c : PlainCore) → ReadyIn w old scope c → ReadyIn v new scope c
  ready_later scope c r = ready_map w v x.codes (FoundFrom w old scope) (FoundFrom v new scope) (BoundFrom old scope) (BoundFrom new scope) (from_later scope) (bound_later scope) c r

  all_later : (scope : Option Place) (cs : PlainCores) → AllReadyIn w old scope cs → AllReadyIn v new scope cs
  all_later scope cs r = all_map w v x.codes (FoundFrom w old scope) (FoundFrom v new scope) (BoundFrom old scope) (BoundFrom new scope) (from_later scope) (bound_later scope) cs r

  inits_later : (scope : Option Place) (is : PlainInits) → InitsReadyIn w old scope is → InitsReadyIn v new scope is
  inits_later scope is r = inits_map w v x.codes (FoundFrom w old scope) (FoundFrom v new scope) (BoundFrom old scope) (BoundFrom new scope) (from_later scope) (bound_later scope) is r

  cases_later : (scope : Option Place) (cs : PlainCases) → CasesReadyIn w old scope cs → CasesReadyIn v new scope cs
  cases_later scope cs r = cases_map w v x.codes (FoundFrom w old scope) (FoundFrom v new scope) (BoundFrom old scope) (BoundFrom new scope) (from_later scope) (bound_later scope) cs r

  clauses_later : (scope : Option Place) (cs : PlainClauses) → ClausesReadyIn w old scope cs → ClausesReadyIn v new scope cs
  clauses_later scope cs r = clauses_map w v x.codes (FoundFrom w old scope) (FoundFrom v new scope) (BoundFrom old scope) (BoundFrom new scope) (from_later scope) (bound_later scope) cs r

  code_later : (number : CodeNo) (place : Place) (o : Option PlainCode) → code_at w.codes number ≡ o → CodeReady w old place o → CodeReady v new place (code_at v.codes number)
  code_later number place None e r = absurd r
  code_later number place (Some code) e r = subst (λ o. CodeReady v new place o) (sym (x.codes number code e)) (cases_later (Some place) code.cases r)

  procedure_later : (y : Value) → ProcedureReady w old y → ProcedureReady v new y
  procedure_later (value.Closure number place) r = code_later number place (code_at w.codes number) refl r
  procedure_later value.Unspecified r = tt
  procedure_later (value.Atom b) r = tt
  procedure_later (value.Symbol s) r = tt
  procedure_later (value.Pair p) r = tt
  procedure_later (value.Vector p) r = tt
  procedure_later (value.Str p) r = tt
  procedure_later (value.Prim op) r = tt
  procedure_later (value.Syn t) r = tt
  procedure_later (value.Transformer p) r = tt

  pub value_later : (y : Value) → ValueReady w old y → ValueReady v new y
  value_later y r = record { fits = fits_still old new g y r.fits; ready = procedure_later y r.ready }

  pub values_later : (ys : List Value) → ValuesReady w old ys → ValuesReady v new ys
  values_later ys r = each-implied (ValueReady w old) (ValueReady v new) value_later ys r

  option_later : (o : Option Value) → OptionReady w old o → OptionReady v new o
  option_later None r = tt
  option_later (Some y) r = value_later y r

  mutual
    bind_later : (b : PlainBind) → BindReady w old b → BindReady v new b
    bind_later (one y) r = value_later y r
    bind_later (many bs) r = turns_later bs r

    turns_later : (bs : PlainBinds) → BindsReady w old bs → BindsReady v new bs
    turns_later none r = tt
    turns_later (more b bs) r = (bind_later b r.0, turns_later bs r.1)

  pub binds_later : (bs : List (Label × PlainBind)) → Each (λ (b : Label × PlainBind). BindReady w old b.1) bs → Each (λ (b : Label × PlainBind). BindReady v new b.1) bs
  binds_later bs r = each-implied (λ (b : Label × PlainBind). BindReady w old b.1) (λ (b : Label × PlainBind). BindReady v new b.1) (λ b k. bind_later b.1 k) bs r

  pub cell_later : (c : Cell) → CellReady w old c → CellReady v new c
  cell_later (cell.Pair y z) r = (value_later y r.0, value_later z r.1)
  cell_later (cell.Vector ys) r = values_later ys r
  cell_later (cell.Str text) r = tt
  cell_later (cell.Scope es parent) r =
      each-implied (λ (e : Label × Option Value). OptionReady w old e.1) (λ (e : Label × Option Value). OptionReady v new e.1) (λ e k. option_later e.1 k) es r
  cell_later (cell.Binds bs parent) r = binds_later bs r
  cell_later (cell.Transformer y) r = value_later y r

  pub globals_later : (gs : List (Label × Value)) → Each (λ (e : Label × Value). ValueReady w old e.1) gs → Each (λ (e : Label × Value). ValueReady v new e.1) gs
  globals_later gs r = each-implied (λ (e : Label × Value). ValueReady w old e.1) (λ (e : Label × Value). ValueReady v new e.1) (λ e k. value_later e.1 k) gs r

  pub text_later : (number : CodeNo) (o : Option PlainCode) → code_at w.codes number ≡ o → TextReady w old (text_body o) → TextReady v new (text_body (code_at v.codes number))
  text_later number None e r = absurd r
  text_later number (Some code) e r = subst (λ o. TextReady v new (text_body o)) (sym (x.codes number code e)) (by_body (first_body code.cases) r)
    where
      by_body : (o : Option PlainCore) → TextReady w old o → TextReady v new o
      by_body None k = absurd k
      by_body (Some c) k = (k.0, ready_later None c k.1)

pub extends_refl : (w : PlainSetting) → Extends w w
extends_refl w = record { codes = λ number code h. h; globals = λ l h. h }

-- The same where nothing else is read.

module _ (w : PlainSetting) (old new : List Cell) (g : WorldGrowth old new) where
  pub from_still : (scope : Option Place) (l : Label) → FoundFrom w old scope l → FoundFrom w new scope l
  from_still scope l h = from_later w w (extends_refl w) old new g scope l h

  pub bound_from_still : (scope : Option Place) (l : Label) (d : ℕ) → BoundFrom old scope l d → BoundFrom new scope l d
  bound_from_still scope l d h = bound_later w w (extends_refl w) old new g scope l d h

  pub ready_still : (scope : Option Place) (c : PlainCore) → ReadyIn w old scope c → ReadyIn w new scope c
  ready_still scope c r = ready_later w w (extends_refl w) old new g scope c r

  pub all_still : (scope : Option Place) (cs : PlainCores) → AllReadyIn w old scope cs → AllReadyIn w new scope cs
  all_still scope cs r = all_later w w (extends_refl w) old new g scope cs r

  pub inits_still : (scope : Option Place) (is : PlainInits) → InitsReadyIn w old scope is → InitsReadyIn w new scope is
  inits_still scope is r = inits_later w w (extends_refl w) old new g scope is r

  pub clauses_still : (scope : Option Place) (cs : PlainClauses) → ClausesReadyIn w old scope cs → ClausesReadyIn w new scope cs
  clauses_still scope cs r = clauses_later w w (extends_refl w) old new g scope cs r

  pub value_still : (y : Value) → ValueReady w old y → ValueReady w new y
  value_still y r = value_later w w (extends_refl w) old new g y r

  pub values_still : (ys : List Value) → ValuesReady w old ys → ValuesReady w new ys
  values_still ys r = values_later w w (extends_refl w) old new g ys r

  pub binds_still : (bs : List (Label × PlainBind)) → Each (λ (b : Label × PlainBind). BindReady w old b.1) bs → Each (λ (b : Label × PlainBind). BindReady w new b.1) bs
  binds_still bs r = binds_later w w (extends_refl w) old new g bs r

  pub cell_still : (c : Cell) → CellReady w old c → CellReady w new c
  cell_still c r = cell_later w w (extends_refl w) old new g c r

  pub globals_still : (gs : List (Label × Value)) → Each (λ (e : Label × Value). ValueReady w old e.1) gs → Each (λ (e : Label × Value). ValueReady w new e.1) gs
  globals_still gs r = globals_later w w (extends_refl w) old new g gs r

  pub text_still : (number : CodeNo) → TextReady w old (text_body (code_at w.codes number)) → TextReady w new (text_body (code_at w.codes number))
  text_still number r = text_later w w (extends_refl w) old new g number (code_at w.codes number) refl r

-- What lies in a cell lies in it still.

module _ (old new : List Cell) (g : WorldGrowth old new) where
  lies_still : (n : ℕ) (v : Value) → Lies old n v → Lies new n v
  lies_still n v h = record { fits = fits_still old new g v h.fits; below = h.below }

  all_lie_still : (n : ℕ) (vs : List Value) → Each (Lies old n) vs → Each (Lies new n) vs
  all_lie_still n [] h = tt
  all_lie_still n (v ∷ vs) h = (lies_still n v h.0, all_lie_still n vs h.1)

  variables_fit_still : (es : List (Label × Option Value)) → Each (λ (e : Label × Option Value). VariableFits old e.1) es → Each (λ (e : Label × Option Value). VariableFits new e.1) es
  variables_fit_still [] h = tt
  variables_fit_still ((l, None) ∷ es) h = (tt, variables_fit_still es h.1)
  variables_fit_still ((l, Some v) ∷ es) h = (fits_still old new g v h.0, variables_fit_still es h.1)

  mutual
    bind_lies_still : (n : ℕ) (b : PlainBind) → BindLies old n b → BindLies new n b
    bind_lies_still n (one v) h = lies_still n v h
    bind_lies_still n (many bs) h = turns_lie_still n bs h

    turns_lie_still : (n : ℕ) (bs : PlainBinds) → BindsLie old n bs → BindsLie new n bs
    turns_lie_still n none h = tt
    turns_lie_still n (more b bs) h = (bind_lies_still n b h.0, turns_lie_still n bs h.1)

  binds_lie_still : (n : ℕ) (bs : List (Label × PlainBind)) → Each (λ (b : Label × PlainBind). BindLies old n b.1) bs → Each (λ (b : Label × PlainBind). BindLies new n b.1) bs
  binds_lie_still n [] h = tt
  binds_lie_still n (b ∷ bs) h = (bind_lies_still n b.1 h.0, binds_lie_still n bs h.1)

  parent_still : (n : ℕ) (p : Option Place) → ParentLies old n p → ParentLies new n p
  parent_still n None h = tt
  parent_still n (Some p) h = (h.0, variables_still old new g p.0 h.1)

  pub cell_lies_still : (n : ℕ) (c : Cell) → CellLies old n c → CellLies new n c
  cell_lies_still n (cell.Pair x y) h = (lies_still n x h.0, lies_still n y h.1)
  cell_lies_still n (cell.Vector xs) h = all_lie_still n xs h
  cell_lies_still n (cell.Str text) h = tt
  cell_lies_still n (cell.Scope es p) h = (variables_fit_still es h.0, parent_still n p h.1)
  cell_lies_still n (cell.Binds bs p) h = (binds_lie_still n bs h.0, parent_still n p h.1)
  cell_lies_still n (cell.Transformer x) h = lies_still n x h
