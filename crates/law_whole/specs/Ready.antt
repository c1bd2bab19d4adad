-- Code that finds all that it needs where it is evaluated.
use Rattle.std.specs.Prelude.{◌≡◌, ◌⊎◌, ℕ, zero, suc, Bool, true, false, List, [], ◌∷◌, length, Option, None, Some, IsTrue, if◌then◌else◌}
use Rattle.std.specs.Map.{lookup}
use Rattle.base_data.specs.declared.name.Label.{Label}
use Rattle.base_region.specs.declared.region.Place.{Place}
use Rattle.core_language.specs.Core as core
use Rattle.core_language.specs.Core.{PlainCore, PlainCores, PlainInits, PlainCases, PlainClauses}
use Rattle.core_language.specs.Labels.{same_label}
use Rattle.core_language.specs.References.{formals_labels}
use Rattle.core_language.specs.Template as template
use Rattle.core_language.specs.Template.{PlainTemplate, PlainItems}
use Rattle.law_core.specs.Parts.{init_labels}
use Rattle.law_core.specs.Templates.{Depths, depths}
use Rattle.eval_value.specs.Bind.{PlainBind, one, many, PlainBinds, none, more}
use Rattle.eval_value.specs.Cells.{is_found}
use Rattle.eval_value.specs.declared.cell.Cell.{Cell}
use Rattle.eval_code.specs.Codes.{code_at, procedure_code}
use Rattle.eval_code.specs.Setting.{PlainSetting}
use Rattle.eval_code.specs.Variables.{found, bind_found}

-- a bind of a variable under so many ellipses
abbrev mutual
  pub HasDepth : ℕ → PlainBind → Type 0
  HasDepth zero (one v) = Unit {0}
  HasDepth zero (many bs) = ⊥
  HasDepth (suc d) (one v) = ⊥
  HasDepth (suc d) (many bs) = HaveDepth d bs

  pub HaveDepth : ℕ → PlainBinds → Type 0
  HaveDepth d none = Unit {0}
  HaveDepth d (more b bs) = HasDepth d b × HaveDepth d bs

-- which variables are found
abbrev pub Variables : Type 1
Variables = Label → Type 0

-- which pattern variables are bound to which depth
abbrev pub PatternVariables : Type 1
PatternVariables = Label → ℕ → Type 0

abbrev pub is_one_of : List Label → Label → Bool
is_one_of [] l = false
is_one_of (m ∷ ms) l = if same_label l m then true else is_one_of ms l

-- these besides
abbrev pub Besides : List Label → Variables → Variables
Besides ls F l = IsTrue (is_one_of ls l) ⊎ F l

abbrev pub OrThisDepth : ℕ → Type 0 → Option ℕ → Type 0
OrThisDepth d X None = X
OrThisDepth d X (Some e) = e ≡ d

-- the variables of a pattern besides, which hide those of the same labels
abbrev pub BesidesPattern : Depths → PatternVariables → PatternVariables
BesidesPattern ds G l d = OrThisDepth d (G l d) (lookup (same_label l) ds)

-- a template whose variables are bound to their depths
abbrev mutual
  pub FindsAll : PatternVariables → PlainTemplate → Type 0
  FindsAll G (template.variable l d) = G l d
  FindsAll G (template.constant t) = Unit {0}
  FindsAll G (template.list is t) = FindsItems G is × FindsAll G t
  FindsAll G (template.vector is) = FindsItems G is

  pub FindsItems : PatternVariables → PlainItems → Type 0
  FindsItems G template.none = Unit {0}
  FindsItems G (template.more t e is) = FindsAll G t × FindsItems G is

module _ (w : PlainSetting) where
  -- Code is ready where it finds its variables, a sequence has a part, and the codes of its procedures stand at their numbers.
  abbrev mutual
    pub Ready : Variables → PatternVariables → PlainCore → Type 0
    Ready F G (core.quoted d) = Unit {0}
    Ready F G (core.variable l) = F l
    Ready F G (core.primitive op) = Unit {0}
    Ready F G (core.one_armed c d) = Ready F G c × Ready F G d
    Ready F G (core.two_armed c d e) = Ready F G c × (Ready F G d × Ready F G e)
    Ready F G (core.assignment l c) = Unit {0}
    Ready F G (core.sequence cs) = SequenceReady F G cs
    Ready F G (core.procedure number cs plain) = (code_at w.codes number ≡ Some (procedure_code number cs plain)) × CasesReady F G cs
    Ready F G (core.letrec o is c) = InitsReady (Besides (init_labels is) F) G is × Ready (Besides (init_labels is) F) G c
    Ready F G (core.call c cs) = Ready F G c × AllReady F G cs
    Ready F G (core.instance t sp) = FindsAll G t
    Ready F G (core.matching c cs sp) = Ready F G c × ClausesReady F G cs

    pub SequenceReady : Variables → PatternVariables → PlainCores → Type 0
    SequenceReady F G core.none = ⊥
    SequenceReady F G (core.more c cs) = Ready F G c × AllReady F G cs

    pub AllReady : Variables → PatternVariables → PlainCores → Type 0
    AllReady F G core.none = Unit {0}
    AllReady F G (core.more c cs) = Ready F G c × AllReady F G cs

    pub InitsReady : Variables → PatternVariables → PlainInits → Type 0
    InitsReady F G core.no_init = Unit {0}
    InitsReady F G (core.init l c is) = Ready F G c × InitsReady F G is

    pub CasesReady : Variables → PatternVariables → PlainCases → Type 0
    CasesReady F G core.no_case = Unit {0}
    CasesReady F G (core.case f c cs) = Ready (Besides (formals_labels f) F) G c × CasesReady F G cs

    pub ClausesReady : Variables → PatternVariables → PlainClauses → Type 0
    ClausesReady F G core.no_clause = Unit {0}
    ClausesReady F G (core.clause p c cs) = Ready F (BesidesPattern (depths 0 p) G) c × ClausesReady F G cs
    ClausesReady F G (core.fended p f c cs) = Ready F (BesidesPattern (depths 0 p) G) f × (Ready F (BesidesPattern (depths 0 p) G) c × ClausesReady F G cs)

  -- what is found from a cell of variables on, or in the globals
  abbrev pub FoundFrom : List Cell → Option Place → Variables
  FoundFrom cells scope l = IsTrue (is_found (found (suc (length cells)) w.globals cells l scope))

abbrev pub BoundTo : ℕ → Option PlainBind → Type 0
BoundTo d None = ⊥
BoundTo d (Some b) = HasDepth d b

-- what is bound from a cell of variables on, each to its depth
abbrev pub BoundFrom : List Cell → Option Place → PatternVariables
BoundFrom cells scope l d = BoundTo d (bind_found (suc (length cells)) cells l scope)

module _ (w : PlainSetting) (cells : List Cell) (scope : Option Place) where
  abbrev pub ReadyIn : PlainCore → Type 0
  ReadyIn c = Ready w (FoundFrom w cells scope) (BoundFrom cells scope) c

  abbrev pub AllReadyIn : PlainCores → Type 0
  AllReadyIn cs = AllReady w (FoundFrom w cells scope) (BoundFrom cells scope) cs

  abbrev pub InitsReadyIn : PlainInits → Type 0
  InitsReadyIn is = InitsReady w (FoundFrom w cells scope) (BoundFrom cells scope) is

  abbrev pub CasesReadyIn : PlainCases → Type 0
  CasesReadyIn cs = CasesReady w (FoundFrom w cells scope) (BoundFrom cells scope) cs

  abbrev pub ClausesReadyIn : PlainClauses → Type 0
  ClausesReadyIn cs = ClausesReady w (FoundFrom w cells scope) (BoundFrom cells scope) cs
