-- What an invariant says of values, of cells and of core code.
use Rattle.std.specs.Prelude.{List, Option, None, Some}
use Rattle.base_data.specs.Elements.{Each}
use Rattle.base_data.specs.declared.name.CodeNo.{CodeNo}
use Rattle.base_data.specs.declared.name.Label.{Label}
use Rattle.core_language.specs.Core.{PlainCore, quoted, variable, primitive, one_armed, two_armed, assignment, sequence, procedure, letrec, call, instance, matching}
use Rattle.core_language.specs.Core.{PlainCores, none, more, PlainInits, no_init, init, PlainCases, no_case, case, PlainClauses, no_clause, clause, fended, PlainCode}
use Rattle.core_language.specs.Template as template
use Rattle.core_language.specs.Template.{PlainTemplate, PlainItems}
use Rattle.core_language.specs.declared.record.Line.TheVariants as line
use Rattle.core_language.specs.declared.record.Line.{Line}
use Rattle.eval_value.specs.Bind as bind
use Rattle.eval_value.specs.Bind.{PlainBind, PlainBinds}
use Rattle.eval_value.specs.declared.cell.Cell.TheVariants as cell
use Rattle.eval_value.specs.declared.cell.Cell.{Cell}
use Rattle.eval_value.specs.declared.value.Value.TheVariants as value
use Rattle.eval_value.specs.declared.value.Value.{Value}
use Rattle.law_invariants.specs.Invariant.{Invariant}

module _ (I : Invariant) where
  -- Values. What lies at a place is that of the cells.
  abbrev pub ValueHolds : Value → Type 0
  ValueHolds value.Unspecified = Unit {0}
  ValueHolds (value.Atom x) = I.atoms x
  ValueHolds (value.Symbol x) = I.symbols x
  ValueHolds (value.Pair p) = Unit {0}
  ValueHolds (value.Vector p) = Unit {0}
  ValueHolds (value.Str p) = Unit {0}
  ValueHolds (value.Closure number p) = Unit {0}
  ValueHolds (value.Prim op) = Unit {0}
  ValueHolds (value.Syn t) = I.trees t
  ValueHolds (value.Transformer p) = Unit {0}

  abbrev pub ValuesHold : List Value → Type 0
  ValuesHold vs = Each ValueHolds vs

  abbrev mutual
    pub BindHolds : PlainBind → Type 0
    BindHolds (bind.one v) = ValueHolds v
    BindHolds (bind.many bs) = BindsHold bs

    pub BindsHold : PlainBinds → Type 0
    BindsHold bind.none = Unit {0}
    BindsHold (bind.more b bs) = BindHolds b × BindsHold bs

  abbrev pub VariableHolds : Option Value → Type 0
  VariableHolds None = Unit {0}
  VariableHolds (Some v) = ValueHolds v

  abbrev pub CellHolds : Cell → Type 0
  CellHolds (cell.Pair x y) = ValueHolds x × ValueHolds y
  CellHolds (cell.Vector xs) = ValuesHold xs
  CellHolds (cell.Str text) = I.texts text
  CellHolds (cell.Scope es parent) = Each (λ (e : Label × Option Value). VariableHolds e.1) es
  CellHolds (cell.Binds bs parent) = Each (λ (b : Label × PlainBind). BindHolds b.1) bs
  CellHolds (cell.Transformer x) = ValueHolds x

  abbrev pub CellsHold : List Cell → Type 0
  CellsHold cs = Each CellHolds cs

  -- Constants of core code, and those of templates.
  abbrev mutual
    pub TemplateHolds : PlainTemplate → Type 0
    TemplateHolds (template.variable l d) = Unit {0}
    TemplateHolds (template.constant t) = I.trees t
    TemplateHolds (template.list is t) = ItemsHold is × TemplateHolds t
    TemplateHolds (template.vector is) = ItemsHold is

    pub ItemsHold : PlainItems → Type 0
    ItemsHold template.none = Unit {0}
    ItemsHold (template.more t e is) = TemplateHolds t × ItemsHold is

  abbrev mutual
    pub CoreHolds : PlainCore → Type 0
    CoreHolds (quoted d) = I.constants d
    CoreHolds (variable l) = Unit {0}
    CoreHolds (primitive op) = Unit {0}
    CoreHolds (one_armed c d) = CoreHolds c × CoreHolds d
    CoreHolds (two_armed c d e) = CoreHolds c × (CoreHolds d × CoreHolds e)
    CoreHolds (assignment l c) = CoreHolds c
    CoreHolds (sequence cs) = CoresHold cs
    CoreHolds (procedure number cs plain) = CasesHold cs
    CoreHolds (letrec o is c) = InitsHold is × CoreHolds c
    CoreHolds (call c cs) = CoreHolds c × CoresHold cs
    CoreHolds (instance t s) = I.templates t (TemplateHolds t)
    CoreHolds (matching c cs s) = CoreHolds c × ClausesHold cs

    pub CoresHold : PlainCores → Type 0
    CoresHold none = Unit {0}
    CoresHold (more c cs) = CoreHolds c × CoresHold cs

    pub InitsHold : PlainInits → Type 0
    InitsHold no_init = Unit {0}
    InitsHold (init l c is) = CoreHolds c × InitsHold is

    pub CasesHold : PlainCases → Type 0
    CasesHold no_case = Unit {0}
    CasesHold (case f c cs) = CoreHolds c × CasesHold cs

    pub ClausesHold : PlainClauses → Type 0
    ClausesHold no_clause = Unit {0}
    ClausesHold (clause p c cs) = I.clauses p (CoreHolds c × ClausesHold cs)
    ClausesHold (fended p f c cs) = I.clauses p (CoreHolds f × (CoreHolds c × ClausesHold cs))

  abbrev pub CodeHolds : PlainCode → Type 0
  CodeHolds c = CasesHold c.cases

  abbrev pub CodesHold : List (CodeNo × PlainCode) → Type 0
  CodesHold cs = Each (λ (c : CodeNo × PlainCode). CodeHolds c.1) cs

  -- the variables of libraries
  abbrev pub GlobalsHold : List (Label × Value) → Type 0
  GlobalsHold gs = Each (λ (g : Label × Value). ValueHolds g.1) gs

  abbrev pub LineHolds : Line → Type 0
  LineHolds (line.Define l c) = CoreHolds c
  LineHolds (line.Expr c) = CoreHolds c

  abbrev pub LinesHold : List Line → Type 0
  LinesHold ls = Each LineHolds ls
