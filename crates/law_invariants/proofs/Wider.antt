-- What an invariant holds of a wider one holds of.
use Rattle.std.proofs.Common.{List, Option, None, Some}
use Rattle.base_data.proofs.ElementLemmas.{each-implied}
use Rattle.base_data.specs.declared.name.CodeNo.{CodeNo}
use Rattle.base_data.specs.declared.name.Label.{Label}
use Rattle.core_language.specs.Core.{PlainCore, quoted, variable, primitive, one_armed, two_armed, assignment, sequence, procedure, letrec, call, instance, matching}
use Rattle.core_language.specs.Core.{PlainCores, none, more, PlainInits, no_init, init, PlainCases, no_case, case, PlainClauses, no_clause, clause, fended, PlainCode}
use Rattle.core_language.specs.Template as template
use Rattle.core_language.specs.Template.{PlainTemplate, PlainItems}
use Rattle.core_language.specs.declared.record.Line.{Line}
use Rattle.core_language.specs.declared.record.Line.TheVariants as line
use Rattle.eval_value.specs.Bind as bind
use Rattle.eval_value.specs.Bind.{PlainBind, PlainBinds}
use Rattle.eval_value.specs.declared.value.Value.{Value}
use Rattle.eval_value.specs.declared.value.Value.TheVariants as value
use Rattle.eval_value.specs.declared.cell.Cell.{Cell}
use Rattle.eval_value.specs.declared.cell.Cell.TheVariants as cell
use Rattle.law_invariants.specs.Holds.{ValueHolds, ValuesHold, BindHolds, BindsHold, VariableHolds, CellHolds, CellsHold, TemplateHolds, ItemsHold, CoreHolds, CoresHold, InitsHold, CasesHold, ClausesHold, CodesHold, GlobalsHold, LineHolds, LinesHold}
use Rattle.law_invariants.specs.Invariant.{Invariant}
use Rattle.law_invariants.specs.Closed.{Wider}

module _ (I J : Invariant) (wider : Wider I J) where
  pub value_wider : (v : Value) → ValueHolds I v → ValueHolds J v
  value_wider (value.Syn t) h = wider.trees t h
  value_wider value.Unspecified h = tt
  value_wider (value.Atom a) h = wider.atoms a h
  value_wider (value.Symbol s) h = wider.symbols s h
  value_wider (value.Pair p) h = tt
  value_wider (value.Vector p) h = tt
  value_wider (value.Str p) h = tt
  value_wider (value.Closure number p) h = tt
  value_wider (value.Prim op) h = tt
  value_wider (value.Transformer p) h = tt

  pub values_wider : (vs : List Value) → ValuesHold I vs → ValuesHold J vs
  values_wider vs h = each-implied (ValueHolds I) (ValueHolds J) value_wider vs h

  mutual
    pub bind_wider : (b : PlainBind) → BindHolds I b → BindHolds J b
    bind_wider (bind.one v) h = value_wider v h
    bind_wider (bind.many bs) h = binds_wider bs h

    pub binds_wider : (bs : PlainBinds) → BindsHold I bs → BindsHold J bs
    binds_wider bind.none h = tt
    binds_wider (bind.more b bs) h = (bind_wider b h.0, binds_wider bs h.1)

  variable_wider : (o : Option Value) → VariableHolds I o → VariableHolds J o
  variable_wider None h = tt
  variable_wider (Some v) h = value_wider v h

  cell_wider : (c : Cell) → CellHolds I c → CellHolds J c
  cell_wider (cell.Pair x y) h = (value_wider x h.0, value_wider y h.1)
  cell_wider (cell.Vector xs) h = values_wider xs h
  cell_wider (cell.Str text) h = wider.texts text h
  cell_wider (cell.Scope es parent) h = each-implied (λ (e : Label × Option Value). VariableHolds I e.1) (λ (e : Label × Option Value). VariableHolds J e.1) (λ e k. variable_wider e.1 k) es h
  cell_wider (cell.Binds bs parent) h = each-implied (λ (b : Label × PlainBind). BindHolds I b.1) (λ (b : Label × PlainBind). BindHolds J b.1) (λ b k. bind_wider b.1 k) bs h
  cell_wider (cell.Transformer x) h = value_wider x h

  pub cells_wider : (cs : List Cell) → CellsHold I cs → CellsHold J cs
  cells_wider cs h = each-implied (CellHolds I) (CellHolds J) cell_wider cs h

  mutual
    pub template_wider : (t : PlainTemplate) → TemplateHolds I t → TemplateHolds J t
    template_wider (template.variable l d) h = tt
    template_wider (template.constant t) h = wider.trees t h
    template_wider (template.list is t) h = (items_wider is h.0, template_wider t h.1)
    template_wider (template.vector is) h = items_wider is h

    pub items_wider : (is : PlainItems) → ItemsHold I is → ItemsHold J is
    items_wider template.none h = tt
    items_wider (template.more t e is) h = (template_wider t h.0, items_wider is h.1)

  mutual
    pub core_wider : (c : PlainCore) → CoreHolds I c → CoreHolds J c
    core_wider (quoted d) h = wider.constants d h
    core_wider (variable l) h = tt
    core_wider (primitive op) h = tt
    core_wider (one_armed c d) h = (core_wider c h.0, core_wider d h.1)
    core_wider (two_armed c d e) h = (core_wider c h.0, (core_wider d h.1.0, core_wider e h.1.1))
    core_wider (assignment l c) h = core_wider c h
    core_wider (sequence cs) h = cores_wider cs h
    core_wider (procedure number cs plain) h = cases_wider cs h
    core_wider (letrec o is c) h = (inits_wider is h.0, core_wider c h.1)
    core_wider (call c cs) h = (core_wider c h.0, cores_wider cs h.1)
    core_wider (instance t s) h = wider.templates t (TemplateHolds I t) (TemplateHolds J t) (template_wider t) h
    core_wider (matching c cs s) h = (core_wider c h.0, clauses_wider cs h.1)

    pub cores_wider : (cs : PlainCores) → CoresHold I cs → CoresHold J cs
    cores_wider none h = tt
    cores_wider (more c cs) h = (core_wider c h.0, cores_wider cs h.1)

    pub inits_wider : (is : PlainInits) → InitsHold I is → InitsHold J is
    inits_wider no_init h = tt
    inits_wider (init l c is) h = (core_wider c h.0, inits_wider is h.1)

    pub cases_wider : (cs : PlainCases) → CasesHold I cs → CasesHold J cs
    cases_wider no_case h = tt
    cases_wider (case f c cs) h = (core_wider c h.0, cases_wider cs h.1)

    pub clauses_wider : (cs : PlainClauses) → ClausesHold I cs → ClausesHold J cs
    clauses_wider no_clause h = tt
    clauses_wider (clause p c cs) h = wider.clauses p (CoreHolds I c × ClausesHold I cs) (CoreHolds J c × ClausesHold J cs) (λ k. (core_wider c k.0, clauses_wider cs k.1)) h
    clauses_wider (fended p f c cs) h =
        wider.clauses p (CoreHolds I f × (CoreHolds I c × ClausesHold I cs)) (CoreHolds J f × (CoreHolds J c × ClausesHold J cs)) (λ k. (core_wider f k.0, (core_wider c k.1.0, clauses_wider cs k.1.1))) h

  pub codes_wider : (cs : List (CodeNo × PlainCode)) → CodesHold I cs → CodesHold J cs
  codes_wider cs h = each-implied (λ (c : CodeNo × PlainCode). CasesHold I c.1.cases) (λ (c : CodeNo × PlainCode). CasesHold J c.1.cases) (λ c k. cases_wider c.1.cases k) cs h

  pub globals_wider : (gs : List (Label × Value)) → GlobalsHold I gs → GlobalsHold J gs
  globals_wider gs h = each-implied (λ (g : Label × Value). ValueHolds I g.1) (λ (g : Label × Value). ValueHolds J g.1) (λ g k. value_wider g.1 k) gs h

  line_wider : (x : Line) → LineHolds I x → LineHolds J x
  line_wider (line.Define l c) h = core_wider c h
  line_wider (line.Expr c) h = core_wider c h

  pub lines_wider : (ls : List Line) → LinesHold I ls → LinesHold J ls
  lines_wider ls h = each-implied (LineHolds I) (LineHolds J) line_wider ls h
