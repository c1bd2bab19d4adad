-- Codes and variables of libraries of which an invariant holds.
use Rattle.std.proofs.Common.{Bool, true, false, List, [], ◌∷◌, Option, None, Some, if◌then◌else◌}
use Rattle.indexmap.specs.IndexMap.{insert_entry}
use Rattle.base_data.specs.Elements.{Each}
use Rattle.base_data.specs.declared.name.Label.{Label}
use Rattle.core_language.specs.Core.{PlainCore, quoted, variable, primitive, one_armed, two_armed, assignment, sequence, procedure, letrec, call, instance, matching}
use Rattle.core_language.specs.Core.{PlainCores, none, more, PlainInits, no_init, init, PlainCases, no_case, case, PlainClauses, no_clause, clause, fended, PlainCode}
use Rattle.core_language.specs.Labels.{same_label}
use Rattle.core_language.specs.declared.record.Line.{Line}
use Rattle.core_language.specs.declared.record.Line.TheVariants as line
use Rattle.core_language.specs.Pattern.{PlainPattern}
use Rattle.eval_value.specs.declared.value.Value.{Value}
use Rattle.eval_value.specs.declared.cell.Cell.{Cell}
use Rattle.eval_value.specs.declared.cell.Cell.TheVariants as cell
use Rattle.eval_code.specs.Codes.{Codes, same_code, with_code, procedure_code, with_codes, with_all, with_inits, with_cases, with_clauses}
use Rattle.eval_code.specs.Lines.{with_lines, with_value, with_values, with_values_in, defined}
use Rattle.eval_code.specs.Variables.{Entries}
use Rattle.law_invariants.specs.Invariant.{Invariant, OptionHolds}
use Rattle.law_invariants.specs.Holds.{ValueHolds, VariableHolds, CellHolds, CoreHolds, CoresHold, InitsHold, CasesHold, ClausesHold, CodeHolds, CodesHold, GlobalsHold, LinesHold}
use Rattle.law_invariants.proofs.Variables.{EntriesHold}

-- Tables with one more entry, or one in place of another.

pub inserted-holds : {A V : Type 0} (Q : V → Type 0) (same : A → A → Bool) (es : List (A × V)) (k : A) (v : V) → Each (λ (e : A × V). Q e.1) es → Q v → Each (λ (e : A × V). Q e.1) (insert_entry same es k v)
inserted-holds Q same [] k v h j = (j, tt)
inserted-holds {A} {V} Q same (e ∷ es) k v h j = by_same (_) (inserted-holds Q same es k v h.1 j)
  where
    by_same : (b : Bool) → Each (λ (e : A × V). Q e.1) (insert_entry same es k v) → Each (λ (e : A × V). Q e.1) (if b then (e.0, v) ∷ es else e ∷ insert_entry same es k v)
    by_same true i = (j, h.1)
    by_same false i = (h.0, i)

-- Codes.

module _ (I : Invariant) (code : (p : PlainPattern) (A : Type 0) → I.clauses p A → A) where
  pub one-code : (c : PlainCode) (cs : Codes) → CodesHold I cs → CodeHolds I c → CodesHold I (with_code c cs)
  one-code c cs h k = inserted-holds (CodeHolds I) same_code cs c.number c h k

  mutual
    pub codes-hold : (c : PlainCore) (cs : Codes) → CodesHold I cs → CoreHolds I c → CodesHold I (with_codes c cs)
    codes-hold (quoted d) cs h k = h
    codes-hold (variable l) cs h k = h
    codes-hold (primitive op) cs h k = h
    codes-hold (one_armed c d) cs h k = codes-hold d (with_codes c cs) (codes-hold c cs h k.0) k.1
    codes-hold (two_armed c d e) cs h k = codes-hold e (with_codes d (with_codes c cs)) (codes-hold d (with_codes c cs) (codes-hold c cs h k.0) k.1.0) k.1.1
    codes-hold (assignment l c) cs h k = codes-hold c cs h k
    codes-hold (sequence xs) cs h k = all-codes xs cs h k
    codes-hold (procedure number xs plain) cs h k = case-codes xs (with_code (procedure_code number xs plain) cs) (one-code (procedure_code number xs plain) cs h k) k
    codes-hold (letrec o is c) cs h k = codes-hold c (with_inits is cs) (init-codes is cs h k.0) k.1
    codes-hold (call c xs) cs h k = all-codes xs (with_codes c cs) (codes-hold c cs h k.0) k.1
    codes-hold (instance t s) cs h k = h
    codes-hold (matching c xs s) cs h k = clause-codes xs (with_codes c cs) (codes-hold c cs h k.0) k.1

    all-codes : (xs : PlainCores) (cs : Codes) → CodesHold I cs → CoresHold I xs → CodesHold I (with_all xs cs)
    all-codes none cs h k = h
    all-codes (more c xs) cs h k = all-codes xs (with_codes c cs) (codes-hold c cs h k.0) k.1

    init-codes : (is : PlainInits) (cs : Codes) → CodesHold I cs → InitsHold I is → CodesHold I (with_inits is cs)
    init-codes no_init cs h k = h
    init-codes (init l c is) cs h k = init-codes is (with_codes c cs) (codes-hold c cs h k.0) k.1

    pub case-codes : (xs : PlainCases) (cs : Codes) → CodesHold I cs → CasesHold I xs → CodesHold I (with_cases xs cs)
    case-codes no_case cs h k = h
    case-codes (case f c xs) cs h k = case-codes xs (with_codes c cs) (codes-hold c cs h k.0) k.1

    clause-codes : (xs : PlainClauses) (cs : Codes) → CodesHold I cs → ClausesHold I xs → CodesHold I (with_clauses xs cs)
    clause-codes no_clause cs h k = h
    clause-codes (clause p c xs) cs h k = let parts = code p (CoreHolds I c × ClausesHold I xs) k in clause-codes xs (with_codes c cs) (codes-hold c cs h parts.0) parts.1
    clause-codes (fended p f c xs) cs h k =
        let parts = code p (CoreHolds I f × (CoreHolds I c × ClausesHold I xs)) k in
        clause-codes xs (with_codes c (with_codes f cs)) (codes-hold c (with_codes f cs) (codes-hold f cs h parts.0) parts.1.0) parts.1.1

  pub line-codes : (ls : List Line) (cs : Codes) → CodesHold I cs → LinesHold I ls → CodesHold I (with_lines ls cs)
  line-codes [] cs h k = h
  line-codes (line.Define l c ∷ ls) cs h k = line-codes ls (with_codes c cs) (codes-hold c cs h k.0) k.1
  line-codes (line.Expr c ∷ ls) cs h k = line-codes ls (with_codes c cs) (codes-hold c cs h k.0) k.1

  -- The variables of a library.

  one-value : (l : Label) (o : Option Value) (gs : List (Label × Value)) → GlobalsHold I gs → VariableHolds I o → GlobalsHold I (with_value l o gs)
  one-value l None gs h k = h
  one-value l (Some v) gs h k = inserted-holds (ValueHolds I) same_label gs l v h k

  all-values : (es : Entries) (gs : List (Label × Value)) → GlobalsHold I gs → EntriesHold I es → GlobalsHold I (with_values es gs)
  all-values [] gs h k = h
  all-values (e ∷ es) gs h k = all-values es (with_value e.0 e.1 gs) (one-value e.0 e.1 gs h k.0) k.1

  pub values-in : (o : Option Cell) (gs : List (Label × Value)) → GlobalsHold I gs → OptionHolds (CellHolds I) o → GlobalsHold I (with_values_in o gs)
  values-in None gs h k = h
  values-in (Some (cell.Scope es p)) gs h k = all-values es gs h k
  values-in (Some (cell.Pair x y)) gs h k = h
  values-in (Some (cell.Vector xs)) gs h k = h
  values-in (Some (cell.Str text)) gs h k = h
  values-in (Some (cell.Binds bs p)) gs h k = h
  values-in (Some (cell.Transformer x)) gs h k = h

  pub unset-defined : (ls : List Line) → EntriesHold I (defined ls)
  unset-defined [] = tt
  unset-defined (line.Define l c ∷ ls) = (tt, unset-defined ls)
  unset-defined (line.Expr c ∷ ls) = unset-defined ls
