-- Core code that is closed by the names in it.
use Rattle.std.specs.Prelude.{◌≡◌, ℕ, List, ◌∷◌, ◌++◌, map}
use Rattle.std.specs.List.{flat_map}
use Rattle.base_data.specs.Elements.{Each, Among, Once}
use Rattle.base_data.specs.declared.name.Label.{Label}
use Rattle.core_language.specs.Core.{PlainCore, quoted, variable, primitive, one_armed, two_armed, assignment, sequence, procedure, letrec, call, instance, matching}
use Rattle.core_language.specs.Core.{PlainCores, none, more, PlainInits, no_init, init, PlainCases, no_case, case}
use Rattle.core_language.specs.References.{formals_labels}
use Rattle.core_language.specs.declared.record.CompiledLibrary.{CompiledLibrary}
use Rattle.law_core.specs.Parts.{init_labels}
use Rattle.law_core.specs.Records.{defined, line_core, run_binders}
use Rattle.core_output.specs.CoreText.{VariableNames, name_of}
use Rattle.law_names.specs.Apart.{IsReadAsSymbol}

-- the names of labels
abbrev pub names_for : VariableNames → List Label → List (List ℕ)
names_for names ls = map (name_of names) ls

-- Each name that is mentioned or assigned is one of these, or is bound round it. Forms of `syntax` and `syntax-case` have no text.
abbrev mutual
  pub NamesClosed : VariableNames → List (List ℕ) → PlainCore → Type 0
  NamesClosed names ns (quoted d) = Unit {0}
  NamesClosed names ns (variable l) = Among ns (name_of names l)
  NamesClosed names ns (primitive o) = Unit {0}
  NamesClosed names ns (one_armed c d) = NamesClosed names ns c × NamesClosed names ns d
  NamesClosed names ns (two_armed c d e) = NamesClosed names ns c × (NamesClosed names ns d × NamesClosed names ns e)
  NamesClosed names ns (assignment l c) = Among ns (name_of names l) × NamesClosed names ns c
  NamesClosed names ns (sequence cs) = AllNamesClosed names ns cs
  NamesClosed names ns (procedure n cs p) = CaseNamesClosed names ns cs
  NamesClosed names ns (letrec o is c) = InitNamesClosed names (names_for names (init_labels is) ++ ns) is
      × NamesClosed names (names_for names (init_labels is) ++ ns) c
  NamesClosed names ns (call c cs) = NamesClosed names ns c × AllNamesClosed names ns cs
  NamesClosed names ns (instance t s) = ⊥
  NamesClosed names ns (matching c cs s) = ⊥

  pub AllNamesClosed : VariableNames → List (List ℕ) → PlainCores → Type 0
  AllNamesClosed names ns none = Unit {0}
  AllNamesClosed names ns (more c cs) = NamesClosed names ns c × AllNamesClosed names ns cs

  pub InitNamesClosed : VariableNames → List (List ℕ) → PlainInits → Type 0
  InitNamesClosed names ns no_init = Unit {0}
  InitNamesClosed names ns (init l c is) = NamesClosed names ns c × InitNamesClosed names ns is

  pub CaseNamesClosed : VariableNames → List (List ℕ) → PlainCases → Type 0
  CaseNamesClosed names ns no_case = Unit {0}
  CaseNamesClosed names ns (case f c cs) = NamesClosed names (names_for names (formals_labels f) ++ ns) c × CaseNamesClosed names ns cs

-- a name begins with a percent sign, and a file of this text alone has one datum, the symbol of this very text
pub record IsWrittenName (name : List ℕ) : Type 0 where
  pub rest : List ℕ
  pub begins : name ≡ 0x25 ∷ rest
  pub read : (file : List ℕ) (nesting : ℕ) → IsReadAsSymbol file nesting name name

-- The text of these records, with these names: each variable that it defines or binds has such a name; each line is closed by names under
-- the names of all that it defines; and no two binders have one name.
pub record IsWrittenOnce (names : VariableNames) (text : List CompiledLibrary) : Type 0 where
  pub named : Each IsWrittenName (names_for names (flat_map run_binders text))
  pub closed : Each (λ r. Each (λ x. NamesClosed names (names_for names (flat_map defined text)) (line_core x)) r.run) text
  pub bound_once : Once (names_for names (flat_map run_binders text))
