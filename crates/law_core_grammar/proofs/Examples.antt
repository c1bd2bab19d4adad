-- What is spelled in the examples, and what is not.
use Rattle.std.proofs.Common.{◌≡◌, ℕ, true, false, List, refl, arith, Option, None, Some}
use Rattle.base_data.specs.Datum.{PlainDatum, nil}
use Rattle.core_language.specs.Core as core
use Rattle.core_language.specs.Core.{PlainCore}
use Rattle.law_core.specs.Parts.{case_count}
use Rattle.core_output.specs.CoreText.{VariableNames}
use Rattle.law_core_grammar.specs.Names.{IsPrimitive}
use Rattle.law_core_grammar.specs.Spells.{rest, required, SpellsCode}
use Rattle.law_core_grammar.specs.Spells as s
use Rattle.law_core_grammar.specs.Lines.{definition}
use Rattle.law_core_grammar.specs.SameCode.{any_number}
use Rattle.law_core_grammar.specs.Spellable.{HasName}
use Rattle.law_core_grammar.specs.Examples.{names, truth, SpellingExamples}

-- what is asked of an expression that has a spelling
abbrev Named : VariableNames → PlainCore → Type 0
Named ns (core.quoted d) = Unit {0}
Named ns (core.variable l) = HasName ns l
Named ns (core.primitive o) = IsPrimitive o.0
Named ns (core.one_armed t c) = Unit {0}
Named ns (core.two_armed t c e) = Unit {0}
Named ns (core.assignment l c) = Unit {0}
Named ns (core.sequence cs) = Unit {0}
Named ns (core.procedure n cs true) = case_count cs ≡ 1
Named ns (core.procedure n cs false) = Unit {0}
Named ns (core.letrec ordered is c) = Unit {0}
Named ns (core.call c cs) = Unit {0}
Named ns (core.instance t p) = ⊥
Named ns (core.matching c cs p) = ⊥

named : (ns : VariableNames) {c : PlainCore} {d : PlainDatum} → SpellsCode ns c d → Named ns c
named ns (s.constant d h) = tt
named ns (s.quotation d h) = tt
named ns (s.reference {l} {x} h) = (x, h)
named ns (s.primitive o h) = h
named ns (s.one_armed p q) = tt
named ns (s.two_armed p q r) = tt
named ns (s.assignment h p) = tt
named ns (s.sequence p ps) = tt
named ns (s.lambda n fs p) = refl
named ns (s.case_lambda n ps) = tt
named ns (s.letrec ordered ps p) = tt
named ns (s.application p ps) = tt

no_name : (x : List ℕ) → ◌≡◌ {A = Option (List ℕ)} None (Some x) → ⊥
no_name x e = cc

no_truth : true ≡ false → ⊥
no_truth e = cc

pub examples : SpellingExamples
examples = record {
  spelled = definition refl (s.lambda any_number (required refl (rest refl)) (s.two_armed (s.reference refl) (s.quotation nil refl) (s.constant truth refl)));
  text = refl;
  nameless = λ d p. let h = named names p in no_name h.0 h.1;
  keyword = λ d p. let h = named names p in no_truth h.1;
  two_cases = λ d p. let h = named names p in omega (arith, h);
}
