-- Small examples, of what is spelled and of what is not.
use Rattle.std.specs.Prelude.{◌≡◌, ℕ, true, [], ◌∷◌, None, Some, codes}
use Rattle.base_data.specs.Datum as datum
use Rattle.base_data.specs.Datum.{PlainDatum, nil}
use Rattle.base_data.specs.declared.atom.Atom.TheVariants as a
use Rattle.base_data.specs.declared.library.LibName.TheVariants as library
use Rattle.base_data.specs.declared.name.Label.{Label}
use Rattle.base_data.specs.declared.op.Op.{Op}
use Rattle.core_language.specs.Core.{PlainCore, quoted, variable, primitive, two_armed, procedure, PlainCases, no_case, case}
use Rattle.core_language.specs.declared.record.Line.{Line}
use Rattle.core_language.specs.declared.record.Line.TheVariants as line
use Rattle.core_output.specs.CoreText.{VariableNames, line_text}
use Rattle.law_core_grammar.specs.Spells.{word, before, form, one, two, three, SpellsCode}
use Rattle.law_core_grammar.specs.Lines.{SpellsLine}
use Rattle.law_core_grammar.specs.SameCode.{any_number}

-- a label of the program
abbrev pub label_of : ℕ → Label
label_of n = record { 0 = record { library = library.Program; number = n } }

abbrev pub names : VariableNames
names = (label_of 0, codes "%/f/0") ∷ (label_of 1, codes "%/x/1") ∷ (label_of 2, codes "%/y/2") ∷ []

abbrev pub op : ℕ → PlainCore
op n = let o : Op = record { 0 = n } in primitive o

-- a case that takes x, and the rest as y
abbrev pub taking : PlainCore → PlainCases → PlainCases
taking c cs = case (record { required = label_of 1 ∷ []; rest = Some (label_of 2) }) c cs

abbrev pub truth : PlainDatum
truth = datum.atom None (a.Bool true)

abbrev pub define_f : Line
define_f = line.Define (label_of 0) (procedure any_number (taking (two_armed (variable (label_of 1)) (quoted nil) (quoted truth)) no_case) true)

abbrev pub define_form : PlainDatum
define_form =
    form (codes "define") (two (word (codes "%/f/0")) (form (codes "lambda")
    (two (before (word (codes "%/x/1")) (word (codes "%/y/2"))) (form (codes "if") (three (word (codes "%/x/1")) (form (codes "quote") (one nil)) truth)))))

pub record SpellingExamples : Type 0 where
  -- (define %/f/0 (lambda (%/x/1 . %/y/2) (if %/x/1 (quote ()) #t)))
  pub spelled : SpellsLine names define_f define_form
  pub text : line_text names define_f ≡ codes "(define %/f/0 (lambda (%/x/1 . %/y/2) (if %/x/1 (quote ()) #t)))\n"
  -- a variable without a name, the keyword `if` in the place of a primitive, and a `lambda` of two cases have no spelling
  pub nameless : (d : PlainDatum) → SpellsCode names (variable (label_of 3)) d → ⊥
  pub keyword : (d : PlainDatum) → SpellsCode names (op 2) d → ⊥
  pub two_cases : (d : PlainDatum) → SpellsCode names (procedure any_number (taking (quoted truth) (taking (quoted truth) no_case)) true) d → ⊥
