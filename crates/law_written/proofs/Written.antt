-- What is written for references are the names of their labels.
use Rattle.std.proofs.Common.{◌≡◌, ℕ, Bool, true, false, List, [], ◌∷◌, ◌++◌, map, Some, refl, sym, ◌∙◌, ap, subst, if◌then◌else◌}
use Rattle.std.specs.Map.{lookup}
use Rattle.std.specs.Prelude.{unwrap_or}
use Rattle.base_data.specs.Datum.{PlainDatum}
use Rattle.base_data.specs.Elements.{Each}
use Rattle.base_data.specs.declared.library.LibName.{LibName}
use Rattle.base_data.specs.declared.name.Label.{Label}
use Rattle.core_language.specs.Core.{PlainCore, PlainCores, PlainInits, PlainCases}
use Rattle.core_language.specs.Labels.{same_label}
use Rattle.core_language.specs.References.{mentions, all_mentions, init_mentions, case_mentions}
use Rattle.core_language.specs.declared.record.Line.{Line}
use Rattle.law_core_grammar.specs.Lines as lines
use Rattle.law_core_grammar.specs.Lines.{SpellsLine}
use Rattle.law_core_grammar.specs.Names.{IsCalled, IsGenerated, AreGenerated}
use Rattle.law_core_grammar.specs.Spells as s
use Rattle.law_core_grammar.specs.Spells.{SpellsCode, SpellsAllCode, SpellsInits, SpellsCases}
use Rattle.base_data.specs.Elements as elements
use Rattle.core_output.specs.CoreText.{VariableNames, name_of}
use Rattle.law_references.specs.Noted.{NotedLine, mentioned}
use Rattle.law_references.specs.Records.{line_mentions, IsRightLine}
use Rattle.law_references.specs.Whole.{IsRightReference}
use Rattle.expand_standing.specs.State.{State}
use Rattle.law_written.specs.Written.{written, all_written, inits_written, cases_written, line_written, MentionsAreWritten, WrittenAreGenerated, ReferencesAreWritten}

map-append : {A B : Type 0} (f : A → B) (xs ys : List A) → map f (xs ++ ys) ≡ map f xs ++ map f ys
map-append f [] ys = refl
map-append f (x ∷ xs) ys = ap (λ zs. f x ∷ zs) (map-append f xs ys)

module _ (names : VariableNames) where
  abbrev named : List Label → List (List ℕ)
  named ls = map (name_of names) ls

  -- the name of a label that is called so
  called : (l : Label) (x : List ℕ) → IsCalled names l x → x ≡ name_of names l
  called l x h = sym (ap (λ o. unwrap_or o []) h)

  joined : (xs ys : List (List ℕ)) (ls ms : List Label) → xs ≡ named ls → ys ≡ named ms → xs ++ ys ≡ named (ls ++ ms)
  joined xs ys ls ms h k = (λ i. h i ++ k i) ∙ sym (map-append (name_of names) ls ms)

  mutual
    is-written : {c : PlainCore} {d : PlainDatum} (p : SpellsCode names c d) → written p ≡ named (mentions c)
    is-written (s.constant d h) = refl
    is-written (s.quotation d h) = refl
    is-written (s.reference {l} {x} h) = ap (λ y. y ∷ []) (called l x h)
    is-written (s.primitive o h) = refl
    is-written (s.one_armed {t} {c} p q) = joined (written p) (written q) (mentions t) (mentions c) (is-written p) (is-written q)
    is-written (s.two_armed {t} {c} {a = b} p q r) =
        joined (written p) (written q ++ written r) (mentions t) (mentions c ++ mentions b) (is-written p) (joined (written q) (written r) (mentions c) (mentions b) (is-written q) (is-written r))
    is-written (s.assignment {l} {x} {c} h p) = λ i. called l x h i ∷ is-written p i
    is-written (s.sequence {c} {cs} p ps) = joined (written p) (all_written ps) (mentions c) (all_mentions cs) (is-written p) (all-are-written ps)
    is-written (s.lambda {f} {c} n fs p) = joined (written p) [] (mentions c) [] (is-written p) refl
    is-written (s.case_lambda n ps) = cases-are-written ps
    is-written (s.letrec {is} {c} ordered ps p) = joined (inits_written ps) (written p) (init_mentions is) (mentions c) (inits-are-written ps) (is-written p)
    is-written (s.application {c} {cs} p ps) = joined (written p) (all_written ps) (mentions c) (all_mentions cs) (is-written p) (all-are-written ps)

    all-are-written : {cs : PlainCores} {e : PlainDatum} (ps : SpellsAllCode names cs e) → all_written ps ≡ named (all_mentions cs)
    all-are-written s.no_more = refl
    all-are-written (s.more {c} {cs} p ps) = joined (written p) (all_written ps) (mentions c) (all_mentions cs) (is-written p) (all-are-written ps)

    inits-are-written : {is : PlainInits} {e : PlainDatum} (ps : SpellsInits names is e) → inits_written ps ≡ named (init_mentions is)
    inits-are-written s.no_init = refl
    inits-are-written (s.init {l} {x} {c} {is} h p ps) = joined (written p) (inits_written ps) (mentions c) (init_mentions is) (is-written p) (inits-are-written ps)

    cases-are-written : {cs : PlainCases} {e : PlainDatum} (ps : SpellsCases names cs e) → cases_written ps ≡ named (case_mentions cs)
    cases-are-written s.no_case = refl
    cases-are-written (s.case {f} {c} {cs} fs p ps) = joined (written p) (cases_written ps) (mentions c) (case_mentions cs) (is-written p) (cases-are-written ps)

  line-is-written : {l : Line} {d : PlainDatum} (p : SpellsLine names l d) → line_written p ≡ named (line_mentions l)
  line-is-written (lines.definition h p) = is-written p
  line-is-written (lines.expression p) = is-written p

  -- Generated names.

  both-each : {A : Type 0} (P : A → Type 0) (xs ys : List A) → elements.Each P xs → elements.Each P ys → elements.Each P (xs ++ ys)
  both-each P [] ys h k = k
  both-each P (x ∷ xs) ys h k = (h.0, both-each P xs ys h.1 k)

  module _ (good : AreGenerated names) (of : (l : Label) (x : List ℕ) → IsCalled names l x → IsGenerated x) where
    mutual
      generated : {c : PlainCore} {d : PlainDatum} (p : SpellsCode names c d) → elements.Each IsGenerated (written p)
      generated (s.constant d h) = tt
      generated (s.quotation d h) = tt
      generated (s.reference {l} {x} h) = (of l x h, tt)
      generated (s.primitive o h) = tt
      generated (s.one_armed p q) = both-each IsGenerated (written p) (written q) (generated p) (generated q)
      generated (s.two_armed p q r) = both-each IsGenerated (written p) (written q ++ written r) (generated p) (both-each IsGenerated (written q) (written r) (generated q) (generated r))
      generated (s.assignment {l} {x} h p) = (of l x h, generated p)
      generated (s.sequence p ps) = both-each IsGenerated (written p) (all_written ps) (generated p) (all-generated ps)
      generated (s.lambda n fs p) = both-each IsGenerated (written p) [] (generated p) tt
      generated (s.case_lambda n ps) = cases-generated ps
      generated (s.letrec ordered ps p) = both-each IsGenerated (inits_written ps) (written p) (inits-generated ps) (generated p)
      generated (s.application p ps) = both-each IsGenerated (written p) (all_written ps) (generated p) (all-generated ps)

      all-generated : {cs : PlainCores} {e : PlainDatum} (ps : SpellsAllCode names cs e) → elements.Each IsGenerated (all_written ps)
      all-generated s.no_more = tt
      all-generated (s.more p ps) = both-each IsGenerated (written p) (all_written ps) (generated p) (all-generated ps)

      inits-generated : {is : PlainInits} {e : PlainDatum} (ps : SpellsInits names is e) → elements.Each IsGenerated (inits_written ps)
      inits-generated s.no_init = tt
      inits-generated (s.init h p ps) = both-each IsGenerated (written p) (inits_written ps) (generated p) (inits-generated ps)

      cases-generated : {cs : PlainCases} {e : PlainDatum} (ps : SpellsCases names cs e) → elements.Each IsGenerated (cases_written ps)
      cases-generated s.no_case = tt
      cases-generated (s.case fs p ps) = both-each IsGenerated (written p) (cases_written ps) (generated p) (cases-generated ps)

pub mentions-written : MentionsAreWritten
mentions-written names c d p = is-written names p

-- what a table gives is in it
looked-up : (P : List ℕ → Type 0) (same : Label → Bool) (rows : List (Label × List ℕ)) (x : List ℕ) → elements.Each (λ (r : Label × List ℕ). P r.1) rows → lookup same rows ≡ Some x → P x
looked-up P same [] x h e = absurd (cc)
looked-up P same (r ∷ rows) x h e = by (same r.0) (λ k. looked-up P same rows x h.1 k) e
  where
    by : (b : Bool) → (lookup same rows ≡ Some x → P x) → (if b then Some r.1 else lookup same rows) ≡ Some x → P x
    by true rest k = let is : r.1 ≡ x = cc in subst P is h.0
    by false rest k = rest k

pub written-generated : WrittenAreGenerated
written-generated names c d p good = generated names good (λ l x h. looked-up IsGenerated (same_label l) names x good h) p

told-written : (names : VariableNames) (libs : List LibName) (own : LibName) (u : State) (xs : List NotedLine) → Each (IsRightLine libs own u) xs
    → Each (λ x. ((d : PlainDatum) (p : SpellsLine names x.line d) → line_written p ≡ map (name_of names) (mentioned x.noted.references)) × Each (IsRightReference libs own u) x.noted.references) xs
told-written names libs own u [] h = tt
told-written names libs own u (x ∷ xs) h = (((λ d p. line-is-written names p ∙ ap (map (name_of names)) h.0.mentions), h.0.right), told-written names libs own u xs h.1)

pub references-written : ReferencesAreWritten
references-written names libs own records start at exports forms r h = told-written names libs own h.last h.told h.right
