-- What is put of the parts of expressions.
use Rattle.std.proofs.Common.{◌≡◌, ℕ, Bool, true, false, List, [], ◌∷◌, ◌++◌, refl, sym, ap, subst, ◌∙◌, append_assoc}
use Rattle.std.specs.Prelude.{◌&&◌, map, Vec}
use Rattle.std.specs.declared.alloc.Global.{Global}
use Rattle.std.specs.declared.boxed.Box.{Box}
use Rattle.base_data.specs.declared.span.Span.{Span}
use Rattle.base_data.specs.declared.name.Label.{Label}
use Rattle.base_bytes.specs.Codec.{Codec, listed, optional, ◌then◌}
use Rattle.base_bytes.specs.Names.{label, span}
use Rattle.base_bytes.specs.Puts.{PutsIf}
use Rattle.core_codec.specs.Code.{ClauseParts, CoreCases, core_level, formals, pattern, core_parts, inits, cases, clauses}
use Rattle.core_language.specs.Core.{PlainCore, PlainClauses, cores}
use Rattle.core_language.specs.CoreView as view
use Rattle.core_language.specs.declared.code.Clause.{Clause}
use Rattle.core_language.specs.declared.code.CoreNode.{CoreNode}
use Rattle.core_language.specs.declared.code.CoreNode.TheVariants as n
use Rattle.core_language.specs.declared.code.Init.{Init}
use Rattle.core_language.specs.declared.code.Lambda.{Lambda}
use Rattle.core_language.specs.declared.formals.Formals.{Formals}
use Rattle.core_code_bytes.specs.Seen.{choice, node_cases, seen_to, init_part, case_part, clause_part, cores_there, inits_are, cases_are, clauses_are}

module _ (part : Codec PlainCore) (old new : List ℕ) (b : Bool) where
  pub node_puts : (x : CoreNode) → PutsIf (choice part) (node_cases x) old new b → PutsIf (core_level part) (view.seen x) old new b
  unfolding core_level
  node_puts x p = subst (λ (z : CoreCases). PutsIf (choice part) z old new b) (sym (seen_to x)) p

  pub parts_puts : (xs : List PlainCore) → PutsIf (listed part) xs old new b → PutsIf (core_parts part) (cores xs) old new b
  unfolding core_parts
  parts_puts xs p = subst (λ (z : List PlainCore). PutsIf (listed part) z old new b) (sym (cores_there xs)) p

  pub inits_puts : (is : List Init) → PutsIf (listed (label then part)) (map init_part is) old new b → PutsIf (inits part) (view.inits is) old new b
  unfolding inits
  inits_puts is p = subst (λ (z : List (Label × PlainCore)). PutsIf (listed (label then part)) z old new b) (sym (inits_are is)) p

  pub cases_puts : (is : List Lambda) → PutsIf (listed (formals then part)) (map case_part is) old new b → PutsIf (cases part) (view.cases is) old new b
  unfolding cases
  cases_puts is p = subst (λ (z : List (Formals × PlainCore)). PutsIf (listed (formals then part)) z old new b) (sym (cases_are is)) p

  pub clauses_puts : (is : List Clause) → PutsIf (listed (pattern 2000 then optional part then part)) (map clause_part is) old new b
      → PutsIf (clauses part) (view.clauses is) old new b
  unfolding clauses
  clauses_puts is p = subst (λ (z : List ClauseParts). PutsIf (listed (pattern 2000 then optional part then part)) z old new b) (sym (clauses_are is)) p

-- a `syntax-case`: the tag, the subject, and the clauses with the span
module _ (part : Codec PlainCore) (x : Box PlainCore Global) (cs : Vec Clause Global) (s : Span) (old mid new : List ℕ) where
  abbrev behind : Codec (PlainClauses × Span)
  behind = clauses part then span

  both : (b : Bool) → PutsIf part x.value (old ++ 10 ∷ []) mid true → PutsIf behind (view.clauses cs.items, s) mid new b
      → PutsIf (choice part) (node_cases (n.SyntaxCase x cs s)) old new b
  both true p q = (
    q.0 ∙ ap (λ (v : Bool). v && behind.fits (view.clauses cs.items, s)) p.0,
    q.1 ∙ ap (λ (z : List ℕ). z ++ behind.put (view.clauses cs.items, s)) p.1 ∙ append_assoc (old ++ 10 ∷ []) (part.put x.value) (behind.put (view.clauses cs.items, s))
        ∙ append_assoc old (10 ∷ []) (part.put x.value ++ behind.put (view.clauses cs.items, s)),
  )
  both false p q = (q.0 ∙ ap (λ (v : Bool). v && behind.fits (view.clauses cs.items, s)) p.0, refl)

  pub matching_puts : (node : CoreNode) (subject : PlainCore) (list : List Clause) (pushed : List ℕ) (a b : Bool) → node ≡ n.SyntaxCase x cs s → subject ≡ x.value → list ≡ cs.items → pushed ≡ old ++ 10 ∷ []
      → a ≡ true → PutsIf part subject pushed mid a → PutsIf behind (view.clauses list, s) mid new b → PutsIf (choice part) (node_cases node) old new b
  matching_puts node subject list pushed a b is value_is list_is pushed_is fits_is p q =
      rw is (both b (rw (value_is, pushed_is, fits_is) at p) (rw list_is at q))
