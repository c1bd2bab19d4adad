-- Labels that are added one after another.
use Rattle.std.proofs.Common.{◌≡◌, ℕ, suc, ◌+◌, ◌<◌, List, [], ◌∷◌, ◌++◌, length, get_or, drop, refl, sym, ap, ◌∙◌, append_assoc, add-one, drop-cons}
use Rattle.std.specs.Prelude.{Option, None, Some}
use Rattle.base_data.specs.declared.name.Label.{Label}
use Rattle.core_language.specs.Labels.{with_label, with_labels}
use Rattle.core_language.specs.Pattern.{PlainPattern, PlainPatterns, patterns, patterns_on}
use Rattle.core_language.specs.Core.{PlainCore}
use Rattle.core_language.specs.CoreView.{clauses}
use Rattle.core_language.specs.declared.code.Clause.{Clause}
use Rattle.core_language.specs.References.{variables, all_variables, binders, mentions, clause_binders, clause_mentions}

pub with_labels_joined : (ls xs ys : List Label) → with_labels ls (xs ++ ys) ≡ with_labels (with_labels ls xs) ys
with_labels_joined ls [] ys = refl
with_labels_joined ls (x ∷ xs) ys = with_labels_joined (with_label ls x) xs ys

pub variables_on : (ps : List PlainPattern) (q : PlainPatterns) → all_variables (patterns_on ps q) ≡ all_variables (patterns ps) ++ all_variables q
variables_on [] q = refl
variables_on (p ∷ ps) q = ap (λ ls. variables p ++ ls) (variables_on ps q) ∙ sym (append_assoc (variables p) (all_variables (patterns ps)) (all_variables q))

-- a clause, and then the others
pub clause_binders_more : (c : Clause) (cs : List Clause) → clause_binders (clauses (c ∷ cs)) ≡ clause_binders (clauses (c ∷ [])) ++ clause_binders (clauses cs)
clause_binders_more c cs = go c.fender
  where
    rest : List Label
    rest = clause_binders (clauses cs)

    go : (f : Option PlainCore) → clause_binders (clauses (record c { fender = f } ∷ cs)) ≡ clause_binders (clauses (record c { fender = f } ∷ [])) ++ rest
    go None = sym (append_assoc (variables c.pattern) (binders c.output ++ []) rest ∙ ap (λ ls. variables c.pattern ++ ls) (append_assoc (binders c.output) [] rest))
    go (Some f) = sym (append_assoc (variables c.pattern) (binders f ++ (binders c.output ++ [])) rest
        ∙ ap (λ ls. variables c.pattern ++ ls) (append_assoc (binders f) (binders c.output ++ []) rest ∙ ap (λ ls. binders f ++ ls) (append_assoc (binders c.output) [] rest)))

pub clause_mentions_more : (c : Clause) (cs : List Clause) → clause_mentions (clauses (c ∷ cs)) ≡ clause_mentions (clauses (c ∷ [])) ++ clause_mentions (clauses cs)
clause_mentions_more c cs = go c.fender
  where
    rest : List Label
    rest = clause_mentions (clauses cs)

    go : (f : Option PlainCore) → clause_mentions (clauses (record c { fender = f } ∷ cs)) ≡ clause_mentions (clauses (record c { fender = f } ∷ [])) ++ rest
    go None = sym (append_assoc (mentions c.output) [] rest)
    go (Some f) = sym (append_assoc (mentions f) (mentions c.output ++ []) rest ∙ ap (λ ls. mentions f ++ ls) (append_assoc (mentions c.output) [] rest))

-- an item's labels are added: the rest goes on from there
module _ {T : Type 0} (f : List T → List Label) (g : T → List Label) (split : (x : T) (xs : List T) → f (x ∷ xs) ≡ g x ++ f xs) where
  pub labels_on : (items : List T) (i : ℕ) (item : T) (b new total : List Label) → i < length items → item ≡ get_or items i item
      → new ≡ with_labels b (g item) → with_labels b (f (drop i items)) ≡ total → with_labels new (f (drop (i + 1) items)) ≡ total
  labels_on items i item b new total h e is so_far =
      let cons : drop i items ≡ item ∷ drop (i + 1) items = rw add-one (drop-cons items i item h ∙ ap (λ x. x ∷ drop (suc i) items) (sym e)) in
      ap (λ ls. with_labels ls (f (drop (i + 1) items))) is ∙ sym (with_labels_joined b (g item) (f (drop (i + 1) items)))
      ∙ ap (with_labels b) (sym (split item (drop (i + 1) items)) ∙ ap f (sym cons)) ∙ so_far
