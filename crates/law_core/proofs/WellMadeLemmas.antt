-- Whether core code is well made is told by a test.
use Rattle.std.proofs.Common.{◌<◌, Bool, true, false, ◌++◌}
use Rattle.std.specs.Prelude.{not, nat_lt}
use Rattle.std.specs.List.{flat_map}
use Rattle.std.specs.Bool.{Decides}
use Rattle.std.proofs.lemmas.Bool.Decides.{Decides-and, Decides-not, Decides-like, Decides-ltb, Decides-eqb}
use Rattle.base_data.specs.Elements.{Each, Among, Once}
use Rattle.base_data.specs.Op.{name_count}
use Rattle.base_data.specs.declared.name.Label.{Label}
use Rattle.stx_tree.specs.Tree as tree
use Rattle.stx_tree.specs.Tree.{Tree}
use Rattle.core_language.specs.Core.{PlainCore, quoted, variable, primitive, one_armed, two_armed, assignment, sequence, procedure, letrec, call, instance, matching}
use Rattle.core_language.specs.Labels.{same_label}
use Rattle.core_language.specs.References.{binders, mentions}
use Rattle.law_core.specs.Words.{each, among, once}
use Rattle.law_core.specs.Parts.{parts, core_count, case_count, literals, ops, code_numbers, patterns, pattern_variables}
use Rattle.law_core.specs.Templates.{Depths, TemplatesSuit}
use Rattle.law_core.specs.WellMade.{IsLeaf, is_leaf, HasForm, has_form, same_code, given_labels, IsWellMade, is_well_made}
use Rattle.law_core.specs.Decided.{WellMadeIsDecided}
use Rattle.law_core.proofs.Decisions.{each_decides, once_decides, true_decides, false_decides, le_decides, label_decides, code_decides}
use Rattle.law_core.proofs.ScopeLemmas.{given_decides}
use Rattle.law_core.proofs.TemplateLemmas.{templates_decide}

leaf_decides : (t : Tree) → Decides (is_leaf t) (IsLeaf t)
leaf_decides (tree.atom s a) = false_decides
leaf_decides (tree.leaf s x c) = true_decides
leaf_decides (tree.pair s a d) = false_decides
leaf_decides (tree.vector s d) = false_decides

form_decides : (c : PlainCore) → Decides (has_form c) (HasForm c)
form_decides (quoted d) = true_decides
form_decides (variable l) = true_decides
form_decides (primitive o) = true_decides
form_decides (one_armed c d) = true_decides
form_decides (two_armed c d e) = true_decides
form_decides (assignment l c) = true_decides
form_decides (sequence cs) = le_decides 2 (core_count cs)
form_decides (procedure n cs true) = Decides-eqb (case_count cs) 1
form_decides (procedure n cs false) = true_decides
form_decides (letrec o is c) = true_decides
form_decides (call c cs) = true_decides
form_decides (instance t s) = true_decides
form_decides (matching c cs s) = true_decides

module _ (given : Depths) (c : PlainCore) where
  abbrev Unmentioned : Label → Type 0
  Unmentioned l = Among (pattern_variables c ++ given_labels given) l → ⊥

  abbrev unmentioned : Label → Bool
  unmentioned l = not (among same_label (pattern_variables c ++ given_labels given) l)

  unmentioned_decides : (l : Label) → Decides (unmentioned l) (Unmentioned l)
  unmentioned_decides l = Decides-not (among same_label (pattern_variables c ++ given_labels given) l) (given_decides (pattern_variables c ++ given_labels given) l)

  abbrev All : Type 0
  All = Each HasForm (parts c) × (Each IsLeaf (flat_map literals (patterns c)) × (Each (λ o. o < name_count) (ops c)
      × (Once (binders c) × (Once (code_numbers c) × (Each Unmentioned (mentions c) × TemplatesSuit given c)))))

  all_decided : Decides (is_well_made given c) All
  all_decided =
      Decides-and (each has_form (parts c)) _ (each_decides has_form HasForm form_decides (parts c))
      (Decides-and (each is_leaf (flat_map literals (patterns c))) _ (each_decides is_leaf IsLeaf leaf_decides (flat_map literals (patterns c)))
      (Decides-and (each (λ o. nat_lt o name_count) (ops c)) _ (each_decides (λ o. nat_lt o name_count) (λ o. o < name_count) (λ o. Decides-ltb o name_count) (ops c))
      (Decides-and (once same_label (binders c)) _ (once_decides same_label label_decides (binders c))
      (Decides-and (once same_code (code_numbers c)) _ (once_decides same_code code_decides (code_numbers c))
      (Decides-and (each unmentioned (mentions c)) _ (each_decides unmentioned Unmentioned unmentioned_decides (mentions c))
      (templates_decide given c))))))

  into : All → IsWellMade given c
  into p = record {
    forms = p.0;
    leaves = p.1.0;
    named_ops = p.1.1.0;
    bound_once = p.1.1.1.0;
    numbered_once = p.1.1.1.1.0;
    unmentioned = p.1.1.1.1.1.0;
    templates = p.1.1.1.1.1.1;
  }

  out : IsWellMade given c → All
  out w = (w.forms, (w.leaves, (w.named_ops, (w.bound_once, (w.numbered_once, (w.unmentioned, w.templates))))))

  decided : Decides (is_well_made given c) (IsWellMade given c)
  decided = Decides-like (is_well_made given c) into out all_decided

pub well_made_decides : WellMadeIsDecided
well_made_decides given c = decided given c
