use Rattle.std.proofs.Common.{◌∷◌, [], ◌++◌, arith, refl, sym, ap, ◌∙◌, append_assoc}
use Rattle.core_language.specs.Labels.{with_labels}
use Rattle.core_language.specs.Core.{cores}
use Rattle.core_language.specs.CoreView.{inits, cases, clauses}
use Rattle.core_language.specs.References.{binders, all_binders, init_binders, case_binders, clause_binders, mentions, all_mentions, init_mentions, case_mentions, clause_mentions, formals_labels}
use Rattle.core_language.proofs.SizeLemmas.{core_below, init_below, case_below, clause_below}
use Rattle.core_language.proofs.LabelLemmas.{labels_on, with_labels_joined, clause_binders_more, clause_mentions_more}
use Rattle.core_language.proofs.references.+scan.Goals as goal

pub scan_all-scan-requires : goal.scan_all-scan-requires
scan_all-scan-requires t c = rw c.part-item.is (grind (arith, core_below))

pub scan_inits-scan-requires : goal.scan_inits-scan-requires
scan_inits-scan-requires t c = rw c.init-item.is (grind (arith, init_below))

pub scan_cases-scan-requires : goal.scan_cases-scan-requires
scan_cases-scan-requires t c = rw c.case-item.is (grind (arith, case_below))

pub scan_clauses-scan_clause-requires : goal.scan_clauses-scan_clause-requires
scan_clauses-scan_clause-requires t c = rw c.clause-item.is (grind (arith, clause_below))

pub scan_all-loop-part-preserved : goal.scan_all-loop-part-preserved
scan_all-loop-part-preserved t c =
    let i = c.loop-part.part-index in
    let parts = c.args.parts.now in
    record {
      bound = labels_on (λ cs. all_binders (cores cs)) binders (λ x xs. refl) parts i c.part-item.result c.loop-part.bound c.scan.new.bound _ c.loop-part-test.true c.part-item.is c.in_ok-scan.ensures.bound c.loop-part.invariant.bound;
      mentioned = labels_on (λ cs. all_mentions (cores cs)) mentions (λ x xs. refl) parts i c.part-item.result c.loop-part.mentioned c.scan.new.mentioned _ c.loop-part-test.true c.part-item.is c.in_ok-scan.ensures.mentioned c.loop-part.invariant.mentioned;
    }

pub scan_inits-loop-init-preserved : goal.scan_inits-loop-init-preserved
scan_inits-loop-init-preserved t c =
    let i = c.loop-init.init-index in
    let list = c.args.list.now in
    let item = c.init-item.result in
    let bound = c.in_ok-scan.ensures.bound ∙ ap (λ ls. with_labels ls (binders item.value)) c.in_ok-add.ensures in
    record {
      bound = labels_on (λ is. init_binders (inits is)) (λ x. x.label ∷ binders x.value) (λ x xs. refl) list i item c.loop-init.bound c.scan.new.bound _ c.loop-init-test.true c.init-item.is bound c.loop-init.invariant.bound;
      mentioned = labels_on (λ is. init_mentions (inits is)) (λ x. mentions x.value) (λ x xs. refl) list i item c.loop-init.mentioned c.scan.new.mentioned _ c.loop-init-test.true c.init-item.is c.in_ok-scan.ensures.mentioned c.loop-init.invariant.mentioned;
    }

pub scan_cases-loop-case-preserved : goal.scan_cases-loop-case-preserved
scan_cases-loop-case-preserved t c =
    let i = c.loop-case.case-index in
    let list = c.args.list.now in
    let item = c.case-item.result in
    let bound = c.in_ok-scan.ensures.bound ∙ ap (λ ls. with_labels ls (binders item.body)) c.in_ok-scan_formals.ensures ∙ sym (with_labels_joined c.loop-case.bound (formals_labels item.formals) (binders item.body)) in
    record {
      bound = labels_on (λ ls. case_binders (cases ls)) (λ x. formals_labels x.formals ++ binders x.body) (λ x xs. sym (append_assoc (formals_labels x.formals) (binders x.body) (case_binders (cases xs)))) list i item c.loop-case.bound c.scan.new.bound _ c.loop-case-test.true c.case-item.is bound c.loop-case.invariant.bound;
      mentioned = labels_on (λ ls. case_mentions (cases ls)) (λ x. mentions x.body) (λ x xs. refl) list i item c.loop-case.mentioned c.scan.new.mentioned _ c.loop-case-test.true c.case-item.is c.in_ok-scan.ensures.mentioned c.loop-case.invariant.mentioned;
    }

pub scan_clauses-loop-clause-preserved : goal.scan_clauses-loop-clause-preserved
scan_clauses-loop-clause-preserved t c =
    let i = c.loop-clause.clause-index in
    let list = c.args.list.now in
    let item = c.clause-item.result in
    record {
      bound = labels_on (λ cs. clause_binders (clauses cs)) (λ x. clause_binders (clauses (x ∷ []))) clause_binders_more list i item c.loop-clause.bound c.scan_clause.new.bound _ c.loop-clause-test.true c.clause-item.is c.in_ok-scan_clause.ensures.bound c.loop-clause.invariant.bound;
      mentioned = labels_on (λ cs. clause_mentions (clauses cs)) (λ x. clause_mentions (clauses (x ∷ []))) clause_mentions_more list i item c.loop-clause.mentioned c.scan_clause.new.mentioned _ c.loop-clause-test.true c.clause-item.is c.in_ok-scan_clause.ensures.mentioned c.loop-clause.invariant.mentioned;
    }
