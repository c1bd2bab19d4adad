use Rattle.std.proofs.Common.{refl, sym, ◌∙◌, length}
use Rattle.std.proofs.lemmas.Result.{IfOk-weaker}
use Rattle.std.specs.List.{list_all}
use Rattle.std.specs.Prelude.{map}
use Rattle.base_bytes.specs.Codec.{u64, optional, ◌then◌}
use Rattle.base_bytes.specs.Names.{label}
use Rattle.core_codec.specs.Code as code
use Rattle.core_code_bytes.proofs.Puts.{matching_puts, node_puts, parts_puts, inits_puts, cases_puts, clauses_puts}
use Rattle.core_code_bytes.specs.Seen.{init_part, case_part, clause_part}
use Rattle.core_pattern_bytes.proofs.Puts.{item_fails, list_fails}
use Rattle.core_code_bytes.proofs.put.+core_put.Goals as goal

pub put_all_inits-returns-then-not-branch : goal.put_all_inits-returns-then-not-branch
put_all_inits-returns-then-not-branch t c =
    let fits = (label then code.core c.args.room).fits in
    let none = item_fails init_part fits c.args.inits.now c.loop-init.init-index c.init-item.result c.loop-init-test.true c.init-item.is (sym c.in_ok-put_init.ensures.0 ∙ c.if-not-branch.true) in
    (list_fails (u64.fits (length (map init_part c.args.inits.now))) (list_all fits (map init_part c.args.inits.now)) none, refl)

pub put_all_cases-returns-then-not-branch : goal.put_all_cases-returns-then-not-branch
put_all_cases-returns-then-not-branch t c =
    let fits = (code.formals then code.core c.args.room).fits in
    let none = item_fails case_part fits c.args.cases.now c.loop-case.case-index c.case-item.result c.loop-case-test.true c.case-item.is (sym c.in_ok-put_case.ensures.0 ∙ c.if-not-branch.true) in
    (list_fails (u64.fits (length (map case_part c.args.cases.now))) (list_all fits (map case_part c.args.cases.now)) none, refl)

pub put_all_clauses-returns-then-not-branch : goal.put_all_clauses-returns-then-not-branch
put_all_clauses-returns-then-not-branch t c =
    let fits = (code.pattern 2000 then optional (code.core c.args.room) then code.core c.args.room).fits in
    let none = item_fails clause_part fits c.args.clauses.now c.loop-clause.clause-index c.clause-item.result c.loop-clause-test.true c.clause-item.is (sym c.in_ok-put_clause.ensures.0 ∙ c.if-not-branch.true) in
    (list_fails (u64.fits (length (map clause_part c.args.clauses.now))) (list_all fits (map clause_part c.args.clauses.now)) none, refl)

pub put_parts-returns : goal.put_parts-returns
put_parts-returns t c = IfOk-weaker c.put_cores.result _ _ (λ b h. parts_puts (code.core c.args.room) c.args.out.now.items c.put_cores.new.out.items b c.args.parts.now h) c.put_cores.ensures

pub put_inits-returns : goal.put_inits-returns
put_inits-returns t c = IfOk-weaker c.put_all_inits.result _ _ (λ b h. inits_puts (code.core c.args.room) c.args.out.now.items c.put_all_inits.new.out.items b c.args.inits.now h) c.put_all_inits.ensures

pub put_cases-returns : goal.put_cases-returns
put_cases-returns t c = IfOk-weaker c.put_all_cases.result _ _ (λ b h. cases_puts (code.core c.args.room) c.args.out.now.items c.put_all_cases.new.out.items b c.args.cases.now h) c.put_all_cases.ensures

pub put_clauses-returns : goal.put_clauses-returns
put_clauses-returns t c = IfOk-weaker c.put_all_clauses.result _ _ (λ b h. clauses_puts (code.core c.args.room) c.args.out.now.items c.put_all_clauses.new.out.items b c.args.clauses.now h) c.put_all_clauses.ensures

pub put_node-returns : goal.put_node-returns
put_node-returns t c = IfOk-weaker c.put_choice.result _ _ (λ b h. node_puts (code.core c.args.room) c.args.out.now.items c.put_choice.new.out.items b c.args.node.now h) c.put_choice.ensures

pub put_choice-returns-else-not-branch-3 : goal.put_choice-returns-else-not-branch-3
put_choice-returns-else-not-branch-3 t c =
    IfOk-weaker c.put_matching.result _ _
    (λ b h. matching_puts (code.core c.args.room) c.in-SyntaxCase.subject c.in-SyntaxCase.clauses c.in-SyntaxCase.span c.args.out.now.items c.put_core-in-SyntaxCase.new.out.items c.put_matching.new.out.items
    c.args.node.now c.deref-in-SyntaxCase.result.now c.deref-in-SyntaxCase-2.result.now c.push-in-SyntaxCase.new.self.items c.in_ok-put_core-in-SyntaxCase.field-0 b
    c.in-SyntaxCase.is c.deref-in-SyntaxCase.ensures c.deref-in-SyntaxCase-2.ensures.value c.in_ok-push-in-SyntaxCase.ensures.items c.if-not-branch-3.false c.in_ok-put_core-in-SyntaxCase.ensures h) c.put_matching.ensures
