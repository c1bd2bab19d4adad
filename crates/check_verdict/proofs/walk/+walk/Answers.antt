use Rattle.std.proofs.Common.{◌≡◌, sym, ◌∙◌, arith, Some, None}
use Rattle.base_data.specs.Datum.{symbol_text, proper_elements}
use Rattle.check_verdict.proofs.Same.{listed, unlisted, by_symbol, by_list, by_no_atom, same_procedure, no_procedure, same_init, no_init, same_inits, no_inits, long_one, listed_size, item_below}
use Rattle.check_verdict.proofs.walk.+walk.Goals as goal

pub expressions-expression-requires : goal.expressions-expression-requires
expressions-expression-requires t c = rw c.item-item.is (grind (arith, item_below))

pub cases-case-requires : goal.cases-case-requires
cases-case-requires t c = rw c.item-item.is (grind (arith, item_below))

pub inits-binding-requires : goal.inits-binding-requires
inits-binding-requires t c = rw c.item-item.is (grind (arith, item_below))

pub expression-form-requires : goal.expression-form-requires
expression-form-requires t c = let e = rw c.in-Some-as_list.is at c.as_list.ensures in let below = listed_size c.args.datum.now c.in-Some-as_list.items.now (sym e) in grind (arith, below)

pub case-procedure-requires : goal.case-procedure-requires
case-procedure-requires t c = let e = rw c.in-Some.is at c.as_list.ensures in let below = listed_size c.args.item.now c.in-Some.parts.now (sym e) in grind (arith, below)

pub binding-init-requires : goal.binding-init-requires
binding-init-requires t c = let e = rw c.in-Some.is at c.as_list.ensures in let below = listed_size c.args.item.now c.in-Some.parts.now (sym e) in grind (arith, below)

pub bindings-inits-requires : goal.bindings-inits-requires
bindings-inits-requires t c = let e = rw c.in-Some.is at c.as_list.ensures in let below = listed_size c.args.datum.now c.in-Some.items.now (sym e) in grind (arith, below)

pub expression-returns-in-Some : goal.expression-returns-in-Some
expression-returns-in-Some t c = let e = rw c.in-Some.is at c.as_symbol.ensures in rw (by_symbol c.args.datum.now c.in-Some.symbol.now (sym e) c.args.survey.now) c.identifier.ensures

pub expression-returns-in-Some-as_list : goal.expression-returns-in-Some-as_list
expression-returns-in-Some-as_list t c = let e = rw c.in-Some-as_list.is at c.as_list.ensures in rw (by_list c.args.datum.now c.in-Some-as_list.items.now (sym e) c.args.survey.now) c.form.ensures

pub case-returns-in-Some : goal.case-returns-in-Some
case-returns-in-Some t c = let e = rw c.in-Some.is at c.as_list.ensures in rw (same_procedure (listed c.args.item.now c.in-Some.parts.now (sym e)) c.args.survey.now) c.procedure.ensures

pub case-returns-in-None : goal.case-returns-in-None
case-returns-in-None t c = let e = rw c.in-None.is at c.as_list.ensures in no_procedure c.args.item.now (unlisted c.args.item.now (sym e)) c.args.survey.now

pub binding-returns-in-Some : goal.binding-returns-in-Some
binding-returns-in-Some t c = let e = rw c.in-Some.is at c.as_list.ensures in rw (same_init (listed c.args.item.now c.in-Some.parts.now (sym e)) c.args.survey.now) c.init.ensures

pub binding-returns-in-None : goal.binding-returns-in-None
binding-returns-in-None t c = let e = rw c.in-None.is at c.as_list.ensures in no_init c.args.item.now (unlisted c.args.item.now (sym e)) c.args.survey.now

pub bindings-returns-in-Some : goal.bindings-returns-in-Some
bindings-returns-in-Some t c = let e = rw c.in-Some.is at c.as_list.ensures in rw (same_inits (listed c.args.datum.now c.in-Some.items.now (sym e)) c.args.survey.now) c.inits.ensures

pub bindings-returns-in-None : goal.bindings-returns-in-None
bindings-returns-in-None t c = let e = rw c.in-None.is at c.as_list.ensures in no_inits c.args.datum.now (unlisted c.args.datum.now (sym e)) c.args.survey.now

pub one-returns-in-len2-up : goal.one-returns-in-len2-up
one-returns-in-len2-up t c = long_one c.args.items.now c.in-len2-up.len_at_least c.args.survey.now

pub expression-returns-in-None : goal.expression-returns-in-None
expression-returns-in-None t c =
    let e = rw c.in_default.is at c.as_symbol.ensures in
    let f = rw c.in_default-as_list.is at c.as_list.ensures in
    let g = rw c.in-None.is at c.as_atom.ensures in
    by_no_atom c.args.datum.now (sym e) (sym f) (sym g) c.args.survey.now
