use Rattle.std.proofs.Common.{List, [], map, Ok, Err}
use Rattle.std.specs.Prelude.{codes}
use Rattle.std.proofs.lemmas.Result.{err_from_is_err_and}
use Rattle.std.specs.declared.alloc.Global.{Global}
use Rattle.std.specs.declared.rc.Rc.{Rc}
use Rattle.base_data.specs.declared.library.LibName.TheVariants as library
use Rattle.core_language.specs.Core.{PlainCode}
use Rattle.expand_forms.specs.Expanding.{ready}
use Rattle.run_prelude.specs.Prelude.{names, prelude_codes, prelude_spent}
use Rattle.run_prelude.proofs.Ended.{ended, ended_spent, memory_alone, stopped_spent}
use Rattle.run_prelude.proofs.codes.prelude_codes.Goals as goal

-- the codes, without their owners
abbrev own_codes : List (Rc PlainCode Global) → List PlainCode
own_codes cs = map (λ (c : Rc PlainCode Global). c.value) cs

pub returns-in_err-codes-clause-codes : goal.returns-in_err-codes-clause-codes
unfolding prelude_codes
returns-in_err-codes-clause-codes g c =
    let p = err_from_is_err_and c.from_residual-in_err-codes.result c.from_residual-in_err-codes.ensures.1 in
    rw (p.1, p.2) (ended own_codes (Err c.in_err-codes.field-0.0) c.all_texts.new.expander.state c.in_ok-expander.expander _ c.in_ok-expander.ensures c.in_err-codes.ensures)

pub returns-clause-codes : goal.returns-clause-codes
unfolding prelude_codes
returns-clause-codes g c = ended own_codes (Ok c.in_ok-codes.codes) c.all_texts.new.expander.state c.in_ok-expander.expander _ c.in_ok-expander.ensures c.in_ok-codes.ensures

pub returns-in_err-expander-clause-fuel : goal.returns-in_err-expander-clause-fuel
returns-in_err-expander-clause-fuel g c =
    let p = err_from_is_err_and c.from_residual.result c.from_residual.ensures.1 in
    rw (p.1, p.2, memory_alone (ready library.Prelude [] names []) c.in_err-expander.field-0.0 c.in_err-expander.ensures) tt

pub returns-in_err-codes-clause-fuel : goal.returns-in_err-codes-clause-fuel
unfolding prelude_spent
returns-in_err-codes-clause-fuel g c =
    let p = err_from_is_err_and c.from_residual-in_err-codes.result c.from_residual-in_err-codes.ensures.1 in
    rw (p.1, p.2) (stopped_spent own_codes c.all_texts.new.expander.state c.in_ok-expander.expander _ c.in_ok-expander.ensures c.args.tally.now.fuel c.begin.new.self c.begin.ensures c.in_err-codes.field-0.0 c.in_err-codes.ensures)

pub returns-clause-fuel : goal.returns-clause-fuel
unfolding prelude_spent
returns-clause-fuel g c = ended_spent own_codes c.all_texts.new.expander.state c.in_ok-expander.expander _ c.in_ok-expander.ensures c.args.tally.now.fuel c.begin.new.self c.begin.ensures c.in_ok-codes.codes c.end.new.fuel c.in_ok-codes.ensures c.end.ensures
