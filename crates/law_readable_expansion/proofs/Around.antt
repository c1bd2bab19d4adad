-- The law of what is done with forms round others.
use Rattle.std.proofs.Common.{◌≡◌, ℕ, zero, suc, List, Result, Ok, Err, refl, subst}
use Rattle.base_data.specs.declared.fault.Fault.{Fault}
use Rattle.core_language.specs.declared.record.CompiledLibrary.{CompiledLibrary}
use Rattle.expand_standing.specs.State.{State}
use Rattle.expand_forms.specs.Body.{item}
use Rattle.expand_forms.specs.Expression.{lambda_case, form_at, inside}
use Rattle.expand_forms.specs.Inside.{Inside}
use Rattle.expand_forms.specs.Site.{site_at}
use Rattle.expand_forms.specs.Forms.{procedure_parts}
use Rattle.law_readable.specs.Stages.{ReadableRecords}
use Rattle.law_readable_expansion.specs.Keeping.{KeepsReadable, around, ReadablesStayIn}
use Rattle.law_readable_expansion.specs.States.{ReadableIn}
use Rattle.law_invariant_expansion.proofs.Forms as core_forms
use Rattle.law_invariant_expansion.proofs.Items as items
use Rattle.law_invariant_expansion.proofs.PlannedForm as settled
use Rattle.law_readable.specs.Readable.{readable}
use Rattle.law_readable_expansion.proofs.Kept.{readable-kept}
use Rattle.law_readable_expansion.proofs.PlannedForm.{Keeps, inside-keeps}
use Rattle.law_readable_expansion.proofs.Standing.{C, Gave}

-- what was given is told by the account
told : {A : Type 0} (W : A → Type 0) (u : State) (x : A) (r : Result (A × State) Fault) → Gave W r → r ≡ Ok (x, u) → ReadableIn u × W x
told {A} W u x r h e = let k : Gave W (Ok (x, u)) = subst (λ (q : Result (A × State) Fault). Gave W q) e h in k

gave : {A : Type 0} (W : A → Type 0) (r : Result (A × State) Fault) → ((x : A) (u : State) → r ≡ Ok (x, u) → ReadableIn u × W x) → Gave W r
gave W (Ok p) h = h p.0 p.1 refl
gave W (Err f) h = tt

as-given : (go : Inside) → KeepsReadable go → ReadableRecords go.earlier → Keeps go
as-given go keeps rs = record {
  records = rs;
  form = λ place level depth t s h g. gave C (go.form (site_at place level depth) t s) (λ c u e. keeps.form place level depth t s u c h rs g e);
  procedure = λ place level depth t ids forms s h k g. gave (core_forms.CaseAt readable readable-kept) (go.procedure (site_at place level depth) (procedure_parts t ids forms) s) (λ c u e. keeps.procedure place level depth t ids forms s u c h rs k g e);
  item = λ at depth d t s h k g. gave (items.TakenAt readable readable-kept) (go.item at depth d t s) (λ d' u e. keeps.item at depth d d' t s u h rs k g e);
}

around-keeps : (go : Inside) → KeepsReadable go → KeepsReadable (around go)
around-keeps go keeps = record {
  form = λ place level depth t s u c h rs g e. told C u c (form_at go (site_at place level depth) t s) (settled.form-at-holds readable readable-kept go (as-given go keeps rs) place level depth t s h g) e;
  procedure = λ place level depth t ids forms s u c h rs k g e. told (core_forms.CaseAt readable readable-kept) u c (lambda_case go (site_at place level depth) (procedure_parts t ids forms) s) (core_forms.case-holds readable readable-kept go (as-given go keeps rs) place level depth t ids forms s h k g) e;
  item = λ at depth d d' t s u h rs k g e. told (items.TakenAt readable readable-kept) u d' (item go at depth d t s) (settled.item-holds readable readable-kept go (as-given go keeps rs) at depth d t s h k g) e;
}

earlier : (records : List CompiledLibrary) (room : ℕ) → ReadableRecords (inside records room).earlier → ReadableRecords records
unfolding inside
earlier records zero rs = rs
earlier records (suc room) rs = rs

each-inside : (records : List CompiledLibrary) (room : ℕ) → KeepsReadable (inside records room)
each-inside records room = record {
  form = λ place level depth t s u c h rs g e. told C u c ((inside records room).form (site_at place level depth) t s) ((inside-keeps records room (earlier records room rs)).form place level depth t s h g) e;
  procedure = λ place level depth t ids forms s u c h rs k g e.
      told (core_forms.CaseAt readable readable-kept) u c ((inside records room).procedure (site_at place level depth) (procedure_parts t ids forms) s) ((inside-keeps records room (earlier records room rs)).procedure place level depth t ids forms s h k g) e;
  item = λ at depth d d' t s u h rs k g e. told (items.TakenAt readable readable-kept) u d' ((inside records room).item at depth d t s) ((inside-keeps records room (earlier records room rs)).item at depth d t s h k g) e;
}

pub stay-in : ReadablesStayIn
stay-in = record {
  around_keeps = λ go keeps. around-keeps go keeps;
  inside_keeps = λ records room. each-inside records room;
}
