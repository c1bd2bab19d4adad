-- One step of the definition.
use Rattle.std.proofs.Common.{◌≡◌, ℕ, ◌-◌, ◌<◌, zero, suc, refl, ap, sym, arith, List, [], Err}
use Rattle.base_data.specs.declared.fault.FaultKind.TheVariants as kind
use Rattle.stx_tree.specs.Tree.{Tree}
use Rattle.core_shapes.specs.At.{fault_at}
use Rattle.core_language.specs.declared.record.CompiledLibrary.{CompiledLibrary}
use Rattle.expand_standing.specs.State.{State}
use Rattle.expand_forms.specs.Body.{item}
use Rattle.expand_forms.specs.Expression.{inside, form_at, lambda_case}
use Rattle.expand_forms.specs.Forms.{ProcedureForm}
use Rattle.expand_forms.specs.Site.{Site}
use Rattle.expand_heads.specs.declared.taken.BodyAt.{BodyAt}
use Rattle.expand_heads.specs.declared.taken.Taken.{Taken}

pub form_step : (rs : List CompiledLibrary) (room : ℕ) (site : Site) (t : Tree) (s : State) → 0 < room → (inside rs room).form site t s ≡ form_at (inside rs (room - 1)) site t s
unfolding inside
form_step rs zero site t s h = absurd (omega arith)
form_step rs (suc room) site t s h =
    let e : suc room - 1 ≡ room = omega arith in
    ap (λ r. form_at (inside rs r) site t s) (sym e)

pub form_too_deep : (rs : List CompiledLibrary) (site : Site) (t : Tree) (s : State) → (inside rs 0).form site t s ≡ Err (fault_at kind.TooDeep t site.place [])
unfolding inside
form_too_deep rs site t s = refl

pub procedure_step : (rs : List CompiledLibrary) (room : ℕ) (site : Site) (p : ProcedureForm) (s : State) → 0 < room
    → (inside rs room).procedure site p s ≡ lambda_case (inside rs (room - 1)) site p s
unfolding inside
procedure_step rs zero site p s h = absurd (omega arith)
procedure_step rs (suc room) site p s h =
    let e : suc room - 1 ≡ room = omega arith in
    ap (λ r. lambda_case (inside rs r) site p s) (sym e)

pub procedure_too_deep : (rs : List CompiledLibrary) (site : Site) (p : ProcedureForm) (s : State)
    → (inside rs 0).procedure site p s ≡ Err (fault_at kind.TooDeep p.form site.place [])
unfolding inside
procedure_too_deep rs site p s = refl

pub item_step : (rs : List CompiledLibrary) (room : ℕ) (at : BodyAt) (depth : ℕ) (done : Taken) (t : Tree) (s : State) → 0 < room → (inside rs room).item at depth done t s ≡ item (inside rs (room - 1)) at depth done t s
unfolding inside
item_step rs zero at depth done t s h = absurd (omega arith)
item_step rs (suc room) at depth done t s h =
    let e : suc room - 1 ≡ room = omega arith in
    ap (λ r. item (inside rs r) at depth done t s) (sym e)

pub item_too_deep : (rs : List CompiledLibrary) (at : BodyAt) (depth : ℕ) (done : Taken) (t : Tree) (s : State) → (inside rs 0).item at depth done t s ≡ Err (fault_at kind.TooDeep t at.place [])
unfolding inside
item_too_deep rs at depth done t s = refl

pub earlier_inside : (rs : List CompiledLibrary) (room : ℕ) → (inside rs room).earlier ≡ rs
unfolding inside
earlier_inside rs zero = refl
earlier_inside rs (suc room) = refl
