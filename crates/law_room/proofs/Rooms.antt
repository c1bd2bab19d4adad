-- Rooms in which 600 forms can nest agree.
use Rattle.std.proofs.Common.{◌≡◌, ◌≤◌, ℕ, zero, suc, ◌+◌, Bool, true, false, List, map, refl, sym, ◌∙◌, ap, subst, if◌then◌else◌, arith}
use Rattle.std.specs.Prelude.{nat_lt}
use Rattle.std.proofs.lemmas.Bool.Decides.{nat_tests}
use Rattle.base_data.specs.Act.{after}
use Rattle.base_data.specs.declared.fault.FaultKind.TheVariants as kind
use Rattle.base_data.specs.declared.span.Span.{Span}
use Rattle.stx_tree.specs.Changes.{stamp}
use Rattle.stx_tree.specs.Tree.{Tree}
use Rattle.core_language.specs.declared.record.CompiledLibrary.{CompiledLibrary}
use Rattle.core_shapes.specs.declared.shape.FormalIds.{FormalIds}
use Rattle.expand_standing.specs.State.{State, fault_form}
use Rattle.expand_heads.specs.Depth.{deeper, most_round}
use Rattle.expand_heads.specs.declared.taken.BodyAt.{BodyAt}
use Rattle.expand_heads.specs.declared.taken.Taken.{Taken}
use Rattle.expand_forms.specs.Body.{item}
use Rattle.expand_forms.specs.Expression.{lambda_case, form_at, perform_settled, inside}
use Rattle.expand_forms.specs.Inside.{Inside}
use Rattle.expand_forms.specs.ExpandUses.{expand_uses}
use Rattle.expand_forms.specs.Top.{give_record, exports, body_at, second_pass, first_pass, top}
use Rattle.expand_forms.specs.declared.top.TopAt.{TopAt}
use Rattle.expand_forms.proofs.Steps.{earlier_inside}
use Rattle.expand_forms.specs.Site.{site_at}
use Rattle.expand_forms.specs.Forms.{procedure_parts}
use Rattle.law_room.specs.Room.{IsEnough, FormsNeedNoMore, ItemsNeedNoMore, CasesNeedNoMore, BodiesNeedNoMore, TopsNeedNoMore}
use Rattle.law_room.proofs.Agreeing.{Agree, same-finish-all, same-taken, same-body, same-case, same-form-at, same-item}
use Rattle.law_room.proofs.Items.{Keeps, keeps-inside, shallow-inside, deep-body, deep-case}
use Rattle.law_room.proofs.Same.{same-after}
use Rattle.law_room.proofs.Waiting.{WaitsFrom}

pub form-is : (rs : List CompiledLibrary) (room : ℕ) (place : Span) (level depth : ℕ) (t : Tree) (s : State) → (inside rs (suc room)).form (site_at place level depth) t s ≡ form_at (inside rs room) (site_at place level depth) t s
unfolding inside
form-is rs room place level depth t s = refl

item-is : (rs : List CompiledLibrary) (room : ℕ) (at : BodyAt) (depth : ℕ) (done : Taken) (t : Tree) (s : State) → (inside rs (suc room)).item at depth done t s ≡ item (inside rs room) at depth done t s
unfolding inside
item-is rs room at depth done t s = refl

case-is : (rs : List CompiledLibrary) (room : ℕ) (place : Span) (level depth : ℕ) (t : Tree) (ids : FormalIds) (forms : List Tree) (s : State)
    → (inside rs (suc room)).procedure (site_at place level depth) (procedure_parts t ids forms) s ≡ lambda_case (inside rs room) (site_at place level depth) (procedure_parts t ids forms) s
unfolding inside
case-is rs room place level depth t ids forms s = refl

-- a form that is too deep, in any room
pub too-deep-form : (rs : List CompiledLibrary) (room : ℕ) (place : Span) (level depth : ℕ) (t : Tree) (s : State) → nat_lt most_round depth ≡ true → (inside rs room).form (site_at place level depth) t s ≡ fault_form kind.TooDeep t place s
unfolding inside form_at
too-deep-form rs zero place level depth t s deep = refl
too-deep-form rs (suc room) place level depth t s deep =
    ap (λ b. if b then fault_form kind.TooDeep t place s else after (expand_uses (inside rs room).earlier place level t s) (perform_settled (inside rs room) level depth)) deep

deeper-is : (d depth : ℕ) → d ≤ depth → nat_lt most_round depth ≡ false → suc d ≤ deeper depth
deeper-is d depth le few = subst (λ (b : Bool). suc d ≤ (if b then depth else depth + 1)) (sym few) (omega (arith, le))

-- one round more: from what lies inside, one deeper
module _ (rs : List CompiledLibrary) (p q d : ℕ) (next : d ≤ most_round → Agree (suc d) (inside rs p) (inside rs q)) where
  agrees : (depth : ℕ) → d ≤ depth → nat_lt most_round depth ≡ false → Agree (suc d) (inside rs p) (inside rs q)
  agrees depth le few = next (grind (arith, nat_tests))

  form-by : (place : Span) (level depth : ℕ) (t : Tree) (s : State) → d ≤ depth → (b : Bool) → nat_lt most_round depth ≡ b → (inside rs (suc p)).form (site_at place level depth) t s ≡ (inside rs (suc q)).form (site_at place level depth) t s
  form-by place level depth t s le true e = too-deep-form rs (suc p) place level depth t s e ∙ sym (too-deep-form rs (suc q) place level depth t s e)
  form-by place level depth t s le false e =
      form-is rs p place level depth t s ∙ same-form-at (inside rs p) (inside rs q) (suc d) (agrees depth le e) (keeps-inside rs p) place level depth t s (deeper-is d depth le e) ∙ sym (form-is rs q place level depth t s)

  item-by : (at : BodyAt) (depth : ℕ) (done : Taken) (t : Tree) (s : State) → d ≤ depth → (b : Bool) → nat_lt most_round depth ≡ b → (inside rs (suc p)).item at depth done t s ≡ (inside rs (suc q)).item at depth done t s
  item-by at depth done t s le true e = shallow-inside rs (suc p) at depth done t s e ∙ sym (shallow-inside rs (suc q) at depth done t s e)
  item-by at depth done t s le false e =
      item-is rs p at depth done t s ∙ same-item (inside rs p) (inside rs q) (suc d) (agrees depth le e) (keeps-inside rs p) at depth done t s (deeper-is d depth le e) ∙ sym (item-is rs q at depth done t s)

  case-by : (place : Span) (level depth : ℕ) (t : Tree) (ids : FormalIds) (forms : List Tree) (s : State) → d ≤ depth → (b : Bool) → nat_lt most_round depth ≡ b
      → lambda_case (inside rs p) (site_at place level (deeper depth)) (procedure_parts t ids forms) s ≡ lambda_case (inside rs q) (site_at place level (deeper depth)) (procedure_parts t ids forms) s
  case-by place level depth t ids forms s le true e =
      deep-case (inside rs p) (inside rs q) (shallow-inside rs p) (shallow-inside rs q) (deeper depth) (ap (λ b. nat_lt most_round (if b then depth else depth + 1)) e ∙ e) place level t ids forms s
  case-by place level depth t ids forms s le false e = same-case (inside rs p) (inside rs q) (suc d) (agrees depth le e) (keeps-inside rs p) place level (deeper depth) t ids forms s (deeper-is d depth le e)

  round : Agree d (inside rs (suc p)) (inside rs (suc q))
  round = record {
    earlier = earlier_inside rs (suc p) ∙ sym (earlier_inside rs (suc q));
    form = λ place level depth t s le. form-by place level depth t s le (nat_lt most_round depth) refl;
    procedure = λ place level depth t ids forms s le.
        case-is rs p place level (deeper depth) t ids forms s ∙ case-by place level depth t ids forms s le (nat_lt most_round depth) refl ∙ sym (case-is rs q place level (deeper depth) t ids forms s);
    item = λ at depth done t s le. item-by at depth done t s le (nat_lt most_round depth) refl;
  }

agree : (rs : List CompiledLibrary) (p q d : ℕ) → most_round + 1 ≤ p + d → most_round + 1 ≤ q + d → Agree d (inside rs (suc p)) (inside rs (suc q))
agree rs zero q d h k = round rs zero q d (λ le. elim (none le) [ ])
  where
    none : d ≤ most_round → ⊥
    none le = omega (arith, h, le)
agree rs (suc p) zero d h k = round rs (suc p) zero d (λ le. elim (none le) [ ])
  where
    none : d ≤ most_round → ⊥
    none le = omega (arith, k, le)
agree rs (suc p) (suc q) d h k = round rs (suc p) (suc q) d (λ le. agree rs p q (suc d) (omega (arith, h)) (omega (arith, k)))

-- The laws.

few-or-deep : (A : Type 0) (depth : ℕ) → (nat_lt most_round depth ≡ true → A) → (nat_lt most_round depth ≡ false → A) → A
few-or-deep A depth deep few = by (nat_lt most_round depth) refl
  where
    by : (b : Bool) → nat_lt most_round depth ≡ b → A
    by true e = deep e
    by false e = few e

both : (rs : List CompiledLibrary) (room other depth : ℕ) → depth ≤ most_round → IsEnough room depth → IsEnough other depth → Agree depth (inside rs room) (inside rs other)
both rs zero other depth le h k = elim (none h) [ ]
  where
    none : IsEnough zero depth → ⊥
    none e = omega (arith, e, le)
both rs (suc p) zero depth le h k = elim (none k) [ ]
  where
    none : IsEnough zero depth → ⊥
    none e = omega (arith, e, le)
both rs (suc p) (suc q) depth le h k = agree rs p q depth (omega (arith, h)) (omega (arith, k))

at-most : (depth : ℕ) → nat_lt most_round depth ≡ false → depth ≤ most_round
at-most depth few = grind (arith, nat_tests)

self : (n : ℕ) → n ≤ n
self n = omega arith

pub forms-need-no-more : FormsNeedNoMore
forms-need-no-more rs room other place level depth t s h k = few-or-deep _ depth
    (λ deep. too-deep-form rs room place level depth t s deep ∙ sym (too-deep-form rs other place level depth t s deep))
    (λ few. (both rs room other depth (at-most depth few) h k).form place level depth t s (self depth))

pub items-need-no-more : ItemsNeedNoMore
items-need-no-more rs room other at depth done t s h k = few-or-deep _ depth
    (λ deep. shallow-inside rs room at depth done t s deep ∙ sym (shallow-inside rs other at depth done t s deep))
    (λ few. (both rs room other depth (at-most depth few) h k).item at depth done t s (self depth))

pub cases-need-no-more : CasesNeedNoMore
cases-need-no-more rs room other place level depth t ids forms s le h k =
    let few : nat_lt most_round depth ≡ false = grind (arith, nat_tests) in
    subst (λ (n : ℕ). (inside rs room).procedure (site_at place level n) (procedure_parts t ids forms) s ≡ (inside rs other).procedure (site_at place level n) (procedure_parts t ids forms) s) (ap (λ b. if b then depth else depth + 1) few)
    ((both rs room other depth le h k).procedure place level depth t ids forms s (self depth))

pub bodies-need-no-more : BodiesNeedNoMore
bodies-need-no-more rs room other place level depth t forms s h k = few-or-deep _ depth
    (λ deep. deep-body (inside rs room) (inside rs other) (shallow-inside rs room) (shallow-inside rs other) depth deep place level t forms s)
    (λ few. same-body (inside rs room) (inside rs other) depth (both rs room other depth (at-most depth few) h k) (keeps-inside rs room) place level depth t forms s (self depth))

module _ (go ho : Inside) (same : Agree 0 go ho) (keeps : Keeps go) where
  same-finished : (at : TopAt) (es : List (List ℕ × Tree)) (taken : Taken) (s : State) → WaitsFrom 0 taken → second_pass go at es taken s ≡ second_pass ho at es taken s
  unfolding second_pass
  same-finished at es taken s h = same-after (exports at es s) _ _ (λ ls u. ap (λ r. after r (λ lines. give_record at ls lines)) (same-finish-all go ho 0 same keeps 0 taken.waiting u h))

  same-top : (at : TopAt) (es : List (List ℕ × Tree)) (forms : List Tree) (s : State) → top go at es forms s ≡ top ho at es forms s
  unfolding top first_pass
  same-top at es forms s = same-taken go ho 0 same keeps (body_at at s.library) 0 (map (stamp at.frame) forms) (second_pass go at es) (second_pass ho at es) s (self 0) (λ done u h. same-finished at es done u h)

pub tops-need-no-more : TopsNeedNoMore
tops-need-no-more rs room other at es forms s h k = same-top (inside rs room) (inside rs other) (both rs room other 0 (omega arith) h k) (keeps-inside rs room) at es forms s
