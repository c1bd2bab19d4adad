-- 600 forms may stand round a form, and no more.
use Rattle.std.proofs.Common.{◌≡◌, ◌<◌, ◌≤◌, ℕ, zero, suc, ◌+◌, true, false, List, [], ◌∷◌, length, Option, None, Result, Ok, Err, refl, ◌∙◌, ap, if◌then◌else◌, arith}
use Rattle.std.specs.Prelude.{nat_lt}
use Rattle.std.proofs.lemmas.Bool.Decides.{nat_tests}
use Rattle.base_data.specs.Act.{after, give, each}
use Rattle.base_data.specs.declared.atom.Atom.{Atom}
use Rattle.base_data.specs.declared.fault.Fault.{Fault}
use Rattle.base_data.specs.declared.fault.FaultKind.TheVariants as kind
use Rattle.base_data.specs.declared.span.Span.{Span}
use Rattle.stx_tree.specs.Tree.{Tree, atom, pair, nil}
use Rattle.stx_tree.specs.Leaves.{strip}
use Rattle.core_language.specs.Core.{PlainCore, quoted}
use Rattle.core_language.specs.declared.record.CompiledLibrary.{CompiledLibrary}
use Rattle.core_shapes.specs.At.{place_of}
use Rattle.core_shapes.specs.Forms.{shaped, shape_of, shape}
use Rattle.core_shapes.specs.Lists.{is_nil_atom}
use Rattle.expand_standing.specs.Standing.{standing_of, role_of}
use Rattle.expand_standing.specs.State.{State, fault_form}
use Rattle.expand_heads.specs.declared.plan.HeadPlan.TheVariants as head_plans
use Rattle.expand_heads.specs.Depth.{deeper, most_round}
use Rattle.expand_heads.specs.Plan.{application, by_head, constant, keyword_plan, list_plan, plan_of, shape_plan}
use Rattle.expand_heads.specs.declared.plan.Plan.{Plan}
use Rattle.expand_heads.specs.declared.plan.Plan.TheVariants as plans
use Rattle.expand_forms.specs.Body.{sequence_of}
use Rattle.expand_forms.specs.Expanding.{expression}
use Rattle.expand_forms.specs.Expression.{in_sequence, perform, perform_settled, form_at, inside, full_room}
use Rattle.expand_forms.specs.Inside.{Inside}
use Rattle.expand_forms.specs.ExpandUses.{next_form, too_many, step_of, step, linked, planned_by, expand_uses_to, expand_uses}
use Rattle.expand_forms.specs.Site.{outermost, site_at}
use Rattle.law_room.specs.Limit.{begun, IsBegin, LimitOfNesting}
use Rattle.law_room.proofs.Items.{shallow-inside}
use Rattle.law_room.proofs.Rooms.{form-is, too-deep-form, forms-need-no-more}

pub over : (depth : ℕ) → most_round < depth → nat_lt most_round depth ≡ true
over depth h = grind (arith, nat_tests)

pub within-limit : (depth : ℕ) → depth ≤ most_round → nat_lt most_round depth ≡ false
within-limit depth h = grind (arith, nat_tests)

-- A form that is no use is done at once.

module _ (go : Inside) (place : Span) (level depth : ℕ) (t : Tree) (s v : State) (p : Plan) (few : depth ≤ most_round) where
  settled-by : (left : ℕ) → plan_of place level t s ≡ Ok (head_plans.Plan p, v) → expand_uses_to go.earlier left place level t s ≡ Ok (record { place = place; form = t; plan = p }, linked t p v)
  unfolding expand_uses_to step
  settled-by zero e = ap (λ r. after (after r (step_of go.earlier place t)) (planned_by (λ k. too_many t place) place t)) e
  settled-by (suc left) e =
      ap (λ r. after (after r (step_of go.earlier place t)) (planned_by (λ m s'. after (next_form go.earlier left place t m None s') (expand_uses_to go.earlier left (place_of t place) level)) place t)) e

  pub done-at : plan_of place level t s ≡ Ok (head_plans.Plan p, v) → form_at go (site_at place level depth) t s ≡ perform go (site_at place level depth) t p (linked t p v)
  unfolding form_at
  done-at e =
      ap (λ b. if b then fault_form kind.TooDeep t place s else after (expand_uses go.earlier place level t s) (perform_settled go level depth)) (within-limit depth few)
      ∙ ap (λ r. after r (perform_settled go level depth)) (settled-by s.uses_left e)

-- A form of `begin` is as the form in it, one deeper.

module _ (place : Span) (level : ℕ) (o : Option Span) (word form : Tree) (s : State) (is : IsBegin s word) where
  abbrev T : Tree
  T = pair o word (pair None form nil)

  begin-plan : plan_of place level T s ≡ Ok (head_plans.Plan (plans.Sequence (form ∷ [])), s)
  unfolding list_plan keyword_plan shape_plan role_of shape shape_of shaped
  begin-plan =
      ap (λ b. if b then by_head place level T word (pair None form nil) (standing_of s word) s else application place T word (pair None form nil) s) is.leaf ∙ ap (λ x. by_head place level T word (pair None form nil) x s) is.stands

only : (r : Result (PlainCore × State) Fault) → after (after r (λ c s. Ok (c ∷ [], s))) (λ cs. give (sequence_of cs)) ≡ r
only (Ok x) = refl
only (Err f) = refl

begin-performed : (go : Inside) (place : Span) (level depth : ℕ) (t form : Tree) (s : State) → perform go (site_at place level depth) t (plans.Sequence (form ∷ [])) s ≡ go.form (site_at place level (deeper depth)) form s
unfolding perform in_sequence each
begin-performed go place level depth t form s = only (go.form (site_at place level (deeper depth)) form s)

pub one-deeper : (depth : ℕ) → depth ≤ most_round → deeper depth ≡ suc depth
one-deeper depth few = ap (λ b. if b then depth else depth + 1) (within-limit depth few) ∙ (omega arith)

module _ (rs : List CompiledLibrary) (place : Span) (level : ℕ) (word t : Tree) (s : State) (is : IsBegin s word) where
  begin-in : (room depth : ℕ) (o : Option Span) (form : Tree) → depth ≤ most_round → (inside rs (suc room)).form (site_at place level depth) (pair o word (pair None form nil)) s ≡ (inside rs room).form (site_at place level (suc depth)) form s
  begin-in room depth o form few =
      form-is rs room place level depth (pair o word (pair None form nil)) s
      ∙ done-at (inside rs room) place level depth (pair o word (pair None form nil)) s s (plans.Sequence (form ∷ [])) few (begin-plan place level o word form s is)
      ∙ begin-performed (inside rs room) place level depth (pair o word (pair None form nil)) form s
      ∙ ap (λ n. (inside rs room).form (site_at place level n) form s) (one-deeper depth few)

  room-is : (a b depth : ℕ) (u : Tree) → a ≡ b → (inside rs a).form (site_at place level depth) u s ≡ (inside rs b).form (site_at place level depth) u s
  room-is a b depth u e = ap (λ n. (inside rs n).form (site_at place level depth) u s) e

  depth-is : (room a b : ℕ) → a ≡ b → (inside rs room).form (site_at place level a) t s ≡ (inside rs room).form (site_at place level b) t s
  depth-is room a b e = ap (λ n. (inside rs room).form (site_at place level n) t s) e

  all-begins : (ss : List (Option Span)) (room depth : ℕ) → depth + length ss ≤ most_round + 1 → (inside rs (length ss + room)).form (site_at place level depth) (begun ss word t) s ≡ (inside rs room).form (site_at place level (depth + length ss)) t s
  all-begins [] room depth h = room-is (length {A = Option Span} [] + room) room depth t (omega arith) ∙ depth-is room depth (depth + length {A = Option Span} []) (omega arith)
  all-begins (o ∷ ss) room depth h =
      room-is (length (o ∷ ss) + room) (suc (length ss + room)) depth (begun (o ∷ ss) word t) (omega arith) ∙ begin-in (length ss + room) depth o (begun ss word t) (omega (arith, h))
      ∙ all-begins ss room (suc depth) (omega (arith, h)) ∙ depth-is room (suc depth + length ss) (depth + length (o ∷ ss)) (omega arith)

begins-are : (rs : List CompiledLibrary) (place : Span) (level : ℕ) (ss : List (Option Span)) (word t : Tree) (s : State) → IsBegin s word → length ss ≤ most_round + 1
    → expression rs (outermost place level) (begun ss word t) s ≡ (inside rs full_room).form (site_at place level (length ss)) t s
begins-are rs place level ss word t s is few =
    forms-need-no-more rs full_room (length ss + full_room) place level 0 (begun ss word t) s (omega arith) (omega arith) ∙ all-begins rs place level word t s is ss full_room 0 (omega (arith, few))
    ∙ depth-is rs place level word t s is full_room (0 + length ss) (length ss) (omega arith)

pub constant-is : (go : Inside) (place : Span) (level depth : ℕ) (o : Option Span) (a : Atom) (s : State) → depth ≤ most_round → is_nil_atom a ≡ false → form_at go (site_at place level depth) (atom o a) s ≡ Ok (quoted (strip (atom o a)), s)
unfolding perform
constant-is go place level depth o a s few some =
    done-at go place level depth (atom o a) s s (plans.Done (quoted (strip (atom o a)))) few (ap (λ b. constant place (atom o a) b s) some)

pub limit-of-nesting : LimitOfNesting
limit-of-nesting = record {
  expressions = λ rs room place level depth t s h. too-deep-form rs room place level depth t s (over depth h);
  items = λ rs room at depth done t s h. shallow-inside rs room at depth done t s (over depth h);
  begins = begins-are;
  taken = λ rs place level ss word o a s is few some.
      begins-are rs place level ss word (atom o a) s is (omega (arith, few)) ∙ form-is rs (most_round + 1) place level (length ss) (atom o a) s ∙ constant-is (inside rs (most_round + 1)) place level (length ss) o a s few some;
  refused = λ rs place level ss word t s is all.
      begins-are rs place level ss word t s is (omega (arith, all)) ∙ too-deep-form rs full_room place level (length ss) t s (over (length ss) (omega (arith, all)));
}
