-- The links of a form that is no use change nothing else of a state.
use Rattle.std.proofs.Common.{◌≡◌, List, Result, Ok, Err, ap}
use Rattle.base_data.specs.declared.fault.Fault.{Fault}
use Rattle.base_data.specs.declared.library.LibName.TheVariants as library
use Rattle.stx_tree.specs.Tree.{Tree, span_of}
use Rattle.core_language.specs.Core as core
use Rattle.core_language.specs.Core.{PlainCore}
use Rattle.core_language.specs.declared.link.Link.{Link}
use Rattle.core_language.specs.declared.link.LinkKind.TheVariants as link
use Rattle.core_language.specs.declared.record.CompiledLibrary.{CompiledLibrary}
use Rattle.expand_standing.specs.State.{State}
use Rattle.expand_standing.proofs.Noted.{noted-keeps}
use Rattle.expand_heads.specs.declared.plan.Plan.{Plan}
use Rattle.expand_heads.specs.declared.plan.Plan.TheVariants as plans
use Rattle.expand_forms.specs.ExpandUses.{linked, linked_code, target_span}
use Rattle.expand_forms.specs.Top.{record_in, linked_in}
use Rattle.expand_forms.specs.declared.top.Linked.{Linked}

module _ (P : State → Type 0) (t : Tree) (s : State) (h : (ls : List Link) → P (record s { links = ls })) where
  code-keeps : (c : PlainCore) → P (linked_code t c s)
  code-keeps (core.variable l) = noted-keeps P (span_of t) l link.Refer s h
  code-keeps (core.primitive o) = noted-keeps P (span_of t) (record { 0 = record { library = library.Core; number = o.0 } }) (link.Prim o) s h
  code-keeps (core.quoted d) = h s.links
  code-keeps (core.one_armed c d) = h s.links
  code-keeps (core.two_armed c d e) = h s.links
  code-keeps (core.assignment l c) = h s.links
  code-keeps (core.sequence cs) = h s.links
  code-keeps (core.procedure n cs b) = h s.links
  code-keeps (core.letrec b is c) = h s.links
  code-keeps (core.call c cs) = h s.links
  code-keeps (core.instance p q) = h s.links
  code-keeps (core.matching c cs q) = h s.links

  -- what holds whatever the links are, holds with those of the form
  pub linked-keeps : (p : Plan) → P (linked t p s)
  linked-keeps (plans.Done c) = code-keeps c
  linked-keeps (plans.Assignment l value) = noted-keeps P (target_span t) l link.Refer s h
  linked-keeps (plans.Call head operands) = h s.links
  linked-keeps (plans.Conditional a b c) = h s.links
  linked-keeps (plans.Sequence forms) = h s.links
  linked-keeps (plans.Lambda ids forms) = h s.links
  linked-keeps (plans.CaseLambda cases) = h s.links
  linked-keeps (plans.Letrec star specs forms) = h s.links
  linked-keeps (plans.Matching subject literals clauses place) = h s.links
  linked-keeps (plans.Keywords rec specs forms) = h s.links
  linked-keeps (plans.Quasi family template) = h s.links

-- the record of a library, beside its links
pub record_given : (t : Result (CompiledLibrary × State) Fault) (x : Linked) → linked_in t ≡ Ok x → record_in t ≡ Ok x.library
record_given (Ok p) x h = let e : ◌≡◌ {A = Linked} (record { library = p.0; links = p.1.links }) x = cc in ap (λ (l : Linked). let r : Result CompiledLibrary Fault = Ok l.library in r) e
record_given (Err f) x h = absurd (cc)

pub record_stops : (t : Result (CompiledLibrary × State) Fault) (f : Fault) → linked_in t ≡ Err f → record_in t ≡ Err f
record_stops (Ok p) f h = absurd (cc)
record_stops (Err e) f h = cc
