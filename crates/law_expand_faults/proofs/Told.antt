-- What a fault tells determines it.
use Rattle.std.proofs.Common.{◌≡◌, ℕ, List, Option, None, Some, refl}
use Rattle.base_data.specs.declared.fault.Fault.{Fault}
use Rattle.base_data.specs.declared.fault.FaultKind.TheVariants as kind
use Rattle.base_data.specs.declared.span.Span.{Span}
use Rattle.stx_tree.specs.Tree.{Tree, span_of}
use Rattle.core_shapes.specs.At.{span_or, place_of, fault_at}
use Rattle.law_expand_faults.specs.Told.{TellsFault}

module _ (given : kind.the_data) (form : Tree) (place : Span) (words : List (List ℕ)) where
  own-span : (o : Option Span) (p : Span) → o ≡ Some p → span_or place o ≡ p
  own-span None p h = absurd (cc)
  own-span (Some s) p h = cc

  round-span : (o : Option Span) → o ≡ None → span_or place o ≡ place
  round-span None h = refl
  round-span (Some s) h = absurd (cc)

  pub tells : TellsFault given form place words (fault_at given form place words)
  tells = record { kind = refl; at_form = λ p e. own-span (span_of form) p e; round_form = λ e. round-span (span_of form) e; words = refl }

  pub told-span : (o : Option Span) (q : Span) → ((p : Span) → o ≡ Some p → q ≡ p) → (o ≡ None → q ≡ place) → q ≡ span_or place o
  told-span None q own round = round refl
  told-span (Some p) q own round = own p refl

  pub told : (f : Fault) → TellsFault given form place words f → f ≡ fault_at given form place words
  told f t =
      let at : f.span ≡ place_of form place = told-span (span_of form) f.span t.at_form t.round_form in
      let k : f.kind ≡ given = t.kind in
      let ws : f.words ≡ words = t.words in
      λ i. record { kind = k i; span = at i; words = ws i }
