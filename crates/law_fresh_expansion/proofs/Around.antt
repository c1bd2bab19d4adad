-- The law of what is done with forms round others, from what holds of it from one name on.
use Rattle.std.proofs.Common.{◌≡◌, ℕ, zero, suc, List, Result, Ok, Err, refl, subst}
use Rattle.base_data.specs.Elements.{Among}
use Rattle.base_data.specs.declared.fault.Fault.{Fault}
use Rattle.base_data.specs.declared.library.LibName.{LibName}
use Rattle.base_data.specs.declared.library.LibName.TheVariants as library
use Rattle.base_data.specs.declared.name.FrameNo.{FrameNo}
use Rattle.base_data.specs.declared.name.Mark.{Mark}
use Rattle.stx_tree.specs.Context.{LeafContext}
use Rattle.core_language.specs.declared.record.CompiledLibrary.{CompiledLibrary}
use Rattle.expand_standing.specs.State.{State}
use Rattle.expand_forms.specs.Body.{item}
use Rattle.expand_forms.specs.Expression.{lambda_case, form_at, inside}
use Rattle.expand_forms.specs.Inside.{Inside}
use Rattle.expand_forms.specs.Site.{site_at}
use Rattle.expand_forms.specs.Forms.{procedure_parts}
use Rattle.law_fresh_expansion.specs.Events.{HasKnownEvents}
use Rattle.law_fresh_expansion.specs.Keeping.{KeepsFresh, around, MarksStayKnown, HistoriesStay}
use Rattle.law_fresh_expansion.specs.Known.{IsKnown, IsKnownFrame, HasKnown, IsNewAmong}
use Rattle.law_fresh_expansion.specs.History.{HasKnownHistory}
use Rattle.law_fresh_expansion.specs.Living.{Lives}
use Rattle.law_fresh_expansion.specs.States.{RecordsHold, FreshStateHolds}
use Rattle.law_fresh_expansion.proofs.Changing.{rise}
use Rattle.law_fresh_expansion.proofs.Forms as from_one
use Rattle.law_fresh_expansion.proofs.Forms.{CaseAt, case-holds}
use Rattle.law_fresh_expansion.proofs.Items.{TakenAt}
use Rattle.law_fresh_expansion.proofs.Knowing.{lives-known, lives-on}
use Rattle.law_fresh_expansion.proofs.Once.{lives-once}
use Rattle.law_fresh_expansion.proofs.PlannedForm.{form-at-holds, item-holds, inside-keeps}
use Rattle.law_fresh_expansion.proofs.Runs.{records-wider}
use Rattle.law_fresh_expansion.proofs.Standing.{F, C, Gave, state-self}

module _ (own : LibName) (K : ℕ → Mark → Type 0) (J : ℕ → FrameNo → Type 0) (P : ℕ → LeafContext → Type 0) (lives : Lives own K J P) where
  -- what was given is told by the account
  told : {A : Type 0} (W : ℕ → A → Type 0) (s u : State) (x : A) (r : Result (A × State) Fault) → Gave own K J P lives s.names.number W s r → r ≡ Ok (x, u) → FreshStateHolds own K P s.names.number u × W u.names.number x
  told {A} W s u x r h e = let k : Gave own K J P lives s.names.number W s (Ok (x, u)) = subst (λ (q : Result (A × State) Fault). Gave own K J P lives s.names.number W s q) e h in k

  gave : {A : Type 0} (first : ℕ) (W : ℕ → A → Type 0) (s : State) (r : Result (A × State) Fault) → ((x : A) (u : State) → r ≡ Ok (x, u) → FreshStateHolds own K P s.names.number u × W u.names.number x) → Gave own K J P lives first W s r
  gave first W s (Ok p) h = h p.0 p.1 refl
  gave first W s (Err f) h = tt

  -- from each state, or from one name on
  from-one-name : (first : ℕ) (go : Inside) → KeepsFresh own K J P go → RecordsHold (P first) go.earlier → from_one.KeepsFresh own K J P lives first go
  from-one-name first go keeps rs = record {
    records = rs;
    form = λ place level depth t s h g. gave first (C own K J P lives first) s (go.form (site_at place level depth) t s)
        (λ c u e. keeps.form place level depth t s u c (state-self own K J P lives first s h) (records-at s h) g e);
    procedure = λ place level depth t ids forms s h k g. gave first (CaseAt own K J P lives first) s (go.procedure (site_at place level depth) (procedure_parts t ids forms) s)
        (λ c u e. keeps.procedure place level depth t ids forms s u c (state-self own K J P lives first s h) (records-at s h) k g e);
    item = λ at depth d t s h k g q. gave first (TakenAt own K J P lives first) s (go.item at depth d t s)
        (λ d' u e. keeps.item at depth d d' t s u (state-self own K J P lives first s h) (records-at s h) k g q e);
  }
    where
      records-at : (s : State) → F own K J P lives first s → RecordsHold (P s.names.number) go.earlier
      records-at s h = records-wider (P first) (P s.names.number) (rise own K J P lives first s.names.number h.stage.up) go.earlier rs

  pub around-keeps : (go : Inside) → KeepsFresh own K J P go → KeepsFresh own K J P (around go)
  around-keeps go keeps = record {
    form = λ place level depth t s u c h rs g e.
        told (C own K J P lives s.names.number) s u c (form_at go (site_at place level depth) t s) (form-at-holds own K J P lives s.names.number go (from-one-name s.names.number go keeps rs) place level depth t s h g) e;
    procedure = λ place level depth t ids forms s u c h rs k g e.
        told (CaseAt own K J P lives s.names.number) s u c (lambda_case go (site_at place level depth) (procedure_parts t ids forms) s) (case-holds own K J P lives s.names.number go (from-one-name s.names.number go keeps rs) place level depth t ids forms s h k g) e;
    item = λ at depth d d' t s u h rs k g q e.
        told (TakenAt own K J P lives s.names.number) s u d' (item go at depth d t s) (item-holds own K J P lives s.names.number go (from-one-name s.names.number go keeps rs) at depth d t s h k g q) e;
  }

  earlier : (records : List CompiledLibrary) (room : ℕ) (s : State) → RecordsHold (P s.names.number) (inside records room).earlier → RecordsHold (P s.names.number) records
  unfolding inside
  earlier records zero s rs = rs
  earlier records (suc room) s rs = rs

  pub each-inside : (records : List CompiledLibrary) (room : ℕ) → KeepsFresh own K J P (inside records room)
  each-inside records room = record {
    form = λ place level depth t s u c h rs g e.
        told (C own K J P lives s.names.number) s u c ((inside records room).form (site_at place level depth) t s) ((inside-keeps own K J P lives s.names.number records room (earlier records room s rs)).form place level depth t s h g) e;
    procedure = λ place level depth t ids forms s u c h rs k g e.
        told (CaseAt own K J P lives s.names.number) s u c ((inside records room).procedure (site_at place level depth) (procedure_parts t ids forms) s) ((inside-keeps own K J P lives s.names.number records room (earlier records room s rs)).procedure place level depth t ids forms s h k g) e;
    item = λ at depth d d' t s u h rs k g q e.
        told (TakenAt own K J P lives s.names.number) s u d' ((inside records room).item at depth d t s) ((inside-keeps own K J P lives s.names.number records room (earlier records room s rs)).item at depth d t s h k g q) e;
  }

pub stay-known : MarksStayKnown
stay-known = record {
  around_keeps = λ libs own go core keeps. around-keeps own (IsKnown libs own) (IsKnownFrame libs own) (HasKnown libs own) (lives-known libs own core) go keeps;
  inside_keeps = λ libs own records room core. each-inside own (IsKnown libs own) (IsKnownFrame libs own) (HasKnown libs own) (lives-known libs own core) records room;
}

pub histories-stay : HistoriesStay
histories-stay = record {
  around_keeps = λ libs own go core keeps. around-keeps own (IsKnown libs own) (IsKnownFrame libs own) (HasKnownHistory libs own) (lives-on libs own core) go keeps;
  inside_keeps = λ libs own records room core. each-inside own (IsKnown libs own) (IsKnownFrame libs own) (HasKnownHistory libs own) (lives-on libs own core) records room;
}

pub around-once : (libs : List LibName) (own : LibName) (go : Inside) → Among libs library.Core → IsNewAmong libs own
    → KeepsFresh own (IsKnown libs own) (IsKnownFrame libs own) (HasKnownEvents libs own) go → KeepsFresh own (IsKnown libs own) (IsKnownFrame libs own) (HasKnownEvents libs own) (around go)
around-once libs own go core new keeps = around-keeps own (IsKnown libs own) (IsKnownFrame libs own) (HasKnownEvents libs own) (lives-once libs own new core) go keeps

pub inside-once : (libs : List LibName) (own : LibName) (records : List CompiledLibrary) (room : ℕ) → Among libs library.Core → IsNewAmong libs own
    → KeepsFresh own (IsKnown libs own) (IsKnownFrame libs own) (HasKnownEvents libs own) (inside records room)
inside-once libs own records room core new = each-inside own (IsKnown libs own) (IsKnownFrame libs own) (HasKnownEvents libs own) (lives-once libs own new core) records room
