-- States of an expansion whose stage is steady.
use Rattle.std.proofs.Common.{◌≡◌, ◌≤◌, ◌<◌, ℕ, Bool, List, [], ◌∷◌, ◌++◌, Option, Some, Result, Ok, Err, refl, subst, ◌∙◌, arith, inl, inr}
use Rattle.std.specs.Prelude.{◌⊎◌}
use Rattle.std.specs.List.{flat_map}
use Rattle.base_data.specs.Act.{after}
use Rattle.base_data.specs.Named.{Named}
use Rattle.base_data.specs.declared.fault.Fault.{Fault}
use Rattle.base_data.specs.declared.library.LibName.{LibName}
use Rattle.base_data.specs.declared.name.CodeNo.{CodeNo}
use Rattle.base_data.specs.declared.name.Label.{Label}
use Rattle.stx_frames.specs.Scope.{Scope}
use Rattle.core_language.specs.Bindings.{bound_to}
use Rattle.core_language.specs.Core.{PlainCore}
use Rattle.core_language.specs.declared.binding.Binding.{Binding}
use Rattle.core_language.specs.declared.binding.Binding.TheVariants as binding
use Rattle.core_language.specs.declared.record.CompiledLibrary.{CompiledLibrary}
use Rattle.core_language.specs.declared.link.Link.{Link}
use Rattle.law_core.specs.Records.{defined}
use Rattle.eval_value.specs.declared.value.Value.{Value}
use Rattle.law_whole.specs.Extends.{Extends}
use Rattle.law_whole.proofs.Evaluations.{with_codes_whole}
use Rattle.law_whole.proofs.Growth.{grows_refl}
use Rattle.law_whole.proofs.Steady.{value_later}
use Rattle.eval_stage.specs.Stage.{PlainStage}
use Rattle.eval_stage.specs.declared.keyword.Keyword.{Keyword}
use Rattle.expand_standing.specs.InScope.{cut}
use Rattle.expand_standing.specs.State.{State, stage_of, staged}
use Rattle.law_expand.specs.States.{IsOwn, Adds, Later, LaterBut}
use Rattle.law_core.specs.Templates.{Depths}
use Rattle.base_data.specs.declared.name.FrameNo.{FrameNo}
use Rattle.law_expand.proofs.Acts.{Gave}
use Rattle.law_expand.proofs.Later.{bound-more, later-links}
use Rattle.law_expand.proofs.Naming.{counted}
use Rattle.law_expand.specs.Kept.{IsKeptWith, IsGoodState}
use Rattle.law_expand.proofs.Spent.{Onward}
use Rattle.law_expand.proofs.SpentBinding.{onward-self, onward-then, onward-later, onward-but, onward-counted, onward-cut}
use Rattle.law_expand.proofs.SpentOnStage.{Tells}
use Rattle.law_stuck.specs.Behind.{IsKeywordOf}
use Rattle.law_stuck.specs.Steady.{world_of, Steady, Ends}
use Rattle.law_steady.specs.States.{KeptAt, OwnMade, IsSteadyState}
use Rattle.law_steady.proofs.Sure.{Sure, sure-after, sure-less, sure-with}

module _ (own : LibName) (texts : List CodeNo) (rs : List CompiledLibrary) where
  abbrev pub Safe : State → Type 0
  Safe = IsSteadyState own texts rs

  -- Frames and names may change, and bindings without expressions come.

  steady-frames : (fs : Scope) (g : PlainStage) → Steady own texts rs g → Steady own texts rs (record g { frames = fs })
  steady-frames fs g h = record {
    whole = with_codes_whole (world_of g) (world_of (record g { frames = fs })) x refl g.cells h.whole;
    kept = λ l e v k. value_later (world_of g) (world_of (record g { frames = fs })) x g.cells g.cells (grows_refl g.cells) v (h.kept l e v k);
    codes = h.codes;
    defined = h.defined;
  }
    where
      x : Extends (world_of g) (world_of (record g { frames = fs }))
      x = record { codes = λ number code k. k; globals = λ l k. k }

  pub safe-frames : (fs : Scope) (s : State) → Safe s → Safe (record s { frames = fs })
  safe-frames fs s h = record { stage = steady-frames fs (stage_of s) h.stage; imported = h.imported; made = h.made }

  pub safe-names : (n : Named) (s : State) → s.names.number ≤ n.number → Safe s → Safe (record s { names = n })
  safe-names n s up h = record {
    stage = record { whole = h.stage.whole; kept = h.stage.kept; codes = h.stage.codes; defined = h.stage.defined };
    imported = h.imported;
    made = λ l e v k o. let lt = h.made l e v k o in omega (arith, lt, up);
  }

  pub safe-counted : (s : State) → Safe s → Safe (counted s)
  safe-counted s h = safe-names (counted s).names s (omega arith) h

  -- what else the state has may be any
  pub safe-bound : (l : Label) (b : Binding) (s : State) (index : ℕ) (scope : List Label) → ((level : ℕ) (c : PlainCore) → b ≡ binding.Macro level (Some c) → ⊥) → Safe s
      → Safe (record s { bindings = s.bindings ++ (l, b) ∷ []; index = index; scope = scope })
  safe-bound l b s index scope not h = record { stage = h.stage; imported = λ m level c e. by m level c (bound-more s.bindings l m b (binding.Macro level (Some c)) e); made = h.made }
    where
      by : (m : Label) (level : ℕ) (c : PlainCore) → (bound_to s.bindings m ≡ Some (binding.Macro level (Some c))) ⊎ ((m ≡ l) × (b ≡ binding.Macro level (Some c))) → IsKeywordOf rs m c
      by m level c (inl e) = h.imported m level c e
      by m level c (inr p) = absurd (not level c p.1)

  pub safe-rest : (s : State) (exports assigned scope : List Label) (uses types : ℕ) → Safe s → Safe (record s { exports = exports; assigned = assigned; scope = scope; uses_left = uses; record_types = types })
  safe-rest s exports assigned scope uses types h = record { stage = h.stage; imported = h.imported; made = h.made }

  -- and so do links
  pub safe-links : (s : State) (ls : List Link) → Safe s → Safe (record s { links = ls })
  safe-links s ls h = record { stage = h.stage; imported = h.imported; made = h.made }

  -- what the stage leaves
  pub safe-staged : {A : Type 0} (s : State) (r : Result (A × PlainStage) Fault) → Safe s → Ends (λ a g. Steady own texts rs g × OwnMade own g) r → Sure (λ a u. Safe u) (staged s r)
  safe-staged s (Ok p) h k = record { stage = k.0; imported = h.imported; made = k.1 }
  safe-staged s (Err f) h k = k

  -- Keywords come with labels that are made then, and not before.

  abbrev pub Fresh : State → State → Type 0
  Fresh s u = (m : Label) (e : Option PlainCore) (v : Value) → KeptAt u.keywords m e v → IsOwn own m.0 → KeptAt s.keywords m e v ⊎ (s.names.number ≤ m.0.number)

  pub fresh-same : (s u : State) → u.keywords ≡ s.keywords → Fresh s u
  fresh-same s u same m e v k o = inl (subst (λ ks. KeptAt ks m e v) same k)

  -- the same keywords, and a safe state
  pub record Light (s u : State) : Type 0 where
    pub safe : Safe u
    pub keywords : u.keywords ≡ s.keywords

  pub light-self : (s : State) → Safe s → Light s s
  light-self s h = record { safe = h; keywords = refl }

  pub light-links : (s u : State) (ls : List Link) → Light s u → Light s (record u { links = ls })
  light-links s u ls k = record { safe = safe-links u ls k.safe; keywords = k.keywords }

  pub light-then : (s t u : State) → Light s t → Light t u → Light s u
  light-then s t u h k = record { safe = k.safe; keywords = k.keywords ∙ h.keywords }

  abbrev pub given : List Label
  given = flat_map defined rs

  abbrev pub B : State → Type 0
  B = IsGoodState own given

  -- from a state to one that comes behind it
  pub record Goes (s u : State) : Type 0 where
    pub onward : Onward own given s u
    pub safe : Safe u
    pub fresh : Fresh s u

  pub begins : (s u : State) → Goes s u → B u
  begins s u g = g.onward.0

  pub goes-self : (s : State) → B s → Safe s → Goes s s
  goes-self s b h = record { onward = onward-self own given s b; safe = h; fresh = fresh-same s s refl }

  pub goes-links : (s : State) (ls : List Link) → B s → Safe s → Goes s (record s { links = ls })
  goes-links s ls b h = record {
    onward = onward-later own given s (record s { links = ls }) (later-links own s ls b.sound.next) (λ l c e. e) b;
    safe = safe-links s ls h;
    fresh = fresh-same s (record s { links = ls }) refl;
  }

  pub goes-then : (s t u : State) → Goes s t → Goes t u → Goes s u
  goes-then s t u g k = record { onward = onward-then own given s t u g.onward k.onward; safe = k.safe; fresh = λ m e v x o. by m e v o (k.fresh m e v x o) }
    where
      by : (m : Label) (e : Option PlainCore) (v : Value) → IsOwn own m.0 → KeptAt t.keywords m e v ⊎ (t.names.number ≤ m.0.number) → KeptAt s.keywords m e v ⊎ (s.names.number ≤ m.0.number)
      by m e v o (inl x) = g.fresh m e v x o
      by m e v o (inr le) = let up = g.onward.1.up in inr (omega (arith, le, up))

  abbrev pub G : {A : Type 0} → State → A → State → Type 0
  G s a u = Goes s u

  -- one action behind another
  pub go : {A C : Type 0} (s : State) (r : Result (A × State) Fault) (k : A → State → Result (C × State) Fault) → Sure (G s) r → ((a : A) (t : State) → Goes s t → Sure (G t) (k a t)) → Sure (G s) (after r k)
  go s r k h next = sure-after (G s) (G s) r k h (λ a t g. sure-less (G t) (G s) (k a t) (next a t g) (λ c u j. goes-then s t u g j))

  pub tells-same : (s u : State) → u.keywords ≡ s.keywords → Tells s.keywords u.keywords
  tells-same s u same k c e = subst (λ (ks : List (Label × Keyword)). IsKeptWith ks k c) same e

  -- what changes no keyword, and leads to a later state
  pub goes-light : {A : Type 0} (s : State) (r : Result (A × State) Fault) → B s → Sure (λ a u. Light s u) r → Gave (λ a u. Later own s u) r → Sure (G s) r
  goes-light s r b h k =
      sure-less (λ a u. Light s u × Later own s u) (G s) r (sure-with (λ a u. Light s u) (λ a u. Later own s u) r h k)
      (λ a u x. record { onward = onward-later own given s u x.1 (tells-same s u x.0.keywords) b; safe = x.0.safe; fresh = fresh-same s u x.0.keywords })

  -- and to one with more in a frame
  pub goes-but : (f : FrameNo) (top : Bool) (ls : List Label) (ds : Depths) (s u : State) → B s → Light s u → LaterBut own f s u → Adds own top ls ds s u → Goes s u
  goes-but f top ls ds s u b h k a = record { onward = onward-but own given f top ls ds s u k a (tells-same s u h.keywords) b; safe = h.safe; fresh = fresh-same s u h.keywords }

  pub goes-counted : (s : State) → B s → Safe s → Goes s (counted s)
  goes-counted s b h = record { onward = onward-counted own given s b; safe = safe-counted s h; fresh = fresh-same s (counted s) refl }

  pub goes-cut : (n : ℕ) (s : State) → B s → Safe s → Goes s (cut n s)
  goes-cut n s b h = record { onward = onward-cut own given n s b; safe = safe-rest s s.exports s.assigned (cut n s).scope s.uses_left s.record_types h; fresh = fresh-same s (cut n s) refl }
