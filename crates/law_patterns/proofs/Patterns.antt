-- A form is compiled to the pattern that it is, and what is none is a bad pattern.
use Rattle.std.proofs.Common.{◌≡◌, ℕ, ◌+◌, Bool, true, false, List, [], ◌∷◌, ◌++◌, map, Option, None, Some, Result, Ok, Err, refl, ap, sym, ◌∙◌, subst, append-nil, append_assoc, if◌then◌else◌}
use Rattle.base_data.specs.Act.{after}
use Rattle.base_data.specs.Elements.{Each}
use Rattle.base_data.specs.Gives.{◌>>=◌}
use Rattle.base_data.specs.Named.{Named}
use Rattle.base_data.specs.declared.atom.Atom.{Atom}
use Rattle.base_data.specs.declared.fault.Fault.{Fault}
use Rattle.base_data.specs.declared.fault.Stop.TheVariants as stops
use Rattle.base_data.specs.declared.name.Label.{Label}
use Rattle.base_data.specs.declared.span.Span.{Span}
use Rattle.stx_tree.specs.Context.{LeafContext}
use Rattle.stx_tree.specs.Tree.{Tree, atom, leaf, pair, vector, is_pair}
use Rattle.stx_frames.specs.Scope.{Scope}
use Rattle.stx_scope.specs.Same.{same_binder}
use Rattle.stx_scope.specs.Stands.{stands}
use Rattle.core_language.specs.Pattern.{PlainPattern, any, variable, literal, list, PlainPatterns, none, more, dots, patterns_on}
use Rattle.core_language.specs.Pattern as pattern_of
use Rattle.core_language.specs.declared.core_form.CoreForm.TheVariants as form
use Rattle.core_shapes.specs.Lists.{is_leaf, elements, tail_of}
use Rattle.eval_pattern.specs.Keywords.{is_form, is_ellipsis, first_ellipsis}
use Rattle.eval_pattern.specs.Compile.{PatternScope, TakenVariables, ElementPattern, bad, may_be_literal, literals_checked, is_literal, is_known, new_variable, leaf_pattern, no_parts, with_part, parts_of, pattern, tail_pattern, with_pattern, walked, forms_walked, list_pattern, list_with, vector_with, with_variables}
use Rattle.eval_pattern.specs.declared.compile.PatternVariable.{PatternVariable}
use Rattle.eval_pattern.proofs.Walks.{pattern_stop, part_stop, forms_on}
use Rattle.eval_pattern.proofs.Levels.{elements_are, tail_is}
use Rattle.law_shapes.specs.Grammar.{IsId}
use Rattle.law_shapes.specs.Grammar as g
use Rattle.law_shapes.specs.Records.{IsKeywordIdentifier}
use Rattle.law_patterns.specs.Patterns.{IsPlain, AreLiterals, IsAmong, IsChain, IsPattern, AreElements, AreOthers, IsNew, AreNew, next_name, AreNumbered, IsPartOfForm, IsIn, IsBadPattern, PatternsAreCompiled, IsTold, OthersAreBadPatterns}
use Rattle.law_patterns.specs.Patterns as r
use Rattle.law_patterns.proofs.Words.{an-id, id-is, form-is, ellipsis-is, underscore-is, no-ellipsis, untold}

-- the parts of the pattern of elements so far
abbrev type-of : {A : Type 0} → A → Type 0
type-of {A} x = A

abbrev Parts : Type 0
Parts = type-of no_parts

-- Tests.

among-is : (t : Tree) (ls : List Tree) → IsAmong t ls → is_literal ls t ≡ true
among-is t _ (r.among_first {l = l} {ls = ls} e) = ap (λ b. if b then true else is_literal ls t) e
among-is t _ (r.among_others {l = l} {ls = ls} h) = by (same_binder l t) (among-is t ls h)
  where
    by : (b : Bool) → is_literal ls t ≡ true → (if b then true else is_literal ls t) ≡ true
    by true e = refl
    by false e = e

is-among : (t : Tree) (ls : List Tree) → is_literal ls t ≡ true → IsAmong t ls
is-among t [] h = absurd (cc)
is-among t (l ∷ ls) h = by (same_binder l t) refl h (is-among t ls)
  where
    by : (b : Bool) → same_binder l t ≡ b → (if b then true else is_literal ls t) ≡ true → (is_literal ls t ≡ true → IsAmong t ls) → IsAmong t (l ∷ ls)
    by true e k rest = r.among_first e
    by false e k rest = r.among_others (rest k)

is-new : (vs : List PatternVariable) (t : Tree) → is_known vs t ≡ false → IsNew vs t
is-new [] t h = tt
is-new (v ∷ vs) t h = by (same_binder v.id t) refl h (is-new vs t)
  where
    by : (b : Bool) → same_binder v.id t ≡ b → (if b then true else is_known vs t) ≡ false → (is_known vs t ≡ false → IsNew vs t) → IsNew (v ∷ vs) t
    by true e k rest = absurd (cc)
    by false e k rest = (e, rest k)

new-is : (vs : List PatternVariable) (t : Tree) → IsNew vs t → is_known vs t ≡ false
new-is [] t h = refl
new-is (v ∷ vs) t h = ap (λ b. if b then true else is_known vs t) h.0 ∙ new-is vs t h.1

-- Variables.

new-then : (vs us ws : List PatternVariable) → AreNew vs us → AreNew (vs ++ us) ws → AreNew vs (us ++ ws)
new-then vs [] ws h k = subst (λ xs. AreNew xs ws) (append-nil vs) k
new-then vs (u ∷ us) ws h k = (h.0, new-then (vs ++ u ∷ []) us ws h.1 (subst (λ xs. AreNew xs ws) (sym (append_assoc vs (u ∷ []) us)) k))

new-first : (vs us ws : List PatternVariable) → AreNew vs (us ++ ws) → AreNew vs us
new-first vs [] ws h = tt
new-first vs (u ∷ us) ws h = (h.0, new-first (vs ++ u ∷ []) us ws h.1)

new-behind : (vs us ws : List PatternVariable) → AreNew vs (us ++ ws) → AreNew (vs ++ us) ws
new-behind vs [] ws h = subst (λ xs. AreNew xs ws) (sym (append-nil vs)) h
new-behind vs (u ∷ us) ws h = subst (λ xs. AreNew xs ws) (append_assoc vs (u ∷ []) us) (new-behind (vs ++ u ∷ []) us ws h.1)

numbered-then : (n m k : Named) (us ws : List PatternVariable) → AreNumbered n us m → AreNumbered m ws k → AreNumbered n (us ++ ws) k
numbered-then n m k [] ws h j = subst (λ x. AreNumbered x ws k) (sym h) j
numbered-then n m k (u ∷ us) ws h j = (h.0, numbered-then (next_name n) m k us ws h.1 j)

numbered-split : (n k : Named) (us ws : List PatternVariable) → AreNumbered n (us ++ ws) k → (m : Named) × (AreNumbered n us m × AreNumbered m ws k)
numbered-split n k [] ws h = (n, (refl, h))
numbered-split n k (u ∷ us) ws h = let a = numbered-split (next_name n) k us ws h.1 in (a.0, ((h.0, a.1.0), a.1.1))

-- Parts of a form.

pub chain-of : (t : Tree) → IsChain (elements t) (tail_of t) t
chain-of (atom s a) = r.chain_ends refl
chain-of (leaf s x k) = r.chain_ends refl
chain-of (pair s a d) = r.chain_next (chain-of d)
chain-of (vector s d) = r.chain_ends refl

pub chain-elements : {xs : List Tree} {e t : Tree} → IsChain xs e t → elements t ≡ xs
chain-elements (r.chain_ends {r = e} h) = by e h
  where
    by : (u : Tree) → is_pair u ≡ false → elements u ≡ []
    by (atom s a) k = refl
    by (leaf s x y) k = refl
    by (pair s a d) k = absurd (cc)
    by (vector s d) k = refl
chain-elements (r.chain_next {x = x} h) = ap (λ ys. x ∷ ys) (chain-elements h)

pub chain-tail : {xs : List Tree} {e t : Tree} → IsChain xs e t → tail_of t ≡ e
chain-tail (r.chain_ends {r = e} h) = by e h
  where
    by : (u : Tree) → is_pair u ≡ false → tail_of u ≡ u
    by (atom s a) k = refl
    by (leaf s x y) k = refl
    by (pair s a d) k = absurd (cc)
    by (vector s d) k = refl
chain-tail (r.chain_next h) = chain-tail h

in-rest : {u : Tree} {s : Option Span} {a d : Tree} → IsPartOfForm u d → IsPartOfForm u (pair s a d)
in-rest h = r.in_rest h

pub element-part : (u x t : Tree) → IsIn x (elements t) → IsPartOfForm u x → IsPartOfForm u t
element-part u x (atom s a) h k = elim h [ ]
element-part u x (leaf s y c) h k = elim h [ ]
element-part u _ (pair s a d) r.is_first k = r.in_first k
element-part u x (pair s a d) (r.is_behind h) k = r.in_rest (element-part u x d h k)
element-part u x (vector s d) h k = elim h [ ]

pub tail-part : (u t : Tree) → IsPartOfForm u (tail_of t) → IsPartOfForm u t
tail-part u (atom s a) h = h
tail-part u (leaf s x c) h = h
tail-part u (pair s a d) h = r.in_rest (tail-part u d h)
tail-part u (vector s d) h = h

-- The parts of the pattern of elements.

abbrev all-parts : Parts → PlainPatterns → Parts
all-parts parts none = parts
all-parts parts (more p ps) = all-parts (with_part parts.repeated parts p) ps
all-parts parts (dots p ps) = all-parts (record parts { repeated = Some p }) ps

abbrev parts-with : List PlainPattern → Option PlainPattern → List PlainPattern → Parts
parts-with before repeated after = record { before = before; repeated = repeated; after = after }

patterns-on-on : (xs ys : List PlainPattern) (q : PlainPatterns) → patterns_on (xs ++ ys) q ≡ patterns_on xs (patterns_on ys q)
patterns-on-on [] ys q = refl
patterns-on-on (x ∷ xs) ys q = ap (more x) (patterns-on-on xs ys q)

module _ (fs : Scope) (literals : List Tree) where
  others-parts : {depth : ℕ} {ts : List Tree} {us : List PatternVariable} {ps : PlainPatterns} (before after : List PlainPattern) (q : PlainPattern) → AreOthers fs literals depth ts us ps
      → parts_of (all-parts (parts-with before (Some q) after) ps) ≡ patterns_on before (dots q (patterns_on after ps))
  others-parts before after q r.no_other = refl
  others-parts before after q (r.an_other {p = p} {ps = ps} i h) = others-parts before (after ++ p ∷ []) q h ∙ ap (λ x. patterns_on before (dots q x)) (patterns-on-on after (p ∷ []) ps)

  elements-parts : {depth : ℕ} {ts : List Tree} {us : List PatternVariable} {ps : PlainPatterns} (before : List PlainPattern) → AreElements fs literals depth ts us ps
      → parts_of (all-parts (parts-with before None []) ps) ≡ patterns_on before ps
  elements-parts before r.no_element = refl
  elements-parts before (r.an_element {p = p} {ps = ps} i h) = elements-parts (before ++ p ∷ []) h ∙ patterns-on-on before (p ∷ []) ps
  elements-parts before (r.an_ellipsis {p = p} {ps = ps} i e h) = others-parts before [] p h

-- Lists, by their elements.

module _ (c : PatternScope) where
  list-is : (p : Option Span) (a d : Tree) (depth : ℕ) (s : TakenVariables) → pattern c (pair p a d) depth s ≡ list_pattern c (pair p a d) depth s
  list-is p a d depth s =
      ap (λ (xs : List ElementPattern). list_with (walked c depth false no_parts ((a, pattern c a) ∷ xs)) (tail_pattern c d depth) s) ((elements_are c) d)
      ∙ ap (λ (go : ℕ → TakenVariables → Result (PlainPattern × TakenVariables) Fault). list_with (forms_walked c depth (a ∷ elements d)) (go depth) s) ((tail_is c) d)

  vector-is : (p : Option Span) (d : Tree) (depth : ℕ) (s : TakenVariables) → pattern c (vector p d) depth s ≡ vector_with (forms_walked c depth (elements d)) s
  vector-is p d depth s = ap (λ (xs : List ElementPattern). vector_with (walked c depth false no_parts xs) s) ((elements_are c) d)

  -- What comes of a form.

  record Gave (depth : ℕ) (t : Tree) (s : TakenVariables) (r : PlainPattern × TakenVariables) : Type 0 where
    pub us : List PatternVariable
    pub is : IsPattern c.frames c.literals depth t us r.0
    pub known : r.1.0 ≡ s.0 ++ us
    pub new : AreNew s.0 us
    pub numbered : AreNumbered s.1 us r.1.1

  record IsBadAt (t : Tree) (f : Fault) : Type 0 where
    pub at : Tree
    pub part : IsPartOfForm at t
    pub is : f ≡ bad c.place at

  abbrev Tells : ℕ → Tree → TakenVariables → Result (PlainPattern × TakenVariables) Fault → Type 0
  Tells depth t s (Ok r) = Gave depth t s r
  Tells depth t s (Err f) = IsBadAt t f

  abbrev Told : Tree → Type 0
  Told t = (depth : ℕ) (s : TakenVariables) → Tells depth t s (pattern c t depth s)

  plain : (t : Tree) → IsId t → is_form form.Ellipsis (stands c.frames t) ≡ false → is_form form.Underscore (stands c.frames t) ≡ false → IsPlain c.frames t
  plain t i e u = record {
    is_id = i;
    no_ellipsis = λ w. let k = sym e ∙ ellipsis-is c.frames t w in let f : ⊥ = cc in f;
    no_underscore = λ w. let k = sym u ∙ underscore-is c.frames t w in let f : ⊥ = cc in f;
  }

  module _ (t : Tree) (i : IsId t) (depth : ℕ) (s : TakenVariables) where
    variable-told : IsPlain c.frames t → is_literal c.literals t ≡ false → (b : Bool) → is_known s.0 t ≡ b
        → Tells depth t s (if b then Err (bad c.place t) else Ok (variable (record { 0 = s.1 }), (s.0 ++ record { id = t; label = record { 0 = s.1 }; depth = depth } ∷ [], next_name s.1)))
    variable-told p l true e = record { at = t; part = r.itself; is = refl }
    variable-told p l false e = record {
      us = record { id = t; label = record { 0 = s.1 }; depth = depth } ∷ [];
      is = r.a_variable p (λ h. let k = sym l ∙ among-is t c.literals h in let f : ⊥ = cc in f);
      known = refl;
      new = (is-new s.0 t e, tt);
      numbered = (refl, refl);
    }

    leaf-told : (a b l : Bool) → is_form form.Ellipsis (stands c.frames t) ≡ a → is_form form.Underscore (stands c.frames t) ≡ b → is_literal c.literals t ≡ l
        → Tells depth t s (if a then Err (bad c.place t) else (if b then Ok (any, s) else (if l then Ok (literal t, s) else new_variable c.place t depth s)))
    leaf-told true b l e u k = record { at = t; part = r.itself; is = refl }
    leaf-told false true l e u k = record { us = []; is = r.an_underscore (form-is c.frames form.Underscore t u); known = sym (append-nil s.0); new = tt; numbered = refl }
    leaf-told false false true e u k = record { us = []; is = r.a_literal (plain t i e u) (is-among t c.literals k); known = sym (append-nil s.0); new = tt; numbered = refl }
    leaf-told false false false e u k = variable-told (plain t i e u) k (is_known s.0 t) refl

  leaf-is-told : (p : Option Span) (x : List ℕ) (k : LeafContext) → Told (leaf p x k)
  leaf-is-told p x k depth s =
      let t = leaf p x k in
      leaf-told t g.id depth s (is_form form.Ellipsis (stands c.frames t)) (is_form form.Underscore (stands c.frames t)) (is_literal c.literals t) refl refl refl

  atom-is-told : (p : Option Span) (a : Atom) → Told (atom p a)
  atom-is-told p a depth s = record { us = []; is = r.a_datum; known = sym (append-nil s.0); new = tt; numbered = refl }

  -- What comes of elements.

  record IsBadIn (ts : List Tree) (f : Fault) : Type 0 where
    pub form : Tree
    pub among : IsIn form ts
    pub bad : IsBadAt form f

  bad-behind : (x : Tree) (ts : List Tree) (f : Fault) → IsBadIn ts f → IsBadIn (x ∷ ts) f
  bad-behind x ts f h = record { form = h.form; among = r.is_behind h.among; bad = h.bad }

  bad-first : (x : Tree) (ts : List Tree) (f : Fault) → IsBadAt x f → IsBadIn (x ∷ ts) f
  bad-first x ts f h = record { form = x; among = r.is_first; bad = h }

  record GaveOthers (depth : ℕ) (ts : List Tree) (parts : Parts) (s : TakenVariables) (r : Parts × TakenVariables) : Type 0 where
    pub us : List PatternVariable
    pub ps : PlainPatterns
    pub are : AreOthers c.frames c.literals depth ts us ps
    pub is : r.0 ≡ all-parts parts ps
    pub known : r.1.0 ≡ s.0 ++ us
    pub new : AreNew s.0 us
    pub numbered : AreNumbered s.1 us r.1.1

  record GaveElements (depth : ℕ) (ts : List Tree) (parts : Parts) (s : TakenVariables) (r : Parts × TakenVariables) : Type 0 where
    pub us : List PatternVariable
    pub ps : PlainPatterns
    pub are : AreElements c.frames c.literals depth ts us ps
    pub is : r.0 ≡ all-parts parts ps
    pub known : r.1.0 ≡ s.0 ++ us
    pub new : AreNew s.0 us
    pub numbered : AreNumbered s.1 us r.1.1

  abbrev TellsOthers : ℕ → List Tree → Parts → TakenVariables → Result (Parts × TakenVariables) Fault → Type 0
  TellsOthers depth ts parts s (Ok r) = GaveOthers depth ts parts s r
  TellsOthers depth ts parts s (Err f) = IsBadIn ts f

  abbrev TellsElements : ℕ → List Tree → Parts → TakenVariables → Result (Parts × TakenVariables) Fault → Type 0
  TellsElements depth ts parts s (Ok r) = GaveElements depth ts parts s r
  TellsElements depth ts parts s (Err f) = IsBadIn ts f

  -- the ellipsis that forms begin with
  first-in : (e : Tree) (ts : List Tree) → Some e ≡ first_ellipsis c.frames ts → IsIn e ts
  first-in e [] h = absurd (cc)
  first-in e (t ∷ ts) h = by (is_ellipsis c.frames t) h
    where
      by : (b : Bool) → Some e ≡ (if b then Some t else None) → IsIn e (t ∷ ts)
      by true k = subst (λ x. IsIn e (x ∷ ts)) (let f : e ≡ t = cc in f) r.is_first
      by false k = absurd (cc)

  first-is : (e t : Tree) (ts : List Tree) → Some e ≡ first_ellipsis c.frames (t ∷ ts) → IsKeywordIdentifier c.frames form.Ellipsis t
  first-is e t ts h = by (is_ellipsis c.frames t) refl h
    where
      by : (b : Bool) → is_ellipsis c.frames t ≡ b → Some e ≡ (if b then Some t else None) → IsKeywordIdentifier c.frames form.Ellipsis t
      by true k j = form-is c.frames form.Ellipsis t k
      by false k j = absurd (cc)

  module _ (depth : ℕ) (t : Tree) (ts : List Tree) (s : TakenVariables) where
    abbrev walk : Parts → Result (Parts × TakenVariables) Fault
    walk parts = walked c depth false parts (map (with_pattern c) (t ∷ ts)) s

    -- one more element
    others-on : (before after : List PlainPattern) (q p : PlainPattern) (new : TakenVariables) (total : Result (Parts × TakenVariables) Fault) → Gave depth t s (p, new)
        → TellsOthers depth ts (parts-with before (Some q) (after ++ p ∷ [])) new total → TellsOthers depth (t ∷ ts) (parts-with before (Some q) after) s total
    others-on before after q p new (Ok x) a b = record {
      us = a.us ++ b.us;
      ps = more p b.ps;
      are = r.an_other a.is b.are;
      is = b.is;
      known = b.known ∙ ap (λ vs. vs ++ b.us) a.known ∙ append_assoc s.0 a.us b.us;
      new = new-then s.0 a.us b.us a.new (subst (λ vs. AreNew vs b.us) a.known b.new);
      numbered = numbered-then s.1 new.1 x.1.1 a.us b.us a.numbered b.numbered;
    }
    others-on before after q p new (Err f) a b = bad-behind t ts f b

    elements-on : (before : List PlainPattern) (p : PlainPattern) (new : TakenVariables) (total : Result (Parts × TakenVariables) Fault) → Gave depth t s (p, new)
        → TellsElements depth ts (parts-with (before ++ p ∷ []) None []) new total → TellsElements depth (t ∷ ts) (parts-with before None []) s total
    elements-on before p new (Ok x) a b = record {
      us = a.us ++ b.us;
      ps = more p b.ps;
      are = r.an_element a.is b.are;
      is = b.is;
      known = b.known ∙ ap (λ vs. vs ++ b.us) a.known ∙ append_assoc s.0 a.us b.us;
      new = new-then s.0 a.us b.us a.new (subst (λ vs. AreNew vs b.us) a.known b.new);
      numbered = numbered-then s.1 new.1 x.1.1 a.us b.us a.numbered b.numbered;
    }
    elements-on before p new (Err f) a b = bad-behind t ts f b

  dots-on : (depth : ℕ) (t e : Tree) (ts : List Tree) (s : TakenVariables) (before : List PlainPattern) (p : PlainPattern) (new : TakenVariables) (total : Result (Parts × TakenVariables) Fault) → IsKeywordIdentifier c.frames form.Ellipsis e → Gave (depth + 1) t s (p, new)
      → TellsOthers depth ts (parts-with before (Some p) []) new total → TellsElements depth (t ∷ e ∷ ts) (parts-with before None []) s total
  dots-on depth t e ts s before p new (Ok x) w a b = record {
    us = a.us ++ b.us;
    ps = dots p b.ps;
    are = r.an_ellipsis a.is w b.are;
    is = b.is;
    known = b.known ∙ ap (λ vs. vs ++ b.us) a.known ∙ append_assoc s.0 a.us b.us;
    new = new-then s.0 a.us b.us a.new (subst (λ vs. AreNew vs b.us) a.known b.new);
    numbered = numbered-then s.1 new.1 x.1.1 a.us b.us a.numbered b.numbered;
  }
  dots-on depth t e ts s before p new (Err f) w a b = bad-behind t (e ∷ ts) f (bad-behind e ts f b)

  module _ (depth : ℕ) (t : Tree) (ts : List Tree) (s : TakenVariables) (told : Told t) where
    -- behind an ellipsis
    module _ (before after : List PlainPattern) (q : PlainPattern) (rest : (ps : List PlainPattern) (u : TakenVariables) → TellsOthers depth ts (parts-with before (Some q) ps) u (walked c depth false (parts-with before (Some q) ps) (map (with_pattern c) ts) u)) where
      abbrev others : Parts
      others = parts-with before (Some q) after

      other-plain : None ≡ first_ellipsis c.frames ts → (x : Result (PlainPattern × TakenVariables) Fault) → pattern c t depth s ≡ x → Tells depth t s x → TellsOthers depth (t ∷ ts) others s (walk depth t ts s others)
      other-plain next (Err f) e h = subst (TellsOthers depth (t ∷ ts) others s) (sym (pattern_stop c depth others t (t ∷ ts) ts None depth s (walk depth t ts s others) refl next refl refl (stops.Fault f) e)) (bad-first t ts f h)
      other-plain next (Ok x) e h = subst (TellsOthers depth (t ∷ ts) others s) (forms_on c depth others t (t ∷ ts) ts None depth s (walk depth t ts s others) refl next refl refl x.0 x.1 e (parts-with before (Some q) (after ++ x.0 ∷ [])) refl)
          (others-on depth t ts s before after q x.0 x.1 (walked c depth false (parts-with before (Some q) (after ++ x.0 ∷ [])) (map (with_pattern c) ts) x.1) h (rest (after ++ x.0 ∷ []) x.1))

      other-dotted : (y : Tree) → Some y ≡ first_ellipsis c.frames ts → (x : Result (PlainPattern × TakenVariables) Fault) → pattern c t (depth + 1) s ≡ x → Tells (depth + 1) t s x → TellsOthers depth (t ∷ ts) others s (walk depth t ts s others)
      other-dotted y next (Err f) e h = subst (TellsOthers depth (t ∷ ts) others s) (sym (pattern_stop c depth others t (t ∷ ts) ts (Some y) (depth + 1) s (walk depth t ts s others) refl next refl refl (stops.Fault f) e)) (bad-first t ts f h)
      other-dotted y next (Ok x) e h = subst (TellsOthers depth (t ∷ ts) others s)
          (sym (part_stop c depth others t (t ∷ ts) ts (Some y) (depth + 1) s (walk depth t ts s others) refl next refl refl x.0 x.1 e (stops.Fault (bad c.place y)) refl))
          (record { form = y; among = r.is_behind (first-in y ts next); bad = record { at = y; part = r.itself; is = refl } })

      other-told : (o : Option Tree) → o ≡ first_ellipsis c.frames ts → TellsOthers depth (t ∷ ts) others s (walk depth t ts s others)
      other-told None next = other-plain next (pattern c t depth s) refl (told depth s)
      other-told (Some y) next = other-dotted y next (pattern c t (depth + 1) s) refl (told (depth + 1) s)

  others-told : (depth : ℕ) (ts : List Tree) → Each Told ts → (before after : List PlainPattern) (q : PlainPattern) (s : TakenVariables)
      → TellsOthers depth ts (parts-with before (Some q) after) s (walked c depth false (parts-with before (Some q) after) (map (with_pattern c) ts) s)
  others-told depth [] h before after q s = record { us = []; ps = none; are = r.no_other; is = refl; known = sym (append-nil s.0); new = tt; numbered = refl }
  others-told depth (t ∷ ts) h before after q s = other-told depth t ts s h.0 before after q (λ ps u. others-told depth ts h.1 before ps q u) (first_ellipsis c.frames ts) refl

  module _ (depth : ℕ) (t : Tree) (ts : List Tree) (s : TakenVariables) (told : Told t) (before : List PlainPattern) where
    abbrev firsts : Parts
    firsts = parts-with before None []

    element-plain : ((ps : List PlainPattern) (u : TakenVariables) → TellsElements depth ts (parts-with ps None []) u (walked c depth false (parts-with ps None []) (map (with_pattern c) ts) u))
        → None ≡ first_ellipsis c.frames ts → (x : Result (PlainPattern × TakenVariables) Fault) → pattern c t depth s ≡ x → Tells depth t s x → TellsElements depth (t ∷ ts) firsts s (walk depth t ts s firsts)
    element-plain rest next (Err f) e h = subst (TellsElements depth (t ∷ ts) firsts s) (sym (pattern_stop c depth firsts t (t ∷ ts) ts None depth s (walk depth t ts s firsts) refl next refl refl (stops.Fault f) e)) (bad-first t ts f h)
    element-plain rest next (Ok x) e h = subst (TellsElements depth (t ∷ ts) firsts s) (forms_on c depth firsts t (t ∷ ts) ts None depth s (walk depth t ts s firsts) refl next refl refl x.0 x.1 e (parts-with (before ++ x.0 ∷ []) None []) refl)
        (elements-on depth t ts s before x.0 x.1 (walked c depth false (parts-with (before ++ x.0 ∷ []) None []) (map (with_pattern c) ts) x.1) h (rest (before ++ x.0 ∷ []) x.1))

  module _ (depth : ℕ) (t y : Tree) (ts : List Tree) (s : TakenVariables) (before : List PlainPattern) (e : Tree) (next : Some e ≡ first_ellipsis c.frames (y ∷ ts)) where
    element-dotted : Each Told ts → (x : Result (PlainPattern × TakenVariables) Fault) → pattern c t (depth + 1) s ≡ x → Tells (depth + 1) t s x → TellsElements depth (t ∷ y ∷ ts) (parts-with before None []) s (walk depth t (y ∷ ts) s (parts-with before None []))
    element-dotted all (Err f) k h = subst (TellsElements depth (t ∷ y ∷ ts) (parts-with before None []) s)
        (sym (pattern_stop c depth (parts-with before None []) t (t ∷ y ∷ ts) (y ∷ ts) (Some e) (depth + 1) s (walk depth t (y ∷ ts) s (parts-with before None [])) refl next refl refl (stops.Fault f) k)) (bad-first t (y ∷ ts) f h)
    element-dotted all (Ok x) k h = subst (TellsElements depth (t ∷ y ∷ ts) (parts-with before None []) s)
        (forms_on c depth (parts-with before None []) t (t ∷ y ∷ ts) (y ∷ ts) (Some e) (depth + 1) s (walk depth t (y ∷ ts) s (parts-with before None [])) refl next refl refl x.0 x.1 k (parts-with before (Some x.0) []) refl)
        (dots-on depth t y ts s before x.0 x.1 (walked c depth false (parts-with before (Some x.0) []) (map (with_pattern c) ts) x.1) (first-is e y ts next) h (others-told depth ts all before [] x.0 x.1))

  element-told : (depth : ℕ) (t : Tree) (ts : List Tree) (s : TakenVariables) (told : Told t) (before : List PlainPattern) → Each Told ts
      → ((ps : List PlainPattern) (u : TakenVariables) → TellsElements depth ts (parts-with ps None []) u (walked c depth false (parts-with ps None []) (map (with_pattern c) ts) u))
      → (o : Option Tree) → o ≡ first_ellipsis c.frames ts → TellsElements depth (t ∷ ts) (parts-with before None []) s (walk depth t ts s (parts-with before None []))
  element-told depth t ts s told before all rest None next = element-plain depth t ts s told before rest next (pattern c t depth s) refl (told depth s)
  element-told depth t [] s told before all rest (Some e) next = absurd (cc)
  element-told depth t (y ∷ ts) s told before all rest (Some e) next = element-dotted depth t y ts s before e next all.1 (pattern c t (depth + 1) s) refl (told (depth + 1) s)

  elements-told : (depth : ℕ) (ts : List Tree) → Each Told ts → (before : List PlainPattern) (s : TakenVariables)
      → TellsElements depth ts (parts-with before None []) s (walked c depth false (parts-with before None []) (map (with_pattern c) ts) s)
  elements-told depth [] h before s = record { us = []; ps = none; are = r.no_element; is = refl; known = sym (append-nil s.0); new = tt; numbered = refl }
  elements-told depth (t ∷ ts) h before s = element-told depth t ts s h.0 before h.1 (λ ps u. elements-told depth ts h.1 ps u) (first_ellipsis c.frames ts) refl

  -- Lists and vectors.

  bad-element : (t : Tree) (f : Fault) → IsBadIn (elements t) f → IsBadAt t f
  bad-element t f h = record { at = h.bad.at; part = element-part h.bad.at h.form t h.among h.bad.part; is = h.bad.is }

  module _ (p : Option Span) (a d : Tree) (depth : ℕ) (s : TakenVariables) where
    abbrev whole-list : Tree
    whole-list = pair p a d

    list-tail : (x : Parts × TakenVariables) → GaveElements depth (elements whole-list) no_parts s x → (y : Result (PlainPattern × TakenVariables) Fault) → Tells depth (tail_of d) x.1 y → Tells depth whole-list s (after y (λ q s. Ok (list (parts_of x.0) q, s)))
    list-tail x g (Err f) h = record { at = h.at; part = r.in_rest (tail-part h.at d h.part); is = h.is }
    list-tail x g (Ok y) h = record {
      us = g.us ++ h.us;
      is = subst (λ ps. IsPattern c.frames c.literals depth whole-list (g.us ++ h.us) (list ps y.0)) (sym (ap parts_of g.is ∙ elements-parts c.frames c.literals [] g.are)) (r.a_list (chain-of whole-list) g.are h.is);
      known = h.known ∙ ap (λ vs. vs ++ h.us) g.known ∙ append_assoc s.0 g.us h.us;
      new = new-then s.0 g.us h.us g.new (subst (λ vs. AreNew vs h.us) g.known h.new);
      numbered = numbered-then s.1 x.1.1 y.1.1 g.us h.us g.numbered h.numbered;
    }

    list-told : (x : Result (Parts × TakenVariables) Fault) → TellsElements depth (elements whole-list) no_parts s x → Told (tail_of d) → Tells depth whole-list s (after x (λ parts s. after (pattern c (tail_of d) depth s) (λ q s. Ok (list (parts_of parts) q, s))))
    list-told (Err f) g h = bad-element whole-list f g
    list-told (Ok x) g h = list-tail x g (pattern c (tail_of d) depth x.1) (h depth x.1)

  vector-told : (p : Option Span) (d : Tree) (depth : ℕ) (s : TakenVariables) (x : Result (Parts × TakenVariables) Fault) → TellsElements depth (elements d) no_parts s x → Tells depth (vector p d) s (after x (λ parts s. Ok (pattern_of.vector (parts_of parts), s)))
  vector-told p d depth s (Err f) g = let b = bad-element d f g in record { at = b.at; part = r.in_vector b.part; is = b.is }
  vector-told p d depth s (Ok x) g = record {
    us = g.us;
    is = subst (λ ps. IsPattern c.frames c.literals depth (vector p d) g.us (pattern_of.vector ps)) (sym (ap parts_of g.is ∙ elements-parts c.frames c.literals [] g.are)) (r.a_vector g.are);
    known = g.known;
    new = g.new;
    numbered = g.numbered;
  }

  mutual
    told : (t : Tree) → Told t
    told (atom p a) = atom-is-told p a
    told (leaf p x k) = leaf-is-told p x k
    told (pair p a d) = λ depth s. subst (Tells depth (pair p a d) s) (sym (list-is p a d depth s))
        (list-told p a d depth s (forms_walked c depth (a ∷ elements d) s) (elements-told depth (a ∷ elements d) (told a, all-told d) [] s) (tail-told d))
    told (vector p d) = λ depth s. subst (Tells depth (vector p d) s) (sym (vector-is p d depth s)) (vector-told p d depth s (forms_walked c depth (elements d) s) (elements-told depth (elements d) (all-told d) [] s))

    all-told : (t : Tree) → Each Told (elements t)
    all-told (atom p a) = tt
    all-told (leaf p x k) = tt
    all-told (pair p a d) = (told a, all-told d)
    all-told (vector p d) = tt

    tail-told : (t : Tree) → Told (tail_of t)
    tail-told (atom p a) = atom-is-told p a
    tail-told (leaf p x k) = leaf-is-told p x k
    tail-told (pair p a d) = tail-told d
    tail-told (vector p d) = λ depth s. subst (Tells depth (vector p d) s) (sym (vector-is p d depth s)) (vector-told p d depth s (forms_walked c depth (elements d) s) (elements-told depth (elements d) (all-told d) [] s))

  -- What is a pattern is compiled to it.

  abbrev Is : ℕ → Tree → List PatternVariable → PlainPattern → Type 0
  Is depth t us p = IsPattern c.frames c.literals depth t us p

  not-ellipsis : (t : Tree) → IsPlain c.frames t → is_form form.Ellipsis (stands c.frames t) ≡ false
  not-ellipsis t p = untold (is_form form.Ellipsis (stands c.frames t)) (λ h. p.no_ellipsis (form-is c.frames form.Ellipsis t h))

  not-underscore : (t : Tree) → IsPlain c.frames t → is_form form.Underscore (stands c.frames t) ≡ false
  not-underscore t p = untold (is_form form.Underscore (stands c.frames t)) (λ h. p.no_underscore (form-is c.frames form.Underscore t h))

  no-ellipsis-is : {depth : ℕ} {t : Tree} {us : List PatternVariable} {p : PlainPattern} → Is depth t us p → is_ellipsis c.frames t ≡ false
  no-ellipsis-is (r.an_underscore {t = t} w) = no-ellipsis c.frames t w
  no-ellipsis-is (r.a_literal {t = t} p h) = not-ellipsis t p
  no-ellipsis-is (r.a_variable {t = t} p h) = not-ellipsis t p
  no-ellipsis-is r.a_datum = refl
  no-ellipsis-is (r.a_list (r.chain_next h) are i) = refl
  no-ellipsis-is (r.a_vector are) = refl

  none-first : {depth : ℕ} {ts : List Tree} {us : List PatternVariable} {ps : PlainPatterns} → AreElements c.frames c.literals depth ts us ps → None ≡ first_ellipsis c.frames ts
  none-first r.no_element = refl
  none-first (r.an_element {x = x} i h) = ap (λ b. if b then Some x else None) (sym (no-ellipsis-is i))
  none-first (r.an_ellipsis {x = x} i w h) = ap (λ b. if b then Some x else None) (sym (no-ellipsis-is i))

  none-first-other : {depth : ℕ} {ts : List Tree} {us : List PatternVariable} {ps : PlainPatterns} → AreOthers c.frames c.literals depth ts us ps → None ≡ first_ellipsis c.frames ts
  none-first-other r.no_other = refl
  none-first-other (r.an_other {x = x} i h) = ap (λ b. if b then Some x else None) (sym (no-ellipsis-is i))

  leaf-branch : (t : Tree) (depth : ℕ) (s : TakenVariables) (a b l : Bool) → is_form form.Ellipsis (stands c.frames t) ≡ a → is_form form.Underscore (stands c.frames t) ≡ b → is_literal c.literals t ≡ l
      → leaf_pattern c t depth s ≡ (if a then Err (bad c.place t) else (if b then Ok (any, s) else (if l then Ok (literal t, s) else new_variable c.place t depth s)))
  leaf-branch t depth s a b l e u k = λ i. if e i then Err (bad c.place t) else (if u i then Ok (any, s) else (if k i then Ok (literal t, s) else new_variable c.place t depth s))

  id-pattern : (t : Tree) (depth : ℕ) (s : TakenVariables) → IsId t → pattern c t depth s ≡ leaf_pattern c t depth s
  id-pattern _ depth s g.id = refl

  abbrev Comes : ℕ → Tree → List PatternVariable → PlainPattern → Type 0
  Comes depth t us p = (vs : List PatternVariable) (n m : Named) → AreNew vs us → AreNumbered n us m → pattern c t depth (vs, n) ≡ Ok (p, (vs ++ us, m))

  abbrev gives : PlainPattern → List PatternVariable → Named → Result (PlainPattern × TakenVariables) Fault
  gives p vs n = Ok (p, (vs, n))

  no-variables : (p : PlainPattern) (vs : List PatternVariable) (n m : Named) → n ≡ m → gives p vs n ≡ gives p (vs ++ []) m
  no-variables p vs n m e = λ i. Ok (p, (sym (append-nil vs) i, e i))

  variable-comes : (t : Tree) (depth : ℕ) (l : Label) → IsPlain c.frames t → (IsAmong t c.literals → ⊥) → Comes depth t (record { id = t; label = l; depth = depth } ∷ []) (variable l)
  variable-comes t depth l p h vs n m new numbered =
      id-pattern t depth (vs, n) p.is_id
      ∙ leaf-branch t depth (vs, n) false false false (not-ellipsis t p) (not-underscore t p) (untold (is_literal c.literals t) (λ k. h (is-among t c.literals k)))
      ∙ ap (λ b. if b then Err (bad c.place t) else Ok (variable (record { 0 = n }), (vs ++ record { id = t; label = record { 0 = n }; depth = depth } ∷ [], next_name n))) (new-is vs t new.0)
      ∙ (λ i. Ok (variable (sym numbered.0 i), (vs ++ record { id = t; label = sym numbered.0 i; depth = depth } ∷ [], numbered.1 i)))

  mutual
    comes : {depth : ℕ} {t : Tree} {us : List PatternVariable} {p : PlainPattern} → Is depth t us p → Comes depth t us p
    comes (r.an_underscore {depth = depth} {t = t} w) vs n m new numbered =
        id-pattern t depth (vs, n) w.is_id ∙ leaf-branch t depth (vs, n) false true (is_literal c.literals t) (no-ellipsis c.frames t w) (underscore-is c.frames t w) refl ∙ no-variables any vs n m numbered
    comes (r.a_literal {depth = depth} {t = t} p h) vs n m new numbered =
        id-pattern t depth (vs, n) p.is_id ∙ leaf-branch t depth (vs, n) false false true (not-ellipsis t p) (not-underscore t p) (among-is t c.literals h) ∙ no-variables (literal t) vs n m numbered
    comes (r.a_variable {depth = depth} {t = t} {l = l} p h) vs n m new numbered = variable-comes t depth l p h vs n m new numbered
    comes (r.a_datum {a = a}) vs n m new numbered = no-variables (pattern_of.atom a) vs n m numbered
    comes (r.a_list {depth = depth} {r = e} {x = x} {xs = xs} {us = us} {ws = ws} {ps = ps} {p = p} (r.chain_next {span = span} {rest = rest} ch) are i) vs n m new numbered =
        let k = numbered-split n m us ws numbered in
        let firsts = elements-come are [] vs n k.0 (new-first vs us ws new) k.1.0 in
        let last = comes i (vs ++ us) k.0 m (new-behind vs us ws new) k.1.1 in
        list-is span x rest depth (vs, n)
        ∙ ap (λ ys. after (forms_walked c depth (x ∷ ys) (vs, n)) (λ parts s. after (pattern c (tail_of rest) depth s) (λ q s. Ok (list (parts_of parts) q, s)))) (chain-elements ch)
        ∙ ap (λ y. after y (λ parts s. after (pattern c (tail_of rest) depth s) (λ q s. Ok (list (parts_of parts) q, s)))) firsts
        ∙ ap (λ y. after (pattern c y depth (vs ++ us, k.0)) (λ q s. Ok (list (parts_of (all-parts no_parts ps)) q, s))) (chain-tail ch)
        ∙ ap (λ y. after y (λ q s. Ok (list (parts_of (all-parts no_parts ps)) q, s))) last
        ∙ (λ j. Ok (list (elements-parts c.frames c.literals [] are j) p, (append_assoc vs us ws j, m)))
    comes (r.a_vector {depth = depth} {span = span} {t = t} {us = us} {ps = ps} are) vs n m new numbered =
        vector-is span t depth (vs, n)
        ∙ ap (λ y. after y (λ parts s. Ok (pattern_of.vector (parts_of parts), s))) (elements-come are [] vs n m new numbered)
        ∙ (λ j. Ok (pattern_of.vector (elements-parts c.frames c.literals [] are j), (vs ++ us, m)))

    elements-come : {depth : ℕ} {ts : List Tree} {us : List PatternVariable} {ps : PlainPatterns} → AreElements c.frames c.literals depth ts us ps → (before : List PlainPattern) (vs : List PatternVariable) (n m : Named) → AreNew vs us → AreNumbered n us m
        → walked c depth false (parts-with before None []) (map (with_pattern c) ts) (vs, n) ≡ Ok (all-parts (parts-with before None []) ps, (vs ++ us, m))
    elements-come r.no_element before vs n m new numbered = λ i. Ok (parts-with before None [], (sym (append-nil vs) i, numbered i))
    elements-come (r.an_element {depth = depth} {x = x} {xs = xs} {us = us} {ws = ws} {p = p} {ps = ps} i h) before vs n m new numbered =
        let k = numbered-split n m us ws numbered in
        let one = comes i vs n k.0 (new-first vs us ws new) k.1.0 in
        sym (forms_on c depth (parts-with before None []) x (x ∷ xs) xs None depth (vs, n) (walk depth x xs (vs, n) (parts-with before None [])) refl (none-first h) refl refl p (vs ++ us, k.0) one (parts-with (before ++ p ∷ []) None []) refl)
        ∙ elements-come h (before ++ p ∷ []) (vs ++ us) k.0 m (new-behind vs us ws new) k.1.1
        ∙ (λ j. Ok (all-parts (parts-with (before ++ p ∷ []) None []) ps, (append_assoc vs us ws j, m)))
    elements-come (r.an_ellipsis {depth = depth} {x = x} {e = e} {xs = xs} {us = us} {ws = ws} {p = p} {ps = ps} i w h) before vs n m new numbered =
        let k = numbered-split n m us ws numbered in
        let one = comes i vs n k.0 (new-first vs us ws new) k.1.0 in
        let next : Some e ≡ first_ellipsis c.frames (e ∷ xs) = ap (λ b. if b then Some e else None) (sym (ellipsis-is c.frames e w)) in
        sym (forms_on c depth (parts-with before None []) x (x ∷ e ∷ xs) (e ∷ xs) (Some e) (depth + 1) (vs, n) (walk depth x (e ∷ xs) (vs, n) (parts-with before None [])) refl next refl refl p (vs ++ us, k.0) one (parts-with before (Some p) []) refl)
        ∙ others-come h before [] p (vs ++ us) k.0 m (new-behind vs us ws new) k.1.1
        ∙ (λ j. Ok (all-parts (parts-with before (Some p) []) ps, (append_assoc vs us ws j, m)))

    others-come : {depth : ℕ} {ts : List Tree} {us : List PatternVariable} {ps : PlainPatterns} → AreOthers c.frames c.literals depth ts us ps → (before after : List PlainPattern) (q : PlainPattern) (vs : List PatternVariable) (n m : Named) → AreNew vs us → AreNumbered n us m
        → walked c depth false (parts-with before (Some q) after) (map (with_pattern c) ts) (vs, n) ≡ Ok (all-parts (parts-with before (Some q) after) ps, (vs ++ us, m))
    others-come r.no_other before after q vs n m new numbered = λ i. Ok (parts-with before (Some q) after, (sym (append-nil vs) i, numbered i))
    others-come (r.an_other {depth = depth} {x = x} {xs = xs} {us = us} {ws = ws} {p = p} {ps = ps} i h) before after q vs n m new numbered =
        let k = numbered-split n m us ws numbered in
        let one = comes i vs n k.0 (new-first vs us ws new) k.1.0 in
        sym (forms_on c depth (parts-with before (Some q) after) x (x ∷ xs) xs None depth (vs, n) (walk depth x xs (vs, n) (parts-with before (Some q) after)) refl (none-first-other h) refl refl p (vs ++ us, k.0) one (parts-with before (Some q) (after ++ p ∷ [])) refl)
        ∙ others-come h before (after ++ p ∷ []) q (vs ++ us) k.0 m (new-behind vs us ws new) k.1.1
        ∙ (λ j. Ok (all-parts (parts-with before (Some q) (after ++ p ∷ [])) ps, (append_assoc vs us ws j, m)))

  -- Literals.

  may-be : (t : Tree) → IsPlain c.frames t → may_be_literal c.frames t ≡ true
  may-be t p = λ i. if id-is t p.is_id i then (if not-ellipsis t p i then false else (if not-underscore t p i then false else true)) else false

  literals-come : (ls : List Tree) → AreLiterals c.frames ls → literals_checked c.frames c.place ls ≡ Ok tt
  literals-come [] h = refl
  literals-come (t ∷ ts) h = ap (λ b. if b then literals_checked c.frames c.place ts else Err (bad c.place t)) (may-be t h.0) ∙ literals-come ts h.1

  is-plain : (t : Tree) → may_be_literal c.frames t ≡ true → IsPlain c.frames t
  is-plain t h = by (is_leaf t) (is_form form.Ellipsis (stands c.frames t)) (is_form form.Underscore (stands c.frames t)) refl refl refl h
    where
      by : (a b u : Bool) → is_leaf t ≡ a → is_form form.Ellipsis (stands c.frames t) ≡ b → is_form form.Underscore (stands c.frames t) ≡ u → (if a then (if b then false else (if u then false else true)) else false) ≡ true → IsPlain c.frames t
      by true false false i e k x = plain t (an-id t i) e k
      by true false true i e k x = absurd (cc)
      by true true u i e k x = absurd (cc)
      by false b u i e k x = absurd (cc)

  abbrev TellsLiterals : List Tree → Result (Unit {0}) Fault → Type 0
  TellsLiterals ls (Ok x) = AreLiterals c.frames ls
  TellsLiterals ls (Err f) = (u : Tree) × (IsIn u ls × (f ≡ bad c.place u))

  literals-told : (ls : List Tree) → TellsLiterals ls (literals_checked c.frames c.place ls)
  literals-told [] = tt
  literals-told (t ∷ ts) = by (may_be_literal c.frames t) refl (literals_checked c.frames c.place ts) (literals-told ts)
    where
      by : (b : Bool) → may_be_literal c.frames t ≡ b → (x : Result (Unit {0}) Fault) → TellsLiterals ts x → TellsLiterals (t ∷ ts) (if b then x else Err (bad c.place t))
      by true e (Ok x) h = (is-plain t e, h)
      by true e (Err f) h = (h.0, (r.is_behind h.1.0, h.1.1))
      by false e x h = (t, (r.is_first, refl))

  -- The whole.

  pattern-told : (t : Tree) (n : Named) → AreLiterals c.frames c.literals → (x : Result (PlainPattern × TakenVariables) Fault) → Tells 0 t ([], n) x → IsTold c t n (with_variables x)
  pattern-told t n ls (Ok x) h = record {
    are_literals = ls;
    is_pattern = subst (λ us. IsPattern c.frames c.literals 0 t us x.0) (sym h.known) h.is;
    new = subst (AreNew []) (sym h.known) h.new;
    numbered = subst (λ us. AreNumbered n us x.1.1) (sym h.known) h.numbered;
  }
  pattern-told t n ls (Err f) h = subst (IsBadPattern c t) (sym h.is) (r.bad_part h.part)

  whole-told : (t : Tree) (n : Named) (x : Result (Unit {0}) Fault) → TellsLiterals c.literals x → IsTold c t n (x >>= λ y. with_variables (pattern c t 0 ([], n)))
  whole-told t n (Ok x) h = pattern-told t n h (pattern c t 0 ([], n)) (told t 0 ([], n))
  whole-told t n (Err f) h = subst (IsBadPattern c t) (sym h.1.1) (r.bad_literal h.1.0)

pub patterns-are-compiled : PatternsAreCompiled
patterns-are-compiled c t n x h =
    ap (λ y. y >>= λ z. with_variables (pattern c t 0 ([], n))) (literals-come c c.literals h.are_literals) ∙ ap with_variables (comes c h.is_pattern [] n x.1 h.new h.numbered)

pub others-are-bad-patterns : OthersAreBadPatterns
others-are-bad-patterns c t n = whole-told c t n (literals_checked c.frames c.place c.literals) (literals-told c c.literals)
