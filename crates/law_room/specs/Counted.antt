-- Sequences, applications, assignments, procedures and forms of `if`, `syntax-case`, `letrec`, `letrec*`, `let-syntax` and `letrec-syntax` count alike: each
-- makes what lies in it one deeper, and no more.
use Rattle.std.specs.Prelude.{◌≡◌, ℕ, ◌≤◌, ◌+◌, Bool, true, false, List, [], ◌∷◌, map, length, Option, None, Ok}
use Rattle.base_data.specs.declared.atom.Atom.{Atom}
use Rattle.base_data.specs.declared.atom.Atom.TheVariants as atoms
use Rattle.base_data.specs.declared.fault.FaultKind.TheVariants as kind
use Rattle.base_data.specs.declared.name.FrameNo.{FrameNo}
use Rattle.base_data.specs.declared.name.Label.{Label}
use Rattle.base_data.specs.declared.span.Span.{Span}
use Rattle.stx_tree.specs.Changes.{stamp}
use Rattle.stx_tree.specs.Tree.{Tree, atom, pair, nil, chain, span_of}
use Rattle.stx_tree.specs.Leaves.{strip}
use Rattle.core_language.specs.Core.{PlainCore, quoted, one_armed, assignment, procedure, letrec, call, matching, none, no_init, init, no_case, case, no_clause}
use Rattle.core_language.specs.Labels.{has_label, with_label}
use Rattle.core_language.specs.declared.core_form.CoreForm.{CoreForm}
use Rattle.core_language.specs.declared.core_form.CoreForm.TheVariants as core_forms
use Rattle.core_language.specs.declared.formals.Formals.{Formals}
use Rattle.core_language.specs.declared.link.LinkKind.TheVariants as kinds
use Rattle.core_language.specs.declared.record.CompiledLibrary.{CompiledLibrary}
use Rattle.core_shapes.specs.Lists.{is_leaf, is_nil_atom, all_ids}
use Rattle.expand_standing.specs.Binders.{bind_variable, bind_formals}
use Rattle.expand_standing.specs.InScope.{cut, is_in_scope}
use Rattle.expand_standing.specs.Standing.{standing_of}
use Rattle.expand_standing.specs.State.{State, fault_form, noted}
use Rattle.expand_standing.specs.declared.standing.Standing.TheVariants as standing
use Rattle.expand_standing.specs.declared.standing.Variable.{Variable}
use Rattle.expand_heads.specs.Depth.{most_round}
use Rattle.expand_forms.specs.Expanding.{expression}
use Rattle.expand_forms.specs.Site.{outermost}

-- What stands right round a form: `(begin form)`, `(form)`, `(if form #t)`, `(syntax-case form ())`, `(set! id form)`, `(let-syntax () form)`, which is
-- `(letrec-syntax () form)` where it is recursive, `(lambda (id ...) form)`, `(case-lambda (() form))`, `(letrec () form)`, or `(letrec ((id form)) #t)`, both of which
-- may be of `letrec*`. A keyword is an identifier that stands for it, and the target of an assignment one that stands for the variable. The
-- formals of a procedure and the variable of a `letrec` are bound so, and leave this state.
pub data Round : Type 0 where
  sequence : Tree → Round
  operator : Round
  test : Tree → Round
  subject : Tree → Round
  value : Tree → Tree → Variable → Round
  keywords : Bool → Tree → Round
  body : Tree → List Tree → Formals → State → Round
  one_case : Tree → Round
  block : Bool → Tree → Round
  initial : Bool → Tree → Tree → Label → State → Round

pub record IsKeywordWord (s : State) (f : CoreForm) (word : Tree) : Type 0 where
  pub leaf : is_leaf word ≡ true
  pub stands : standing_of s word ≡ standing.Core f

-- a variable of the library at its own level, in scope and not exported
pub record IsTarget (at : ℕ) (s : State) (id : Tree) (v : Variable) : Type 0 where
  pub leaf : is_leaf id ≡ true
  pub stands : standing_of s id ≡ standing.Variable v
  pub own : v.own ≡ true
  pub level : v.level ≡ at
  pub in_scope : is_in_scope s v ≡ true
  pub inside : has_label s.exports v.label ≡ false

-- Right in a body stands no sequence, and no form of `let-syntax` or `letrec-syntax`: the forms of these are forms of the body there.
abbrev pub IsAlone : List Round → Type 0
IsAlone [] = Unit {0}
IsAlone (sequence word ∷ rs) = ⊥
IsAlone (operator ∷ rs) = Unit {0}
IsAlone (test word ∷ rs) = Unit {0}
IsAlone (subject word ∷ rs) = Unit {0}
IsAlone (value word id v ∷ rs) = Unit {0}
IsAlone (keywords recursive word ∷ rs) = ⊥
IsAlone (body word ids fs v ∷ rs) = Unit {0}
IsAlone (one_case word ∷ rs) = Unit {0}
IsAlone (block star word ∷ rs) = Unit {0}
IsAlone (initial star word id l v ∷ rs) = Unit {0}

-- with the next name taken
abbrev pub counted : State → State
counted s = record s { names = record { library = s.names.library; number = s.names.number + 1 } }

abbrev pub next_frame : State → FrameNo
next_frame s = record { 0 = s.names }

module _ (place : Span) (at : ℕ) (s : State) where
  -- what stands right round these
  pub record AreFormals (ids : List Tree) (fs : Formals) (v : State) : Type 0 where
    pub leaves : all_ids ids ≡ true
    pub bound : bind_formals (next_frame (counted s)) place at (record { required = ids; rest = None }) (counted (counted s)) ≡ Ok (fs, v)

  pub record IsBinderForm (id : Tree) (l : Label) (v : State) : Type 0 where
    pub leaf : is_leaf id ≡ true
    pub bound : bind_variable (next_frame s) place at false id (counted s) ≡ Ok (l, v)

abbrev pub IsRound : Span → ℕ → State → Round → List Round → Type 0
IsRound place level s (sequence word) rs = IsKeywordWord s core_forms.Begin word
IsRound place level s operator rs = Unit {0}
IsRound place level s (test word) rs = IsKeywordWord s core_forms.If word
IsRound place level s (subject word) rs = IsKeywordWord s core_forms.SyntaxCase word
IsRound place level s (value word id v) rs = IsKeywordWord s core_forms.Set word × IsTarget level s id v
IsRound place level s (keywords false word) rs = IsKeywordWord s core_forms.LetSyntax word
IsRound place level s (keywords true word) rs = IsKeywordWord s core_forms.LetrecSyntax word
IsRound place level s (body word ids fs v) rs = (IsKeywordWord s core_forms.Lambda word × AreFormals place level s ids fs v) × IsAlone rs
IsRound place level s (one_case word) rs = IsKeywordWord s core_forms.CaseLambda word × IsAlone rs
IsRound place level s (block false word) rs = IsKeywordWord s core_forms.Letrec word × IsAlone rs
IsRound place level s (block true word) rs = IsKeywordWord s core_forms.LetrecStar word × IsAlone rs
IsRound place level s (initial false word id l v) rs = IsKeywordWord s core_forms.Letrec word × IsBinderForm place level s id l v
IsRound place level s (initial true word id l v) rs = IsKeywordWord s core_forms.LetrecStar word × IsBinderForm place level s id l v

-- Where a frame is stamped on what stands in a form, it is stamped on the words.
abbrev pub stamp_round : FrameNo → Round → Round
stamp_round f (sequence word) = sequence (stamp f word)
stamp_round f operator = operator
stamp_round f (test word) = test (stamp f word)
stamp_round f (subject word) = subject (stamp f word)
stamp_round f (value word id v) = value (stamp f word) (stamp f id) v
stamp_round f (keywords recursive word) = keywords recursive (stamp f word)
stamp_round f (body word ids fs v) = body (stamp f word) (map (stamp f) ids) fs v
stamp_round f (one_case word) = one_case (stamp f word)
stamp_round f (block star word) = block star (stamp f word)
stamp_round f (initial star word id l v) = initial star (stamp f word) (stamp f id) l v

-- the frame of formals or of variables, and that of the body in it
abbrev pub in_frames : FrameNo → FrameNo → Tree → Tree
in_frames f g form = stamp g (stamp f form)

abbrev pub rounds_in_frames : FrameNo → FrameNo → List Round → List Round
rounds_in_frames f g rs = map (stamp_round g) (map (stamp_round f) rs)

-- Forms among keywords have a frame of their own, which takes the next name. The code of a procedure takes a name before its frames.
abbrev pub within : Round → State → Tree → Tree
within (sequence word) s form = form
within operator s form = form
within (test word) s form = form
within (subject word) s form = form
within (value word id v) s form = form
within (keywords recursive word) s form = stamp (next_frame s) form
within (body word ids fs v) s form = in_frames (next_frame (counted s)) (next_frame v) form
within (one_case word) s form = in_frames (next_frame (counted s)) (next_frame (counted (counted s))) form
within (block star word) s form = in_frames (next_frame s) (next_frame (counted s)) form
within (initial star word id l v) s form = stamp (next_frame s) form

abbrev pub rounds_within : Round → State → List Round → List Round
rounds_within (sequence word) s rs = rs
rounds_within operator s rs = rs
rounds_within (test word) s rs = rs
rounds_within (subject word) s rs = rs
rounds_within (value word id v) s rs = rs
rounds_within (keywords recursive word) s rs = map (stamp_round (next_frame s)) rs
rounds_within (body word ids fs v) s rs = rounds_in_frames (next_frame (counted s)) (next_frame v) rs
rounds_within (one_case word) s rs = rounds_in_frames (next_frame (counted s)) (next_frame (counted (counted s))) rs
rounds_within (block star word) s rs = rounds_in_frames (next_frame s) (next_frame (counted s)) rs
rounds_within (initial star word id l v) s rs = map (stamp_round (next_frame s)) rs

-- An assignment marks its target before its value is expanded.
abbrev pub next : Round → State → State
next (sequence word) s = s
next operator s = s
next (test word) s = s
next (subject word) s = s
next (value word id v) s = noted (span_of id) v.label kinds.Refer (record s { assigned = with_label s.assigned v.label })
next (keywords recursive word) s = counted s
next (body word ids fs v) s = counted v
next (one_case word) s = counted (counted (counted s))
next (block star word) s = counted (counted s)
next (initial star word id l v) s = v

-- What came into scope in a form with variables or in its body is out of scope after it.
abbrev pub left : Round → State → State → State
left (sequence word) s u = u
left operator s u = u
left (test word) s u = u
left (subject word) s u = u
left (value word id v) s u = u
left (keywords recursive word) s u = u
left (body word ids fs v) s u = cut (length s.scope) (cut (length v.scope) u)
left (one_case word) s u = cut (length s.scope) (cut (length s.scope) u)
left (block star word) s u = cut (length s.scope) (cut (length s.scope) u)
left (initial star word id l v) s u = cut (length s.scope) (cut (length u.scope) (counted u))

-- the state that is left of all of them
abbrev pub all_left : List Round → State → State
all_left [] s = s
all_left (r ∷ rs) s = left r s (all_left rs (next r s))

-- these stand round a form, each in the state in which it is expanded
pub data AreRound (place : Span) (level : ℕ) : State → List Round → Type 0 where
  innermost : {s : State} → AreRound place level s []
  round : {s : State} {r : Round} {rs : List Round} → IsRound place level s r rs → AreRound place level (next r s) (rounds_within r s rs)
      → AreRound place level s (r ∷ rs)

abbrev pub truth : Tree
truth = atom None (atoms.Bool true)

abbrev pub put : Round → Tree → Tree
put (sequence word) form = pair None word (pair None form nil)
put operator form = pair None form nil
put (test word) form = pair None word (pair None form (pair None truth nil))
put (subject word) form = pair None word (pair None form (pair None nil nil))
put (value word id v) form = pair None word (pair None id (pair None form nil))
put (keywords recursive word) form = pair None word (pair None nil (pair None form nil))
put (body word ids fs v) form = pair None word (pair None (chain ids nil) (pair None form nil))
put (one_case word) form = pair None word (pair None (pair None nil (pair None form nil)) nil)
put (block star word) form = pair None word (pair None nil (pair None form nil))
put (initial star word id l v) form = pair None word (pair None (pair None (pair None id (pair None form nil)) nil) (pair None truth nil))

-- a form in these, the outermost first
abbrev pub put_in : List Round → Tree → Tree
put_in [] t = t
put_in (r ∷ rs) t = put r (put_in rs t)

-- and its core code, at a place and in a state
abbrev pub code : Span → Round → State → PlainCore → PlainCore
code place (sequence word) s c = c
code place operator s c = call c none
code place (test word) s c = one_armed c (quoted (strip truth))
code place (subject word) s c = matching c no_clause place
code place (value word id v) s c = assignment v.label c
code place (keywords recursive word) s c = c
code place (body word ids fs v) s c = procedure (record { 0 = s.names }) (case fs c no_case) true
code place (one_case word) s c = procedure (record { 0 = s.names }) (case (record { required = []; rest = None }) c no_case) false
code place (block star word) s c = letrec star no_init c
code place (initial star word id l v) s c = letrec star (init l c no_init) (quoted (strip truth))

abbrev pub code_in : Span → List Round → State → PlainCore → PlainCore
code_in place [] s c = c
code_in place (r ∷ rs) s c = code place r s (code_in place rs (next r s) c)

pub record FormsCountOnce : Type 0 where
  -- A constant in 600 of them is taken,
  pub taken : (records : List CompiledLibrary) (place : Span) (level : ℕ) (rs : List Round) (o : Option Span) (a : Atom) (s : State)
      → AreRound place level s rs → length rs ≤ most_round → is_nil_atom a ≡ false
      → expression records (outermost place level) (put_in rs (atom o a)) s ≡ Ok (code_in place rs s (quoted (strip (atom o a))), all_left rs s)
  -- and any form in 601 of them is TooDeep, unless it is an identifier, which might be a keyword where it is an operator.
  pub refused : (records : List CompiledLibrary) (place : Span) (level : ℕ) (rs : List Round) (t : Tree) (s : State)
      → AreRound place level s rs → length rs ≡ most_round + 1 → is_leaf t ≡ false
      → expression records (outermost place level) (put_in rs t) s ≡ fault_form kind.TooDeep t place s
