-- Records that follow one another are closed.
use Rattle.std.proofs.Common.{◌≡◌, List, [], ◌∷◌, ◌++◌, refl, sym, ap, ◌∙◌, append_assoc, subst}
use Rattle.std.specs.Prelude.{map}
use Rattle.std.specs.List.{flat_map}
use Rattle.base_data.specs.Elements.{Each, Among}
use Rattle.base_data.specs.declared.name.Label.{Label}
use Rattle.core_language.specs.Core.{PlainCore, quoted, variable, primitive, one_armed, two_armed, assignment, sequence, procedure, letrec, call, instance, matching}
use Rattle.core_language.specs.Core.{PlainCores, none, more, PlainInits, no_init, init, PlainCases, no_case, case, PlainClauses, no_clause, clause, fended}
use Rattle.core_language.specs.References.{variables, formals_labels}
use Rattle.core_language.specs.declared.record.CompiledLibrary.{CompiledLibrary}
use Rattle.core_language.specs.declared.record.Line.{Line}
use Rattle.law_core.specs.Parts.{init_labels}
use Rattle.law_core.specs.Scope.{template_labels, Closed, AllClosed, InitsClosed, CasesClosed, ClausesClosed}
use Rattle.law_core.specs.Records.{line_core, defined, LinesClosed}
use Rattle.law_core.specs.Follows.{Suits}
use Rattle.law_core.specs.Following.{AllFollow, FollowersAreClosed}
use Rattle.law_core.proofs.GivenLemmas.{Within, among_left, among_right, joined}

-- what is bound, before other labels
behind : (xs ls ms : List Label) → Within ls ms → Within (xs ++ ls) (xs ++ ms)
behind xs ls ms w = joined xs ls (xs ++ ms) (among_left xs ms) (λ l a. among_right xs ms l (w l a))

each_within : (ls ms xs : List Label) → Within ls ms → Each (Among ls) xs → Each (Among ms) xs
each_within ls ms [] w h = tt
each_within ls ms (x ∷ xs) w h = (w x h.0, each_within ls ms xs w h.1)

-- closed under some labels, and so under more
mutual
  pub closed_more : (ls ms : List Label) (c : PlainCore) → Within ls ms → Closed ls c → Closed ms c
  closed_more ls ms (quoted d) w h = tt
  closed_more ls ms (variable l) w h = w l h
  closed_more ls ms (primitive o) w h = tt
  closed_more ls ms (one_armed c d) w h = (closed_more ls ms c w h.0, closed_more ls ms d w h.1)
  closed_more ls ms (two_armed c d e) w h = (closed_more ls ms c w h.0, (closed_more ls ms d w h.1.0, closed_more ls ms e w h.1.1))
  closed_more ls ms (assignment l c) w h = (w l h.0, closed_more ls ms c w h.1)
  closed_more ls ms (sequence cs) w h = all_more ls ms cs w h
  closed_more ls ms (procedure n cs p) w h = cases_more ls ms cs w h
  closed_more ls ms (letrec o is c) w h =
      let v = behind (init_labels is) ls ms w in
      (inits_more (init_labels is ++ ls) (init_labels is ++ ms) is v h.0, closed_more (init_labels is ++ ls) (init_labels is ++ ms) c v h.1)
  closed_more ls ms (call c cs) w h = (closed_more ls ms c w h.0, all_more ls ms cs w h.1)
  closed_more ls ms (instance t s) w h = each_within ls ms (template_labels t) w h
  closed_more ls ms (matching c cs s) w h = (closed_more ls ms c w h.0, clauses_more ls ms cs w h.1)

  all_more : (ls ms : List Label) (cs : PlainCores) → Within ls ms → AllClosed ls cs → AllClosed ms cs
  all_more ls ms none w h = tt
  all_more ls ms (more c cs) w h = (closed_more ls ms c w h.0, all_more ls ms cs w h.1)

  inits_more : (ls ms : List Label) (is : PlainInits) → Within ls ms → InitsClosed ls is → InitsClosed ms is
  inits_more ls ms no_init w h = tt
  inits_more ls ms (init l c is) w h = (closed_more ls ms c w h.0, inits_more ls ms is w h.1)

  cases_more : (ls ms : List Label) (cs : PlainCases) → Within ls ms → CasesClosed ls cs → CasesClosed ms cs
  cases_more ls ms no_case w h = tt
  cases_more ls ms (case f c cs) w h = (closed_more (formals_labels f ++ ls) (formals_labels f ++ ms) c (behind (formals_labels f) ls ms w) h.0, cases_more ls ms cs w h.1)

  clauses_more : (ls ms : List Label) (cs : PlainClauses) → Within ls ms → ClausesClosed ls cs → ClausesClosed ms cs
  clauses_more ls ms no_clause w h = tt
  clauses_more ls ms (clause p c cs) w h = (closed_more (variables p ++ ls) (variables p ++ ms) c (behind (variables p) ls ms w) h.0, clauses_more ls ms cs w h.1)
  clauses_more ls ms (fended p f c cs) w h =
      let v = behind (variables p) ls ms w in
      (closed_more (variables p ++ ls) (variables p ++ ms) f v h.0, (closed_more (variables p ++ ls) (variables p ++ ms) c v h.1.0, clauses_more ls ms cs w h.1.1))

lines_more : (ls ms : List Label) (run : List Line) → Within ls ms → Each (Suits ls) (map line_core run) → Each (λ l. Closed ms (line_core l)) run
lines_more ls ms [] w h = tt
lines_more ls ms (l ∷ run) w h = (closed_more ls ms (line_core l) w h.0.1, lines_more ls ms run w h.1)

defined_parts : (xs ys : List CompiledLibrary) → flat_map defined (xs ++ ys) ≡ flat_map defined xs ++ flat_map defined ys
defined_parts [] ys = refl
defined_parts (x ∷ xs) ys = ap (λ ls. defined x ++ ls) (defined_parts xs ys) ∙ sym (append_assoc (defined x) (flat_map defined xs) (flat_map defined ys))

-- what a record and those before it define is among all that is defined
there : (earlier : List CompiledLibrary) (r : CompiledLibrary) (rs : List CompiledLibrary) → Within (flat_map defined earlier ++ defined r) (flat_map defined (earlier ++ r ∷ rs))
there earlier r rs =
    subst (λ (ls : List Label). Within (flat_map defined earlier ++ defined r) ls) (sym (defined_parts earlier (r ∷ rs)))
    (behind (flat_map defined earlier) (defined r) (defined r ++ flat_map defined rs) (among_left (defined r) (flat_map defined rs)))

all_closed : (earlier rs : List CompiledLibrary) (ls : List Label) → ls ≡ flat_map defined (earlier ++ rs) → AllFollow earlier rs → Each (LinesClosed ls) rs
all_closed earlier [] ls e h = tt
all_closed earlier (r ∷ rs) ls e h =
    let visible : List Label = flat_map defined earlier ++ defined r in
    let w : Within visible ls = subst (λ (ms : List Label). Within visible ms) (sym e) (there earlier r rs) in
    let next : ls ≡ flat_map defined ((earlier ++ r ∷ []) ++ rs) = e ∙ ap (λ (xs : List CompiledLibrary). flat_map defined xs) (sym (append_assoc earlier (r ∷ []) rs)) in
    (lines_more visible ls r.run w h.0.code.lines, all_closed (earlier ++ r ∷ []) rs ls next h.1)

pub followers_closed : FollowersAreClosed
followers_closed rs h = all_closed [] rs (flat_map defined rs) refl h
