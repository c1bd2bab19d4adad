-- The lines of every record that expansion gives nest as deep as they may.
use Rattle.std.proofs.Common.{◌≡◌, ℕ, ◌+◌, ◌*◌, ◌≤◌, List, [], ◌∷◌, map, Result, Ok, Err, subst, arith}
use Rattle.base_data.specs.Act.{after}
use Rattle.base_data.specs.Elements.{Each}
use Rattle.base_data.specs.declared.fault.Fault.{Fault}
use Rattle.base_data.specs.declared.name.Label.{Label}
use Rattle.stx_tree.specs.Changes.{stamp}
use Rattle.stx_tree.specs.Tree.{Tree}
use Rattle.core_language.specs.declared.record.CompiledLibrary.{CompiledLibrary}
use Rattle.core_language.specs.declared.record.Line.{Line}
use Rattle.law_core.specs.Records.{line_core}
use Rattle.expand_standing.specs.Start.{started, first_frame}
use Rattle.expand_standing.specs.State.{State}
use Rattle.expand_heads.specs.Depth.{most_round}
use Rattle.expand_heads.specs.Items.{begun}
use Rattle.expand_heads.specs.declared.taken.Taken.{Taken}
use Rattle.expand_forms.specs.Body.{splice, finish_all}
use Rattle.expand_forms.specs.Expression.{inside, full_room}
use Rattle.expand_forms.specs.Inside.{Inside}
use Rattle.expand_forms.specs.Top.{record_in, exports, give_record, body_at, second_pass, first_pass, top, top_at}
use Rattle.expand_forms.specs.declared.top.TopAt.{TopAt}
use Rattle.law_expand.proofs.Acts.{Gave, gave-after, gave-any}
use Rattle.law_nesting.specs.Heights.{Between, height_with}
use Rattle.law_nesting.specs.Nesting.{deepest, IsAtMostText, LinesNest}
use Rattle.law_nesting.proofs.Bodies.{Nests, AreDeep, LowLine, line-low, lines-nest, splice-nests}
use Rattle.law_nesting.proofs.Heights.{Low}
use Rattle.law_nesting.proofs.Forms.{inside-nests}

module _ (between : Between) (few : IsAtMostText between) where
  abbrev LinesAreLow : CompiledLibrary → Type 0
  LinesAreLow r = Each (λ l. height_with between (line_core l) ≤ deepest) r.run

  lines-low : (xs : List Line) → Each (LowLine between few 0) xs → Each (λ l. height_with between (line_core l) ≤ deepest) xs
  lines-low [] h = tt
  lines-low (x ∷ xs) h = ((let low = line-low between few 0 x h.0 in omega (arith, low)), lines-low xs h.1)

  module _ (go : Inside) (nests : Nests between few go) (at : TopAt) (es : List (List ℕ × Tree)) where
    finished-nests : (d : Taken) (s : State) → AreDeep 0 d → Gave (λ r u. LinesAreLow r) (second_pass go at es d s)
    unfolding second_pass
    finished-nests d s h =
        gave-after (λ ls u. Unit {0}) (λ r u. LinesAreLow r) (exports at es s) (λ ls t. after (finish_all go 0 d.waiting t) (λ lines. give_record at ls lines)) (gave-any (λ ls u. Unit {0}) (exports at es s) (λ ls u. tt))
        (λ ls t k. gave-after (λ xs u. Each (LowLine between few 0) xs) (λ r u. LinesAreLow r) (finish_all go 0 d.waiting t) (λ lines. give_record at ls lines) (lines-nest between few go nests 0 0 d.waiting t h)
        (λ xs u j. lines-low xs j))

    top-nests : (forms : List Tree) (s : State) → Gave (λ r u. LinesAreLow r) (top go at es forms s)
    unfolding top first_pass
    top-nests forms s =
        gave-after (λ d u. AreDeep 0 d) (λ r u. LinesAreLow r) (splice go (body_at at s.library) 0 begun (map (stamp at.frame) forms) s) (second_pass go at es)
        (splice-nests between few go nests (body_at at s.library) 0 0 begun (map (stamp at.frame) forms) s (omega arith) tt)
        (λ d u k. finished-nests d u k)

  recorded : (r : CompiledLibrary) (x : Result (CompiledLibrary × State) Fault) → Gave (λ q u. LinesAreLow q) x → record_in x ≡ Ok r → LinesAreLow r
  recorded r (Ok p) h e = let same : p.0 ≡ r = cc in subst LinesAreLow same h
  recorded r (Err f) h e = absurd (cc)

pub lines-nest-all : LinesNest
lines-nest-all between few own records imports body codes r e =
    let go = inside records full_room in
    let at = top_at (first_frame own) body in
    recorded between few r (top go at body.exports body.forms (started own records imports codes)) (top-nests between few go (inside-nests between few records full_room) at body.exports body.forms (started own records imports codes)) e
