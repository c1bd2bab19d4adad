-- What records hold that are marked, joined in their order.
use Rattle.std.proofs.Common.{◌≡◌, Bool, true, false, cond, List, [], ◌∷◌, ◌++◌, map, refl, append_assoc, append-nil, ap, subst, sym, ◌∙◌}
use Rattle.stx_frames.specs.Given as of_frames
use Rattle.stx_frames.specs.Needed as of_scopes
use Rattle.stx_frames.specs.Scope.{Scope, adopted}
use Rattle.core_language.specs.declared.record.CompiledLibrary.{CompiledLibrary}
use Rattle.core_known.specs.Known.{LabelBindings, Parts, flat}
use Rattle.core_known.specs.Needed.{needed_parts}
use Rattle.expand_standing.specs.Ready.{frames_part, bindings_part, needed_records}
use Rattle.expand_standing.specs.Start.{bindings_of, rows_of}
use Rattle.stx_frames.proofs.ApartLaws.{given_are_adopted}
use Rattle.expand_standing.proofs.Adopted.{adopted_append}

pub frames-needed : (ms : List Bool) (rs : List CompiledLibrary) → of_scopes.needed_parts ms (map frames_part rs) ≡ map frames_part (needed_records ms rs)
frames-needed [] rs = refl
frames-needed (m ∷ ms) [] = refl
frames-needed (m ∷ ms) (r ∷ rs) = by m (frames-needed ms rs)
  where
    by : (b : Bool) → of_scopes.needed_parts ms (map frames_part rs) ≡ map frames_part (needed_records ms rs)
        → cond b (frames_part r ∷ of_scopes.needed_parts ms (map frames_part rs)) (of_scopes.needed_parts ms (map frames_part rs)) ≡ map frames_part (cond b (r ∷ needed_records ms rs) (needed_records ms rs))
    by true i = ap (λ (ps : of_frames.Parts). frames_part r ∷ ps) i
    by false i = i

pub bindings-needed : (ms : List Bool) (rs : List CompiledLibrary) → needed_parts ms (map bindings_part rs) ≡ map bindings_part (needed_records ms rs)
bindings-needed [] rs = refl
bindings-needed (m ∷ ms) [] = refl
bindings-needed (m ∷ ms) (r ∷ rs) = by m (bindings-needed ms rs)
  where
    by : (b : Bool) → needed_parts ms (map bindings_part rs) ≡ map bindings_part (needed_records ms rs)
        → cond b (bindings_part r ∷ needed_parts ms (map bindings_part rs)) (needed_parts ms (map bindings_part rs)) ≡ map bindings_part (cond b (r ∷ needed_records ms rs) (needed_records ms rs))
    by true i = ap (λ (ps : Parts). bindings_part r ∷ ps) i
    by false i = i

pub bindings-flat : (rs : List CompiledLibrary) → flat (map bindings_part rs) ≡ bindings_of rs
bindings-flat [] = refl
bindings-flat (r ∷ rs) = ap (λ (bs : LabelBindings). r.bindings ++ bs) (bindings-flat rs)

-- frames of records, each apart from those before it, are those that adopting all their rows gives
pub frames-flat : (fs : Scope) (rs : List CompiledLibrary) → of_scopes.AreApart fs (map frames_part rs) → fs ++ of_frames.flat (map frames_part rs) ≡ adopted fs (rows_of rs)
frames-flat fs [] h = append-nil fs
frames-flat fs (r ∷ rs) h =
    let own : Scope = adopted [] r.frames in
    sym (append_assoc fs own (of_frames.flat (map frames_part rs))) ∙ frames-flat (fs ++ own) rs h.1
    ∙ ap (λ (x : Scope). adopted x (rows_of rs)) (given_are_adopted fs r.frames h.0) ∙ sym (adopted_append fs r.frames (rows_of rs))

-- the tables of records, and what they hold for those that are marked
pub frames-ready : (ms : List Bool) (rs : List CompiledLibrary) (ps : of_frames.Parts) → ps ≡ map frames_part rs → of_scopes.AreApart [] (of_scopes.needed_parts ms ps)
    → of_frames.flat (of_scopes.needed_parts ms ps) ≡ adopted [] (rows_of (needed_records ms rs))
frames-ready ms rs ps is h =
    let all : of_scopes.needed_parts ms ps ≡ map frames_part (needed_records ms rs) = ap (of_scopes.needed_parts ms) is ∙ frames-needed ms rs in
    ap of_frames.flat all ∙ frames-flat [] (needed_records ms rs) (subst (λ (x : of_frames.Parts). of_scopes.AreApart [] x) all h)

pub bindings-ready : (ms : List Bool) (rs : List CompiledLibrary) (ps : Parts) → ps ≡ map bindings_part rs → flat (needed_parts ms ps) ≡ bindings_of (needed_records ms rs)
bindings-ready ms rs ps is = ap (λ (x : Parts). flat (needed_parts ms x)) is ∙ ap flat (bindings-needed ms rs) ∙ bindings-flat (needed_records ms rs)
