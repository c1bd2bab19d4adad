use Rattle.std.proofs.Common.{◌≡◌, Bool, List, Some, sym, ap, subst, ◌∙◌, slice_get, false}
use Rattle.std.specs.Map.{lookup}
use Rattle.core_known.specs.Known.{Parts, has_part}
use Rattle.core_known.specs.Needed.{if_mark}
use Rattle.core_known.proofs.Parts.{is_key}
use Rattle.core_known.proofs.NeededLemmas.{needed-at, needed-absent}
use Rattle.core_known.proofs.needed.NeededBindings.get.Goals as goal

pub returns-in-Some : goal.returns-in-Some
returns-in-Some c =
    let l = c.args.library.now.value in
    let i = c.in-Some.place in
    let fs = c.in-Some.rows.now in
    let at = subst (λ (ps : Parts). slice_get ps i ≡ Some (l, fs)) c.deref.ensures c.in-Some.ensures.place in
    c.if_marked.ensures ∙ ap (λ (ms : List Bool). if_mark (slice_get ms i) fs) c.deref-in-Some.ensures
    ∙ sym (needed-at l c.self.inside.needs.value c.self.inside.shared.value i fs c.self.invariant at)
    ∙ ap (lookup (is_key l)) c.self.view_is

pub returns-in-None : goal.returns-in-None
returns-in-None c =
    let l = c.args.library.now.value in
    let none = subst (λ (ps : Parts). has_part l ps ≡ false) c.deref.ensures (sym c.in-None.ensures.there) in
    sym (needed-absent l c.self.inside.needs.value c.self.inside.shared.value none) ∙ ap (lookup (is_key l)) c.self.view_is
