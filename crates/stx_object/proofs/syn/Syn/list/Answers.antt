use Rattle.std.proofs.Common.{◌≡◌, [], arith, sym, subst, refl}
use Rattle.std.proofs.lemmas.List.{nil_from_length}
use Rattle.std.proofs.lemmas.Bool.Decides.{nat_tests}
use Rattle.stx_tree.specs.Tree.{list_of}
use Rattle.stx_tree.specs.Measures.{Fits}
use Rattle.stx_object.proofs.GivesLemmas.{gives_tree}
use Rattle.stx_object.proofs.syn.Syn.list.Goals as goal

pub returns-in-None : goal.returns-in-None
returns-in-None c =
    let none : c.args.items.items ≡ [] = nil_from_length c.args.items.items (grind (arith, nat_tests, c.is_empty.ensures, c.if-is_empty.true)) in
    let nil : c.in_ok-nil-in-None.nil ≡ list_of c.args.items.items c.args.tail = rw (none, c.in-None.is) c.in_ok-nil-in-None.ensures in
    gives_tree (list_of c.args.items.items c.args.tail) c.in_ok-nil-in-None.nil nil
    (subst Fits (sym c.in_ok-nil-in-None.ensures) (omega arith, omega arith))

pub returns-then-is_empty : goal.returns-then-is_empty
returns-then-is_empty c =
    let none : c.args.items.items ≡ [] = nil_from_length c.args.items.items (grind (arith, nat_tests, c.is_empty.ensures, c.if-is_empty.true)) in
    let same : c.in-Some.tail ≡ list_of c.args.items.items c.args.tail = rw (none, c.in-Some.is) refl in
    gives_tree (list_of c.args.items.items c.args.tail) c.in-Some.tail same (subst Fits c.tail.view_is c.within.ensures)
