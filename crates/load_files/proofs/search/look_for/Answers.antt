use Rattle.std.proofs.Common.{[], ◌∷◌, ◌++◌, sym, ap, ◌∙◌, arith}
use Rattle.load_files.specs.Load.{look_for}
use Rattle.load_files.specs.Search.{answer_reading}
use Rattle.load_files.proofs.SearchLemmas.{found_bytes, found_longer, not_found, found_nowhere}
use Rattle.load_files.proofs.search.look_for.Goals as goal

pub returns-in-Bytes-clause-found : goal.returns-in-Bytes-clause-found
returns-in-Bytes-clause-found g c = λ fs h.
    found_bytes fs c.args.max c.args.file.now c.args.search.now.roots.now c.loop-root.root-index c.loop-root.sources
    (look_for fs c.args.max c.args.file.now c.args.sources.now c.args.search.now.roots.now) c.root-item.result c.in_ok-path.path
    (answer_reading c.in_ok-held.field-0) c.in-Bytes.held c.loop-root-test.true c.root-item.is c.in_ok-path.ensures
    (c.in_ok-held.ensures.answer fs (c.loop-root.invariant.same ∙ h)) (sym (ap answer_reading c.in-Bytes.is)) (c.loop-root.invariant.found fs h)

pub returns-in-Longer-clause-found : goal.returns-in-Longer-clause-found
returns-in-Longer-clause-found g c = λ fs h.
    found_longer fs c.args.max c.args.file.now c.args.search.now.roots.now c.loop-root.root-index c.loop-root.sources
    (look_for fs c.args.max c.args.file.now c.args.sources.now c.args.search.now.roots.now) c.root-item.result c.in_ok-path.path
    (answer_reading c.in_ok-held.field-0) c.loop-root-test.true c.root-item.is c.in_ok-path.ensures
    (c.in_ok-held.ensures.answer fs (c.loop-root.invariant.same ∙ h)) (sym (ap answer_reading c.in-Longer.is)) (c.loop-root.invariant.found fs h)

pub loop-root-preserved : goal.loop-root-preserved
loop-root-preserved g c = record {
  same = c.read_at.ensures.same ∙ c.loop-root.invariant.same;
  found = λ fs h.
      not_found fs c.args.max c.args.file.now c.args.search.now.roots.now c.loop-root.root-index c.loop-root.sources
      (look_for fs c.args.max c.args.file.now c.args.sources.now c.args.search.now.roots.now) c.root-item.result c.in_ok-path.path
      (answer_reading c.in_ok-held.field-0) c.push.new.self c.loop-root-test.true c.root-item.is c.in_ok-path.ensures
      (c.in_ok-held.ensures.answer fs (c.loop-root.invariant.same ∙ h)) (sym (ap answer_reading c.in-Absent.is))
      (c.in_ok-push-in-Absent.ensures.ok ∙ ap (λ s. c.loop-root.sources ++ s ∷ []) c.absent_at.ensures) (c.loop-root.invariant.found fs h);
  later = omega (arith, c.read_at.ensures.later, c.loop-root.invariant.later);
}

pub returns-clause-found : goal.returns-clause-found
returns-clause-found g c = λ fs h.
    found_nowhere fs c.args.max c.args.file.now c.args.search.now.roots.now c.loop-root.root-index c.loop-root.sources
    (look_for fs c.args.max c.args.file.now c.args.sources.now c.args.search.now.roots.now) (omega arith) (c.loop-root.invariant.found fs h)
