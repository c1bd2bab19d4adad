use Rattle.std.proofs.Common.{arith, ap, sym, ◌∙◌, take, drop}
use Rattle.std.specs.Prelude.{Some}
use Rattle.sha2.specs.Sha256.{sha256}
use Rattle.core_cache.proofs.Parts.{parts, differs}
use Rattle.core_cache.proofs.seal.unseal.Goals as goal

pub returns-then-bytes-lt40-clause-only : goal.returns-then-bytes-lt40-clause-only
returns-then-bytes-lt40-clause-only c = λ body e. absurd (omega (arith, (parts c.args.bytes.now body e).long))

pub returns-then-ne-clause-only : goal.returns-then-ne-clause-only
returns-then-ne-clause-only c = λ body e. let p = parts c.args.bytes.now body e in grind (arith, p)

pub returns-then-ne-2-clause-only : goal.returns-then-ne-2-clause-only
returns-then-ne-2-clause-only c = λ body e. let p = parts c.args.bytes.now body e in absurd (differs _ _ _ c.ne-2.ensures c.if-ne-2.true (c.split_at-2.ensures.front ∙ ap (take 32) c.split_at.ensures.back ∙ p.digest ∙ sym (c.as_slice-2.ensures ∙ c.digest_of.ensures ∙ ap sha256 (c.split_at-2.ensures.back ∙ ap (drop 32) c.split_at.ensures.back ∙ p.rest))))

pub returns-clause-only : goal.returns-clause-only
returns-clause-only c = λ body e. let p = parts c.args.bytes.now body e in ap Some (c.split_at-2.ensures.back ∙ ap (drop 32) c.split_at.ensures.back ∙ p.rest)
