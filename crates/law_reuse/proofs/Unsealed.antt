-- What is sealed is read back.
use Rattle.std.proofs.Common.{◌≡◌, ℕ, true, List, drop, Option, Some, None, sym, ap, ◌∙◌}
use Rattle.std.specs.Prelude.{if◌then◌else◌}
use Rattle.base_data.specs.Same.{texts_decides}
use Rattle.core_cache.specs.Fits.{same_text}
use Rattle.core_cache.specs.Seal.{sealed}
use Rattle.core_cache.proofs.Sealed.{body_behind}
use Rattle.run_reuse.specs.Entries.{unsealed}

pub unsealed_body : (held body : List ℕ) → held ≡ sealed body → unsealed held ≡ Some body
unsealed_body held body e =
    let back : drop 40 held ≡ body = ap (drop 40) e ∙ body_behind body in
    let same : same_text held (sealed (drop 40 held)) ≡ true = (texts_decides held (sealed (drop 40 held))).1 (e ∙ ap sealed (sym back)) in
    ap (λ b. if b then Some (drop 40 held) else None) same ∙ ap (λ (x : List ℕ). Some x) back
