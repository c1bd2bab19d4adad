-- Words with `--cache` ask for core text.
use Rattle.std.proofs.Common.{◌≡◌, ℕ, Bool, true, false, List, Option, Some, None, refl, sym, ap, ◌∙◌}
use Rattle.std.specs.Prelude.{is_some, codes, if◌then◌else◌, unwrap_or}
use Rattle.clap.specs.Words.{Text, matches_of}
use Rattle.run_command.specs.Command.{command}
use Rattle.run_command.specs.Given.{Values, given_of}
use Rattle.run_command.specs.Number.{number_of}
use Rattle.run_command.specs.Roots.{roots_of}
use Rattle.run_command.specs.Words.{kind_of, sorted, rooted, has_other, made, chosen, asked, refuses, asked_by}
use Rattle.run_command.specs.declared.job.Job.{Job}
use Rattle.run_command.specs.declared.job.Kind.{Kind}
use Rattle.run_command.specs.declared.job.Kind.TheVariants.{Core, Xref}
use Rattle.run_command.specs.declared.words.Words.TheVariants.{Expand, Usage}
use Rattle.run_top.specs.Words.{words_asked}

module _ (job : Job) (dir : List ℕ) (cached : job.cache ≡ Some dir) where
  same_job : (j : Job) → Expand j ≡ Expand job → j ≡ job
  same_job j h = cc

  of_none : (program : Text) (roots : List Text) (report : Bool) (kind : Kind) → Expand (record { roots = roots; cache = None; report = report; kind = kind; program = program }) ≡ Expand job → ⊥
  of_none program roots report kind h =
      let no : ◌≡◌ {A = Option (List ℕ)} None (Some dir) = ap (λ (j : Job). j.cache) (same_job (record { roots = roots; cache = None; report = report; kind = kind; program = program }) h) ∙ cached in
      absurd (cc)

  by_kind : (program : Text) (g : Values) (roots : List Text) (o : Option Kind) → sorted program g roots o ≡ Expand job → job.kind ≡ Core
  by_kind program g roots None h = absurd (cc)
  by_kind program g roots (Some Core) h = sym (ap (λ (j : Job). j.kind) (same_job (record { roots = roots; cache = g.cache; report = g.report; kind = Core; program = program }) h))
  by_kind program g roots (Some Xref) h = by g.cache refl h
    where
      by : (o : Option Text) → g.cache ≡ o → (if is_some o then Usage else Expand (record { roots = roots; cache = g.cache; report = g.report; kind = Xref; program = program })) ≡ Expand job → job.kind ≡ Core
      by None e k = absurd (of_none program roots g.report Xref (ap (λ (c : Option Text). Expand (record { roots = roots; cache = c; report = g.report; kind = Xref; program = program })) (sym e) ∙ k))
      by (Some c) e k = absurd (cc)

  by_roots : (program : Text) (g : Values) (o : Option (List Text)) → rooted program g o ≡ Expand job → job.kind ≡ Core
  by_roots program g None h = absurd (cc)
  by_roots program g (Some roots) h = by_kind program g roots (kind_of (unwrap_or g.write (codes "core"))) h

  by_number : (o : Option ℕ) → made o ≡ Expand job → ⊥
  by_number None h = absurd (cc)
  by_number (Some n) h = absurd (cc)

  by_choice : (g : Values) (program make : Option Text) → chosen g program make ≡ Expand job → job.kind ≡ Core
  by_choice g None None h = absurd (cc)
  by_choice g (Some program) (Some text) h = absurd (cc)
  by_choice g None (Some text) h = by (has_other g) h
    where
      by : (b : Bool) → (if b then Usage else made (number_of text)) ≡ Expand job → job.kind ≡ Core
      by true k = absurd (cc)
      by false k = absurd (by_number (number_of text) k)
  by_choice g (Some program) None h = by_roots program g (roots_of (unwrap_or g.root (codes "."))) h

  pub cached_is_core : (words : List (List ℕ)) → words_asked words ≡ Expand job → job.kind ≡ Core
  unfolding asked_by
  cached_is_core words h = by (refuses words) h
    where
      by : (b : Bool) → (if b then Usage else asked (given_of (matches_of command words))) ≡ Expand job → job.kind ≡ Core
      by true k = absurd (cc)
      by false k = by_choice (given_of (matches_of command words)) (given_of (matches_of command words)).program (given_of (matches_of command words)).make k
