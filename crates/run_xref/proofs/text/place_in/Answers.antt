use Rattle.std.proofs.Common.{sym, ap, ◌∙◌}
use Rattle.std.specs.Option.{option_copied}
use Rattle.run_xref.proofs.FileLemmas.{place-none}
use Rattle.run_xref.proofs.text.place_in.Goals as goal

pub returns-in-None : goal.returns-in-None
returns-in-None c =
    place-none c.args.files.now c.args.span.now.file c.args.span.now.from (sym c.get.ensures ∙ ap option_copied c.in-None.is)
