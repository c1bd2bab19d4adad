use Rattle.std.proofs.Common.{sym, ap, ◌∙◌, is_some}
use Rattle.stx_frames.proofs.GivenLemmas.{has_part-lookup}
use Rattle.stx_frames.proofs.needed.NeededFrames.has.Goals as goal

pub returns-in-Some : goal.returns-in-Some
returns-in-Some c = ap is_some c.in-Some.ensures ∙ sym (has_part-lookup c.args.library.now.value c.args.self.now)

pub returns-in-None : goal.returns-in-None
returns-in-None c = ap is_some c.in-None.ensures ∙ sym (has_part-lookup c.args.library.now.value c.args.self.now)
