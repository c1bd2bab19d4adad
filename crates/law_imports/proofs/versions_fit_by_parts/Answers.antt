use Rattle.law_imports.proofs.VersionLemmas.{versions_make_no_reference, and_fits, or_fits, not_fits, list_fits}
use Rattle.law_imports.proofs.versions_fit_by_parts.Goals as goal

pub returns : goal.returns
returns c = record { any_version = versions_make_no_reference; all = and_fits; one = or_fits; none = not_fits; places = list_fits }
