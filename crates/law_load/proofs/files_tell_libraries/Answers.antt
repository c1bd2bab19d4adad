use Rattle.law_load.proofs.FileLemmas.{no_slash, no_dot, comes_back, files_tell}
use Rattle.law_load.proofs.files_tell_libraries.Goals as goal

pub returns : goal.returns
returns c = record { no_slash = no_slash; no_dot = no_dot; decoded = comes_back; told = files_tell }
