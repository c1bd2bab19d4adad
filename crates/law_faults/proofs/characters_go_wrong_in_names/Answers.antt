use Rattle.law_faults.proofs.CharacterFaults.{character_faults_are}
use Rattle.law_faults.proofs.characters_go_wrong_in_names.Goals as goal

pub returns : goal.returns
returns c = character_faults_are
