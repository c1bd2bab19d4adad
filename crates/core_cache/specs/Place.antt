-- Where an entry is kept.
use Rattle.std.specs.Prelude.{ℕ, List, [], ◌∷◌, ◌++◌, codes}
use Rattle.hex.specs.Hex.{encode_lower}
use Rattle.sha2.specs.Sha256.{sha256}

-- in the directory, the digest of the path and the source
abbrev pub place : List ℕ → List ℕ → List ℕ → List ℕ
place dir path source = ((dir ++ codes "/") ++ encode_lower (sha256 ((path ++ 0 ∷ []) ++ source))) ++ codes ".sxe"
