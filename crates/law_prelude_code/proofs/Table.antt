-- The table of a run is that of the codes that are written out.
use Rattle.std.proofs.Common.{[], Ok, ap}
use Rattle.base_data.specs.Gives.{◌>>=◌}
use Rattle.run_prelude.specs.Prelude.{filled}
use Rattle.law_prelude_code.specs.Texts.{TableIsWritten}
use Rattle.law_prelude_code.proofs.Expanded.{texts-expand}

pub table-is-written : TableIsWritten
table-is-written = ap (λ r. r >>= λ cs. Ok (filled [] cs)) texts-expand
