-- The texts of the code are what is written out.
use Rattle.std.proofs.Common.{refl}
use Rattle.law_tables.specs.Prelude.{TextsAreWritten}
use Rattle.law_tables.specs.Derived.{DerivedIsWritten}

pub prelude_written : TextsAreWritten
prelude_written = refl

pub derived_written : DerivedIsWritten
derived_written = refl
