use Rattle.core_cache.specs.FitsLaws.{fits_exactly}
use Rattle.core_cache.proofs.fits.an_entry_fits_exactly.Goals as goal

pub returns : goal.returns
returns c = fits_exactly
