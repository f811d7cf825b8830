use Rattle.cas_cells.specs.Cells.{cells_of}
use Rattle.cas_cells.specs.Format.{narrow_in}
use Rattle.cas_cells.proofs.Places.{fits_narrow}
use Rattle.test_storage.proofs.cells.change.Goals as goal

pub write_spare-requires-clause-fits : goal.write_spare-requires-clause-fits
write_spare-requires-clause-fits g c = fits_narrow (narrow_in (cells_of c.close_spare.new.self)) 0 c.args.payload.now c.requires.fits
