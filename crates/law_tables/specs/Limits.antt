-- The limits of the implementation, written out as numbers. R6RS has none of them: with them each run ends, and within bounds.
use Rattle.std.specs.Prelude.{◌≡◌}
use Rattle.stx_tree.specs.Measures.{max_height, max_size}
use Rattle.read_reader.specs.Read.{file_nesting, most_nesting}
use Rattle.load_files.specs.Found.{most_libraries}
use Rattle.load_files.specs.Load.{file_limit, run_limit}
use Rattle.eval_stage.specs.Fuel.{most_fuel}
use Rattle.expand_heads.specs.Depth.{most_round}

pub record LimitsAreWritten : Type 0 where
  -- bytes of one file, and of all files of a run
  pub bytes_of_a_file : file_limit ≡ 4194304
  pub bytes_of_a_run : run_limit ≡ 67108864
  pub libraries : most_libraries ≡ 1024
  -- forms in one another: in a program or library, and in any source
  pub nesting_of_a_file : file_nesting ≡ 500
  pub nesting : most_nesting ≡ 8192
  -- lists and vectors in one another in a syntax object, and its parts
  pub height : max_height ≡ 1000
  pub size : max_size ≡ 16777216
  -- core forms and applications round a form
  pub forms_round_a_form : most_round ≡ 600
  -- what one evaluation may spend: of a library, of a keyword's expression, or of a call of a transformer
  pub fuel : most_fuel ≡ 4000000
