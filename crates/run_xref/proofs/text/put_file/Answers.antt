use Rattle.std.proofs.Common.{◌≡◌, ℕ, List, Some, sym, ap, ◌∙◌}
use Rattle.load_import.specs.Table.{put_first}
use Rattle.run_xref.specs.Text.{lines_at}
use Rattle.run_xref.proofs.FileLemmas.{Rows, bytes_of, put_held}
use Rattle.run_xref.proofs.text.put_file.Goals as goal

pub returns : goal.returns
returns c =
    let rows = c.args.files.now in
    let lines = c.in_ok-lines.lines in
    let held : c.args.source.now.held ≡ Some (bytes_of lines) = c.in-Some.is ∙ ap Some (sym c.as_slice.ensures ∙ sym c.in_ok-lines.ensures) in
    let put : c.put_first.new.self ≡ put_first rows (c.args.source.now.path, lines) = c.in_ok-put_first.ensures.ok ∙ ap (λ (path : List ℕ). put_first rows (path, lines)) c.in_ok-path.ensures in
    λ path. ap (λ (rows : Rows). lines_at rows path) put ∙ put_held rows c.args.source.now lines path held
