use Rattle.law_grammar.proofs.Failures.{failures_are}
use Rattle.law_grammar.proofs.failures_are_told_by_bytes.Goals as goal

pub returns : goal.returns
returns c =
    let tokens = c.lexemes_are_tokens_behind_gaps.ensures in
    let starts = c.starts_are_marks_and_lines.ensures in
    failures_are tokens.tokens tokens.ends c.bytes_go_wrong_in_gaps_and_tokens.ensures.faults starts.starts starts.faults
