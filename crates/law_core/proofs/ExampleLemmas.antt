-- The examples are told by computation.
use Rattle.std.proofs.Common.{refl}
use Rattle.std.specs.Str.{chars}
use Rattle.core_naming.specs.Decimal.{number_text}
use Rattle.law_core.specs.Examples.{ClosedExamples, WellMadeExamples, RecordExamples, FollowsExamples}

pub closed_examples : ClosedExamples
closed_examples = record { formal = refl; outside = refl; given = refl; recursive = refl; assigned = refl; cases = refl; clauses = refl; matched = refl }

pub well_made_examples : WellMadeExamples
well_made_examples = record { formal = refl; short = refl; two_cases = refl; case_lambda = refl; last_op = refl; past_ops = refl; bound_twice = refl; numbered_twice = refl; apart = refl; literal = refl; no_literal = refl; instanced = refl; referenced = refl; once_repeated = refl; not_repeated = refl; twice_repeated = refl; other_depth = refl; fed_by_another = refl; given = refl; not_given = refl }

pub record_examples : RecordExamples
unfolding chars number_text
record_examples = record { closed_later = refl; not_closed = refl; bound_once = refl; bound_twice = refl; named_twice = refl }

pub follows_examples : FollowsExamples
follows_examples = record { first = refl; itself = refl; core = refl; not_own = refl; no_index = refl; not_top = refl; one_index_twice = refl; two_indices = refl; keyword = refl; no_keyword = refl; late_keyword = refl; exported = refl; reexported = refl; given_export = refl; derived_export = refl; unknown_export = refl; exported_twice = refl; referring = refl; not_referring = refl; referring_twice = refl; not_earlier = refl }
