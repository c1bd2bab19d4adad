-- The texts are read and expanded, by computation.
use Rattle.std.proofs.Common.{refl}
use Rattle.bstr.specs.Utf8.{pieces_from}
use Rattle.base_data.specs.Act.{each, gather}
use Rattle.read_spelling.specs.Identifiers.{letter_here, name_from}
use Rattle.read_spelling.specs.Numbers.{value_from, is_spelt}
use Rattle.read_spelling.specs.Source.{characters}
use Rattle.read_lexer.specs.Gap.{atmosphere_end}
use Rattle.read_lexer.specs.Repeat.{repeated}
use Rattle.read_lexer.specs.Strings.{string_part, string_from}
use Rattle.read_lexer.specs.Tokens.{bare_step}
use Rattle.read_reader.specs.Lexemes.{lexed_from, lexed}
use Rattle.read_reader.specs.Read.{run, data_of}
use Rattle.stx_tree.specs.Measures.{within}
use Rattle.core_shapes.specs.Forms.{formals_before, formals, binding, bindings, lambda_case, quote_shape, lambda_shape, if_shape, letrec_shape, shaped, shape_of, shape}
use Rattle.core_shapes.specs.Lists.{all_of}
use Rattle.core_records.specs.Frame.{rows_for, record_frame}
use Rattle.expand_standing.specs.Binders.{bind_variable, bind_spec, bind_formals}
use Rattle.expand_standing.specs.Standing.{label_standing, standing_of, role_of}
use Rattle.expand_standing.specs.Start.{started}
use Rattle.expand_standing.specs.State.{fresh, fresh_frame}
use Rattle.expand_heads.specs.Items.{keep, is_changed, in_time, keyword_in_time, begin_item, core_item, list_item, leaf_item}
use Rattle.expand_heads.specs.Plan.{variable_at, reference, application, shape_plan, keyword_plan, list_plan}
use Rattle.expand_forms.specs.Body.{perform_item, item, finish_as, finish, body}
use Rattle.expand_forms.specs.Expression.{lambda_case as a_case, lambda, one_init, letrec_form, application as a_call, conditional, in_sequence, perform, form_at, inside}
use Rattle.expand_forms.specs.ExpandUses.{step, expand_uses_to, item_step, expand_item_uses_to}
use Rattle.run_prelude.specs.Prelude.{names_of, text_code, prelude_codes, prelude_spent}
use Rattle.law_prelude_code.specs.Texts.{TextsExpand, TextsSpendNothing}
use lib.Utf8.{encode}

pub texts-expand : TextsExpand
unfolding pieces_from encode letter_here name_from value_from is_spelt characters atmosphere_end repeated string_part string_from bare_step lexed_from lexed run data_of within each gather formals_before formals binding bindings lambda_case quote_shape lambda_shape if_shape letrec_shape shaped shape_of shape all_of rows_for record_frame bind_variable bind_spec bind_formals label_standing standing_of role_of started fresh fresh_frame keep is_changed in_time keyword_in_time begin_item core_item list_item leaf_item variable_at reference application shape_plan keyword_plan list_plan perform_item item finish_as finish body a_case lambda one_init letrec_form a_call conditional in_sequence perform form_at inside step expand_uses_to item_step expand_item_uses_to names_of text_code prelude_codes
texts-expand = refl

pub texts-spend-nothing : TextsSpendNothing
unfolding pieces_from encode letter_here name_from value_from is_spelt characters atmosphere_end repeated string_part string_from bare_step lexed_from lexed run data_of within each gather formals_before formals binding bindings lambda_case quote_shape lambda_shape if_shape letrec_shape shaped shape_of shape all_of rows_for record_frame bind_variable bind_spec bind_formals label_standing standing_of role_of started fresh fresh_frame keep is_changed in_time keyword_in_time begin_item core_item list_item leaf_item variable_at reference application shape_plan keyword_plan list_plan perform_item item finish_as finish body a_case lambda one_init letrec_form a_call conditional in_sequence perform form_at inside step expand_uses_to item_step expand_item_uses_to names_of text_code prelude_spent
texts-spend-nothing = refl
