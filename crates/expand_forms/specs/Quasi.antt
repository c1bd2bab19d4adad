-- `quasiquote` and `quasisyntax` (R6RS 11.17; libraries report 12.8): their parts are expanded in order, each at its depth.
use Rattle.std.specs.Prelude.{ℕ, List, []}
use Rattle.base_data.specs.Act.{after, each}
use Rattle.base_data.specs.declared.span.Span.{Span}
use Rattle.stx_tree.specs.Tree.{Tree}
use Rattle.core_language.specs.Core.{PlainCore}
use Rattle.expand_quasi.specs.Form.{form_of, parts_of, code_of}
use Rattle.expand_quasi.specs.declared.form.QuasiForm.{QuasiForm}
use Rattle.expand_quasi.specs.declared.parts.PartForm.{PartForm}
use Rattle.expand_standing.specs.State.{Does}
use Rattle.expand_forms.specs.Forms.{TemplateForm}
use Rattle.expand_forms.specs.Inside.{Inside}
use Rattle.expand_forms.specs.Site.{Site, site_at}

abbrev pub part_core : Inside → Span → ℕ → PartForm → Does PlainCore
part_core go place level p = go.form (site_at place level p.depth) p.form

abbrev pub parts_in_order : Inside → Span → ℕ → List PartForm → Does (List PlainCore)
parts_in_order go place level = each (part_core go place level) []

abbrev pub quasi_made : Inside → Site → Tree → QuasiForm → Does PlainCore
quasi_made go site t q s = after (parts_in_order go site.place site.level (parts_of t site.depth q) s) (code_of site.place site.level t q)

-- the parts of the template stand at this site
unfoldable pub quasi_form : Inside → Site → TemplateForm → Does PlainCore
quasi_form go site f s = after (form_of site.place f.form f.which f.template s) (quasi_made go site f.form)
