-- What a context that was read means.
use Rattle.stx_tree.specs.Context.{LeafContext}
use Rattle.core_tree_bytes.specs.declared.contexts.ContextLists.{ContextLists}

abbrev pub context_of : ContextLists → LeafContext
context_of c = record { marks = c.marks; stamps = c.stamps.items }
