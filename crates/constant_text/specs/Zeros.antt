-- The zeros of the parts of an array.
use Rattle.spv_module.specs.declared.tree.Length.{Length}
use Rattle.spv_module.specs.declared.tree.Length.TheVariants.{Fixed, Spec}
use Rattle.spv_types.specs.Tree.{Tree}
use Rattle.glsl_ast.specs.Tree.{Exprs, no_exprs}
use Rattle.text_rules.specs.Types.{Spelling, times, zero_text}

-- an array whose length is a specialization constant has none
abbrev pub array_zeros : Spelling → Tree → Length → Exprs
array_zeros s t (Fixed n) = times n (zero_text s t)
array_zeros s t (Spec id) = no_exprs
