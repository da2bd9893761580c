-- The name of a scalar or vector type has no extents.
use Rattle.std.proofs.Common.{◌≡◌, [], Option, Some, None, refl}
use Rattle.spv_types.specs.Tree.{Tree, boolean, int, uint, vector, array, runtime, struct}
use Rattle.glsl_ast.specs.Tree.{type_name}
use Rattle.text_rules.specs.Outlines.{basic_of}
use Rattle.text_rules.specs.Types.{Spelling, type_text}
use Rattle.constant_text.specs.Bases.{basic_base}

pub basic_text : (s : Spelling) (o : Option Tree) → type_text s (basic_of o) ≡ type_name (basic_base (basic_of o)) []
basic_text s None = refl
basic_text s (Some boolean) = refl
basic_text s (Some int) = refl
basic_text s (Some uint) = refl
basic_text s (Some (vector e n)) = refl
basic_text s (Some (array t l)) = refl
basic_text s (Some (runtime t)) = refl
basic_text s (Some (struct id ts)) = refl

pub ruleset base_rules = (basic_text)
