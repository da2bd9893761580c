-- The names by which the items of a text are written, and when a type stands in what they have declared.
use Rattle.std.specs.Prelude.{◌≡◌, ℕ, Option, Some}
use Rattle.spv_module.specs.Lists.{id}
use Rattle.spv_module.specs.declared.inst.Inst.{Inst}
use Rattle.spv_module.specs.declared.tree.Length.TheVariants.{Fixed, Spec}
use Rattle.spv_types.specs.Tree.{Tree, array, runtime, struct}
use Rattle.module_semantics.specs.Setting.{Setting}
use Rattle.module_semantics.specs.Memory.{array_length}
use Rattle.name_alloc.specs.declared.claims.Key.{Key}
use Rattle.name_alloc.specs.declared.claims.Key.TheVariants.{Id, Block, Member}
use Rattle.glsl_ast.specs.Tree.{Text, Expr}
use Rattle.glsl_semantics.specs.Shapes as shapes
use Rattle.glsl_semantics.specs.Shapes.{Shape, Fields}
use Rattle.glsl_semantics.specs.Expressions.{Program, with_extent}
use Rattle.text_rules.specs.Constants.{Source}
use Rattle.text_rules.specs.Declarations.{Names, length_extent}
use Rattle.global_law.specs.Parts.{HasLength, AreFields}
use Rattle.global_law.specs.Walks.{struct_names}

-- the names of keys, as the items have them
abbrev pub names_of : (Key → Text) → (Inst → Expr) → Names
names_of key calculated = record { id = λ n. key (Id (id n)); block = λ v g. key (Block (id v) (id g)); member = λ g k. key (Member (id g) k); calculated = calculated }

-- Each struct in a type is declared, with its members; and a length that a specialization constant gives is that of the run, where it has one there.
abbrev pub IsDeclared : Program → Setting → Source → (Key → Text) → Tree → Type 0
IsDeclared p s source key (array t (Fixed n)) = IsDeclared p s source key t
IsDeclared p s source key (array t (Spec n)) = IsDeclared p s source key t × ((m : Option ℕ) × ((u : Shape) → with_extent p (length_extent source (λ k. key (Id (id k))) (Spec n)) u ≡ shapes.array u m) × HasLength (array_length s n.0) m)
IsDeclared p s source key (runtime t) = IsDeclared p s source key t
IsDeclared p s source key (struct n ts) = (fs : Fields) × (p.structs (key (Id (id n))) ≡ Some fs) × AreFields s (struct_names key) n 0 ts fs
IsDeclared p s source key _ = Unit {0}
