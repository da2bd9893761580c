-- What is asked of the items of a text, besides that its module conforms.
use Rattle.std.specs.Prelude.{◌≡◌, ◌⊎◌, ◌||◌, ◌==◌, ℕ, Bool, true, false, List, [], ◌∷◌, Option, Some, is_some, unwrap_or}
use Rattle.std.specs.List.{list_any}
use Rattle.spv_module.specs.Held.{global}
use Rattle.spv_module.specs.Lists.{id}
use Rattle.spv_module.specs.declared.inst.Inst.{Inst}
use Rattle.spv_module.specs.declared.tree.Elem.TheVariants as elem
use Rattle.spv_types.specs.Tree as plain
use Rattle.spv_types.specs.Tree.{Tree}
use Rattle.spv_types.specs.Types.{type_tree}
use Rattle.profile_rules.specs.declared.given.Given.{Given}
use Rattle.profile_rules.specs.declared.constant.ConstantKind.{ConstantKind}
use Rattle.profile_rules.specs.declared.constant.ConstantKind.TheVariants as kinds
use Rattle.profile_rules.specs.Constants.{constant_kind, spec_id}
use Rattle.profile_rules.specs.Entry.{is_size_composite}
use Rattle.module_semantics.specs.Setting.{Setting}
use Rattle.plan_law.specs.InOrder.{IsAmong}
use Rattle.type_law.specs.Shaped.{HasConstants}
use Rattle.typed_law.specs.Conforms.{IsConforming}
use Rattle.typed_law.specs.Words.{HoldWords}
use Rattle.global_law.specs.Sources.{source_of, chosen}
use Rattle.global_law.specs.Parts.{HasMembersApart}
use Rattle.global_law.specs.Walks.{struct_names}
use Rattle.name_alloc.specs.declared.claims.Key.{Key}
use Rattle.name_alloc.specs.declared.claims.Key.TheVariants.{Id}
use Rattle.glsl_ast.specs.Tree.{Text}
use Rattle.text_rules.specs.Constants.{Source, size_ids, group_size_text}
use Rattle.text_rules.specs.Printed.{Reached, is_written_struct, is_declared_constant, is_written_variable}

-- the name of a key; that of one that is not claimed is empty
abbrev pub key_text : (Key → Option Text) → Key → Text
key_text found key = unwrap_or (found key) []

-- the global is written before the functions
abbrev pub is_item : Source → Reached → Inst → Bool
is_item source r g = is_written_struct source r g || (is_declared_constant source r g || is_written_variable r g)

-- the items have names apart (names), and none that of the size of workgroups
pub record HaveNames (source : Source) (r : Reached) (key : Key → Text) : Type 0 where
  pub apart : (g h : Inst) → IsAmong g source.of.globals → IsAmong h source.of.globals → is_item source r g ≡ true → is_item source r h ≡ true → key (Id (id g.result)) ≡ key (Id (id h.result)) → g.result ≡ h.result
  pub size_apart : (g : Inst) → IsAmong g source.of.globals → is_item source r g ≡ true → key (Id (id g.result)) ≡ group_size_text → ⊥

-- a SpecId stands on a scalar specialization constant (P11)
abbrev pub IsScalarSpec : ConstantKind → Type 0
IsScalarSpec kinds.SpecTrue = Unit {0}
IsScalarSpec kinds.SpecFalse = Unit {0}
IsScalarSpec kinds.SpecWord = Unit {0}
IsScalarSpec _ = ⊥

abbrev pub AreSpecIds : Source → Type 0
AreSpecIds source = (g : Inst) → IsAmong g source.of.globals → is_some (spec_id source.of.heads g.result) ≡ true → IsScalarSpec (constant_kind g.op)

-- The size of workgroups: constants give it, if any do, by three, each an OpConstant or an OpSpecConstant; a composite decorated WorkgroupSize is made of these, and is a uvec3 (P9, P10).
pub record AreSizes (source : Source) : Type 0 where
  pub three : (size_ids source ≡ []) ⊎ ((a : ℕ) × (b : ℕ) × (c : ℕ) × (size_ids source ≡ a ∷ b ∷ c ∷ []))
  pub composite : (g : Inst) → IsAmong g source.of.globals → is_size_composite source.of.heads g ≡ true → (size_ids source ≡ g.args) × (type_tree source.of.globals g.ty ≡ Some (plain.vector elem.Uint 3))
  pub part : (n : ℕ) (g : Inst) → list_any (λ (k : ℕ). k == n) (size_ids source) ≡ true → global source.of.globals n ≡ Some g → (type_tree source.of.globals g.ty ≡ Some plain.uint) × ((constant_kind g.op ≡ kinds.Word) ⊎ (constant_kind g.op ≡ kinds.SpecWord))

-- What is asked of a module and of the names of its text, so that the constants in it say what the module has: the module conforms, its constants are of words; names are apart; and where a calculated constant is made of composites, members have names apart.
pub record AreAsked (s : Setting) (entry : Option (List ℕ)) (overrides : List (ℕ × Given)) (found : Key → Option Text) (r : Reached) : Type 0 where
  pub right : IsConforming s.of entry
  pub have : HasConstants s (chosen s overrides)
  pub low : HoldWords s.constants
  pub names : HaveNames (source_of s overrides) r (key_text found)
  pub spec_ids : AreSpecIds (source_of s overrides)
  pub sizes : AreSizes (source_of s overrides)
  pub members : (g : Inst) (t : Tree) → IsAmong g s.of.globals → is_declared_constant (source_of s overrides) r g ≡ true → type_tree s.of.globals g.ty ≡ Some t → HasMembersApart (struct_names (key_text found)) t
