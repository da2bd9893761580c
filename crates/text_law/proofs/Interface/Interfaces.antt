-- The text of a module has the interface of the module.
use Rattle.std.proofs.Common.{◌≡◌, ◌++◌, append-nil, ◌&&◌, ◌||◌, ◌==◌, Bool, true, false, List, [], ◌∷◌, map, Option, Some, None, refl, sym, ap, ap₂, ◌∙◌, if◌then◌else◌}
use Rattle.std.specs.Prelude.{filter, flat_map, is_some, slice_index, option_and_then}
use Rattle.std.proofs.lemmas.Bool.{and_parts}
use Rattle.std.proofs.lemmas.List.Elements.{filter-append}
use Rattle.spv_ops.specs.Opcode.{is, number}
use Rattle.spv_ops.specs.Groups.{is_constant as is_constant_op}
use Rattle.spv_ops.specs.declared.Op.{Op}
use Rattle.spv_ops.specs.declared.Op.TheVariants as code
use Rattle.spv_ops.specs.declared.StorageClass.TheVariants as storage
use Rattle.spv_ops.specs.Enumerants.{class_number}
use Rattle.spv_module.specs.Held.{global}
use Rattle.spv_module.specs.State.{ModuleState}
use Rattle.spv_module.specs.declared.inst.Inst.{Inst}
use Rattle.spv_index.specs.Pointers.{pointee}
use Rattle.layout_rules.specs.Blocks.{is_block_class, as_struct, block_of}
use Rattle.conformance.specs.Rules.{Options}
use Rattle.name_alloc.specs.Naming.{name_of}
use Rattle.spv_module.specs.declared.inst.Function.{Function}
use Rattle.glsl_ast.specs.Tree as tree
use Rattle.glsl_ast.specs.Tree.{Decl, TranslationUnit}
use Rattle.text_rules.specs.Constants.{Source, is_constant, reading, free_spec_id}
use Rattle.text_rules.specs.Printed.{Reached, class, is_private, is_workgroup, is_block_variable, is_operand_in, is_written_variable, is_named, is_needed, is_declared_constant, is_written_struct}
use Rattle.text_rules.specs.Declarations.{Names, type_at, pointee_at, initial, struct_decl, constant_decl, variable_decl, declaration, declarations}
use Rattle.function_text.specs.Functions.{FunctionPlan, function_decl}
use Rattle.unit_rules.specs.Unit.{item_names_of, called, in_order, reached_of, source_of, IsUnitOf}
use Rattle.claim_law.proofs.Claim.Bodies.{written_are}
use Rattle.global_law.proofs.Constant.Within.{constant_no_variable}
use Rattle.text_law.specs.Interface.{is_block_item, is_spec_item, items_in, sizes_in, is_seen, block_item, item_of, is_settable, HasInterface}

-- what is a struct is no variable, and neither is a constant; a struct is no constant
struct_only : (o : Op) → is o code.TypeStruct ≡ true → (is o code.Variable ≡ false) × (is_constant_op o ≡ false)
unfolding number
struct_only code.TypeStruct on = (refl, refl)
struct_only o on = cc

module _ (s : Source) (r : Reached) (names : Names) where
  -- a block has a variable
  no_block : (v : Inst) → is v.op code.Variable ≡ false → block_of s.of.globals v ≡ None
  no_block v off = ap (λ (b : Bool). if b && is_block_class (slice_index v.args 0) then option_and_then as_struct (option_and_then (global s.of.globals) (pointee s.of.globals v.ty)) else None) off

  struct_is : (g : Inst) → is_written_struct s r g ≡ true → is g.op code.TypeStruct ≡ true
  struct_is g on = (and_parts (is g.op code.TypeStruct) _ on).0

  constant_is : (g : Inst) → is_declared_constant s r g ≡ true → is_constant g ≡ true
  constant_is g on = (and_parts (is_constant g) _ on).0

  -- a block of a variable is written where the variable is
  some_block : (v g : Inst) → block_of s.of.globals v ≡ Some g → is_block_variable v ≡ true
  some_block v g at =
      any_class (is v.op code.Variable) (class v == class_number storage.Uniform) (class v == class_number storage.PushConstant) (class v == class_number storage.StorageBuffer)
      (by_test (is v.op code.Variable && is_block_class (slice_index v.args 0)) (option_and_then as_struct (option_and_then (global s.of.globals) (pointee s.of.globals v.ty))) at)
    where
      by_test : (b : Bool) (found : Option Inst) → (if b then found else None) ≡ Some g → b ≡ true
      by_test true found e = refl
      by_test false found e = cc

      any_class : (v a b c : Bool) → (v && (a || (b || c))) ≡ true → (v && ((a || b) || c)) ≡ true
      any_class false a b c on = on
      any_class true true b c on = refl
      any_class true false true c on = refl
      any_class true false false c on = on

  written_if : (v g : Inst) → block_of s.of.globals v ≡ Some g → is_written_variable r v ≡ is_seen r.functions v
  written_if v g at = ap (λ (b : Bool). (is_private v || (is_workgroup v || b)) && is_operand_in r.functions v.result) (some_block v g at) ∙ both (is_private v) (is_workgroup v) (is_operand_in r.functions v.result)
    where
      both : (a b c : Bool) → ((a || (b || true)) && c) ≡ c
      both true b c = refl
      both false true c = refl
      both false false c = refl

  abbrev Blocks : Inst → Option Inst → List Decl
  Blocks v b = if is_seen r.functions v then block_item s names v b else []

  none_there : (v : Inst) → block_of s.of.globals v ≡ None → [] ≡ Blocks v (block_of s.of.globals v)
  none_there v none = sym (ap (Blocks v) none ∙ nothing (is_seen r.functions v))
    where
      nothing : (t : Bool) → (if t then block_item s names v None else []) ≡ []
      nothing true = refl
      nothing false = refl

  block_one : (v : Inst) → filter is_block_item (declaration s r names v) ≡ Blocks v (block_of s.of.globals v)
  block_one v = by_struct (is_written_struct s r v) refl
    where
      by_variable : (b : Option Inst) → block_of s.of.globals v ≡ b → filter is_block_item (if is_written_variable r v then variable_decl s names v b else []) ≡ Blocks v b
      by_variable None at = no_item (is_written_variable r v) (is_private v) (is_seen r.functions v)
        where
          no_item : (w p t : Bool) → filter is_block_item (if w then (if p then tree.global (type_at s names (pointee_at s v.ty)) (names.id v.result) (initial s names v) else tree.shared (type_at s names (pointee_at s v.ty)) (names.id v.result)) ∷ [] else []) ≡ (if t then block_item s names v None else [])
          no_item true true true = refl
          no_item true true false = refl
          no_item true false true = refl
          no_item true false false = refl
          no_item false p true = refl
          no_item false p false = refl
      by_variable (Some g) at = ap (λ (w : Bool). filter is_block_item (if w then variable_decl s names v (Some g) else [])) (written_if v g at) ∙ one_item (is_seen r.functions v)
        where
          one_item : (t : Bool) → filter is_block_item (if t then variable_decl s names v (Some g) else []) ≡ (if t then block_item s names v (Some g) else [])
          one_item true = refl
          one_item false = refl

      by_constant : (c : Bool) → is_declared_constant s r v ≡ c → filter is_block_item (if c then constant_decl s names v ∷ [] else (if is_written_variable r v then variable_decl s names v (block_of s.of.globals v) else [])) ≡ Blocks v (block_of s.of.globals v)
      by_constant true on = none_there v (no_block v (constant_no_variable v.op (constant_is v on)))
      by_constant false off = by_variable (block_of s.of.globals v) refl

      by_struct : (t : Bool) → is_written_struct s r v ≡ t
          → filter is_block_item (if t then struct_decl s names v ∷ [] else (if is_declared_constant s r v then constant_decl s names v ∷ [] else (if is_written_variable r v then variable_decl s names v (block_of s.of.globals v) else []))) ≡ Blocks v (block_of s.of.globals v)
      by_struct true on = none_there v (no_block v (struct_only v.op (struct_is v on)).0)
      by_struct false off = by_constant (is_declared_constant s r v) refl

  blocks_among : (gs : List Inst) → filter is_block_item (flat_map (declaration s r names) gs) ≡ flat_map (item_of s names) (filter (is_seen r.functions) gs)
  blocks_among [] = refl
  blocks_among (v ∷ gs) =
      filter-append is_block_item (declaration s r names v) (flat_map (declaration s r names) gs) ∙ ap₂ (λ (a b : List Decl). a ++ b) (block_one v) (blocks_among gs) ∙ joined (is_seen r.functions v)
    where
      joined : (t : Bool) → (if t then item_of s names v else []) ++ flat_map (item_of s names) (filter (is_seen r.functions) gs) ≡ flat_map (item_of s names) (if t then v ∷ filter (is_seen r.functions) gs else filter (is_seen r.functions) gs)
      joined true = refl
      joined false = refl

  -- a constant that a specialization may set is declared, with its SpecId
  abbrev Constants : Inst → List Decl
  Constants g = if is_settable s g then constant_decl s names g ∷ [] else []

  not_settable : (g : Inst) → is_settable s g ≡ false → [] ≡ Constants g
  not_settable g off = sym (ap (λ (b : Bool). if b then constant_decl s names g ∷ [] else []) off)

  constant_one : (g : Inst) → filter is_spec_item (declaration s r names g) ≡ Constants g
  constant_one g = by_struct (is_written_struct s r g) refl
    where
      both_on : (a b c d : Bool) → (a && (b && (c || d))) ≡ true → (a && (b && c)) ≡ c
      both_on true true c d on = refl
      both_on true false c d on = cc
      both_on false b c d on = cc

      none_on : (a b c d : Bool) → (a && (b && (c || d))) ≡ false → (a && (b && c)) ≡ false
      none_on true true true d off = cc
      none_on true true false d off = refl
      none_on true false c d off = refl
      none_on false b c d off = refl

      no_item : (b : Option Inst) (w : Bool) → filter is_spec_item (if w then variable_decl s names g b else []) ≡ []
      no_item b false = refl
      no_item (Some x) true = refl
      no_item None true = by_class (is_private g)
        where
          by_class : (p : Bool) → filter is_spec_item ((if p then tree.global (type_at s names (pointee_at s g.ty)) (names.id g.result) (initial s names g) else tree.shared (type_at s names (pointee_at s g.ty)) (names.id g.result)) ∷ []) ≡ []
          by_class true = refl
          by_class false = refl

      by_constant : (c : Bool) → is_declared_constant s r g ≡ c → filter is_spec_item (if c then constant_decl s names g ∷ [] else (if is_written_variable r g then variable_decl s names g (block_of s.of.globals g) else [])) ≡ Constants g
      by_constant true on =
          sym (ap (λ (b : Bool). if b then constant_decl s names g ∷ [] else []) (both_on (is_constant g) (is_named (reading s g)) (is_some (free_spec_id s g.result)) (is_needed s r g.result) on))
      by_constant false off =
          no_item (block_of s.of.globals g) (is_written_variable r g)
          ∙ not_settable g (none_on (is_constant g) (is_named (reading s g)) (is_some (free_spec_id s g.result)) (is_needed s r g.result) off)

      by_struct : (t : Bool) → is_written_struct s r g ≡ t
          → filter is_spec_item (if t then struct_decl s names g ∷ [] else (if is_declared_constant s r g then constant_decl s names g ∷ [] else (if is_written_variable r g then variable_decl s names g (block_of s.of.globals g) else []))) ≡ Constants g
      by_struct true on = not_settable g (ap (λ (b : Bool). b && (is_named (reading s g) && is_some (free_spec_id s g.result))) (struct_only g.op (struct_is g on)).1)
      by_struct false off = by_constant (is_declared_constant s r g) refl

  constants_among : (gs : List Inst) → filter is_spec_item (flat_map (declaration s r names) gs) ≡ map (constant_decl s names) (filter (is_settable s) gs)
  constants_among [] = refl
  constants_among (g ∷ gs) =
      filter-append is_spec_item (declaration s r names g) (flat_map (declaration s r names) gs) ∙ ap₂ (λ (a b : List Decl). a ++ b) (constant_one g) (constants_among gs) ∙ joined (is_settable s g)
    where
      joined : (t : Bool) → (if t then constant_decl s names g ∷ [] else []) ++ map (constant_decl s names) (filter (is_settable s) gs) ≡ map (constant_decl s names) (if t then g ∷ filter (is_settable s) gs else filter (is_settable s) gs)
      joined true = refl
      joined false = refl

-- functions are neither
no_blocks : (ps : List FunctionPlan) → filter is_block_item (map function_decl ps) ≡ []
no_blocks [] = refl
no_blocks (p ∷ ps) = no_blocks ps

no_constants : (ps : List FunctionPlan) → filter is_spec_item (map function_decl ps) ≡ []
no_constants [] = refl
no_constants (p ∷ ps) = no_constants ps

behind_none : (xs ys : List Decl) → ys ≡ [] → xs ++ ys ≡ xs
behind_none xs ys none = ap (λ (l : List Decl). xs ++ l) none ∙ append-nil xs

module _ (m : ModuleState) (o : Options) (unit : TranslationUnit) (u : IsUnitOf m o unit) where
  abbrev s : Source
  s = source_of m o u.entry

  abbrev r : Reached
  r = reached_of s u.plans

  abbrev names : Names
  names = item_names_of s (name_of u.claimed)

  items_are : items_in unit ≡ declarations s r names ++ map function_decl (in_order u.order u.plans)
  items_are = ap items_in u.unit_is

  -- The law.
  pub has_interface : HasInterface m o unit
  has_interface = record {
    made = u;
    blocks =
        ap (filter is_block_item) items_are ∙ filter-append is_block_item (declarations s r names) (map function_decl (in_order u.order u.plans))
        ∙ behind_none (filter is_block_item (declarations s r names)) (filter is_block_item (map function_decl (in_order u.order u.plans))) (no_blocks (in_order u.order u.plans)) ∙ blocks_among s r names m.globals
        ∙ ap (λ (fs : List Function). flat_map (item_of s names) (filter (is_seen fs) m.globals)) (written_are s (name_of u.claimed) (called u.order m.functions) u.plans u.planned);
    constants =
        ap (filter is_spec_item) items_are ∙ filter-append is_spec_item (declarations s r names) (map function_decl (in_order u.order u.plans))
        ∙ behind_none (filter is_spec_item (declarations s r names)) (filter is_spec_item (map function_decl (in_order u.order u.plans))) (no_constants (in_order u.order u.plans)) ∙ constants_among s r names m.globals;
    size = ap sizes_in u.unit_is;
  }
