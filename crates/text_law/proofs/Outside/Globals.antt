-- With what the paths of an accepted module's text begin that are of variables of the module: Private variables, built-in variables, variables of workgroups and blocks.
use Rattle.std.proofs.Common.{◌≡◌, ◌⊎◌, ◌<◌, ◌+◌, ◌++◌, ◌==◌, ◌||◌, ◌&&◌, ℕ, suc, Bool, true, false, List, [], ◌∷◌, not, Option, Some, None, inl, inr, refl, sym, ap, ap₂, ◌∙◌, subst, if◌then◌else◌, arith}
use Rattle.std.specs.Prelude.{bytes_eq, codes, flat_map, option_and_then, unwrap_or}
use Rattle.std.specs.Option.{option_map_or}
use Rattle.std.specs.List.{list_any}
use Rattle.std.proofs.lemmas.Bool.{and_parts, or_cases, and_from, and_left, not-false, or_left as or_on_left, or_right as or_on_right, and_right}
use Rattle.std.proofs.lemmas.Bool.Decides.{eqb_tells}
use Rattle.std.proofs.lemmas.List.Concat.{flat_map-cons}
use Rattle.std.proofs.lemmas.List.Elements.{Contains-append_left}
use Rattle.std.proofs.lemmas.Slice.Eq.{bytes_eq-Decides}
use Rattle.std.proofs.lemmas.Option.{same_Some}
use Rattle.spv_ops.specs.Opcode.{is}
use Rattle.spv_ops.specs.Enumerants.{class_number, class_of_number, decoration_number, built_in_number, built_in_of_number}
use Rattle.spv_ops.specs.declared.Op.TheVariants as code
use Rattle.spv_ops.specs.declared.BuiltIn.{BuiltIn}
use Rattle.spv_ops.specs.declared.BuiltIn.TheVariants as built
use Rattle.spv_ops.specs.declared.Decoration.TheVariants as decoration
use Rattle.spv_ops.specs.declared.StorageClass.{StorageClass}
use Rattle.spv_ops.specs.declared.StorageClass.TheVariants as storage
use Rattle.spv_module.specs.Held.{global as global_inst}
use Rattle.spv_module.specs.Lists.{id}
use Rattle.spv_module.specs.State.{ModuleState}
use Rattle.spv_module.specs.declared.inst.Inst.{Inst}
use Rattle.spv_types.specs.Tree as plain
use Rattle.spv_types.specs.Tree.{Tree, Trees, no_trees, tree}
use Rattle.spv_types.specs.Types.{tree_at, type_tree}
use Rattle.spv_decor.specs.Rows.{word, value_of}
use Rattle.spv_decor.specs.Decorations.{local_insts}
use Rattle.spv_index.specs.BlockStructs.{has, is_block, is_block_struct, is_some_block}
use Rattle.spv_index.specs.Pointers.{pointee, storage_class}
use Rattle.layout_rules.specs.Blocks.{is_block_class, block_of}
use Rattle.conformance.specs.Rules.{Options}
use Rattle.module_check.specs.Judged.{IsFine}
use Rattle.module_check.specs.ReadFrom.{IsReadFrom}
use Rattle.profile_rules.specs.Places.{is_among, is_variable, places}
use Rattle.profile_rules.specs.TypeRows.{type_row}
use Rattle.profile_rules.specs.Variables.{classes, is_other_class, is_misclassed, is_pointee, inputs, is_other_input_type}
use Rattle.traces.specs.Invocations.{Invocation, IsInvocation}
use Rattle.module_semantics.specs.Setting.{Setting, as_variable, global_variable, is_in_class}
use Rattle.module_semantics.specs.Memory.{class_of}
use Rattle.module_semantics.specs.State.{global as root}
use Rattle.name_alloc.specs.declared.claims.Key.{Key}
use Rattle.name_alloc.specs.declared.claims.Key.TheVariants.{Main, Id}
use Rattle.name_alloc.specs.Reserved.{has_prefix}
use Rattle.name_alloc.specs.Law.{IsFree}
use Rattle.glsl_ast.specs.Tree.{Text, Expr, name, Decl, TranslationUnit}
use Rattle.glsl_semantics.specs.Expressions.{Program}
use Rattle.glsl_semantics.specs.Items.{Declared, with_items}
use Rattle.text_rules.specs.Constants.{Source, sizes, is_constant, constant_expr}
use Rattle.text_rules.specs.Printed.{Reached, class, is_private, is_workgroup, is_block_variable, is_operand_in, is_written_variable, is_declared_constant, is_written_struct, type_has_struct, written_types}
use Rattle.text_rules.specs.Declarations.{Names, struct_decl, constant_decl, variable_decl, block_decl, declaration, declarations}
use Rattle.text_rules.specs.Claims.{has_block}
use Rattle.text_items.specs.Globals.{built_in_text, is_input, global_by}
use Rattle.function_text.specs.Functions.{FunctionPlan, written}
use Rattle.unit_rules.specs.Translation.{id_text, global_expr}
use Rattle.unit_rules.specs.Unit.{source_of, IsUnitOf}
use Rattle.list_law.proofs.Options.{none_some}
use Rattle.plan_law.specs.InOrder.{IsAmong, AreRising}
use Rattle.plan_law.proofs.Order.{among_left as inst_left}
use Rattle.fits_law.specs.Takes.{nth_of}
use Rattle.fits_law.proofs.Steps.{named}
use Rattle.type_law.specs.Shaped.{HasConstants}
use Rattle.type_law.proofs.Parts.{row}
use Rattle.agree_law.specs.Agree.{Naming}
use Rattle.typed_law.specs.Conforms.{IsConforming}
use Rattle.typed_law.proofs.Lists.{or_left, or_right, and_off, found_in, none_at_fault, clash}
use Rattle.typed_law.proofs.Rules.{input_right}
use Rattle.typed_law.proofs.Sized.{rising_low}
use Rattle.typed_law.proofs.Used.{global_found}
use Rattle.accepted_law.proofs.Accepted.{accepted_conforming}
use Rattle.global_law.specs.Parts.{StructNames, HasMembersApart}
use Rattle.global_law.specs.Laid.{HasLengths, HaveLengths}
use Rattle.global_law.proofs.Path.Parts.{sized_lengths}
use Rattle.global_law.specs.Walks.{struct_names}
use Rattle.global_law.specs.Starts.{IsPrivate, IsBuiltIn, IsShared, IsBlock}
use Rattle.narrow_law.specs.Low.{IsFineMember}
use Rattle.narrow_law.proofs.Taken.{kind_there}
use Rattle.places_law.proofs.Blocks.{points as block_points, found as block_found, struct_is, decorated_is, block_is, parts, member_fine}
use Rattle.global_law.specs.Sources.{chosen}
use Rattle.global_law.proofs.Global.BuiltIns.{AreOtherNames, built_in_shape, IsInputOne, built_in_begins}
use Rattle.global_law.proofs.Global.Blocks.{block_begins}
use Rattle.global_law.proofs.Global.Shared.{AllOff, HaveBlocks, shared_begins}
use Rattle.global_law.specs.Items.{is_item, AreAsked}
use Rattle.global_law.proofs.Constant.Constituents.{nothing}
use Rattle.global_law.proofs.Constant.Standing.{N as item_names, bytes_off, any_among, same_item, variable_is_item, other_names}
use Rattle.global_law.proofs.Constant.Constants.{AreFunctions, functions_keep, first, things_same, block_declared, type_declared_before}
use Rattle.global_law.proofs.Constant.Variables.{behind, among_behind, among_here, private_is}
use Rattle.global_law.proofs.Constant.Conforming.{uint_tree, uvec3_tree}
use Rattle.claim_law.proofs.Claim.Named.{Plans}
use Rattle.claim_law.proofs.Claim.Told.{named_is}
use Rattle.claim_law.proofs.Claim.Variables.{variable_no_struct, variable_no_constant, undeclared}
use Rattle.item_law.proofs.Named.{item_named, variable_members, block_members}
use Rattle.grammar_law.proofs.Unit.Lists.{same_test, test_same}
use Rattle.text_law.specs.Names.{is_written_private, is_outer_global, has_text}
use Rattle.text_law.proofs.Naming.Keys.{S, found as names_found, key as key_of, R, names as names_in}
use Rattle.text_law.specs.Left.{IsLeftOfGlobals}
use Rattle.text_law.proofs.Outside.Asked.{claimed}
use Rattle.text_law.proofs.Outside.Text.{fs as function_items, are_functions, asked as asked_of, P as program_in, mentions, among as among_globals, points, split, shape_is, there as global_there, variable as variable_one}

-- one of these numbers
abbrev IsOne : ℕ → List ℕ → Type 0
IsOne x [] = ⊥
IsOne x (y ∷ ys) = (x ≡ y) ⊎ IsOne x ys

one_of : (x : ℕ) (ys : List ℕ) → is_among ys x ≡ true → IsOne x ys
one_of x [] e = cc
one_of x (y ∷ ys) e = elim (or_cases (y == x) (is_among ys x) e) [ inl same ↦ inl (sym (test_same y x same)) | inr later ↦ inr (one_of x ys later) ]

-- items that stand for something by other names
both_names : (x : Text) (xs ys : List Decl) → AreOtherNames x xs → AreOtherNames x ys → AreOtherNames x (xs ++ ys)
both_names x [] ys a b = b
both_names x (i ∷ xs) ys a b = (a.0, both_names x xs ys a.1 b)

-- what stands before one of a rising list
ahead : (before after : List Inst) (k : ℕ) (v : Inst) → AreRising k (before ++ v ∷ after) → (h : Inst) → IsAmong h before → h.at < v.at
ahead [] after k v rise h there = absurd there
ahead (b ∷ before) after k v rise h (inl same) =
    let far = rising_low (b.at + 1) (before ++ v ∷ after) v rise.1 (among_here before after v) in
    let at : b.at ≡ h.at = ap (λ (x : Inst). x.at) same in
    omega (arith, far, at)
ahead (b ∷ before) after k v rise h (inr there) = ahead before after (b.at + 1) v rise.1 h there

before_all : (before after : List Inst) (h : Inst) → IsAmong h before → IsAmong h (before ++ after)
before_all [] after h there = absurd there
before_all (b ∷ before) after h (inl same) = inl same
before_all (b ∷ before) after h (inr there) = inr (before_all before after h there)

-- what has values has no length that a specialization constant gives, and neither has a runtime array of it
member_lengths : (t : Tree) → IsFineMember t → HasLengths t
member_lengths plain.boolean h = tt
member_lengths plain.int h = tt
member_lengths plain.uint h = tt
member_lengths (plain.vector e n) h = tt
member_lengths (plain.array t l) h = sized_lengths (plain.array t l) h
member_lengths (plain.runtime t) h = sized_lengths t h
member_lengths (plain.struct k ts) h = sized_lengths (plain.struct k ts) h

members_lengths : (ts : Trees) → ((i : ℕ) (u : Tree) → nth_of ts i ≡ Some u → IsFineMember u) → HaveLengths ts
members_lengths no_trees each = tt
members_lengths (tree t ts) each = (member_lengths t (each 0 t refl), members_lengths ts (λ i u at. each (suc i) u at))

-- a struct that makes a block of a variable is decorated as one
block_marked : (a b c x y : Bool) → (((a && x) || (b && y)) || ((b && x) || (c && x))) ≡ true → (x || y) ≡ true
block_marked a b c x y e = elim (or_cases ((a && x) || (b && y)) ((b && x) || (c && x)) e) [
  | inl storage ↦ elim (or_cases (a && x) (b && y) storage) [ inl one ↦ or_on_left x y (and_parts a x one).1 | inr two ↦ or_on_right x y (and_parts b y two).1 ]
  | inr others ↦ elim (or_cases (b && x) (c && x) others) [ inl one ↦ or_on_left x y (and_parts b x one).1 | inr two ↦ or_on_left x y (and_parts c x two).1 ]
]

-- the number of a class of blocks
abbrev is_block_number : ℕ → Bool
is_block_number n = (n == class_number storage.Uniform) || (n == class_number storage.PushConstant) || (n == class_number storage.StorageBuffer)

three_on : (a b c : Bool) → (a || b || c) ≡ true → (a ≡ true) ⊎ ((b ≡ true) ⊎ (c ≡ true))
three_on true b c e = inl refl
three_on false true c e = inr (inl refl)
three_on false false true e = inr (inr refl)
three_on false false false e = cc

-- built-in variables: their names begin with a reserved prefix
prefixed : (b : BuiltIn) → has_prefix (built_in_text (built_in_number b)) ≡ true
unfolding has_prefix
prefixed built.NumWorkgroups = refl
prefixed built.WorkgroupSize = refl
prefixed built.WorkgroupId = refl
prefixed built.LocalInvocationId = refl
prefixed built.GlobalInvocationId = refl
prefixed built.LocalInvocationIndex = refl

numbered : (b : BuiltIn) → built_in_of_number (built_in_number b) ≡ Some b
numbered built.NumWorkgroups = refl
numbered built.WorkgroupSize = refl
numbered built.WorkgroupId = refl
numbered built.LocalInvocationId = refl
numbered built.GlobalInvocationId = refl
numbered built.LocalInvocationIndex = refl

input_members : (y : StructNames) (b : BuiltIn) → HasMembersApart y (built_in_shape b)
input_members y built.NumWorkgroups = tt
input_members y built.WorkgroupSize = tt
input_members y built.WorkgroupId = tt
input_members y built.LocalInvocationId = tt
input_members y built.GlobalInvocationId = tt
input_members y built.LocalInvocationIndex = tt

-- P14: its type
input_shape : (s : Setting) (b : BuiltIn) (h : Inst) (t : Tree) → IsInputOne b → tree_at s.of.globals h ≡ Some t → is_other_input_type s.of.globals (built_in_number b) h ≡ false → t ≡ built_in_shape b
input_shape s built.NumWorkgroups h t one at off = uvec3_tree s h t at off
input_shape s built.WorkgroupId h t one at off = uvec3_tree s h t at off
input_shape s built.LocalInvocationId h t one at off = uvec3_tree s h t at off
input_shape s built.GlobalInvocationId h t one at off = uvec3_tree s h t at off
input_shape s built.LocalInvocationIndex h t one at off = same_Some t plain.uint (sym at ∙ uint_tree s h (not-false _ off))
input_shape s built.WorkgroupSize h t one at off = absurd one

module _ (bytes : List ℕ) (m : ModuleState) (o : Options) (read : IsReadFrom bytes m) (fine : IsFine m o) (unit : TranslationUnit) (u : IsUnitOf m o unit) (inv : Invocation) (told : IsInvocation inv) (left : IsLeftOfGlobals bytes m o) where
  abbrev s : Setting
  s = S m o unit u inv

  abbrev found : Key → Option Text
  found = names_found m o unit u inv

  abbrev key : Key → Text
  key = key_of m o unit u inv

  abbrev r : Reached
  r = R m o unit u inv

  abbrev src : Source
  src = source_of m o u.entry

  abbrev Gs : List Inst
  Gs = m.globals

  abbrev fs : List Decl
  fs = function_items bytes m o read fine unit u inv told left

  abbrev asked : AreAsked s o.entry o.overrides found r
  asked = asked_of bytes m o read fine unit u inv told left

  abbrev P : Program
  P = program_in bytes m o read fine unit u inv told left

  abbrev Ns : Names
  Ns = item_names s o.entry o.overrides found r asked

  abbrev globals : ℕ → Option Expr
  globals = global_expr src (id_text found)

  abbrev names : ℕ → Text
  names n = key (Id (id n))

  functions : AreFunctions fs
  functions = are_functions bytes m o read fine unit u inv told left

  abbrev right : IsConforming m o.entry
  right = accepted_conforming bytes m o read fine

  abbrev have : HasConstants s (chosen s o.overrides)
  have = λ k. refl

  -- names of items are given, so none begins with a reserved prefix
  unprefixed : (g : Inst) → IsAmong g Gs → is_item src r g ≡ true → has_prefix (names g.result) ≡ false
  unprefixed g there on = by_free (u.lawful.each (Id (id g.result)) (names g.result) (named_is found (Id (id g.result)) (item_named s o.entry right o.overrides found r (Plans m o unit u) u.lawful (claimed bytes m o read fine unit u inv told left) g there on))).free
    where
      by_free : ((Id (id g.result) ≡ Main) × (names g.result ≡ codes "main")) ⊎ IsFree (names g.result) → has_prefix (names g.result) ≡ false
      by_free (inl main) = cc
      by_free (inr free) = free.prefix

  -- no item has the name of what is built in
  built_in_apart : (x : Text) → has_prefix x ≡ true → (gs : List Inst) → ((g : Inst) → IsAmong g gs → IsAmong g Gs) → AreOtherNames x (flat_map (declaration src r Ns) gs)
  built_in_apart x on [] all = tt
  built_in_apart x on (g ∷ gs) all =
      subst (AreOtherNames x) (sym (flat_map-cons (declaration src r Ns) g gs))
      (both_names x (declaration src r Ns g) (flat_map (declaration src r Ns) gs)
      (other_names s o.entry o.overrides found r asked x g (λ item. bytes_off x (names g.result) (λ same. clash (sym (ap has_prefix (sym same) ∙ on) ∙ unprefixed g (all g (inl refl)) item))))
      (built_in_apart x on gs (λ h there. all h (inr there))))

  -- no later item has that of a variable
  names_after : (v : Inst) → IsAmong v Gs → is_written_variable r v ≡ true → (after : List Inst) → ((h : Inst) → IsAmong h after → IsAmong h Gs) → ((h : Inst) → IsAmong h after → v.at < h.at) → AreOtherNames (names v.result) (flat_map (declaration src r Ns) after)
  names_after v there on [] all far = tt
  names_after v there on (h ∷ hs) all far =
      subst (AreOtherNames (names v.result)) (sym (flat_map-cons (declaration src r Ns) h hs))
      (both_names (names v.result) (declaration src r Ns h) (flat_map (declaration src r Ns) hs)
      (other_names s o.entry o.overrides found r asked (names v.result) h (λ item. bytes_off (names v.result) (names h.result) (λ same.
      let one : v.at ≡ h.at = ap (λ (x : Inst). x.at) (same_item s o.entry o.overrides found r asked v h there (all h (inl refl)) (variable_is_item s o.entry o.overrides found r asked v on) item same) in
      let less = far h (inl refl) in
      omega (arith, less, one))))
      (names_after v there on hs (λ k k_in. all k (inr k_in)) (λ k k_in. far k (inr k_in))))

  -- a variable of a class of blocks has a block (P15)
  module _ (v : Inst) (itself : global_variable s v.result ≡ Some v) where
    abbrev IsBlocked : Type 0
    IsBlocked = (g : Inst) × (block_of Gs v ≡ Some g)

    blocked : is_block_variable v ≡ true → IsBlocked
    blocked on = by_class (three_on (class v == class_number storage.Uniform) (class v == class_number storage.PushConstant) (class v == class_number storage.StorageBuffer) (and_parts (is_variable v) (is_block_number (class v)) on).1)
      where
        of_class : (c : StorageClass) → class_of v ≡ Some c → (((class_number c == class_number storage.Uniform) || (class_number c == class_number storage.StorageBuffer)) || (true && (class_number c == class_number storage.PushConstant))) ≡ true → is_block_class (class_number c) ≡ true
            → (class_number c == class_number storage.Workgroup) ≡ false → IsBlocked
        of_class c classed one two three =
            let g = block_found s o.entry right (chosen s o.overrides) have fine.later.layout v.result v itself c classed one two three in
            (g.0, block_is s o.entry right (chosen s o.overrides) have fine.later.layout v.result v itself c classed one two three)

        class_is : (c : StorageClass) → (class v == class_number c) ≡ true → class_of v ≡ class_of_number (class_number c)
        class_is c e = ap class_of_number (test_same (class v) (class_number c) e)

        by_class : ((class v == class_number storage.Uniform) ≡ true) ⊎ (((class v == class_number storage.PushConstant) ≡ true) ⊎ ((class v == class_number storage.StorageBuffer) ≡ true)) → IsBlocked
        by_class (inl e) = of_class storage.Uniform (class_is storage.Uniform e) refl refl refl
        by_class (inr (inl e)) = of_class storage.PushConstant (class_is storage.PushConstant e) refl refl refl
        by_class (inr (inr e)) = of_class storage.StorageBuffer (class_is storage.StorageBuffer e) refl refl refl

  as_global : (v : Inst) → IsAmong v Gs → is_variable v ≡ true → global_variable s v.result ≡ Some v
  as_global v there on = ap (λ (a : Option Inst). elim a as (λ a. Option Inst) [ None ↦ None | Some g ↦ as_variable g ]) (global_found m o.entry right v there) ∙ ap (λ (b : Bool). elim b as (λ b. Option Inst) [ true ↦ Some v | false ↦ None ]) on

  have_blocks : (gs : List Inst) → ((g : Inst) → IsAmong g gs → IsAmong g Gs) → HaveBlocks s gs
  have_blocks [] all = tt
  have_blocks (g ∷ gs) all = (
    λ on none. none_some (sym none ∙ (blocked g (as_global g (all g (inl refl)) (and_parts (is_variable g) (is_block_number (class g)) on).0) on).1),
    have_blocks gs (λ h there. all h (inr there)),
  )

  others_off : (v : Inst) (gs : List Inst) → ((g : Inst) → IsAmong g gs → IsAmong g Gs) → IsAmong v Gs → ((g : Inst) → IsAmong g gs → g.at < v.at) → AllOff (λ (g : Inst). g.result == v.result) gs
  others_off v [] all there far = tt
  others_off v (g ∷ gs) all there far = (by_test (eqb_tells g.result v.result), others_off v gs (λ h h_in. all h (inr h_in)) there (λ h h_in. far h (inr h_in)))
    where
      by_test : (((g.result == v.result) ≡ true) × (g.result ≡ v.result)) ⊎ (((g.result == v.result) ≡ false) × (g.result ≡ v.result → ⊥)) → (g.result == v.result) ≡ false
      by_test (inl w) =
          let one : g.at ≡ v.at = ap (λ (x : Inst). x.at) (same_Some g v (sym (global_found m o.entry right g (all g (inl refl))) ∙ ap (global_inst Gs) w.1 ∙ global_found m o.entry right v there)) in
          let less = far g (inl refl) in
          absurd (omega (arith, less, one))
      by_test (inr w) = w.0

  -- a variable that functions mention
  module _ (v : Inst) (itself : global_variable s v.result ≡ Some v) (mentioned : is_operand_in r.functions v.result ≡ true) (p : FunctionPlan) where
    abbrev N : Naming
    N = names_in m o unit u inv p

    abbrev Y : StructNames
    Y = struct_names key

    -- how it begins paths
    pub record BeginsPaths : Type 0 where
      pub type : ℕ
      pub shape : Tree
      pub points_to : pointee Gs v.ty ≡ Some type
      pub typed_as : type_tree Gs type ≡ Some shape
      pub members : HasMembersApart (struct_names key) shape
      pub kind : IsPrivate P N s src key globals v.result shape (root v.result) []
          ⊎ (IsBuiltIn P N s src key globals v.result shape (root v.result) [] ⊎ (IsShared P N s src key globals v.result shape (root v.result) [] ⊎ IsBlock P N s src key globals v.result shape (root v.result) []))

    there : global_inst Gs v.result ≡ Some v
    there = global_there bytes m o read fine unit u inv told left v.result v itself

    variable : is_variable v ≡ true
    variable = variable_one bytes m o read fine unit u inv told left v.result v itself

    among : IsAmong v Gs
    among = among_globals bytes m o read fine unit u inv told left v.result v itself

    abbrev at : (before : List Inst) × (after : List Inst) × (Gs ≡ before ++ v ∷ after)
    at = split bytes m o read fine unit u inv told left v.result v itself

    abbrev q : (ty : ℕ) × (t : Tree) × (pointee Gs v.ty ≡ Some ty) × (type_tree Gs ty ≡ Some t)
    q = points bytes m o read fine unit u inv told left v.result v itself

    rise : AreRising 0 (at.0 ++ v ∷ at.1)
    rise = subst (AreRising 0) at.2 right.rising

    in_before : (h : Inst) → IsAmong h at.0 → IsAmong h Gs
    in_before h h_in = subst (IsAmong h) (sym at.2) (before_all at.0 (v ∷ at.1) h h_in)

    in_after : (h : Inst) → IsAmong h at.1 → IsAmong h Gs
    in_after h h_in = subst (IsAmong h) (sym at.2) (among_behind at.0 at.1 v h h_in)

    far_after : (h : Inst) → IsAmong h at.1 → v.at < h.at
    far_after h h_in = behind at.0 at.1 0 v rise h h_in

    no_constant : is_constant v ≡ false
    no_constant = variable_no_constant v.op variable

    -- it is read by its own name, where it is not built in
    no_expr : is_input v ≡ false → globals v.result ≡ None
    no_expr off =
        ap (option_and_then (global_by src (id_text found))) there
        ∙ ap (λ b. if b then Some (constant_expr src (id_text found) v) else (if is_input v then Some (name (built_in_text (unwrap_or (value_of m.heads v.result (decoration_number decoration.BuiltIn)) 0))) else None)) no_constant
        ∙ ap (λ b. if b then Some (name (built_in_text (unwrap_or (value_of m.heads v.result (decoration_number decoration.BuiltIn)) 0))) else None) off

    outside_text : is_written_variable r v ≡ true → is_private v ≡ false → N.is_outside (names v.result) ≡ true
    outside_text on off =
        or_on_right (has_prefix (names v.result)) (list_any (has_text s o.overrides r key (names v.result)) Gs)
        (any_among (has_text s o.overrides r key (names v.result)) Gs v among
        (and_from (is_outer_global s o.overrides r key v) (bytes_eq (names v.result) (names v.result))
        (or_on_right (is_declared_constant src r v) (is_written_variable r v && not (is_private v)) (and_from (is_written_variable r v) (not (is_private v)) on (ap not off)))
        ((bytes_eq-Decides (names v.result) (names v.result)).1 refl)))

    written_as : (is_private v || (is_workgroup v || is_block_variable v)) ≡ true → is_written_variable r v ≡ true
    written_as on = and_from (is_private v || (is_workgroup v || is_block_variable v)) (is_operand_in r.functions v.result) on mentioned

    unblocked : (c : StorageClass) → word v 0 ≡ class_number c → ((id : ℕ) → is_block_struct m.heads (class_number c) id ≡ false) → is_some_block m.heads Gs v ≡ false
    unblocked c of off = ap (λ n. option_map_or (is_block_struct m.heads n) (pointee Gs v.ty) false) of ∙ ap (λ a. option_map_or (is_block_struct m.heads (class_number c)) a false) q.2 ∙ off q.0

    plain_members : is_written_variable r v ≡ true → is_some_block m.heads Gs v ≡ false → HasMembersApart (struct_names key) q.1
    plain_members on off = variable_members s o.entry right o.overrides found r (Plans m o unit u) u.lawful (claimed bytes m o read fine unit u inv told left) v q.0 q.1 among on off q.2 q.3

    private_start : word v 0 ≡ class_number storage.Private → BeginsPaths
    private_start of =
        let private : is_private v ≡ true = and_from (is_variable v) (class v == class_number storage.Private) variable (same_test (class v) (class_number storage.Private) of) in
        let on = written_as (or_on_left (is_private v) (is_workgroup v || is_block_variable v) private) in
        let own : N.is_private v.result ≡ true = ap (λ (a : Option Inst). option_map_or (is_written_private s o.overrides r key) a false) there ∙ and_from (is_private v) (is_written_variable r v) private on in
        record {
          type = q.0;
          shape = q.1;
          points_to = q.2;
          typed_as = q.3;
          members = plain_members on (unblocked storage.Private of (λ k. refl));
          kind = inl (private_is s o.entry o.overrides found r asked at.0 at.1 v at.2 private mentioned q.0 q.1 q.2 q.3 P N itself own refl (shape_is bytes m o read fine unit u inv told left v.result v itself (written p)));
        }

    -- another name of the text stands for what it stands for behind the items
    abbrev Items : Declared
    Items = with_items (first s o.overrides) (declarations src r Ns)

    things : (x : Text) → P.things x ≡ Items.program.things x
    things = things_same s o.entry o.overrides found r asked fs functions

    shared_start : word v 0 ≡ class_number storage.Workgroup → BeginsPaths
    shared_start of =
        let shared : is_in_class storage.Workgroup v ≡ true = and_from (is_variable v) (class v == class_number storage.Workgroup) variable (same_test (class v) (class_number storage.Workgroup) of) in
        let on = written_as (or_on_right (is_private v) (is_workgroup v || is_block_variable v) (or_on_left (is_workgroup v) (is_block_variable v) shared)) in
        let no_block = unblocked storage.Workgroup of (λ k. refl) in
        let private : is_private v ≡ false = ap (λ n. is_variable v && (n == class_number storage.Private)) of ∙ and_right (is_variable v) false refl in
        let w =
        shared_begins s o.overrides key (Ns.calculated) r (mentions bytes m o read fine unit u inv told left) nothing (first s o.overrides) N src globals at.0 at.1 v q.0 q.1 refl at.2 itself shared
        (sym (mentions bytes m o read fine unit u inv told left v.result) ∙ mentioned) (have_blocks at.0 in_before) (others_off v at.0 in_before among (λ g g_in. ahead at.0 at.1 0 v rise g g_in)) q.2 q.3
        (type_declared_before s o.entry o.overrides found r asked at.0 at.1 v q.0 q.1 at.2 among variable on no_block q.2 q.3) (names_after v among on at.1 in_after far_after)
        (no_expr (ap (λ n. is_variable v && (n == class_number storage.Input)) of ∙ and_right (is_variable v) false refl)) (outside_text on private) in
        record {
          type = q.0;
          shape = q.1;
          points_to = q.2;
          typed_as = q.3;
          members = plain_members on no_block;
          kind = inr (inr (inl (record { root = w.root; whole = w.whole; inst = w.inst; there = w.there; class = w.class; itself = w.itself; outside = w.outside; typed_as = w.typed_as; text_shape = w.text_shape; text_typed = w.text_typed; thing = things (names v.result) ∙ w.thing })));
        }

    -- P14
    input_start : word v 0 ≡ class_number storage.Input → BeginsPaths
    input_start of = by_value (value_of m.heads v.result (decoration_number decoration.BuiltIn)) refl
        (and_off (is_variable v && (word v 0 == class_number storage.Input)) (option_map_or (λ b. not (is_among inputs b) || is_pointee Gs (is_other_input_type Gs b) v) (value_of m.heads v.result (decoration_number decoration.BuiltIn)) true)
        (input_right m o.entry right v (inst_left v Gs (local_insts m) among)) input)
      where
        input : is_input v ≡ true
        input = and_from (is_variable v) (word v 0 == class_number storage.Input) variable (same_test (word v 0) (class_number storage.Input) of)

        h : (x : Inst) × (type_row Gs q.0 ≡ Some x) × (tree_at Gs x ≡ Some q.1)
        h = row s nothing q.0 q.1 q.3

        by_one : (b : BuiltIn) (n : ℕ) → IsInputOne b → n ≡ built_in_number b → value_of m.heads v.result (decoration_number decoration.BuiltIn) ≡ Some n → is_pointee Gs (is_other_input_type Gs n) v ≡ false → BeginsPaths
        by_one b n one is known off =
            let told_as : value_of m.heads v.result (decoration_number decoration.BuiltIn) ≡ Some (built_in_number b) = known ∙ ap (λ k. Some k) is in
            let typed : is_other_input_type Gs (built_in_number b) h.0 ≡ false =
            ap (λ k. is_other_input_type Gs k h.0) (sym is) ∙ (ap (λ a. option_map_or (is_other_input_type Gs n) a false) (sym (ap (option_and_then (type_row Gs)) q.2 ∙ h.1)) ∙ off) in
            let same = input_shape s b h.0 q.1 one h.2 typed in
            let written_so : globals v.result ≡ Some (name (built_in_text (built_in_number b))) =
            ap (option_and_then (global_by src (id_text found))) there
            ∙ ap (λ c. if c then Some (constant_expr src (id_text found) v) else (if is_input v then Some (name (built_in_text (unwrap_or (value_of m.heads v.result (decoration_number decoration.BuiltIn)) 0))) else None)) no_constant
            ∙ ap (λ c. if c then Some (name (built_in_text (unwrap_or (value_of m.heads v.result (decoration_number decoration.BuiltIn)) 0))) else None) input
            ∙ ap (λ a. Some (name (built_in_text (unwrap_or a 0)))) told_as in
            let x = built_in_text (built_in_number b) in
            let w =
            built_in_begins s key (sizes src) (declarations src r Ns ++ fs) N src globals v.result (built_in_number b) v b itself of told_as (numbered b) one written_so
            (or_on_left (has_prefix x) (list_any (has_text s o.overrides r key x) Gs) (prefixed b))
            (both_names x (declarations src r Ns) fs (built_in_apart x (prefixed b) Gs (λ g g_in. g_in)) (functions_keep fs x functions)) in
            record {
              type = q.0;
              shape = q.1;
              points_to = q.2;
              typed_as = q.3;
              members = subst (HasMembersApart (struct_names key)) (sym same) (input_members (struct_names key) b);
              kind = inr (inl (subst (λ t. IsBuiltIn P N s src key globals v.result t (root v.result) []) (sym same) w));
            }

        by_number : (n : ℕ) → IsOne n inputs → value_of m.heads v.result (decoration_number decoration.BuiltIn) ≡ Some n → is_pointee Gs (is_other_input_type Gs n) v ≡ false → BeginsPaths
        by_number n (inl is) known off = by_one built.NumWorkgroups n tt is known off
        by_number n (inr (inl is)) known off = by_one built.WorkgroupId n tt is known off
        by_number n (inr (inr (inl is))) known off = by_one built.LocalInvocationId n tt is known off
        by_number n (inr (inr (inr (inl is)))) known off = by_one built.GlobalInvocationId n tt is known off
        by_number n (inr (inr (inr (inr (inl is))))) known off = by_one built.LocalInvocationIndex n tt is known off
        by_number n (inr (inr (inr (inr (inr none))))) known off = absurd none

        by_value : (a : Option ℕ) → value_of m.heads v.result (decoration_number decoration.BuiltIn) ≡ a → option_map_or (λ b. not (is_among inputs b) || is_pointee Gs (is_other_input_type Gs b) v) a true ≡ false → BeginsPaths
        by_value None known off = cc
        by_value (Some n) known off = by_number n (one_of n inputs (not-false (is_among inputs n) (or_left (not (is_among inputs n)) (is_pointee Gs (is_other_input_type Gs n) v) off))) known (or_right (not (is_among inputs n)) (is_pointee Gs (is_other_input_type Gs n) v) off)

    -- P15
    module _ (c : StorageClass) (of : word v 0 ≡ class_number c) (classed : class_of v ≡ Some c) (one : (((class_number c == class_number storage.Uniform) || (class_number c == class_number storage.StorageBuffer)) || (true && (class_number c == class_number storage.PushConstant))) ≡ true)
        (two : is_block_class (class_number c) ≡ true) (three : (class_number c == class_number storage.Workgroup) ≡ false) (four : is_block_number (class_number c) ≡ true) (five : (class_number c == class_number storage.Private) ≡ false) (six : (class_number c == class_number storage.Input) ≡ false)
        (of_three : (word v 0 ≡ class_number storage.StorageBuffer) ⊎ ((word v 0 ≡ class_number storage.Uniform) ⊎ (word v 0 ≡ class_number storage.PushConstant))) where
      abbrev bq : (ty : ℕ) × (t : Tree) × (pointee Gs v.ty ≡ Some ty) × (type_tree Gs ty ≡ Some t)
      bq = block_points s o.entry right (chosen s o.overrides) have fine.later.layout v.result v itself c classed one two three

      abbrev bg : (g : Inst) × (global_inst Gs bq.0 ≡ Some g) × (tree_at Gs g ≡ Some bq.1)
      bg = block_found s o.entry right (chosen s o.overrides) have fine.later.layout v.result v itself c classed one two three

      block_start : BeginsPaths
      block_start =
          let g = bg.0 in
          let ts = parts s o.entry right (chosen s o.overrides) have fine.later.layout v.result v itself c classed one two three in
          let opcode = struct_is s o.entry right (chosen s o.overrides) have fine.later.layout v.result v itself c classed one two three in
          let block = block_is s o.entry right (chosen s o.overrides) have fine.later.layout v.result v itself c classed one two three in
          let marked = decorated_is s o.entry right (chosen s o.overrides) have fine.later.layout v.result v itself c classed one two three in
          let members_fine = member_fine s o.entry right (chosen s o.overrides) have fine.later.layout v.result v itself c classed one two three in
          let among_g = found_in Gs bq.0 g bg.1 in
          let numbered_so : g.result ≡ bq.0 = named Gs bq.0 g bg.1 in
          let private : is_private v ≡ false = ap (λ n. is_variable v && (n == class_number storage.Private)) of ∙ and_right (is_variable v) (class_number c == class_number storage.Private) five in
          let no_input : is_input v ≡ false = ap (λ n. is_variable v && (n == class_number storage.Input)) of ∙ and_right (is_variable v) (class_number c == class_number storage.Input) six in
          let is_one : is_block_variable v ≡ true = and_from (is_variable v) (is_block_number (class v)) variable (ap is_block_number of ∙ four) in
          let on = written_as (or_on_right (is_private v) (is_workgroup v || is_block_variable v) (or_on_right (is_workgroup v) (is_block_variable v) is_one)) in
          let no_struct : is_written_struct src r v ≡ false = and_left (is v.op code.TypeStruct) (not (is_block m.heads v.result) && list_any (type_has_struct Gs v.result) (written_types src r)) (variable_no_struct v.op variable) in
          let declared_so : declaration src r Ns v ≡ block_decl src Ns v g ∷ [] =
          ap (λ b. if b then struct_decl src Ns v ∷ [] else (if is_declared_constant src r v then constant_decl src Ns v ∷ [] else (if is_written_variable r v then variable_decl src Ns v (block_of Gs v) else []))) no_struct
          ∙ ap (λ b. if b then constant_decl src Ns v ∷ [] else (if is_written_variable r v then variable_decl src Ns v (block_of Gs v) else [])) (undeclared m o unit u v variable)
          ∙ ap₂ (λ b a. if b then variable_decl src Ns v a else []) on block in
          let shape_own : type_tree Gs g.result ≡ Some (plain.struct g.result ts.0) = ap (type_tree Gs) numbered_so ∙ (bq.3 ∙ ap (λ t. Some t) ts.2) in
          let shape_at : type_tree Gs bq.0 ≡ Some (plain.struct bq.0 ts.0) = bq.3 ∙ ap (λ t. Some t) (ts.2 ∙ ap (λ k. plain.struct k ts.0) numbered_so) in
          let k = kind_there m v.result v g fine.later.layout there block in
          let marked_so : is_block m.heads bq.0 ≡ true =
          ap (is_block m.heads) (sym numbered_so)
          ∙ block_marked (word v 0 == class_number storage.StorageBuffer) (word v 0 == class_number storage.Uniform) (word v 0 == class_number storage.PushConstant) (has m.heads decoration.Block g.result) (has m.heads decoration.BufferBlock g.result) marked in
          let w =
          block_begins s nothing o.overrides key (Ns.calculated) r (first s o.overrides) N globals at.0 at.1 v g bq.0 k.0 ts.0 at.2 declared_so k.1 ts.1
          (block_declared s o.entry o.overrides found r asked at.0 at.1 v g bq.0 ts.0 at.2 among variable on bq.2 bg.1 opcode ts.1 shape_at) (names_after v among on at.1 in_after far_after) itself of_three bq.2 bg.1 shape_at
          (members_lengths ts.0 members_fine) marked_so (no_expr no_input) (outside_text on private) in
          let has_one : has_block src g.result v ≡ true = ap (λ a. option_map_or (λ (x : Inst). x.result == g.result) a false) block ∙ same_test g.result g.result refl in
          let members_own = block_members s o.entry right o.overrides found r (Plans m o unit u) u.lawful (claimed bytes m o read fine unit u inv told left) v g ts.0 among on among_g opcode has_one (bq.2 ∙ ap (λ k. Some k) (sym numbered_so)) shape_own ts.1 in
          record {
            type = bq.0;
            shape = plain.struct bq.0 ts.0;
            points_to = bq.2;
            typed_as = shape_at;
            members = subst (λ k. HasMembersApart (struct_names key) (plain.struct k ts.0)) numbered_so members_own;
            kind = inr (inr (inr (record {
              root = w.root;
              whole = w.whole;
              inst = w.inst;
              there = w.there;
              class = w.class;
              itself = w.itself;
              outside = w.outside;
              type = w.type;
              type_there = w.type_there;
              parts = w.parts;
              shape = w.shape;
              typed_as = w.typed_as;
              lengths = w.lengths;
              decorated = w.decorated;
              kind = w.kind;
              takes = w.takes;
              thing = things (names v.result) ∙ w.thing;
            })));
          }

    -- P13: it is of one of the classes, and not a Function variable.
    pub begins_paths : BeginsPaths
    begins_paths = by_class (one_of (word v 0) classes (not-false (is_among classes (word v 0)) (or_left (not (is_among classes (word v 0))) (option_map_or (λ c. not (c == word v 0)) (storage_class Gs v.ty) false) (or_left (is_other_class Gs v) (word v 0 == class_number storage.Function) off))))
      where
        off : (is_other_class Gs v || (word v 0 == class_number storage.Function)) ≡ false
        off =
            and_off (is_variable v) (is_other_class Gs v || (word v 0 == class_number storage.Function))
            (none_at_fault (is_misclassed false Gs) Gs v (λ where_at broken. right.declared.1.1.1.1.1.1.1.1.0 where_at (Contains-append_left (places (is_misclassed false Gs) Gs) (places (is_misclassed true Gs) (local_insts m)) where_at broken)) among) variable

        class_is : (c : StorageClass) → word v 0 ≡ class_number c → class_of v ≡ class_of_number (class_number c)
        class_is c of = ap class_of_number of

        by_class : IsOne (word v 0) classes → BeginsPaths
        by_class (inl of) = input_start of
        by_class (inr (inl of)) = block_start storage.Uniform of (class_is storage.Uniform of) refl refl refl refl refl refl (inr (inl of))
        by_class (inr (inr (inl of))) = shared_start of
        by_class (inr (inr (inr (inl of)))) = private_start of
        by_class (inr (inr (inr (inr (inl of))))) = clash (sym (same_test (word v 0) (class_number storage.Function) of) ∙ or_right (is_other_class Gs v) (word v 0 == class_number storage.Function) off)
        by_class (inr (inr (inr (inr (inr (inl of)))))) = block_start storage.PushConstant of (class_is storage.PushConstant of) refl refl refl refl refl refl (inr (inr of))
        by_class (inr (inr (inr (inr (inr (inr (inl of))))))) = block_start storage.StorageBuffer of (class_is storage.StorageBuffer of) refl refl refl refl refl refl (inl of)
        by_class (inr (inr (inr (inr (inr (inr (inr none))))))) = absurd none
