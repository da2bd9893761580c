-- What is asked of where paths begin, met by computing: of a module that reads an element of a buffer by a built-in variable, and of what is declared for it.
use Rattle.std.proofs.Common.{Bool, true, false, sym, ap, ◌∙◌, subst, inr, ◌≡◌, ◌++◌, ℕ, zero, suc, List, [], ◌∷◌, Option, Some, None, inl, refl}
use Rattle.std.specs.Prelude.{not, ◌&&◌, codes, bytes_eq, slice_index_or, if◌then◌else◌, ◌==◌, ◌||◌}
use Rattle.spv_ops.specs.declared.Op.TheVariants as code
use Rattle.spv_ops.specs.Opcode.{op_of, number}
use Rattle.spv_ops.specs.Shape.{shape}
use Rattle.spv_ops.specs.Operands.{is_id}
use Rattle.spv_ops.specs.OpGroups.{group_of}
use Rattle.spv_module.specs.Lists.{module_of, id}
use Rattle.spv_module.specs.Inst.{known}
use Rattle.spv_module.specs.declared.inst.Inst.{Inst}
use Rattle.spv_module.specs.Kinds.{kind_of_opcode, kind_of_op}
use Rattle.spv_module.specs.State.{ModuleState}
use Rattle.spv_module.specs.declared.inst.Function.{Function}
use Rattle.spv_decor.specs.Rows.{key_of}
use Rattle.spv_types.specs.Tree as plain
use Rattle.spv_types.specs.Tree.{tree, no_trees, word, many, values_in}
use Rattle.spv_types.specs.Types.{kind, below, type_tree}
use Rattle.spv_module.specs.declared.tree.Elem.TheVariants as elem
use Rattle.layout_rules.specs.declared.Kind.TheVariants.{Std430}
use Rattle.layout_rules.specs.Sizes.{aligned}
use Rattle.layout_rules.specs.Rules.{breaks}
use Rattle.layout_rules.specs.Blocks.{member_breaks, members_break}
use Rattle.profile_rules.specs.Constants.{constant_kind}
use Rattle.traces.specs.Invocations.{Invocation}
use Rattle.module_semantics.specs.Setting.{Setting, setting}
use Rattle.module_semantics.specs.State.{global}
use Rattle.name_alloc.specs.declared.claims.Key.{Key}
use Rattle.name_alloc.specs.declared.claims.Key.TheVariants.{Id, Member}
use Rattle.glsl_ast.specs.Tree.{Text, Expr, name, literal, Decl}
use Rattle.glsl_ast.specs.declared.expressions.Literal.TheVariants.{Uint}
use Rattle.glsl_semantics.specs.Shapes.{uint, Typed, typed}
use Rattle.glsl_semantics.specs.States.{State}
use Rattle.traces.specs.Outcomes.{Result}
use Rattle.list_law.proofs.Tests.{or_left, or_right}
use Rattle.list_law.proofs.Numbers.{none_below, number_same}
use Rattle.type_law.specs.Shaped.{AreConstants}
use Rattle.spv_index.specs.Locals.{insts_of}
use Rattle.module_semantics.specs.Steps.{step_kind, base}
use Rattle.spv_module.specs.declared.inst.Block.{Block as BlockOf}
use Rattle.glsl_semantics.specs.Items.{declared_by}
use Rattle.glsl_semantics.specs.Expressions.{Program, Argument}
use Rattle.text_rules.specs.Constants.{Source}
use Rattle.text_rules.specs.Declarations.{Names, declarations}
use Rattle.vec_lowering.specs.Component.{axis_name}
use Rattle.expr_forward.specs.Paths.{place_expr, literal_word}
use Rattle.agree_law.specs.Agree.{Naming}
use Rattle.global_law.specs.Parts.{AreMembersApart}
use Rattle.global_law.specs.Walks.{writing, struct_names, SaysIndex}
use Rattle.std.specs.List.{list_any}
use Rattle.std.proofs.lemmas.Bool.{and_from, and_parts, or_parts}
use Rattle.std.proofs.lemmas.Option.{same_Some, none-some}
use Rattle.spv_ops.specs.Groups.{is_chain}
use Rattle.global_law.specs.Chains.{NoneMakes, ChainsRise}
use Rattle.global_law.specs.Writings.{IsWrittenStart, IsWrittenChain}
use Rattle.global_law.proofs.Path.Reached.{IsRightChain}
use Rattle.global_law.specs.Starts.{IsBuiltIn, IsBlock}
use Rattle.global_law.proofs.Constant.GroupSizes.{same_word}

unfoldable opened : Unit {0}
unfolding shape op_of number known is_id kind_of_opcode kind_of_op key_of kind below constant_kind group_of aligned breaks member_breaks members_break declared_by literal_word axis_name step_kind
opened = tt

-- %2 the built-in variable, %5 the buffer, a block of the struct %3 with a runtime array of uint; %17 and %19 chains, %18 a load
abbrev words : List ℕ
words =
    0x07230203 ∷ 0x10300 ∷ 0 ∷ 0x16 ∷ 0 ∷ 0x20011 ∷ 1 ∷ 0x3000E ∷ 0 ∷ 1 ∷ 0x6000F ∷ 5 ∷ 1 ∷ 0x6E69616D ∷ 0 ∷ 2 ∷
    0x60010 ∷ 1 ∷ 0x11 ∷ 0x40 ∷ 1 ∷ 1 ∷ 0x40047 ∷ 2 ∷ 0xB ∷ 0x1C ∷ 0x30047 ∷ 3 ∷ 2 ∷ 0x50048 ∷ 3 ∷ 0 ∷ 0x23 ∷ 0 ∷
    0x40047 ∷ 4 ∷ 6 ∷ 4 ∷ 0x40047 ∷ 5 ∷ 0x22 ∷ 0 ∷ 0x40047 ∷ 5 ∷ 0x21 ∷ 0 ∷ 0x20013 ∷ 6 ∷ 0x30021 ∷ 7 ∷ 6 ∷
    0x40015 ∷ 8 ∷ 0x20 ∷ 0 ∷ 0x40017 ∷ 9 ∷ 8 ∷ 3 ∷ 0x40020 ∷ 0xA ∷ 1 ∷ 9 ∷ 0x4003B ∷ 0xA ∷ 2 ∷ 1 ∷ 0x40020 ∷ 0xB ∷ 1 ∷ 8 ∷
    0x3001D ∷ 4 ∷ 8 ∷ 0x3001E ∷ 3 ∷ 4 ∷ 0x40020 ∷ 0xC ∷ 0xC ∷ 3 ∷ 0x4003B ∷ 0xC ∷ 5 ∷ 0xC ∷ 0x40020 ∷ 0xD ∷ 0xC ∷ 8 ∷
    0x4002B ∷ 8 ∷ 0xE ∷ 0 ∷ 0x4002B ∷ 8 ∷ 0xF ∷ 1 ∷ 0x50036 ∷ 6 ∷ 1 ∷ 0 ∷ 7 ∷ 0x200F8 ∷ 0x10 ∷ 0x50041 ∷ 0xB ∷ 0x11 ∷ 2 ∷ 0xE ∷
    0x4003D ∷ 8 ∷ 0x12 ∷ 0x11 ∷ 0x60041 ∷ 0xD ∷ 0x13 ∷ 5 ∷ 0xE ∷ 0x12 ∷ 0x4003D ∷ 8 ∷ 0x14 ∷ 0x13 ∷
    0x50080 ∷ 8 ∷ 0x15 ∷ 0x14 ∷ 0xF ∷ 0x3003E ∷ 0x13 ∷ 0x15 ∷ 0x100FD ∷ 0x10038 ∷ []

abbrev m : ModuleState
m = module_of words

abbrev invocation : Invocation
invocation = record {
  num_workgroups = (1, 1, 1);
  workgroup_id = (0, 0, 0);
  local_invocation_id = (3, 0, 0);
  global_invocation_id = (3, 0, 0);
  local_invocation_index = 3;
  buffer_bytes = λ set binding. 32;
  specialization = λ n. None;
}

abbrev s : Setting
s = setting m 1 [] invocation

-- names by ids, as a letter and a number, and of members
abbrev key : Key → Text
key (Id n) = codes "v" ++ n.0 ∷ []
key (Member n k) = codes "m" ++ k ∷ []
key _ = []

abbrev globals : ℕ → Option Expr
globals n = if n == 2 then Some (name (codes "gl_GlobalInvocationID")) else (if n == 14 then Some (literal (Uint 0)) else (if n == 15 then Some (literal (Uint 1)) else None))

abbrev source : Source
source = record { of = m; entry = 1; overrides = [] }

abbrev names : Names
names = record { id = λ n. key (Id (id n)); block = λ v g. codes "b"; member = λ g k. key (Member (id g) k); calculated = λ g. literal (Uint 0) }

-- what is declared before the functions
abbrev items : List Decl
items = declarations source (record { functions = m.functions; types = 8 ∷ []; mentions = 2 ∷ 5 ∷ 14 ∷ 15 ∷ [] }) names

abbrev p : Program
p = (declared_by invocation [] items).program

abbrev naming : Naming
naming = record {
  name = λ n. key (Id (id n));
  index_name = λ q k. [];
  shape = λ n. uint;
  index_shape = λ q k. uint;
  is_outer = λ n. false;
  is_local = λ n. n == 18;
  is_variable = λ n. false;
  is_lent = λ n. false;
  is_private = λ n. false;
  is_kept = λ q k. false;
  is_outside = λ x. bytes_eq x (codes "gl_GlobalInvocationID") || bytes_eq x (key (Id (id 5)));
  index_in = λ q k path. 0;
  result = None;
}

abbrev f : Function
f = slice_index_or m.functions 0 (record { id = id 0; ty = id 0; result = id 0; at = 0; params = []; blocks = [] })

built_in : IsBuiltIn p naming s source key globals 2 (plain.vector elem.Uint 3) (global 2) []
unfolding opened
built_in = record {
  root = refl;
  whole = refl;
  inst = record { op = code.Variable; at = 63; ty = 10; result = 2; args = 1 ∷ [] };
  there = refl;
  class = refl;
  text = codes "gl_GlobalInvocationID";
  written = refl;
  outside = refl;
  value_is = many (values_in (word 3 ∷ word 0 ∷ word 0 ∷ []));
  has = refl;
  fit = refl;
  thing = refl;
}

block : IsBlock p naming s source key globals 5 (plain.struct 3 (tree (plain.runtime plain.uint) no_trees)) (global 5) []
unfolding opened
block = record {
  root = refl;
  whole = refl;
  inst = record { op = code.Variable; at = 81; ty = 12; result = 5; args = 12 ∷ [] };
  there = refl;
  class = inl refl;
  itself = refl;
  outside = refl;
  type = record { op = code.TypeStruct; at = 74; ty = 0; result = 3; args = 4 ∷ [] };
  type_there = refl;
  parts = tree (plain.runtime plain.uint) no_trees;
  shape = refl;
  typed_as = refl;
  lengths = (tt, tt);
  decorated = refl;
  kind = Std430;
  takes = refl;
  thing = refl;
}

written : place_expr (writing s [] f key globals) 0 19 ≡ Expr.index (Expr.member (name (key (Id (id 5)))) (key (Member (id 3) 0))) (name (key (Id (id 18))))
unfolding opened
written = refl

component : place_expr (writing s [] f key globals) 0 17 ≡ Expr.member (name (codes "gl_GlobalInvocationID")) (codes "x")
unfolding opened
component = refl

-- %18 the load, %19 the chain of an element by it: in its own block, behind and_from
abbrev component_chain : Inst
component_chain = record { op = code.AccessChain; at = 104; ty = 11; result = 17; args = 2 ∷ 14 ∷ [] }

abbrev loaded : Inst
loaded = record { op = code.Load; at = 109; ty = 8; result = 18; args = 17 ∷ [] }

abbrev element_chain : Inst
element_chain = record { op = code.AccessChain; at = 113; ty = 13; result = 19; args = 5 ∷ 14 ∷ 18 ∷ [] }

abbrev first_block : BlockOf
first_block = slice_index_or f.blocks 0 (record { label = id 0; at = 0; insts = [] })

-- order, by a test
none_by : (n : ℕ) (is : List Inst) → list_any (λ (i : Inst). is_chain i.op && (i.result == n)) is ≡ false → NoneMakes n is
none_by n [] e = tt
none_by n (i ∷ is) e = ((λ on same. flipped (sym (and_from (is_chain i.op) (i.result == n) on (number_same i.result n same)) ∙ or_left (is_chain i.op && (i.result == n)) _ e)), none_by n is (or_right (is_chain i.op && (i.result == n)) _ e))
  where
    flipped : true ≡ false → ⊥
    flipped e = cc

abbrev makes : ℕ → List Inst → Bool
makes n is = list_any (λ (i : Inst). is_chain i.op && (i.result == n)) is

abbrev all_rise : List Inst → Bool
all_rise [] = true
all_rise (i ∷ is) = not (is_chain i.op && (makes (base i) (i ∷ is) || makes i.result is)) && all_rise is

rise_by : (is : List Inst) → all_rise is ≡ true → ChainsRise is
rise_by [] e = tt
rise_by (i ∷ is) e =
    let parts = and_parts (not (is_chain i.op && (makes (base i) (i ∷ is) || makes i.result is))) (all_rise is) e in
    ((λ on. let off = or_parts (makes (base i) (i ∷ is)) (makes i.result is) (none (is_chain i.op) _ on parts.0) in (none_by (base i) (i ∷ is) off.0, none_by i.result is off.1)), rise_by is parts.1)
  where
    none : (a b : Bool) → a ≡ true → not (a && b) ≡ true → b ≡ false
    none true true on e = cc
    none true false on e = refl
    none false b on e = cc

one_member : AreMembersApart (struct_names key) 3 (tree (plain.runtime plain.uint) no_trees)
one_member j zero u less at = absurd (none_below j less)
one_member j (suc k) u less at = cc

module _ (calls : Text → List Argument → State → Result (Option Typed × State)) (z : State) where
  starts_there : IsWrittenStart p calls z naming s [] f key globals 0 (element_chain ∷ loaded ∷ component_chain ∷ []) 5
  unfolding opened
  starts_there = record {
    none = none_by 5 (insts_of f) refl;
    type = 3;
    shape = plain.struct 3 (tree (plain.runtime plain.uint) no_trees);
    points_to = refl;
    typed_as = refl;
    members = (one_member, (tt, tt));
    kind = inr (inr (refl, inr (inr (inr block))));
  }

  constant_says : (j : ℕ) → s.constants 14 ≡ Some (word j) → SaysIndex p calls z (literal (Uint 0)) j
  unfolding opened
  constant_says j e = subst (SaysIndex p calls z (literal (Uint 0))) (same_word 0 j e) (typed uint (word 0), refl, refl)

  chain_there : IsWrittenChain p calls z naming s [] f key globals 0 (element_chain ∷ loaded ∷ component_chain ∷ []) element_chain
  unfolding opened
  chain_there = record {
    of_function = inr (inr (inl refl));
    kind = refl;
    stands = 0;
    block = first_block;
    in_block = refl;
    inst = inr (inr (inl refl));
    made = λ on. inl refl;
    own = refl;
    base_shape = λ ty is. (plain.struct 3 (tree (plain.runtime plain.uint) no_trees), ap (type_tree s.of.globals) (sym (same_Some 3 ty is)));
    indexes =
        (record { constant = λ j on e. constant_says j e; literal = λ l j told e. same_count 0 l told ∙ same_word 0 j e; here = λ off on. absurd (flipped off); elsewhere = λ off on. absurd (flipped off) }, (record { constant = λ j on e. absurd (flipped (sym on)); literal = λ l j told e. absurd (none-some l told); here = λ off on. record { itself = refl; own = refl; there = inr (refl, refl); number = tt }; elsewhere = λ off on. absurd (flipped on) }, tt));
  }
    where
      flipped : true ≡ false → ⊥
      flipped e = cc

      same_count : (a b : ℕ) → Some a ≡ Some b → b ≡ a
      same_count a b e = cc

  right_there : (right : AreConstants s) → IsRightChain s f right element_chain
  unfolding opened
  right_there right = record { t6 = refl; typed = (refl, (refl, tt)); result = refl; to = 8; points_to = refl; shape = plain.uint; typed_as = refl }

rises : ChainsRise (insts_of f)
unfolding opened
rises = rise_by (insts_of f) refl
