-- What the statements of a block take for known is so, in the text of a conforming module.
use Rattle.std.proofs.Common.{◌≡◌, ◌==◌, ℕ, Bool, true, false, List, Contains, Option, Some, None, inl, inr, refl, sym, ap, ◌∙◌}
use Rattle.std.specs.Prelude.{◌⊎◌, slice_get, slice_index_or}
use Rattle.std.specs.Option.{option_map_or}
use Rattle.std.specs.List.{list_any}
use Rattle.spv_ops.specs.Opcode.{is, number}
use Rattle.spv_ops.specs.OpGroups.{group_of}
use Rattle.spv_ops.specs.Groups.{is_chain}
use Rattle.spv_ops.specs.declared.Op.{Op}
use Rattle.spv_ops.specs.declared.Op.TheVariants as code
use Rattle.spv_ops.specs.declared.OpGroup.TheVariants as groups
use Rattle.spv_module.specs.Held.{global}
use Rattle.spv_module.specs.Lists.{id}
use Rattle.spv_module.specs.declared.inst.Inst.{Inst}
use Rattle.spv_module.specs.declared.inst.Block.{Block}
use Rattle.spv_module.specs.declared.inst.Function.{Function}
use Rattle.spv_module.specs.declared.tree.Elem.TheVariants as elem
use Rattle.spv_module.specs.declared.tree.Length.{Length}
use Rattle.spv_types.specs.Tree.{Tree, uint, vector}
use Rattle.spv_types.specs.Types.{tree_at, type_tree}
use Rattle.spv_index.specs.Locals.{insts_of}
use Rattle.spv_index.specs.Pointers.{pointee_of}
use Rattle.profile_rules.specs.Entry.{is_size_composite}
use Rattle.conformance.specs.Rules.{Options}
use Rattle.module_semantics.specs.Setting.{Setting}
use Rattle.name_alloc.specs.declared.claims.Key.TheVariants.{Id}
use Rattle.name_alloc.specs.Naming.{name_of}
use Rattle.glsl_ast.specs.Tree.{Expr, TranslationUnit}
use Rattle.glsl_grammar.specs.Read.{is_declared}
use Rattle.glsl_grammar.specs.Spelled.{FitsWord}
use Rattle.access_paths.specs.Ways.{indexes}
use Rattle.text_rules.specs.Constants.{size_ids, is_constant, reading, plain_value, constant_expr}
use Rattle.text_rules.specs.declared.readings.Reading.TheVariants.{Named}
use Rattle.text_rules.specs.Printed.{is_written_struct}
use Rattle.text_rules.specs.Declarations.{length_extent, word_of}
use Rattle.expr_forward.specs.Kinds.{kind_of}
use Rattle.expr_forward.specs.Scope.{Scope}
use Rattle.expr_forward.specs.Statements.{callee_text}
use Rattle.function_text.specs.Functions.{FunctionPlan}
use Rattle.unit_rules.specs.Translation.{id_text}
use Rattle.unit_rules.specs.Unit.{source_of, IsUnitOf}
use Rattle.list_law.proofs.Tests.{clash}
use Rattle.claim_law.specs.Uses.{Words, UsesExpr, UsesExtent}
use Rattle.typed_law.specs.Conforms.{IsConforming}
use Rattle.typed_law.proofs.Calls.{variable_typed}
use Rattle.claim_law.specs.Claimed.{IsIn, HasName}
use Rattle.claim_law.proofs.Claim.Listed.{in_flat, at_place}
use Rattle.grammar_law.specs.Mentioned.{IsMentioned, IsCaptured}
use Rattle.grammar_law.specs.Words.{words_of, AreOfStructs}
use Rattle.grammar_law.specs.Types.{IsLengthOf}
use Rattle.grammar_law.proofs.Unit.Lists.{as_in, as_among}
use Rattle.grammar_law.proofs.Unit.Shaped.{pointer_none}
use Rattle.grammar_law.proofs.Unit.Ways.{HaveKinds, F, R, V, in_module}
use Rattle.grammar_law.proofs.Unit.Structs.{Written}
use Rattle.grammar_law.proofs.Unit.Sets.{chain_group, chain_typed}
use Rattle.grammar_law.proofs.Unit.Ruled.{pointer_way}
use Rattle.grammar_law.proofs.Unit.ArgWords.{IsOfWords}
use Rattle.grammar_law.proofs.Unit.ResultShapes.{stands_inside, IsShaped}
use Rattle.grammar_law.proofs.Unit.ResultTypes.{Gives, of_shape, of_pointer, of_call, gives, own_row, chain_pointer, variable_pointer}
use Rattle.grammar_law.proofs.Meets.GlobalReads.{mention_listed, captured_listed, read_uses, index_written}
use Rattle.grammar_law.proofs.Meets.OperandNames.{operand_names}
use Rattle.grammar_law.proofs.Unit.DeclaredConstants.{declared_or_plain}
use Rattle.grammar_law.proofs.Meets.CallMeets.{call_asks}
use Rattle.grammar_law.proofs.Meets.ArrayLengths.{length_asks}
use Rattle.grammar_law.proofs.Meets.PointerRoots.{pointer_root}
use Rattle.grammar_law.proofs.Meets.PlaceMeets.{Way}
use Rattle.grammar_law.proofs.Meets.BlocksMade.{is_shaped_kind, kind_typed, AreKnown}

chain_kind : (o : Op) → group_of o ≡ groups.Chain → is_shaped_kind (kind_of o) ≡ false
unfolding group_of kind_of
chain_kind code.AccessChain e = refl
chain_kind o e = cc

variable_kind : (o : Op) → group_of o ≡ groups.Variable → is_shaped_kind (kind_of o) ≡ false
unfolding group_of kind_of
variable_kind code.Variable e = refl
variable_kind o e = cc

call_kind : (o : Op) → group_of o ≡ groups.Call → is_shaped_kind (kind_of o) ≡ false
unfolding group_of kind_of
call_kind code.FunctionCall e = refl
call_kind o e = cc

variable_group : (o : Op) → is o code.Variable ≡ true → group_of o ≡ groups.Variable
unfolding group_of number
variable_group code.Variable on = refl
variable_group o on = cc

module _ (s : Setting) (entry : Option (List ℕ)) (right : IsConforming s.of entry) (kinds : HaveKinds s.of.globals) (o : Options) (unit : TranslationUnit) (u : IsUnitOf s.of o unit) (p : FunctionPlan) (among : IsIn p u.plans) (names : List (List ℕ)) (structs : AreOfStructs s.of.globals (name_of u.claimed) names)
    (words : (i : Inst) → IsIn i (insts_of (F s entry right kinds o unit u p among)) → IsOfWords i)
    (inner : (i : Inst) → IsIn i (insts_of (F s entry right kinds o unit u p among)) → stands_inside (group_of i.op) ≡ true)
    (first : (c : ℕ) (b : Block) (i : Inst) → slice_get (F s entry right kinds o unit u p among).blocks c ≡ Some b → IsIn i b.insts → is i.op code.Variable ≡ true → slice_index_or (R s entry right kinds o unit u p among) c false ≡ true)
    (declared : (g : Inst) → IsIn g s.of.globals → is_written_struct (source_of s.of o u.entry) (Written s.of o unit u) g ≡ true → is_declared names (id_text (name_of u.claimed) g.result) ≡ true)
    (lengths : (l : Length) → IsLengthOf s.of.globals l → UsesExtent (words_of s.of.globals (name_of u.claimed) names) (length_extent (source_of s.of o u.entry) (id_text (name_of u.claimed)) l))
    (plain : (g : Inst) → IsIn g s.of.globals → FitsWord (word_of (plain_value (source_of s.of o u.entry) g)))
    (constant_uses : (g : Inst) → IsIn g s.of.globals → is_constant g ≡ true → (reading (source_of s.of o u.entry) g ≡ Named → HasName (name_of u.claimed) (Id (id g.result))) → UsesExpr (words_of s.of.globals (name_of u.claimed) names) (constant_expr (source_of s.of o u.entry) (id_text (name_of u.claimed)) g))
    (callees : (i : Inst) → IsIn i (insts_of (F s entry right kinds o unit u p among)) → is i.op code.FunctionCall ≡ true → (words_of s.of.globals (name_of u.claimed) names).value (callee_text (V s entry right kinds o unit u p among) i))
    (whole : (g : Inst) → IsIn g s.of.globals → is_size_composite s.of.heads g ≡ true → type_tree s.of.globals g.ty ≡ Some (vector elem.Uint 3))
    (part : (n : ℕ) (g : Inst) → list_any (λ (k : ℕ). k == n) (size_ids (source_of s.of o u.entry)) ≡ true → global s.of.globals n ≡ Some g → type_tree s.of.globals g.ty ≡ Some uint) where
  abbrev Gs : List Inst
  Gs = s.of.globals

  abbrev Fn : Function
  Fn = F s entry right kinds o unit u p among

  abbrev Marks : List Bool
  Marks = R s entry right kinds o unit u p among

  abbrev Where : Scope
  Where = V s entry right kinds o unit u p among

  abbrev W : Words
  W = words_of s.of.globals (name_of u.claimed) names

  in_it : Contains s.of.functions Fn
  in_it = in_module s entry right kinds o unit u p among

  -- what an index of a chain is read as
  index_reads : (i : Inst) → is_chain i.op ≡ true → (n : ℕ) → IsIn n (indexes i) → (c : ℕ) → IsMentioned Fn Marks c i n ⊎ IsCaptured Where Marks c i → (e : Expr) → Where.setting.global n ≡ Some e → UsesExpr W e
  index_reads i on n n_in c (inl m) e is_it = read_uses s entry right kinds o unit u p among names structs constant_uses n (mention_listed s entry right kinds o unit u p among names structs c n i m) e is_it
  index_reads i on n n_in c (inr d) e is_it = read_uses s entry right kinds o unit u p among names structs constant_uses n (captured_listed s entry right kinds o unit u p among names structs c n i d n_in) e is_it

  -- what has a value gives one
  given_shape : (i : Inst) → is_shaped_kind (kind_of i.op) ≡ true → Gives s entry right kinds Fn in_it (λ j there. inner j (as_in (insts_of Fn) j there)) i → IsShaped s entry right i.ty
  given_shape i on (of_shape v) = v
  given_shape i on (of_pointer w pointer (inl chain)) = clash (sym on ∙ chain_kind i.op chain)
  given_shape i on (of_pointer w pointer (inr variable)) = clash (sym on ∙ variable_kind i.op variable)
  given_shape i on (of_call w void call) = clash (sym on ∙ call_kind i.op call)

  -- what gives a pointer gives no value
  no_value : (i : Inst) → IsIn i (insts_of Fn) → (is_chain i.op ≡ true) ⊎ (is i.op code.Variable ≡ true) → (v : Tree) → type_tree Gs i.ty ≡ Some v → ⊥
  no_value i there (inl chain) v shaped =
      let w = own_row s entry right kinds Fn in_it (λ j j_in. inner j (as_in (insts_of Fn) j j_in)) i (as_among (insts_of Fn) i there) (chain_typed i.op chain) in
      pointer_none Gs w.0 v (chain_pointer s entry right kinds Fn in_it (λ j j_in. inner j (as_in (insts_of Fn) j j_in)) i (as_among (insts_of Fn) i there) (chain_typed i.op chain) (chain_group i.op chain)) (ap (λ x. option_map_or (tree_at Gs) x None) (sym w.1) ∙ shaped)
  no_value i there (inr variable) v shaped =
      let w = own_row s entry right kinds Fn in_it (λ j j_in. inner j (as_in (insts_of Fn) j j_in)) i (as_among (insts_of Fn) i there) (variable_typed i.op variable) in
      pointer_none Gs w.0 v (variable_pointer s entry right kinds Fn in_it (λ j j_in. inner j (as_in (insts_of Fn) j j_in)) i (as_among (insts_of Fn) i there) (variable_typed i.op variable) (variable_group i.op variable)) (ap (λ x. option_map_or (tree_at Gs) x None) (sym w.1) ∙ shaped)

  abbrev Pointers : Type 0
  Pointers = (b n : ℕ) (i : Inst) → IsMentioned Fn Marks b i n → is i.op code.Phi ≡ false → (ty : ℕ) (t : Tree) → pointee_of Gs Fn n ≡ Some ty → type_tree Gs ty ≡ Some t → Way s entry right kinds o unit u p among names structs b n

  pointers : Pointers
  pointers = pointer_way s entry right kinds o unit u p among names structs index_reads (λ n ty t none c i m points shaped. pointer_root s entry right kinds o unit u p among names structs inner first n ty t none c i m shaped points)

  -- the law: what blocks take for known
  pub known : AreKnown s entry right kinds o unit u p among names structs
  known = record {
    words = words;
    inner = inner;
    shapes = λ i there on. given_shape i on (gives s entry right kinds Fn in_it (λ j j_in. inner j (as_in (insts_of Fn) j j_in)) i (as_among (insts_of Fn) i there) (kind_typed i.op on));
    declared = declared;
    lengths = lengths;
    plain = plain;
    pointer = pointers;
    reads = λ b n i m e is_it. read_uses s entry right kinds o unit u p among names structs constant_uses n (mention_listed s entry right kinds o unit u p among names structs b n i m) e is_it;
    no_pointer = no_value;
    index = index_written s entry right kinds o unit u p among names structs constant_uses;
    of_values = operand_names s entry right kinds o unit u p among names structs declared lengths
        (λ n g n_in found constant v shaped. declared_or_plain s.of o unit u whole part n g n_in found constant v shaped)
        (λ b n i m. mention_listed s entry right kinds o unit u p among names structs b n i m);
    call = λ b i r on. call_asks s entry right kinds o unit u p among names structs b i r on pointers declared lengths (callees i (in_flat (λ (c : Block). c.insts) Fn.blocks r.holder i (at_place Fn.blocks b r.holder r.there) r.within) on);
    length = λ b i r on. length_asks s entry right kinds o unit u p among names structs b i r on pointers;
  }
