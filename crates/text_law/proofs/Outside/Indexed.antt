-- The indexes of chains are scalar integers.
use Rattle.std.proofs.Common.{◌≡◌, ◌⊎◌, ◌<◌, ◌==◌, ℕ, Bool, true, false, List, [], ◌∷◌, length, not, Option, Some, None, inl, inr, refl, sym, ap, ◌∙◌, subst, if◌then◌else◌, arith, zero, suc}
use Rattle.std.specs.Prelude.{Contains, drop, option_and_then, slice_get, slice_index}
use Rattle.std.specs.Option.{option_map_or}
use Rattle.std.specs.List.{list_any}
use Rattle.std.proofs.lemmas.Bool.{not-false}
use Rattle.std.proofs.lemmas.Option.{same_Some}
use Rattle.spv_ops.specs.Opcode.{is, number}
use Rattle.spv_ops.specs.Groups.{is_chain}
use Rattle.spv_ops.specs.declared.Op.{Op}
use Rattle.spv_ops.specs.declared.Op.TheVariants as code
use Rattle.spv_module.specs.declared.inst.Inst.{Inst}
use Rattle.spv_module.specs.declared.inst.Function.{Function}
use Rattle.spv_types.specs.Tree as plain
use Rattle.spv_types.specs.Tree.{Tree}
use Rattle.spv_types.specs.declared.kind.TypeKind.TheVariants as kinds
use Rattle.spv_types.specs.Types.{kind, tree_by_kind, tree_before, tree_at, type_tree}
use Rattle.spv_decor.specs.Rows.{word}
use Rattle.spv_index.specs.Locals.{insts_of, type_in}
use Rattle.spv_index.specs.Pointers.{storage_class}
use Rattle.profile_rules.specs.declared.needs.Need.TheVariants.{Value}
use Rattle.profile_rules.specs.Operands.{need, is_there_in}
use Rattle.profile_rules.specs.TypeRows.{fails, value_fails, is_int, is_pointer}
use Rattle.profile_rules.specs.ValueRules.{chain_end, leads_elsewhere}
use Rattle.module_semantics.specs.Setting.{Setting}
use Rattle.list_law.proofs.Lists.{place_of}
use Rattle.plan_law.specs.InOrder.{IsAmong}
use Rattle.type_law.proofs.Vectors.{three_off}
use Rattle.typed_law.specs.Conforms.{IsConforming}
use Rattle.typed_law.proofs.Lists.{or_left, or_right}
use Rattle.typed_law.proofs.Rules.{operand_there, value_right}
use Rattle.typed_law.proofs.Types.{row_is}
use Rattle.typed_law.proofs.Values.{IsRow, shape_of_row, inside, type_row_of, typed_value, int_shaped}
use Rattle.grammar_law.proofs.Unit.Sets.{chain_id}
use Rattle.grammar_law.proofs.Height.Chains.{chain_need}
use Rattle.grammar_law.proofs.Grammar.Tops.{chain_right}

none_fails : (test : ℕ → Bool) (xs : List ℕ) (k x : ℕ) → list_any test xs ≡ false → slice_get xs k ≡ Some x → test x ≡ false
none_fails test [] k x off at = cc
none_fails test (y ∷ xs) zero x off at = subst (λ z. test z ≡ false) (same_Some y x at) (or_left (test y) (list_any test xs) off)
none_fails test (y ∷ xs) (suc k) x off at = none_fails test xs k x (or_right (test y) (list_any test xs) off) at

-- an index is an operand
index_operand : (args : List ℕ) (k x : ℕ) → slice_get (drop 1 args) k ≡ Some x → (suc k < length args) × (slice_index args (suc k) ≡ x)
index_operand [] k x at = cc
index_operand (a ∷ args) k x at = let w = place_of args k x at in let less = w.0 in ((let low : suc k < suc (length args) = omega (arith, less) in low), w.1)

int_kind : (o : Op) → is o code.TypeInt ≡ true → kind o ≡ kinds.Int
unfolding kind number
int_kind code.TypeInt on = refl
int_kind o on = cc

int_tree : (gs : List Inst) (g : Inst) (t : Tree) → is_int g ≡ true → tree_at gs g ≡ Some t → (t ≡ plain.int) ⊎ (t ≡ plain.uint)
int_tree gs g t on e = by_width (slice_index g.args 0 == 32) (slice_index g.args 1 == 0) (slice_index g.args 1 == 1) (ap (tree_by_kind gs (tree_before gs g.at) g) (sym (int_kind g.op on)) ∙ e)
  where
    by_width : (w a b : Bool) → (if w then (if a then Some plain.uint else (if b then Some plain.int else None)) else None) ≡ Some t → (t ≡ plain.int) ⊎ (t ≡ plain.uint)
    by_width true true b e = inr (sym (same_Some plain.uint t e))
    by_width true false true e = inl (sym (same_Some plain.int t e))
    by_width true false false e = cc
    by_width false a b e = cc

module _ (s : Setting) (entry : Option (List ℕ)) (right : IsConforming s.of entry) (f : Function) (in_it : Contains s.of.functions f) (i : Inst) (there : IsAmong i (insts_of f)) (on : is_chain i.op ≡ true) where
  abbrev Gs : List Inst
  Gs = s.of.globals

  abbrev V : ℕ → Option ℕ
  V = type_in s.of.globals f

  ints : list_any (value_fails is_int Gs V) (drop 1 i.args) ≡ false
  ints =
      (three_off (value_fails is_pointer Gs V (word i 0)) (list_any (value_fails is_int Gs V) (drop 1 i.args)) (leads_elsewhere Gs i.ty (option_and_then (storage_class Gs) (V (word i 0))) (chain_end Gs V i)) (chain_right s.of V i i.op on (value_right s.of entry right f in_it i there))).1

  -- The type of an index.
  pub record IsIntId (id : ℕ) : Type 0 where
    pub type : ℕ
    pub typed_as : V id ≡ Some type
    pub shape : Tree
    pub shape_is : type_tree Gs type ≡ Some shape
    pub scalar : (shape ≡ plain.int) ⊎ (shape ≡ plain.uint)

  pub index_int : (k id : ℕ) → slice_get (drop 1 i.args) k ≡ Some id → IsIntId id
  index_int k id at =
      let w = index_operand i.args k id at in
      let here : is_there_in s.of f i.at (need i.op (suc k)) (slice_index i.args (suc k)) ≡ true = operand_there (is_there_in s.of f i.at) i ((inside s entry right f in_it).order.there i there) (suc k) w.0 (chain_id i.op i.args (suc k) on) in
      let found : is_there_in s.of f i.at Value id ≡ true = subst (λ x. is_there_in s.of f i.at Value x ≡ true) w.1 (subst (λ q. is_there_in s.of f i.at q (slice_index i.args (suc k)) ≡ true) (chain_need i.op (suc k) on) here) in
      let typed = typed_value s entry right f in_it i.at id found in
      let row : IsRow s entry right typed.0 = type_row_of s entry right f in_it id typed.0 typed.1 in
      let int : is_int row.0 ≡ true = not-false (is_int row.0) (ap (λ o. option_map_or (λ (g : Inst). not (is_int g)) o false) (sym (row_is s.of entry right typed.0 row.0 row.1 row.2))
      ∙ (ap (λ o. option_map_or (fails is_int Gs) o false) (sym typed.1) ∙ none_fails (value_fails is_int Gs V) (drop 1 i.args) k id ints at)) in
      let t = shape_of_row s entry right typed.0 row (int_shaped row.0.op int) in
      record {
        type = typed.0;
        typed_as = typed.1;
        shape = t.0;
        shape_is = t.1;
        scalar = int_tree Gs row.0 t.0 int (ap (λ o. option_map_or (tree_at Gs) o None) (sym row.1) ∙ t.1);
      }
