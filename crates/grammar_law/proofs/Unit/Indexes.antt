-- The indexes of a conforming module's chains have shapes, and are no structs; no value of a function is.
use Rattle.std.proofs.Common.{◌≡◌, ℕ, Bool, true, false, List, [], ◌∷◌, drop, Option, Some, None, Contains, unwrap_or, inl, inr, refl, sym, ap, ◌∙◌, subst, if◌then◌else◌}
use Rattle.std.specs.Prelude.{option_and_then}
use Rattle.std.specs.Option.{option_map_or, option_or}
use Rattle.std.specs.List.{list_any}
use Rattle.spv_ops.specs.Opcode.{is, number}
use Rattle.spv_ops.specs.Shape.{shape}
use Rattle.spv_ops.specs.declared.Op.{Op}
use Rattle.spv_ops.specs.declared.Op.TheVariants as code
use Rattle.spv_module.specs.Held.{global}
use Rattle.spv_module.specs.Inst.{has_type}
use Rattle.spv_module.specs.Lists.{id}
use Rattle.spv_module.specs.declared.inst.Inst.{Inst}
use Rattle.spv_module.specs.declared.inst.Function.{Function}
use Rattle.spv_types.specs.Tree.{Tree}
use Rattle.spv_types.specs.Types.{type_tree}
use Rattle.spv_decor.specs.Rows.{word}
use Rattle.spv_index.specs.Locals.{typed, global_type, local_type, type_in}
use Rattle.spv_index.specs.Pointers.{storage_class}
use Rattle.profile_rules.specs.TypeRows.{is_pointer, is_int, value_fails}
use Rattle.profile_rules.specs.ValueRules.{chain_end, leads_elsewhere}
use Rattle.conformance.specs.Rules.{Options}
use Rattle.module_semantics.specs.Setting.{Setting}
use Rattle.name_alloc.specs.declared.claims.Key.TheVariants.{Id}
use Rattle.name_alloc.specs.Naming.{name_of}
use Rattle.glsl_ast.specs.Tree.{Expr, TranslationUnit}
use Rattle.access_paths.specs.Ways.{indexes}
use Rattle.expr_forward.specs.Scope.{Scope, type_of}
use Rattle.function_text.specs.Functions.{FunctionPlan}
use Rattle.unit_rules.specs.Unit.{IsUnitOf}
use Rattle.list_law.proofs.Numbers.{number_same}
use Rattle.type_law.proofs.Vectors.{three_off}
use Rattle.type_law.proofs.Chains.{HaveTypes}
use Rattle.claim_law.specs.Uses.{Words, UsesExpr}
use Rattle.typed_law.specs.Conforms.{IsConforming}
use Rattle.typed_law.proofs.Lists.{or_left, or_right, some_of}
use Rattle.typed_law.proofs.Values.{passing, int_shaped}
use Rattle.claim_law.specs.Claimed.{IsIn}
use Rattle.claim_law.proofs.Claim.Constants.{found_in}
use Rattle.grammar_law.specs.Words.{is_struct_key, words_of, AreOfStructs}
use Rattle.grammar_law.proofs.Unit.Lists.{as_among}
use Rattle.grammar_law.proofs.Unit.Ways.{HaveKinds, F, V, in_module, local_outside}
use Rattle.grammar_law.proofs.Unit.Kept.{shaped_type}
use Rattle.grammar_law.proofs.Unit.Places.{IsRuled, IsReadable}

struct_untyped : (o : Op) → is o code.TypeStruct ≡ true → has_type o ≡ false
unfolding shape number
struct_untyped code.TypeStruct on = refl
struct_untyped o on = cc

module _ (s : Setting) (entry : Option (List ℕ)) (right : IsConforming s.of entry) (kinds : HaveKinds s.of.globals) (o : Options) (unit : TranslationUnit) (u : IsUnitOf s.of o unit) (p : FunctionPlan) (among : IsIn p u.plans) (names : List (List ℕ)) (structs : AreOfStructs s.of.globals (name_of u.claimed) names) where
  abbrev Gs : List Inst
  Gs = s.of.globals

  abbrev Fn : Function
  Fn = F s entry right kinds o unit u p among

  abbrev T : ℕ → Option ℕ
  T = type_in s.of.globals Fn

  abbrev Where : Scope
  Where = V s entry right kinds o unit u p among

  abbrev W : Words
  W = words_of s.of.globals (name_of u.claimed) names

  in_it : Contains s.of.functions Fn
  in_it = in_module s entry right kinds o unit u p among

  -- a value is no struct
  pub value_other : (n ty : ℕ) → T n ≡ Some ty → is_struct_key Gs (Id (id n)) ≡ false
  value_other n ty told = by_global (global Gs n) refl
    where
      never : (g : Inst) → Some g ≡ None → ⊥
      never g e = cc

      untyped : (g : Inst) → global Gs n ≡ Some g → is g.op code.TypeStruct ≡ true → typed g ≡ None
      untyped g at on =
          let lacks : g.ty ≡ 0 = (right.formed g (as_among Gs g (found_in Gs n g at).0)).untyped (struct_untyped g.op on) in
          ap (λ (b : Bool). if b then None else Some g.ty) (number_same g.ty 0 lacks)

      by_test : (g : Inst) → global Gs n ≡ Some g → (b : Bool) → is g.op code.TypeStruct ≡ b → b ≡ false
      by_test g at false off = refl
      by_test g at true on =
          let none : global_type Gs n ≡ None = ap (option_and_then typed) at ∙ untyped g at on in
          absurd (never g (sym at ∙ local_outside s entry right kinds o unit u p among n ty (ap (λ (x : Option ℕ). option_or x (local_type Fn n)) (sym none) ∙ told)))

      by_global : (q : Option Inst) → global Gs n ≡ q → option_map_or (λ (g : Inst). is g.op code.TypeStruct) q false ≡ false
      by_global None at = refl
      by_global (Some g) at = by_test g at (is g.op code.TypeStruct) refl

  -- T6: each index is an int
  abbrev pub IsInt : ℕ → Type 0
  IsInt n = (t : Tree) × (type_tree s.of.globals (type_of Where n) ≡ Some t) × (is_struct_key s.of.globals (Id (id n)) ≡ false)

  ints : (ids : List ℕ) → HaveTypes s Fn ids → list_any (value_fails is_int Gs T) ids ≡ false → (n : ℕ) → IsIn n ids → IsInt n
  ints [] have off n there = absurd there
  ints (x ∷ ids) have off n (inr there) = ints ids have.1 (or_right (value_fails is_int Gs T x) (list_any (value_fails is_int Gs T) ids) off) n there
  ints (x ∷ ids) have off n (inl same) =
      let typed_as = some_of (T x) have.0 in
      let t = passing s entry right Fn in_it is_int (λ g on. int_shaped g.op on) x typed_as (or_left (value_fails is_int Gs T x) (list_any (value_fails is_int Gs T) ids) off) in (
        t.0,
        subst (λ (k : ℕ). type_tree Gs (unwrap_or (T k) 0) ≡ Some t.0) same (shaped_type (type_tree Gs) (T x) t.0 t.1),
        subst (λ (k : ℕ). is_struct_key Gs (Id (id k)) ≡ false) same (value_other x typed_as.0 typed_as.1),
      )

  pub index_int : (i : Inst) → IsRuled s entry right kinds o unit u p among names structs i → (n : ℕ) → IsIn n (indexes i) → IsInt n
  index_int i ruled n there =
      let off = three_off (value_fails is_pointer Gs T (word i 0)) (list_any (value_fails is_int Gs T) (drop 1 i.args)) (leads_elsewhere Gs i.ty (option_and_then (storage_class Gs) (T (word i 0))) (chain_end Gs T i)) ruled.sound in
      ints (indexes i) ruled.typed off.1 n there

  pub index_readable : (i : Inst) → IsRuled s entry right kinds o unit u p among names structs i → (n : ℕ) → IsIn n (indexes i) → ((e : Expr) → Where.setting.global n ≡ Some e → UsesExpr W e) → IsReadable s entry right kinds o unit u p among names structs n
  index_readable i ruled n there read = let w = index_int i ruled n there in record { shape = w.0; shaped = w.1; other = w.2; read = read }
