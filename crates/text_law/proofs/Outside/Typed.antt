-- The types that an accepted module's text names have shapes, and their structs are declared in it.
use Rattle.std.proofs.Common.{◌≡◌, ◌&&◌, ◌||◌, ℕ, true, false, List, not, Option, Some, None, refl, sym, ap, ◌∙◌, subst}
use Rattle.std.specs.Prelude.{Contains, drop, unwrap_or}
use Rattle.std.specs.Option.{option_map_or}
use Rattle.std.specs.List.{list_any}
use Rattle.spv_ops.specs.Opcode.{is}
use Rattle.spv_ops.specs.declared.Op.TheVariants as code
use Rattle.spv_module.specs.State.{ModuleState}
use Rattle.spv_module.specs.declared.inst.Inst.{Inst}
use Rattle.spv_module.specs.declared.inst.Function.{Function}
use Rattle.spv_types.specs.Tree.{Tree}
use Rattle.spv_types.specs.Types.{earlier, type_tree}
use Rattle.spv_decor.specs.Rows.{word}
use Rattle.spv_index.specs.Pointers.{pointee}
use Rattle.spv_index.specs.ValueTypes.{is_no_value_type}
use Rattle.conformance.specs.Rules.{Options}
use Rattle.module_check.specs.Judged.{IsFine}
use Rattle.module_check.specs.ReadFrom.{IsReadFrom}
use Rattle.profile_rules.specs.declared.needs.Need.TheVariants.{AnyType}
use Rattle.profile_rules.specs.Operands.{suits, is_there}
use Rattle.profile_rules.specs.Places.{is_among}
use Rattle.profile_rules.specs.TypeForm.{block_misuses, is_other_parameter, is_other_result, is_other_function, is_other_pointer}
use Rattle.traces.specs.Invocations.{Invocation, IsInvocation}
use Rattle.module_semantics.specs.Setting.{Setting}
use Rattle.name_alloc.specs.declared.claims.Key.{Key}
use Rattle.glsl_ast.specs.Tree.{Text, Decl, TranslationUnit}
use Rattle.glsl_semantics.specs.Expressions.{Program}
use Rattle.text_rules.specs.Constants.{Source}
use Rattle.text_rules.specs.Printed.{Reached, has_struct, written_types}
use Rattle.expr_forward.specs.Statements.{is_void_in}
use Rattle.function_text.specs.Functions.{FunctionPlan, written}
use Rattle.unit_rules.specs.Unit.{source_of, IsUnitOf}
use Rattle.typed_law.specs.Conforms.{IsConforming}
use Rattle.typed_law.proofs.Lists.{or_left, or_right, and_off, some_by, earlier_some}
use Rattle.typed_law.proofs.Rules.{operand_there, global_there, pointed_type}
use Rattle.typed_law.proofs.Values.{IsRow, result_row, declared_by, one_type, function_id, function_need, function_least, value_type_has}
use Rattle.accepted_law.proofs.Accepted.{accepted_conforming}
use Rattle.global_law.specs.Names.{IsDeclared}
use Rattle.global_law.specs.Items.{AreAsked}
use Rattle.global_law.proofs.Constant.Constants.{AreFunctions}
use Rattle.global_law.proofs.Constant.Types.{type_declared}
use Rattle.global_law.proofs.Constant.Within.{misused_within, value_within}
use Rattle.global_law.proofs.Constant.Written.{no_pointee}
use Rattle.claim_law.specs.Claimed.{IsIn}
use Rattle.grammar_law.proofs.Unit.TypesWritten.{return_type_written}
use Rattle.text_law.specs.Types.{HasTypesOfText}
use Rattle.text_law.proofs.Naming.Keys.{S, found as names_found, key as key_of, R}
use Rattle.text_law.specs.Left.{IsLeftOfGlobals}
use Rattle.text_law.proofs.Outside.Text.{fs as function_items, are_functions, asked as asked_of, P as program_in}
use Rattle.text_law.proofs.Outside.Locals.{in_module, held_in, typed_parameter}

self_same : (a : Option ℕ) (ty : ℕ) → unwrap_or a ty ≡ option_map_or (λ k. k) a ty
self_same None ty = refl
self_same (Some q) ty = refl

module _ (s : Setting) (entry : Option (List ℕ)) (right : IsConforming s.of entry) (f : Function) (in_it : Contains s.of.functions f) where
  abbrev Gs : List Inst
  Gs = s.of.globals

  -- P19: the result of a function is void or of a value type
  result_right : is_other_result s.of.heads Gs f.result.0 ≡ false
  result_right =
      let d = declared_by s entry right f in_it in
      let less = function_least d.0.op _ d.1.on (right.formed d.0 d.1.there).least in
      let has = operand_there (is_there Gs d.0.at) d.0 (global_there s.of entry right d.0 d.1.there) 0 less (function_id d.0.op d.0.args 0 d.1.on) in
      let h = some_by (suits AnyType) (earlier Gs d.0.at (word d.0 0)) (subst (λ q. is_there Gs d.0.at q (word d.0 0) ≡ true) (function_need d.0.op 0 d.1.on) has) in
      let row : IsRow s entry right (word d.0 0) = (h.0, (earlier_some Gs d.0.at (word d.0 0) h.0 h.1).0, h.2) in
      let same = one_type s entry right f in_it (word d.0 0) f.result.0 row (result_row s entry right f in_it) d.1.result in
      let told = and_off (is d.0.op code.TypeFunction) (is_other_result s.of.heads Gs (word d.0 0) || list_any (is_other_parameter s.of.heads Gs) (drop 1 d.0.args)) (or_right (is_other_pointer Gs d.0) (is_other_function s.of.heads Gs d.0) (pointed_type s.of entry right d.0 d.1.there)) d.1.on in
      subst (λ x. is_other_result s.of.heads Gs x ≡ false) same (or_left (is_other_result s.of.heads Gs (word d.0 0)) (list_any (is_other_parameter s.of.heads Gs) (drop 1 d.0.args)) told)

  value_result : is_void_in Gs f.result.0 ≡ false → is_no_value_type s.of.heads Gs f.result.0 ≡ false
  value_result off =
      let row = result_row s entry right f in_it in
      let no_void : is row.0.op code.TypeVoid ≡ false = ap (λ a. option_map_or (λ (g : Inst). is g.op code.TypeVoid) a false) (sym row.1) ∙ off in
      and_off (not (is row.0.op code.TypeVoid)) (is_no_value_type s.of.heads Gs f.result.0)
      (ap (λ a. option_map_or (λ (g : Inst). not (is g.op code.TypeVoid) && is_no_value_type s.of.heads Gs f.result.0) a false) (sym row.1) ∙ result_right) (ap not no_void)

module _ (bytes : List ℕ) (m : ModuleState) (o : Options) (read : IsReadFrom bytes m) (fine : IsFine m o) (unit : TranslationUnit) (u : IsUnitOf m o unit) (inv : Invocation) (told : IsInvocation inv) (left : IsLeftOfGlobals bytes m o) (p : FunctionPlan) (planned : IsIn p u.plans) where
  abbrev s : Setting
  s = S m o unit u inv

  abbrev found : Key → Option Text
  found = names_found m o unit u inv

  abbrev key : Key → Text
  key = key_of m o unit u inv

  abbrev r : Reached
  r = R m o unit u inv

  abbrev src : Source
  src = source_of m o u.entry

  abbrev Gs' : List Inst
  Gs' = m.globals

  abbrev f' : Function
  f' = written p

  abbrev fs : List Decl
  fs = function_items bytes m o read fine unit u inv told left

  abbrev asked : AreAsked s o.entry o.overrides found r
  asked = asked_of bytes m o read fine unit u inv told left

  abbrev P : Program
  P = program_in bytes m o read fine unit u inv told left

  functions : AreFunctions fs
  functions = are_functions bytes m o read fine unit u inv told left

  abbrev right : IsConforming m o.entry
  right = accepted_conforming bytes m o read fine

  in_it' : Contains m.functions f'
  in_it' = in_module bytes m o read fine unit u inv told left p planned

  -- A type that is used where a block may not be is declared, where it is written or has no struct.
  pub value_declared : (ty : ℕ) (t : Tree) → type_tree Gs' ty ≡ Some t → is_among (block_misuses m) ty ≡ true → ((j : ℕ) → has_struct j t ≡ true → IsIn ty (written_types src r)) → IsDeclared P s src key t
  value_declared ty t shape misused listed =
      let w = misused_within m o.entry right ty t misused shape in
      type_declared s o.entry o.overrides found r asked fs functions w.0 t w.1
      (λ j has. held_in bytes m o read fine unit u inv told left p planned ty ty t (listed j has) (ap (λ a. option_map_or (λ k. k) a ty) (no_pointee Gs' ty t shape)) shape j has)

  -- So are the types of the parameters of a function, and of its result.
  pub types_of_text : HasTypesOfText P s o.overrides key f'
  types_of_text = record {
    parameters = λ q there.
        let w = typed_parameter bytes m o read fine unit u inv told left p planned q there in
        record {
          shape = w.shape;
          is = ap (type_tree Gs') (self_same (pointee Gs' q.1.0) q.1.0 ∙ w.self) ∙ w.typed_as;
          sized = w.sized;
          declared = type_declared s o.entry o.overrides found r asked fs functions w.word_at w.shape w.within w.held;
        };
    result = λ off.
        let value = value_result s o.entry right f' in_it' off in
        let t = value_type_has s o.entry right f'.result.0 (result_row s o.entry right f' in_it') value in
        let w = value_within m o.entry right f'.result.0 t.0 value t.1 in
        record {
          shape = t.0;
          is = t.1;
          sized = t.2;
          declared = type_declared s o.entry o.overrides found r asked fs functions w.0 t.0 w.1
              (λ j has.
              held_in bytes m o read fine unit u inv told left p planned f'.result.0 f'.result.0 t.0 (return_type_written m o unit u p planned) (ap (λ a. option_map_or (λ k. k) a f'.result.0) (no_pointee Gs' f'.result.0 t.0 t.1)) t.1 j has);
        };
  }
