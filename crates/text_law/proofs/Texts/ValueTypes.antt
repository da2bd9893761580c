-- The types of what stands in the functions of an accepted module's text are declared: those of scalars and vectors, of live results, of composites that are declared at the top, and of parameters.
use Rattle.std.proofs.Common.{◌≡◌, ℕ, true, false, List, Option, Some, ap}
use Rattle.std.specs.Option.{option_map_or}
use Rattle.std.specs.Prelude.{Contains, slice_index_or}
use Rattle.spv_module.specs.State.{ModuleState}
use Rattle.spv_module.specs.declared.inst.Id.{Id as IdOf}
use Rattle.spv_module.specs.declared.inst.Inst.{Inst}
use Rattle.spv_module.specs.declared.inst.Function.{Function}
use Rattle.spv_types.specs.Tree as plain
use Rattle.spv_types.specs.Tree.{Tree}
use Rattle.spv_types.specs.Types.{type_tree}
use Rattle.spv_types.specs.Leaves.{IsSized}
use Rattle.spv_decor.specs.Decorations.{local_insts}
use Rattle.spv_index.specs.Locals.{insts_of}
use Rattle.conformance.specs.Rules.{Options}
use Rattle.profile_rules.specs.Places.{is_variable, body_insts}
use Rattle.module_check.specs.Judged.{IsFine}
use Rattle.module_check.specs.ReadFrom.{IsReadFrom}
use Rattle.traces.specs.Invocations.{Invocation, IsInvocation}
use Rattle.module_semantics.specs.Setting.{Setting}
use Rattle.name_alloc.specs.declared.claims.Key.{Key}
use Rattle.glsl_ast.specs.Tree.{Text, Decl, TranslationUnit}
use Rattle.glsl_semantics.specs.Expressions.{Program}
use Rattle.text_rules.specs.Constants.{Source}
use Rattle.text_rules.specs.Printed.{Reached, has_struct, written_types}
use Rattle.hoist_plan.specs.declared.form.Form.TheVariants.{Hoisted}
use Rattle.function_text.specs.Functions.{FunctionPlan, written}
use Rattle.function_text.specs.Live.{is_composite}
use Rattle.function_plan.specs.Phis.{is_gone}
use Rattle.unit_rules.specs.Unit.{claims_by, liveness_of, source_of, IsUnitOf}
use Rattle.plan_law.specs.InOrder.{IsAmong}
use Rattle.plan_law.proofs.Order.{among_right as body_right}
use Rattle.typed_law.specs.Conforms.{IsConforming, IsParameter}
use Rattle.typed_law.proofs.Values.{among_functions, value_sized, own_type, shaped_some}
use Rattle.accepted_law.proofs.Accepted.{accepted_conforming}
use Rattle.lowering_law.specs.Arguments.{IsBasic}
use Rattle.global_law.specs.Parts.{HasMembersApart}
use Rattle.global_law.specs.Walks.{struct_names}
use Rattle.global_law.proofs.Global.Zeros.{HasZero}
use Rattle.global_law.specs.Items.{AreAsked}
use Rattle.global_law.specs.Within.{IsWithin, IsNoBlock}
use Rattle.global_law.proofs.Constant.Constants.{AreFunctions}
use Rattle.global_law.proofs.Constant.Types.{zero_declared}
use Rattle.global_law.proofs.Constant.Within.{any_within, value_misused, misused_within}
use Rattle.global_law.proofs.Constant.Written.{IsHeld, no_pointee}
use Rattle.item_law.proofs.Named.{members_apart}
use Rattle.claim_law.specs.Claimed.{IsIn, IsOf}
use Rattle.claim_law.proofs.Claim.Named.{Plans}
use Rattle.grammar_law.proofs.Unit.Lists.{as_among}
use Rattle.grammar_law.proofs.Unit.TypesWritten.{live_type_written, top_type_written}
use Rattle.text_law.proofs.Naming.Keys.{S, found as names_found, key as key_of, R}
use Rattle.text_law.specs.Left.{IsLeftOfGlobals}
use Rattle.text_law.proofs.Outside.Asked.{claimed}
use Rattle.text_law.proofs.Outside.Locals.{in_module, held_in, typed_parameter}
use Rattle.text_law.proofs.Outside.Text.{fs as function_items, are_functions, asked as asked_of, P as program_in}

module _ (bytes : List ℕ) (m : ModuleState) (o : Options) (read : IsReadFrom bytes m) (fine : IsFine m o) (unit : TranslationUnit) (u : IsUnitOf m o unit) (inv : Invocation) (told : IsInvocation inv) (left : IsLeftOfGlobals bytes m o) (p : FunctionPlan) (planned : IsIn p u.plans) where
  abbrev s : Setting
  s = S m o unit u inv

  abbrev found : Key → Option Text
  found = names_found m o unit u inv

  abbrev key : Key → Text
  key = key_of m o unit u inv

  abbrev r : Reached
  r = R m o unit u inv

  abbrev src : Source
  src = source_of m o u.entry

  abbrev Gs : List Inst
  Gs = m.globals

  abbrev f : Function
  f = written p

  abbrev right : IsConforming m o.entry
  right = accepted_conforming bytes m o read fine

  abbrev P : Program
  P = program_in bytes m o read fine unit u inv told left

  abbrev fs : List Decl
  fs = function_items bytes m o read fine unit u inv told left

  abbrev asked : AreAsked s o.entry o.overrides found r
  asked = asked_of bytes m o read fine unit u inv told left

  functions : AreFunctions fs
  functions = are_functions bytes m o read fine unit u inv told left

  in_it : Contains m.functions f
  in_it = in_module bytes m o read fine unit u inv told left p planned

  -- what is asked of the types of values that stand in expressions
  abbrev pub IsTextType : Tree → Type 0
  IsTextType t = HasZero P s src key t × HasMembersApart (struct_names key) t

  -- a type without blocks whose structs are held by what is written
  held_text : (n : ℕ) (t : Tree) → IsWithin (IsNoBlock m) m n t → IsSized t → ((j : ℕ) → has_struct j t ≡ true → IsHeld s o.entry right o.overrides r j) → IsTextType t
  held_text n t w sized held =
      (zero_declared s o.entry o.overrides found r asked fs functions n t w sized held, members_apart s o.entry right o.overrides found r (Plans m o unit u) u.lawful (claimed bytes m o read fine unit u inv told left) n t w held)

  -- a type that is written is one whose structs are
  listed_text : (ty n : ℕ) (t : Tree) → IsIn ty (written_types src r) → type_tree Gs ty ≡ Some t → IsWithin (IsNoBlock m) m n t → IsSized t → IsTextType t
  listed_text ty n t listed shape w sized =
      held_text n t w sized (λ j has. held_in bytes m o read fine unit u inv told left p planned ty ty t listed (ap (λ (a : Option ℕ). option_map_or (λ (k : ℕ). k) a ty) (no_pointee Gs ty t shape)) shape j has)

  -- scalars and vectors
  pub basic_text : (ty : ℕ) (t : Tree) → type_tree Gs ty ≡ Some t → IsBasic t → IsTextType t
  basic_text ty plain.boolean shape basic = (tt, tt)
  basic_text ty plain.int shape basic = (tt, tt)
  basic_text ty plain.uint shape basic = (tt, tt)
  basic_text ty (plain.vector e n) shape basic = ((any_within m o.entry right ty (plain.vector e n) shape).1, tt)
  basic_text ty (plain.array t l) shape basic = absurd basic
  basic_text ty (plain.runtime t) shape basic = absurd basic
  basic_text ty (plain.struct k ts) shape basic = absurd basic

  -- results
  module _ (i : Inst) (there : IsIn i (insts_of f)) (off : is_variable i ≡ false) (t : Tree) (shape : type_tree Gs i.ty ≡ Some t) where
    among : IsAmong i (insts_of f)
    among = as_among (insts_of f) i there

    body : IsAmong i (body_insts m)
    body = body_right i Gs (local_insts m) (among_functions m.functions f i in_it among)

    sized : IsSized t
    sized = value_sized s o.entry right f in_it i.result i.ty (own_type s o.entry right f in_it i among (shaped_some s o.entry right f in_it i.ty t shape)) t shape

    written_text : IsIn i.ty (written_types src r) → IsTextType t
    written_text listed =
        let w = misused_within m o.entry right i.ty t (value_misused m o.entry right i body off) shape in
        listed_text i.ty w.0 t listed shape w.1 sized

    -- of a live instruction of a reached block
    pub live_text : (of_it : IsOf (claims_by src p) i) → slice_index_or (liveness_of src p).reached of_it.number false ≡ true → is_gone (p.scope.form i.result) ≡ false → IsTextType t
    live_text of_it here kept = written_text (live_type_written m o unit u p planned i of_it here kept)

    -- and of a composite that is declared at the top
    pub top_text : (of_it : IsOf (claims_by src p) i) → p.scope.form i.result ≡ Hoisted → is_composite Gs i.ty ≡ true → IsTextType t
    top_text of_it top composite = written_text (top_type_written m o unit u p planned i of_it top composite)

  -- parameters, or what they point to
  module _ (q : IdOf × IdOf) (there : IsParameter q f.params) where
    pub parameter_text : IsTextType (typed_parameter bytes m o read fine unit u inv told left p planned q there).shape
    parameter_text =
        let w = typed_parameter bytes m o read fine unit u inv told left p planned q there in
        held_text w.word_at w.shape w.within w.sized w.held
