-- With what the paths of an accepted module's text begin, as the law of paths asks: variables of the module that the function mentions, its own variables, and its pointer parameters.
use Rattle.std.proofs.Common.{◌≡◌, ◌⊎◌, ◌==◌, ℕ, Bool, true, false, List, [], ◌∷◌, not, Option, Some, None, inl, inr, refl, sym, ap, ◌∙◌, subst, if◌then◌else◌}
use Rattle.std.specs.Prelude.{Contains, find, is_some, option_map, option_and_then, slice_index, unwrap_or}
use Rattle.std.specs.Option.{option_map_or}
use Rattle.std.specs.List.{list_any}
use Rattle.std.proofs.lemmas.Bool.{and_parts, not-true}
use Rattle.std.proofs.lemmas.Bool.Decides.{eqb_tells}
use Rattle.std.proofs.lemmas.Option.{same_Some}
use Rattle.spv_ops.specs.Opcode.{is, number}
use Rattle.spv_ops.specs.Groups.{is_chain}
use Rattle.spv_ops.specs.declared.Op.{Op}
use Rattle.spv_ops.specs.declared.Op.TheVariants as code
use Rattle.spv_module.specs.Held.{global as global_inst}
use Rattle.spv_module.specs.State.{ModuleState}
use Rattle.spv_module.specs.declared.inst.Inst.{Inst}
use Rattle.spv_module.specs.declared.inst.Function.{Function}
use Rattle.spv_types.specs.Tree as plain
use Rattle.spv_types.specs.Tree.{Tree, ValueTree}
use Rattle.spv_types.specs.Types.{type_tree}
use Rattle.spv_index.specs.Locals.{insts_of, inst_in, type_in}
use Rattle.spv_index.specs.Pointers.{pointer, storage_class, pointee}
use Rattle.conformance.specs.Rules.{Options}
use Rattle.module_check.specs.Judged.{IsFine}
use Rattle.module_check.specs.ReadFrom.{IsReadFrom}
use Rattle.profile_rules.specs.MemoryRules.{is_pointer, is_own_memory}
use Rattle.traces.specs.Invocations.{Invocation, IsInvocation}
use Rattle.traces.specs.Outcomes.{Result}
use Rattle.module_semantics.specs.Setting.{Setting, as_variable, global_variable}
use Rattle.module_semantics.specs.State.{Held, value, pointer as pointer_held, global as root}
use Rattle.module_semantics.specs.Operands.{of_module}
use Rattle.name_alloc.specs.declared.claims.Key.{Key}
use Rattle.glsl_ast.specs.Tree.{Text, Expr, TranslationUnit}
use Rattle.glsl_semantics.specs.Shapes.{Typed}
use Rattle.glsl_semantics.specs.States.{State}
use Rattle.glsl_semantics.specs.Expressions.{Program, Argument}
use Rattle.text_rules.specs.Constants.{Source}
use Rattle.text_rules.specs.Printed.{Reached, has_operand, is_operand_in}
use Rattle.text_rules.specs.Declarations.{shape_at, pointee_at}
use Rattle.text_items.specs.Globals.{global_by}
use Rattle.function_text.specs.Functions.{FunctionPlan, written}
use Rattle.unit_rules.specs.Translation.{id_text, global_expr}
use Rattle.unit_rules.specs.Unit.{source_of, IsUnitOf}
use Rattle.list_law.proofs.Options.{none_some}
use Rattle.plan_law.specs.InOrder.{IsAmong}
use Rattle.plan_law.proofs.Order.{found as found_at}
use Rattle.fits_law.proofs.Steps.{named}
use Rattle.type_law.specs.Shaped.{HasConstants}
use Rattle.agree_law.specs.Agree.{Naming}
use Rattle.call_law.specs.Known.{is_parameter, IsFunctionOf}
use Rattle.typed_law.specs.Conforms.{IsConforming}
use Rattle.typed_law.proofs.Lists.{found_in}
use Rattle.typed_law.proofs.Values.{inside, own_local}
use Rattle.accepted_law.proofs.Accepted.{accepted_conforming}
use Rattle.grammar_law.proofs.Ruled.Ruled.{parameter_of}
use Rattle.global_law.specs.Parts.{shape_in}
use Rattle.global_law.specs.Chains.{NoneMakes}
use Rattle.global_law.specs.Walks.{struct_names}
use Rattle.global_law.specs.Writings.{IsWrittenStart}
use Rattle.global_law.specs.Sources.{chosen}
use Rattle.global_law.proofs.Constant.Valued.{valued}
use Rattle.claim_law.specs.Claimed.{IsIn}
use Rattle.claim_law.proofs.Claim.Listed.{in_mapped, any_in}
use Rattle.claim_law.proofs.Claim.Named.{Plans}
use Rattle.item_law.proofs.Named.{members_apart}
use Rattle.grammar_law.proofs.Unit.Lists.{as_in}
use Rattle.text_law.proofs.Naming.Alone.{are_alone, variable_inst}
use Rattle.text_law.proofs.Naming.Functions.{function_of_plan}
use Rattle.text_law.proofs.Naming.Keys.{S, found as names_found, key as key_of, R, names as names_in}
use Rattle.text_law.specs.Left.{IsLeftOfGlobals}
use Rattle.text_law.proofs.Outside.Asked.{claimed}
use Rattle.text_law.proofs.Outside.Text.{P as program_in, itself, there as global_there, own, type_is}
use Rattle.text_law.proofs.Outside.Globals.{begins_paths}
use Rattle.text_law.proofs.Outside.Locals.{in_module, local_variable, param_type, typed_parameter}

chain_no_variable : (o : Op) → is_chain o ≡ true → is o code.Variable ≡ true → ⊥
unfolding number
chain_no_variable code.Variable chain on = cc
chain_no_variable o chain on = cc

-- no chain makes what no instruction makes that is a chain
no_chain : (n : ℕ) (is : List Inst) → ((i : Inst) → IsAmong i is → is_chain i.op ≡ true → i.result ≡ n → ⊥) → NoneMakes n is
no_chain n [] far = tt
no_chain n (i ∷ is) far = (λ chain same. far i (inl refl) chain same, no_chain n is (λ j there. far j (inr there)))

no_result : (is : List Inst) (i : Inst) → IsAmong i is → find (λ (j : Inst). j.result == i.result) is ≡ None → ⊥
no_result [] i there none = there
no_result (j ∷ is) i there none = by_test (j.result == i.result) (eqb_tells j.result i.result) there none (no_result is i)
  where
    by_test : (b : Bool) → ((b ≡ true) × (j.result ≡ i.result)) ⊎ ((b ≡ false) × (j.result ≡ i.result → ⊥)) → (j ≡ i) ⊎ IsAmong i is → (if b then Some j else find (λ (x : Inst). x.result == i.result) is) ≡ None → (IsAmong i is → find (λ (x : Inst). x.result == i.result) is ≡ None → ⊥) → ⊥
    by_test true w there none later = cc
    by_test false (inl w) there none later = cc
    by_test false (inr w) (inl same) none later = w.1 (ap (λ (x : Inst). x.result) same)
    by_test false (inr w) (inr there) none later = later there none

-- a pointer type points to something
pointer_to : (gs : List Inst) (ty : ℕ) → is_some (storage_class gs ty) ≡ true → (q : ℕ) × (pointee gs ty ≡ Some q)
pointer_to gs ty on = by_pointer (pointer gs ty) on
  where
    by_pointer : (a : Option Inst) → is_some (option_map (λ (x : Inst). slice_index x.args 0) a) ≡ true → (q : ℕ) × (option_map (λ (x : Inst). slice_index x.args 1) a ≡ Some q)
    by_pointer None e = cc
    by_pointer (Some g) e = (slice_index g.args 1, refl)

module _ (bytes : List ℕ) (m : ModuleState) (o : Options) (read : IsReadFrom bytes m) (fine : IsFine m o) (unit : TranslationUnit) (u : IsUnitOf m o unit) (inv : Invocation) (told : IsInvocation inv) (left : IsLeftOfGlobals bytes m o) (p : FunctionPlan) (planned : IsIn p u.plans) where
  abbrev s : Setting
  s = S m o unit u inv

  abbrev found : Key → Option Text
  found = names_found m o unit u inv

  abbrev key : Key → Text
  key = key_of m o unit u inv

  abbrev r : Reached
  r = R m o unit u inv

  abbrev src : Source
  src = source_of m o u.entry

  abbrev Gs : List Inst
  Gs = m.globals

  abbrev f : Function
  f = written p

  abbrev N : Naming
  N = names_in m o unit u inv p

  abbrev P : Program
  P = program_in bytes m o read fine unit u inv told left

  abbrev globals : ℕ → Option Expr
  globals = global_expr src (id_text found)

  abbrev right : IsConforming m o.entry
  right = accepted_conforming bytes m o read fine

  abbrev have : HasConstants s (chosen s o.overrides)
  have = λ k. refl

  is_one : IsFunctionOf f m.functions
  is_one = function_of_plan bytes m o read fine unit u p planned

  in_it : Contains m.functions f
  in_it = in_module bytes m o read fine unit u inv told left p planned

  -- what is none of the module's is read by its own name
  unread : (n : ℕ) → global_inst Gs n ≡ None → globals n ≡ None
  unread n none = ap (option_and_then (global_by src (id_text found))) none

  -- nor has the module a value for it
  pub no_module : (n : ℕ) → global_inst Gs n ≡ None → of_module s n ≡ None
  no_module n none =
      ap (λ (a : Option Inst). elim a as (λ a. Option Held) [ Some v ↦ Some (pointer_held (root n) []) | None ↦ option_map value (s.constants n) ]) (ap (λ (a : Option Inst). elim a as (λ a. Option Inst) [ None ↦ None | Some g ↦ as_variable g ]) none)
      ∙ by_constant (s.constants n) refl
    where
      by_constant : (a : Option ValueTree) → s.constants n ≡ a → option_map value (s.constants n) ≡ None
      by_constant None at = ap (option_map value) at
      by_constant (Some v) at = let w = valued s (chosen s o.overrides) have right.results right.rising n v at in let never : None ≡ Some w.inst = sym none ∙ w.there in cc

  -- the type of what a pointer of this type leads to
  pub shape_of : (n ty q : ℕ) (t : Tree) → type_in Gs f n ≡ Some ty → pointee Gs ty ≡ Some q → type_tree Gs q ≡ Some t → N.shape n ≡ shape_in s (struct_names key) t
  shape_of n ty q t typed points shape =
      ap (λ a. shape_in s (struct_names key) (shape_at src (pointee_at src (unwrap_or a 0)))) typed
      ∙ ap (λ a. shape_in s (struct_names key) (shape_at src (unwrap_or a ty))) points
      ∙ ap (λ a. shape_in s (struct_names key) (unwrap_or a plain.uint)) shape

  module _ (calls : Text → List Argument → State → Result (Option Typed × State)) (z : State) (b : ℕ) (done : List Inst) where
    abbrev Begins : ℕ → Type 0
    Begins = IsWrittenStart P calls z N s o.overrides f key globals b done

    -- A variable of the module that an instruction of the function has as an operand.
    pub variable_start : (n : ℕ) (v i : Inst) → global_variable s n ≡ Some v → IsIn i (insts_of f) → has_operand i n ≡ true → Begins n
    variable_start n v i is_it there operand =
        let same : v.result ≡ n = itself bytes m o read fine unit u inv told left n v is_it in
        let mine = own bytes m o read fine unit u inv told left n v is_it in
        let mentioned : is_operand_in r.functions v.result ≡ true =
        any_in (λ (g : Function). list_any (λ (j : Inst). has_operand j v.result) (insts_of g)) r.functions f (in_mapped written u.plans p planned)
        (any_in (λ (j : Inst). has_operand j v.result) (insts_of f) i there (subst (λ k. has_operand i k ≡ true) (sym same) operand)) in
        let w = begins_paths bytes m o read fine unit u inv told left v mine mentioned p in
        let at = global_there bytes m o read fine unit u inv told left v.result v mine in
        subst Begins same (record {
          none = no_chain v.result (insts_of f) (λ j j_in chain one. none_some (sym (own_local s o.entry right f in_it j j_in) ∙ (ap (global_inst Gs) one ∙ at)));
          type = w.type;
          shape = w.shape;
          points_to = ap (option_and_then (pointee Gs)) (type_is bytes m o read fine unit u inv told left v.result v mine f) ∙ w.points_to;
          typed_as = w.typed_as;
          members = w.members;
          kind = inr (inr (ap is_some at, w.kind));
        })

    -- A Function variable.
    pub own_start : (n : ℕ) → N.is_variable n ≡ true → Begins n
    own_start n on =
        let v = variable_inst f n on in
        let i = v.0 in
        let there = found_in (insts_of f) n i v.1 in
        let w = local_variable bytes m o read fine unit u inv told left p planned i (as_in (insts_of f) i there) v.2 in
        let same : i.result ≡ n = named (insts_of f) n i v.1 in
        let memory = and_parts (not (is_parameter f n)) (is_own_memory f n) on in
        record {
          none = no_chain n (insts_of f) (λ j j_in chain one. chain_no_variable j.op chain (subst (λ (x : Inst). is x.op code.Variable ≡ true) (sym (only j j_in i n one v.1 same w.has_result)) v.2));
          type = w.type;
          shape = w.shape;
          points_to = ap (option_and_then (pointee Gs)) (subst (λ k. type_in Gs f k ≡ Some i.ty) same w.type_is) ∙ w.points_to;
          typed_as = w.typed_as;
          members = members_apart s o.entry right o.overrides found r (Plans m o unit u) u.lawful (claimed bytes m o read fine unit u inv told left) w.word_at w.shape w.within w.held;
          kind = inl (
            record { itself = unread n (subst (λ k. global_inst Gs k ≡ None) same (own_local s o.entry right f in_it i there)); named = refl; typed_as = shape_of n i.ty w.type w.shape (subst (λ k. type_in Gs f k ≡ Some i.ty) same w.type_is) w.points_to w.typed_as },
            on,
            memory.1,
            not-true (is_parameter f n) memory.0,
          );
        }
      where
        only : (j : Inst) → IsAmong j (insts_of f) → (i : Inst) (n : ℕ) → j.result ≡ n → inst_in f n ≡ Some i → i.result ≡ n → (i.result ≡ 0 → ⊥) → j ≡ i
        only j j_in i n one at same some = same_Some j i (sym (found_at j (insts_of f) (inside s o.entry right f in_it).order.apart j_in (λ zero. some (same ∙ (sym one ∙ zero)))) ∙ (ap (inst_in f) one ∙ at))

    -- A pointer parameter.
    pub parameter_start : (n : ℕ) → N.is_lent n ≡ true → Begins n
    parameter_start n on =
        let parts = and_parts (is_parameter f n) (is_pointer Gs f n) on in
        let q = parameter_of f.params n parts.0 in
        let w = typed_parameter bytes m o read fine unit u inv told left p planned q.0 q.1 in
        let typed : type_in Gs f n ≡ Some q.0.1.0 = subst (λ k. type_in Gs f k ≡ Some q.0.1.0) q.2 (param_type bytes m o read fine unit u inv told left p planned q.0 q.1) in
        let points = pointer_to Gs q.0.1.0 (sym (ap (λ a. is_some (option_and_then (storage_class Gs) a)) typed) ∙ parts.1) in
        let to : points.0 ≡ w.type = sym (ap (λ a. option_map_or (λ k. k) a q.0.1.0) points.1) ∙ w.self in
        let points_so : pointee Gs q.0.1.0 ≡ Some w.type = points.1 ∙ ap (λ k. Some k) to in
        let alone = (are_alone s o.entry right f is_one).parameters n parts.0 in
        record {
          none = no_chain n (insts_of f) (λ j j_in chain one. no_result (insts_of f) j j_in (ap (inst_in f) one ∙ alone.0));
          type = w.type;
          shape = w.shape;
          points_to = ap (option_and_then (pointee Gs)) typed ∙ points_so;
          typed_as = w.typed_as;
          members = members_apart s o.entry right o.overrides found r (Plans m o unit u) u.lawful (claimed bytes m o read fine unit u inv told left) w.word_at w.shape w.within w.held;
          kind = inr (inl (
            record { itself = unread n alone.1; named = refl; typed_as = shape_of n q.0.1.0 w.type w.shape typed points_so w.typed_as },
            on,
            parts.0,
            no_module n alone.1,
          ));
        }
