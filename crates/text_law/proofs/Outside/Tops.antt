-- What stands at the top of an accepted module's functions says what the module has there: types that are declared, first values, and names of its own.
use Rattle.std.proofs.Common.{◌≡◌, ◌≢◌, ◌⊎◌, ◌==◌, ◌&&◌, ℕ, Bool, true, false, List, [], ◌∷◌, ◌++◌, filter, map, not, Option, Some, None, inl, inr, refl, sym, ap, ap₂, ◌∙◌, subst, if◌then◌else◌}
use Rattle.std.specs.Prelude.{◌||◌, Contains, bytes_eq, codes, drop, flat_map, slice_get, slice_index, unwrap_or}
use Rattle.std.specs.Option.{option_map_or}
use Rattle.std.specs.List.{list_any, enumerate_from}
use Rattle.std.proofs.lemmas.Bool.{and_parts, or_cases, or_left, or_right}
use Rattle.std.proofs.lemmas.Option.{same_Some}
use Rattle.spv_ops.specs.Opcode.{is}
use Rattle.spv_ops.specs.Shape.{shape}
use Rattle.spv_ops.specs.Groups.{is_chain}
use Rattle.spv_ops.specs.declared.Op.{Op}
use Rattle.spv_ops.specs.declared.Op.TheVariants as code
use Rattle.spv_module.specs.Held.{global as global_inst}
use Rattle.spv_module.specs.Lists.{id}
use Rattle.spv_module.specs.State.{ModuleState}
use Rattle.spv_module.specs.declared.inst.Inst.{Inst}
use Rattle.spv_module.specs.declared.inst.Function.{Function}
use Rattle.spv_types.specs.Leaves.{IsSized}
use Rattle.spv_types.specs.Tree as plain
use Rattle.spv_types.specs.Tree.{Tree}
use Rattle.spv_types.specs.declared.kind.TypeKind.{TypeKind}
use Rattle.spv_types.specs.declared.kind.TypeKind.TheVariants as kinds
use Rattle.spv_types.specs.Types.{kind, elem_of, sized_vector, vector_tree, tree_by_kind, type_tree}
use Rattle.spv_module.specs.declared.tree.Elem.{Elem}
use Rattle.spv_decor.specs.Decorations.{local_insts}
use Rattle.spv_index.specs.Locals.{insts_of, inst_in, type_in}
use Rattle.access_paths.specs.Ways.{captured_indexes, is_constant_index}
use Rattle.conformance.specs.Rules.{Options}
use Rattle.module_check.specs.Judged.{IsFine}
use Rattle.module_check.specs.ReadFrom.{IsReadFrom}
use Rattle.profile_rules.specs.Places.{is_among, is_variable}
use Rattle.profile_rules.specs.TypeForm.{block_misuses}
use Rattle.traces.specs.Invocations.{Invocation, IsInvocation}
use Rattle.traces.specs.Outcomes.{Result}
use Rattle.module_semantics.specs.Setting.{Setting}
use Rattle.module_semantics.specs.Accesses.{initial_in}
use Rattle.name_alloc.specs.declared.claims.Key.{Key}
use Rattle.name_alloc.specs.declared.claims.Key.TheVariants.{Main, Id, Captured}
use Rattle.name_alloc.specs.Naming.{space_of}
use Rattle.name_alloc.specs.Reserved.{has_prefix}
use Rattle.name_alloc.specs.Law.{IsFree}
use Rattle.glsl_ast.specs.Tree.{Text, literal, TranslationUnit}
use Rattle.glsl_ast.specs.declared.expressions.Literal.TheVariants.{Uint}
use Rattle.glsl_semantics.specs.Shapes.{Typed}
use Rattle.glsl_semantics.specs.States.{State}
use Rattle.glsl_semantics.specs.Expressions.{Program, Argument, type_of}
use Rattle.text_rules.specs.Constants.{Source}
use Rattle.text_rules.specs.Printed.{Reached, has_struct, is_private, is_written_variable, is_declared_constant, is_written_struct}
use Rattle.text_rules.specs.Declarations.{Names, shape_at, type_at, pointee_at, initial}
use Rattle.expr_forward.specs.Scope.{Scope, globals, type_of as type_of_value}
use Rattle.expr_forward.specs.Statements.{captured_of}
use Rattle.function_text.specs.Functions.{FunctionPlan, written, is_hoisted, is_hoisted_in}
use Rattle.function_text.specs.Live.{is_composite_type}
use Rattle.unit_rules.specs.Translation.{names_of, IsPlanOf}
use Rattle.unit_rules.specs.Unit.{called, source_of, IsUnitOf}
use Rattle.list_law.proofs.Lists.{place_of}
use Rattle.list_law.proofs.Options.{none_some}
use Rattle.list_law.proofs.Tests.{no_flip}
use Rattle.plan_law.specs.InOrder.{IsAmong}
use Rattle.plan_law.proofs.Order.{found as found_at, among_right as body_right}
use Rattle.region_law.proofs.Flags.{same_text}
use Rattle.agree_law.specs.Agree.{Naming}
use Rattle.typed_law.specs.Conforms.{IsConforming}
use Rattle.typed_law.proofs.Used.{global_found, used_sized}
use Rattle.typed_law.proofs.Values.{among_functions, inside, own_local, own_type, shaped_some}
use Rattle.accepted_law.proofs.Accepted.{accepted_conforming}
use Rattle.global_law.specs.Parts.{shape_in}
use Rattle.global_law.specs.Laid.{HasLengths}
use Rattle.global_law.specs.Walks.{struct_names}
use Rattle.global_law.proofs.Path.Parts.{sized_lengths}
use Rattle.global_law.specs.Names.{IsDeclared}
use Rattle.global_law.proofs.Global.Blocks.{type_declared}
use Rattle.global_law.specs.Items.{is_item}
use Rattle.global_law.proofs.Constant.Within.{value_misused}
use Rattle.global_law.proofs.Constant.Written.{no_pointee}
use Rattle.claim_law.specs.Claimed.{IsIn}
use Rattle.claim_law.proofs.Claim.Named.{Plans}
use Rattle.claim_law.proofs.Claim.Told.{named_is}
use Rattle.item_law.proofs.Named.{item_named}
use Rattle.grammar_law.proofs.Unit.Lists.{in_either, of_filter, of_flat, as_among, of_numbered_first}
use Rattle.grammar_law.proofs.Meets.LiveOrGone.{of_mapped}
use Rattle.grammar_law.proofs.Unit.TypesWritten.{top_type_written}
use Rattle.grammar_law.proofs.Unit.Ways.{planned_as}
use Rattle.function_law.specs.Tops.{Top, SaysFirst, SaysTop, AllSay}
use Rattle.function_law.proofs.PlannedText.{variable_top, hoisted_top, index_top, variable_tops, hoisted_tops, index_tops, tops_of}
use Rattle.grammar_law.proofs.Meets.OperandNames.{composite_of}
use Rattle.grammar_law.proofs.Formed.Pointing.{chain_result}
use Rattle.text_law.specs.Alone.{AreAlone}
use Rattle.text_law.specs.Names.{is_outer_global, has_text}
use Rattle.text_law.proofs.Naming.Alone.{are_alone}
use Rattle.text_law.proofs.Naming.Keys.{S, found as names_found, key as key_of, R, names as names_in, placed, some_in, hoisted_is}
use Rattle.text_law.proofs.Naming.Tops.{in_function, key_id, no_chain_key, variable_name, hoisted_name, index_name}
use Rattle.text_law.specs.Left.{IsLeftOfGlobals}
use Rattle.text_law.proofs.Outside.Asked.{claimed}
use Rattle.text_law.proofs.Naming.Functions.{function_of_plan}
use Rattle.text_law.proofs.Outside.Text.{P as program_in}
use Rattle.text_law.proofs.Outside.Locals.{in_module, IsLocalVariable, local_variable}
use Rattle.text_law.proofs.Outside.Typed.{value_declared}
use Rattle.text_law.proofs.Outside.Indexed.{IsIntId, index_int}
use Rattle.text_law.proofs.Outside.Firsts.{variable_declared, firsts}

-- a type with a struct in it is a composite
abbrev is_of_parts : TypeKind → Bool
is_of_parts kinds.Array = true
is_of_parts kinds.Runtime = true
is_of_parts kinds.Struct = true
is_of_parts _ = false

composite_op : (o : Op) → is_of_parts (kind o) ≡ true → is_composite_type o ≡ true
unfolding kind
composite_op code.TypeArray on = refl
composite_op code.TypeRuntimeArray on = refl
composite_op code.TypeStruct on = refl
composite_op o on = cc

plain_type : (gs : List Inst) (before : ℕ → Option Tree) (g : Inst) (k : TypeKind) (t : Tree) (j : ℕ) → tree_by_kind gs before g k ≡ Some t → (is_of_parts k ≡ true) ⊎ (has_struct j t ≡ false)
plain_type gs before g kinds.Bool t j e = inr (subst (λ x. has_struct j x ≡ false) (same_Some plain.boolean t e) refl)
plain_type gs before g kinds.Int t j e = inr (by_width (slice_index g.args 0 == 32) (slice_index g.args 1 == 0) (slice_index g.args 1 == 1) e)
  where
    by_width : (w a b : Bool) → (if w then (if a then Some plain.uint else (if b then Some plain.int else None)) else None) ≡ Some t → has_struct j t ≡ false
    by_width true true b e = subst (λ x. has_struct j x ≡ false) (same_Some plain.uint t e) refl
    by_width true false true e = subst (λ x. has_struct j x ≡ false) (same_Some plain.int t e) refl
    by_width true false false e = none_some e
    by_width false a b e = none_some e
plain_type gs before g kinds.Vector t j e = inr (by_part (before (slice_index g.args 0)) e)
  where
    by_size : (d : Elem) (b : Bool) → (if b then Some (plain.vector d (slice_index g.args 1)) else None) ≡ Some t → has_struct j t ≡ false
    by_size d true e = subst (λ x. has_struct j x ≡ false) (same_Some (plain.vector d (slice_index g.args 1)) t e) refl
    by_size d false e = none_some e

    by_elem : (q : Option Elem) → option_map_or (sized_vector (slice_index g.args 1)) q None ≡ Some t → has_struct j t ≡ false
    by_elem None e = none_some e
    by_elem (Some d) e = by_size d _ e

    by_part : (q : Option Tree) → vector_tree q (slice_index g.args 1) ≡ Some t → has_struct j t ≡ false
    by_part None e = none_some e
    by_part (Some q) e = by_elem (elem_of q) e
plain_type gs before g kinds.Array t j e = inl refl
plain_type gs before g kinds.Runtime t j e = inl refl
plain_type gs before g kinds.Struct t j e = inl refl
plain_type gs before g kinds.Other t j e = none_some e

no_main : (n : ℕ) → Id (id n) ≡ Main → ⊥
no_main n e = cc

no_main_index : (q k : ℕ) → Captured (id q) k ≡ Main → ⊥
no_main_index q k e = cc

all_say : (P : Program) (calls : Text → List Argument → State → Result (Option Typed × State)) (n : Naming) (ts : List Top) → ((t : Top) → IsIn t ts → SaysTop P calls n t) → AllSay P calls n ts
all_say P calls n [] each = tt
all_say P calls n (t ∷ ts) each = (each t (inl refl), all_say P calls n ts (λ u among. each u (inr among)))

module _ (bytes : List ℕ) (m : ModuleState) (o : Options) (read : IsReadFrom bytes m) (fine : IsFine m o) (unit : TranslationUnit) (u : IsUnitOf m o unit) (inv : Invocation) (told : IsInvocation inv) (left : IsLeftOfGlobals bytes m o) (p : FunctionPlan) (planned : IsIn p u.plans) where
  abbrev s : Setting
  s = S m o unit u inv

  abbrev found : Key → Option Text
  found = names_found m o unit u inv

  abbrev key : Key → Text
  key = key_of m o unit u inv

  abbrev r : Reached
  r = R m o unit u inv

  abbrev src : Source
  src = source_of m o u.entry

  abbrev Gs : List Inst
  Gs = m.globals

  abbrev f : Function
  f = written p

  abbrev N : Naming
  N = names_in m o unit u inv p

  abbrev Ns : Names
  Ns = names_of found

  abbrev P : Program
  P = program_in bytes m o read fine unit u inv told left

  abbrev right : IsConforming m o.entry
  right = accepted_conforming bytes m o read fine

  in_it : Contains m.functions f
  in_it = in_module bytes m o read fine unit u inv told left p planned

  alone : AreAlone Gs f
  alone = are_alone s o.entry right f (function_of_plan bytes m o read fine unit u p planned)

  -- where the declarations are written
  planned_is : (g : Function) × IsIn g (called u.order m.functions) × IsPlanOf src found g p
  planned_is = planned_as (IsPlanOf src found) (called u.order m.functions) u.plans p u.planned planned

  source_is : p.scope.setting.source ≡ src
  source_is = ap (λ (w : Scope). w.setting.source) planned_is.2.scope_is

  names_are : p.scope.names ≡ Ns
  names_are = ap (λ (w : Scope). w.names) planned_is.2.scope_is

  globals_are : globals p.scope ≡ Gs
  globals_are = ap (λ (w : Scope). globals w) planned_is.2.scope_is

  -- what stands outside of functions has the name of an item, or of what is built in
  item : (g : Inst) → is_outer_global s o.overrides r key g ≡ true → is_item src r g ≡ true
  item g on =
      or_right (is_written_struct src r g) (is_declared_constant src r g || is_written_variable r g)
      (elim (or_cases (is_declared_constant src r g) (is_written_variable r g && not (is_private g)) on) [
        | inl constant ↦ or_left (is_declared_constant src r g) (is_written_variable r g) constant
        | inr variable ↦ or_right (is_declared_constant src r g) (is_written_variable r g) (and_parts (is_written_variable r g) (not (is_private g)) variable).0
      ])

  not_outside : (k : Key) (x y : Text) → ((n : ℕ) → space_of k ≡ space_of (Id (id n))) → (k ≡ Main → ⊥) → ((g : Inst) → IsIn g Gs → k ≡ Id (id g.result) → ⊥) → found k ≡ Some x → N.is_outside y ≡ true → x ≢ y
  not_outside k x y space other far at out same = elim (or_cases (has_prefix y) (list_any (has_text s o.overrides r key y) Gs) out) [
    | inl prefix ↦ no_flip (has_prefix y) prefix (ap has_prefix (sym same) ∙ by_free (u.lawful.each k x at).free)
    | inr some ↦
        let g = some_in (has_text s o.overrides r key y) Gs some in
        let parts = and_parts (is_outer_global s o.overrides r key g.0) (bytes_eq (key (Id (id g.0.result))) y) g.2 in
        let has = item_named s o.entry right o.overrides found r (Plans m o unit u) u.lawful (claimed bytes m o read fine unit u inv told left) g.0 (as_among Gs g.0 g.1) (item g.0 parts.0) in
        far g.0 g.1 (u.lawful.apart k (Id (id g.0.result)) x (space g.0.result) at (named_is found (Id (id g.0.result)) has ∙ ap (λ (z : Text). Some z) (same_text (key (Id (id g.0.result))) y parts.1 ∙ sym same)))
  ]
    where
      by_free : ((k ≡ Main) × (x ≡ codes "main")) ⊎ IsFree x → has_prefix x ≡ false
      by_free (inl main) = absurd (other main.0)
      by_free (inr free) = free.prefix

  -- no result of the function has it
  own_name : (i : Inst) → IsIn i (insts_of f) → (x y : Text) → found (Id (id i.result)) ≡ Some x → N.is_outside y ≡ true → x ≢ y
  own_name i there x y at out =
      not_outside (Id (id i.result)) x y (λ n. refl) (no_main i.result)
      (λ g among same. none_some (sym (own_local s o.entry right f in_it i (as_among (insts_of f) i there)) ∙ (ap (global_inst Gs) (key_id i.result g.result same) ∙ global_found m o.entry right g (as_among Gs g among)))) at out

  module _ (calls : Text → List Argument → State → Result (Option Typed × State)) where
    abbrev Says : Top → Type 0
    Says = SaysTop P calls N

    variable_says : (i : Inst) → IsIn i (insts_of f) → is_variable i ≡ true → Says (variable_top p.scope N s i)
    variable_says i there on = record {
      type = ap₂ (λ a b. type_of P (type_at a b (pointee_at a i.ty))) source_is names_are ∙ variable_declared bytes m o read fine unit u inv told left p planned i there on;
      first = subst (λ e. SaysFirst P calls N (N.shape i.result) (Some e) (initial_in s f i.result)) (sym (ap₂ (λ a b. initial a b i) source_is names_are)) (firsts bytes m o read fine unit u inv told left p planned i there on calls);
      inside = λ y out. own_name i there (p.scope.setting.key (Id (id i.result))) y (variable_name m o unit u inv p planned alone i there on) out;
    }

    -- what is declared at the top for its value is no variable
    no_variable : (i : Inst) (t : Tree) → IsIn i (insts_of f) → type_tree Gs i.ty ≡ Some t → is_variable i ≡ false
    no_variable i t there shape = by_test (is_variable i) refl
      where
        by_test : (b : Bool) → is_variable i ≡ b → b ≡ false
        by_test true on = let w : IsLocalVariable bytes m o read fine unit u inv told left p planned i there on = local_variable bytes m o read fine unit u inv told left p planned i there on in none_some (sym (no_pointee Gs i.ty t shape) ∙ w.points_to)
        by_test false off = refl

    hoisted_says : (i : Inst) (t : Tree) → IsIn i (insts_of f) → is_hoisted_in p.scope i ≡ true → type_tree Gs i.ty ≡ Some t → Says (hoisted_top p.scope N s i)
    hoisted_says i t there on shape = record {
      type =
          ap₂ (λ a b. type_of P (type_at a b i.ty)) source_is names_are ∙ type_declared s f o.overrides key (λ g. literal (Uint 0)) P i.ty t shape (sized_lengths t sized) declared
          ∙ ap (λ q. Some q) (sym shape_is);
      first = refl;
      inside = λ y out. own_name i there (p.scope.setting.key (Id (id i.result))) y (hoisted_name m o unit u inv p planned alone i there on) out;
    }
      where
        among : IsAmong i (insts_of f)
        among = as_among (insts_of f) i there

        misused : is_among (block_misuses m) i.ty ≡ true
        misused = value_misused m o.entry right i (body_right i Gs (local_insts m) (among_functions m.functions f i in_it among)) (no_variable i t there shape)

        sized : IsSized t
        sized = used_sized m o.entry right i (body_right i Gs (local_insts m) (among_functions m.functions f i in_it among)) (no_variable i t there shape) t shape

        declared : IsDeclared P s src key t
        declared = value_declared bytes m o read fine unit u inv told left p planned i.ty t shape misused
            (λ j has. top_type_written m o unit u p planned i (placed m o unit u p i there) (hoisted_is (p.scope.form i.result) on) (composite_of Gs i.ty t j shape has))

        shape_is : N.shape i.result ≡ shape_in s (struct_names key) t
        shape_is =
            ap (λ a. shape_in s (struct_names key) (shape_at src (pointee_at src (unwrap_or a 0)))) (own_type s o.entry right f in_it i among (shaped_some s o.entry right f in_it i.ty t shape))
            ∙ ap (λ a. shape_in s (struct_names key) (shape_at src (unwrap_or a i.ty))) (no_pointee Gs i.ty t shape)
            ∙ ap (λ a. shape_in s (struct_names key) (unwrap_or a plain.uint)) shape

    -- a kept index
    record IsKept (i : Inst) (n : ℕ × ℕ) : Type 0 where
      chain : is_chain i.op ≡ true
      index : slice_get (drop 1 i.args) n.0 ≡ Some n.1

    kept : (i : Inst) (n : ℕ × ℕ) → IsIn n (captured_of p.scope i) → IsKept i n
    kept i n one = by_test (is_chain i.op && p.scope.carried i.result) refl (subst (λ (gs : List Inst). IsIn n (if is_chain i.op && p.scope.carried i.result then captured_indexes gs i else [])) globals_are one)
      where
        by_test : (b : Bool) → (is_chain i.op && p.scope.carried i.result) ≡ b → IsIn n (if b then captured_indexes Gs i else []) → IsKept i n
        by_test true on here = record {
          chain = (and_parts (is_chain i.op) (p.scope.carried i.result) on).0;
          index = of_numbered_first (drop 1 i.args) n.0 n.1 (of_filter (λ (x : ℕ × ℕ). not (is_constant_index Gs x.1)) (enumerate_from 0 (drop 1 i.args)) n here).0;
        }
        by_test false on here = absurd here

    index_says : (i : Inst) (n : ℕ × ℕ) → IsIn i (insts_of f) → IsIn n (captured_of p.scope i) → Says (index_top p.scope N s i n)
    index_says i n there one = record {
      type =
          ap₂ (λ a b. type_of P (type_at a b (type_of_value p.scope n.1))) source_is names_are
          ∙ ap (λ k. type_of P (type_at src Ns k)) (ap (λ gs. unwrap_or (type_in gs f n.1) 0) globals_are ∙ ap (λ a. unwrap_or a 0) int.typed_as)
          ∙ type_declared s f o.overrides key (λ g. literal (Uint 0)) P int.type int.shape int.shape_is lengths declared
          ∙ ap (λ q. Some q) (sym shape_is);
      first = refl;
      inside = λ y out.
          not_outside (Captured (id i.result) n.0) (p.scope.setting.key (Captured (id i.result) n.0)) y (λ k. refl) (no_main_index i.result n.0) (λ g among same. no_chain_key g.result i.result n.0 same) (index_name m o unit u inv p planned alone i n there one) out;
    }
      where
        among : IsAmong i (insts_of f)
        among = as_among (insts_of f) i there

        w : IsKept i n
        w = kept i n one

        int : IsIntId s o.entry right f in_it i among w.chain n.1
        int = index_int s o.entry right f in_it i among w.chain n.0 n.1 w.index

        lengths : HasLengths int.shape
        lengths = elim int.scalar [ inl is ↦ subst HasLengths (sym is) tt | inr is ↦ subst HasLengths (sym is) tt ]

        declared : IsDeclared P s src key int.shape
        declared = elim int.scalar [ inl is ↦ subst (IsDeclared P s src key) (sym is) tt | inr is ↦ subst (IsDeclared P s src key) (sym is) tt ]

        itself : inst_in f i.result ≡ Some i
        itself = found_at i (insts_of f) (inside s o.entry right f in_it).order.apart among (((inside s o.entry right f in_it).formed i among).result (chain_result i.op w.chain))

        shape_is : N.index_shape i.result n.0 ≡ shape_in s (struct_names key) int.shape
        shape_is =
            ap (λ a. shape_in s (struct_names key) (shape_at src (unwrap_or (type_in Gs f (option_map_or (λ (j : Inst). slice_index (drop 1 j.args) n.0) a 0)) 0))) itself
            ∙ ap (λ k. shape_in s (struct_names key) (shape_at src (unwrap_or (type_in Gs f k) 0))) (place_of (drop 1 i.args) n.0 n.1 w.index).1
            ∙ ap (λ a. shape_in s (struct_names key) (shape_at src (unwrap_or a 0))) int.typed_as
            ∙ ap (λ a. shape_in s (struct_names key) (unwrap_or a plain.uint)) int.shape_is

    -- Where the types of what is declared for its value have shapes, so do all.
    pub tops_say : ((i : Inst) → IsIn i (insts_of f) → is_hoisted (p.scope.form i.result) ≡ true → (t : Tree) × (type_tree Gs i.ty ≡ Some t)) → AllSay P calls N (tops_of p.scope N s f.blocks)
    tops_say results = all_say P calls N (tops_of p.scope N s f.blocks) (λ t among. elim (in_either t (flat_map (variable_tops p.scope N s) f.blocks) (flat_map (hoisted_tops p.scope N s) f.blocks ++ flat_map (index_tops p.scope N s) f.blocks) among) [
      | inl variable ↦
          let b = of_flat (variable_tops p.scope N s) f.blocks t variable in
          let i = of_mapped (variable_top p.scope N s) (filter is_variable b.0.insts) t b.2 in
          let w = of_filter is_variable b.0.insts i.0 i.1 in
          subst Says i.2 (variable_says i.0 (in_function f b.0 i.0 b.1 w.0) w.1)
      | inr more ↦ elim (in_either t (flat_map (hoisted_tops p.scope N s) f.blocks) (flat_map (index_tops p.scope N s) f.blocks) more) [
        | inl hoisted ↦
            let b = of_flat (hoisted_tops p.scope N s) f.blocks t hoisted in
            let i = of_mapped (hoisted_top p.scope N s) (filter (is_hoisted_in p.scope) b.0.insts) t b.2 in
            let w = of_filter (is_hoisted_in p.scope) b.0.insts i.0 i.1 in
            let there = in_function f b.0 i.0 b.1 w.0 in
            let q = results i.0 there w.1 in
            subst Says i.2 (hoisted_says i.0 q.0 there w.1 q.1)
        | inr index ↦
            let b = of_flat (index_tops p.scope N s) f.blocks t index in
            let i = of_flat (λ (j : Inst). map (index_top p.scope N s j) (captured_of p.scope j)) b.0.insts t b.2 in
            let n = of_mapped (index_top p.scope N s i.0) (captured_of p.scope i.0) t i.2 in
            subst Says n.2 (index_says i.0 n.0 (in_function f b.0 i.0 b.1 i.1) n.1)
      ]
    ])
