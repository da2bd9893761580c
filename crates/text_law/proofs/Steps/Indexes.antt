-- The indexes of chains are ints (T6). Where a chain is carried, each index that is no constant is kept, in the shape of its type, and a path's word for it is that of the chain; at an instruction behind the chain, in its block, it has a variable.
use Rattle.std.proofs.Common.{◌≡◌, ◌⊎◌, ◌≤◌, ◌==◌, ◌&&◌, ◌||◌, ◌++◌, ◌-◌, not, ℕ, Bool, true, false, List, [], ◌∷◌, drop, length, Contains, Option, Some, None, unwrap_or, inl, inr, refl, sym, ap, ◌∙◌, subst, if◌then◌else◌}
use Rattle.std.specs.Prelude.{nat_lt, slice_get, slice_index, slice_index_or, option_and_then}
use Rattle.std.specs.Option.{option_map_or, option_or}
use Rattle.std.specs.List.{enumerate_from, list_any}
use Rattle.std.proofs.lemmas.Bool.{and_parts, and_from, or_cases}
use Rattle.std.proofs.lemmas.Option.{same_Some}
use Rattle.spv_ops.specs.Opcode.{is}
use Rattle.spv_ops.specs.Groups.{is_chain, is_constant}
use Rattle.spv_ops.specs.declared.Op.TheVariants as code
use Rattle.spv_module.specs.Held.{global}
use Rattle.spv_module.specs.Lists.{id}
use Rattle.spv_module.specs.State.{ModuleState}
use Rattle.spv_module.specs.declared.inst.Inst.{Inst}
use Rattle.spv_module.specs.declared.inst.Block.{Block}
use Rattle.spv_module.specs.declared.inst.Function.{Function}
use Rattle.spv_types.specs.Tree as plain
use Rattle.spv_types.specs.Tree.{Tree}
use Rattle.spv_types.specs.Types.{tree_at, type_tree}
use Rattle.spv_index.specs.Locals.{insts_of, inst_in, typed, local_type, type_in}
use Rattle.conformance.specs.Rules.{Options}
use Rattle.module_check.specs.Judged.{IsFine}
use Rattle.module_check.specs.ReadFrom.{IsReadFrom}
use Rattle.traces.specs.Invocations.{Invocation, IsInvocation}
use Rattle.access_paths.specs.Ways.{is_constant_index, captured_indexes}
use Rattle.use_chains.specs.Slots.{inst_at, IsLive}
use Rattle.use_chains.specs.Links.{Link}
use Rattle.hoist_plan.specs.Plan.{Placed, mentions_of, results, carries, is_carried_with, carried_from}
use Rattle.module_semantics.specs.Operands.{of_module}
use Rattle.module_semantics.specs.Setting.{Setting}
use Rattle.name_alloc.specs.declared.claims.Key.TheVariants.{Id}
use Rattle.name_alloc.specs.Naming.{name_of}
use Rattle.hoist_plan.specs.declared.form.Form.TheVariants.{Forwarded}
use Rattle.glsl_ast.specs.Tree.{Expr, name, TranslationUnit}
use Rattle.glsl_semantics.specs.Shapes.{Shape, same_shape}
use Rattle.text_rules.specs.Declarations.{shape_at}
use Rattle.text_items.specs.Globals.{global_by}
use Rattle.expr_forward.specs.Paths.{index_expr}
use Rattle.expr_forward.specs.Scope.{Scope, type_of}
use Rattle.function_text.specs.Functions.{FunctionPlan, written}
use Rattle.unit_rules.specs.Translation.{id_text}
use Rattle.unit_rules.specs.Unit.{source_of, IsUnitOf}
use Rattle.list_law.proofs.Lists.{place_of}
use Rattle.list_law.proofs.Options.{no_some}
use Rattle.agree_law.specs.Agree.{Naming}
use Rattle.agree_law.specs.Blocks.{IsOf, have_result}
use Rattle.agree_law.specs.Points.{Body}
use Rattle.call_law.specs.Known.{IsFunctionOf, LendsWhole}
use Rattle.global_law.specs.Parts.{StructNames, shape_in}
use Rattle.global_law.specs.Walks.{struct_names}
use Rattle.global_law.specs.Writings.{IsNumber}
use Rattle.plan_law.specs.InOrder.{IsAmong}
use Rattle.plan_law.proofs.Order.{found}
use Rattle.typed_law.specs.Conforms.{IsConforming, IsConformingIn}
use Rattle.typed_law.proofs.Lists.{clash}
use Rattle.typed_law.proofs.Values.{global_row, inside, variable_type_is}
use Rattle.claim_law.specs.Claimed.{IsIn}
use Rattle.claim_law.proofs.Claim.Constants.{found_in}
use Rattle.claim_law.proofs.Claim.Listed.{any_in}
use Rattle.grammar_law.specs.Words.{AreOfStructs}
use Rattle.grammar_law.proofs.Unit.Lists.{as_among, in_filter, numbered_first, same_test, some_length, test_same}
use Rattle.grammar_law.proofs.Unit.Kept.{dropped}
use Rattle.grammar_law.proofs.Unit.Forms.{made_by}
use Rattle.grammar_law.proofs.Unit.Shaped.{pointer_none}
use Rattle.grammar_law.proofs.Unit.Sets.{chain_no_phi, mention, index_apart}
use Rattle.grammar_law.proofs.Unit.Ways.{HaveKinds, F, R, V, in_module, plan_is, written_is, local_outside, own_type_of}
use Rattle.grammar_law.specs.Formed.{IsFormedBlock}
use Rattle.global_law.specs.Sources.{source_of as run_source}
use Rattle.text_law.proofs.Naming.Keys.{S, key, names, some_in}
use Rattle.text_law.proofs.Naming.Once.{chain_result}
use Rattle.text_law.specs.Left.{IsLeftOfGlobals}
use Rattle.text_law.proofs.Outside.Indexed.{IsIntId, index_int}
use Rattle.text_law.proofs.Outside.Starts.{no_module}
use Rattle.text_law.proofs.Written.NamesOf.{names_are}
use Rattle.text_law.proofs.Written.Outside.{none_where}
use Rattle.text_law.proofs.Written.Says.{IsReady, variable_there}
use Rattle.text_law.proofs.Written.Shapes.{shape_of_type}
use Rattle.text_law.proofs.Insts.Indexes.{at_end}

-- the shape of an int
number_in : (s : Setting) (y : StructNames) (t : Tree) → (t ≡ plain.int) ⊎ (t ≡ plain.uint) → IsNumber (shape_in s y t) × (same_shape (shape_in s y t) (shape_in s y t) ≡ true)
number_in s y t (inl same) = subst (λ (x : Tree). IsNumber (shape_in s y x) × (same_shape (shape_in s y x) (shape_in s y x) ≡ true)) (sym same) (tt, refl)
number_in s y t (inr same) = subst (λ (x : Tree). IsNumber (shape_in s y x) × (same_shape (shape_in s y x) (shape_in s y x) ≡ true)) (sym same) (tt, refl)

-- no struct is named
abbrev pub no_names : List (List ℕ)
no_names = []

-- what is carried is mentioned
module _ (f : Function) (links : List Link) where
  carried_from_mentioned : (ps : List Placed) → ((p : Placed) → IsIn p ps → p.mentions ≡ mentions_of links p.result) → (n : ℕ) → carried_from f ps n ≡ true → nat_lt 0 (length (mentions_of links n)) ≡ true
  carried_from_mentioned [] own n on = cc
  carried_from_mentioned (p ∷ ps) own n on = by_test (is_carried_with f (carried_from f ps) p) refl on (carried_from_mentioned ps (λ q q_in. own q (inr q_in)))
    where
      by_own : (carried_from f ps p.result ≡ true) ⊎ (list_any (carries f (carried_from f ps) p.block) p.mentions ≡ true) → ((k : ℕ) → carried_from f ps k ≡ true → nat_lt 0 (length (mentions_of links k)) ≡ true) → nat_lt 0 (length (mentions_of links p.result)) ≡ true
      by_own (inl old) later = later p.result old
      by_own (inr any) later =
          let x = some_in (carries f (carried_from f ps) p.block) p.mentions any in
          ap (λ xs. nat_lt 0 (length xs)) (sym (own p (inl refl))) ∙ some_length p.mentions x.0 x.1

      by_either : is_carried_with f (carried_from f ps) p ≡ true → (carried_from f ps n ≡ true) ⊎ ((n == p.result) ≡ true) → ((k : ℕ) → carried_from f ps k ≡ true → nat_lt 0 (length (mentions_of links k)) ≡ true) → nat_lt 0 (length (mentions_of links n)) ≡ true
      by_either is (inl old) later = later n old
      by_either is (inr same) later =
          ap (λ (k : ℕ). nat_lt 0 (length (mentions_of links k))) (test_same n p.result same)
          ∙ by_own (or_cases (carried_from f ps p.result) (list_any (carries f (carried_from f ps) p.block) p.mentions) (and_parts (is_chain p.op) (carried_from f ps p.result || list_any (carries f (carried_from f ps) p.block) p.mentions) is).1) later

      by_test : (b : Bool) → is_carried_with f (carried_from f ps) p ≡ b → elim b as (λ b. Bool) [ true ↦ carried_from f ps n || (n == p.result) | false ↦ carried_from f ps n ] ≡ true → ((k : ℕ) → carried_from f ps k ≡ true → nat_lt 0 (length (mentions_of links k)) ≡ true) → nat_lt 0 (length (mentions_of links n)) ≡ true
      by_test true is told later = by_either is (or_cases (carried_from f ps n) (n == p.result) told) later
      by_test false is told later = later n told

  pub carried_mentioned : (n : ℕ) → carried_from f (results links f) n ≡ true → nat_lt 0 (length (mentions_of links n)) ≡ true
  carried_mentioned n on =
      carried_from_mentioned (results links f) (λ p p_in. let w = made_by links f p p_in in subst (λ (q : Placed). q.mentions ≡ mentions_of links q.result) w.is refl) n on

module _ (bytes : List ℕ) (m : ModuleState) (o : Options) (read : IsReadFrom bytes m) (fine : IsFine m o) (unit : TranslationUnit) (u : IsUnitOf m o unit) (inv : Invocation) (told : IsInvocation inv) (left : IsLeftOfGlobals bytes m o)
    (right : IsConforming m o.entry) (kinds : HaveKinds m.globals) (p : FunctionPlan) (among : IsIn p u.plans) (lends : LendsWhole (S m o unit u inv)) where
  abbrev s : Setting
  s = S m o unit u inv

  abbrev N : Naming
  N = names m o unit u inv p

  abbrev gs : List Inst
  gs = m.globals

  abbrev Fn : Function
  Fn = F s o.entry right kinds o unit u p among

  abbrev Where : Scope
  Where = V s o.entry right kinds o unit u p among

  abbrev Marks : List Bool
  Marks = R s o.entry right kinds o unit u p among

  abbrev Y : StructNames
  Y = struct_names (key m o unit u inv)

  pub no_structs : AreOfStructs m.globals (name_of u.claimed) no_names
  no_structs w on = cc

  pub in_mod : Contains m.functions Fn
  in_mod = in_module s o.entry right kinds o unit u p among

  in_it : IsConformingIn m Fn
  in_it = inside s o.entry right Fn in_mod

  same_function : written p ≡ Fn
  same_function = written_is s o.entry right kinds o unit u p among

  -- what has a shape and is no constant is nothing of the module
  not_of_module : (n ty : ℕ) (t : Tree) → type_in gs Fn n ≡ Some ty → type_tree gs ty ≡ Some t → is_constant_index gs n ≡ false → global gs n ≡ None
  not_of_module n ty t typed_as shaped off = none_where (global gs n) (λ g at. by_typed g at (typed g) refl (ap (λ (h : Option Inst). option_or (option_and_then typed h) (local_type Fn n)) at))
    where
      by_typed : (g : Inst) → global gs n ≡ Some g → (x : Option ℕ) → typed g ≡ x → type_in gs Fn n ≡ option_or x (local_type Fn n) → ⊥
      by_typed g at None typed_is type_is = no_some g (sym (local_outside s o.entry right kinds o unit u p among n ty (sym type_is ∙ typed_as)) ∙ at)
      by_typed g at (Some y) typed_is type_is = by_kind (kinds g there.0 own.1)
        where
          own : (g.ty ≡ y) × (g.ty ≡ 0 → ⊥)
          own = own_type_of g y typed_is

          there : IsIn g gs × (g.result ≡ n)
          there = found_in gs n g at

          shape_is : type_tree gs g.ty ≡ Some t
          shape_is = ap (type_tree gs) (own.0 ∙ same_Some y ty (sym type_is ∙ typed_as)) ∙ shaped

          by_kind : (is_constant g.op ≡ true) ⊎ (is g.op code.Variable ≡ true) → ⊥
          by_kind (inl constant) = clash (sym constant ∙ (ap (λ (x : Option Inst). option_map_or (λ (h : Inst). is_constant h.op) x false) (sym at) ∙ off))
          by_kind (inr variable) =
              let row = global_row s o.entry right g (as_among gs g there.0) own.1 in
              pointer_none gs row.0 t (variable_type_is g.op row.0 variable row.2) (ap (λ x. option_map_or (tree_at gs) x None) (sym row.1) ∙ shape_is)

  -- an index of a chain of the function
  module _ (q : Inst) (q_in : IsIn q (insts_of Fn)) (on : is_chain q.op ≡ true) (k n : ℕ) (at : slice_get (drop 1 q.args) k ≡ Some n) where
    pub among_it : IsAmong q (insts_of Fn)
    among_it = as_among (insts_of Fn) q q_in

    pub int : IsIntId s o.entry right Fn in_mod q among_it on n
    int = index_int s o.entry right Fn in_mod q among_it on k n at

    abbrev pub I : Shape
    I = shape_in s Y int.shape

    pub number : IsNumber I × (same_shape I I ≡ true)
    number = number_in s Y int.shape int.scalar

    pub own_shape : N.shape n ≡ I
    own_shape = shape_of_type m o unit u inv p n int.type int.shape (ap (λ (g : Function). type_in gs g n) same_function ∙ int.typed_as) int.shape_is

    some : q.result ≡ 0 → ⊥
    some = (in_it.formed q among_it).result (chain_result q.op on)

    made : inst_in (written p) q.result ≡ Some q
    made = ap (λ (g : Function). inst_in g q.result) same_function ∙ found q (insts_of Fn) in_it.order.apart among_it some

    -- it is kept in the shape of its type
    pub kept_shape : N.index_shape q.result k ≡ I
    kept_shape =
        ap (λ (x : Option Inst). shape_in s Y (shape_at (run_source s o.overrides) (unwrap_or (type_in gs (written p) (option_map_or (λ (i : Inst). slice_index (drop 1 i.args) k) x 0)) 0))) made
        ∙ (ap (λ (j : ℕ). shape_in s Y (shape_at (run_source s o.overrides) (unwrap_or (type_in gs (written p) j) 0))) (place_of (drop 1 q.args) k n at).1
        ∙ (ap (λ (x : Option ℕ). shape_in s Y (shape_at (run_source s o.overrides) (unwrap_or x 0))) (ap (λ (g : Function). type_in gs g n) same_function ∙ int.typed_as)
        ∙ ap (λ (x : Option Tree). shape_in s Y (unwrap_or x plain.uint)) int.shape_is))

    -- what a path has of it is counted from the path's end
    pub counted : (from indexes : List ℕ) → length indexes ≡ length (drop 1 q.args) → N.index_in q.result k (from ++ indexes) ≡ slice_index indexes k
    counted from indexes same =
        ap (λ (y : Option Inst). option_map_or (λ (x : Inst). slice_index (drop (length (from ++ indexes) - length (drop 1 x.args)) (from ++ indexes)) k) y 0) made
        ∙ ap (λ (path : List ℕ). slice_index path k) (at_end from indexes (length (drop 1 q.args)) same)

    abbrev kept_test : (ℕ → Bool) → Inst → Bool
    kept_test carried i = list_any (λ (x : ℕ × ℕ). x.0 == k) (if is_chain i.op && carried i.result then captured_indexes gs i else [])

    -- that is kept where the chain is carried
    pub is_kept : Where.carried q.result ≡ true → is_constant_index gs n ≡ false → N.is_kept q.result k ≡ true
    is_kept carried off =
        ap (λ (x : Option Inst). option_map_or (kept_test p.scope.carried) x false) made
        ∙ (ap (λ (b : Bool). list_any (λ (x : ℕ × ℕ). x.0 == k) (if b then captured_indexes gs q else [])) (and_from (is_chain q.op) (p.scope.carried q.result) on (ap (λ (w : Scope). w.carried q.result) (plan_is s o.entry right kinds o unit u p among).scope_is ∙ carried))
        ∙ any_in (λ (x : ℕ × ℕ). x.0 == k) (captured_indexes gs q) (k, n)
        (in_filter (λ (x : ℕ × ℕ). not (is_constant_index gs x.1)) (enumerate_from 0 (drop 1 q.args)) (k, n) (numbered_first (drop 1 q.args) k n at) (ap not off)) (same_test k k refl))

    module _ (off : is_constant_index gs n ≡ false) where
      none : global gs n ≡ None
      none = not_of_module n int.type int.shape int.typed_as int.shape_is off

      unread : Where.setting.global n ≡ None
      unread = ap (option_and_then (global_by (source_of m o u.entry) (id_text (name_of u.claimed)))) none

      pub written_so : index_expr Where.setting n ≡ name (N.name n)
      written_so = ap (λ (e : Option Expr). unwrap_or e (name (Where.setting.key (Id (id n))))) unread

      pub own_none : of_module s n ≡ None
      own_none = no_module bytes m o read fine unit u inv told left p among n none

      shaped : type_tree gs (type_of Where n) ≡ Some int.shape
      shaped = ap (λ (x : Option ℕ). type_tree gs (unwrap_or x 0)) int.typed_as ∙ int.shape_is

      -- in its block it has a variable
      module _ (b : ℕ) (holder : Block) (in_block : slice_get Fn.blocks b ≡ Some holder) (stands : IsIn q holder.insts) (place : ℕ) (there : inst_at Fn b place ≡ Some q) (here : slice_index_or Marks b false ≡ true) (live : IsLive Fn Marks b place) (one : IsFunctionOf Fn m.functions)
          (done : List Inst) (body : Body Fn b) (formed : IsFormedBlock body.block.insts) (befores : List Inst) (i : Inst) (rest : List Inst) (split : formed.behind ≡ befores ++ i ∷ rest) (all : (j : Inst) → IsOf j befores → IsOf j done) (early : q.at ≤ i.at) where
        ready : IsReady s o.entry right kinds o unit u p among lends b i.at n
        ready = record {
          value = record {
            user = q;
            mentioned = mention s o.entry right kinds o unit u p among no_names no_structs b holder q in_block stands some place k n on there here live (dropped q.args k n at);
            no_phi = chain_no_phi q.op on;
            shape = int.shape;
            shaped = shaped;
          };
          early = early;
        }

        apart : Where.form n ≡ Forwarded → ⊥
        apart = index_apart s o.entry right kinds o unit u p among no_names no_structs b holder q in_block stands some place k n on there here live (dropped q.args k n at) int.shape shaped unread

        pub stands_there : (N.is_outer n ≡ true) ⊎ ((N.is_local n ≡ true) × (have_result done n ≡ true))
        stands_there = variable_there s o.entry right kinds o unit u p among lends b one N (names_are m o right kinds unit u inv p among lends b) done body formed befores i rest split all n ready unread apart
