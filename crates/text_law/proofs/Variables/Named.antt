-- The variables of a function have names: those that the claims of the text give.
use Rattle.std.proofs.Common.{◌≡◌, ◌<◌, ◌+◌, ◌&&◌, ℕ, zero, suc, Bool, true, false, List, [], ◌∷◌, ◌++◌, length, map, filter, Option, Some, None, inl, inr, refl, sym, ap, ◌∙◌, subst, arith, if◌then◌else◌}
use Rattle.std.specs.Prelude.{flat_map, slice_get}
use Rattle.std.specs.Option.{option_map_or}
use Rattle.std.specs.List.{enumerate_from, range_with_len}
use Rattle.spv_ops.specs.Opcode.{is}
use Rattle.spv_ops.specs.Groups.{is_chain}
use Rattle.spv_ops.specs.declared.Op.TheVariants as code
use Rattle.spv_module.specs.State.{ModuleState}
use Rattle.spv_module.specs.Lists.{id}
use Rattle.spv_module.specs.declared.inst.Id.{Id as IdOf}
use Rattle.spv_module.specs.declared.inst.Inst.{Inst}
use Rattle.spv_module.specs.declared.inst.Block.{Block}
use Rattle.spv_module.specs.declared.inst.Function.{Function}
use Rattle.spv_index.specs.Locals.{insts_of}
use Rattle.structure_rules.specs.declared.graph.Exit.{Exit as Terminator}
use Rattle.structure_rules.specs.declared.graph.Exit.TheVariants as terminator
use Rattle.structure_rules.specs.declared.graph.Node.{Node}
use Rattle.structure_rules.specs.Graph.{graph, nth}
use Rattle.structure_recover.specs.Follows.{target, switch_targets}
use Rattle.block_graph.proofs.Within.{graph_sized}
use Rattle.switch_ladder.specs.Flags.{needs_again, needs_leave, needs_fell}
use Rattle.conformance.specs.Rules.{Options}
use Rattle.hoist_plan.specs.declared.form.Form.{Form}
use Rattle.hoist_plan.specs.declared.form.Form.TheVariants.{Local}
use Rattle.phi_copies.specs.declared.moves.Move.{Move}
use Rattle.phi_copies.specs.declared.moves.Move.TheVariants.{Set, Save, Restore}
use Rattle.access_paths.specs.Ways.{captured_indexes}
use Rattle.name_alloc.specs.declared.claims.Key.{Key}
use Rattle.name_alloc.specs.declared.claims.Key.TheVariants.{Again, Leave, Fell}
use Rattle.name_alloc.specs.Naming.{name_of}
use Rattle.glsl_ast.specs.Tree.{TranslationUnit}
use Rattle.function_plan.specs.Phis.{phi_blocks}
use Rattle.function_plan.specs.Planned.{has_name_by}
use Rattle.function_text.specs.Functions.{FunctionPlan, written}
use Rattle.unit_rules.specs.Translation.{Naming}
use Rattle.unit_rules.specs.Unit.{IsUnitOf}
use Rattle.region_law.specs.Leads.{In}
use Rattle.claim_law.specs.Claimed.{IsIn, HasName}
use Rattle.claim_law.proofs.Claim.Flags.{at_inside}
use Rattle.claim_law.proofs.Claim.Named.{result_named, again_named, leave_named, fell_named, captured_named}
use Rattle.text_law.proofs.Naming.Keys.{placed, hoisted_is}
use Rattle.grammar_law.proofs.Unit.Lists.{of_filter, of_numbered_first}
use Rattle.grammar_law.proofs.Meets.Roots.{named_variable}
use Rattle.profile_rules.specs.Places.{is_variable}
use Rattle.text_law.specs.Variables.{of_result, is_spare, is_local, is_local_here, is_hoisted_here, variables, hoisted, locals_of, locals, index_key, kept_of, kept, flag_key, flags, all_flags, with_value, without_value}
use Rattle.text_law.proofs.Variables.Plans.{IsKnown, spare_of_move, edge_spares, to_spares, exit_spares, block_spares, spares}

-- of all keys of a list
abbrev pub AllKeys : (Key → Type 0) → List Key → Type 0
AllKeys P ks = (key : Key) → IsIn key ks → P key

pub all_both : (P : Key → Type 0) (a b : List Key) → AllKeys P a → AllKeys P b → AllKeys P (a ++ b)
all_both P [] b x y = y
all_both P (k ∷ a) b x y = λ key there. elim there [ inl same ↦ x key (inl same) | inr later ↦ all_both P a b (λ q i. x q (inr i)) y key later ]

pub all_flat : {A : Type 0} (P : Key → Type 0) (h : A → List Key) (as' : List A) → ((a : A) → IsIn a as' → AllKeys P (h a)) → AllKeys P (flat_map h as')
all_flat P h [] each = λ key there. absurd there
all_flat P h (a ∷ as') each = all_both P (h a) (flat_map h as') (each a (inl refl)) (all_flat P h as' (λ b i. each b (inr i)))

pub all_mapped : {A : Type 0} (P : Key → Type 0) (h : A → Key) (as' : List A) → ((a : A) → IsIn a as' → P (h a)) → AllKeys P (map h as')
all_mapped P h [] each = λ key there. absurd there
all_mapped P h (a ∷ as') each = λ key there. elim there [ inl same ↦ subst P same (each a (inl refl)) | inr later ↦ all_mapped P h as' (λ b i. each b (inr i)) key later ]

-- what passes a test
pub all_passing : {A : Type 0} (test : A → Bool) (P : A → Type 0) (as' : List A) → ((a : A) → IsIn a as' → test a ≡ true → P a) → (a : A) → IsIn a (filter test as') → P a
all_passing test P as' each a there = let w = of_filter test as' a there in each a w.0 w.1

-- the spares of a function are spares
module _ (p : FunctionPlan) where
  abbrev IsSpareKey : Key → Type 0
  IsSpareKey key = is_spare key ≡ true

  move_spare : (b t : ℕ) (x : Move) → AllKeys IsSpareKey (spare_of_move p b t x)
  move_spare b t (Set v s) = λ key there. absurd there
  move_spare b t (Restore v k) = λ key there. absurd there
  move_spare b t (Save k v) = λ key there. elim there [ inl same ↦ ap is_spare (sym same) | inr none ↦ absurd none ]

  edge_spare : (b t : ℕ) → AllKeys IsSpareKey (edge_spares p b t)
  edge_spare b t = all_flat IsSpareKey (spare_of_move p b t) (p.moves b t) (λ x i. move_spare b t x)

  to_spare : (b : ℕ) (o : Option ℕ) → AllKeys IsSpareKey (to_spares p b o)
  to_spare b None = λ key there. absurd there
  to_spare b (Some t) = edge_spare b t

  exit_spare : (b : ℕ) (e : Terminator) → AllKeys IsSpareKey (exit_spares p b e)
  exit_spare b terminator.Branch = to_spare b (target (graph (written p)) b 0)
  exit_spare b terminator.Conditional = all_both IsSpareKey (to_spares p b (target (graph (written p)) b 0)) (to_spares p b (target (graph (written p)) b 1)) (to_spare b (target (graph (written p)) b 0)) (to_spare b (target (graph (written p)) b 1))
  exit_spare b terminator.Switch = all_flat IsSpareKey (edge_spares p b) (switch_targets (graph (written p)) b) (λ t i. edge_spare b t)
  exit_spare b terminator.Leave = λ key there. absurd there

  pub are_spares : AllKeys IsSpareKey (spares p)
  are_spares = all_flat IsSpareKey (block_spares p) (range_with_len 0 (length (graph (written p)))) (λ b i. by_reached b (nth (graph (written p)) b).reached)
    where
      by_reached : (b : ℕ) (q : Bool) → AllKeys IsSpareKey (if q then exit_spares p b (nth (graph (written p)) b).exit else [])
      by_reached b true = exit_spare b (nth (graph (written p)) b).exit
      by_reached b false = λ key there. absurd there

-- numbers of blocks
pub in_all : (n from b : ℕ) → In b (range_with_len from n) → b < from + n
in_all zero from b there = absurd there
in_all (suc n) from b (inl same) = omega (arith, same)
in_all (suc n) from b (inr there) = let less = in_all n (from + 1) b there in omega (arith, less)

pub as_in : (ts : List ℕ) (b : ℕ) → IsIn b ts → In b ts
as_in [] b there = absurd there
as_in (t ∷ ts) b (inl same) = inl (sym same)
as_in (t ∷ ts) b (inr there) = inr (as_in ts b there)

module _ (m : ModuleState) (o : Options) (unit : TranslationUnit) (u : IsUnitOf m o unit) (p : FunctionPlan) (among : IsIn p u.plans) (known : IsKnown p) (graph_is : p.graph ≡ graph (written p)) (gs : List Inst) (globals_are : gs ≡ m.globals) where
  abbrev found : Naming
  found = name_of u.claimed

  abbrev f : Function
  f = written p

  abbrev g : List Node
  g = graph f

  abbrev Named : Key → Type 0
  Named key = HasName found key

  variables_named : AllKeys Named (variables gs f p.scope.form p.scope.carried)
  variables_named =
      all_mapped Named of_result (filter is_variable (insts_of f)) (all_passing is_variable (λ i. Named (of_result i)) (insts_of f) (λ i there on.
      let at = placed m o unit u p i there in
      result_named m o unit u p i among at (ap (has_name_by (p.scope.form i.result) (nth p.graph at.number).reached) on ∙ named_variable (p.scope.form i.result) (nth p.graph at.number).reached)))

  hoisted_named : AllKeys Named (hoisted gs f p.scope.form p.scope.carried)
  hoisted_named =
      all_mapped Named of_result (filter (is_hoisted_here gs f p.scope.form p.scope.carried) (insts_of f)) (all_passing (is_hoisted_here gs f p.scope.form p.scope.carried) (λ i. Named (of_result i)) (insts_of f) (λ i there on.
      let at = placed m o unit u p i there in
      result_named m o unit u p i among at (ap (λ (x : Form). has_name_by x (nth p.graph at.number).reached (is i.op code.Variable)) (hoisted_is (p.scope.form i.result) on))))

  kept_named : AllKeys Named (kept gs f p.scope.form p.scope.carried)
  kept_named = all_flat Named (kept_of gs f p.scope.form p.scope.carried) (insts_of f) (λ i there. by_test i there (is_chain i.op && p.scope.carried i.result) refl)
    where
      numbers : (ns : List (ℕ × ℕ)) (n : ℕ × ℕ) → IsIn n ns → IsIn n.0 (map (λ (x : ℕ × ℕ). x.0) ns)
      numbers [] n there = absurd there
      numbers (x ∷ ns) n (inl same) = inl (ap (λ (y : ℕ × ℕ). y.0) same)
      numbers (x ∷ ns) n (inr later) = inr (numbers ns n later)

      by_test : (i : Inst) → IsIn i (insts_of f) → (q : Bool) → (is_chain i.op && p.scope.carried i.result) ≡ q → AllKeys Named (if q then map (index_key gs f p.scope.form p.scope.carried i) (captured_indexes gs i) else [])
      by_test i there false off = λ key none. absurd none
      by_test i there true on = all_mapped Named (index_key gs f p.scope.form p.scope.carried i) (captured_indexes gs i) (λ n one.
          captured_named m o unit u p i n.0 among (placed m o unit u p i there)
          (subst (λ (b : Bool). IsIn n.0 (if b then map (λ (x : ℕ × ℕ). x.0) (captured_indexes m.globals i) else [])) (sym on)
          (subst (λ (hs : List Inst). IsIn n.0 (map (λ (x : ℕ × ℕ). x.0) (captured_indexes hs i))) globals_are (numbers (captured_indexes gs i) n one))))

  locals_named : AllKeys Named (locals gs f p.scope.form p.scope.carried)
  locals_named = all_flat Named (locals_of gs f p.scope.form p.scope.carried) (enumerate_from 0 f.blocks) (λ b there. by_reached b (of_numbered_first f.blocks b.0 b.1 there) (nth g b.0).reached refl)
    where
      local_name : (x : Form) (v : Bool) → is_local x ≡ true → has_name_by x true v ≡ true
      local_name Local v on = refl
      local_name x v on = cc

      by_reached : (b : ℕ × Block) → slice_get f.blocks b.0 ≡ Some b.1 → (q : Bool) → (nth g b.0).reached ≡ q → AllKeys Named (if q then map of_result (filter (is_local_here gs f p.scope.form p.scope.carried) b.1.insts) else [])
      by_reached b at false off = λ key none. absurd none
      by_reached b at true on =
          all_mapped Named of_result (filter (is_local_here gs f p.scope.form p.scope.carried) b.1.insts) (all_passing (is_local_here gs f p.scope.form p.scope.carried) (λ i. Named (of_result i)) b.1.insts (λ i there local.
          result_named m o unit u p i among (record { number = b.0; block = b.1; there = at; among = there })
          (ap (λ (h : List Node). has_name_by (p.scope.form i.result) (nth h b.0).reached (is i.op code.Variable)) graph_is ∙ (ap (λ (r : Bool). has_name_by (p.scope.form i.result) r (is i.op code.Variable)) on ∙ local_name (p.scope.form i.result) (is i.op code.Variable) local))))

  -- flags
  flag_named : (key : IdOf → Key) (flag needs : ℕ → Bool) → ((b : ℕ) → In b (range_with_len 0 (length g)) → flag b ≡ needs b) → ((b : ℕ) (block : Block) → slice_get f.blocks b ≡ Some block → flag b ≡ true → Named (key block.label)) → AllKeys Named (flags gs f p.scope.form p.scope.carried key needs)
  flag_named key flag needs same named =
      all_mapped Named (flag_key gs f p.scope.form p.scope.carried key) (filter needs (range_with_len 0 (length g))) (all_passing needs (λ b. Named (flag_key gs f p.scope.form p.scope.carried key b)) (range_with_len 0 (length g)) (λ b there on.
      let here = as_in (range_with_len 0 (length g)) b there in
      let low = in_all (length g) 0 b here in
      let size = graph_sized f in
      let inside : b < length f.blocks = omega (arith, low, size) in
      let block = at_inside f.blocks b inside in
      subst (λ (l : IdOf). Named (key l)) (sym (ap (λ (y : Option Block). id (option_map_or (λ (c : Block). c.label.0) y 0)) block.1)) (named b block.0 block.1 (same b here ∙ on))))

  pub all_named : AllKeys Named (spares p) → AllKeys Named (without_value gs f p.scope.form p.scope.carried ++ with_value gs f p.scope.form p.scope.carried (spares p))
  all_named of_spares =
      all_both Named (without_value gs f p.scope.form p.scope.carried) (with_value gs f p.scope.form p.scope.carried (spares p))
      (all_both Named (hoisted gs f p.scope.form p.scope.carried) (kept gs f p.scope.form p.scope.carried) hoisted_named kept_named)
      (all_both Named (variables gs f p.scope.form p.scope.carried) (locals gs f p.scope.form p.scope.carried ++ (all_flags gs f p.scope.form p.scope.carried ++ spares p)) variables_named
      (all_both Named (locals gs f p.scope.form p.scope.carried) (all_flags gs f p.scope.form p.scope.carried ++ spares p) locals_named
      (all_both Named (all_flags gs f p.scope.form p.scope.carried) (spares p)
      (all_both Named (flags gs f p.scope.form p.scope.carried Again (needs_again g)) (flags gs f p.scope.form p.scope.carried Leave (needs_leave g) ++ flags gs f p.scope.form p.scope.carried Fell (needs_fell g (phi_blocks p.scope.form f)))
      (flag_named Again p.again (needs_again g) known.again_is (λ b block at on. again_named m o unit u p b block among at on))
      (all_both Named (flags gs f p.scope.form p.scope.carried Leave (needs_leave g)) (flags gs f p.scope.form p.scope.carried Fell (needs_fell g (phi_blocks p.scope.form f)))
      (flag_named Leave p.leave (needs_leave g) known.leave_is (λ b block at on. leave_named m o unit u p b block among at on))
      (flag_named Fell p.fell (needs_fell g (phi_blocks p.scope.form f)) known.fell_is (λ b block at on. fell_named m o unit u p b block among at on))))
      of_spares)))
