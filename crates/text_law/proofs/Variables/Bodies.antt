-- The body of a planned function declares the variables of the function.
use Rattle.std.proofs.Common.{◌≡◌, ◌+◌, ◌==◌, ◌&&◌, ℕ, Bool, true, false, List, [], ◌∷◌, ◌++◌, map, filter, None, append-nil, refl, sym, ap, ◌∙◌, arith, if◌then◌else◌}
use Rattle.std.specs.Prelude.{flat_map, bit_and, codes, slice_index, is_none}
use Rattle.spv_ops.specs.Groups.{is_chain}
use Rattle.spv_module.specs.Lists.{id}
use Rattle.spv_module.specs.declared.inst.Inst.{Inst}
use Rattle.spv_module.specs.declared.inst.Function.{Function}
use Rattle.spv_index.specs.Locals.{insts_of}
use Rattle.hoist_plan.specs.declared.form.Form.{Form}
use Rattle.hoist_plan.specs.declared.form.Form.TheVariants.{Gone, Forwarded, Local, Hoisted}
use Rattle.phi_copies.specs.declared.moves.Move.{Move}
use Rattle.phi_copies.specs.declared.moves.Move.TheVariants.{Set, Save, Restore}
use Rattle.access_paths.specs.Ways.{captured_indexes}
use Rattle.name_alloc.specs.declared.claims.Key.{Key}
use Rattle.name_alloc.specs.declared.claims.Key.TheVariants.{Id}
use Rattle.glsl_ast.specs.Tree.{Text, Expr, LStep, Stmt, Stmts, stmts_in}
use Rattle.control_text.specs.Statements.{function_text}
use Rattle.expr_forward.specs.declared.kinds.InstKind.{InstKind}
use Rattle.expr_forward.specs.declared.kinds.InstKind.TheVariants as kind
use Rattle.expr_forward.specs.Scope.{Scope, globals}
use Rattle.expr_forward.specs.Kinds.{kind_of}
use Rattle.expr_forward.specs.Values.{value}
use Rattle.expr_forward.specs.Statements.{set_by, set, is_void, has_result, semantics, bare_call, when_bit, memory_barrier, capture, captured_of, insert_text, is_variable_form, insert_where_named, inst_text, insts_at}
use Rattle.function_text.specs.Functions.{FunctionPlan, written, is_hoisted_in, move_text, blocks_of, top_text, body_text}
use Rattle.list_law.proofs.Lists.{map_joined}
use Rattle.profile_rules.specs.Places.{is_variable}
use Rattle.text_law.specs.Declarations.{valued, unset, opened, occurs, AreSame}
use Rattle.text_law.specs.Variables.{of_result, variables, hoisted, locals, index_key, kept_of, kept, all_flags, with_value, without_value}
use Rattle.text_law.proofs.Variables.Texts.{declared_both, times_in, times_both}
use Rattle.text_law.proofs.Variables.Bare.{IsBare, bare_both, bare_region}
use Rattle.text_law.proofs.Variables.Tops.{opened_first, opened_none, named, index_named, kept_named, top_valued, top_unset, top_declares}
use Rattle.text_law.proofs.Variables.Plans.{IsKnown, spares, count, count_both, tree_declares}

-- what is written of an instruction, and of an edge, declares nothing without a value
module _ (w : Scope) where
  bare_set_by : (i : Inst) (e : Expr) (form : Form) → IsBare (set_by w i e form)
  bare_set_by i e Local = refl
  bare_set_by i e Hoisted = refl
  bare_set_by i e Gone = refl
  bare_set_by i e Forwarded = refl

  bare_bit : (s bit : ℕ) (f : Text) → IsBare (when_bit s bit f)
  bare_bit s bit f = by_test (bit_and s bit == 0)
    where
      by_test : (b : Bool) → IsBare (if b then [] else bare_call f)
      by_test true = refl
      by_test false = refl

  bare_barrier : (s : ℕ) → IsBare (memory_barrier s)
  bare_barrier s = bare_both (when_bit s 0x40 (codes "memoryBarrierBuffer")) (when_bit s 0x100 (codes "memoryBarrierShared")) (bare_bit s 0x40 (codes "memoryBarrierBuffer")) (bare_bit s 0x100 (codes "memoryBarrierShared"))

  bare_captures : (i : Inst) (ns : List (ℕ × ℕ)) → IsBare (map (capture w i) ns)
  bare_captures i [] = refl
  bare_captures i (n ∷ ns) = bare_captures i ns

  either_bare : (q : Bool) (a b : List Stmt) → IsBare a → IsBare b → IsBare (if q then a else b)
  either_bare true a b x y = x
  either_bare false a b x y = y

  bare_insert : (b : ℕ) (i : Inst) (composite : ℕ) (steps : List LStep) (object : ℕ) → IsBare (insert_where_named w b i composite steps object)
  bare_insert b i composite steps object =
      either_bare (is_variable_form (w.form i.result)) (insert_text w b i composite steps object) []
      (bare_both (set w i (value w b composite)) _ (bare_set_by i (value w b composite) (w.form i.result)) refl) refl

  bare_inst : (b : ℕ) (i : Inst) (k : InstKind) → IsBare (inst_text w b i k)
  bare_inst b i kind.Load = bare_set_by i _ (w.form i.result)
  bare_inst b i kind.Store = refl
  bare_inst b i kind.Call = either_bare (is_void w i.ty) _ _ refl (bare_set_by i _ (w.form i.result))
  bare_inst b i (kind.Atomic a) = either_bare (has_result a) _ _ (bare_set_by i _ (w.form i.result)) refl
  bare_inst b i kind.ControlBarrier = bare_both (memory_barrier (semantics w (slice_index i.args 2))) (bare_call (codes "barrier")) (bare_barrier (semantics w (slice_index i.args 2))) refl
  bare_inst b i kind.MemoryBarrier = bare_barrier (semantics w (slice_index i.args 1))
  bare_inst b i kind.Chain = bare_captures i (captured_of w i)
  bare_inst b i kind.CompositeInsert = bare_insert b i _ _ _
  bare_inst b i kind.VectorInsertDynamic = bare_insert b i _ _ _
  bare_inst b i (kind.Value v) = bare_set_by i _ (w.form i.result)
  bare_inst b i kind.Silent = refl

  bare_insts : (b : ℕ) (is : List Inst) → IsBare (flat_map (λ (i : Inst). inst_text w b i (kind_of i.op)) is)
  bare_insts b [] = refl
  bare_insts b (i ∷ is) = bare_both (inst_text w b i (kind_of i.op)) (flat_map (λ (j : Inst). inst_text w b j (kind_of j.op)) is) (bare_inst b i (kind_of i.op)) (bare_insts b is)

bare_moves : (p : FunctionPlan) (b t : ℕ) (ms : List Move) → IsBare (map (move_text p b t) ms)
bare_moves p b t [] = refl
bare_moves p b t (Set v s ∷ ms) = bare_moves p b t ms
bare_moves p b t (Save k v ∷ ms) = bare_moves p b t ms
bare_moves p b t (Restore v k ∷ ms) = bare_moves p b t ms

bare_tree : (p : FunctionPlan) → IsBare (function_text (blocks_of p) p.region)
bare_tree p = bare_region (blocks_of p) (λ b. bare_insts p.scope b (insts_at p.scope b)) (λ b t. bare_moves p b t (p.moves b t)) (record { in_loop = None; continues = false; in_switch = false }) p.region

-- names of lists of keys
twice : (name : Key → Text) (is : List Inst) → map name (map of_result is) ≡ map (λ (i : Inst). name (Id (id i.result))) is
twice name [] = refl
twice name (i ∷ is) = ap (λ (l : List Text). name (Id (id i.result)) ∷ l) (twice name is)

module _ (p : FunctionPlan) where
  abbrev w : Scope
  w = p.scope

  abbrev f : Function
  f = written p

  abbrev name : Key → Text
  name = p.scope.setting.key

  abbrev body : Stmts
  body = stmts_in (body_text p)

  kept_are : (i : Inst) → map name (kept_of (globals w) f w.form w.carried i) ≡ kept_named w i
  kept_are i = by_test (is_chain i.op && w.carried i.result)
    where
      numbers : (ns : List (ℕ × ℕ)) → map name (map (index_key (globals w) f w.form w.carried i) ns) ≡ map (index_named w i) ns
      numbers [] = refl
      numbers (n ∷ ns) = ap (λ (l : List Text). index_named w i n ∷ l) (numbers ns)

      by_test : (b : Bool) → map name (if b then map (index_key (globals w) f w.form w.carried i) (captured_indexes (globals w) i) else []) ≡ map (index_named w i) (if b then captured_indexes (globals w) i else [])
      by_test true = numbers (captured_indexes (globals w) i)
      by_test false = refl

  all_kept : (is : List Inst) → map name (flat_map (kept_of (globals w) f w.form w.carried) is) ≡ flat_map (kept_named w) is
  all_kept [] = refl
  all_kept (i ∷ is) =
      map_joined name (kept_of (globals w) f w.form w.carried i) (flat_map (kept_of (globals w) f w.form w.carried) is)
      ∙ (ap (λ (l : List Text). l ++ map name (flat_map (kept_of (globals w) f w.form w.carried) is)) (kept_are i) ∙ ap (λ (l : List Text). kept_named w i ++ l) (all_kept is))

  -- what is declared without a value
  unset_top : unset body ≡ unset (stmts_in (top_text w f.blocks))
  unset_top =
      declared_both is_none (top_text w f.blocks) (function_text (blocks_of p) p.region)
      ∙ (ap (λ (l : List Text). unset (stmts_in (top_text w f.blocks)) ++ l) (bare_tree p) ∙ append-nil (unset (stmts_in (top_text w f.blocks))))

  pub body_unset : unset body ≡ map name (without_value (globals w) f w.form w.carried)
  body_unset =
      unset_top
      ∙ (top_unset w f.blocks
      ∙ sym (map_joined name (hoisted (globals w) f w.form w.carried) (kept (globals w) f w.form w.carried)
      ∙ (ap (λ (l : List Text). l ++ map name (kept (globals w) f w.form w.carried)) (twice name (filter (is_hoisted_in w) (insts_of f)))
      ∙ ap (λ (l : List Text). map (named w) (filter (is_hoisted_in w) (insts_of f)) ++ l) (all_kept (insts_of f)))))

  pub body_opened : opened body ≡ unset body
  body_opened =
      opened_first (top_text w f.blocks) (function_text (blocks_of p) p.region) (top_declares w f.blocks)
      ∙ (ap (λ (l : List Text). unset (stmts_in (top_text w f.blocks)) ++ l) (opened_none (stmts_in (function_text (blocks_of p) p.region)) (bare_tree p))
      ∙ (append-nil (unset (stmts_in (top_text w f.blocks))) ∙ sym unset_top))

  -- what is declared with one
  pub body_valued : IsKnown p → AreSame (valued body) (map name (with_value (globals w) f w.form w.carried (spares p)))
  body_valued known x =
      let a = times_both x (top_text w f.blocks) (function_text (blocks_of p) p.region) in
      let b : times_in x (top_text w f.blocks) ≡ count x name (variables (globals w) f w.form w.carried) = ap (occurs x) (top_valued w f.blocks ∙ sym (twice name (filter is_variable (insts_of f)))) in
      let c = tree_declares p known x in
      let d = count_both x name (variables (globals w) f w.form w.carried) (locals (globals w) f w.form w.carried ++ (all_flags (globals w) f w.form w.carried ++ spares p)) in
      omega (arith, a, b, c, d)
