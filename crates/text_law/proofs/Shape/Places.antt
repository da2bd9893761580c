-- A place is a path to memory: it begins with the name of a variable, of a parameter that is a pointer, or of what is built in, and its indexes do nothing that is seen.
use Rattle.std.proofs.Common.{◌≡◌, ◌++◌, ℕ, Bool, true, false, List, [], ◌∷◌, map, filter, Contains, Option, Some, None, unwrap_or, inl, inr, refl, sym, ap, ◌∙◌, subst, arith, if◌then◌else◌}
use Rattle.std.specs.Prelude.{◌⊎◌, bytes_eq, is_some, option_and_then, option_to_list, slice_index}
use Rattle.std.specs.Option.{option_map_or}
use Rattle.std.proofs.lemmas.Bool.{or_left, or_right}
use Rattle.spv_ops.specs.Opcode.{is}
use Rattle.spv_ops.specs.OpGroups.{group_of}
use Rattle.spv_ops.specs.Groups.{is_chain}
use Rattle.spv_ops.specs.Enumerants.{built_in_of_number, decoration_number}
use Rattle.spv_ops.specs.declared.BuiltIn.{BuiltIn}
use Rattle.spv_ops.specs.declared.BuiltIn.TheVariants as built
use Rattle.spv_ops.specs.declared.Decoration.TheVariants as decoration
use Rattle.spv_ops.specs.declared.Op.TheVariants as code
use Rattle.spv_module.specs.Held.{global}
use Rattle.spv_module.specs.Lists.{id}
use Rattle.spv_module.specs.declared.inst.Id.{Id as IdOf}
use Rattle.spv_module.specs.declared.inst.Inst.{Inst}
use Rattle.spv_module.specs.declared.inst.Function.{Function}
use Rattle.spv_decor.specs.Rows.{value_of}
use Rattle.spv_index.specs.Locals.{insts_of}
use Rattle.spv_index.specs.Pointers.{pointee_of}
use Rattle.conformance.specs.Rules.{Options}
use Rattle.module_semantics.specs.Setting.{Setting}
use Rattle.access_paths.specs.Ways.{base, path}
use Rattle.name_alloc.specs.declared.claims.Key.{Key}
use Rattle.name_alloc.specs.declared.claims.Key.TheVariants.{Id, Captured}
use Rattle.name_alloc.specs.Naming.{name_of}
use Rattle.glsl_ast.specs.Tree.{Text, Expr, name, TranslationUnit}
use Rattle.text_rules.specs.Constants.{Source, is_constant, constant_expr}
use Rattle.text_items.specs.Globals.{built_in_name, built_in_text, is_input, global_by}
use Rattle.expr_forward.specs.Scope.{Scope}
use Rattle.expr_forward.specs.Paths.{index_expr, name_in, base_text, steps_text, place_text}
use Rattle.expr_forward.specs.Values.{length_text}
use Rattle.function_text.specs.Functions.{FunctionPlan}
use Rattle.unit_rules.specs.Translation.{Naming, text_of, id_text}
use Rattle.unit_rules.specs.Unit.{source_of, IsUnitOf}
use Rattle.claim_law.specs.Uses.{Words, UsesExpr, UseSteps}
use Rattle.claim_law.proofs.Spell.Values.{further-measured}
use Rattle.global_law.specs.Chains.{NoneMakes, ChainsRise}
use Rattle.typed_law.specs.Conforms.{IsConforming}
use Rattle.typed_law.specs.Words.{AreGivenWords}
use Rattle.typed_law.proofs.Values.{inside, typed_result}
use Rattle.claim_law.specs.Claimed.{IsIn}
use Rattle.claim_law.specs.Told.{is_among, built_in_variables, built_ins, is_among as is_in}
use Rattle.claim_law.proofs.Claim.Listed.{in_left, in_right, in_mapped}
use Rattle.claim_law.proofs.Claim.Variables.{variable_no_constant}
use Rattle.claim_law.specs.Blocks.{FitWords}
use Rattle.region_law.proofs.Flags.{own_text}
use Rattle.grammar_law.specs.Words.{IsOwnName, words_of, AreOfStructs}
use Rattle.grammar_law.proofs.Unit.Lists.{in_filter, as_among, as_parameter}
use Rattle.grammar_law.proofs.Unit.Indexes.{IsInt, index_int}
use Rattle.grammar_law.proofs.Unit.Ruled.{chains, rise}
use Rattle.grammar_law.proofs.Unit.ResultShapes.{stands_inside}
use Rattle.grammar_law.proofs.Unit.Ways.{HaveKinds, F, V, in_module, ordered}
use Rattle.grammar_law.proofs.Meets.PointerStarts.{IsStart, outside, lent, own, pointer_start}
use Rattle.profile_rules.specs.Places.{is_variable}
use Rattle.text_law.specs.Walks.{Outer}
use Rattle.text_law.specs.Shape.{is_pointer, memory_ids, names_in, outer_of}
use Rattle.text_law.specs.Unseen.{unseen, IsPath}
use Rattle.text_law.proofs.Shape.Named.{other_unseen}
use Rattle.text_law.proofs.Shape.Apart.{value_unseen}
use Rattle.text_law.proofs.Shape.UnseenValues.{read_unseen}
use Rattle.text_law.proofs.Shape.Traced.{IsIndex, IsPointer, traced, steps-unseen}

-- what is built in
is_built_in : (q : Option BuiltIn) → is_in built_in_variables (built_in_name q) ≡ true
is_built_in None = refl
is_built_in (Some built.NumWorkgroups) = refl
is_built_in (Some built.WorkgroupId) = refl
is_built_in (Some built.LocalInvocationId) = refl
is_built_in (Some built.GlobalInvocationId) = refl
is_built_in (Some b) = refl

in_later : (xs ys : List Text) (x : Text) → is_in ys x ≡ true → is_in (xs ++ ys) x ≡ true
in_later [] ys x on = on
in_later (y ∷ xs) ys x on = or_right (bytes_eq x y) (is_in (xs ++ ys) x) (in_later xs ys x on)

module _ (s : Setting) (entry : Option (List ℕ)) (right : IsConforming s.of entry) (kinds : HaveKinds s.of.globals) (o : Options) (unit : TranslationUnit) (u : IsUnitOf s.of o unit) (p : FunctionPlan) (among : IsIn p u.plans) (words : (g : Inst) → IsIn g s.of.globals → FitWords g.args) (given : AreGivenWords o.overrides) (names : List (List ℕ)) (structs : AreOfStructs s.of.globals (name_of u.claimed) names) where
  abbrev Gs : List Inst
  Gs = s.of.globals

  abbrev Found : Naming
  Found = name_of u.claimed

  abbrev Fn : Function
  Fn = F s entry right kinds o unit u p among

  abbrev Where : Scope
  Where = V s entry right kinds o unit u p among

  abbrev Src : Source
  Src = source_of s.of o u.entry

  abbrev Out : Outer
  Out = outer_of (source_of s.of o u.entry) (name_of u.claimed) unit (F s entry right kinds o unit u p among)

  abbrev X : Words
  X = unseen (outer_of (source_of s.of o u.entry) (name_of u.claimed) unit (F s entry right kinds o unit u p among))

  abbrev W : Words
  W = words_of s.of.globals (name_of u.claimed) names

  in_it : Contains s.of.functions Fn
  in_it = in_module s entry right kinds o unit u p among

  -- an index of a chain is an int
  pub index_is : (n : ℕ) → IsIndex Gs Fn n → UsesExpr X (index_expr Where.setting n)
  index_is n is = by_global (Where.setting.global n) refl
    where
      int : IsInt s entry right kinds o unit u p among names structs n
      int = index_int s entry right kinds o unit u p among names structs is.chain (chains s entry right kinds o unit u p among names structs is.chain is.there is.on) n is.among

      by_global : (q : Option Expr) → Where.setting.global n ≡ q → UsesExpr X (unwrap_or q (name (text_of Found (Id (id n)))))
      by_global None at = value_unseen s entry right kinds o unit u p among n int.0 int.1
      by_global (Some e) at = read_unseen s entry right kinds o unit u p among words given n int.0 int.1 e at

  pub kept_is : (chain : IdOf) (k : ℕ) → is_in Out.memory (text_of Found (Captured chain k)) ≡ false
  kept_is chain k = other_unseen Found u.lawful (memory_ids Src Fn) (Captured chain k) refl refl

  based : (j : Inst) → IsIn j (insts_of Fn) → is_chain j.op ≡ true → IsPointer Gs Fn (base j)
  based j j_in on = let leads = (chains s entry right kinds o unit u p among names structs j j_in on).leads in (leads.0, leads.2)

  rises : ChainsRise (insts_of Fn)
  rises = rise s entry right kinds o unit u p among names structs

  steps_unseen : (b n : ℕ) → UseSteps X (steps_text Where.setting (unwrap_or (pointee_of Gs Fn (path Gs Fn b n).base) 0) (path Gs Fn b n).steps)
  steps_unseen b n = steps-unseen Out Gs Fn Where.setting index_is kept_is (unwrap_or (pointee_of Gs Fn (path Gs Fn b n).base) 0) (path Gs Fn b n).steps (traced Gs Fn rises based b n).1

  -- The law of lengths: the place of which one is asked is not read.
  pub length_unseen : (b : ℕ) (i : Inst) → UsesExpr X (length_text Where b i)
  length_unseen b i =
      let n : ℕ = slice_index i.args 0 in
      ((tt, tt), ((further-measured X (name (base_text Where.setting (path Gs Fn b n).base)) (steps_text Where.setting (unwrap_or (pointee_of Gs Fn (path Gs Fn b n).base) 0) (path Gs Fn b n).steps) tt (steps_unseen b n), tt), tt))

  -- the name of one of these ids
  in_names : (ns : List ℕ) (n : ℕ) (x : Text) → IsIn n ns → Found (Id (id n)) ≡ Some x → is_in (names_in Found ns ++ built_in_variables) x ≡ true
  in_names [] n x there is = absurd there
  in_names (k ∷ ns) n x there is = by_name (Found (Id (id k))) refl there (λ rest. in_names ns n x rest is)
    where
      own_name : (q : Option Text) → Found (Id (id k)) ≡ q → k ≡ n → is_in ((option_to_list q ++ names_in Found ns) ++ built_in_variables) x ≡ true
      own_name q at same =
          subst (λ (y : Option Text). is_in ((option_to_list y ++ names_in Found ns) ++ built_in_variables) x ≡ true) (sym is ∙ (ap (λ (j : ℕ). Found (Id (id j))) (sym same) ∙ at))
          (or_left (bytes_eq x x) (is_in (names_in Found ns ++ built_in_variables) x) (own_text x))

      by_name : (q : Option Text) → Found (Id (id k)) ≡ q → (k ≡ n) ⊎ IsIn n ns → (IsIn n ns → is_in (names_in Found ns ++ built_in_variables) x ≡ true) → is_in ((option_to_list q ++ names_in Found ns) ++ built_in_variables) x ≡ true
      by_name q at (inl same) later = own_name q at same
      by_name None at (inr rest) later = later rest
      by_name (Some y) at (inr rest) later = or_right (bytes_eq x y) (is_in (names_in Found ns ++ built_in_variables) x) (later rest)

  -- what is a word of the text is the name of its key
  named_some : (key : Key) → W.value (text_of Found key) → (x : Text) × (Found key ≡ Some x)
  named_some key has = by_name (Found key) refl has.0
    where
      never : (IsOwnName Gs Found [] ⊎ (is_among built_ins [] ≡ true)) → ⊥
      never (inl own_name) = let some = (u.lawful.each own_name.key [] own_name.is).word.some in omega (arith, some)
      never (inr on) = cc

      by_name : (q : Option Text) → Found key ≡ q → IsOwnName Gs Found (unwrap_or q []) ⊎ (is_among built_ins (unwrap_or q []) ≡ true) → (x : Text) × (Found key ≡ Some x)
      by_name (Some x) at word = (x, at)
      by_name None at word = absurd (never word)

  module _ (inner : (i : Inst) → IsIn i (insts_of (F s entry right kinds o unit u p among)) → stands_inside (group_of i.op) ≡ true) where
    -- where a path begins
    module _ (n ty : ℕ) (none : NoneMakes n (insts_of Fn)) (points : pointee_of Gs Fn n ≡ Some ty) (named : W.value (base_text Where.setting n)) where
      abbrev IsMemory : Type 0
      IsMemory = is_in Out.memory (base_text Where.setting n) ≡ true

      by_own : Where.setting.global n ≡ None → IsIn n (memory_ids Src Fn) → IsMemory
      by_own itself there =
          let at : base_text Where.setting n ≡ text_of Found (Id (id n)) = ap (λ (q : Option Expr). option_map_or name_in q (text_of Found (Id (id n)))) itself in
          let x = named_some (Id (id n)) (subst (λ (y : Text). W.value y) at named) in
          subst (λ (y : Text). is_in Out.memory y ≡ true) (sym (at ∙ ap (λ (q : Option Text). unwrap_or q []) x.1)) (in_names (memory_ids Src Fn) n x.0 there x.1)

      by_nothing : global Gs n ≡ None → Where.setting.global n ≡ None
      by_nothing none_there = ap (option_and_then (global_by Src (id_text Found))) none_there

      in_globals : (g : Inst) → IsIn g Gs → is g.op code.Variable ≡ true → g.result ≡ n → IsIn n (memory_ids Src Fn)
      in_globals g g_in on same = in_left n (map (λ (h : Inst). h.result) (filter is_variable Gs)) (map (λ (q : IdOf × IdOf). q.0.0) (filter (is_pointer Src) Fn.params) ++ map (λ (i : Inst). i.result) (filter is_variable (insts_of Fn)))
          (subst (λ (k : ℕ). IsIn k (map (λ (h : Inst). h.result) (filter is_variable Gs))) same (in_mapped (λ (h : Inst). h.result) (filter is_variable Gs) g (in_filter is_variable Gs g g_in on)))

      in_params : (q : IdOf × IdOf) → IsIn q Fn.params → is_pointer Src q ≡ true → q.0.0 ≡ n → IsIn n (memory_ids Src Fn)
      in_params q q_in on same = in_right n (map (λ (h : Inst). h.result) (filter is_variable Gs)) (map (λ (r : IdOf × IdOf). r.0.0) (filter (is_pointer Src) Fn.params) ++ map (λ (i : Inst). i.result) (filter is_variable (insts_of Fn)))
          (in_left n (map (λ (r : IdOf × IdOf). r.0.0) (filter (is_pointer Src) Fn.params)) (map (λ (i : Inst). i.result) (filter is_variable (insts_of Fn)))
          (subst (λ (k : ℕ). IsIn k (map (λ (r : IdOf × IdOf). r.0.0) (filter (is_pointer Src) Fn.params))) same (in_mapped (λ (r : IdOf × IdOf). r.0.0) (filter (is_pointer Src) Fn.params) q (in_filter (is_pointer Src) Fn.params q q_in on))))

      in_function : (j : Inst) → IsIn j (insts_of Fn) → is j.op code.Variable ≡ true → j.result ≡ n → IsIn n (memory_ids Src Fn)
      in_function j j_in on same = in_right n (map (λ (h : Inst). h.result) (filter is_variable Gs)) (map (λ (r : IdOf × IdOf). r.0.0) (filter (is_pointer Src) Fn.params) ++ map (λ (i : Inst). i.result) (filter is_variable (insts_of Fn)))
          (in_right n (map (λ (r : IdOf × IdOf). r.0.0) (filter (is_pointer Src) Fn.params)) (map (λ (i : Inst). i.result) (filter is_variable (insts_of Fn)))
          (subst (λ (k : ℕ). IsIn k (map (λ (i : Inst). i.result) (filter is_variable (insts_of Fn)))) same (in_mapped (λ (i : Inst). i.result) (filter is_variable (insts_of Fn)) j (in_filter is_variable (insts_of Fn) j j_in on))))

      by_global : (g : Inst) → IsIn g Gs → g.result ≡ n → global Gs n ≡ Some g → is g.op code.Variable ≡ true → IsMemory
      by_global g g_in same at on = by_input (is_input g) (variable_no_constant g.op on) refl
        where
          read : (a b : Bool) → is_constant g ≡ a → is_input g ≡ b → Where.setting.global n ≡ (if a then Some (constant_expr Src (id_text Found) g) else (if b then Some (name (built_in_text (unwrap_or (value_of s.of.heads g.result (decoration_number decoration.BuiltIn)) 0))) else None))
          read a b constant input =
              ap (option_and_then (global_by Src (id_text Found))) at
              ∙ (ap (λ (x : Bool). if x then Some (constant_expr Src (id_text Found) g) else (if is_input g then Some (name (built_in_text (unwrap_or (value_of s.of.heads g.result (decoration_number decoration.BuiltIn)) 0))) else None)) constant
              ∙ ap (λ (x : Bool). if a then Some (constant_expr Src (id_text Found) g) else (if x then Some (name (built_in_text (unwrap_or (value_of s.of.heads g.result (decoration_number decoration.BuiltIn)) 0))) else None)) input)

          by_input : (b : Bool) → is_constant g ≡ false → is_input g ≡ b → IsMemory
          by_input true off input =
              subst (λ (q : Option Expr). is_in Out.memory (option_map_or name_in q (text_of Found (Id (id n)))) ≡ true) (sym (read false true off input))
              (in_later (names_in Found (memory_ids Src Fn)) built_in_variables (built_in_text (unwrap_or (value_of s.of.heads g.result (decoration_number decoration.BuiltIn)) 0)) (is_built_in (built_in_of_number (unwrap_or (value_of s.of.heads g.result (decoration_number decoration.BuiltIn)) 0))))
          by_input false off input = by_own (read false false off input) (in_globals g g_in on same)

      memory_is : IsMemory
      memory_is = by_start (pointer_start s entry right kinds o unit u p among inner n ty none points)
        where
          by_start : IsStart s entry right kinds o unit u p among inner n ty none → IsMemory
          by_start (outside g g_in same at on leads typed) = by_global g g_in same at on
          by_start (lent q q_in same leads typed) =
              by_own (by_nothing (subst (λ (k : ℕ). global Gs k ≡ None) same ((inside s entry right Fn in_it).outside q (as_parameter q Fn.params q_in)))) (in_params q q_in (ap is_some leads) same)
          by_start (own j j_in same on has leads) =
              let there = as_among (insts_of Fn) j j_in in
              let some = ((inside s entry right Fn in_it).formed j there).result (typed_result j.op has) in
              by_own (by_nothing (subst (λ (k : ℕ). global Gs k ≡ None) same ((ordered s entry right kinds o unit u p among).own j there some).inside)) (in_function j j_in on same)

    -- The law of places: of a pointer whose path is made of words of the text.
    pub place_seen : (b n : ℕ) → IsPointer Gs Fn n → W.value (base_text Where.setting (path Gs Fn b n).base) → IsPath Out (place_text Where.setting b n)
    place_seen b n pointer named =
        let t = traced Gs Fn rises based b n in
        let q = t.2 pointer in
        (memory_is (path Gs Fn b n).base q.0 t.0 q.1 named, steps_unseen b n)
