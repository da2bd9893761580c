-- The values of a reached block are written of names of which nothing is seen, and so are constants.
use Rattle.std.proofs.Common.{◌≡◌, ℕ, Bool, true, false, List, Contains, Option, Some, None, unwrap_or, inl, inr, refl, sym, ap, ◌∙◌, subst, if◌then◌else◌}
use Rattle.std.specs.Prelude.{◌⊎◌, ◌==◌, option_and_then, slice_get, slice_index}
use Rattle.std.proofs.lemmas.Option.{same_Some}
use Rattle.spv_ops.specs.Opcode.{is}
use Rattle.spv_ops.specs.declared.Op.TheVariants as code
use Rattle.spv_ops.specs.Enumerants.{class_number}
use Rattle.spv_ops.specs.declared.StorageClass.TheVariants as storage
use Rattle.spv_module.specs.Held.{global}
use Rattle.spv_module.specs.Lists.{id}
use Rattle.spv_module.specs.declared.inst.Inst.{Inst}
use Rattle.spv_module.specs.declared.inst.Block.{Block}
use Rattle.spv_module.specs.declared.inst.Function.{Function}
use Rattle.spv_module.specs.declared.tree.Length.{Length}
use Rattle.spv_types.specs.Tree.{Tree}
use Rattle.spv_types.specs.Types.{type_tree}
use Rattle.spv_index.specs.Locals.{insts_of, inst_in}
use Rattle.conformance.specs.Rules.{Options}
use Rattle.module_semantics.specs.Setting.{Setting}
use Rattle.use_chains.specs.Slots.{inst_at, IsLive}
use Rattle.hoist_plan.specs.declared.form.Form.TheVariants.{Forwarded}
use Rattle.name_alloc.specs.declared.claims.Key.TheVariants.{Id}
use Rattle.name_alloc.specs.Naming.{name_of}
use Rattle.glsl_ast.specs.Tree.{Expr, TranslationUnit}
use Rattle.text_rules.specs.Constants.{Source, is_constant, constant_shape, plain_value, reading, expr_by, constant_expr}
use Rattle.text_rules.specs.Declarations.{length_extent, zero_at}
use Rattle.text_rules.specs.declared.readings.Reading.{Reading}
use Rattle.text_rules.specs.declared.readings.Reading.TheVariants.{Plain, Named, GroupSize, GroupSizePart}
use Rattle.text_items.specs.Globals.{is_input, global_by}
use Rattle.expr_forward.specs.Kinds.{operation_kind_of}
use Rattle.expr_forward.specs.Scope.{Scope, type_of}
use Rattle.expr_forward.specs.Values.{value, length_text}
use Rattle.expr_forward.specs.declared.kinds.OperationKind.{OperationKind}
use Rattle.expr_forward.specs.declared.kinds.OperationKind.TheVariants as kind
use Rattle.function_plan.specs.Phis.{is_gone}
use Rattle.function_text.specs.Functions.{FunctionPlan}
use Rattle.unit_rules.specs.Translation.{Naming, id_text, names_of}
use Rattle.unit_rules.specs.Unit.{source_of, IsUnitOf}
use Rattle.claim_law.specs.Ranked.{IsForwardedBy}
use Rattle.claim_law.specs.Uses.{Words, UsesExtent, UsesExpr}
use Rattle.claim_law.specs.Blocks.{FitWords}
use Rattle.claim_law.specs.Asked.{Meets, IsAsked}
use Rattle.claim_law.proofs.Spell.Values.{value-uses}
use Rattle.typed_law.specs.Conforms.{IsConforming}
use Rattle.typed_law.specs.Words.{AreGivenWords}
use Rattle.typed_law.proofs.Lists.{and_left, some_part}
use Rattle.typed_law.proofs.Values.{own_type, shaped_some}
use Rattle.global_law.proofs.Constant.Within.{constant_no_variable}
use Rattle.claim_law.specs.Claimed.{IsIn, HasName}
use Rattle.claim_law.proofs.Claim.Constants.{found_in}
use Rattle.claim_law.proofs.Claim.Listed.{at_place}
use Rattle.grammar_law.specs.Mentioned.{IsValueIn}
use Rattle.grammar_law.specs.Words.{words_of, AreOfStructs}
use Rattle.grammar_law.specs.Types.{IsLengthOf}
use Rattle.grammar_law.proofs.Unit.Lists.{as_among}
use Rattle.grammar_law.proofs.Unit.Types.{zero_at_uses}
use Rattle.grammar_law.proofs.Unit.Usable.{Ranks, ranked}
use Rattle.grammar_law.proofs.Unit.Ways.{HaveKinds, F, R, V, in_module, ways}
use Rattle.grammar_law.proofs.Meets.LiveOrGone.{IsRun}
use Rattle.grammar_law.proofs.Meets.BlocksMade.{AreKnown, forwarded_meets, block_asked}
use Rattle.grammar_law.proofs.Grammar.Readings.{literal_fits, plain_fits}
use Rattle.text_law.specs.Walks.{Outer}
use Rattle.text_law.specs.Unseen.{unseen}
use Rattle.text_law.specs.Shape.{memory_ids, outer_of}
use Rattle.text_law.proofs.Shape.Named.{size_unseen}
use Rattle.text_law.proofs.Shape.BuiltIns.{built_unseen}
use Rattle.text_law.proofs.Shape.Apart.{value_unseen, global_unseen, variable_apart}
use Rattle.text_law.proofs.Shape.Parts.{extent_unseen, IsLeftOf, kind_unseen}

module _ (s : Setting) (entry : Option (List ℕ)) (right : IsConforming s.of entry) (kinds : HaveKinds s.of.globals) (o : Options) (unit : TranslationUnit) (u : IsUnitOf s.of o unit) (p : FunctionPlan) (among : IsIn p u.plans) where
  abbrev Gs : List Inst
  Gs = s.of.globals

  abbrev Found : Naming
  Found = name_of u.claimed

  abbrev Fn : Function
  Fn = F s entry right kinds o unit u p among

  abbrev Marks : List Bool
  Marks = R s entry right kinds o unit u p among

  abbrev Where : Scope
  Where = V s entry right kinds o unit u p among

  abbrev Src : Source
  Src = source_of s.of o u.entry

  in_it : Contains s.of.functions Fn
  in_it = in_module s entry right kinds o unit u p among

  -- what is seen of the function from outside
  abbrev pub Out : Outer
  Out = outer_of (source_of s.of o u.entry) (name_of u.claimed) unit (F s entry right kinds o unit u p among)

  abbrev pub X : Words
  X = unseen (outer_of (source_of s.of o u.entry) (name_of u.claimed) unit (F s entry right kinds o unit u p among))

  -- the result of an instruction whose type has a shape
  pub shaped_unseen : (i : Inst) → IsIn i (insts_of Fn) → (t : Tree) → type_tree Gs i.ty ≡ Some t → X.value (id_text Found i.result)
  shaped_unseen i i_in t shaped =
      value_unseen s entry right kinds o unit u p among i.result t
      (ap (λ (q : Option ℕ). type_tree Gs (unwrap_or q 0)) (own_type s entry right Fn in_it i (as_among (insts_of Fn) i i_in) (shaped_some s entry right Fn in_it i.ty t shaped)) ∙ shaped)

  module _ (words : (g : Inst) → IsIn g s.of.globals → FitWords g.args) (given : AreGivenWords o.overrides) where
    -- a constant, as it is read
    pub constant_unseen : (g : Inst) → IsIn g s.of.globals → is_constant g ≡ true → UsesExpr X (constant_expr Src (id_text Found) g)
    constant_unseen g g_in on = by_reading (reading Src g)
      where
        by_reading : (r : Reading) → UsesExpr X (expr_by Src (id_text Found) g r)
        by_reading Plain = literal_fits (constant_shape Src g) (plain_value Src g) (plain_fits Src given g (words g g_in))
        by_reading Named = global_unseen s entry right kinds o unit u p among g g_in (constant_no_variable g.op on)
        by_reading GroupSize = size_unseen Found u.lawful (memory_ids Src Fn)
        by_reading (GroupSizePart axis) = (size_unseen Found u.lawful (memory_ids Src Fn), tt)

    -- what stands outside of functions, and is a value
    pub read_unseen : (n : ℕ) (t : Tree) → type_tree Gs (type_of Where n) ≡ Some t → (e : Expr) → Where.setting.global n ≡ Some e → UsesExpr X e
    read_unseen n t shaped e told = by_global (global Gs n) refl told
      where
        by_constant : (g : Inst) → global Gs n ≡ Some g → (a b : Bool) → is_constant g ≡ a → is_input g ≡ b → (rest : Expr) → (if a then Some (constant_expr Src (id_text Found) g) else (if b then Some rest else None)) ≡ Some e → UsesExpr X e
        by_constant g at true b constant input rest same = subst (UsesExpr X) (same_Some (constant_expr Src (id_text Found) g) e same) (constant_unseen g (found_in Gs n g at).0 constant)
        by_constant g at false true constant input rest same =
            absurd (variable_apart s entry right kinds o unit u p among g (found_in Gs n g at).0 (and_left (is g.op code.Variable) (slice_index g.args 0 == class_number storage.Input) input) n (found_in Gs n g at).1 t shaped)
        by_constant g at false false constant input rest same = cc

        by_global : (q : Option Inst) → global Gs n ≡ q → option_and_then (global_by Src (id_text Found)) q ≡ Some e → UsesExpr X e
        by_global None at same = cc
        by_global (Some g) at same = by_constant g at (is_constant g) (is_input g) refl refl _ same

    module _ (names : List (List ℕ)) (structs : AreOfStructs s.of.globals (name_of u.claimed) names) (k : AreKnown s entry right kinds o unit u p among names structs) where
      abbrev W : Words
      W = words_of s.of.globals (name_of u.claimed) names

      lengths : (l : Length) → IsLengthOf Gs l → UsesExtent X (length_extent Src (id_text Found) l)
      lengths l is = extent_unseen W Out (length_extent Src (id_text Found) l) (k.lengths l is)

      -- the zero of a type
      pub zero_unseen : (ty : ℕ) (t : Tree) → type_tree Gs ty ≡ Some t → UsesExpr X (zero_at Src (names_of Found) ty)
      zero_unseen ty t shaped = zero_at_uses X Gs Src (id_text Found) lengths refl (names_of Found) refl ty t shaped (λ n has. tt)

      module _ (b : ℕ) (length : (i : Inst) → IsRun s entry right kinds o unit u p among b i → operation_kind_of i.op ≡ kind.ArrayLength → UsesExpr X (length_text Where b i)) where
        abbrev Usable : ℕ → Type 0
        Usable = IsValueIn Where Marks b

        -- what is left of an operation of the block
        pub left_of : (i : Inst) → IsRun s entry right kinds o unit u p among b i → (t : Tree) → type_tree Gs i.ty ≡ Some t → X.value (id_text Found i.result) → (q : OperationKind) → operation_kind_of i.op ≡ q → IsLeftOf W Out Found Where Usable b i q
        left_of i r t shaped named kind.Undef on = zero_unseen i.ty t shaped
        left_of i r t shaped named kind.ArrayLength on = length i r on
        left_of i r t shaped named kind.Other on = named
        left_of i r t shaped named q on = tt

        abbrev IsWayOf : ℕ → Type 0
        IsWayOf n = (X.value (id_text Found n) × (Where.form n ≡ Forwarded → ⊥)) ⊎ ((i : Inst) × IsForwardedBy Where n i × Meets X Found Where Usable b i)

        value_ways : (n : ℕ) → Usable n → Where.setting.global n ≡ None → IsWayOf n
        value_ways n v local = by_way (ways s entry right kinds o unit u p among b n v local)
          where
            named : X.value (id_text Found n)
            named = value_unseen s entry right kinds o unit u p among n v.shape v.shaped

            by_result : (j : Inst) → inst_in Fn n ≡ Some j → Where.form n ≡ Forwarded → (place : ℕ) → inst_at Fn b place ≡ Some j → IsLive Fn Marks b place → type_tree Gs j.ty ≡ Some v.shape → IsWayOf n
            by_result j made form place at live shaped =
                let result_is : j.result ≡ n = (found_in (insts_of Fn) n j made).1 in
                let form_is : Where.form j.result ≡ Forwarded = ap Where.form result_is ∙ form in
                let w = some_part (λ (c : Block). slice_get c.insts place) (slice_get Fn.blocks b) j at in
                let r : IsRun s entry right kinds o unit u p among b j = record { place = place; holder = w.0; there = w.1; within = at_place w.0.insts place j w.2; at = at; here = v.mentioned.here; live = live; kept = λ some. ap is_gone form_is } in
                inr (
                  j,
                  record { local = local; form = form; there = made },
                  kind_unseen W Out Found Where Usable b j (operation_kind_of j.op)
                      (forwarded_meets s entry right kinds o unit u p among names structs k b j r v.shape shaped form_is)
                      (left_of j r v.shape shaped (subst (λ (m : ℕ). X.value (id_text Found m)) (sym result_is) named) (operation_kind_of j.op) refl),
                )

            by_way : (HasName Found (Id (id n)) × (Where.form n ≡ Forwarded → ⊥)) ⊎ ((j : Inst) × ((inst_in Fn n ≡ Some j) × (Where.form n ≡ Forwarded) × ((place : ℕ) × (inst_at Fn b place ≡ Some j) × IsLive Fn Marks b place) × (type_tree Gs j.ty ≡ Some v.shape))) → IsWayOf n
            by_way (inl w) = inl (named, w.1)
            by_way (inr w) = by_result w.0 w.1.0 w.1.1 w.1.2.0 w.1.2.1 w.1.2.2 w.1.3

        -- The laws: what the values of the block ask for, and so each as it is written.
        pub unseen_asked : IsAsked X Found Where Usable b
        unseen_asked = record {
          read = λ n e v is. read_unseen n v.shape v.shaped e is;
          words = (block_asked s entry right kinds o unit u p among names structs k b).words;
          ways = value_ways;
          lowered_is = refl;
        }

        pub unseen_value : (n : ℕ) → Usable n → UsesExpr X (value Where b n)
        unseen_value n v =
            value-uses X (λ f. built_unseen s.of o unit u Fn f) (λ axis. tt) Found Where Usable b unseen_asked (Ranks s entry right kinds o unit u p among) (ranked s entry right kinds o unit u p among b) n v
