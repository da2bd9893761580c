-- The parameters of a function, and its result, have types of declared words, and its parameters have names.
use Rattle.std.proofs.Common.{◌≡◌, ◌==◌, ◌&&◌, ◌||◌, not, ℕ, Bool, true, false, List, [], ◌∷◌, ◌++◌, map, Option, Some, None, Contains, inl, inr, refl, sym, ap, ◌∙◌, subst, if◌then◌else◌}
use Rattle.std.specs.Prelude.{flat_map, fold, unwrap_or, option_map, option_and_then, slice_index}
use Rattle.std.specs.Option.{option_map_or}
use Rattle.std.proofs.lemmas.Option.{same_Some}
use Rattle.spv_ops.specs.Opcode.{is}
use Rattle.spv_ops.specs.Enumerants.{class_number}
use Rattle.spv_ops.specs.declared.Op.TheVariants as code
use Rattle.spv_ops.specs.declared.StorageClass.TheVariants as storage
use Rattle.spv_module.specs.Held.{global}
use Rattle.spv_module.specs.Lists.{id}
use Rattle.spv_module.specs.declared.inst.Id.{Id as IdOf}
use Rattle.spv_module.specs.declared.inst.Inst.{Inst}
use Rattle.spv_module.specs.declared.inst.Function.{Function}
use Rattle.spv_types.specs.Tree.{Tree}
use Rattle.spv_types.specs.Types.{tree_at, type_tree}
use Rattle.spv_decor.specs.Rows.{word}
use Rattle.spv_index.specs.BlockStructs.{is_block, is_some_block}
use Rattle.spv_index.specs.Pointers.{as_pointer, pointee}
use Rattle.spv_index.specs.ValueTypes.{other_step, with_other, is_no_value_type}
use Rattle.profile_rules.specs.Places.{is_among}
use Rattle.profile_rules.specs.TypeForm.{parts_of, pointees, value_types, signature, signature_types, block_misuses, is_no_variable}
use Rattle.conformance.specs.Rules.{Options}
use Rattle.module_semantics.specs.Setting.{Setting}
use Rattle.name_alloc.specs.declared.claims.Key.TheVariants.{Id}
use Rattle.name_alloc.specs.Naming.{name_of}
use Rattle.glsl_ast.specs.Tree.{TranslationUnit}
use Rattle.glsl_grammar.specs.Read.{is_declared}
use Rattle.text_rules.specs.Constants.{Source}
use Rattle.text_rules.specs.Declarations.{pointee_at, type_at}
use Rattle.text_rules.specs.Printed.{is_written_struct, written_types}
use Rattle.expr_forward.specs.Scope.{Scope}
use Rattle.expr_forward.specs.Statements.{is_void}
use Rattle.function_text.specs.Functions.{FunctionPlan, param_text, result_type}
use Rattle.unit_rules.specs.Translation.{Naming, text_of, id_text, names_of}
use Rattle.unit_rules.specs.Unit.{source_of, IsUnitOf}
use Rattle.list_law.proofs.Numbers.{number_same}
use Rattle.list_law.proofs.Tests.{clash}
use Rattle.claim_law.specs.Uses.{Words, UsesType}
use Rattle.claim_law.specs.Units.{UseParams, UsesResult}
use Rattle.claim_law.specs.Blocks.{FitWords}
use Rattle.typed_law.specs.Conforms.{IsConforming}
use Rattle.typed_law.specs.Words.{AreGivenWords}
use Rattle.typed_law.proofs.Lists.{or_right, and_off}
use Rattle.typed_law.proofs.Used.{among_right as ids_right}
use Rattle.typed_law.proofs.Values.{inside, parameter_right}
use Rattle.global_law.proofs.Constant.Within.{other_struct}
use Rattle.claim_law.specs.Claimed.{IsIn}
use Rattle.claim_law.proofs.Claim.Listed.{in_flat, in_mapped, any_in}
use Rattle.claim_law.proofs.Claim.Constants.{found_in}
use Rattle.claim_law.proofs.Claim.Named.{parameter_named}
use Rattle.grammar_law.specs.Words.{words_of, AreOfStructs}
use Rattle.grammar_law.proofs.Unit.Lists.{of_contained, as_parameter}
use Rattle.grammar_law.proofs.Unit.Free.{misused_free, open_free}
use Rattle.grammar_law.proofs.Unit.Structs.{Written, HasNames, written_names}
use Rattle.grammar_law.proofs.Unit.TypesWritten.{parameter_type_written, return_type_written}
use Rattle.grammar_law.proofs.Unit.ValueNames.{no_pointer}
use Rattle.grammar_law.proofs.Unit.Ways.{HaveKinds, F, V, in_module, written_is}
use Rattle.grammar_law.proofs.Unit.Sets.{own_text}
use Rattle.grammar_law.proofs.Grammar.Lengths.{lengths_use}
use Rattle.grammar_law.proofs.Grammar.TypeNames.{any_type_uses}

-- a value type is no block's struct
module _ (heads gs : List Inst) (n : ℕ) where
  kept_on : (list : List Inst) (f : ℕ → Bool) → f n ≡ true → fold (with_other heads gs) f list n ≡ true
  kept_on [] f on = on
  kept_on (g ∷ list) f on = kept_on list (with_other heads gs f g) (ap (λ (b : Bool). b || ((g.result == n) && other_step heads gs f g)) on)

  fold_off : (list : List Inst) (f : ℕ → Bool) (g : Inst) → IsIn g list → g.result ≡ n → fold (with_other heads gs) f list n ≡ false → (others : ℕ → Bool) × (other_step heads gs others g ≡ false)
  fold_off [] f g there same off = absurd there
  fold_off (h ∷ list) f g (inl here) same off = (f, by_test (with_other heads gs f h n) refl)
    where
      own : (h.result == n) ≡ true
      own = number_same h.result n (ap (λ (x : Inst). x.result) here ∙ same)

      by_test : (b : Bool) → with_other heads gs f h n ≡ b → other_step heads gs f g ≡ false
      by_test true on = clash (sym (kept_on list (with_other heads gs f h) on) ∙ off)
      by_test false told = subst (λ (x : Inst). other_step heads gs f x ≡ false) here (and_off (h.result == n) (other_step heads gs f h) (or_right (f n) ((h.result == n) && other_step heads gs f h) told) own)
  fold_off (h ∷ list) f g (inr later) same off = fold_off list (with_other heads gs f h) g later same off

value_no_block : (heads gs : List Inst) (g : Inst) → IsIn g gs → is_no_value_type heads gs g.result ≡ false → is g.op code.TypeStruct ≡ true → is_block heads g.result ≡ false
value_no_block heads gs g there off on = let w = fold_off heads gs g.result gs (λ (k : ℕ). false) g there refl off in other_struct heads gs w.0 g g.op on w.1

-- a pointer type by its row
pointer_row : (gs : List Inst) (ty q : ℕ) → pointee gs ty ≡ Some q → (c : Inst) × (global gs ty ≡ Some c) × (is c.op code.TypePointer ≡ true) × (word c 1 ≡ q)
pointer_row gs ty q points = by_global (global gs ty) refl points
  where
    by_test : (c : Inst) → global gs ty ≡ Some c → (b : Bool) → is c.op code.TypePointer ≡ b → option_map (λ (p : Inst). slice_index p.args 1) (if b then Some c else None) ≡ Some q → (d : Inst) × (global gs ty ≡ Some d) × (is d.op code.TypePointer ≡ true) × (word d 1 ≡ q)
    by_test c at true on e = (c, at, on, same_Some (word c 1) q e)
    by_test c at false off e = cc

    by_global : (x : Option Inst) → global gs ty ≡ x → option_map (λ (p : Inst). slice_index p.args 1) (option_and_then as_pointer x) ≡ Some q → (d : Inst) × (global gs ty ≡ Some d) × (is d.op code.TypePointer ≡ true) × (word d 1 ≡ q)
    by_global None at e = cc
    by_global (Some c) at e = by_test c at (is c.op code.TypePointer) refl e

module _ (s : Setting) (entry : Option (List ℕ)) (right : IsConforming s.of entry) (kinds : HaveKinds s.of.globals) (o : Options) (unit : TranslationUnit) (u : IsUnitOf s.of o unit) (p : FunctionPlan) (among : IsIn p u.plans) (names : List (List ℕ)) (structs : AreOfStructs s.of.globals (name_of u.claimed) names)
    (declared : (g : Inst) → IsIn g s.of.globals → is_written_struct (source_of s.of o u.entry) (Written s.of o unit u) g ≡ true → is_declared names (id_text (name_of u.claimed) g.result) ≡ true)
    (words : (g : Inst) → IsIn g s.of.globals → FitWords g.args) (given : AreGivenWords o.overrides) where
  abbrev Gs : List Inst
  Gs = s.of.globals

  abbrev Found : Naming
  Found = name_of u.claimed

  abbrev Fn : Function
  Fn = F s entry right kinds o unit u p among

  abbrev Where : Scope
  Where = V s entry right kinds o unit u p among

  abbrev W : Words
  W = words_of s.of.globals (name_of u.claimed) names

  abbrev Src : Source
  Src = source_of s.of o u.entry

  in_it : Contains s.of.functions Fn
  in_it = in_module s entry right kinds o unit u p among

  -- the types of a function are used where a block may not be
  signed : (ty : ℕ) → IsIn ty (signature Fn) → is_among (block_misuses s.of) ty ≡ true
  signed ty there =
      ids_right (flat_map parts_of Gs ++ pointees s.of (λ v. not (is_some_block s.of.heads Gs v)) ++ value_types s.of) (signature_types s.of) ty
      (any_in (λ (n : ℕ). n == ty) (signature_types s.of) ty (in_flat signature s.of.functions Fn ty (of_contained s.of.functions Fn in_it) there) (number_same ty ty refl))

  module _ (q : IdOf × IdOf) (there : IsIn q Fn.params) where
    listed : IsIn q.1.0 (written_types Src (Written s.of o unit u))
    listed = parameter_type_written s.of o unit u p among q (subst (λ (f : Function). IsIn q f.params) (sym (written_is s entry right kinds o unit u p among)) there)

    parameter_has : (x : Option ℕ) → pointee Gs q.1.0 ≡ x → (g : Inst) (t : Tree) → global Gs (unwrap_or x q.1.0) ≡ Some g → type_tree Gs (unwrap_or x q.1.0) ≡ Some t → HasNames s.of o unit u t
    parameter_has None points g t at shaped =
        written_names s.of o unit u entry right q.1.0 q.1.0 t listed (ap (λ (x : Option ℕ). option_map_or (λ p. p) x q.1.0) points) shaped
        (misused_free s.of entry right q.1.0 t (signed q.1.0 (inr (in_mapped (λ (r : IdOf × IdOf). r.1.0) Fn.params q there))) shaped)
    parameter_has (Some ty) points g t at shaped =
        written_names s.of o unit u entry right q.1.0 ty t listed (ap (λ (x : Option ℕ). option_map_or (λ p. p) x q.1.0) points) shaped
        (open_free s.of entry right g t own.0 (λ on. value_no_block s.of.heads Gs g own.0 (subst (λ (n : ℕ). is_no_value_type s.of.heads Gs n ≡ false) (sym own.1) value) on) (sym (ap (λ (x : Option Inst). option_map_or (tree_at Gs) x None) at) ∙ shaped))
      where
        own : IsIn g Gs × (g.result ≡ ty)
        own = found_in Gs ty g at

        -- P19
        value : is_no_value_type s.of.heads Gs ty ≡ false
        value =
            let c = pointer_row Gs q.1.0 ty points in
            let off = ap (λ (b : Bool). if b then is_no_variable s.of.heads Gs c.0 else is_no_value_type s.of.heads Gs q.1.0) (sym c.2)
            ∙ (ap (λ (x : Option Inst). option_map_or (λ (t : Inst). if is t.op code.TypePointer then is_no_variable s.of.heads Gs t else is_no_value_type s.of.heads Gs q.1.0) x false) (sym c.1) ∙ parameter_right s entry right Fn in_it q (as_parameter q Fn.params there)) in
            subst (λ (n : ℕ). is_no_value_type s.of.heads Gs n ≡ false) c.3 (or_right (not (word c.0 0 == class_number storage.Function)) (is_no_value_type s.of.heads Gs (word c.0 1)) off)

    parameter_type : UsesType W (type_at Src (names_of Found) (pointee_at Src q.1.0))
    parameter_type = any_type_uses s.of entry right o unit u names declared (lengths_use s.of entry right o unit u words given names structs) (pointee_at Src q.1.0) (λ g t at shaped. parameter_has (pointee Gs q.1.0) refl g t at shaped)

    parameter_name : W.value (text_of Found (Id q.0))
    parameter_name =
        own_text s entry right kinds o unit u p among names structs (Id (id q.0.0)) (parameter_named s.of o unit u p q among (subst (λ (f : Function). IsIn q f.params) (sym (written_is s entry right kinds o unit u p among)) there)) refl
        (ap (λ (x : Option Inst). option_map_or (λ (g : Inst). is g.op code.TypeStruct) x false) ((inside s entry right Fn in_it).outside q (as_parameter q Fn.params there)))

  pub params_made : (qs : List (IdOf × IdOf)) → ((q : IdOf × IdOf) → IsIn q qs → IsIn q Fn.params) → UseParams W (map (param_text Where) qs)
  params_made [] sub = tt
  params_made (q ∷ qs) sub = (parameter_type q (sub q (inl refl)), parameter_name q (sub q (inl refl)), params_made qs (λ r r_in. sub r (inr r_in)))

  pub result_made : UsesResult W (result_type Where)
  result_made = by_test (is_void Where Fn.result.0)
    where
      type_made : UsesType W (type_at Src (names_of Found) Fn.result.0)
      type_made = any_type_uses s.of entry right o unit u names declared (lengths_use s.of entry right o unit u words given names structs) Fn.result.0 (λ g t at shaped.
          written_names s.of o unit u entry right Fn.result.0 Fn.result.0 t (subst (λ (f : Function). IsIn f.result.0 (written_types Src (Written s.of o unit u))) (written_is s entry right kinds o unit u p among) (return_type_written s.of o unit u p among)) (no_pointer Gs Fn.result.0 t shaped) shaped
          (misused_free s.of entry right Fn.result.0 t (signed Fn.result.0 (inl refl)) shaped))

      by_test : (b : Bool) → UsesResult W (if b then None else Some (type_at Src (names_of Found) Fn.result.0))
      by_test true = tt
      by_test false = type_made
