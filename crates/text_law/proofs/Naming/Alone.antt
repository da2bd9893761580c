-- In a conforming module no id is that of two things (P3, P4); so an id has one name in a function, in one way.
use Rattle.std.proofs.Common.{◌≡◌, ◌==◌, ◌&&◌, ◌||◌, not, ℕ, Bool, true, false, List, [], Option, Some, None, inl, inr, refl, sym, ap, ◌∙◌, if◌then◌else◌}
use Rattle.std.specs.Prelude.{is_some, Contains}
use Rattle.std.specs.Option.{option_map_or}
use Rattle.std.specs.List.{list_any}
use Rattle.std.proofs.lemmas.Bool.{and_parts, or_cases, or_right, not-true}
use Rattle.spv_ops.specs.Opcode.{is}
use Rattle.spv_ops.specs.Groups.{is_chain}
use Rattle.access_paths.specs.Ways.{captured_indexes}
use Rattle.spv_ops.specs.Enumerants.{class_number}
use Rattle.spv_ops.specs.declared.StorageClass.TheVariants as storage
use Rattle.spv_ops.specs.declared.Op.TheVariants as code
use Rattle.spv_module.specs.Held.{global}
use Rattle.spv_module.specs.declared.inst.Inst.{Inst}
use Rattle.spv_module.specs.declared.inst.Function.{Function}
use Rattle.spv_decor.specs.Rows.{word}
use Rattle.spv_index.specs.Locals.{insts_of, inst_in, parameter_in}
use Rattle.structure_rules.specs.declared.graph.Node.{Node}
use Rattle.profile_rules.specs.declared.given.Given.{Given}
use Rattle.profile_rules.specs.MemoryRules.{is_pointer, is_own_memory}
use Rattle.list_law.proofs.Tests.{and_none, no_flip, second_by}
use Rattle.list_law.proofs.Options.{none_or_some}
use Rattle.plan_law.specs.InOrder.{IsAmong}
use Rattle.hoist_plan.specs.declared.form.Form.{Form}
use Rattle.hoist_plan.specs.declared.form.Form.TheVariants.{Gone, Forwarded, Local, Hoisted}
use Rattle.name_alloc.specs.declared.claims.Key.{Key}
use Rattle.glsl_ast.specs.Tree.{Text}
use Rattle.text_rules.specs.Printed.{Reached}
use Rattle.function_plan.specs.Planned.{is_named_in}
use Rattle.function_text.specs.Functions.{is_hoisted}
use Rattle.module_semantics.specs.Setting.{Setting}
use Rattle.fits_law.proofs.Steps.{named}
use Rattle.agree_law.specs.Agree.{Naming}
use Rattle.call_law.specs.Known.{IsFunctionOf, is_parameter}
use Rattle.function_law.specs.Passed.{NamesMemory}
use Rattle.typed_law.specs.Conforms.{IsConforming}
use Rattle.typed_law.proofs.Lists.{some_by, found_in}
use Rattle.typed_law.proofs.Values.{inside, own_local}
use Rattle.grammar_law.proofs.Ruled.Ruled.{contains_of, parameter_of}
use Rattle.text_law.specs.Alone.{AreAlone}
use Rattle.text_law.specs.Names.{is_other, is_result, is_value_parameter, is_variable_name, is_local_form, is_written_private, keeps, names_by}

-- of a function of a conforming module
module _ (s : Setting) (entry : Option (List ℕ)) (right : IsConforming s.of entry) (f : Function) (is_one : IsFunctionOf f s.of.functions) where
  in_it : Contains s.of.functions f
  in_it = contains_of s.of.functions f is_one

  none_gives : (n : ℕ) → ((i : Inst) → IsAmong i (insts_of f) → i.result ≡ n → ⊥) → inst_in f n ≡ None
  none_gives n far = by_inst (inst_in f n) refl
    where
      by_inst : (o : Option Inst) → inst_in f n ≡ o → inst_in f n ≡ None
      by_inst None e = e
      by_inst (Some i) e = absurd (far i (found_in (insts_of f) n i e) (named (insts_of f) n i e))

  pub are_alone : AreAlone s.of.globals f
  are_alone = record {
    parameters = λ n on.
        let p = parameter_of f.params n on in (
          none_gives n (λ i there same.
              let some : i.result ≡ 0 → ⊥ = λ zero_is. (inside s entry right f in_it).some p.0 p.1 (p.2 ∙ (sym same ∙ zero_is)) in
              no_flip (is_parameter f n) on (ap (is_parameter f) (sym same) ∙ ap is_some ((inside s entry right f in_it).order.own i there some).made)),
          ap (global s.of.globals) (sym p.2) ∙ (inside s entry right f in_it).outside p.0 p.1,
        );
    globals = λ n g at. none_gives n (λ i there same. none_or_some (global s.of.globals n) g (ap (global s.of.globals) (sym same) ∙ own_local s entry right f in_it i there) at);
  }

hoisted_no_local : (x : Form) (rest : Bool) → is_hoisted x ≡ true → (is_local_form x && rest) ≡ false
hoisted_no_local Hoisted rest on = refl
hoisted_no_local Gone rest on = cc
hoisted_no_local Forwarded rest on = cc
hoisted_no_local Local rest on = cc

no_result : (f : Function) (n : ℕ) → inst_in f n ≡ None → is_result f n ≡ false
no_result f n none = ap (λ o. option_map_or is_other o false) none

-- the variable of a function with this id
pub variable_inst : (f : Function) (n : ℕ) → is_variable_name f n ≡ true → (i : Inst) × (inst_in f n ≡ Some i) × (is i.op code.Variable ≡ true) × (is_parameter f n ≡ false)
variable_inst f n on =
    let parts = and_parts (not (is_parameter f n)) (is_own_memory f n) on in
    let off : is_parameter f n ≡ false = not-true (is_parameter f n) parts.0 in
    let w = some_by (λ (i : Inst). (is i.op code.Variable) && (word i 0 == class_number storage.Function)) (inst_in f n) (second_by (is_some (parameter_in f n)) _ parts.1 off) in
    (w.0, w.1, (and_parts (is w.0.op code.Variable) _ w.2).0, off)

-- what an instruction makes is no parameter
pub made_no_parameter : (gs : List Inst) (f : Function) → AreAlone gs f → (n : ℕ) (i : Inst) → inst_in f n ≡ Some i → is_parameter f n ≡ false
made_no_parameter gs f alone n i at = by_test (is_parameter f n) refl
  where
    by_test : (b : Bool) → is_parameter f n ≡ b → b ≡ false
    by_test false e = refl
    by_test true e = let never : None ≡ Some i = sym (alone.parameters n e).0 ∙ at in cc

module _ (s : Setting) (overrides : List (ℕ × Given)) (r : Reached) (key : Key → Text) (f : Function) (g : List Node) (form : ℕ → Form) (carried : ℕ → Bool) where
  abbrev N : Naming
  N = names_by s overrides r key f g form carried

  pub names_memory : NamesMemory N f
  names_memory = record {
    variables = λ n on. let parts = and_parts (not (is_parameter f n)) (is_own_memory f n) on in (parts.1, not-true (is_parameter f n) parts.0);
    lents = λ n on. (and_parts (is_parameter f n) (is_pointer s.of.globals f n) on).0;
  }

  no_outer : (n : ℕ) → is_value_parameter s.of.globals f n ≡ false → is_result f n ≡ false → N.is_outer n ≡ false
  no_outer n off none =
      ap (λ (t : Bool). t || (is_hoisted (form n) && is_result f n)) off
      ∙ (ap (λ (t : Bool). is_hoisted (form n) && t) none ∙ and_none (is_hoisted (form n)))

  no_local : (n : ℕ) → is_result f n ≡ false → N.is_local n ≡ false
  no_local n none = ap (λ (t : Bool). is_local_form (form n) && (t && is_named_in form g f.blocks n)) none ∙ and_none (is_local_form (form n))

  no_value : (n : ℕ) → is_parameter f n ≡ false → is_value_parameter s.of.globals f n ≡ false
  no_value n off = ap (λ (t : Bool). t && not (is_pointer s.of.globals f n)) off

  no_private : (n : ℕ) → global s.of.globals n ≡ None → N.is_private n ≡ false
  no_private n none = ap (λ o. option_map_or (is_written_private s overrides r key) o false) none

  module _ (alone : AreAlone s.of.globals f) where
    pub outer_once : (n : ℕ) → N.is_outer n ≡ true → N.is_local n ≡ false
    outer_once n on = elim (or_cases (is_value_parameter s.of.globals f n) (is_hoisted (form n) && is_result f n) on) [
      | inl value ↦ no_local n (no_result f n (alone.parameters n (and_parts (is_parameter f n) (not (is_pointer s.of.globals f n)) value).0).0)
      | inr result ↦ hoisted_no_local (form n) (is_result f n && is_named_in form g f.blocks n) (and_parts (is_hoisted (form n)) (is_result f n) result).0
    ]

    global_none : (n : ℕ) (i : Inst) → inst_in f n ≡ Some i → global s.of.globals n ≡ None
    global_none n i at = by_global (global s.of.globals n) refl
      where
        by_global : (o : Option Inst) → global s.of.globals n ≡ o → global s.of.globals n ≡ None
        by_global None e = e
        by_global (Some x) e = let never : None ≡ Some i = sym (alone.globals n x e) ∙ at in cc

    pub variable_once : (n : ℕ) → N.is_variable n ≡ true → (N.is_outer n ≡ false) × (N.is_local n ≡ false) × (N.is_lent n ≡ false) × (N.is_private n ≡ false)
    variable_once n on =
        let v = variable_inst f n on in
        let none : is_result f n ≡ false = ap (λ o. option_map_or is_other o false) v.1 ∙ ap (λ (t : Bool). not (t || is_chain v.0.op)) v.2 in
        (no_outer n (no_value n v.3) none, no_local n none, ap (λ (t : Bool). t && is_pointer s.of.globals f n) v.3, no_private n (global_none n v.0 v.1))

    pub lent_once : (n : ℕ) → N.is_lent n ≡ true → (N.is_outer n ≡ false) × (N.is_local n ≡ false) × (N.is_private n ≡ false)
    lent_once n on =
        let parts = and_parts (is_parameter f n) (is_pointer s.of.globals f n) on in
        let own = alone.parameters n parts.0 in
        let none = no_result f n own.0 in
        (no_outer n (ap (λ (t : Bool). is_parameter f n && not t) parts.1 ∙ and_none (is_parameter f n)) none, no_local n none, no_private n own.1)

    -- a chain of which an index is kept has no variable
    pub kept_once : (q k : ℕ) → N.is_kept q k ≡ true → (N.is_outer q ≡ false) × (N.is_local q ≡ false) × (N.is_lent q ≡ false)
    kept_once q k on =
        let i = some_by (keeps s overrides r key f g form carried k) (inst_in f q) on in
        let none : is_result f q ≡ false = ap (λ o. option_map_or is_other o false) i.1 ∙ (ap (λ (t : Bool). not (is i.0.op code.Variable || t)) (is_one i.0 (is_chain i.0.op && carried i.0.result) refl i.2) ∙ ap not (or_right (is i.0.op code.Variable) true refl)) in
        let off = made_no_parameter s.of.globals f alone q i.0 i.1 in
        (no_outer q (no_value q off) none, no_local q none, ap (λ (t : Bool). t && is_pointer s.of.globals f q) off)
      where
        is_one : (i : Inst) (b : Bool) → (is_chain i.op && carried i.result) ≡ b → list_any (λ (n : ℕ × ℕ). n.0 == k) (if b then captured_indexes s.of.globals i else []) ≡ true → is_chain i.op ≡ true
        is_one i true at e = (and_parts (is_chain i.op) (carried i.result) at).0
        is_one i false at e = cc

    -- what is the module's is nothing of the function
    pub global_apart : (n : ℕ) (x : Inst) → global s.of.globals n ≡ Some x → (is_parameter f n ≡ false) × (is_result f n ≡ false) × (N.is_outer n ≡ false) × (N.is_local n ≡ false) × (N.is_variable n ≡ false) × (N.is_lent n ≡ false)
    global_apart n x at =
        let off = no_parameter (is_parameter f n) refl in
        let inst = alone.globals n x at in
        let none = no_result f n inst in
        (off, none, no_outer n (no_value n off) none, no_local n none, no_own off inst, ap (λ (t : Bool). t && is_pointer s.of.globals f n) off)
      where
        no_parameter : (b : Bool) → is_parameter f n ≡ b → b ≡ false
        no_parameter false e = refl
        no_parameter true e = let never : None ≡ Some x = sym (alone.parameters n e).1 ∙ at in cc

        no_own : is_parameter f n ≡ false → inst_in f n ≡ None → N.is_variable n ≡ false
        no_own off inst =
            ap (λ (t : Bool). not (is_parameter f n) && (t || option_map_or (λ (i : Inst). (is i.op code.Variable) && (word i 0 == class_number storage.Function)) (inst_in f n) false)) off
            ∙ (ap (λ o. not (is_parameter f n) && option_map_or (λ (i : Inst). (is i.op code.Variable) && (word i 0 == class_number storage.Function)) o false) inst ∙ and_none (not (is_parameter f n)))

    pub private_once : (n : ℕ) → N.is_private n ≡ true → (N.is_outer n ≡ false) × (N.is_local n ≡ false)
    private_once n on =
        let x = some_by (is_written_private s overrides r key) (global s.of.globals n) on in
        let a = global_apart n x.0 x.1 in
        (a.2, a.3)
