-- The text of a block is that of its instructions between its phis and its terminator, which are not written.
use Rattle.std.proofs.Common.{◌≡◌, ◌+◌, ℕ, suc, Bool, true, false, List, [], ◌∷◌, ◌++◌, arith, cond, drop, length, Option, Some, None, refl, sym, ap, ◌∙◌, if◌then◌else◌}
use Rattle.std.specs.Prelude.{flat_map, option_and_then, option_map, slice_get, take_while}
use Rattle.std.specs.Option.{option_map_or}
use Rattle.std.specs.List.{prefix_len}
use Rattle.std.proofs.lemmas.List.{append-nil}
use Rattle.std.proofs.lemmas.List.Folds.{length-prefix_len}
use Rattle.std.proofs.lemmas.Grind.{flat_map-append}
use Rattle.spv_ops.specs.Opcode.{is, number}
use Rattle.spv_ops.specs.Groups.{is_terminator}
use Rattle.spv_ops.specs.OpGroups.{group_of}
use Rattle.spv_ops.specs.declared.Op.{Op}
use Rattle.spv_ops.specs.declared.Op.TheVariants as code
use Rattle.spv_module.specs.declared.inst.Inst.{Inst}
use Rattle.spv_module.specs.declared.inst.Block.{Block}
use Rattle.spv_module.specs.declared.inst.Function.{Function}
use Rattle.structure_rules.specs.Graph.{terminator}
use Rattle.glsl_ast.specs.Tree.{Stmt}
use Rattle.expr_forward.specs.declared.kinds.InstKind.TheVariants as kind
use Rattle.expr_forward.specs.Scope.{Scope}
use Rattle.expr_forward.specs.Kinds.{kind_of}
use Rattle.expr_forward.specs.Values.{value}
use Rattle.expr_forward.specs.Statements.{inst_text, block_text}
use Rattle.module_semantics.specs.Operands.{arg}
use Rattle.module_semantics.specs.Steps.{is_phi}
use Rattle.list_law.proofs.Lists.{found_passes}
use Rattle.agree_law.specs.Points.{Body}
use Rattle.function_text.specs.Functions.{FunctionPlan, written, operand_in, first_operand, condition_text, returned_by, returned, result_text}

-- what is written of an instruction in a block
abbrev pub text_of : Scope → ℕ → Inst → List Stmt
text_of w b i = inst_text w b i (kind_of i.op)

phi_silent : (o : Op) → is o code.Phi ≡ true → kind_of o ≡ kind.Silent
unfolding kind_of group_of number
phi_silent code.Phi on = refl
phi_silent o on = cc

end_silent : (o : Op) → is_terminator o ≡ true → kind_of o ≡ kind.Silent
unfolding kind_of group_of
end_silent code.Branch on = refl
end_silent code.BranchConditional on = refl
end_silent code.Switch on = refl
end_silent code.Return on = refl
end_silent code.ReturnValue on = refl
end_silent code.Unreachable on = refl
end_silent o on = cc

silent_text : (w : Scope) (b : ℕ) (i : Inst) → kind_of i.op ≡ kind.Silent → text_of w b i ≡ []
silent_text w b i silent = ap (inst_text w b i) silent

-- the first instructions, as long as a test holds, are skipped where nothing is written of these
skipped_so_many : (g : Inst → List Stmt) (test : Inst → Bool) (is : List Inst) → ((i : Inst) → test i ≡ true → g i ≡ []) → flat_map g is ≡ flat_map g (drop (prefix_len test is) is)
skipped_so_many g test [] none = refl
skipped_so_many g test (i ∷ is) none = by_test (test i) refl (skipped_so_many g test is none)
  where
    by_test : (b : Bool) → test i ≡ b → flat_map g is ≡ flat_map g (drop (prefix_len test is) is) → flat_map g (i ∷ is) ≡ flat_map g (drop (cond b (1 + prefix_len test is) 0) (i ∷ is))
    by_test true on later =
        let next : suc (prefix_len test is) ≡ 1 + prefix_len test is = omega arith in
        ap (λ l. l ++ flat_map g is) (none i on) ∙ (later ∙ ap (λ n. flat_map g (drop n (i ∷ is))) next)
    by_test false off later = refl

skipped : (g : Inst → List Stmt) (test : Inst → Bool) (is : List Inst) → ((i : Inst) → test i ≡ true → g i ≡ []) → flat_map g is ≡ flat_map g (drop (length (take_while test is)) is)
skipped g test is none = skipped_so_many g test is none ∙ ap (λ n. flat_map g (drop n is)) (sym (length-prefix_len test is))

module _ (f : Function) (b : ℕ) (o : Body f b) (ends : terminator o.block ≡ Some o.last) where
  -- what the statements of a block are made of
  pub texts_are : (w : Scope) → w.setting.function ≡ f → block_text w b ≡ flat_map (text_of w b) o.insts
  texts_are w same =
      let g : Inst → List Stmt = text_of w b in
      let last : g o.last ≡ [] = silent_text w b o.last (end_silent o.last.op (found_passes (λ (i : Inst). is_terminator i.op) o.block.insts o.last ends)) in
      ap (λ (x : Option Block). flat_map g (option_map_or (λ (c : Block). c.insts) x [])) (ap (λ (h : Function). slice_get h.blocks b) same ∙ o.there)
      ∙ (skipped g is_phi o.block.insts (λ i on. silent_text w b i (phi_silent i.op on))
      ∙ (ap (flat_map g) o.whole
      ∙ (flat_map-append g o.insts (o.last ∷ [])
      ∙ (ap (λ l. flat_map g o.insts ++ (l ++ [])) last ∙ append-nil (flat_map g o.insts)))))

  -- the operand of its terminator
  pub first_is : first_operand f b ≡ arg o.last 0
  first_is = ap (λ (x : Option Inst). option_map_or operand_in x 0) (ap (option_and_then terminator) o.there ∙ ends)

  -- so the condition, and the selector, is the expression of that
  pub condition_is : (p : FunctionPlan) → written p ≡ f → condition_text p b ≡ value p.scope b (arg o.last 0)
  condition_is p same = ap (λ (h : Function). value p.scope b (first_operand h b)) same ∙ ap (value p.scope b) first_is

  returned_is : is o.last.op code.ReturnValue ≡ true → returned f b ≡ Some (arg o.last 0)
  returned_is on = ap (option_and_then returned_by) (ap (option_and_then terminator) o.there ∙ ends) ∙ ap (λ t. if t then Some (operand_in o.last) else None) on

  -- and so is what it returns
  pub result_is : (p : FunctionPlan) → written p ≡ f → is o.last.op code.ReturnValue ≡ true → result_text p b ≡ Some (value p.scope b (arg o.last 0))
  result_is p same on = ap (λ (h : Function). option_map (value p.scope b) (returned h b)) same ∙ ap (option_map (value p.scope b)) (returned_is on)
