use Rattle.std.proofs.Common.{◌≡◌, ◌∙◌, ◌+◌, ◌++◌, ◌∷◌, [], ap, sym, map, take, subst, Vec, Global, if◌then◌else◌, append-nil}
use Rattle.std.proofs.lemmas.List.{map-append}
use Rattle.spv_module.specs.declared.inst.Inst.{Inst}
use Rattle.glsl_ast.specs.Tree as text
use Rattle.glsl_ast.specs.View.{stmt_of}
use Rattle.glsl_ast.specs.declared.statements.Stmt.{Stmt}
use Rattle.expr_forward.specs.Context.{scope_of}
use Rattle.profile_rules.specs.Places.{is_variable}
use Rattle.function_text.specs.Functions.{variable_text, variables_text}
use Rattle.function_text.proofs.Pushed.{pushed_more}
use Rattle.function_text.proofs.scope.PlannedFunction.add_variables.Goals as goal
use Rattle.function_text.proofs.scope.PlannedFunction.add_variables.Goals.{then-is_variable+in_ok-variable_text+in_ok-push, else-is_variable}

pub loop-inst-preserved : goal.loop-inst-preserved
loop-inst-preserved c =
    let w = scope_of c.args.self.now.context in
    let insts = c.args.insts.now in
    let i = c.loop-inst.inst-index in
    let x : Inst = c.inst-item.result in
    let old = map stmt_of c.loop-inst.out.items in
    let start = map stmt_of c.args.out.now.items in
    let P : Vec Stmt Global → Type 0 = λ out. map stmt_of out.items ≡ start ++ variables_text w (take (i + 1) insts) in
    elim c.if-is_variable.branch [
      | then-is_variable+in_ok-variable_text+in_ok-push q ↦
          let new = map stmt_of q.push.new.self.items in
          let pushed : new ≡ old ++ variable_text w x ∷ [] =
          ap (map stmt_of) q.in_ok-push.ensures.items
          ∙ (map-append stmt_of c.loop-inst.out.items (q.in_ok-variable_text.field-0 ∷ [])
          ∙ ap (λ (s : text.Stmt). old ++ s ∷ []) q.in_ok-variable_text.ensures) in
          let shown : new ≡ old ++ (if is_variable x then variable_text w x ∷ [] else []) =
          pushed ∙ sym (ap (λ b. old ++ (if b then variable_text w x ∷ [] else [])) (sym c.is_variable.ensures ∙ q.if-is_variable.true)) in
          subst P (sym q.out-is) (pushed_more (variable_text w) is_variable insts i x old new start c.loop-inst-test.true c.inst-item.is shown c.loop-inst.invariant)
      | else-is_variable q ↦
          let shown : old ≡ old ++ (if is_variable x then variable_text w x ∷ [] else []) =
          sym (append-nil old) ∙ sym (ap (λ b. old ++ (if b then variable_text w x ∷ [] else [])) (sym c.is_variable.ensures ∙ q.if-is_variable.false)) in
          subst P (sym q.out-is) (pushed_more (variable_text w) is_variable insts i x old old start c.loop-inst-test.true c.inst-item.is shown c.loop-inst.invariant)
    ]
