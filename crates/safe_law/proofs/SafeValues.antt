-- The expressions of a function's values, and its pointers as they are written, write no names but those of ids, kept indexes and what is read of globals.
use Rattle.std.proofs.Common.{◌≡◌, ℕ, zero, suc, Bool, true, false, List, [], ◌∷◌, drop, map, Option, Some, None, nat_lt, refl, sym, subst, unwrap_or, if◌then◌else◌}
use Rattle.std.specs.Prelude.{slice_index}
use Rattle.spv_ops.specs.Opcode.{is}
use Rattle.spv_ops.specs.declared.Op.{Op}
use Rattle.spv_ops.specs.declared.Op.TheVariants as code
use Rattle.spv_module.specs.Held.{global}
use Rattle.spv_module.specs.Lists.{id}
use Rattle.spv_module.specs.declared.inst.Inst.{Inst}
use Rattle.spv_types.specs.Tree.{Tree}
use Rattle.hoist_plan.specs.declared.form.Form.{Form}
use Rattle.hoist_plan.specs.declared.form.Form.TheVariants.{Gone, Forwarded, Local, Hoisted}
use Rattle.name_alloc.specs.declared.claims.Key.TheVariants.{Id, Member}
use Rattle.access_paths.specs.declared.forms.Step.{Step}
use Rattle.access_paths.specs.declared.forms.Step.TheVariants as step
use Rattle.access_paths.specs.Ways.{path}
use Rattle.glsl_ast.specs.Tree as text
use Rattle.glsl_ast.specs.Tree.{Text, Expr, name, literal, LStep}
use Rattle.glsl_ast.specs.declared.expressions.Literal.TheVariants.{Int}
use Rattle.text_rules.specs.Outlines.{basic}
use Rattle.text_rules.specs.Declarations.{spelling, shape_at, type_at}
use Rattle.vec_lowering.specs.Named.{Naming}
use Rattle.vec_lowering.specs.Component.{axis_name}
use Rattle.vec_lowering.specs.Lowered.{lowered_vector}
use Rattle.expr_forward.specs.declared.kinds.OperationKind.{OperationKind}
use Rattle.expr_forward.specs.declared.kinds.OperationKind.TheVariants as of_kind
use Rattle.expr_forward.specs.Context.{operand}
use Rattle.expr_forward.specs.Scope.{Setting, Scope, Argument, globals, inst_at, type_of}
use Rattle.expr_forward.specs.Kinds.{operation_kind_of}
use Rattle.expr_forward.specs.Paths.{word_at, index_expr, vector_size, index_by, step_text, step_type, steps_text, base_text, further, part_step_by, composite_op_in, part_type, part_steps, place_expr}
use Rattle.expr_forward.specs.Values.{argument, value_words, literal_words, whole_argument, by_kind, expression, forwarded, by_form, value_in, value}
use Rattle.spv_index.specs.Pointers.{pointee_of}
use Rattle.write_law.specs.Writes.{StepsWrite}
use Rattle.safe_law.specs.Safe.{IsSafe, AreSafe, HasSafeNames}
use Rattle.safe_law.proofs.SafeScalars.{build_safe}
use Rattle.safe_law.proofs.SafeParts.{AreArguments, lowered_safe, zero_text_safe}

module _ (W : Text → Type 0) where
  abbrev S : Expr → Type 0
  S = IsSafe W

  pub further_safe : (e : Expr) (ss : List LStep) → S e → StepsWrite W ss → S (further e ss)
  further_safe e [] has steps = has
  further_safe e (text.LStep.member m ∷ ss) has steps = further_safe (Expr.member e m) ss has steps
  further_safe e (text.LStep.index i ∷ ss) has steps = further_safe (Expr.index e i) ss (has.0, (has.1, steps.0)) steps.1

  -- steps by literals
  part_writes : (w : Setting) (ty k : ℕ) (o : Op) (ss : List LStep) → StepsWrite W ss → StepsWrite W (part_step_by w ty k o ∷ ss)
  part_writes w ty k o ss rest = by_vector (is o code.TypeVector) (is o code.TypeStruct)
    where
      by_vector : (a b : Bool) → StepsWrite W ((if a then text.LStep.member (axis_name k) else (if b then text.LStep.member (w.key (Member (id ty) k)) else text.LStep.index (literal (Int k)))) ∷ ss)
      by_vector true b = rest
      by_vector false true = rest
      by_vector false false = (tt, rest)

  module _ (w : Setting) (names : HasSafeNames W w) where
    pub index_safe : (n : ℕ) → S (index_expr w n)
    index_safe n = by_global (w.global n) refl
      where
        by_global : (o : Option Expr) → w.global n ≡ o → S (unwrap_or o (name (w.key (Id (id n)))))
        by_global None is = (names.value n, tt)
        by_global (Some e) is = names.read n e is

    index_writes : (size n : ℕ) (o : Option ℕ) (ss : List LStep) → StepsWrite W ss → StepsWrite W (index_by w size n o ∷ ss)
    index_writes size n None ss rest = ((index_safe n).1, rest)
    index_writes size n (Some k) ss rest = by_test (nat_lt k size)
      where
        by_test : (b : Bool) → StepsWrite W ((if b then text.LStep.member (axis_name k) else text.LStep.index (index_expr w n)) ∷ ss)
        by_test true = rest
        by_test false = ((index_safe n).1, rest)

    step_writes : (ty : ℕ) (s : Step) (ss : List LStep) → StepsWrite W ss → StepsWrite W (step_text w ty s ∷ ss)
    step_writes ty (step.Member k) ss rest = rest
    step_writes ty (step.Index n) ss rest = index_writes (vector_size w ty) n.0 (word_at w n.0) ss rest
    step_writes ty (step.Captured chain k) ss rest = (tt, rest)

    steps_write : (ty : ℕ) (ss : List Step) → StepsWrite W (steps_text w ty ss)
    steps_write ty [] = tt
    steps_write ty (s ∷ ss) = step_writes ty s (steps_text w (step_type w ty s) ss) (steps_write (step_type w ty s) ss)

    -- a place, as it is assigned to and as an expression
    pub place_writes : (block n : ℕ) → StepsWrite W (steps_text w (unwrap_or (pointee_of w.source.of.globals w.function (path w.source.of.globals w.function block n).base) 0) (path w.source.of.globals w.function block n).steps)
    place_writes block n = steps_write (unwrap_or (pointee_of w.source.of.globals w.function (path w.source.of.globals w.function block n).base) 0) (path w.source.of.globals w.function block n).steps

    pub place_safe : (block n : ℕ) → S (place_expr w block n)
    place_safe block n = further_safe (name (base_text w (path w.source.of.globals w.function block n).base)) (steps_text w (unwrap_or (pointee_of w.source.of.globals w.function (path w.source.of.globals w.function block n).base) 0) (path w.source.of.globals w.function block n).steps) (names.base (path w.source.of.globals w.function block n).base, tt) (place_writes block n)

    pub parts_write : (ty : ℕ) (ks : List ℕ) → StepsWrite W (part_steps w ty ks)
    parts_write ty [] = tt
    parts_write ty (k ∷ ks) = part_writes w ty k (composite_op_in w.source.of.globals ty) (part_steps w (part_type w ty k) ks) (parts_write (part_type w ty k) ks)

  -- values
  module _ (lowering : Naming) (w : Scope) (names : HasSafeNames W w.setting) (lowered_is : w.lowered ≡ (λ op ext t args literals. lowered_vector lowering op ext t literals (map operand args))) where
    module _ (f : ℕ → Expr) (each : (n : ℕ) → S (f n)) where
      arguments_safe : (ns : List ℕ) → AreArguments W (map operand (map (argument w f) ns))
      arguments_safe [] = tt
      arguments_safe (n ∷ ns) = (each n, arguments_safe ns)

      all_safe : (ns : List ℕ) → AreSafe W (map f ns)
      all_safe [] = tt
      all_safe (n ∷ ns) = (each n, all_safe ns)

      low_safe : (op : Op) (ext : ℕ) (t : Tree) (args : List Argument) (literals : List ℕ) → AreArguments W (map operand args) → S (w.lowered op ext t args literals)
      low_safe op ext t args literals are =
          subst (λ (g : Op → ℕ → Tree → List Argument → List ℕ → Expr). S (g op ext t args literals)) (sym lowered_is) (lowered_safe W lowering op ext t literals (map operand args) are)

      kind_safe : (block : ℕ) (i : Inst) (k : OperationKind) → S (by_kind w f block i k)
      kind_safe block i of_kind.Undef = zero_text_safe W (spelling w.setting.source w.names.id) (shape_at w.setting.source i.ty)
      kind_safe block i of_kind.CopyObject = each (slice_index i.args 0)
      kind_safe block i of_kind.ArrayLength = (tt, ((place_safe w.setting names block (slice_index i.args 0)).1, tt))
      kind_safe block i of_kind.CompositeExtract = further_safe (f (slice_index i.args 0)) (part_steps w.setting (type_of w (slice_index i.args 0)) (drop 1 i.args)) (each (slice_index i.args 0)) (parts_write w.setting names (type_of w (slice_index i.args 0)) (drop 1 i.args))
      kind_safe block i of_kind.CompositeConstruct = build_safe W (type_at w.setting.source w.names i.ty) (map f i.args) (all_safe i.args)
      kind_safe block i of_kind.CopyLogical = low_safe i.op 0 (shape_at w.setting.source i.ty) (whole_argument w f (slice_index i.args 0) ∷ []) [] (each (slice_index i.args 0), tt)
      kind_safe block i of_kind.Extended = low_safe i.op (slice_index i.args 1) (basic (globals w) i.ty) (map (argument w f) (value_words i.op (drop 2 i.args))) (literal_words i.op (drop 2 i.args)) (arguments_safe (value_words i.op (drop 2 i.args)))
      kind_safe block i of_kind.Plain = low_safe i.op 0 (basic (globals w) i.ty) (map (argument w f) (value_words i.op i.args)) (literal_words i.op i.args) (arguments_safe (value_words i.op i.args))
      kind_safe block i of_kind.Other = (names.value i.result, tt)

      pub expression_safe : (block : ℕ) (i : Inst) → S (expression w f block i)
      expression_safe block i = kind_safe block i (operation_kind_of i.op)

    value_in_safe : (block d n : ℕ) → S (value_in w block d n)
    unfolding value_in
    value_in_safe block zero n = (names.value n, tt)
    value_in_safe block (suc d) n = by_global (w.setting.global n) refl (value_in_safe block d)
      where
        by_inst : (o : Option Inst) → ((m : ℕ) → S (value_in w block d m)) → S (forwarded w (value_in w block d) block n o)
        by_inst None each = (names.value n, tt)
        by_inst (Some i) each = expression_safe (value_in w block d) each block i

        by_the_form : (x : Form) → ((m : ℕ) → S (value_in w block d m)) → S (by_form w (value_in w block d) block n x)
        by_the_form Forwarded each = by_inst (inst_at w n) each
        by_the_form Gone each = (names.value n, tt)
        by_the_form Local each = (names.value n, tt)
        by_the_form Hoisted each = (names.value n, tt)

        by_global : (o : Option Expr) → w.setting.global n ≡ o → ((m : ℕ) → S (value_in w block d m)) → S (unwrap_or o (by_form w (value_in w block d) block n (w.form n)))
        by_global (Some e) is each = names.read n e is
        by_global None is each = by_the_form (w.form n) each

    pub value_safe : (block n : ℕ) → S (value w block n)
    value_safe block n = value_in_safe block 17 n
