-- The statements of the blocks of a planned function, and the copies of its edges, keep the flags of its text: they write none.
use Rattle.std.proofs.Common.{◌≡◌, ℕ, Bool, true, false, List, ◌∷◌, Option, Some, None, refl, sym, ap, subst, unwrap_or, if◌then◌else◌}
use Rattle.std.specs.Prelude.{option_and_then}
use Rattle.std.specs.Option.{option_map_or}
use Rattle.spv_decor.specs.Rows.{value_of}
use Rattle.spv_ops.specs.Enumerants.{decoration_number}
use Rattle.spv_ops.specs.declared.BuiltIn.{BuiltIn}
use Rattle.spv_ops.specs.declared.BuiltIn.TheVariants as built
use Rattle.spv_ops.specs.declared.Decoration.TheVariants as decoration
use Rattle.spv_module.specs.State.{ModuleState}
use Rattle.spv_module.specs.Held.{global}
use Rattle.spv_module.specs.Lists.{id}
use Rattle.spv_module.specs.declared.inst.Inst.{Inst}
use Rattle.conformance.specs.Rules.{Options}
use Rattle.name_alloc.specs.declared.claims.Key.TheVariants.{Id, Captured, Spare}
use Rattle.name_alloc.specs.Naming.{name_of}
use Rattle.name_alloc.specs.Reserved.{has_prefix}
use Rattle.glsl_ast.specs.Tree.{Text, TranslationUnit, Expr, name, stmts_in, Decl}
use Rattle.glsl_semantics.specs.States.{State, Thing}
use Rattle.glsl_semantics.specs.Expressions.{Program}
use Rattle.glsl_semantics.specs.Statements.{stmts_run}
use Rattle.glsl_semantics.specs.Run.{calls_of}
use Rattle.glsl_semantics.proofs.Appended.{OnOutcome}
use Rattle.write_law.specs.Writes.{IsWithin}
use Rattle.region_law.proofs.Regions.{names_of, Keeps}
use Rattle.region_law.proofs.FlagsKept.{flags_kept}
use Rattle.text_rules.specs.declared.readings.Reading.{Reading}
use Rattle.text_rules.specs.declared.readings.Reading.TheVariants.{Plain, Named, GroupSize, GroupSizePart}
use Rattle.text_rules.specs.Constants.{Source, is_constant, reading, constant_expr, expr_by, group_size_text}
use Rattle.text_items.specs.Globals.{is_input, built_in_name, built_in_text, global_by}
use Rattle.expr_forward.specs.Scope.{Scope}
use Rattle.expr_forward.specs.Paths.{name_in}
use Rattle.function_text.specs.Functions.{FunctionPlan, blocks_of, copies_text, label_of}
use Rattle.unit_rules.specs.Translation.{Naming, id_text, global_expr, IsPlanOf}
use Rattle.unit_rules.specs.Unit.{source_of, IsUnitOf}
use Rattle.claim_law.specs.Claimed.{IsIn}
use Rattle.claim_law.proofs.Claim.Apart.{size_reserved}
use Rattle.safe_law.specs.Flags.{IsFlag, IsNoFlag}
use Rattle.safe_law.specs.Safe.{IsSafe, HasSafeNames}
use Rattle.safe_law.proofs.Flags.{empty_no_flag, other_no_flag, built_no_flag, planned}
use Rattle.safe_law.proofs.SafeStatements.{as_stmts, block_writes, copies_write}

-- what is built in begins with a reserved prefix
built_prefix : (o : Option BuiltIn) → has_prefix (built_in_name o) ≡ true
unfolding has_prefix
built_prefix (Some built.NumWorkgroups) = refl
built_prefix (Some built.WorkgroupId) = refl
built_prefix (Some built.LocalInvocationId) = refl
built_prefix (Some built.GlobalInvocationId) = refl
built_prefix o = refl

module _ (m : ModuleState) (o : Options) (unit : TranslationUnit) (u : IsUnitOf m o unit) (p : FunctionPlan) (among : IsIn p u.plans) where
  abbrev found : Naming
  found = name_of u.claimed

  abbrev src : Source
  src = source_of m o u.entry

  abbrev W : Text → Type 0
  W = IsNoFlag found

  id_safe : (n : ℕ) → W (id_text found n)
  id_safe n = other_no_flag found u.lawful (Id (id n)) refl refl

  -- what is read of globals
  reading_safe : (g : Inst) (r : Reading) → IsSafe W (expr_by src (id_text found) g r)
  reading_safe g Plain = (tt, tt)
  reading_safe g Named = (id_safe g.result, tt)
  reading_safe g GroupSize = (built_no_flag found u.lawful group_size_text size_reserved, tt)
  reading_safe g (GroupSizePart axis) = (built_no_flag found u.lawful group_size_text size_reserved, tt)

  read_by : (g : Option Inst) (e : Expr) → option_and_then (global_by src (id_text found)) g ≡ Some e → IsSafe W e
  read_by None e is = cc
  read_by (Some g) e is = by_kind (is_constant g) (is_input g) is
    where
      same_expr : (x : Expr) → IsSafe W x → Some x ≡ Some e → IsSafe W e
      same_expr x has same = let one : x ≡ e = cc in subst (IsSafe W) one has

      by_kind : (a b : Bool) → (if a then Some (constant_expr src (id_text found) g) else (if b then Some (name (built_in_text (unwrap_or (value_of m.heads g.result (decoration_number decoration.BuiltIn)) 0))) else None)) ≡ Some e → IsSafe W e
      by_kind true b is = same_expr (constant_expr src (id_text found) g) (reading_safe g (reading src g)) is
      by_kind false true is = same_expr (name (built_in_text (unwrap_or (value_of m.heads g.result (decoration_number decoration.BuiltIn)) 0))) (built_no_flag found u.lawful (built_in_text (unwrap_or (value_of m.heads g.result (decoration_number decoration.BuiltIn)) 0)) (built_prefix _), tt) is
      by_kind false false is = cc

  -- what a pointer leads from
  name_safe : (e : Expr) → IsSafe W e → W (name_in e)
  name_safe (name x) has = has.0
  name_safe e has = empty_no_flag found u.lawful

  base_by : (n : ℕ) (q : Option Expr) → ((e : Expr) → q ≡ Some e → IsSafe W e) → W (option_map_or name_in q (id_text found n))
  base_by n None each = id_safe n
  base_by n (Some e) each = name_safe e (each e refl)

  abbrev plan : IsPlanOf src found (planned m o unit u p among).0 p
  plan = (planned m o unit u p among).1

  names_safe : HasSafeNames W p.scope.setting
  names_safe = subst (λ (w : Scope). HasSafeNames W w.setting) (sym plan.scope_is) (record {
    value = id_safe;
    kept = λ chain k. other_no_flag found u.lawful (Captured chain k) refl refl;
    base = λ n. base_by n (global_expr src (id_text found) n) (λ e is. read_by (global m.globals n) e is);
    read = λ n e is. read_by (global m.globals n) e is;
  })

  -- where the program's own names stand for no variables, and calls are those of the functions before
  module _ (program : Program) (k : ℕ) (items : List Decl) (outside : (w : Text) (x : Thing) → program.things w ≡ Some x → IsWithin W x) where
    pub block_keeps : (b : ℕ) (z : State) (t : List Text) (ns : List (List Text)) → names_of z.frames ≡ t ∷ ns → OnOutcome (Keeps (IsFlag found) z) (stmts_run program (calls_of program k items) k (stmts_in ((blocks_of p).statements b)) z)
    block_keeps b z t ns start =
        flags_kept (IsFlag found) z t ns program k items outside ((blocks_of p).statements b)
        (as_stmts W ((blocks_of p).statements b) (block_writes W found p.scope names_safe (ap (λ (w : Scope). w.lowered) plan.scope_is) b)) start

    pub copies_keep : (b t : ℕ) (z : State) (top : List Text) (ns : List (List Text)) → names_of z.frames ≡ top ∷ ns → OnOutcome (Keeps (IsFlag found) z) (stmts_run program (calls_of program k items) k (stmts_in (copies_text p b t)) z)
    copies_keep b t z top ns start =
        flags_kept (IsFlag found) z top ns program k items outside (copies_text p b t)
        (as_stmts W (copies_text p b t) (copies_write W p names_safe b t (λ j. subst (λ (w : Scope). W (w.setting.key (Spare (label_of p b) (label_of p t) j))) (sym plan.scope_is) (other_no_flag found u.lawful (Spare (label_of p b) (label_of p t) j) refl refl)))) start
