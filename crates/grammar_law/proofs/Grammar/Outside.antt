-- Outside of functions stand constants and variables, of what has a type, and nothing with the id of a function, where a module was read.
use Rattle.std.proofs.Common.{◌≡◌, ◌==◌, ◌&&◌, ◌||◌, ℕ, Bool, true, false, List, Option, Some, None, unwrap_or, refl, sym, subst, if◌then◌else◌}
use Rattle.std.specs.Option.{option_map_or}
use Rattle.std.proofs.lemmas.Bool.{or_cases}
use Rattle.spv_words.specs.Words.{words, insts}
use Rattle.spv_words.specs.declared.words.Inst1.{Inst1}
use Rattle.spv_ops.specs.Opcode.{is, number, op_of}
use Rattle.spv_ops.specs.Shape.{shape}
use Rattle.spv_ops.specs.Groups.{is_constant as is_constant_op}
use Rattle.spv_ops.specs.declared.Op.{Op}
use Rattle.spv_ops.specs.declared.Op.TheVariants as code
use Rattle.spv_module.specs.State.{ModuleState}
use Rattle.spv_module.specs.Inst.{word, has_type, known, inst_of}
use Rattle.spv_module.specs.Kinds.{kind_of_op, kind_of_opcode, kind_of, is_import}
use Rattle.spv_module.specs.Held.{global}
use Rattle.spv_module.specs.Lists.{globals_from, functions}
use Rattle.spv_module.specs.declared.kind.Kind.TheVariants.{Debug, Other}
use Rattle.spv_module.specs.declared.kind.Place.TheVariants.{Outside}
use Rattle.spv_module.specs.declared.inst.Inst.{Inst}
use Rattle.spv_module.specs.declared.inst.Function.{Function}
use Rattle.conformance.specs.Rules.{Options}
use Rattle.module_check.specs.Judged.{IsFine}
use Rattle.module_check.specs.ReadFrom.{IsReadFrom}
use Rattle.typed_law.specs.Conforms.{IsConforming}
use Rattle.typed_law.proofs.Values.{has_a_type}
use Rattle.typed_law.proofs.Words.{is_global_kind, global_made, functions_outside}
use Rattle.accepted_law.proofs.Accepted.{break_none}
use Rattle.claim_law.specs.Claimed.{IsIn}
use Rattle.grammar_law.proofs.Unit.Lists.{contained, as_among}
use Rattle.grammar_law.proofs.Unit.Ways.{HaveKinds}

abbrev is_known : Op → Bool
is_known o = is_constant_op o || is o code.Variable

known_op : (q : Option Op) → is_global_kind (option_map_or kind_of_op q Other) ≡ true → has_type (unwrap_or q code.Nop) ≡ true → is_known (unwrap_or q code.Nop) ≡ true
unfolding kind_of_op shape number
known_op None e typed = cc
known_op (Some code.Variable) e typed = refl
known_op (Some o) e typed = cc

module _ (ws : List ℕ) (x : Inst1) where
  known_inst : is_global_kind (kind_of ws x) ≡ true → has_type (inst_of ws x).op ≡ true → is_known (inst_of ws x).op ≡ true
  unfolding kind_of_opcode known
  known_inst e typed = by_test ((x.opcode == number code.ExtInst) && is_import ws (word ws x 3)) e
    where
      by_test : (b : Bool) → is_global_kind (if b then Debug else kind_of_opcode x.opcode) ≡ true → is_known (unwrap_or (op_of x.opcode) code.Nop) ≡ true
      by_test true e = cc
      by_test false e = known_op (op_of x.opcode) e typed

pub have_kinds : (bytes : List ℕ) (m : ModuleState) (entry : Option (List ℕ)) → IsReadFrom bytes m → IsConforming m entry → HaveKinds m.globals
have_kinds bytes m entry read right g g_in some = or_cases (is_constant_op g.op) (is g.op code.Variable) (all g g_in (has_a_type g (right.formed g (as_among m.globals g g_in)) some))
  where
    all : (g : Inst) → IsIn g m.globals → has_type g.op ≡ true → is_known g.op ≡ true
    all = subst (λ (n : ModuleState). (g : Inst) → IsIn g n.globals → has_type g.op ≡ true → is_known g.op ≡ true) (sym read.made)
        (λ g g_in typed. (let w = global_made (words bytes) Outside (insts (words bytes)) g (as_among (globals_from (words bytes) Outside (insts (words bytes))) g g_in) in
        subst (λ (h : Inst). is_known h.op ≡ true) w.2 (known_inst (words bytes) w.0 w.3 (subst (λ (h : Inst). has_type h.op ≡ true) (sym w.2) typed))))

-- no function's id is that of what stands there
pub functions_apart : (bytes : List ℕ) (m : ModuleState) (o : Options) → IsReadFrom bytes m → IsFine m o → (f : Function) → IsIn f m.functions → global m.globals f.id.0 ≡ None
functions_apart bytes m o read fine =
    subst (λ (n : ModuleState). (f : Function) → IsIn f n.functions → global n.globals f.id.0 ≡ None) (sym read.made)
    (λ f f_in. functions_outside (words bytes) o.entry (break_none bytes m o read fine) f (contained (functions (words bytes)) f f_in))
