-- What stands outside of functions and has a type is a constant or a variable.
use Rattle.std.proofs.Common.{◌≡◌, ◌==◌, ◌&&◌, ◌||◌, ℕ, Bool, true, false, List, Option, Some, None, unwrap_or, refl, sym, subst, if◌then◌else◌}
use Rattle.std.specs.Prelude.{◌⊎◌}
use Rattle.std.specs.Option.{option_map_or}
use Rattle.std.proofs.lemmas.Bool.{or_cases}
use Rattle.spv_words.specs.Words.{insts}
use Rattle.spv_words.specs.declared.words.Inst1.{Inst1}
use Rattle.spv_ops.specs.Groups.{is_constant}
use Rattle.spv_ops.specs.Opcode.{is, number, op_of}
use Rattle.spv_ops.specs.Shape.{shape}
use Rattle.spv_ops.specs.declared.Op.{Op}
use Rattle.spv_ops.specs.declared.Op.TheVariants as code
use Rattle.spv_module.specs.Inst.{word, has_type, known}
use Rattle.spv_module.specs.Kinds.{is_import, kind_of_op, kind_of_opcode}
use Rattle.spv_module.specs.Lists.{globals}
use Rattle.spv_module.specs.declared.inst.Inst.{Inst}
use Rattle.spv_module.specs.declared.kind.Kind.TheVariants.{Debug, Other}
use Rattle.spv_module.specs.declared.kind.Place.TheVariants.{Outside}
use Rattle.typed_law.specs.Conforms.{BreakNone}
use Rattle.typed_law.proofs.Values.{has_a_type}
use Rattle.typed_law.proofs.Words.{is_global_kind, global_made, conforms}
use Rattle.grammar_law.proofs.Unit.Lists.{as_among}
use Rattle.grammar_law.proofs.Unit.Ways.{HaveKinds}

kind_typed : (o : Op) → is_global_kind (kind_of_op o) ≡ true → has_type o ≡ true → (is_constant o || is o code.Variable) ≡ true
unfolding kind_of_op shape number
kind_typed code.Variable on typed = refl
kind_typed o on typed = cc

kind_at : (n : ℕ) → is_global_kind (kind_of_opcode n) ≡ true → has_type (known n) ≡ true → (is_constant (known n) || is (known n) code.Variable) ≡ true
unfolding kind_of_opcode known
kind_at n on typed = by_op (op_of n) on typed
  where
    by_op : (q : Option Op) → is_global_kind (option_map_or kind_of_op q Other) ≡ true → has_type (unwrap_or q code.Nop) ≡ true → (is_constant (unwrap_or q code.Nop) || is (unwrap_or q code.Nop) code.Variable) ≡ true
    by_op None on typed = cc
    by_op (Some o) on typed = kind_typed o on typed

-- of words that break no rule
pub have_kinds : (ws : List ℕ) (entry : Option (List ℕ)) → BreakNone ws entry → HaveKinds (globals ws)
have_kinds ws entry right g among some =
    let w = global_made ws Outside (insts ws) g (as_among (globals ws) g among) in
    let typed : has_type g.op ≡ true = has_a_type g ((conforms ws entry right).formed g (as_among (globals ws) g among)) some in
    subst (λ (i : Inst). (is_constant i.op ≡ true) ⊎ (is i.op code.Variable ≡ true)) w.2
    (by_kind w.0 ((w.0.opcode == number code.ExtInst) && is_import ws (word ws w.0 3)) w.3 (subst (λ (i : Inst). has_type i.op ≡ true) (sym w.2) typed))
  where
    by_kind : (x : Inst1) (b : Bool) → is_global_kind (if b then Debug else kind_of_opcode x.opcode) ≡ true → has_type (known x.opcode) ≡ true → (is_constant (known x.opcode) ≡ true) ⊎ (is (known x.opcode) code.Variable ≡ true)
    by_kind x true on typed = cc
    by_kind x false on typed = or_cases (is_constant (known x.opcode)) (is (known x.opcode) code.Variable) (kind_at x.opcode on typed)
